use Rattle.std.proofs.Common.{Some, refl, ap}
use Rattle.im_dialogue.proofs.TalkLemmas.{quiet}
use Rattle.im_dialogue.specs.declared.asking.Question.TheVariants as asks
use Rattle.im_dialogue.specs.declared.answers.LineAnswer.TheVariants as answer
use Rattle.im_dialogue.proofs.talk.window.Goals as goal

pub returns-clause-answered : goal.returns-clause-answered
returns-clause-answered g c =
    let told = rw c.engine.ensures.state at c.window.ensures.answer in
    quiet c.args.front.now.session (Some (asks.Window c.args.element)) (answer.Window c.args.element c.window.result)
    (λ m. refl) (λ f turns. ap (λ r. answer.Window c.args.element r) (told f))

pub returns-clause-same : goal.returns-clause-same
returns-clause-same g c = λ m. refl
