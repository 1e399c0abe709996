use Rattle.std.proofs.Common.{Some, refl, ap, ◌∙◌}
use Rattle.im_engine.specs.State.{EngineState}
use Rattle.im_dialogue.proofs.TalkLemmas.{quiet}
use Rattle.im_dialogue.specs.declared.asking.Question.TheVariants as asks
use Rattle.im_dialogue.specs.declared.answers.LineAnswer.TheVariants as answer
use Rattle.im_dialogue.proofs.talk.count.Goals as goal

pub returns-clause-answered : goal.returns-clause-answered
returns-clause-answered g c = quiet c.args.front.now.session (Some asks.Count) (answer.Count c.count.result) (λ m. refl)
    (λ f turns. ap (λ n. answer.Count n)
    (c.count.ensures ∙ ap (λ (e : EngineState _). e.count) c.engine.ensures.state))

pub returns-clause-same : goal.returns-clause-same
returns-clause-same g c = λ m. refl
