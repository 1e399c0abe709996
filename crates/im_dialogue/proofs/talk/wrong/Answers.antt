use Rattle.std.proofs.Common.{None, refl}
use Rattle.im_dialogue.proofs.TalkLemmas.{quiet}
use Rattle.im_dialogue.specs.declared.answers.LineAnswer.TheVariants as answer

pub returns-clause-answered : Rattle.im_dialogue.proofs.talk.wrong.Goals.returns-clause-answered
returns-clause-answered g c = quiet c.args.front.now.session None (answer.Wrong c.args.number c.args.fault) (λ m. refl)
    (λ f turns. (c.args.number, (c.args.fault, refl)))
