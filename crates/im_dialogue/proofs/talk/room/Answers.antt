use Rattle.std.proofs.Common.{Some, refl, ap, ◌∙◌}
use Rattle.im_engine.specs.State.{EngineState}
use Rattle.im_dialogue.proofs.TalkLemmas.{quiet}
use Rattle.im_dialogue.specs.declared.asking.Question.TheVariants as asks
use Rattle.im_dialogue.specs.declared.answers.LineAnswer.TheVariants as answer
use Rattle.im_dialogue.proofs.talk.room.Goals as goal

pub returns-clause-answered : goal.returns-clause-answered
returns-clause-answered g c = quiet c.args.front.now.session (Some asks.Room) (answer.Room c.room.result) (λ m. refl)
    (λ f turns. ap (λ r. answer.Room r)
    (c.room.ensures ∙ ap (λ (e : EngineState _). e.room) c.engine.ensures.state))

pub returns-clause-room : goal.returns-clause-room
returns-clause-room g c =
    ap (λ r. answer.Room r) (c.room.ensures ∙ ap (λ (e : EngineState _). e.room) c.engine.ensures.state)
