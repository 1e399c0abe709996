use Rattle.std.proofs.Common.{refl}
use Rattle.im_session.proofs.RoomLemmas.{broken}
use Rattle.im_dialogue.proofs.TalkLemmas.{rests_halts, turn_says}
use Rattle.im_dialogue.proofs.talk.turn.Goals as goal

pub returns-in-Ok-clause-answered : goal.returns-in-Ok-clause-answered
returns-in-Ok-clause-answered g c = turn_says c.args.front.now.session c.turn.new.self.session c.turn.result
    c.in-Ok.done c.turn.ensures.same.rests c.turn.ensures.answered c.in-Ok.is

pub returns-in-Err-clause-answered : goal.returns-in-Err-clause-answered
returns-in-Err-clause-answered g c =
    rests_halts c.args.front.now.session c.turn.new.self.session c.turn.ensures.same.rests

pub returns-in-Err-clause-refused : goal.returns-in-Err-clause-refused
returns-in-Err-clause-refused g c = broken c.args.front.now.session.engine c.turn.new.self.session.engine
    c.turn.result c.in-Err.refusal c.turn.ensures.answered c.in-Err.is

pub returns-in-Ok-clause-same : goal.returns-in-Ok-clause-same
returns-in-Ok-clause-same g c = λ m. refl
