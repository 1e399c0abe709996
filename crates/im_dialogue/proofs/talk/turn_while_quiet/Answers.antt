use Rattle.std.proofs.Common.{refl, ◌∙◌, rules}
use Rattle.im_session.proofs.RoomLemmas.{rests_then}
use Rattle.im_dialogue.proofs.TalkLemmas.{taken_more, taken_none}
use Rattle.im_dialogue.proofs.talk.turn_while_quiet.Goals as goal

pub loop-turn-init : goal.loop-turn-init
loop-turn-init g c =
    (taken_none c.args.front.now.session, refl, λ enough. refl, λ ready. refl, refl, refl)

pub returns-in-Idle-clause-turned : goal.returns-in-Idle-clause-turned
returns-in-Idle-clause-turned g c = taken_more c.args.front.now.session c.loop-turn.front.session
    c.turn.new.self.session c.turn.result c.in-Ok.done c.loop-turn.invariant.0 c.turn.ensures.same.rests
    c.turn.ensures.answered c.in-Ok.is

pub returns-in-Idle-clause-same : goal.returns-in-Idle-clause-same
returns-in-Idle-clause-same g c = record {
  rests = rests_then c.args.front.now.session c.loop-turn.front.session c.turn.new.self.session
      c.loop-turn.invariant.0.rests c.turn.ensures.same.rests;
  asked = c.turn.ensures.same.asked ∙ c.loop-turn.invariant.1;
}

pub returns-in-Err-clause-same : goal.returns-in-Err-clause-same
returns-in-Err-clause-same g c = record {
  rests = rests_then c.args.front.now.session c.loop-turn.front.session c.turn.new.self.session
      c.loop-turn.invariant.0.rests c.turn.ensures.same.rests;
  asked = c.turn.ensures.same.asked ∙ c.loop-turn.invariant.1;
}

pub loop-turn-preserved : goal.loop-turn-preserved
loop-turn-preserved g c = (
  taken_more c.args.front.now.session c.loop-turn.front.session c.turn.new.self.session c.turn.result c.in-Ok.done
      c.loop-turn.invariant.0 c.turn.ensures.same.rests c.turn.ensures.answered c.in-Ok.is,
  c.turn.ensures.same.asked ∙ c.loop-turn.invariant.1,
  search rules,
  search rules,
  search rules,
  search rules,
)
