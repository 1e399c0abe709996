use Rattle.std.proofs.Common.{◌≡◌, ◌≤◌, true}
use Rattle.im_dialogue.specs.Talk.{OnlyTurned}

abbrev pub invariant-loop-turn : Rattle.im_dialogue.proofs.talk.turn_while_quiet.Given.invariant-loop-turn
invariant-loop-turn g l = OnlyTurned l.fn.front.session l.front.session × (l.front.asked ≡ l.fn.front.asked)
    × (l.fn.least ≤ l.fn.front.session.engine.room → l.front ≡ l.fn.front)
    × (g.E.Ear.is_ready l.fn.ear ≡ true → l.front ≡ l.fn.front)
    × (g.E.Ear.is_ready l.ear ≡ g.E.Ear.is_ready l.fn.ear)
    × (g.E.Read.remaining l.ear ≡ g.E.Read.remaining l.fn.ear)
