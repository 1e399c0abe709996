use Rattle.std.proofs.Common.{◌≡◌}
use Rattle.im_turning.specs.Turning.{HasTurned, point_of}
use Rattle.im_session.specs.Serving.{Rests}

abbrev pub invariant-loop-turn : Rattle.im_session.proofs.session.Session.make_room.Given.invariant-loop-turn
invariant-loop-turn g l = Rests l.fn.self l.self × (l.self.engine.failed ≡ l.fn.self.engine.failed)
    × HasTurned l._turn (point_of l.fn.self.engine) (point_of l.self.engine)
