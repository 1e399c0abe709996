use Rattle.std.proofs.Common.{ap}
use Rattle.im_engine.{proofs.Together.counted_by, specs.State.EngineState}

pub returns-clause-known : Rattle.im_engine.proofs.engine.Engine.places.Goals.returns-clause-known
returns-clause-known g c = counted_by c.self.inside.journal c.places_in.ensures.known c.args.self.now
    (ap (λ (s : EngineState g.row.D.Denot). s.count) c.self.view_is)
    (ap (λ (s : EngineState g.row.D.Denot). s.room) c.self.view_is)
