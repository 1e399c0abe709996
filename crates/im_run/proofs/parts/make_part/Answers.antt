use Rattle.std.proofs.Common.{refl, ap}
use Rattle.im_controller.specs.Lines.{LineCounts}
use Rattle.im_run.{proofs.DoingLemmas.part_made, specs.Orders.ask_of}

pub returns : Rattle.im_run.proofs.parts.make_part.Goals.returns
returns g c = part_made g.K.Name.origin.memory (ask_of c.args.order) _ c.in-Ok-port.ensures.found.0 refl refl
    c.new-2.ensures.items c.in-Ok.ensures.found.0 c.in-Ok.ensures.found.1 c.in-Ok.ensures.none
    (ap (λ (t : LineCounts). t.marked) c.in-Ok-port.ensures.found.1)
