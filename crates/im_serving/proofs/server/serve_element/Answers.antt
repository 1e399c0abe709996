use Rattle.std.proofs.Common.{sym, subst}
use Rattle.im_controller.specs.State.{PortState}
use Rattle.im_serving.specs.{Elements.deeds_of, Elements.ServesOn, Told.TellsEarlier}

pub returns : Rattle.im_serving.proofs.server.serve_element.Goals.returns
returns g c =
    let s = c.serve_to_end-done in
    record {
      done = subst (λ (p : PortState). ServesOn g.K.Name.origin.memory g.K.Name.origin.marks
          (deeds_of c.args.port.now c.args.served.now c.args.glances.now) (deeds_of p s.new.served s.new.glances)
          s.result c.args.outlet.now s.new.outlet) (sym c.retire.ensures.same) s.ensures.done;
      told = subst (λ (p : PortState). TellsEarlier c.args.port.now.history p.history c.args.port.now.element
          c.args.served.now s.new.served (g.T.Teller.told c.args.context.now.teller)
          (g.T.Teller.told s.new.context.teller)) (sym c.retire.ensures.same) s.ensures.told;
    }
