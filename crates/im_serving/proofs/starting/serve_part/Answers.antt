use Rattle.std.proofs.Common.{subst}
use Rattle.im_serving.{proofs.ElementLemmas.has_stopped, specs.Elements.Deeds, specs.Elements.HasStopped}

pub returns-clause-stopped : Rattle.im_serving.proofs.starting.serve_part.Goals.returns-clause-stopped
returns-clause-stopped g c =
    let new = c.serve_element-done.new in
    let said = c.serve_element-done.ensures.done in
    let was = c.server.inside in
    let start : Deeds = record {
      port = was.port;
      served = was.served;
      last = was.glances.last;
      seen = was.glances.glance;
      made =
          was.glances.made.items;
    } in
    let left : Deeds = record {
      port = new.port;
      served = new.served;
      last = new.glances.last;
      seen = new.glances.glance;
      made =
          new.glances.made.items;
    } in
    subst (λ (p : Deeds). HasStopped g.K.Name.origin.memory g.K.Name.origin.marks p
    (record { deeds = left; result = c.serve_element-done.result }) new.outlet) c.server.view_is
    (has_stopped g.K.Name.origin.memory g.K.Name.origin.marks start
    (record { deeds = left; result = c.serve_element-done.result }) c.args.outlet.items new.outlet c.requires.empty
    said.element said.first said.begun said.done said.ended said.seen said.alone)
