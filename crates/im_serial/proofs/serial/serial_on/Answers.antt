use Rattle.std.proofs.Common.{Bool, subst, ap₂, inr}
use Rattle.im_text.specs.{declared.Style.Style, Said.Output, Said.output}
use Rattle.im_serial.specs.Serving.{ServedScript}
use Rattle.im_serial.proofs.serial.serial_on.Goals as goal

pub returns-in-Ok-open-clause-served : goal.returns-in-Ok-open-clause-served
returns-in-Ok-open-clause-served g c = λ honest.
    let script = c.args.styled.now.script.now in
    let was = g.W.Write.contents c.args.out.now in
    let is = g.W.Write.contents c.serve_on.new.out in
    let r = c.serve_on.result in
    inr (subst (λ (d : g.row.D.Denot). ServedScript g.D.Disk script d r.1 (output c.args.styled.now.style was) (is, r.2)
    r.0) c.in-Ok-open.ensures.opened
    (subst (λ (o : Output). ServedScript g.D.Disk script c.in-Ok-open.session.start.disk r.1 o (is, r.2) r.0)
    (ap₂ (λ (s : Style) (f : Bool). record { style = s; held = was; faulted = f }) c.in-Ok.ensures.style
    c.in-Ok.ensures.faulted) c.serve_on.ensures.served))

pub returns-in-Ok-open-clause-honest : goal.returns-in-Ok-open-clause-honest
returns-in-Ok-open-clause-honest g c = λ honest.
    let it = c.serve_on.ensures.served in
    subst g.D.Disk.honest c.in-Ok-open.ensures.opened
    (subst g.D.Disk.honest it.opened (it.kept.honest (subst g.D.Disk.honest it.closed honest)))
