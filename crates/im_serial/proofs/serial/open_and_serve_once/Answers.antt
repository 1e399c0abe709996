use Rattle.std.proofs.Common.{Bool, ap, ◌∙◌, subst, ap₂, inr}
use Rattle.im_session.specs.Kept.{SessionState}
use Rattle.im_text.specs.{declared.Lines.Lines, declared.Style.Style, Said.Output, Said.output, Said.output_by}
use Rattle.im_serial.{proofs.OnceLemmas.ready_of, specs.Once.ServedOnce}
use Rattle.im_serial.proofs.serial.open_and_serve_once.Goals as goal

pub serve_once_on-requires : goal.serve_once_on-requires
serve_once_on-requires g c =
    let n = c.new-server in
    let e = c.in-Ok-open.ensures in
    record {
      nothing = ready_of c.in-Ok-open.session n.result.session (g.W.Write.contents c.args.out.now)
          c.in-Ok.desk.lines n.result.lines n.result.waited.items n.result.places.marks.items n.result.bases.items
          e.fresh e.works n.ensures.memory c.in-Ok.ensures.pending n.ensures.waited n.ensures.bases n.ensures.session
          n.ensures.lines;
    }

pub returns-in-Ok-open-clause-served : goal.returns-in-Ok-open-clause-served
returns-in-Ok-open-clause-served g c = λ honest.
    let script = c.args.styled.now.script.now in
    let was = g.W.Write.contents c.args.out.now in
    let is = g.W.Write.contents c.serve_once_on.new.out in
    let r = c.serve_once_on.result in
    let n = c.new-server in
    inr (subst (λ (d : g.row.D.Denot). ServedOnce g.D.Disk script d r.1 (output c.args.styled.now.style was) (is, r.2)
    r.0)
    (ap (λ (s : SessionState g.row.D.Denot). s.start.disk) n.ensures.session ∙ c.in-Ok-open.ensures.opened)
    (subst (λ (o : Output). ServedOnce g.D.Disk script n.result.session.start.disk r.1 o (is, r.2) r.0)
    (ap (λ (l : Lines). output_by l was) n.ensures.lines ∙ ap₂ (λ (s : Style) (f : Bool). record {
      style = s;
      held = was;
      faulted = f;
    }) c.in-Ok.ensures.style c.in-Ok.ensures.faulted) c.serve_once_on.ensures.served))

pub returns-in-Ok-open-clause-honest : goal.returns-in-Ok-open-clause-honest
returns-in-Ok-open-clause-honest g c = λ honest.
    let it = c.serve_once_on.ensures.served in
    subst g.D.Disk.honest
    (ap (λ (s : SessionState g.row.D.Denot). s.start.disk) c.new-server.ensures.session ∙ c.in-Ok-open.ensures.opened)
    (subst g.D.Disk.honest it.opened (it.kept.honest (subst g.D.Disk.honest it.closed honest)))
