use Rattle.std.proofs.Common.{Bool, ap, ◌∙◌, ap₂}
use Rattle.{im_session.specs.Kept.SessionState, im_serial.proofs.OnceLemmas.ready_of}
use Rattle.im_text.specs.{declared.Lines.Lines, declared.Style.Style, Said.output_by}
use Rattle.im_run.proofs.opening.open_server.Goals as goal

pub returns-in-Ok-open-clause-nothing : goal.returns-in-Ok-open-clause-nothing
returns-in-Ok-open-clause-nothing g c =
    let n = c.new-server in
    let e = c.in-Ok-open.ensures in
    ready_of c.in-Ok-open.session n.result.session (g.W.Write.contents c.args.out.now) c.in-Ok.desk.lines n.result.lines
    n.result.waited.items n.result.places.marks.items n.result.bases.items e.fresh e.works n.ensures.memory
    c.in-Ok.ensures.pending n.ensures.waited n.ensures.bases n.ensures.session n.ensures.lines

pub returns-in-Ok-open-clause-opened : goal.returns-in-Ok-open-clause-opened
returns-in-Ok-open-clause-opened g c = ap (λ (s : SessionState g.row.D.Denot). s.start.disk)
    c.new-server.ensures.session ∙ c.in-Ok-open.ensures.opened

pub returns-in-Ok-open-clause-output : goal.returns-in-Ok-open-clause-output
returns-in-Ok-open-clause-output g c =
    let was = g.W.Write.contents c.args.out.now in
    ap (λ (l : Lines). output_by l was) c.new-server.ensures.lines
    ∙ ap₂ (λ (s : Style) (f : Bool). record { style = s; held = was; faulted = f }) c.in-Ok.ensures.style
    c.in-Ok.ensures.faulted
