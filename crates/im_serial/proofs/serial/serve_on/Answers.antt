use Rattle.std.proofs.Common.{Bool, [], length, Some, sym, ap, ◌∙◌, subst}
use Rattle.{im_engine.specs.State.EngineState, im_text.proofs.PrintingLemmas.on_ok_by}
use Rattle.im_session.specs.Kept.{SessionStart, SessionState}
use Rattle.im_text.specs.{declared.Lines.Lines, Said.nows, Said.output_by, Said.PrintsMore, Said.PrintsNows}
use Rattle.im_serial.proofs.ScriptedLemmas.{as_of, closed, ends_served, going_first}
use Rattle.im_serial.specs.Asked.{standing, wanted_of, whole_course}
use Rattle.im_serial.specs.Serving.{EndedAt, GoingAt, ServedScript, server_of}

pub returns-clause-served : Rattle.im_serial.proofs.serial.serve_on.Goals.returns-clause-served
returns-clause-served g c =
    let was = c.args.session in
    let held = output_by c.args.desk.lines (g.W.Write.contents c.args.out.now) in
    let script = wanted_of c.args.script.now in
    let course = whole_course script in
    let n = c.new-server in
    let first = going_first script was n.result.session held.held c.args.desk.lines n.result.lines n.result.waited.items
    n.result.places.marks.items n.result.bases.items c.requires.fresh c.requires.works n.ensures.memory
    c.requires.pending n.ensures.waited n.ensures.bases n.ensures.session n.ensures.lines in
    let s = c.serve-served in
    let l = c.learn_all in
    let v = c.leave-session in
    let t = v.result.0 in
    let sessions = v.ensures.session ∙ c.tell-told.ensures.session ∙ l.ensures.session in
    let from = g.W.Write.contents s.new.out in
    let mid = g.W.Write.contents c.tell-told.new.out in
    let is = g.W.Write.contents c.finish-status.new.out in
    let w = s.new.self.waited.items in
    let bases = s.new.self.bases.items in
    let marks = s.new.self.places.marks.items in
    let ended = as_of (λ (x : SessionState g.row.D.Denot) (y : Lines). EndedAt was.start held (Some course) (server_of
    x from y w marks)) s.new.self.session t s.new.self.lines l.new.self.lines sessions l.ensures.lines
    (s.ensures.served.ends was.start held (Some course) [] first) in
    let begun = ended.over.start_is in
    let failed = ap (λ (e : EngineState g.row.D.Denot). e.failed) (sym c.engine.ensures.state)
    ∙ sym c.failed-failed.ensures.failed in
    subst (λ (x : SessionStart g.row.D.Denot). ServedScript g.D.Disk c.args.script.now x.disk c.close.result held
    (is, c.faulted.result) c.status_at.result) begun
    (subst (λ (f : Bool). ServedScript g.D.Disk c.args.script.now t.start.disk c.close.result held (is, f)
    c.status_at.result) (sym c.faulted.ensures)
    (closed g.D.Disk c.args.script.now bases t c.close.result c.status_at.result from mid is held l.new.self.lines
    v.result.1 c.finish-status.new.lines w l.new.self.waited.items marks c.close.ensures.kept
    c.close.ensures.state (λ zero. failed ∙ c.status_at.ensures.works zero)
    (subst (λ (x : SessionStart g.row.D.Denot). EndedAt x held (Some course) (server_of t from l.new.self.lines w
    marks)) (sym begun) ended)
    (λ zero. subst (λ (x : SessionStart g.row.D.Denot). GoingAt x held (standing (Some course) bases [])
    (server_of t from l.new.self.lines w marks)) (sym begun)
    (as_of (λ (x : SessionState g.row.D.Denot) (y : Lines). GoingAt was.start held (standing (Some course) bases [])
    (server_of x from y w marks)) s.new.self.session t s.new.self.lines l.new.self.lines sessions l.ensures.lines
    (ends_served s.result script _ _ _ _ s.ensures.served (c.both.ensures.served
    (c.finish-status.ensures.whole (c.status_at.ensures.status zero)).0) was.start held (Some course) [] first)))
    l.ensures.names (λ m put same known. l.ensures.last m put
    (ap (λ (x : SessionState g.row.D.Denot). x.engine.memory) (sym sessions) ∙ same) known)
    (subst (λ (x : Lines). PrintsNows from l.new.self.lines mid x l.new.self.waited.items)
    (sym v.ensures.lines) c.tell-told.ensures.some)
    (λ zero. subst (λ (x : Lines). PrintsMore from l.new.self.lines mid x (nows l.new.self.waited.items (length
    l.new.self.waited.items))) (sym v.ensures.lines) (on_ok_by c.tell-told.result _ c.tell-told.ensures.all
    (c.both.ensures.told (c.finish-status.ensures.whole (c.status_at.ensures.status zero)).0)))
    c.finish-status.ensures.last (λ zero. (c.finish-status.ensures.whole (c.status_at.ensures.status zero)).1)))
