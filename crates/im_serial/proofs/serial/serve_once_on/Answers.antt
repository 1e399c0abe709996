use Rattle.std.proofs.Common.{Bool, length, sym, ap, ◌∙◌, subst}
use Rattle.{im_engine.specs.State.EngineState, im_text.proofs.PrintingLemmas.on_ok_by}
use Rattle.im_session.specs.Kept.{SessionStart, SessionState}
use Rattle.im_text.specs.{declared.Lines.Lines, Said.nows, Said.output_by, Said.PrintsMore, Said.PrintsNows}
use Rattle.im_serial.proofs.{OnceLemmas.closed_once, ScriptedLemmas.as_of}
use Rattle.im_serial.specs.{Asked.wanted_of, Once.DoneOnce, Once.EndedOnce, Once.ServedOnce, Serving.server_of}

pub returns-clause-served : Rattle.im_serial.proofs.serial.serve_once_on.Goals.returns-clause-served
returns-clause-served g c =
    let held = output_by c.args.server.lines (g.W.Write.contents c.args.out.now) in
    let script = wanted_of c.args.script.now in
    let start = c.args.server.session.start in
    let s = c.serve_once-served in
    let served = s.ensures.served c.requires.nothing in
    let l = c.learn_all in
    let v = c.leave-session in
    let t = v.result.0 in
    let sessions = v.ensures.session ∙ c.tell-told.ensures.session ∙ l.ensures.session in
    let from = g.W.Write.contents s.new.out in
    let mid = g.W.Write.contents c.tell-told.new.out in
    let is = g.W.Write.contents c.finish-status.new.out in
    let w = s.new.self.waited.items in
    let marks = s.new.self.places.marks.items in
    let ended = as_of (λ (x : SessionState g.row.D.Denot) (y : Lines). EndedOnce start script held (server_of x from y w
    marks)) s.new.self.session t s.new.self.lines l.new.self.lines sessions l.ensures.lines served.0 in
    let begun = ended.over.start_is in
    let failed = ap (λ (e : EngineState g.row.D.Denot). e.failed) (sym c.engine.ensures.state)
    ∙ sym c.failed-failed.ensures.failed in
    subst (λ (x : SessionStart g.row.D.Denot). ServedOnce g.D.Disk c.args.script.now x.disk c.close.result held
    (is, c.faulted.result) c.status_at.result) begun
    (subst (λ (f : Bool). ServedOnce g.D.Disk c.args.script.now t.start.disk c.close.result held (is, f)
    c.status_at.result) (sym c.faulted.ensures)
    (closed_once g.D.Disk c.args.script.now t c.close.result c.status_at.result from mid is held l.new.self.lines
    v.result.1 c.finish-status.new.lines w l.new.self.waited.items marks c.close.ensures.kept
    c.close.ensures.state (λ zero. failed ∙ c.status_at.ensures.works zero)
    (subst (λ (x : SessionStart g.row.D.Denot). EndedOnce x script held (server_of t from l.new.self.lines w marks))
    (sym begun) ended)
    (λ zero. subst (λ (x : SessionStart g.row.D.Denot). DoneOnce x script held (server_of t from l.new.self.lines w
    marks)) (sym begun)
    (as_of (λ (x : SessionState g.row.D.Denot) (y : Lines). DoneOnce start script held (server_of x from y w marks))
    s.new.self.session t s.new.self.lines l.new.self.lines sessions l.ensures.lines
    (on_ok_by s.result _ served.1 (c.both.ensures.served
    (c.finish-status.ensures.whole (c.status_at.ensures.status zero)).0))))
    l.ensures.names (λ m put same known. l.ensures.last m put
    (ap (λ (x : SessionState g.row.D.Denot). x.engine.memory) (sym sessions) ∙ same) known)
    (subst (λ (x : Lines). PrintsNows from l.new.self.lines mid x l.new.self.waited.items)
    (sym v.ensures.lines) c.tell-told.ensures.some)
    (λ zero. subst (λ (x : Lines). PrintsMore from l.new.self.lines mid x (nows l.new.self.waited.items (length
    l.new.self.waited.items))) (sym v.ensures.lines) (on_ok_by c.tell-told.result _ c.tell-told.ensures.all
    (c.both.ensures.told (c.finish-status.ensures.whole (c.status_at.ensures.status zero)).0)))
    c.finish-status.ensures.last (λ zero. (c.finish-status.ensures.whole (c.status_at.ensures.status zero)).1)))
