use Rattle.std.proofs.Common.{◌≡◌, ℕ, List, ◌++◌, map, length, sym, refl, ap, ◌∙◌, subst}
use Rattle.im_types.specs.Types.{Line, Contents, shown_by}
use Rattle.{im_engine.specs.State.EngineState, im_session.specs.Serving.served_answer, im_trace.specs.Log.LogState}
use Rattle.im_queue.specs.Members.{AreFreeFor, AreSureBehind}
use Rattle.im_controller.proofs.AdmitLemmas.{admit-sure, keeps-members}
use Rattle.im_controller.proofs.KeptLemmas.{session_group, times_at, times_on}
use Rattle.im_controller.proofs.Lending.{group-ends, group-fits, group-is, group-keeps, group-pane, group-planned}
use Rattle.im_controller.proofs.Lending.{group-trace, lends-group}
use Rattle.im_controller.proofs.{PlannedLemmas.keeps-starts, PutLemmas.all-trace, ShownLemmas.end-cells}
use Rattle.im_controller.specs.Admitted.{Admits, free_lines, places_with}
use Rattle.im_controller.specs.Groups.{changes_put_all, LendsGroup, memory_after_all, with_all_unclaimed}
use Rattle.im_controller.specs.{Kept.IsSessionOf, Kept.KeepsSince, Planned.KeepsTo, State.SharedState}
use Rattle.im_controller.proofs.groups.lend_group.Goals as goal

pub admit-lent-requires : goal.admit-lent-requires
admit-lent-requires g c = rw c.as_slice.ensures.value (record {
  cells = c.shared.invariant.2 ∙ sym (end-cells g.K.Name.origin.memory c.shared.inside.log.state.trace)
      ∙ ap (λ (m : Contents). length m.cells) c.shared.invariant.0
      ∙ ap (λ (x : EngineState g.row.D.Denot). length x.memory.cells) (sym c.engine-engine.ensures.state);
  fits = rw c.as_slice.ensures.value at c.as_slice.ensures.fits;
  apart = c.requires.apart;
  free = subst (λ (s : SharedState g.row.D.Denot). AreFreeFor s.log.places c.args.members.now.items)
      (sym c.shared.view_is) c.requires.free;
})

pub serve_members-requires : goal.serve_members-requires
serve_members-requires g c = record {
  sure = admit-sure c.shared.inside.plan c.shared.inside.session.engine c.shared.inside.log.state
      c.as_slice.result.now c.admit-lent.result.items c.admit-lent.new.log.state
      (subst (λ (x : EngineState g.row.D.Denot). Admits c.shared.inside.plan x c.shared.inside.log.state
      c.as_slice.result.now c.admit-lent.result.items c.admit-lent.new.log.state) c.engine-engine.ensures.state
      c.admit-lent.ensures.admits)
      (rw c.as_slice.ensures.value (subst
      (λ (s : SharedState g.row.D.Denot). AreSureBehind s.session.engine.memory c.args.members.now.items)
      (sym c.shared.view_is) c.requires.sure));
  empty = c.new-served.ensures;
}

pub keep_all-requires : goal.keep_all-requires
keep_all-requires g c =
    let m = g.K.Name.origin.memory in let plan = g.K.Name.origin.plan in
    let s : SharedState g.row.D.Denot = record {
      session = c.shared.inside.session;
      log = c.shared.inside.log.state;
      servers = c.shared.inside.servers;
      shown = c.shared.inside.pane.shown;
    } in
    let t = c.serve_members.new.session in let e = s.session.engine in let f = t.engine in
    let mid = c.admit-lent.new.log in let members = c.args.members.now.items in
    let lent = c.admit-lent.result.items in let ss = c.serve_members.new.served.items in
    let room = c.room-room.result in
    let it = group-is plan c.shared.inside.plan s c.args.shared.now c.engine-engine.result.now f
    c.memory-memory.result.now.contents mid.state members c.as_slice.result.now lent ss room c.shared.view_is
    c.engine-engine.ensures.state c.admit-lent.ensures.admits c.shared.invariant.7 c.as_slice.ensures.value
    c.serve_members.ensures.answered c.room-room.ensures.room c.room-room.ensures.few c.memory-memory.ensures
    c.cells-cells.ensures.memory.agrees c.requires.cut c.requires.apart c.requires.sure c.requires.free
    c.requires.room in
    let k = group-keeps plan s f mid.state members lent ss room it m c.shared.invariant.0 in
    rw (c.as_slice-2.ensures.value, c.as_slice-3.ensures.value)
    (record { whole = k.whole; are_so = k.are_so; apart = k.apart; free = k.free; room = k.room_for })

pub invariant_of-shared : goal.invariant_of-shared
invariant_of-shared g c =
    let k = g.K.Name.origin in let m = k.memory in let plan = k.plan in
    let s : SharedState g.row.D.Denot = record {
      session = c.shared.inside.session;
      log = c.shared.inside.log.state;
      servers = c.shared.inside.servers;
      shown = c.shared.inside.pane.shown;
    } in
    let t = c.serve_members.new.session in let e = s.session.engine in let f = t.engine in
    let mid = c.admit-lent.new.log in let members = c.args.members.now.items in
    let lent = c.admit-lent.result.items in let ss = c.serve_members.new.served.items in
    let room = c.room-room.result in
    let it = group-is plan c.shared.inside.plan s c.args.shared.now c.engine-engine.result.now f
    c.memory-memory.result.now.contents mid.state members c.as_slice.result.now lent ss room c.shared.view_is
    c.engine-engine.ensures.state c.admit-lent.ensures.admits c.shared.invariant.7 c.as_slice.ensures.value
    c.serve_members.ensures.answered c.room-room.ensures.room c.room-room.ensures.few c.memory-memory.ensures
    c.cells-cells.ensures.memory.agrees c.requires.cut c.requires.apart c.requires.sure c.requires.free
    c.requires.room in
    let p = c.shared.inside.pane in
    let ahead = c.admit-lent.ensures.ahead ∙ ap (λ (x : EngineState g.row.D.Denot). record p {
      ahead = p.ahead ++ changes_put_all x.memory (places_with x (free_lines s.log)) lent;
    }) c.engine-engine.ensures.state in
    let failed = c.failed.ensures.failed
    ∙ ap (λ (x : EngineState g.row.D.Denot). x.failed) c.engine-after.ensures.state in
    let pane = group-pane plan s f mid.state members lent ss room it m p c.admit-lent.new.pane c.show_put-told.new.pane
    c.failed.result c.shared.invariant.0 c.shared.invariant.1 c.shared.invariant.3 ahead failed
    c.show_put-told.ensures.shown c.show_put-told.ensures.hidden in
    let log = c.keep_all.ensures.log
    ∙ ap (λ rs. with_all_unclaimed mid.state rs (map served_answer c.as_slice-3.result.now)) c.as_slice-2.ensures.value
    ∙ ap (λ xs. with_all_unclaimed mid.state lent (map served_answer xs)) c.as_slice-3.ensures.value in
    let fits = group-fits plan s f mid.state members lent ss room it in
    let same = group-trace plan s f mid.state members lent ss room it in
    let ends = group-ends plan s f mid.state members lent ss room it m c.shared.invariant.0 in
    let on = group-planned plan s f mid.state members lent ss room it m
    (keeps-starts m plan c.shared.inside.log.state.trace c.shared.invariant.8) in
    let lines = ap (λ (l : LogState). l.trace) log ∙ all-trace mid.state lent (map served_answer ss) in
    let done = c.serve_members.ensures in
    let was = subst (λ (ls : List Line). IsSessionOf g.D.Disk k ls s.session) (sym same) c.shared.invariant.4 in
    let next = session_group g.D.Disk k mid.state.trace s.session t was done.keeps c.keep_all.new.log.state.trace lent
    ss ends lines room done.answered done.put on in (
      c.keep_all.ensures.end ∙ rw (c.as_slice-2.ensures.value, c.as_slice-3.ensures.value)
          (ap (λ n. memory_after_all n lent (map served_answer ss)) ends ∙ fits.ends),
      pane.shown_is ∙ ap (λ (l : LogState). shown_by m l.trace) (sym log),
      pane.cells ∙ c.shared.invariant.2,
      pane.ahead,
      next,
      (λ honest.
          let before = subst (λ (ts : List ℕ). KeepsSince g.D.Disk k mid.state.trace ts s.session)
          (sym c.admit-lent.ensures.times)
          (subst (λ (ls : List Line). KeepsSince g.D.Disk k ls c.shared.inside.log.times s.session) (sym same)
          (c.shared.invariant.5 (done.keeps.honest honest))) in
          times_at g.D.Disk k (length (g.D.Disk.past c.disk.result.now)) mid c.keep_all.new.log t
          (ap (λ d. length (g.D.Disk.past d))
          (c.disk.ensures ∙ ap (λ (x : EngineState g.row.D.Denot). x.disk) c.engine-after.ensures.state))
          c.keep_all.ensures.times c.engine-after.ensures.kept next honest
          (times_on g.D.Disk k mid.state.trace mid.times s.session t was done.keeps honest before)),
      c.shared.invariant.6,
      c.shared.invariant.7,
      subst (λ (ls : List Line). KeepsTo m plan ls) (sym lines)
          (keeps-members m plan e f lent ss mid.state.trace
          (subst (λ (ls : List Line). KeepsTo m plan ls) (sym same) c.shared.invariant.8)
          room done.answered on),
    )

pub returns : goal.returns
returns g c =
    let m = g.K.Name.origin.memory in let plan = g.K.Name.origin.plan in
    let s : SharedState g.row.D.Denot = record {
      session = c.shared.inside.session;
      log = c.shared.inside.log.state;
      servers = c.shared.inside.servers;
      shown = c.shared.inside.pane.shown;
    } in
    let t = c.serve_members.new.session in let e = s.session.engine in let f = t.engine in
    let mid = c.admit-lent.new.log in let members = c.args.members.now.items in
    let lent = c.admit-lent.result.items in let ss = c.serve_members.new.served.items in
    let room = c.room-room.result in
    let it = group-is plan c.shared.inside.plan s c.args.shared.now c.engine-engine.result.now f
    c.memory-memory.result.now.contents mid.state members c.as_slice.result.now lent ss room c.shared.view_is
    c.engine-engine.ensures.state c.admit-lent.ensures.admits c.shared.invariant.7 c.as_slice.ensures.value
    c.serve_members.ensures.answered c.room-room.ensures.room c.room-room.ensures.few c.memory-memory.ensures
    c.cells-cells.ensures.memory.agrees c.requires.cut c.requires.apart c.requires.sure c.requires.free
    c.requires.room in
    let p = c.shared.inside.pane in
    let ahead = c.admit-lent.ensures.ahead ∙ ap (λ (x : EngineState g.row.D.Denot). record p {
      ahead = p.ahead ++ changes_put_all x.memory (places_with x (free_lines s.log)) lent;
    }) c.engine-engine.ensures.state in
    let failed = c.failed.ensures.failed
    ∙ ap (λ (x : EngineState g.row.D.Denot). x.failed) c.engine-after.ensures.state in
    let pane = group-pane plan s f mid.state members lent ss room it m p c.admit-lent.new.pane c.show_put-told.new.pane
    c.failed.result c.shared.invariant.0 c.shared.invariant.1 c.shared.invariant.3 ahead failed
    c.show_put-told.ensures.shown c.show_put-told.ensures.hidden in
    let log = c.keep_all.ensures.log
    ∙ ap (λ rs. with_all_unclaimed mid.state rs (map served_answer c.as_slice-3.result.now)) c.as_slice-2.ensures.value
    ∙ ap (λ xs. with_all_unclaimed mid.state lent (map served_answer xs)) c.as_slice-3.ensures.value in
    let s' : SharedState g.row.D.Denot = record {
      session = t;
      log = c.keep_all.new.log.state;
      servers = c.shared.inside.servers;
      shown = c.show_put-told.new.pane.shown;
    } in
    record {
      lends = subst (λ (u : SharedState g.row.D.Denot). LendsGroup g.D.Disk plan u members s') c.shared.view_is
          (lends-group plan s f mid.state members lent ss room it g.D.Disk s' refl c.serve_members.ensures.put
          c.serve_members.ensures.keeps c.serve_members.ensures.few log refl pane.alive pane.dead);
    }
