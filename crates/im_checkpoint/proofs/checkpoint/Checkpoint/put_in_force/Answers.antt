use Rattle.std.proofs.Common.{ℕ, ◌-◌, List, sym, subst}
use Rattle.{im_types.specs.Types.Header, im_types.specs.Types.IsBoundary, im_pages.specs.PageSets.pages_from}
use Rattle.{im_journal.specs.Holding.Holds, im_journal.specs.Holding.JournalState, im_image.specs.Headers.seen}
use Rattle.im_checkpoint.proofs.PageLists.{kept_synced}
use Rattle.im_checkpoint.specs.{Keeping.IsKept, Keeping.Paged, Step.NoCheckpoint, Turns.begun_at}
use Rattle.im_checkpoint.proofs.checkpoint.Checkpoint.put_in_force.Goals as goal

pub returns-in-Err-clause-keeps : goal.returns-in-Err-clause-keeps
returns-in-Err-clause-keeps g c = λ h n m kept.
    let e = c.self.inside in
    let before = kept_synced c.args.self.now (seen e.header) e.step e.count
    (pages_from e.next e.left) e.recent e.older e.copies c.self.view_is n m c.args.journal.now
    (g.D.Disk.now c.args.disk.now) kept c.requires.ready.step in
    record {
      leaves = c.open_next.ensures.leaves h
          (seen e.header) e.count _ m c.args.journal.now c.next_header-next.ensures.next before;
      kept = tt;
    }

pub returns-clause-keeps : goal.returns-clause-keeps
returns-clause-keeps g c = λ h n m kept.
    let e = c.self.inside in
    let x : Paged = record { recent = e.recent; older = e.older; copies = e.copies; records = n.records } in
    let before = kept_synced c.args.self.now (seen e.header) e.step e.count
    (pages_from e.next e.left) e.recent e.older e.copies c.self.view_is n m c.args.journal.now
    (g.D.Disk.now c.args.disk.now) kept c.requires.ready.step in
    let later : (file : List ℕ) → Holds c.args.journal.now file
    → IsBoundary c.args.journal.now.ring c.args.journal.now.first (e.count - c.args.journal.now.first) file
    → Holds (begun_at e.count c.args.journal.now) file = λ file held boundary. subst
    (λ (k : JournalState). Holds k file) c.begin_later.ensures.state
    (c.begin_later.ensures.holds file held boundary) in
    record {
      leaves = c.open_next.ensures.leaves h
          (seen e.header) e.count _ m c.args.journal.now c.next_header-next.ensures.next before;
      kept = subst (λ (k : JournalState). IsKept
          (record { header = seen c.next_header-next.result; step = NoCheckpoint }) x m k
          (g.D.Disk.now c.open_next.new.disk)) (sym c.begin_later.ensures.state)
          (subst (λ (y : Header). IsKept (record { header = y; step = NoCheckpoint }) x m
          (begun_at e.count c.args.journal.now) (g.D.Disk.now c.open_next.new.disk))
          (sym c.next_header-next.ensures.next)
          (c.in_default.ensures.kept h
          (seen e.header) e.count x m c.args.journal.now c.next_header-next.ensures.next before later));
    }
