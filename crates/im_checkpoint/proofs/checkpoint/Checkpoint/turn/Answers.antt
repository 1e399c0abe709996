use Rattle.std.proofs.Common.{◌+◌, ◌*◌, sym, ap, ◌∙◌, subst, rules}
use Rattle.{im_types.specs.Types.Header, im_pages.proofs.SetLemmas.step_in, im_pages.specs.PageSets.pages_from}
use Rattle.{im_disk.specs.Gate.IsClosed, im_meaning.specs.Images.other, im_image.specs.Headers.seen}
use Rattle.im_checkpoint.proofs.Fitting.{comes_in_force, comes_page, comes_rest, comes_synced, once_more}
use Rattle.im_checkpoint.proofs.PageLists.{header_is, kept_synced, mark_left, step_done, step_left, step_synced}
use Rattle.im_checkpoint.{proofs.Turning.other_closed, specs.declared.checkpoint.Phase.Phase}
use Rattle.im_checkpoint.specs.Step.{IsPagesDone, IsPagesLeft, IsSynced, PagedCheckpoint, PagesLeft, step_by_phase}
use Rattle.im_checkpoint.proofs.checkpoint.Checkpoint.turn.Goals as goal

pub returns-in-NoCheckpoint-clause-turned : goal.returns-in-NoCheckpoint-clause-turned
returns-in-NoCheckpoint-clause-turned g c =
    let e = c.self.inside in
    let is = ap (λ (s : PagedCheckpoint). s.state.step) (sym c.self.view_is)
    ∙ ap (λ (p : Phase). step_by_phase p e.count (pages_from e.next e.left)) c.in-NoCheckpoint.is in
    once_more c.rest.result c.rest.ensures.turned (λ answer it.
    comes_rest c.args.self.now c.args.journal.now c.args.memory.now.contents answer c.rest.new.self c.rest.new.journal
    it.0 it.1 c.requires.fits is)

pub returns-in-PagesLeft-clause-turned : goal.returns-in-PagesLeft-clause-turned
returns-in-PagesLeft-clause-turned g c =
    let e = c.self.inside in
    let is : IsPagesLeft c.args.self.now.state.step = search rules in
    let mark = mark_left c.args.self.now (seen e.header) e.step e.count
    (pages_from e.next e.left) e.recent e.older e.copies c.self.view_is is in
    let step = step_left c.args.self.now (seen e.header) e.step e.count
    (pages_from e.next e.left) e.recent e.older e.copies c.self.view_is is
    ∙ ap (PagesLeft e.count)
    (step_in e.left e.next (c.self.invariant.next_low mark) (c.self.invariant.next_left mark)) in
    once_more c.write_page.result c.write_page.ensures.turned (λ answer it.
    comes_page c.args.self.now c.args.journal.now c.args.memory.now.contents answer c.write_page.new.self
    c.args.journal.now (it.0 c.args.journal.now) it.1 c.requires.fits e.count e.next
    (pages_from (e.next + 1) e.left) step)

pub returns-in-PagesLeft-clause-keeps : goal.returns-in-PagesLeft-clause-keeps
returns-in-PagesLeft-clause-keeps g c =
    λ h. c.write_page.ensures.keeps h c.args.memory.now.contents c.args.journal.now
    (c.requires.kept (c.write_page.ensures.runs.honest h))

pub returns-in-PagesDone-clause-turned : goal.returns-in-PagesDone-clause-turned
returns-in-PagesDone-clause-turned g c =
    let e = c.self.inside in
    let is : IsPagesDone c.args.self.now.state.step = search rules in
    once_more c.sync_pages.result c.sync_pages.ensures.turned (λ answer it.
    comes_synced c.args.self.now c.args.journal.now c.args.memory.now.contents answer c.sync_pages.new.self
    c.args.journal.now (it.0 c.args.journal.now) it.1 c.requires.fits e.count
    (step_done c.args.self.now (seen e.header) e.step e.count
    (pages_from e.next e.left) e.recent e.older e.copies c.self.view_is is))

pub returns-in-PagesDone-clause-keeps : goal.returns-in-PagesDone-clause-keeps
returns-in-PagesDone-clause-keeps g c =
    λ h. c.sync_pages.ensures.keeps h c.args.memory.now c.args.memory.now.contents c.args.journal.now
    (c.requires.kept (c.sync_pages.ensures.runs.honest h))

pub put_in_force-requires-clause-closed : goal.put_in_force-requires-clause-closed
put_in_force-requires-clause-closed g c = λ h.
    let e = c.self.inside in
    let is : IsSynced c.args.self.now.state.step = search rules in
    subst (λ (y : Header). IsClosed (4096 * other y) 64 (g.D.Disk.now c.args.disk.now))
    (header_is c.args.self.now (seen e.header) e.step e.count
    (pages_from e.next e.left) e.recent e.older e.copies c.self.view_is)
    (other_closed (seen e.header) e.count _ c.args.memory.now.contents c.args.journal.now (g.D.Disk.now c.args.disk.now)
    (kept_synced c.args.self.now (seen e.header) e.step e.count
    (pages_from e.next e.left) e.recent e.older e.copies c.self.view_is c.args.memory.now c.args.memory.now.contents
    c.args.journal.now (g.D.Disk.now c.args.disk.now) (c.requires.kept h) is))

pub returns-in-Synced-clause-turned : goal.returns-in-Synced-clause-turned
returns-in-Synced-clause-turned g c =
    let e = c.self.inside in
    let is : IsSynced c.args.self.now.state.step = search rules in
    once_more c.put_in_force.result c.put_in_force.ensures.turned (λ answer it.
    comes_in_force c.args.self.now c.args.journal.now c.args.memory.now.contents answer c.put_in_force.new.self
    c.put_in_force.new.journal it.0 it.1 c.requires.fits e.count
    (step_synced c.args.self.now (seen e.header) e.step e.count
    (pages_from e.next e.left) e.recent e.older e.copies c.self.view_is is))

pub returns-in-Synced-clause-keeps : goal.returns-in-Synced-clause-keeps
returns-in-Synced-clause-keeps g c = λ h. c.put_in_force.ensures.keeps h c.args.memory.now c.args.memory.now.contents
    (c.requires.kept (c.put_in_force.ensures.runs.honest h))
