use Rattle.std.proofs.Common.{ℕ, ◌+◌, ◌*◌, List, ◌∷◌, sym, refl, ap, subst}
use Rattle.{im_pages.proofs.SetLemmas.step_in, im_pages.specs.PageSets.pages_from, im_image.specs.Headers.seen}
use Rattle.im_checkpoint.proofs.{Copies.IsPageFor, PageLists.kept_left, PageLists.mark_left}
use Rattle.im_checkpoint.proofs.Moments.{page_done, page_leaves, page_now}
use Rattle.im_checkpoint.specs.{Keeping.IsKept, Keeping.Paged, Step.CheckpointState, Step.PagesLeft, Step.Step}
use Rattle.im_checkpoint.proofs.checkpoint.Checkpoint.write_page.Goals as goal

pub returns-in-Err-clause-keeps : goal.returns-in-Err-clause-keeps
returns-in-Err-clause-keeps g c = λ h m j kept.
    let e = c.self.inside in
    let x : Paged =
    record { recent = e.recent; older = e.older; copies = e.copies; records = c.args.memory.now.records } in
    let mark = mark_left c.args.self.now (seen e.header) e.step e.count
    (pages_from e.next e.left) e.recent e.older e.copies c.self.view_is c.requires.step.step in
    let rest : List ℕ = pages_from (e.next + 1) e.left in
    let at : CheckpointState = record {
      header = seen e.header;
      step = PagesLeft e.count
          (e.next ∷ pages_from (e.next + 1) e.left);
    } in
    let before : IsKept at x m j (g.D.Disk.now c.args.disk.now) =
    subst (λ (l : List ℕ). IsKept (record { header = seen e.header; step = PagesLeft e.count l }) x m j
    (g.D.Disk.now c.args.disk.now))
    (step_in e.left e.next (c.self.invariant.next_low mark) (c.self.invariant.next_left mark))
    (kept_left c.args.self.now (seen e.header) e.step e.count
    (pages_from e.next e.left) e.recent e.older e.copies c.self.view_is c.args.memory.now m j
    (g.D.Disk.now c.args.disk.now) kept c.requires.step.step) in
    let page : IsPageFor (seen e.header).sizes x e.next c.page_for.new.page = record {
      copy = λ yes. c.page_for.ensures.copy yes;
      fresh = λ no. c.page_for.ensures.fresh no;
    } in
    let at_is = ap (λ (n : ℕ). n + 4096 * e.next) c.area_at.ensures.at in
    record {
      leaves = record {
        within = page_leaves at x m j
            (g.D.Disk.now c.args.disk.now) before e.count e.next rest refl c.page_for.new.page c.page_for.array_long
            page _ at_is (g.D.Disk.past c.args.disk.now) (g.D.Disk.now c.write_at.new.self)
            (g.D.Disk.past c.write_at.new.self) (c.write_at.ensures.moment h);
        after = page_now at x m j
            (g.D.Disk.now c.args.disk.now) before e.count e.next rest refl c.page_for.new.page c.page_for.array_long
            page _ at_is (g.D.Disk.past c.args.disk.now) (g.D.Disk.now c.write_at.new.self)
            (g.D.Disk.past c.write_at.new.self) (c.write_at.ensures.moment h);
      };
      kept = tt;
    }

pub returns-clause-keeps : goal.returns-clause-keeps
returns-clause-keeps g c = λ h m j kept.
    let e = c.self.inside in
    let x : Paged =
    record { recent = e.recent; older = e.older; copies = e.copies; records = c.args.memory.now.records } in
    let mark = mark_left c.args.self.now (seen e.header) e.step e.count
    (pages_from e.next e.left) e.recent e.older e.copies c.self.view_is c.requires.step.step in
    let rest : List ℕ = pages_from (e.next + 1) e.left in
    let at : CheckpointState = record {
      header = seen e.header;
      step = PagesLeft e.count
          (e.next ∷ pages_from (e.next + 1) e.left);
    } in
    let before : IsKept at x m j (g.D.Disk.now c.args.disk.now) =
    subst (λ (l : List ℕ). IsKept (record { header = seen e.header; step = PagesLeft e.count l }) x m j
    (g.D.Disk.now c.args.disk.now))
    (step_in e.left e.next (c.self.invariant.next_low mark) (c.self.invariant.next_left mark))
    (kept_left c.args.self.now (seen e.header) e.step e.count
    (pages_from e.next e.left) e.recent e.older e.copies c.self.view_is c.args.memory.now m j
    (g.D.Disk.now c.args.disk.now) kept c.requires.step.step) in
    let page : IsPageFor (seen e.header).sizes x e.next c.page_for.new.page = record {
      copy = λ yes. c.page_for.ensures.copy yes;
      fresh = λ no. c.page_for.ensures.fresh no;
    } in
    let at_is = ap (λ (n : ℕ). n + 4096 * e.next) c.area_at.ensures.at in
    record {
      leaves = record {
        within = page_leaves at x m j
            (g.D.Disk.now c.args.disk.now) before e.count e.next rest refl c.page_for.new.page c.page_for.array_long
            page _ at_is (g.D.Disk.past c.args.disk.now) (g.D.Disk.now c.write_at.new.self)
            (g.D.Disk.past c.write_at.new.self) (c.write_at.ensures.moment h);
        after = page_now at x m j
            (g.D.Disk.now c.args.disk.now) before e.count e.next rest refl c.page_for.new.page c.page_for.array_long
            page _ at_is (g.D.Disk.past c.args.disk.now) (g.D.Disk.now c.write_at.new.self)
            (g.D.Disk.past c.write_at.new.self) (c.write_at.ensures.moment h);
      };
      kept = subst (λ (s : Step). IsKept (record { header = seen e.header; step = s }) x m j
          (g.D.Disk.now c.write_at.new.self)) (sym (c.next_left-step.ensures.step e.count))
          (page_done at x m j
          (g.D.Disk.now c.args.disk.now) before e.count e.next rest refl c.page_for.new.page c.page_for.array_long page
          _ at_is (g.D.Disk.past c.args.disk.now) (g.D.Disk.now c.write_at.new.self)
          (g.D.Disk.past c.write_at.new.self) (c.write_at.ensures.moment h) (c.in_default.ensures.tick h).now);
    }
