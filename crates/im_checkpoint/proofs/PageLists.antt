-- The fields of a checkpoint as its state.
use Rattle.std.proofs.Common.{◌≡◌, ℕ, Bool, false, List, [], ◌∷◌, length, replicate, sym, refl, ap, ◌∙◌, subst}
use Rattle.{im_types.specs.Types.Contents, im_types.specs.Types.Header, im_pages.specs.PageSets.union}
use Rattle.{im_disk.specs.Moment.Moment, im_journal.specs.Holding.JournalState, im_memory.specs.State.MemoryState}
use Rattle.im_checkpoint.specs.{declared.checkpoint.Phase.Phase, Keeping.IsKept, Keeping.paged}
use Rattle.im_checkpoint.specs.declared.checkpoint.Phase.TheVariants.{NoCheckpoint as None_yet}
use Rattle.im_checkpoint.specs.declared.checkpoint.Phase.TheVariants.{PagesDone as All_written, PagesLeft as Some_left}
use Rattle.im_checkpoint.specs.declared.checkpoint.Phase.TheVariants.{Synced as On_disk}
use Rattle.im_checkpoint.specs.Step.{IsPagesDone, IsPagesLeft, IsSynced, left_in, NoCheckpoint, PagedCheckpoint}
use Rattle.im_checkpoint.specs.Step.{pages_step, PagesDone, PagesLeft, Step, step_by_phase, Synced}

-- a set with no page adds none
pub union_none : (set : List Bool) → union (replicate (length set) false) set ≡ set
union_none [] = refl
union_none (b ∷ set) = ap (λ (l : List Bool). b ∷ l) (union_none set)

pub left_with : (count : ℕ) (left : List ℕ) → left_in (pages_step count left) ≡ left
left_with count [] = refl
left_with count (page ∷ left) = refl

-- what a checkpoint's fields stand for
abbrev pub view_of : Header → Phase → ℕ → List ℕ → List Bool → List Bool → List (List ℕ) → PagedCheckpoint
view_of h p count left recent older copies =
    record {
      state = record { header = h; step = step_by_phase p count left };
      recent = recent;
      older = older;
      copies = copies;
    }

module _ (s : PagedCheckpoint) (h : Header) (p : Phase) (count : ℕ) (left : List ℕ) (recent older : List Bool)
    (copies : List (List ℕ)) (view : view_of h p count left recent older copies ≡ s) where
  step_is : s.state.step ≡ step_by_phase p count left
  step_is = sym (ap (λ (x : PagedCheckpoint). x.state.step) view)

  pub mark_left : IsPagesLeft s.state.step → p ≡ Some_left
  mark_left is = by_mark p (subst IsPagesLeft step_is is)
    where
      by_mark : (q : Phase) → IsPagesLeft (step_by_phase q count left) → q ≡ Some_left
      by_mark None_yet it = absurd it
      by_mark Some_left it = refl
      by_mark All_written it = absurd it
      by_mark On_disk it = absurd it

  pub mark_done : IsPagesDone s.state.step → p ≡ All_written
  mark_done is = by_mark p (subst IsPagesDone step_is is)
    where
      by_mark : (q : Phase) → IsPagesDone (step_by_phase q count left) → q ≡ All_written
      by_mark None_yet it = absurd it
      by_mark Some_left it = absurd it
      by_mark All_written it = refl
      by_mark On_disk it = absurd it

  pub mark_synced : IsSynced s.state.step → p ≡ On_disk
  mark_synced is = by_mark p (subst IsSynced step_is is)
    where
      by_mark : (q : Phase) → IsSynced (step_by_phase q count left) → q ≡ On_disk
      by_mark None_yet it = absurd it
      by_mark Some_left it = absurd it
      by_mark All_written it = absurd it
      by_mark On_disk it = refl

  mark_none : s.state.step ≡ NoCheckpoint → p ≡ None_yet
  mark_none is = by_mark p (subst IsNone step_is (subst IsNone (sym is) tt))
    where
      IsNone : Step → Type 0
      IsNone NoCheckpoint = Unit {0}
      IsNone (PagesLeft n l) = ⊥
      IsNone (PagesDone n) = ⊥
      IsNone (Synced n) = ⊥

      by_mark : (q : Phase) → IsNone (step_by_phase q count left) → q ≡ None_yet
      by_mark None_yet it = refl
      by_mark Some_left it = absurd it
      by_mark All_written it = absurd it
      by_mark On_disk it = absurd it

  pub step_left : IsPagesLeft s.state.step → s.state.step ≡ PagesLeft count left
  step_left is = step_is ∙ ap (λ (q : Phase). step_by_phase q count left) (mark_left is)

  pub step_done : IsPagesDone s.state.step → s.state.step ≡ PagesDone count
  step_done is = step_is ∙ ap (λ (q : Phase). step_by_phase q count left) (mark_done is)

  pub step_synced : IsSynced s.state.step → s.state.step ≡ Synced count
  step_synced is = step_is ∙ ap (λ (q : Phase). step_by_phase q count left) (mark_synced is)

  pub header_is : h ≡ s.state.header
  header_is = ap (λ (x : PagedCheckpoint). x.state.header) view

  -- the invariant, of the fields
  module _ (n : MemoryState) (m : Contents) (j : JournalState) (now : Moment)
      (kept : IsKept s.state (paged s n) m j now) where
    kept_fields : (q : Phase) → p ≡ q
        → IsKept (record { header = h; step = step_by_phase q count left })
        (record { recent = recent; older = older; copies = copies; records = n.records }) m j now
    kept_fields q is = subst
        (λ (q : Phase). IsKept (record { header = h; step = step_by_phase q count left })
        (record { recent = recent; older = older; copies = copies; records = n.records }) m j now) is
        (subst (λ (x : PagedCheckpoint). IsKept x.state (paged x n) m j now) (sym view) kept)

    pub kept_none : s.state.step ≡ NoCheckpoint
        → IsKept (record { header = h; step = NoCheckpoint })
        (record { recent = recent; older = older; copies = copies; records = n.records }) m j now
    kept_none is = kept_fields None_yet (mark_none is)

    pub kept_left : IsPagesLeft s.state.step
        → IsKept (record { header = h; step = PagesLeft count left })
        (record { recent = recent; older = older; copies = copies; records = n.records }) m j now
    kept_left is = kept_fields Some_left (mark_left is)

    pub kept_done : IsPagesDone s.state.step
        → IsKept (record { header = h; step = PagesDone count })
        (record { recent = recent; older = older; copies = copies; records = n.records }) m j now
    kept_done is = kept_fields All_written (mark_done is)

    pub kept_synced : IsSynced s.state.step
        → IsKept (record { header = h; step = Synced count })
        (record { recent = recent; older = older; copies = copies; records = n.records }) m j now
    kept_synced is = kept_fields On_disk (mark_synced is)
