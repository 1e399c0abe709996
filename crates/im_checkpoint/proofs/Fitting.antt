-- After a turn the memory and the journal are still those of the checkpoint's image, and a checkpoint has a turn less
-- to go.
use Rattle.std.proofs.Common.{◌≡◌, ℕ, zero, suc, ◌+◌, ◌<◌, ◌≤◌, Bool, true, false, ◌&&◌, ◌⊎◌, List, [], ◌∷◌, length}
use Rattle.std.proofs.Common.{IfOk, nat_lt, Ok, Err, Result, sym, refl, ap, ◌∙◌, subst, inl, inr, ⊎_elim, arith}
use Rattle.std.proofs.lemmas.Bool.Decides.{nat_tests}
use Rattle.im_types.specs.Types.{Contents, Header}
use Rattle.{im_laws.proofs.Tests.true_or_false, im_pages.specs.PageSets.pages_from}
use Rattle.im_journal.specs.Holding.{JournalState, to_sweep, with_room}
use Rattle.im_checkpoint.specs.declared.checkpoint.TurnDone.{TurnDone}
use Rattle.im_checkpoint.specs.Keeping.{ComesTo, Fits, IsBetween, KeepsAhead, StepFits}
use Rattle.im_checkpoint.specs.Step.{changed_in, CheckpointState, IsUnderWay, NoCheckpoint, PagedCheckpoint, pages_step}
use Rattle.im_checkpoint.specs.Step.{PagesDone, PagesLeft, Step, Synced, turns_left}
use Rattle.im_checkpoint.specs.Turns.{begun_at, is_due, Moved, next_header, Turned}

-- where a call is done, what follows from it
pub once_more : {T E : Type 0} {P Q : T → Type 0} (r : Result T E) → IfOk r P → ((x : T) → P x → Q x) → IfOk r Q
once_more (Ok x) p then = then x p
once_more (Err e) p then = tt

by_left : (h : Header) (j : JournalState) (count : ℕ) (left : List ℕ) → IsBetween h j count
    → StepFits h j (pages_step count left)
by_left h j count [] between = between
by_left h j count (page ∷ left) between = between

pub turns_with : (count : ℕ) (left : List ℕ) → turns_left (pages_step count left) ≡ length left + 2
turns_with count [] = omega arith
turns_with count (page ∷ left) = refl

one_less : (n turns : ℕ) → turns ≡ n + 2 → suc n + 2 ≡ turns + 1
one_less n turns is = omega (arith, is)

due_before : (a b : ℕ) (c : Bool) → (nat_lt a b && c) ≡ true → a ≤ b
due_before a b c is = by_test (nat_lt a b) c is (λ yes. grind (arith, nat_tests, yes))
  where
    by_test : (x c : Bool) → (x && c) ≡ true → (x ≡ true → a ≤ b) → a ≤ b
    by_test true c is then = then refl
    by_test false c is then = absurd (cc)

pub none_or_some : (n : ℕ) → (n ≡ 0) ⊎ (0 < n)
none_or_some zero = inl refl
none_or_some (suc n) = inr (omega arith)

-- with so much room more they are as well
pub room_fits : (c : CheckpointState) (m : Contents) (j : JournalState) (n : ℕ) → Fits c m j → Fits c m (with_room j n)
room_fits c m j n it = record {
  cells = it.cells;
  elements = it.elements;
  ring = it.ring;
  first = it.first;
  step = by_step c.step it.step;
}
  where
    by_step : (s : Step) → StepFits c.header j s → StepFits c.header (with_room j n) s
    by_step NoCheckpoint fits = tt
    by_step (PagesLeft count left) fits = record { from = fits.from; to = fits.to }
    by_step (PagesDone count) fits = record { from = fits.from; to = fits.to }
    by_step (Synced count) fits = record { from = fits.from; to = fits.to }

-- what is ahead of a journal stays
ahead_same : (j k : JournalState) → k ≡ j → KeepsAhead j k
ahead_same j k is = (ap (λ (x : JournalState). x.ahead) is, omega (arith, ap (λ (x : JournalState). x.room) is))

ahead_with_room : (j k : JournalState) (n : ℕ) → k ≡ with_room j n → KeepsAhead j k
ahead_with_room j k n is = (ap (λ (x : JournalState). x.ahead) is, omega (arith, ap (λ (x : JournalState). x.room) is))

ahead_begun : (j k : JournalState) (count : ℕ) → k ≡ begun_at count j → KeepsAhead j k
ahead_begun j k count is = (ap (λ (x : JournalState). x.ahead) is, omega (arith, ap (λ (x : JournalState). x.room) is))

module _ (before : PagedCheckpoint) (j : JournalState) (m : Contents) (answer : TurnDone) (after : PagedCheckpoint)
    (k : JournalState) (turned : Turned before.state j answer after.state k)
    (moved : Moved (changed_in before) answer after.state.step (changed_in after))
    (fits : Fits before.state m j) where
  abbrev old : CheckpointState
  old = before.state

  abbrev new : CheckpointState
  new = after.state

  -- of the same header
  with_step : (s : Step) → StepFits old.header j s → new ≡ record { header = old.header; step = s } → k ≡ j
      → Fits new m k
  with_step s step_is is same = subst (λ (x : CheckpointState). Fits x m k) (sym is)
      (subst (λ (x : JournalState). Fits (record { header = old.header; step = s }) m x) (sym same) (record {
        cells = fits.cells;
        elements = fits.elements;
        ring = fits.ring;
        first = fits.first;
        step = step_is;
      }))

  -- no checkpoint is under way
  module _ (is : old.step ≡ NoCheckpoint) where
    comes : k.count ≡ j.count → KeepsAhead j k → Fits new m k → ComesTo before j m answer after k
    comes same ahead it = record {
      turned = turned;
      moved = moved;
      nearer = λ under. absurd (subst IsUnderWay is under);
      count = same;
      ahead = ahead;
      fits = it;
    }

    comes_swept : 0 < to_sweep j → ComesTo before j m answer after k
    comes_swept some = let row = turned.swept is some in
        comes (ap (λ (x : JournalState). x.count) row.2) (ahead_with_room j k _ row.2)
        (subst (λ (x : CheckpointState). Fits x m k) (sym row.1)
        (subst (λ (x : JournalState). Fits old m x) (sym row.2) (room_fits old m j _ fits)))

    comes_began : to_sweep j ≡ 0 → is_due old.header j ≡ true → ComesTo before j m answer after k
    comes_began none due =
        let row = turned.began is none due in
        let began = row.1 in
        let left : List ℕ = pages_from 0 began.changed in
        comes (ap (λ (x : JournalState). x.count) row.2) (ahead_same j k row.2)
        (with_step (pages_step j.count left)
        (by_left old.header j j.count left
        (record { from = due_before old.header.count j.count _ due; to = omega arith })) began.state row.2)

    comes_idle : to_sweep j ≡ 0 → is_due old.header j ≡ false → ComesTo before j m answer after k
    comes_idle none not = let row = turned.idle is none not in
        comes (ap (λ (x : JournalState). x.count) row.2) (ahead_same j k row.2)
        (subst (λ (x : CheckpointState). Fits x m k) (sym row.1)
        (subst (λ (x : JournalState). Fits old m x) (sym row.2) fits))

    pub comes_rest : ComesTo before j m answer after k
    comes_rest = ⊎_elim (λ none. ⊎_elim (comes_began none) (comes_idle none)
        (true_or_false (is_due old.header j))) comes_swept (none_or_some (to_sweep j))

  module _ (count : ℕ) where
    pub comes_page : (i : ℕ) (left : List ℕ) → old.step ≡ PagesLeft count (i ∷ left) → ComesTo before j m answer after k
    comes_page i left is = let row = turned.page count i left is in record {
      turned = turned;
      moved = moved;
      nearer = λ under. ap turns_left is
          ∙ one_less (length left) (turns_left (pages_step count left)) (turns_with count left)
          ∙ sym (ap (λ (x : CheckpointState). turns_left x.step + 1) row.1);
      count = ap (λ (x : JournalState). x.count) row.2;
      ahead = ahead_same j k row.2;
      fits = with_step (pages_step count left)
          (by_left old.header j count left (subst (λ (s : Step). StepFits old.header j s) is fits.step)) row.1 row.2;
    }

    pub comes_synced : old.step ≡ PagesDone count → ComesTo before j m answer after k
    comes_synced is = let row = turned.synced count is in record {
      turned = turned;
      moved = moved;
      nearer = λ under. ap turns_left is ∙ sym (ap (λ (x : CheckpointState). turns_left x.step + 1) row.1);
      count = ap (λ (x : JournalState). x.count) row.2;
      ahead = ahead_same j k row.2;
      fits = with_step (Synced count) (subst (λ (s : Step). StepFits old.header j s) is fits.step) row.1 row.2;
    }

    pub comes_in_force : old.step ≡ Synced count → ComesTo before j m answer after k
    comes_in_force is = let row = turned.in_force count is in record {
      turned = turned;
      moved = moved;
      nearer = λ under. ap turns_left is ∙ sym (ap (λ (x : CheckpointState). turns_left x.step + 1) row.1);
      count = ap (λ (x : JournalState). x.count) row.2;
      ahead = ahead_begun j k count row.2;
      fits = subst (λ (x : CheckpointState). Fits x m k) (sym row.1)
          (subst (λ (x : JournalState). Fits
          (record { header = next_header old.header count; step = NoCheckpoint }) m x) (sym row.2) (record {
            cells = fits.cells;
            elements = fits.elements;
            ring = fits.ring;
            first = refl;
            step = tt;
          }));
    }
