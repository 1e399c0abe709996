-- Cells that are told one after another.
use Rattle.std.proofs.Common.{◌≡◌, ℕ, suc, ◌+◌, ◌-◌, ◌<◌, ◌≤◌, List, [], ◌∷◌, ◌++◌, length, take, drop, set, sym, refl}
use Rattle.std.proofs.Common.{ap, ◌∙◌, ap₂, arith, length-set, drop-drop, take-suc-set, drop-set-lt}
use Rattle.im_types.specs.Types.{Contents}
use Rattle.im_c.specs.{declared.seen.LtPresence.LtPresence, Seeing.cell_told_at, Seeing.cells_told}

-- So many cells are told, and `a` is the next address.
pub record Told (m : Contents) (from : ℕ) (old : List LtPresence) (a count : ℕ) (now : List LtPresence) : Type 0 where
  pub next : a ≡ from + count
  pub few : count ≤ length m.cells - from
  pub within : count ≤ length now
  pub whole : length now ≡ length old
  pub told : take count now ≡ cells_told m from count
  pub rest : drop count now ≡ drop count old

pub told_none : (m : Contents) (from : ℕ) (old : List LtPresence) → Told m from old from 0 old
unfolding cells_told
told_none m from old =
    record { next = omega arith; few = omega arith; within = omega arith; whole = refl; told = refl; rest = refl }

one_told : (m : Contents) (from n : ℕ)
    → cells_told m from (suc n) ≡ cells_told m from n ++ cell_told_at m (from + n) ∷ []
unfolding cells_told
one_told m from n = refl

pub told_more : (m : Contents) (from : ℕ) (old : List LtPresence) (a count : ℕ) (now : List LtPresence)
    (cell : LtPresence) → cell ≡ cell_told_at m a → a < length m.cells → count < length now
    → Told m from old a count now → Told m from old (a + 1) (count + 1) (set now count cell)
told_more m from old a count now cell is below room it =
    let one : count + 1 ≡ suc count = omega arith in
    record {
      next = omega (arith, it.next);
      few = omega (arith, it.next, it.few, below);
      within = omega (arith, room, length-set now count cell);
      whole = length-set now count cell ∙ it.whole;
      told = ap (λ n. take n (set now count cell)) one ∙ take-suc-set now count cell room
          ∙ ap₂ (λ xs x. xs ++ x ∷ []) it.told (is ∙ ap (cell_told_at m) it.next)
          ∙ sym (one_told m from count) ∙ ap (cells_told m from) (sym one);
      rest = drop-set-lt (count + 1) now count cell (omega arith) ∙ sym (drop-drop 1 count now)
          ∙ ap (drop 1) it.rest ∙ drop-drop 1 count old;
    }
