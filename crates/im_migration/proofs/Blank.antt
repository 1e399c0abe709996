-- What the calls of a migration leave of a file in which no header is open.
use Rattle.std.proofs.Common.{ℕ, ◌+◌, ◌<◌, ◌≤◌, ◌⊎◌, List, length, sym, ◌∙◌, subst, inl, inr, ⊎_elim, arith}
use Rattle.im_disk.proofs.SinceLemmas.{leaves_start, leaves_step, leaves_then, left_torn}
use Rattle.im_disk.specs.{declared.Disk.Ghosts, Moment.Left, Moment.MayTick, Moment.Moment, Moment.Torn}
use Rattle.im_disk.specs.Since.{Leaves, LeavesOnly, SameBut}
use Rattle.im_migration.specs.{Laying.IsBeside, Laying.StaysBlank, Migration.IsBlank}

-- files that agree but for a range without a gate
pub beside_blank : (at n : ℕ) (c d : List ℕ) → IsBeside at n → SameBut at n c d → IsBlank c → IsBlank d
beside_blank at n c d beside but blank = (
  λ e. blank.0 (sym (but.same 0 (first beside)) ∙ e),
  λ e. blank.1 (sym (but.same 4096 (second beside)) ∙ e),
)
  where
    first : IsBeside at n → (0 < at) ⊎ (at + n ≤ 0)
    first (inl before) = inl (omega (arith, before.0))
    first (inr behind) = inl (omega (arith, behind))

    second : IsBeside at n → (4096 < at) ⊎ (at + n ≤ 4096)
    second (inl before) = inr before.1
    second (inr behind) = inl (omega (arith, behind))

module _ {D : Type 0} (disk : Ghosts D) where
  pub blank_write : (at n : ℕ) (old new : D) → IsBeside at n → at + n ≤ length (disk.now old).bytes
      → MayTick (Torn at n) (disk.now old) (disk.now new) (disk.past old) (disk.past new) → StaysBlank disk old new
  blank_write at n old new beside fits tick blank =
      record {
        within = leaves_step (disk.now old) (disk.now old) (disk.now new) (disk.past old) (disk.past old)
            (disk.past new) IsBlank (Torn at n)
            (leaves_start (disk.now old) (disk.past old) IsBlank) tick (λ c left. by_tick c tick left);
        after = λ c left. by_tick c tick left;
      }
    where
      -- the write is torn, or nothing has happened
      by_tick : (c : List ℕ) → MayTick (Torn at n) (disk.now old) (disk.now new) (disk.past old) (disk.past new)
          → Left (disk.now new) c → IsBlank c
      by_tick c (inl same) left = blank c (subst (λ (x : Moment). Left x c) same.0 left)
      by_tick c (inr torn) left =
          let from : (d : List ℕ) × Left (disk.now old) d
          × SameBut at n d c = left_torn at n (disk.now old) (disk.now new) fits torn.now c left in
          beside_blank at n from.0 c beside from.2 (blank from.0 from.1)

  pub blank_then : (old mid new : D) → StaysBlank disk old mid → StaysBlank disk mid new
      → StaysBlank disk old new
  blank_then old mid new first second blank =
      let a : LeavesOnly disk.now disk.past old mid IsBlank = first blank in
      let b : LeavesOnly disk.now disk.past mid new IsBlank = second a.after in
      record {
        within = leaves_then (disk.now old) (disk.now mid) (disk.now new) (disk.past old) (disk.past mid)
            (disk.past new) IsBlank IsBlank IsBlank a.within b.within (λ c is. is) (λ c is. is);
        after = b.after;
      }

-- a run that leaves no file more leaves only what has any property, those aside that could be left before
pub leaves_none : (old new : Moment) (past past' : List Moment) (P : List ℕ → Type 0)
    → Leaves old new past past' (Left old) → Leaves old new past past' P
leaves_none old new past past' P leaves = record {
  later = leaves.later;
  each = λ t c le left. ⊎_elim (λ earlier. inl earlier) (λ here. inl (inl (le, here))) (leaves.each t c le left);
}

-- and then a run that leaves only what has a property
pub leaves_after : (old mid new : Moment) (past past_mid past_new : List Moment) (P : List ℕ → Type 0)
    → Leaves old mid past past_mid (Left old) → Leaves mid new past_mid past_new P → Leaves old new past past_new P
leaves_after old mid new past past_mid past_new P first second =
    leaves_then old mid new past past_mid past_new P P P (leaves_none old mid past past_mid P first) second
    (λ c is. is) (λ c is. is)
