-- What a failed write of a disk in memory is to a reader of the contract of disks.
use Rattle.std.proofs.Common.{ℕ, ◌+◌, ◌≤◌, length, replicate, Some, None, Option, sym, refl, ap, subst, inl, inr, arith}
use Rattle.std.proofs.lemmas.List.{length-replicate}
use Rattle.im_disk.{proofs.OverlayLemmas.torn_by_write, specs.Moment.MayTick, specs.Moment.Moment, specs.Moment.Torn}
use Rattle.im_disk.{specs.Moment.written, specs.Recording.Fails, specs.Recording.Recording, specs.Recording.scarred}

torn_by_scar : (at n : ℕ) (byte : Option ℕ) (m : Moment) → at + n ≤ length m.bytes → Torn at n m (scarred at n byte m)
torn_by_scar at n None m fits = record { size = refl; same = λ i out. refl; ranges = refl }
torn_by_scar at n (Some byte) m fits =
    let size = length-replicate n byte in
    subst (λ (k : ℕ). Torn at k m (written at (replicate n byte) m)) size
    (torn_by_write m at (replicate n byte) (omega arith))

-- a failed write may have torn its range
pub may_tick_torn : (at n : ℕ) (byte : Option ℕ) (old new : Recording) → at + n ≤ length old.moment.bytes
    → Fails (scarred at n byte old.moment) old new → MayTick (Torn at n) old.moment new.moment old.past new.past
may_tick_torn at n byte old new fits (inl tick) = inr (record {
  past = ap (λ (r : Recording). r.past) tick;
  now = subst (Torn at n old.moment) (sym (ap (λ (r : Recording). r.moment) tick))
      (torn_by_scar at n byte old.moment fits);
})
may_tick_torn at n byte old new fits (inr none) = inl
    (ap (λ (r : Recording). r.moment) none, ap (λ (r : Recording). r.past) none)
