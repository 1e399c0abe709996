-- What a new file is given of an old one.
use Rattle.std.proofs.Common.{◌≡◌, ℕ, zero, suc, ◌⊎◌, List, [], ◌∷◌, get_or, replicate, Option, sym, refl, ap, ◌∙◌}
use Rattle.std.proofs.Common.{subst, inl, inr, ⊎_elim, arith}
use Rattle.std.specs.Io.KnownBytes.{Appends, Keeps}
use Rattle.im_types.specs.Types.{Layout, open_gate, zeros}
use Rattle.im_disk.proofs.SinceLemmas.{left_settled, reads_then}
use Rattle.im_disk.specs.{Account.IsHonest, declared.FileDisk.FileDisk, declared.Start.Ghosts, File.account_of}
use Rattle.im_disk.specs.{Moment.Left, Moment.LeftSince, Moment.Moment, Since.Leaves, Since.LeavesNow, Since.ReadsOnly}
use Rattle.im_migration.specs.Migration.{HasCountIn, IsBlank}
use Rattle.im_text.proofs.PrintingLemmas.{appends_kept}
use Rattle.im_program.specs.Moving.{BeginsNew, BeginsOld, counted_line, MovedFrom, TellsCount}

-- the count that was printed is there as it was written
pub told_count : (l : Layout) (word old : List ℕ) (was mid is : Option (List ℕ)) (count : ℕ) → HasCountIn l old count
    → Appends was mid (counted_line word count) → Keeps mid is → TellsCount l word old was is
told_count l word old was mid is count has added keeps =
    (count, has, appends_kept was mid is (counted_line word count) added keeps)

zero_at : (n i : ℕ) → get_or (zeros n) i 0 ≡ 0
zero_at zero i = refl
zero_at (suc n) zero = refl
zero_at (suc n) (suc i) = zero_at n i

no_gate : (n : ℕ) → n ≡ 0 → n ≡ open_gate → ⊥
no_gate n is e = omega (arith, is, e)

-- a file of zeros is no image
zeros_blank : (n : ℕ) → IsBlank (replicate n 0)
zeros_blank n = (
  no_gate (get_or (replicate n 0) 0 0) (zero_at n 0),
  no_gate (get_or (replicate n 0) 4096 0) (zero_at n 4096),
)

module _ {T : Type 0} (other : Ghosts T) (opened mid old : FileDisk T other) (begins : BeginsOld other opened) where
  -- two runs of calls that only read, since the opening
  pub read_since : (IsHonest (account_of other mid) → ReadsOnly (account_of other opened).now (account_of other mid).now
      (account_of other opened).past (account_of other mid).past)
      → (IsHonest (account_of other old) → IsHonest (account_of other mid))
      → (IsHonest (account_of other old) → ReadsOnly (account_of other mid).now (account_of other old).now
      (account_of other mid).past (account_of other old).past)
      → IsHonest (account_of other old) → ReadsOnly other.first (account_of other old).now [] (account_of other old).past
  read_since before was after h =
      subst (λ (m : Moment). ReadsOnly m (account_of other old).now [] (account_of other old).past) begins.now
      (subst (λ (p : List Moment). ReadsOnly (account_of other opened).now (account_of other old).now p
      (account_of other old).past) begins.past
      (reads_then (account_of other opened).now (account_of other mid).now (account_of other old).now
      (account_of other opened).past (account_of other mid).past (account_of other old).past (before (was h)) (after h)))

  -- the bytes that the second run began with are those of the opening
  pub same_bytes : (IsHonest (account_of other mid) → ReadsOnly (account_of other opened).now (account_of other mid).now
      (account_of other opened).past (account_of other mid).past)
      → (IsHonest (account_of other old) → IsHonest (account_of other mid)) → IsHonest (account_of other old)
      → (account_of other mid).now.bytes ≡ other.first.bytes
  same_bytes before was h = ap (λ (m : Moment). m.bytes) ((before (was h)).now ∙ begins.now)

-- what could be left of a file when it was opened, or no image, if it was made
module _ {S : Type 0} (start : Ghosts S) (len : ℕ) (opened : FileDisk S start) (begins : BeginsNew start len opened) where
  by_begin : (c : List ℕ) → Left (account_of start opened).now c → Left start.first c ⊎ IsBlank c
  by_begin c left = ⊎_elim
      (λ is. inl (subst (λ (m : Moment). Left m c) is left))
      (λ is. inr (subst IsBlank (sym (left_settled (account_of start opened).now c (ap (λ (m : Moment). m.ranges) is) left
      ∙ ap (λ (m : Moment). m.bytes) is)) (zeros_blank len)))
      begins.now

  pub was_left : (c : List ℕ) → LeftSince ((account_of start opened).now ∷ (account_of start opened).past) 0 c
      → Left start.first c ⊎ IsBlank c
  was_left c left = by_start (subst (λ (p : List Moment). LeftSince ((account_of start opened).now ∷ p) 0 c)
      begins.past left)
    where
      by_start : LeftSince ((account_of start opened).now ∷ []) 0 c → Left start.first c ⊎ IsBlank c
      by_start (inl here) = by_begin c here.1
      by_start (inr never) = absurd never

module _ {S T : Type 0} (start : Ghosts S) (other : Ghosts T) (Means : List ℕ → List ℕ → Type 0)
    (Tells : List ℕ → Option (List ℕ) → Option (List ℕ) → Type 0) (bytes : List ℕ) (len : ℕ)
    (opened new : FileDisk S start) (old : FileDisk T other) (begins : BeginsNew start len opened)
    (same : IsHonest (account_of other old) → bytes ≡ other.first.bytes) where
  moved_on : (c : List ℕ) → IsBlank c ⊎ (IsHonest (account_of other old) → Means bytes c)
      → IsBlank c ⊎ (IsHonest (account_of other old) → Means other.first.bytes c)
  moved_on c (inl blank) = inl blank
  moved_on c (inr means) = inr (λ h. subst (λ (b : List ℕ). Means b c) (same h) (means h))

  put_first : (c : List ℕ) → Left start.first c ⊎ IsBlank c
      → Left start.first c ⊎ IsBlank c ⊎ (IsHonest (account_of other old) → Means other.first.bytes c)
  put_first c (inl left) = inl left
  put_first c (inr blank) = inr (inl blank)

  pub moved : (was is : Option (List ℕ)) (status : ℕ)
      → (IsHonest (account_of start new) → Leaves (account_of start opened).now (account_of start new).now
      (account_of start opened).past (account_of start new).past
      (λ c. IsBlank c ⊎ (IsHonest (account_of other old) → Means bytes c)))
      → (IsHonest (account_of start new) → status ≡ 0 → IsHonest (account_of other old)
      → LeavesNow (account_of start new).now (Means bytes))
      → (status ≡ 0 → IsHonest (account_of other old) → Tells bytes was is)
      → (IsHonest (account_of other old)
      → ReadsOnly other.first (account_of other old).now [] (account_of other old).past)
      → MovedFrom start other Means Tells was is status old new
  moved was is status leaves done told reads = record {
    leaves = λ n c left. ⊎_elim (λ earlier. put_first c (was_left start len opened begins c earlier))
        (λ here. inr (moved_on c here)) ((leaves n).each 0 c (omega arith) left);
    done = λ n z h c left. subst (λ (b : List ℕ). Means b c) (same h) (done n z h c left);
    told = λ z h. subst (λ (b : List ℕ). Tells b was is) (same h) (told z h);
    reads = reads;
  }
