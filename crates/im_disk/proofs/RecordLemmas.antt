-- What a call that is noted makes of the record of a disk in memory, and what a crash leaves of it.
use Rattle.std.proofs.Common.{◌≡◌, ℕ, suc, ◌+◌, ◌-◌, ◌^◌, ◌<◌, ◌≤◌, min, ◌⊎◌, List, [], ◌∷◌, ◌++◌, reverse, length}
use Rattle.std.proofs.Common.{get_or, take, drop, replicate, Some, None, Option, Vec, sym, refl, ap, ◌∙◌, subst, inl}
use Rattle.std.proofs.Common.{inr, ⊎_elim, arith, length-append, length-drop, length-take, ext_get_or}
use Rattle.std.proofs.lemmas.{Bool.cases_lt, List.get_or-replicate, List.length-replicate, List.reverse-append}
use Rattle.std.specs.declared.alloc.Global.{Global}
use Rattle.im_disk.proofs.OverlayLemmas.{length-overlaid, overlaid_back, overlaid_front, overlaid_inside}
use Rattle.im_disk.proofs.OverlayLemmas.{overlaid_outside, put_back}
use Rattle.im_disk.specs.declared.memory.Crash.{Crash, TheVariants.Byte, TheVariants.Kept, TheVariants.Lost}
use Rattle.im_disk.specs.declared.record.DeviceCall.{DeviceCall}
use Rattle.im_disk.specs.declared.record.DeviceCall.TheVariants.{Other, Synced, Wrote}
use Rattle.im_disk.specs.Moment.{Inside, Left, Moment, Outside, overlaid, written}
use Rattle.im_disk.specs.Record.{before, filled, IsSound, left_by, LieWithin, moment_of, past_of, ranges_of, settled_of}
use Rattle.im_disk.specs.Record.{shown}
use Rattle.im_disk.specs.Recording.{crashed, failed, HasByte, LeftBy, scarred, ticked}

newest_first : (calls more : List DeviceCall) (call : DeviceCall) → more ≡ calls ++ call ∷ []
    → reverse more ≡ call ∷ reverse calls
newest_first calls more call noted = ap reverse noted ∙ reverse-append calls (call ∷ [])

-- one call more, which its undoing takes back
module _ (b : List ℕ) (calls more : List DeviceCall) (begun failures : ℕ) (call : DeviceCall)
    (noted : more ≡ calls ++ call ∷ [])
    (among : begun ≤ length calls) where
  counts : length more - begun ≡ suc (length calls - begun)
  counts = let longer = ap length noted ∙ length-append calls (call ∷ []) in omega arith

  past_more : (b' : List ℕ) → before call b' ≡ b → take (length more - begun) (past_of b' (reverse more))
      ≡ moment_of b (reverse calls) ∷ take (length calls - begun) (past_of b (reverse calls))
  past_more b' undone =
      ap (λ (k : ℕ). take k (past_of b' (reverse more))) counts
      ∙ ap (λ (l : List DeviceCall). take (suc (length calls - begun)) (past_of b' l))
      (newest_first calls more call noted)
      ∙ ap (λ (x : List ℕ). moment_of x (reverse calls) ∷ take (length calls - begun)
      (past_of x (reverse calls))) undone

  shown_more : (b' : List ℕ) (m : Moment) (s : List ℕ) → before call b' ≡ b → moment_of b' (call ∷ reverse calls) ≡ m
      → settled_of b' (call ∷ reverse calls) ≡ s → shown b' more begun failures
      ≡ record {
        moment = m;
        past = moment_of b (reverse calls) ∷ take (length calls - begun)
            (past_of b (reverse calls));
        settled = s;
        failures = failures;
      }
  shown_more b' m s undone now settled =
      let newest = newest_first calls more call noted in
      let is : moment_of b' (reverse more) ≡ m = ap (λ (l : List DeviceCall). moment_of b' l) newest ∙ now in
      let was : settled_of b' (reverse more) ≡ s = ap (λ (l : List DeviceCall). settled_of b' l) newest ∙ settled in
      let past = past_more b' undone in
      (λ i. record { moment = is i; past = past i; settled = was i; failures = failures })

pub shown_read : (b : List ℕ) (calls more : List DeviceCall) (begun failures : ℕ) → begun ≤ length calls → more
    ≡ calls ++ Other ∷ [] → shown b more begun failures
    ≡ ticked (moment_of b (reverse calls)) (shown b calls begun failures)
shown_read b calls more begun failures among noted = shown_more b calls more begun failures Other noted among b
    (moment_of b (reverse calls)) (settled_of b (reverse calls)) refl refl refl

-- a write over the old part of n bytes
module _ (b : List ℕ) (calls more : List DeviceCall) (begun failures at n : ℕ) (old : Vec ℕ Global)
    (among : begun ≤ length calls) (fits : at + n ≤ length b) (kept : old.items ≡ take n (drop at b))
    (noted : more ≡ calls ++ Wrote at old ∷ []) where
  size : length old.items ≡ n
  size = ap length kept ∙ omega (arith, length-take n (drop at b), length-drop at b)

  pub shown_written : (d b' : List ℕ) → length d ≡ n → b' ≡ overlaid b at d → shown b' more begun failures
      ≡ ticked (written at d (moment_of b (reverse calls))) (shown b calls begun failures)
  shown_written d b' same is =
      let fits' : at + length d ≤ length b = omega arith in
      let front : take at b' ≡ take at b = ap (λ (l : List ℕ). take at l) is ∙ overlaid_front b at d fits' in
      let back : drop (at + n) b' ≡ drop (at + n) b = ap (λ (l : List ℕ). drop (at + n) l) is
      ∙ ap (λ (k : ℕ). drop (at + k) (overlaid b at d)) (sym same) ∙ overlaid_back b at d fits'
      ∙ ap (λ (k : ℕ). drop (at + k) b) same in
      let undone = put_back b b' at n old.items fits kept front back in
      let long : length old.items ≡ length d = size ∙ sym same in
      shown_more b calls more begun failures (Wrote at old) noted among b'
      (written at d (moment_of b (reverse calls))) (settled_of b (reverse calls)) undone
      (λ i. record { bytes = is i; ranges = (at, long i) ∷ ranges_of (reverse calls) })
      (ap (λ (l : List ℕ). settled_of l (reverse calls)) undone)

  -- a failed write that left the bytes
  shown_unwritten : shown b more begun failures
      ≡ ticked (record { bytes = b; ranges = (at, n) ∷ ranges_of (reverse calls) }) (shown b calls begun failures)
  shown_unwritten =
      let undone = put_back b b at n old.items fits kept refl refl in
      shown_more b calls more begun failures (Wrote at old) noted among b
      (record { bytes = b; ranges = (at, n) ∷ ranges_of (reverse calls) }) (settled_of b (reverse calls)) undone
      (λ i. record { bytes = b; ranges = (at, size i) ∷ ranges_of (reverse calls) })
      (ap (λ (l : List ℕ). settled_of l (reverse calls)) undone)

-- a failed write that was noted, with one failure more
module _ (b : List ℕ) (calls more : List DeviceCall) (begun failures counted at n : ℕ) (old : Vec ℕ Global)
    (among : begun ≤ length calls) (fits : at + n ≤ length b) (kept : old.items ≡ take n (drop at b))
    (noted : more ≡ calls ++ Wrote at old ∷ []) (count : counted ≡ min (failures + 1) (2 ^ 64 - 1)) where
  pub fails_scarred : (o : Option ℕ) (byte : ℕ) (b' : List ℕ) → o ≡ Some byte → b' ≡ overlaid b at (replicate n byte)
      → shown b' more begun counted
      ≡ failed (ticked (scarred at n o (moment_of b (reverse calls))) (shown b calls begun failures))
  fails_scarred o byte b' some is =
      ap (λ (k : ℕ). shown b' more begun k) count
      ∙ shown_written b calls more begun (min (failures + 1) (2 ^ 64 - 1)) at n old among fits kept noted
      (replicate n byte) b' (length-replicate n byte) is
      ∙ sym (ap (λ (x : Option ℕ). failed
      (ticked (scarred at n x (moment_of b (reverse calls))) (shown b calls begun failures))) some)

  pub fails_unscarred : (o : Option ℕ) → o ≡ None → shown b more begun counted
      ≡ failed (ticked (scarred at n o (moment_of b (reverse calls))) (shown b calls begun failures))
  fails_unscarred o none =
      ap (λ (k : ℕ). shown b more begun k) count
      ∙ shown_unwritten b calls more begun (min (failures + 1) (2 ^ 64 - 1)) at n old among fits kept noted
      ∙ sym (ap (λ (x : Option ℕ). failed
      (ticked (scarred at n x (moment_of b (reverse calls))) (shown b calls begun failures))) none)

-- a byte lies in the ranges or outside them
inside_or_outside : (rs : List (ℕ × ℕ)) (i : ℕ) → Inside rs i ⊎ Outside rs i
inside_or_outside [] i = inr tt
inside_or_outside (r ∷ rs) i = ⊎_elim
    (λ inside. inl (inr inside))
    (λ outside. ⊎_elim (λ low. inr (inl low, outside))
    (λ from. ⊎_elim (λ below. inl (inl (from, below))) (λ past. inr (inr past, outside))
    (cases_lt i (r.0 + r.1))) (cases_lt i r.0))
    (inside_or_outside rs i)

within_of_same_size : (m n : ℕ) (rs : List (ℕ × ℕ)) → n ≡ m → LieWithin m rs → LieWithin n rs
within_of_same_size m n rs same within = subst (λ (k : ℕ). LieWithin k rs) (sym same) within

-- the same outside the ranges, and so the same once the writes are undone
settled_same : (b c : List ℕ) (calls : List DeviceCall) → LieWithin (length b) (ranges_of calls) → length c ≡ length b
    → ((i : ℕ) → Outside (ranges_of calls) i → get_or c i 0 ≡ get_or b i 0) → settled_of c calls ≡ settled_of b calls
settled_same b c [] within size same = ext_get_or 0 c b size (λ i lt. same i tt)
settled_same b c (Other ∷ calls) within size same = settled_same b c calls within size same
settled_same b c (Synced ∷ calls) within size same = ext_get_or 0 c b size (λ i lt. same i tt)
settled_same b c (Wrote at old ∷ calls) within size same = settled_same (overlaid b at old.items)
    (overlaid c at old.items) calls
    (within_of_same_size (length b) (length (overlaid b at old.items)) (ranges_of calls) size_b within.1)
    (size_c ∙ size ∙ sym size_b) same_after
  where
    fits_c : at + length old.items ≤ length c
    fits_c = let fits = within.0 in omega arith

    size_b : length (overlaid b at old.items) ≡ length b
    size_b = length-overlaid b at old.items within.0

    size_c : length (overlaid c at old.items) ≡ length c
    size_c = length-overlaid c at old.items fits_c

    beside : (i : ℕ) → (i < at) ⊎ (at + length old.items ≤ i) → Outside (ranges_of calls) i
        → get_or (overlaid c at old.items) i 0 ≡ get_or (overlaid b at old.items) i 0
    beside i here outside = overlaid_outside c at old.items fits_c i here ∙ same i (here, outside)
        ∙ sym (overlaid_outside b at old.items within.0 i here)

    same_after : (i : ℕ) → Outside (ranges_of calls) i → get_or (overlaid c at old.items) i 0
        ≡ get_or (overlaid b at old.items) i 0
    same_after i outside = ⊎_elim
        (λ low. beside i (inl low) outside)
        (λ from. ⊎_elim
        (λ below. overlaid_inside c at old.items fits_c i from below
        ∙ sym (overlaid_inside b at old.items within.0 i from below))
        (λ past. beside i (inr past) outside)
        (cases_lt i (at + length old.items)))
        (cases_lt i at)

length-settled : (b : List ℕ) (calls : List DeviceCall) → LieWithin (length b) (ranges_of calls)
    → length (settled_of b calls) ≡ length b
length-settled b [] within = refl
length-settled b (Other ∷ calls) within = length-settled b calls within
length-settled b (Synced ∷ calls) within = refl
length-settled b (Wrote at old ∷ calls) within =
    let size = length-overlaid b at old.items within.0 in
    length-settled (overlaid b at old.items) calls
    (within_of_same_size (length b) (length (overlaid b at old.items)) (ranges_of calls) size within.1) ∙ size

settled_outside : (b : List ℕ) (calls : List DeviceCall) → LieWithin (length b) (ranges_of calls) → (i : ℕ)
    → Outside (ranges_of calls) i → get_or (settled_of b calls) i 0 ≡ get_or b i 0
settled_outside b [] within i outside = refl
settled_outside b (Other ∷ calls) within i outside = settled_outside b calls within i outside
settled_outside b (Synced ∷ calls) within i outside = refl
settled_outside b (Wrote at old ∷ calls) within i outside =
    let size = length-overlaid b at old.items within.0 in
    settled_outside (overlaid b at old.items) calls
    (within_of_same_size (length b) (length (overlaid b at old.items))
    (ranges_of calls) size within.1) i outside.1 ∙ overlaid_outside b at old.items within.0 i outside.0

-- this byte over a range
module _ (byte : ℕ) (b : List ℕ) (at n : ℕ) (fits : at + n ≤ length b) where
  fits_byte : at + length (replicate n byte) ≤ length b
  fits_byte = omega (arith, length-replicate n byte)

  length-over : length (overlaid b at (replicate n byte)) ≡ length b
  length-over = length-overlaid b at (replicate n byte) fits_byte

  over_outside : (i : ℕ) → (i < at) ⊎ (at + n ≤ i) → get_or (overlaid b at (replicate n byte)) i 0 ≡ get_or b i 0
  over_outside i here = overlaid_outside b at (replicate n byte) fits_byte i
      (⊎_elim (λ low. inl low) (λ past. inr (omega (arith, length-replicate n byte))) here)

  over_inside : (i : ℕ) → at ≤ i → i < at + n → get_or (overlaid b at (replicate n byte)) i 0 ≡ byte
  over_inside i from below = overlaid_inside b at (replicate n byte) fits_byte i from
      (omega (arith, length-replicate n byte)) ∙ get_or-replicate n (i - at) byte 0 (omega arith)

-- one range more under ranges that are filled
has_byte_more : (byte : ℕ) (b : List ℕ) (r : ℕ × ℕ) (rs : List (ℕ × ℕ)) (c : List ℕ) → r.0 + r.1 ≤ length b
    → HasByte byte (record { bytes = overlaid b r.0 (replicate r.1 byte); ranges = rs }) c
    → HasByte byte (record { bytes = b; ranges = r ∷ rs }) c
has_byte_more byte b r rs c fits rest = record {
  size = rest.size ∙ length-over byte b r.0 r.1 fits;
  outside = λ i outside. rest.outside i outside.1 ∙ over_outside byte b r.0 r.1 fits i outside.0;
  inside = λ i inside. ⊎_elim
      (λ earlier. rest.inside i earlier)
      (λ outside. ⊎_elim
      (λ here. rest.outside i outside ∙ over_inside byte b r.0 r.1 fits i here.0 here.1)
      (λ earlier. rest.inside i earlier)
      inside)
      (inside_or_outside rs i);
}

has_byte_filled : (byte : ℕ) (b : List ℕ) (rs : List (ℕ × ℕ)) → LieWithin (length b) rs
    → HasByte byte (record { bytes = b; ranges = rs }) (filled byte b rs)
has_byte_filled byte b [] within = record { size = refl; outside = λ i outside. refl; inside = λ i inside. absurd inside }
has_byte_filled byte b (r ∷ rs) within =
    let size = length-over byte b r.0 r.1 within.0 in
    has_byte_more byte b r rs (filled byte (overlaid b r.0 (replicate r.1 byte)) rs) within.0
    (has_byte_filled byte (overlaid b r.0 (replicate r.1 byte)) rs
    (within_of_same_size (length b) (length (overlaid b r.0 (replicate r.1 byte))) rs size within.1))

-- a crash, of a disk with these bytes and calls
module _ (b : List ℕ) (calls : List DeviceCall) (within : LieWithin (length b) (ranges_of (reverse calls))) where
  pub left_by_left : (crash : Crash) → Left (moment_of b (reverse calls)) (left_by crash b (reverse calls))
  left_by_left Kept = record { size = refl; same = λ i outside. refl }
  left_by_left Lost = record {
    size = length-settled b (reverse calls) within;
    same = λ i outside. settled_outside b
        (reverse calls) within i outside;
  }
  left_by_left (Byte byte) = let has = has_byte_filled byte b
      (ranges_of (reverse calls)) within in record { size = has.size; same = λ i outside. has.outside i outside }

  pub left_by_kind : (crash : Crash) (begun failures : ℕ)
      → LeftBy crash (shown b calls begun failures) (left_by crash b (reverse calls))
  left_by_kind Kept begun failures = refl
  left_by_kind Lost begun failures = refl
  left_by_kind (Byte byte) begun failures = has_byte_filled byte b (ranges_of (reverse calls)) within

  pub sound_crashed : (c : List ℕ) (n : ℕ) → n ≡ length calls → Left (moment_of b (reverse calls)) c → IsSound c calls n
  sound_crashed c n all left = record {
    within = within_of_same_size (length b) (length c)
        (ranges_of (reverse calls)) left.size within;
    begun_among = omega arith;
  }

  pub shown_crashed : (c : List ℕ) (n begun failures : ℕ) → n ≡ length calls → Left (moment_of b (reverse calls)) c
      → shown c calls n failures ≡ crashed c (shown b calls begun failures)
  shown_crashed c n begun failures all left =
      let none : length calls - n ≡ 0 = omega arith in
      let settled = settled_same b c (reverse calls) within left.size (λ i outside. left.same i outside) in
      (λ i. record {
        moment = moment_of c (reverse calls);
        past = take (none i)
            (past_of c (reverse calls));
        settled = settled i;
        failures = failures;
      })
