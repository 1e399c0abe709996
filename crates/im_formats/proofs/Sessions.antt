-- A session record is spelled by one window alone.
use Rattle.std.proofs.Common.{◌≡◌, ℕ, zero, suc, ◌+◌, ◌-◌, ◌*◌, ◌%◌, ◌<◌, ◌≤◌, List, [], ◌∷◌, ◌++◌, length, take, drop}
use Rattle.std.proofs.Common.{replicate, slice_get, slice_index, Some, None, Option, sym, refl, ap, ◌∙◌, append_assoc}
use Rattle.std.proofs.Common.{arith, drop-drop, take_at, drop_at}
use Rattle.byteorder.specs.{Endian.little_number, Numbers.little_number-reads_back}
use Rattle.std.proofs.lemmas.List.{length-replicate}
use Rattle.im_types.specs.Types.{Kept, LAST, Window, Version, One, Two, Layout, layout_of, zeros, place_bytes}
use Rattle.im_types.specs.Types.{FitsPlace, entry_at, places_from, session_bytes, FitsWindow}
use Rattle.im_formats.{proofs.Places.place_in-spelled, specs.Reading.place_in}

length-place : (place : Option Kept) → length (place_bytes place) ≡ 32
length-place None = refl
length-place (Some k) = refl

-- the i-th of the places
pub places-piece : (n : ℕ) (w : Window) (ones rest : List ℕ) (place i : ℕ) → i < length ones
    → take 32 (drop (32 * i) (places_from n w place ones ++ rest)) ≡ place_bytes (entry_at n w (place + i))
places-piece n w [] rest place i lt = absurd (omega arith)
places-piece n w (one ∷ ones) rest place zero lt =
    ap (λ (l : List ℕ). take 32 l)
    (append_assoc (place_bytes (entry_at n w place)) (places_from n w (place + 1) ones) rest)
    ∙ take_at (place_bytes (entry_at n w place)) (places_from n w (place + 1) ones ++ rest) 32
    (length-place (entry_at n w place))
    ∙ ap (λ (k : ℕ). place_bytes (entry_at n w k)) (same place)
  where
    same : (k : ℕ) → k ≡ k + 0
    same k = omega arith
places-piece n w (one ∷ ones) rest place (suc i) lt =
    ap (λ (k : ℕ). take 32 (drop k (places_from n w place (one ∷ ones) ++ rest))) (more i)
    ∙ ap (λ (l : List ℕ). take 32 l) (sym (drop-drop (32 * i) 32 (places_from n w place (one ∷ ones) ++ rest)))
    ∙ ap (λ (l : List ℕ). take 32 (drop (32 * i) (drop 32 l)))
    (append_assoc (place_bytes (entry_at n w place)) (places_from n w (place + 1) ones) rest)
    ∙ ap (λ (l : List ℕ). take 32 (drop (32 * i) l))
    (drop_at (place_bytes (entry_at n w place)) (places_from n w (place + 1) ones ++ rest) 32
    (length-place (entry_at n w place)))
    ∙ places-piece n w ones rest (place + 1) i (omega arith)
    ∙ ap (λ (k : ℕ). place_bytes (entry_at n w k)) (same place i)
  where
    more : (k : ℕ) → 32 * suc k ≡ 32 + 32 * k
    more k = omega arith

    same : (k m : ℕ) → k + 1 + m ≡ k + suc m
    same k m = omega arith

-- which of the places of a ring a number stands at, and back
pub record IsRing (n : ℕ) : Type 0 where
  pub below : (k : ℕ) → k % n < n
  pub turn_back : (base j : ℕ) → j < n → ((base + j) % n + n - base % n) % n ≡ j

pub ring_of_version : (version : Version) → IsRing (layout_of version).window
ring_of_version One = record { below = λ k. omega arith; turn_back = λ base j lt. omega arith }
ring_of_version Two = record { below = λ k. omega arith; turn_back = λ base j lt. omega arith }

some_inj : {X : Type 0} (x y : X) → Some x ≡ Some y → x ≡ y
some_inj x y e = cc

ext_get : (xs ys : List Kept) → length xs ≡ length ys → ((j : ℕ) → j < length xs → slice_get xs j ≡ slice_get ys j)
    → xs ≡ ys
ext_get [] [] size same = refl
ext_get [] (y ∷ ys) size same = absurd (omega arith)
ext_get (x ∷ xs) [] size same = absurd (omega arith)
ext_get (x ∷ xs) (y ∷ ys) size same =
    let head : x ≡ y = some_inj x y (same 0 (omega arith)) in
    let rest : xs ≡ ys = ext_get xs ys (omega arith) (λ j lt. same (suc j) (omega arith)) in
    cc

-- the same place of two rings has what is kept under the same number
abbrev turned : ℕ → Window → ℕ → ℕ
turned n w place = (place + n - w.base % n) % n

module _ (l : Layout) (ring : IsRing l.window) where
  pub place_of_session : (w : Window) (place : ℕ) → place < l.window
      → take 32 (drop (32 * place) (drop 32 (session_bytes l w))) ≡ place_bytes (entry_at l.window w place)
  place_of_session w place lt =
      places-piece l.window w (replicate l.window 0) (zeros (32 * l.window - 32)) 0 place
      (omega (arith, length-replicate {A = ℕ} l.window 0))
      ∙ ap (λ (k : ℕ). place_bytes (entry_at l.window w k)) (start place)
    where
      start : (k : ℕ) → 0 + k ≡ k
      start k = omega arith

  -- an entry of a window of fitting entries fits
  pub fits_at : (w : Window) → FitsWindow l w → (j : ℕ) → FitsPlace (slice_get w.kept j)
  fits_at w fits j = by_cases (slice_get w.kept j) refl
    where
      by_cases : (place : Option Kept) → slice_get w.kept j ≡ place → FitsPlace place
      by_cases None is = tt
      by_cases (Some k) is = fits.fields j k is

  -- the same bytes have the same places
  same_place : (w v : Window) → FitsWindow l w → FitsWindow l v → session_bytes l w ≡ session_bytes l v → (place : ℕ)
      → place < l.window → entry_at l.window w place ≡ entry_at l.window v place
  same_place w v fw fv e place lt =
      let bytes : place_bytes (entry_at l.window w place) ≡ place_bytes (entry_at l.window v place) =
      sym (place_of_session w place lt) ∙ ap (λ (l : List ℕ). take 32 (drop (32 * place) (drop 32 l))) e
      ∙ place_of_session v place lt in
      some_inj (entry_at l.window w place) (entry_at l.window v place)
      (sym (place_in-spelled (entry_at l.window w place) (fits_at w fw (turned l.window w place)))
      ∙ ap place_in bytes
      ∙ place_in-spelled (entry_at l.window v place) (fits_at v fv (turned l.window v place)))

  same_base : (w v : Window) → FitsWindow l w → FitsWindow l v → session_bytes l w ≡ session_bytes l v → w.base ≡ v.base
  same_base w v fw fv e =
      let bw : w.base ≤ LAST + 1 = fw.base_to in
      let bv : v.base ≤ LAST + 1 = fv.base_to in
      sym (little_number-reads_back 8 w.base [] (omega arith)) ∙ ap (λ (l : List ℕ). little_number 8 (take 8 l)) e
      ∙ little_number-reads_back 8 v.base [] (omega arith)

  same_count : (w v : Window) → session_bytes l w ≡ session_bytes l v → length w.kept ≡ length v.kept
  same_count w v e = ap (λ (l : List ℕ). slice_index l 8) e

  same_kept : (w v : Window) → FitsWindow l w → FitsWindow l v → session_bytes l w ≡ session_bytes l v → (j : ℕ)
      → j < length w.kept → slice_get w.kept j ≡ slice_get v.kept j
  same_kept w v fw fv e j lt =
      let few : length w.kept ≤ l.window = fw.few in
      let base : w.base ≡ v.base = same_base w v fw fv e in
      let at : ℕ = (w.base + j) % l.window in
      let place : entry_at l.window w at
      ≡ entry_at l.window v at = same_place w v fw fv e at (ring.below (w.base + j)) in
      let here : turned l.window w at ≡ j = ring.turn_back w.base j (omega arith) in
      let there : turned l.window v at ≡ j = ap (λ (b : ℕ). (at + l.window - b % l.window) % l.window) (sym base)
      ∙ here in
      ap (λ (k : ℕ). slice_get w.kept k) (sym here) ∙ place ∙ ap (λ (k : ℕ). slice_get v.kept k) there

  pub session_bytes-one : (w v : Window) → FitsWindow l w → FitsWindow l v → session_bytes l w ≡ session_bytes l v
      → w ≡ v
  session_bytes-one w v fw fv e =
      let base : w.base ≡ v.base = same_base w v fw fv e in
      let kept : w.kept ≡ v.kept = ext_get w.kept v.kept (same_count w v e) (same_kept w v fw fv e) in
      (λ i. record { base = base i; kept = kept i })
