-- A sync or a write that failed has an outcome that the contract of disks allows.
use Rattle.std.proofs.Common.{◌≡◌, ℕ, zero, suc, ◌+◌, ◌<◌, ◌≤◌, Bool, true, false, ◌&&◌, ◌||◌, List, [], ◌∷◌, length}
use Rattle.std.proofs.Common.{get_or, if◌then◌else◌, nat_lt, nat_le, ◌==◌, refl, ap, ◌∙◌, subst, inl, inr, ⊎_elim}
use Rattle.std.proofs.Common.{arith, le-ltb, eqb-true}
use Rattle.std.proofs.lemmas.Bool.{and_left, and_parts, and_right, both_ways, lt-leb, or_cases}
use Rattle.im_disk.proofs.OverlayLemmas.{length-overlaid, overlaid_outside}
use Rattle.im_disk.specs.Account.{are_same_outside, is_inside, shaken_by, torn_by}
use Rattle.im_disk.specs.Moment.{Moment, Outside, overlaid, Shaken, Torn}

not_inside : (rs : List (ℕ × ℕ)) (i : ℕ) → Outside rs i → is_inside rs i ≡ false
not_inside [] i out = refl
not_inside (r ∷ rs) i out =
    let here : (nat_le r.0 i && nat_lt i (r.0 + r.1))
    ≡ false = ⊎_elim (λ low. and_left (nat_le r.0 i) (nat_lt i (r.0 + r.1)) (lt-leb r.0 i low))
    (λ high. and_right (nat_le r.0 i) (nat_lt i (r.0 + r.1)) (le-ltb i (r.0 + r.1) high)) out.0 in
    ap (λ b. b || is_inside rs i) here ∙ not_inside rs i out.1

same_size : (rs : List (ℕ × ℕ)) (i : ℕ) (c d : List ℕ) → are_same_outside rs i c d ≡ true → length c ≡ length d
same_size rs i [] [] same = refl
same_size rs i [] (d ∷ ds) same = cc
same_size rs i (c ∷ cs) [] same = cc
same_size rs i (c ∷ cs) (d ∷ ds) same = ap suc
    (same_size rs (i + 1) cs ds (and_parts (c == d || is_inside rs i) (are_same_outside rs (i + 1) cs ds) same).1)

same_outside : (rs : List (ℕ × ℕ)) (i : ℕ) (c d : List ℕ) → are_same_outside rs i c d ≡ true → (k : ℕ)
    → Outside rs (i + k) → get_or c k 0 ≡ get_or d k 0
same_outside rs i [] [] same k out = refl
same_outside rs i [] (d ∷ ds) same k out = cc
same_outside rs i (c ∷ cs) [] same k out = cc
same_outside rs i (c ∷ cs) (d ∷ ds) same zero out =
    let parts = and_parts (c == d || is_inside rs i) (are_same_outside rs (i + 1) cs ds) same in
    let here : i + zero ≡ i = omega arith in
    ⊎_elim
    (λ equal. eqb-true c d equal)
    (λ inside. absurd (both_ways (is_inside rs i) (not_inside rs i (subst (Outside rs) here out)) inside))
    (or_cases (c == d) (is_inside rs i) parts.0)
same_outside rs i (c ∷ cs) (d ∷ ds) same (suc k) out =
    let parts = and_parts (c == d || is_inside rs i) (are_same_outside rs (i + 1) cs ds) same in
    let next : i + suc k ≡ i + 1 + k = omega arith in
    same_outside rs (i + 1) cs ds parts.1 k (subst (Outside rs) next out)

shaken_if : (outcome : List ℕ) (m : Moment) (b : Bool) → are_same_outside m.ranges 0 outcome m.bytes ≡ b
    → Shaken m (record { bytes = if b then outcome else m.bytes; ranges = m.ranges })
shaken_if outcome m true is = record {
  size = same_size m.ranges 0 outcome m.bytes is;
  same = λ i out. let at : i
      ≡ 0 + i = omega arith in same_outside m.ranges 0 outcome m.bytes is i (subst (Outside m.ranges) at out);
  ranges = inl refl;
}
shaken_if outcome m false is = record { size = refl; same = λ i out. refl; ranges = inl refl }

pub shaken_by_outcome : (outcome : List ℕ) (m : Moment) → Shaken m (shaken_by outcome m)
shaken_by_outcome outcome m = shaken_if outcome m (are_same_outside m.ranges 0 outcome m.bytes) refl

torn_if : (at n : ℕ) (outcome : List ℕ) (m : Moment) (b : Bool) → (length outcome == n) ≡ b → at + n ≤ length m.bytes
    → Torn at n m (record { bytes = if b then overlaid m.bytes at outcome else m.bytes; ranges = (at, n) ∷ m.ranges })
torn_if at n outcome m true is fits =
    let long : length outcome ≡ n = eqb-true (length outcome) n is in
    let room : at + length outcome ≤ length m.bytes = omega (arith, long, fits) in
    record {
      size = length-overlaid m.bytes at outcome room;
      same = λ i out. overlaid_outside m.bytes at outcome room i
          (⊎_elim (λ (low : i < at). inl low) (λ (high : at + n ≤ i). inr (omega (arith, long, high))) out);
      ranges = refl;
    }
torn_if at n outcome m false is fits = record { size = refl; same = λ i out. refl; ranges = refl }

pub torn_by_outcome : (at n : ℕ) (outcome : List ℕ) (m : Moment) → at + n ≤ length m.bytes
    → Torn at n m (torn_by at n outcome m)
torn_by_outcome at n outcome m fits = torn_if at n outcome m (length outcome == n) refl fits
