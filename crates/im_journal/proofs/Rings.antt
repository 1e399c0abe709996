-- A run from a later command on, and what is behind it then.
use Rattle.std.proofs.Common.{◌≡◌, ℕ, zero, suc, ◌+◌, ◌-◌, ◌*◌, ◌%◌, ◌<◌, ◌≤◌, Bool, true, false, ◌&&◌, List, [], ◌∷◌}
use Rattle.std.proofs.Common.{length, take, drop, if◌then◌else◌, nat_lt, ◌==◌, Some, sym, refl, ap, ◌∙◌, subst, inl}
use Rattle.std.proofs.Common.{inr, arith, ltb-true, lt-ltb}
use Rattle.std.proofs.{lemmas.Bool.Decides.nat_tests, Math.Nat.add-mul-mod_self_right}
use Rattle.im_types.specs.Types.{Command, LAST, is_open, group_of, sequence_of, read_in, Ring, run_from, if_true, leads}
use Rattle.im_types.specs.Types.{commands_in, is_boundary, closed_from, are_stale, slot, continues}
use Rattle.im_types.proofs.Tests.{and_both}
use Rattle.im_journal.proofs.Runs.{bool_cases, firsts, goes, stops, test_true}

same_number : (m n : ℕ) → (m == n) ≡ true → m ≡ n
same_number m n is = grind (arith, nat_tests)

pub other_number : (m n : ℕ) → (m ≡ n → ⊥) → (m == n) ≡ false
other_number m n apart = by_test (m == n) refl
  where
    by_test : (b : Bool) → (m == n) ≡ b → b ≡ false
    by_test true is = absurd (apart (same_number m n is))
    by_test false is = refl

-- an open slot is of the command that it continues with, and of no other
pub continues_is : (bytes : List ℕ) (s : ℕ) → continues bytes s ≡ true → (is_open bytes ≡ true)
    × (sequence_of bytes ≡ s)
unfolding continues
continues_is bytes s is =
    let both = and_both (is_open bytes) (sequence_of bytes == s)
    (and_both (is_open bytes && (sequence_of bytes == s)) (nat_lt s LAST) is).0 in
    (both.0, same_number (sequence_of bytes) s both.1)

pub continues_not : (bytes : List ℕ) (s : ℕ) → (sequence_of bytes ≡ s → ⊥) → continues bytes s ≡ false
unfolding continues
continues_not bytes s apart =
    ap (λ (b : Bool). is_open bytes && b && nat_lt s LAST) (other_number (sequence_of bytes) s apart)
    ∙ none (is_open bytes)
  where
    none : (b : Bool) → (b && false && nat_lt s LAST) ≡ false
    none true = refl
    none false = refl

-- once round the ring is the same slot
pub slot_round : (r : Ring) (s : ℕ) (c : List ℕ) → slot r (s + r.slots) c ≡ slot r s c
unfolding slot
slot_round r s c =
    let same : (s + r.slots) % r.slots ≡ s % r.slots = ap (λ (n : ℕ). n % r.slots) (omega arith)
    ∙ add-mul-mod_self_right s 1 r.slots in
    ap (λ (n : ℕ). take 64 (drop (r.base + 64 * n) c)) same

module _ (r : Ring) (c : List ℕ) where
  -- a run that has slots begins with one that continues
  pub first_continues : (fuel s : ℕ) → 0 < length (run_from r fuel 0 s c) → continues (slot r s c) s ≡ true
  first_continues zero s some = absurd (omega (arith, some))
  first_continues (suc fuel) s some = elim (bool_cases (continues (slot r s c) s)) [
    | inl is ↦ is
    | inr is ↦
        let none : length (run_from r (suc fuel) 0 s c) ≡ 0 = ap length (stops r (suc fuel) s c (λ more. is)) in
        absurd (omega (arith, none, some))
  ]

  -- a slot has its sequence number where the first one does, and each behind it
  by_place : (s n i : ℕ) → i < suc n → sequence_of (slot r s c) ≡ s
      → ((j : ℕ) → j < n → sequence_of (slot r (s + 1 + j) c) ≡ s + 1 + j) → sequence_of (slot r (s + i) c) ≡ s + i
  by_place s n zero low is rest = let same : s
      ≡ s + 0 = omega arith in subst (λ (m : ℕ). sequence_of (slot r m c) ≡ m) same is
  by_place s n (suc j) low is rest = let same : s + 1 + j
      ≡ s + suc j = omega arith in subst (λ (m : ℕ). sequence_of (slot r m c) ≡ m) same (rest j (omega (arith, low)))

  -- where the slots of a run are spelled, they have the sequence numbers from its first on
  pub nth_sequence : (fuel due s i : ℕ) (cs : List Command) → commands_in due s (run_from r fuel due s c) ≡ Some cs
      → i < length (run_from r fuel due s c) → sequence_of (slot r (s + i) c) ≡ s + i
  nth_sequence zero due s i cs read low = absurd (omega (arith, low))
  nth_sequence (suc fuel) zero s i cs read low = elim (bool_cases (continues (slot r s c) s)) [
    | inl is ↦
        let read_on : commands_in 0 s (slot r s c ∷ run_from r fuel (group_of (slot r s c) - 1) (s + 1) c)
        ≡ Some cs = subst (λ (l : List (List ℕ)). commands_in 0 s l ≡ Some cs) (goes r fuel s c is) read in
        let parts = firsts (if_true (leads s (slot r s c)) (read_in (group_of (slot r s c)) (slot r s c)))
        (commands_in (group_of (slot r s c) - 1) (s + 1)
        (run_from r fuel (group_of (slot r s c) - 1) (s + 1) c)) cs read_on in
        by_place s (length (run_from r fuel (group_of (slot r s c) - 1) (s + 1) c)) i
        (subst (λ (l : List (List ℕ)). i < length l) (goes r fuel s c is) low) (continues_is (slot r s c) s is).1
        (λ j less. nth_sequence fuel (group_of (slot r s c) - 1) (s + 1) j parts.1 parts.3 less)
    | inr is ↦
        let none : length (run_from r (suc fuel) 0 s c) ≡ 0 = ap length (stops r (suc fuel) s c (λ some. is)) in
        absurd (omega (arith, none, low))
  ]
  nth_sequence (suc fuel) (suc due) s i cs read low =
      let parts = firsts (if_true (sequence_of (slot r s c) == s) (read_in 0 (slot r s c)))
      (commands_in due (s + 1) (run_from r fuel due (s + 1) c)) cs read in
      by_place s (length (run_from r fuel due (s + 1) c)) i low
      (same_number (sequence_of (slot r s c)) s
      (test_true (sequence_of (slot r s c) == s) (read_in 0 (slot r s c)) parts.0 parts.2))
      (λ j less. nth_sequence fuel due (s + 1) j parts.1 parts.3 less)

  -- a run without its first groups is the run from there on
  pub run_dropped : (k fuel due s : ℕ) → is_boundary due k (run_from r fuel due s c) ≡ true
      → drop k (run_from r fuel due s c) ≡ run_from r (fuel - k) 0 (s + k) c
  run_dropped zero fuel zero s b = (λ i. run_from r (same_fuel i) 0 (same_start i) c)
    where
      same_fuel : fuel ≡ fuel - 0
      same_fuel = omega arith

      same_start : s ≡ s + 0
      same_start = omega arith
  run_dropped zero fuel (suc due) s b = absurd (cc)
  run_dropped (suc k) zero zero s b = absurd (cc)
  run_dropped (suc k) zero (suc due) s b = absurd (cc)
  run_dropped (suc k) (suc fuel) (suc due) s b = run_dropped k fuel due (s + 1) b
      ∙ (λ i. run_from r (fuel_left i) 0 (start i) c)
    where
      fuel_left : fuel - k ≡ suc fuel - suc k
      fuel_left = omega arith

      start : s + 1 + k ≡ s + suc k
      start = omega arith
  run_dropped (suc k) (suc fuel) zero s b = elim (bool_cases (continues (slot r s c) s)) [
    | inl is ↦
        ap (λ (l : List (List ℕ)). drop (suc k) l) (goes r fuel s c is)
        ∙ run_dropped k fuel (group_of (slot r s c) - 1) (s + 1)
        (subst (λ (l : List (List ℕ)). is_boundary 0 (suc k) l ≡ true) (goes r fuel s c is) b)
        ∙ (λ i. run_from r (fuel_left i) 0 (start i) c)
    | inr is ↦
        let none : is_boundary 0 (suc k) []
        ≡ true = subst (λ (l : List (List ℕ)). is_boundary 0 (suc k) l ≡ true)
        (stops r (suc fuel) s c (λ some. is)) b in
        absurd (cc)
  ]
    where
      fuel_left : fuel - k ≡ suc fuel - suc k
      fuel_left = omega arith

      start : s + 1 + k ≡ s + suc k
      start = omega arith

  -- a run that stops behind a whole group goes on no further with more slots allowed
  pub run_more : (a more due s : ℕ) → is_boundary due (length (run_from r a due s c)) (run_from r a due s c) ≡ true
      → (length (run_from r a due s c) ≡ a → 0 < more → continues (slot r (s + a) c) (s + a) ≡ false)
      → run_from r (a + more) due s c ≡ run_from r a due s c
  run_more zero more zero s whole ends =
      let none : 0 + more ≡ more = omega arith in
      let here : s + 0 ≡ s = omega arith in
      ap (λ (n : ℕ). run_from r n 0 s c) none
      ∙ stops r more s c (λ some. subst (λ (n : ℕ). continues (slot r n c) n ≡ false) here (ends refl some))
  run_more zero more (suc due) s whole ends = absurd (cc)
  run_more (suc a) more (suc due) s whole ends =
      ap (λ (n : ℕ). run_from r n (suc due) s c) one_less
      ∙ ap (λ (l : List (List ℕ)). slot r s c ∷ l)
      (run_more a more due (s + 1) whole
      (λ full some. subst (λ (n : ℕ). continues (slot r n c) n ≡ false) start
      (ends (ap (λ (n : ℕ). suc n) full) some)))
    where
      one_less : suc a + more ≡ suc (a + more)
      one_less = omega arith

      start : s + suc a ≡ s + 1 + a
      start = omega arith
  run_more (suc a) more zero s whole ends = elim (bool_cases (continues (slot r s c) s)) [
    | inl is ↦
        let due : ℕ = group_of (slot r s c) - 1 in
        let size : length (run_from r (suc a) 0 s c)
        ≡ suc (length (run_from r a (group_of (slot r s c) - 1) (s + 1) c)) = ap length (goes r a s c is) in
        let whole_rest : is_boundary (group_of (slot r s c) - 1)
        (length (run_from r a (group_of (slot r s c) - 1) (s + 1) c))
        (run_from r a (group_of (slot r s c) - 1) (s + 1) c) ≡ true =
        subst (λ (l : List (List ℕ)). is_boundary 0 (length l) l ≡ true) (goes r a s c is) whole in
        ap (λ (n : ℕ). run_from r n 0 s c) one_less ∙ goes r (a + more) s c is
        ∙ ap (λ (l : List (List ℕ)). slot r s c ∷ l)
        (run_more a more (group_of (slot r s c) - 1) (s + 1) whole_rest
        (λ full some. subst (λ (n : ℕ). continues (slot r n c) n ≡ false) start
        (ends (omega (arith, size, full)) some)))
        ∙ sym (goes r a s c is)
    | inr is ↦ stops r (suc a + more) s c (λ some. is) ∙ sym (stops r (suc a) s c (λ some. is))
  ]
    where
      one_less : suc a + more ≡ suc (a + more)
      one_less = omega arith

      start : s + suc a ≡ s + 1 + a
      start = omega arith

  -- closed gates up to an open one are no more with more slots allowed
  pub closed_more : (a more s : ℕ) → (closed_from r a s c ≡ a → 0 < more → is_open (slot r (s + a) c) ≡ true)
      → closed_from r (a + more) s c ≡ closed_from r a s c
  closed_more zero zero s ends = refl
  closed_more zero (suc more) s ends =
      let here : s + 0 ≡ s = omega arith in
      let none : 0 + suc more ≡ suc more = omega arith in
      ap (λ (n : ℕ). closed_from r n s c) none
      ∙ ap (λ (b : Bool). if b then 0 else suc (closed_from r more (s + 1) c))
      (subst (λ (n : ℕ). is_open (slot r n c) ≡ true) here (ends refl (omega arith)))
  closed_more (suc a) more s ends =
      let one_less : suc a + more ≡ suc (a + more) = omega arith in
      ap (λ (n : ℕ). closed_from r n s c) one_less
      ∙ by_gate (is_open (slot r s c)) refl (λ known. closed_more a more (s + 1) known)
    where
      start : s + suc a ≡ s + 1 + a
      start = omega arith

      by_gate : (b : Bool) → is_open (slot r s c) ≡ b
          → (((closed_from r a (s + 1) c ≡ a → 0 < more → is_open (slot r (s + 1 + a) c) ≡ true))
          → closed_from r (a + more) (s + 1) c ≡ closed_from r a (s + 1) c)
          → (if b then 0 else suc (closed_from r (a + more) (s + 1) c))
          ≡ (if b then 0 else suc (closed_from r a (s + 1) c))
      by_gate true is rest = refl
      by_gate false is rest = ap (λ (n : ℕ). suc n)
          (rest (λ whole some. subst (λ (n : ℕ). is_open (slot r n c) ≡ true) start
          (ends (ap (λ (b : Bool). if b then 0 else suc (closed_from r a (s + 1) c)) is
          ∙ ap (λ (n : ℕ). suc n) whole) some)))

  -- stale slots one after another
  pub stale_joined : (a b s first : ℕ) → are_stale r a s first c ≡ true → are_stale r b (s + a) first c ≡ true
      → are_stale r (a + b) s first c ≡ true
  stale_joined zero b s first front back =
      let here : s + 0 ≡ s = omega arith in
      let none : b ≡ 0 + b = omega arith in
      subst (λ (n : ℕ). are_stale r n s first c ≡ true) none
      (subst (λ (n : ℕ). are_stale r b n first c ≡ true) here back)
  stale_joined (suc a) b s first front back =
      let both = and_both (nat_lt (sequence_of (slot r s c)) first) (are_stale r a (s + 1) first c) front in
      let one_less : suc a + b ≡ suc (a + b) = omega arith in
      let start : s + suc a ≡ s + 1 + a = omega arith in
      ap (λ (n : ℕ). are_stale r n s first c) one_less
      ∙ ap (λ (t : Bool). t && are_stale r (a + b) (s + 1) first c) both.0
      ∙ stale_joined a b (s + 1) first both.1 (subst (λ (n : ℕ). are_stale r b n first c ≡ true) start back)

  -- each slot is stale by itself
  pub stale_each : (n s first : ℕ) → ((i : ℕ) → i < n → sequence_of (slot r (s + i) c) < first)
      → are_stale r n s first c ≡ true
  stale_each zero s first each = refl
  stale_each (suc n) s first each =
      let same : s + 0 ≡ s = omega arith in
      let here : sequence_of (slot r s c) < first = subst (λ (m : ℕ). sequence_of (slot r m c) < first) same
      (each 0 (omega arith)) in
      ap (λ (t : Bool). t && are_stale r n (s + 1) first c) (lt-ltb (sequence_of (slot r s c)) first here)
      ∙ stale_each n (s + 1) first
      (λ i low. let start : s + suc i
      ≡ s + 1 + i = omega arith in subst (λ (m : ℕ). sequence_of (slot r m c) < first) start
      (each (suc i) (omega (arith, low))))

  pub stale_at : (n s first i : ℕ) → are_stale r n s first c ≡ true → i < n → sequence_of (slot r (s + i) c) < first
  stale_at zero s first i stale low = absurd (omega (arith, low))
  stale_at (suc n) s first i stale low =
      let both = and_both (nat_lt (sequence_of (slot r s c)) first) (are_stale r n (s + 1) first c) stale in
      by_place i low both.0 (λ j less. stale_at n (s + 1) first j both.1 less)
    where
      by_place : (i : ℕ) → i < suc n → nat_lt (sequence_of (slot r s c)) first ≡ true
          → ((j : ℕ) → j < n → sequence_of (slot r (s + 1 + j) c) < first) → sequence_of (slot r (s + i) c) < first
      by_place zero low here rest = let same : s
          ≡ s + 0 = omega arith in subst (λ (m : ℕ). sequence_of (slot r m c) < first) same
          (ltb-true (sequence_of (slot r s c)) first here)
      by_place (suc j) low here rest = let same : s + 1 + j
          ≡ s + suc j = omega arith in subst (λ (m : ℕ). sequence_of (slot r m c) < first) same
          (rest j (omega (arith, low)))

-- as many gates are closed as are known to be
pub closed_at_least : (r : Ring) (c : List ℕ) (n s m : ℕ) → m ≤ n
    → ((j : ℕ) → j < m → is_open (slot r (s + j) c) ≡ false) → m ≤ closed_from r n s c
closed_at_least r c n s zero few shut = omega arith
closed_at_least r c zero s (suc m) few shut = absurd (omega (arith, few))
closed_at_least r c (suc n) s (suc m) few shut =
    let same : s + 0 ≡ s = omega arith in
    let here : is_open (slot r s c)
    ≡ false = subst (λ (k : ℕ). is_open (slot r k c) ≡ false) same (shut 0 (omega arith)) in
    let rest : m ≤ closed_from r n (s + 1) c = closed_at_least r c n (s + 1) m (omega (arith, few))
    (λ j less. let start : s + suc j
    ≡ s + 1 + j = omega arith in subst (λ (k : ℕ). is_open (slot r k c) ≡ false) start
    (shut (suc j) (omega (arith, less)))) in
    subst (λ (b : Bool). suc m ≤ (if b then 0 else suc (closed_from r n (s + 1) c))) (sym here) (omega (arith, rest))

pub closed_at : (r : Ring) (c : List ℕ) (n s j : ℕ) → j < closed_from r n s c → is_open (slot r (s + j) c) ≡ false
closed_at r c zero s j less = absurd (omega (arith, less))
closed_at r c (suc n) s j less = by_gate (is_open (slot r s c)) refl j less (λ i low. closed_at r c n (s + 1) i low)
  where
    by_gate : (b : Bool) → is_open (slot r s c) ≡ b → (j : ℕ) → j < (if b then 0 else suc (closed_from r n (s + 1) c))
        → ((i : ℕ) → i < closed_from r n (s + 1) c → is_open (slot r (s + 1 + i) c) ≡ false)
        → is_open (slot r (s + j) c) ≡ false
    by_gate true is j low rest = absurd (omega (arith, low))
    by_gate false is zero low rest = let same : s
        ≡ s + 0 = omega arith in subst (λ (k : ℕ). is_open (slot r k c) ≡ false) same is
    by_gate false is (suc i) low rest = let start : s + 1 + i
        ≡ s + suc i = omega arith in subst (λ (k : ℕ). is_open (slot r k c) ≡ false) start (rest i (omega (arith, low)))

pub continues_closed : (bytes : List ℕ) (s : ℕ) → is_open bytes ≡ false → continues bytes s ≡ false
unfolding continues
continues_closed bytes s shut = ap (λ (b : Bool). b && (sequence_of bytes == s) && nat_lt s LAST) shut
