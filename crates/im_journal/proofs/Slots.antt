-- Where the slots of a ring stand, and on which bytes they depend.
use Rattle.std.proofs.Common.{◌≡◌, ℕ, ◌+◌, ◌*◌, ◌/◌, ◌%◌, ◌<◌, ◌≤◌, Bool, true, false, ◌&&◌, ◌≢◌, ◌⊎◌, List, length}
use Rattle.std.proofs.Common.{get_or, take, drop, nat_lt, ◌==◌, sym, refl, ap, ◌∙◌, inl, inr, ⊎_elim, arith}
use Rattle.std.proofs.Common.{length-drop, length-take, get_or-drop, get_or-take, drop-drop, ext_get_or, eq-eqb, ne_eqb}
use Rattle.std.proofs.{lemmas.Bool.cases_lt, lemmas.List.drop-take, Math.Nat.mod-lt, Math.Nat.mul-le-mul_left}
use Rattle.im_types.specs.Types.{LAST, open_gate, is_open, sequence_of, Ring, slot_offset, slot, continues}

-- numbers less than k apart have different remainders
apart : (k a b : ℕ) → 0 < k → a < b → b < a + k → a % k ≡ b % k → ⊥
apart k a b some lt near same = ⊎_elim
    (λ (low : a / k < b / k). let up : k * (a / k + 1) ≤ k * (b / k) = mul-le-mul_left k (omega arith) in omega arith)
    (λ (high : b / k ≤ a / k). let down : k * (b / k) ≤ k * (a / k) = mul-le-mul_left k high in omega arith)
    (cases_lt (a / k) (b / k))

module _ (r : Ring) (some : 0 < r.slots) where
  -- a slot lies in the ring
  pub slot_inside : (s : ℕ) → slot_offset r s + 64 ≤ r.base + 64 * r.slots
  slot_inside s = let low : s % r.slots < r.slots = mod-lt s some in omega arith

  -- so their slots don't touch
  beside : (a b i : ℕ) → (a % r.slots ≡ b % r.slots → ⊥) → slot_offset r a ≤ i → i < slot_offset r a + 64
      → (i < slot_offset r b)
      ⊎ (slot_offset r b + 64 ≤ i)
  beside a b i differ low high = ⊎_elim
      (λ (first : a % r.slots < b % r.slots). inl (omega arith))
      (λ (ge : b % r.slots ≤ a % r.slots). ⊎_elim
      (λ (second : b % r.slots < a % r.slots). inr (omega arith))
      (λ (le : a % r.slots ≤ b % r.slots). absurd (differ (omega arith)))
      (cases_lt (b % r.slots) (a % r.slots)))
      (cases_lt (a % r.slots) (b % r.slots))

  pub away : (a b i : ℕ) → a < b → b < a + r.slots → slot_offset r a ≤ i → i < slot_offset r a + 64
      → (i < slot_offset r b)
      ⊎ (slot_offset r b + 64 ≤ i)
  away a b i lt near low high = beside a b i (apart r.slots a b some lt near) low high

  pub away_after : (a b i : ℕ) → b < a → a < b + r.slots → slot_offset r a ≤ i → i < slot_offset r a + 64
      → (i < slot_offset r b)
      ⊎ (slot_offset r b + 64 ≤ i)
  away_after a b i lt near low high = beside a b i (λ e. apart r.slots b a some lt near (sym e)) low high

-- a byte beside a slot is no part of it
pub or_at : (i a : ℕ) → (i < a) ⊎ (a + 64 ≤ i) → (i ≤ a) ⊎ (a + 64 ≤ i)
or_at i a (inl lt) = inl (omega (arith, lt))
or_at i a (inr ge) = inr ge

pub not_in : (i a : ℕ) → (i < a) ⊎ (a + 64 ≤ i) → i ≡ a → ⊥
not_in i a (inl lt) is = absurd (omega (arith, lt, is))
not_in i a (inr ge) is = absurd (omega (arith, ge, is))

-- a slot is its 64 bytes
pub same_slot : (r : Ring) (s : ℕ) (c d : List ℕ) → length c ≡ length d
    → ((i : ℕ) → slot_offset r s ≤ i → i < slot_offset r s + 64 → get_or c i 0 ≡ get_or d i 0) → slot r s c ≡ slot r s d
unfolding slot
same_slot r s c d size same = ext_get_or 0 (take 64 (drop (slot_offset r s) c))
    (take 64 (drop (slot_offset r s) d)) lengths each
  where
    lengths : length (take 64 (drop (slot_offset r s) c)) ≡ length (take 64 (drop (slot_offset r s) d))
    lengths = omega (
      arith,
      length-take 64 (drop (slot_offset r s) c),
      length-drop (slot_offset r s) c,
      length-take 64
          (drop (slot_offset r s) d),
      length-drop (slot_offset r s) d,
    )

    each : (i : ℕ) → i < length (take 64 (drop (slot_offset r s) c)) → get_or (take 64 (drop (slot_offset r s) c)) i 0
        ≡ get_or (take 64 (drop (slot_offset r s) d)) i 0
    each i lt =
        let short : i < 64 = omega (arith, length-take 64 (drop (slot_offset r s) c)) in
        get_or-take 64 (drop (slot_offset r s) c) i 0 short ∙ get_or-drop (slot_offset r s) c i 0
        ∙ same (slot_offset r s + i) (omega arith) (omega arith)
        ∙ sym (get_or-take 64 (drop (slot_offset r s) d) i 0 short ∙ get_or-drop (slot_offset r s) d i 0)

-- what is behind its gate is 63 of them
pub same_body : (r : Ring) (s : ℕ) (c d : List ℕ) → length c ≡ length d
    → ((i : ℕ) → slot_offset r s < i → i < slot_offset r s + 64 → get_or c i 0 ≡ get_or d i 0) → drop 1 (slot r s c)
    ≡ drop 1 (slot r s d)
unfolding slot
same_body r s c d size same =
    drop-take 1 63 (drop (slot_offset r s) c) ∙ ap (λ (l : List ℕ). take 63 l) (drop-drop 1 (slot_offset r s) c)
    ∙ ext_get_or 0 (take 63 (drop (slot_offset r s + 1) c)) (take 63 (drop (slot_offset r s + 1) d)) lengths each
    ∙ sym (drop-take 1 63 (drop (slot_offset r s) d) ∙ ap (λ (l : List ℕ). take 63 l) (drop-drop 1 (slot_offset r s) d))
  where
    lengths : length (take 63 (drop (slot_offset r s + 1) c)) ≡ length (take 63 (drop (slot_offset r s + 1) d))
    lengths = omega (
      arith,
      size,
      length-take 63 (drop (slot_offset r s + 1) c),
      length-drop
          (slot_offset r s + 1) c,
      length-take 63 (drop (slot_offset r s + 1) d),
      length-drop (slot_offset r s + 1) d,
    )

    each : (i : ℕ) → i < length (take 63 (drop (slot_offset r s + 1) c))
        → get_or (take 63 (drop (slot_offset r s + 1) c)) i 0 ≡ get_or (take 63 (drop (slot_offset r s + 1) d)) i 0
    each i lt =
        let short : i < 63 = omega (arith, lt, length-take 63 (drop (slot_offset r s + 1) c)) in
        get_or-take 63 (drop (slot_offset r s + 1) c) i 0 short ∙ get_or-drop (slot_offset r s + 1) c i 0
        ∙ same (slot_offset r s + 1 + i) (omega arith) (omega (arith, short))
        ∙ sym (get_or-take 63 (drop (slot_offset r s + 1) d) i 0 short ∙ get_or-drop (slot_offset r s + 1) d i 0)

pub body_is : (r : Ring) (s : ℕ) (file bytes : List ℕ) → length bytes ≡ 63
    → take (length bytes) (drop (slot_offset r s + 1) file) ≡ bytes → drop 1 (slot r s file) ≡ bytes
unfolding slot
body_is r s file bytes long e =
    drop-take 1 63 (drop (slot_offset r s) file)
    ∙ ap (λ (l : List ℕ). take 63 l) (drop-drop 1 (slot_offset r s) file)
    ∙ ap (λ (n : ℕ). take n (drop (slot_offset r s + 1) file)) (sym long) ∙ e

-- a slot's gate is its first byte
gate_of : (r : Ring) (s : ℕ) (file : List ℕ) → get_or (slot r s file) 0 0 ≡ get_or file (slot_offset r s) 0
unfolding slot
gate_of r s file =
    get_or-take 64 (drop (slot_offset r s) file) 0 0 (omega arith) ∙ get_or-drop (slot_offset r s) file 0 0
    ∙ ap (λ (k : ℕ). get_or file k 0) (omega arith)

pub closed_gate : (r : Ring) (s : ℕ) (file : List ℕ) → get_or file (slot_offset r s) 0 ≢ open_gate
    → is_open (slot r s file) ≡ false
closed_gate r s file shut = ne_eqb (get_or (slot r s file) 0 0) open_gate (λ e. shut (sym (gate_of r s file) ∙ e))

pub opened_gate : (r : Ring) (s : ℕ) (file : List ℕ) → get_or file (slot_offset r s) 0 ≡ open_gate
    → is_open (slot r s file) ≡ true
opened_gate r s file is = eq-eqb (get_or (slot r s file) 0 0) open_gate (gate_of r s file ∙ is)

pub same_gate : (r : Ring) (s : ℕ) (c d : List ℕ) → get_or c (slot_offset r s) 0 ≡ get_or d (slot_offset r s) 0
    → is_open (slot r s c) ≡ is_open (slot r s d)
same_gate r s c d same = ap (λ (b : ℕ). b == open_gate) (gate_of r s c ∙ same ∙ sym (gate_of r s d))

-- no slot's gate is behind the gate of a slot
pub no_gate_behind : (r : Ring) (a b : ℕ)
    → (slot_offset r a ≤ slot_offset r b) ⊎ (slot_offset r b + 64 ≤ slot_offset r a)
no_gate_behind r a b = ⊎_elim
    (λ (low : b % r.slots < a % r.slots). inr (omega (arith, low)))
    (λ (high : a % r.slots ≤ b % r.slots). inl (omega (arith, high)))
    (cases_lt (b % r.slots) (a % r.slots))

pub gate_closed : (r : Ring) (s : ℕ) (file : List ℕ) → is_open (slot r s file) ≡ false
    → get_or file (slot_offset r s) 0 ≢ open_gate
gate_closed r s file shut e = clash (sym (eq-eqb (get_or (slot r s file) 0 0) open_gate (gate_of r s file ∙ e)) ∙ shut)
  where
    clash : true ≡ false → ⊥
    clash h = cc

-- a run stops at a closed gate, at another sequence number, and at the last one
pub stops_closed : (bytes : List ℕ) (s : ℕ) → is_open bytes ≡ false → continues bytes s ≡ false
unfolding continues
stops_closed bytes s shut = ap (λ (b : Bool). b && (sequence_of bytes == s) && nat_lt s LAST) shut

and_false : (a b : Bool) → b ≡ false → (a && b) ≡ false
and_false true b e = e
and_false false b e = refl

and_first : (a b : Bool) → a ≡ false → (a && b) ≡ false
and_first a b e = ap (λ (x : Bool). x && b) e

pub stops_other : (bytes : List ℕ) (s : ℕ) → sequence_of bytes < s → continues bytes s ≡ false
unfolding continues
stops_other bytes s other = and_first (is_open bytes && (sequence_of bytes == s)) (nat_lt s LAST)
    (and_false (is_open bytes) (sequence_of bytes == s)
    (ne_eqb (sequence_of bytes) s (λ e. less (sequence_of bytes) s other e)))
  where
    less : (a b : ℕ) → a < b → a ≡ b → ⊥
    less a b lt e = absurd (omega arith)

both : (a b c : Bool) → a ≡ true → b ≡ true → c ≡ true → (a && b && c) ≡ true
both true true true x y z = refl
both true true false x y z = z
both true false c x y z = absurd (cc)
both false b c x y z = absurd (cc)

pub goes_on : (bytes : List ℕ) (s : ℕ) → is_open bytes ≡ true → sequence_of bytes ≡ s → nat_lt s LAST ≡ true
    → continues bytes s ≡ true
unfolding continues
goes_on bytes s open_here same low = both (is_open bytes) (sequence_of bytes == s) (nat_lt s LAST) open_here
    (eq-eqb (sequence_of bytes) s same) low

last_of : (a b c : Bool) → (a && b && c) ≡ true → (a ≡ true) × (c ≡ true)
last_of true true c e = (refl, e)
last_of true false c e = absurd (cc)
last_of false b c e = absurd (cc)

pub below_last : (bytes : List ℕ) (s : ℕ) → continues bytes s ≡ true → nat_lt s LAST ≡ true
unfolding continues
below_last bytes s e = (last_of (is_open bytes) (sequence_of bytes == s) (nat_lt s LAST) e).1
