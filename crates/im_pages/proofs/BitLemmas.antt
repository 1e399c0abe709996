-- Bits in words.
use Rattle.std.proofs.Common.{◌≡◌, ℕ, zero, suc, ◌+◌, ◌-◌, ◌*◌, ◌/◌, ◌%◌, ◌^◌, ◌<◌, ◌≤◌, min, max, Bool, true, false}
use Rattle.std.proofs.Common.{◌||◌, ◌≢◌, List, length, get_or, set, replicate, ◌==◌, bit_and, bit_or, sym, refl, ap}
use Rattle.std.proofs.Common.{◌∙◌, ⊎_elim, arith, length-set, get_or-set_other, get_or-set_same, ext_get_or, w64}
use Rattle.std.proofs.Common.{eq-eqb}
use Rattle.std.proofs.lemmas.Bool.{cases_eq, cases_lt, Decides.nat_tests}
use Rattle.std.proofs.lemmas.List.{get_or-replicate, length-replicate}
use Rattle.std.proofs.lemmas.Nat.{and_le_l, Bits.bit_at-lt, Bits.bit_at-trailing_zeros, Bits.bit_at-zero}
use Rattle.std.proofs.lemmas.Nat.{Bits.bit_at_and, Bits.bit_at_mask_below, Bits.bit_at_mask_inside, Bits.bit_at_ones}
use Rattle.std.proofs.lemmas.Nat.{Bits.bit_at_or, Bits.bit_at_set_other, Bits.bit_at_set_same, Bits.ones_shl}
use Rattle.std.specs.Int.{bit_at, trailing_zeros}
use Rattle.im_pages.specs.Words.{AreClear, bits_from, bits_of, is_set, IsFirstSet}

-- ---- a list of bits

pub length-bits : (words : List ℕ) (at n : ℕ) → length (bits_from words at n) ≡ n
unfolding bits_from
length-bits words at zero = refl
length-bits words at (suc n) = ap suc (length-bits words (at + 1) n)

read-from : (words : List ℕ) (at n k : ℕ) (d : Bool) → k < n → get_or (bits_from words at n) k d ≡ is_set words (at + k)
unfolding bits_from
read-from words at zero k d lt = absurd (omega (arith, lt))
read-from words at (suc n) zero d lt = ap (is_set words) (omega arith)
read-from words at (suc n) (suc k) d lt = read-from words (at + 1) n k d (omega (arith, lt))
    ∙ ap (is_set words) (omega arith)

pub read : (words : List ℕ) (n k : ℕ) (d : Bool) → k < n → get_or (bits_of words n) k d ≡ is_set words k
read words n k d lt = read-from words 0 n k d lt ∙ ap (is_set words) (omega arith)

-- a list is that of the bits that it reads as
pub same_bits : (words : List ℕ) (n : ℕ) (bits : List Bool) → length bits ≡ n
    → ((k : ℕ) → k < n → is_set words k ≡ get_or bits k false) → bits_of words n ≡ bits
same_bits words n bits long each =
    ext_get_or false (bits_of words n) bits (length-bits words 0 n ∙ sym long)
    (λ k lt. let inside : k < n = omega (arith, lt, length-bits words 0 n) in read words n k false inside
    ∙ each k inside)

-- ---- one word

pub at_word : (words : List ℕ) (i v bit : ℕ) → i < length words → bit / 64 ≡ i → is_set (set words i v) bit
    ≡ (bit_at v (bit % 64) == 1)
unfolding is_set
at_word words i v bit lt same = ap (λ x. bit_at x (bit % 64) == 1)
    (ap (λ k. get_or (set words i v) k 0) same ∙ get_or-set_same words i v 0 lt)

pub at_other : (words : List ℕ) (i v bit : ℕ) → bit / 64 ≢ i → is_set (set words i v) bit ≡ is_set words bit
unfolding is_set
at_other words i v bit apart = ap (λ x. bit_at x (bit % 64) == 1) (get_or-set_other words i (bit / 64) v 0 apart)

pub old_word : (words : List ℕ) (i bit : ℕ) → bit / 64 ≡ i → is_set words bit
    ≡ (bit_at (get_or words i 0) (bit % 64) == 1)
unfolding is_set
old_word words i bit same = ap (λ k. bit_at (get_or words k 0) (bit % 64) == 1) same

pub other_is : (a b : ℕ) → a ≢ b → (a == b) ≡ false
other_is a b apart = grind (arith, nat_tests)

pub or_true : (b c : Bool) → b ≡ true → (b || c) ≡ true
or_true b c e = ap (λ x. x || c) e

pub or_false : (b c : Bool) → b ≡ false → (b || c) ≡ c
or_false b c e = ap (λ x. x || c) e

-- a bit is set
pub bit-set : (words : List ℕ) (at bit : ℕ) → at / 64 < length words
    → is_set (set words (at / 64) (bit_or (get_or words (at / 64) 0) (1 * 2 ^ (at % 64) % 2 ^ 64))) bit
    ≡ (bit == at || is_set words bit)
bit-set words at bit lt = ⊎_elim
    (λ same.
    let row : bit / 64 ≡ at / 64 = ap (λ k. k / 64) same in
    let place : bit % 64 ≡ at % 64 = ap (λ k. k % 64) same in
    let low : at % 64 < 64 = omega arith in
    at_word words (at / 64) new bit lt row
    ∙ ap (λ k. bit_at new k == 1) place
    ∙ eq-eqb _ 1 (bit_at_set_same w64 (get_or words (at / 64) 0) (at % 64) low)
    ∙ sym (or_true (bit == at) (is_set words bit) (eq-eqb bit at same)))
    (λ apart.
    (⊎_elim
    (λ row.
    let low : at % 64 < 64 = omega arith in
    at_word words (at / 64) new bit lt row
    ∙ ap (λ x. x == 1) (bit_at_set_other w64 (get_or words (at / 64) 0) (at % 64) low (bit % 64)
    (λ place. apart (omega (arith, row, place))))
    ∙ sym (old_word words (at / 64) bit row))
    (λ other. at_other words (at / 64) new bit other)
    (cases_eq (bit / 64) (at / 64)))
    ∙ sym (or_false (bit == at) (is_set words bit) (other_is bit at apart)))
    (cases_eq bit at)
  where
    new : ℕ
    new = bit_or (get_or words (at / 64) 0) (1 * 2 ^ (at % 64) % 2 ^ 64)

-- ---- all words

or_ones : (a b : ℕ) → a < 2 → b < 2 → (max a b == 1) ≡ (a == 1 || b == 1)
or_ones zero zero p q = refl
or_ones zero (suc zero) p q = refl
or_ones (suc zero) zero p q = refl
or_ones (suc zero) (suc zero) p q = refl
or_ones zero (suc (suc b)) p q = absurd (omega (arith, q))
or_ones (suc zero) (suc (suc b)) p q = absurd (omega (arith, q))
or_ones (suc (suc a)) b p q = absurd (omega (arith, p))

-- words that are each the union of two
pub bits-set : (words old other : List ℕ) → ((k : ℕ) → get_or words k 0 ≡ bit_or (get_or old k 0) (get_or other k 0))
    → (bit : ℕ) → is_set words bit ≡ (is_set old bit || is_set other bit)
unfolding is_set
bits-set words old other each bit =
    ap (λ x. bit_at x (bit % 64) == 1) (each (bit / 64))
    ∙ ap (λ x. x == 1) (bit_at_or (get_or old (bit / 64) 0) (get_or other (bit / 64) 0) (bit % 64))
    ∙ or_ones (bit_at (get_or old (bit / 64) 0) (bit % 64)) (bit_at (get_or other (bit / 64) 0) (bit % 64))
    (bit_at-lt _ _) (bit_at-lt _ _)

pub bits-none : (m bit : ℕ) → bit / 64 < m → is_set (replicate m 0) bit ≡ false
unfolding is_set
bits-none m bit lt = ap (λ x. bit_at x (bit % 64) == 1) (get_or-replicate m (bit / 64) 0 0 lt)
    ∙ ap (λ x. x == 1) (bit_at-zero (bit % 64))

pub bits-all : (m bit : ℕ) → bit / 64 < m → is_set (replicate m (2 ^ 64 - 1)) bit ≡ true
unfolding is_set
bits-all m bit lt =
    let low : bit % 64 < 64 = omega arith in
    ap (λ x. bit_at x (bit % 64) == 1) (get_or-replicate m (bit / 64) (2 ^ 64 - 1) 0 lt)
    ∙ eq-eqb _ 1 (bit_at_ones 64 (bit % 64) low)

-- ---- the first bit that is set

-- so far no bit is set, and of this word none below the first one asked for
pub record Looks (words : List ℕ) (from at word : ℕ) : Type 0 where
  pub inside : at < length words
  pub near : from < 64 * at + 64
  pub fits : word < 2 ^ 64
  pub clear : AreClear words from (64 * at)
  pub own : (k : ℕ) → k < 64 → from ≤ 64 * at + k → (bit_at word k == 1) ≡ is_set words (64 * at + k)
  pub low : (k : ℕ) → k < 64 → 64 * at + k < from → bit_at word k ≡ 0

in_word : (words : List ℕ) (at k : ℕ) → k < 64 → is_set words (64 * at + k) ≡ (bit_at (get_or words at 0) k == 1)
in_word words at k lt =
    let row : (64 * at + k) / 64 ≡ at = omega (arith, lt) in
    let place : (64 * at + k) % 64 ≡ k = omega (arith, lt) in
    old_word words at (64 * at + k) row ∙ ap (λ i. bit_at (get_or words at 0) i == 1) place

min_one : (a b : ℕ) → a < 2 → b ≡ 1 → min a b ≡ a
min_one a b lt e = omega arith

min_none : (a b : ℕ) → b ≡ 0 → min a b ≡ 0
min_none a b e = omega arith

pub looks : (words : List ℕ) (from : ℕ) → from / 64 < length words → get_or words (from / 64) 0 < 2 ^ 64
    → Looks words from (from / 64) (bit_and (get_or words (from / 64) 0) ((2 ^ 64 - 1) * 2 ^ (from % 64) % 2 ^ 64))
looks words from lt fit = record {
  inside = lt;
  near = omega arith;
  fits = omega (arith, and_le_l (get_or words (from / 64) 0) mask, fit);
  clear = λ bit low high. absurd (omega arith);
  own = λ k small behind.
      ap (λ x. x == 1) (bit k
      ∙ min_one (bit_at (get_or words (from / 64) 0) k) (bit_at mask k) (bit_at-lt _ _)
      (ap (λ m. bit_at m k) shape ∙ bit_at_mask_inside (from % 64) 64 k (omega arith) small))
      ∙ sym (in_word words (from / 64) k small);
  low = λ k small before. bit k
      ∙ min_none (bit_at (get_or words (from / 64) 0) k) (bit_at mask k)
      (ap (λ m. bit_at m k) shape ∙ bit_at_mask_below (from % 64) 64 k (omega arith));
}
  where
    mask : ℕ
    mask = (2 ^ 64 - 1) * 2 ^ (from % 64) % 2 ^ 64

    shape : mask ≡ 2 ^ 64 - 2 ^ (from % 64)
    shape = ones_shl 64 (from % 64) (omega arith)

    bit : (k : ℕ) → bit_at (bit_and (get_or words (from / 64) 0) mask) k
        ≡ min (bit_at (get_or words (from / 64) 0) k) (bit_at mask k)
    bit k = bit_at_and (get_or words (from / 64) 0) mask k

-- a word with no bit set is passed
pub passes : (words : List ℕ) (from at : ℕ) → Looks words from at 0 → AreClear words from (64 * (at + 1))
passes words from at it bit low high = ⊎_elim
    (λ before. it.clear bit low before)
    (λ here.
    let small : bit - 64 * at < 64 = omega arith in
    let is : 64 * at + (bit - 64 * at) ≡ bit = omega arith in
    ap (is_set words) (sym is) ∙ sym (it.own (bit - 64 * at) small (omega arith))
    ∙ ap (λ x. x == 1) (bit_at-zero (bit - 64 * at)))
    (cases_lt bit (64 * at))

pub looks_on : (words : List ℕ) (from at : ℕ) → Looks words from at 0 → at + 1 < length words
    → get_or words (at + 1) 0 < 2 ^ 64 → Looks words from (at + 1) (get_or words (at + 1) 0)
looks_on words from at it lt fit = record {
  inside = lt;
  near = omega (arith, it.near);
  fits = fit;
  clear = passes words from at it;
  own = λ k small behind. sym (in_word words (at + 1) k small);
  low = λ k small before. absurd (omega (arith, it.near));
}

pub found : (words : List ℕ) (from at word : ℕ) → Looks words from at word → word ≢ 0
    → IsFirstSet words from (64 * at + trailing_zeros w64 word)
found words from at word it some = record {
  behind = behind;
  set = sym (it.own tz tz-small behind) ∙ eq-eqb _ 1 lowest.1;
  clear = λ bit low high. ⊎_elim
      (λ before. it.clear bit low before)
      (λ here.
      let small : bit - 64 * at < 64 = omega (arith, tz-small) in
      let is : 64 * at + (bit - 64 * at) ≡ bit = omega arith in
      ap (is_set words) (sym is) ∙ sym (it.own (bit - 64 * at) small (omega arith))
      ∙ ap (λ x. x == 1) (lowest.2 (bit - 64 * at) (omega arith)))
      (cases_lt bit (64 * at));
}
  where
    tz : ℕ
    tz = trailing_zeros w64 word

    lowest : (trailing_zeros w64 word < 64) × (bit_at word (trailing_zeros w64 word) ≡ 1)
        × ((i : ℕ) → i < trailing_zeros w64 word → bit_at word i ≡ 0)
    lowest = bit_at-trailing_zeros w64 word (omega arith) it.fits

    tz-small : tz < 64
    tz-small = lowest.0

    behind : from ≤ 64 * at + tz
    behind = ⊎_elim (λ before. absurd (omega (arith, it.low tz tz-small before, lowest.1))) (λ le. le)
        (cases_lt (64 * at + tz) from)

-- ---- what a set's words become

pub set-one : (old new : List ℕ) (n at : ℕ) → ((bit : ℕ) → is_set new bit ≡ (bit == at || is_set old bit))
    → bits_of new n ≡ set (bits_of old n) at true
set-one old new n at each =
    same_bits new n (set (bits_of old n) at true) (length-set (bits_of old n) at true ∙ length-bits old 0 n)
    (λ k lt. each k ∙ sym (⊎_elim
    (λ (same : k ≡ at).
    ap (λ i. get_or (set (bits_of old n) at true) i false) same
    ∙ get_or-set_same (bits_of old n) at true false (omega (arith, same, length-bits old 0 n))
    ∙ sym (or_true (k == at) (is_set old k) (eq-eqb k at same)))
    (λ (apart : k ≢ at). get_or-set_other (bits_of old n) at k true false apart ∙ read old n k false lt
    ∙ sym (or_false (k == at) (is_set old k) (other_is k at apart)))
    (cases_eq k at)))

pub set-none : (m n : ℕ) → n ≤ 64 * m → bits_of (replicate m 0) n ≡ replicate n false
set-none m n le = same_bits (replicate m 0) n (replicate n false) (length-replicate n false)
    (λ k lt. bits-none m k (omega arith) ∙ sym (get_or-replicate n k false false lt))

pub set-all : (m n : ℕ) → n ≤ 64 * m → bits_of (replicate m (2 ^ 64 - 1)) n ≡ replicate n true
set-all m n le = same_bits (replicate m (2 ^ 64 - 1)) n (replicate n true) (length-replicate n true)
    (λ k lt. bits-all m k (omega arith) ∙ sym (get_or-replicate n k true false lt))
