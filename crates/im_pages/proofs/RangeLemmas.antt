-- A range of bits that is set word by word, and what a set with a range of pages more has.
use Rattle.std.proofs.Common.{◌≡◌, ℕ, zero, suc, ◌+◌, ◌-◌, ◌*◌, ◌/◌, ◌%◌, ◌^◌, ◌<◌, ◌≤◌, min, max, Bool, true, false}
use Rattle.std.proofs.Common.{◌≢◌, List, length, get_or, set, ◌==◌, bit_and, bit_or, sym, refl, ap, ◌∙◌, ⊎_elim, arith}
use Rattle.std.proofs.Common.{length-set, get_or-set_other, get_or-set_same, eq-eqb}
use Rattle.std.{proofs.lemmas.Bool.cases_eq, proofs.lemmas.Bool.cases_lt, specs.Int.bit_at}
use Rattle.std.proofs.lemmas.Nat.Bits.{bit_at-lt, bit_at_and, bit_at_mask_below, bit_at_mask_inside, bit_at_ones}
use Rattle.std.proofs.lemmas.Nat.Bits.{bit_at_ones_above, bit_at_or, ones_shl, ones_shr}
use Rattle.im_pages.proofs.BitLemmas.{at_other, at_word, length-bits, old_word, read, same_bits}
use Rattle.im_pages.proofs.SetLemmas.{has-with, size-with, within-with}
use Rattle.im_pages.specs.PageSets.{has, IsWithin, size_of, with_page, with_pages}
use Rattle.im_pages.specs.Words.{bits_of, is_set}

-- ---- masks

-- the bits from this one on
abbrev pub low_mask : ℕ → ℕ
low_mask from = (2 ^ 64 - 1) * 2 ^ (from % 64) % 2 ^ 64

-- the bits up to this one, and it
abbrev pub high_mask : ℕ → ℕ
high_mask last = (2 ^ 64 - 1) / 2 ^ (63 - last % 64)

low_in : (from k : ℕ) → from % 64 ≤ k → k < 64 → bit_at (low_mask from) k ≡ 1
low_in from k le lt = ap (λ m. bit_at m k) (ones_shl 64 (from % 64) (omega arith))
    ∙ bit_at_mask_inside (from % 64) 64 k le lt

low_out : (from k : ℕ) → k < from % 64 → bit_at (low_mask from) k ≡ 0
low_out from k lt = ap (λ m. bit_at m k) (ones_shl 64 (from % 64) (omega arith)) ∙ bit_at_mask_below (from % 64) 64 k lt

high_in : (last k : ℕ) → k ≤ last % 64 → bit_at (high_mask last) k ≡ 1
high_in last k le = ap (λ m. bit_at m k) (ones_shr 64 (63 - last % 64) (omega arith))
    ∙ bit_at_ones (64 - (63 - last % 64)) k (omega (arith, le))

high_out : (last k : ℕ) → last % 64 < k → bit_at (high_mask last) k ≡ 0
high_out last k lt = ap (λ m. bit_at m k) (ones_shr 64 (63 - last % 64) (omega arith))
    ∙ bit_at_ones_above (64 - (63 - last % 64)) k (omega (arith, lt))

-- ---- words that a mask is put into

max_one : (a b : ℕ) → a < 2 → b ≡ 1 → max a b ≡ 1
max_one a b lt e = omega arith

max_none : (a b : ℕ) → b ≡ 0 → max a b ≡ a
max_none a b e = omega arith

min_ones : (a b : ℕ) → a ≡ 1 → b ≡ 1 → min a b ≡ 1
min_ones a b p q = omega arith

min_left : (a b : ℕ) → a ≡ 0 → min a b ≡ 0
min_left a b e = omega arith

min_right : (a b : ℕ) → b ≡ 0 → min a b ≡ 0
min_right a b e = omega arith

alike : (a b : List ℕ) (bit : ℕ) → get_or a (bit / 64) 0 ≡ get_or b (bit / 64) 0 → is_set a bit ≡ is_set b bit
unfolding is_set
alike a b bit same = ap (λ w. bit_at w (bit % 64) == 1) same

ones_there : (a : List ℕ) (bit : ℕ) → get_or a (bit / 64) 0 ≡ 2 ^ 64 - 1 → is_set a bit ≡ true
unfolding is_set
ones_there a bit all = ap (λ w. bit_at w (bit % 64) == 1) all ∙ eq-eqb _ 1 (bit_at_ones 64 (bit % 64) (omega arith))

abbrev pub with_mask : List ℕ → ℕ → ℕ → List ℕ
with_mask words i mask = set words i (bit_or (get_or words i 0) mask)

pub length-with : (words : List ℕ) (i mask : ℕ) → length (with_mask words i mask) ≡ length words
length-with words i mask = length-set words i (bit_or (get_or words i 0) mask)

mask_in : (words : List ℕ) (i mask bit : ℕ) → i < length words → bit / 64 ≡ i → bit_at mask (bit % 64) ≡ 1
    → is_set (with_mask words i mask) bit ≡ true
mask_in words i mask bit lt row one =
    at_word words i _ bit lt row
    ∙ eq-eqb _ 1 (bit_at_or (get_or words i 0) mask (bit % 64)
    ∙ max_one (bit_at (get_or words i 0) (bit % 64)) (bit_at mask (bit % 64)) (bit_at-lt _ _) one)

mask_out : (words : List ℕ) (i mask bit : ℕ) → i < length words → bit / 64 ≡ i → bit_at mask (bit % 64) ≡ 0
    → is_set (with_mask words i mask) bit ≡ is_set words bit
mask_out words i mask bit lt row none =
    at_word words i _ bit lt row
    ∙ ap (λ x. x == 1) (bit_at_or (get_or words i 0) mask (bit % 64)
    ∙ max_none (bit_at (get_or words i 0) (bit % 64)) (bit_at mask (bit % 64)) none)
    ∙ sym (old_word words i bit row)

-- ---- a range of bits

-- these bits are set, and the others as they were
pub record IsSetBetween (words new : List ℕ) (from to : ℕ) : Type 0 where
  pub found : (bit : ℕ) → from ≤ bit → bit < to → is_set new bit ≡ true
  pub others : (bit : ℕ) → (from ≤ bit → bit < to → ⊥) → is_set new bit ≡ is_set words bit

-- in one word
pub in_one : (words : List ℕ) (from to : ℕ) → from < to → (to - 1) / 64 < length words → from / 64 ≡ (to - 1) / 64
    → IsSetBetween words (with_mask words (from / 64) (bit_and (low_mask from) (high_mask (to - 1)))) from to
in_one words from to order inside same = record {
  found = λ bit lo hi.
      mask_in words (from / 64) both bit (omega (arith, inside, same)) (omega arith)
      (bit_at_and (low_mask from) (high_mask (to - 1)) (bit % 64)
      ∙ min_ones _ _ (low_in from (bit % 64) (omega arith) (omega arith))
      (high_in (to - 1) (bit % 64) (omega arith)));
  others = λ bit out. ⊎_elim
      (λ (row : bit / 64 ≡ from / 64).
      mask_out words (from / 64) both bit (omega (arith, inside, same)) row
      (bit_at_and (low_mask from) (high_mask (to - 1)) (bit % 64) ∙ ⊎_elim
      (λ (before : bit < from). min_left _ _ (low_out from (bit % 64) (omega (arith, row, before))))
      (λ (le : from ≤ bit). ⊎_elim
      (λ (lt : bit < to). absurd (out le lt))
      (λ (behind : to ≤ bit). min_right _ _ (high_out (to - 1) (bit % 64) (omega (arith, row, same, behind, order))))
      (cases_lt bit to))
      (cases_lt bit from)))
      (λ other. at_other words (from / 64) _ bit other)
      (cases_eq (bit / 64) (from / 64));
}
  where
    both : ℕ
    both = bit_and (low_mask from) (high_mask (to - 1))

-- in more than one: the words between the first and the last are all ones
module _ (words filled : List ℕ) (from to : ℕ) (order : from < to) (inside : (to - 1) / 64 < length words)
    (apart : from / 64 ≢ (to - 1) / 64)
    (long : length filled ≡ length words)
    (between : (k : ℕ) → from / 64 + 1 ≤ k → k < (to - 1) / 64 → get_or filled k 0 ≡ 2 ^ 64 - 1)
    (around : (k : ℕ) → (from / 64 + 1 ≤ k → k < (to - 1) / 64 → ⊥) → get_or filled k 0
    ≡ get_or (with_mask words (from / 64) (low_mask from)) k 0) where
  more : from / 64 < (to - 1) / 64
  more = omega (arith, apart, order)

  -- as the first word left them
  before_last : (bit : ℕ) → (from / 64 + 1 ≤ bit / 64 → bit / 64 < (to - 1) / 64 → ⊥) → is_set filled bit
      ≡ is_set (with_mask words (from / 64) (low_mask from)) bit
  before_last bit out = alike filled (with_mask words (from / 64) (low_mask from)) bit (around (bit / 64) out)

  found_before : (bit : ℕ) → from ≤ bit → bit < to → bit / 64 ≢ (to - 1) / 64 → is_set filled bit ≡ true
  found_before bit lo hi other = ⊎_elim
      (λ (row : bit / 64 ≡ from / 64).
      before_last bit (λ le lt. omega (arith, row, le))
      ∙ mask_in words (from / 64) (low_mask from) bit (omega (arith, inside, more)) row
      (low_in from (bit % 64) (omega (arith, row, lo)) (omega arith)))
      (λ (away : bit / 64 ≢ from / 64). ones_there filled bit
      (between (bit / 64) (omega (arith, away, lo)) (omega (arith, other, hi))))
      (cases_eq (bit / 64) (from / 64))

  others_before : (bit : ℕ) → (from ≤ bit → bit < to → ⊥) → bit / 64 ≢ (to - 1) / 64 → is_set filled bit
      ≡ is_set words bit
  others_before bit out other = ⊎_elim
      (λ (row : bit / 64 ≡ from / 64).
      before_last bit (λ le lt. omega (arith, row, le))
      ∙ mask_out words (from / 64) (low_mask from) bit (omega (arith, inside, more)) row
      (⊎_elim
      (λ (before : bit < from). low_out from (bit % 64) (omega (arith, row, before)))
      (λ (le : from ≤ bit). absurd (out le (omega (arith, row, more))))
      (cases_lt bit from)))
      (λ (away : bit / 64 ≢ from / 64). before_last bit (λ le lt. out (omega (arith, le)) (omega (arith, lt)))
      ∙ at_other words (from / 64) _ bit away)
      (cases_eq (bit / 64) (from / 64))

  pub in_more : IsSetBetween words (with_mask filled ((to - 1) / 64) (high_mask (to - 1))) from to
  in_more = record {
    found = λ bit lo hi. ⊎_elim
        (λ (row : bit / 64 ≡ (to - 1) / 64). mask_in filled ((to - 1) / 64) (high_mask (to - 1)) bit
        (omega (arith, inside, long)) row (high_in (to - 1) (bit % 64) (omega (arith, row, hi))))
        (λ (other : bit / 64 ≢ (to - 1) / 64). at_other filled ((to - 1) / 64) _ bit other
        ∙ found_before bit lo hi other)
        (cases_eq (bit / 64) ((to - 1) / 64));
    others = λ bit out. ⊎_elim
        (λ (row : bit / 64 ≡ (to - 1) / 64).
        mask_out filled ((to - 1) / 64) (high_mask (to - 1)) bit (omega (arith, inside, long)) row
        (⊎_elim
        (λ (lt : bit < to). absurd (out (omega (arith, row, more)) lt))
        (λ (behind : to ≤ bit). high_out (to - 1) (bit % 64) (omega (arith, row, behind, order)))
        (cases_lt bit to))
        ∙ before_last bit (λ le lt. omega (arith, row, lt))
        ∙ at_other words (from / 64) _ bit (λ e. omega (arith, row, e, more)))
        (λ (other : bit / 64 ≢ (to - 1) / 64). at_other filled ((to - 1) / 64) _ bit other
        ∙ others_before bit out other)
        (cases_eq (bit / 64) ((to - 1) / 64));
  }

-- ---- a range of pages

length-pages : (pages : List Bool) (page n : ℕ) → length (with_pages pages page n) ≡ length pages
length-pages pages page zero = refl
length-pages pages page (suc n) = length-pages (with_page pages page) (suc page) n ∙ length-set pages page true

read-out : (pages : List Bool) (page n k : ℕ) → (page ≤ k → k < page + n → ⊥)
    → get_or (with_pages pages page n) k false ≡ get_or pages k false
read-out pages page zero k out = refl
read-out pages page (suc n) k out =
    read-out (with_page pages page) (suc page) n k (λ lo hi. out (omega (arith, lo)) (omega (arith, hi)))
    ∙ get_or-set_other pages page k true false (λ e. out (omega (arith, e)) (omega (arith, e)))

read-in : (pages : List Bool) (page n k : ℕ) → page ≤ k → k < page + n → k < length pages
    → get_or (with_pages pages page n) k false ≡ true
read-in pages page zero k lo hi lt = absurd (omega (arith, lo, hi))
read-in pages page (suc n) k lo hi lt = ⊎_elim
    (λ (same : k ≡ page).
    read-out (with_page pages page) (suc page) n k (λ low high. omega (arith, low, same))
    ∙ ap (λ i. get_or (with_page pages page) i false) same
    ∙ get_or-set_same pages page true false (omega (arith, same, lt)))
    (λ (apart : k ≢ page). read-in (with_page pages page) (suc page) n k (omega (arith, apart, lo))
    (omega (arith, hi)) (omega (arith, lt, length-set pages page true)))
    (cases_eq k page)

within-pages : (pages : List Bool) (page n : ℕ) → IsWithin pages (with_pages pages page n)
within-pages pages page zero p e = e
within-pages pages page (suc n) p e = within-pages (with_page pages page) (suc page) n p (within-with pages page p e)

has-pages : (pages : List Bool) (page n k : ℕ) → page ≤ k → k < page + n → has (with_pages pages page n) k ≡ true
has-pages pages page zero k lo hi = absurd (omega (arith, lo, hi))
has-pages pages page (suc n) k lo hi = ⊎_elim
    (λ (same : k ≡ page). within-pages (with_page pages page) (suc page) n k
    (ap (has (with_page pages page)) same ∙ has-with pages page))
    (λ (apart : k ≢ page). has-pages (with_page pages page) (suc page) n k (omega (arith, apart, lo))
    (omega (arith, hi)))
    (cases_eq k page)

size-pages : (pages : List Bool) (page n : ℕ) → size_of (with_pages pages page n) ≤ size_of pages + n
size-pages pages page zero = omega arith
size-pages pages page (suc n) = omega (arith, size-pages (with_page pages page) (suc page) n, size-with pages page)

-- what a set with these pages more has
pub record HasMore (pages new : List Bool) (from to : ℕ) : Type 0 where
  pub state : new ≡ with_pages pages from (to - from)
  pub long : length new ≡ length pages
  pub found : (page : ℕ) → from ≤ page → page < to → has new page ≡ true
  pub kept : IsWithin pages new
  pub few : size_of new ≤ size_of pages + (to - from)

pub has_more : (pages new : List Bool) (from to : ℕ) → new ≡ with_pages pages from (to - from)
    → HasMore pages new from to
has_more pages new from to is = record {
  state = is;
  long = ap length is ∙ length-pages pages from (to - from);
  found = λ page lo hi. ap (λ s. has s page) is ∙ has-pages pages from (to - from) page lo (omega (arith, lo, hi));
  kept = λ page there. ap (λ s. has s page) is ∙ within-pages pages from (to - from) page there;
  few = omega (arith, ap size_of is, size-pages pages from (to - from));
}

-- the words of a set after the bits of its pages in a range were set
pub pages-set : (old new : List ℕ) (n from to : ℕ) → IsSetBetween old new from (min to n) → bits_of new n
    ≡ with_pages (bits_of old n) from (to - from)
pages-set old new n from to is =
    same_bits new n (with_pages (bits_of old n) from (to - from))
    (length-pages (bits_of old n) from (to - from) ∙ length-bits old 0 n)
    (λ k lt. ⊎_elim
    (λ (before : k < from). is.others k (λ lo hi. omega (arith, before, lo)) ∙ sym (read old n k false lt)
    ∙ sym (read-out (bits_of old n) from (to - from) k (λ lo hi. omega (arith, before, lo))))
    (λ (lo : from ≤ k). ⊎_elim
    (λ (hi : k < to). is.found k lo (omega (arith, hi, lt))
    ∙ sym (read-in (bits_of old n) from (to - from) k lo (omega (arith, lo, hi))
    (omega (arith, lt, length-bits old 0 n))))
    (λ (behind : to ≤ k). is.others k (λ low high. omega (arith, behind, high)) ∙ sym (read old n k false lt)
    ∙ sym (read-out (bits_of old n) from (to - from) k (λ low high. omega (arith, behind, high, lo))))
    (cases_lt k to))
    (cases_lt k from))

-- the same where there are no such pages
pub none-set : (old : List ℕ) (n from to : ℕ) → min to n ≤ from → bits_of old n
    ≡ with_pages (bits_of old n) from (to - from)
none-set old n from to none = pages-set old old n from to
    (record { found = λ bit lo hi. absurd (omega (arith, lo, hi, none)); others = λ bit out. refl })
