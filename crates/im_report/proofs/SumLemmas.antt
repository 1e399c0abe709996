-- Sums, greatest values and rows, one number after another. (Own.)
use Rattle.std.proofs.Common.{◌≡◌, ℕ, suc, ◌+◌, ◌*◌, ◌≤◌, max, Bool, true, false, List, is_none, if◌then◌else◌, nat_lt}
use Rattle.std.proofs.Common.{◌==◌, Option, sym, refl, ap, ◌∙◌, arith}
use Rattle.im_types.specs.Types.{Held, block_at}
use Rattle.im_report.specs.Figures.{first_most, free_row, most_below, row_after, sum_below}

-- ---- sums

-- the sum of the values below n, each of which is at most `most`
pub record Sums (f : ℕ → ℕ) (most n sum : ℕ) : Type 0 where
  pub is : sum ≡ sum_below f n
  pub few : sum ≤ most * n

pub sums_none : (f : ℕ → ℕ) (most : ℕ) → Sums f most 0 0
unfolding sum_below
sums_none f most = record { is = refl; few = omega arith }

sum_more : (f : ℕ → ℕ) (n : ℕ) → sum_below f (n + 1) ≡ sum_below f n + f n
unfolding sum_below
sum_more f n = let e : n + 1 ≡ suc n = omega arith in ap (sum_below f) e

times_more : (most n : ℕ) → most * (n + 1) ≡ most * n + most
times_more most n = omega arith

pub sums_more : (f : ℕ → ℕ) (most n sum next : ℕ) → f n ≤ most → Sums f most n sum → next ≡ sum + f n
    → Sums f most (n + 1) next
sums_more f most n sum next small it added = record {
  is = added ∙ ap (λ s. s + f n) it.is ∙ sym (sum_more f n);
  few = omega (arith, it.few, times_more most n);
}

-- ---- the greatest value

most_more : (f : ℕ → ℕ) (n : ℕ) → most_below f (n + 1) ≡ max (most_below f n) (f n)
unfolding most_below
most_more f n = let e : n + 1 ≡ suc n = omega arith in ap (most_below f) e

first_more : (f : ℕ → ℕ) (n : ℕ)
    → first_most f (n + 1) ≡ (if nat_lt (most_below f n) (f n) then n else first_most f n)
unfolding first_most
first_more f n = let e : n + 1 ≡ suc n = omega arith in ap (first_most f) e

-- the greatest value so far, and its first place
pub record Tops (f : ℕ → ℕ) (n longest at : ℕ) : Type 0 where
  pub longest_is : longest ≡ most_below f n
  pub at_is : at ≡ first_most f n

pub tops_none : (f : ℕ → ℕ) → Tops f 0 0 0
unfolding most_below first_most
tops_none f = record { longest_is = refl; at_is = refl }

pub tops_more : (f : ℕ → ℕ) (n longest at value next there : ℕ) → value ≡ f n → Tops f n longest at
    → next ≡ max longest value → there ≡ (if nat_lt longest value then n else at) → Tops f (n + 1) next there
tops_more f n longest at value next there is it greater first = record {
  longest_is = greater ∙ ap (λ v. max longest v) is ∙ ap (λ l. max l (f n)) it.longest_is ∙ sym (most_more f n);
  at_is = first ∙ ap (λ v. if nat_lt longest v then n else at) is
      ∙ ap (λ l. if nat_lt l (f n) then n else at) it.longest_is
      ∙ ap (λ p. if nat_lt (most_below f n) (f n) then n else p) it.at_is ∙ sym (first_more f n);
}

-- ---- rows of free cells

row_next : (cells : List (Option Held)) (n : ℕ)
    → free_row cells (n + 1) ≡ row_after (is_none (block_at cells n)) (free_row cells n)
unfolding free_row
row_next cells n = let e : n + 1 ≡ suc n = omega arith in ap (free_row cells) e

row_few : (free : Bool) (row n : ℕ) → row ≤ n → row_after free row ≤ n + 1
row_few true row n few = omega arith
row_few false row n few = omega arith

-- what was counted of the cells below n
pub record Rows (cells : List (Option Held)) (n row clear begun longest : ℕ) : Type 0 where
  pub row_is : row ≡ free_row cells n
  pub short : row ≤ n
  pub free : Sums (λ a. if is_none (block_at cells a) then 1 else 0) 1 n clear
  pub holes : Sums (λ a. if free_row cells (suc a) == 1 then 1 else 0) 1 n begun
  pub longest_is : longest ≡ most_below (λ a. free_row cells (suc a)) n

pub rows_none : (cells : List (Option Held)) → Rows cells 0 0 0 0 0
unfolding free_row most_below
rows_none cells = record {
  row_is = refl;
  short = omega arith;
  free = sums_none _ 1;
  holes = sums_none _ 1;
  longest_is = refl;
}

pub one_few : (test : Bool) → (if test then 1 else 0) ≤ 1
one_few true = omega arith
one_few false = omega arith

pub rows_more : (cells : List (Option Held)) (n row free holes longest next more begun greatest : ℕ)
    → Rows cells n row free holes longest → next ≡ row_after (is_none (block_at cells n)) row
    → more ≡ free + (if is_none (block_at cells n) then 1 else 0)
    → begun ≡ holes + (if next == 1 then 1 else 0) → greatest ≡ max next longest
    → Rows cells (n + 1) next more begun greatest
rows_more cells n row free holes longest next more begun greatest it after added new longer =
    let now : next ≡ free_row cells (n + 1) = after ∙ ap (row_after (is_none (block_at cells n))) it.row_is
    ∙ sym (row_next cells n) in
    let here : n + 1 ≡ suc n = omega arith in
    let is : next ≡ free_row cells (suc n) = now ∙ ap (free_row cells) here in
    let swap : max next longest ≡ max longest next = omega arith in
    record {
      row_is = now;
      short = omega (arith, after, row_few (is_none (block_at cells n)) row n it.short);
      free = sums_more _ 1 n free more (one_few (is_none (block_at cells n))) it.free added;
      holes = sums_more _ 1 n holes begun (one_few (free_row cells (suc n) == 1)) it.holes
          (new ∙ ap (λ (r : ℕ). holes + (if r == 1 then 1 else 0)) is);
      longest_is = longer ∙ swap ∙ ap (λ r. max longest r) is ∙ ap (λ l. max l (free_row cells (suc n))) it.longest_is
          ∙ sym (most_more (λ a. free_row cells (suc a)) n);
    }

-- ---- all numbers of a memory

-- what is made of three equal numbers is equal
pub ap₃ : {T : Type 0} (make : ℕ → ℕ → ℕ → T) {a b c x y z : ℕ} → a ≡ x → b ≡ y → c ≡ z → make a b c ≡ make x y z
ap₃ make one two three = cc
