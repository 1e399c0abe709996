-- Sets of pages as lists of truth values.
use Rattle.std.proofs.Common.{◌≡◌, ℕ, zero, suc, ◌+◌, ◌-◌, ◌<◌, ◌≤◌, Bool, true, false, ◌||◌, ◌⊎◌, List, [], ◌∷◌}
use Rattle.std.proofs.Common.{length, get_or, drop, Contains, sym, refl, ap, ◌∙◌, subst, inl, inr, ⊎_elim, true≢false}
use Rattle.std.proofs.Common.{arith, length-drop, get_or-drop}
use Rattle.std.proofs.lemmas.{Bool.cases_lt, List.drop_all, List.drop_more, List.get_or_default}
use Rattle.im_pages.proofs.BitLemmas.{length-bits, read, same_bits}
use Rattle.im_pages.specs.PageSets.{has, HasNoneFrom, IsNext, IsWithin, pages_from, pages_of, size_of, union, with_page}
use Rattle.im_pages.specs.Words.{bits_of, is_set}

-- ---- a page more

pub size-with : (pages : List Bool) (page : ℕ) → size_of (with_page pages page) ≤ size_of pages + 1
size-with [] page = omega arith
size-with (true ∷ pages) zero = omega arith
size-with (false ∷ pages) zero = omega arith
size-with (true ∷ pages) (suc page) = omega (arith, size-with pages page)
size-with (false ∷ pages) (suc page) = size-with pages page

pub has-with : (pages : List Bool) (page : ℕ) → has (with_page pages page) page ≡ true
has-with [] page = refl
has-with (b ∷ pages) zero = refl
has-with (b ∷ pages) (suc page) = has-with pages page

pub within-with : (pages : List Bool) (page : ℕ) → IsWithin pages (with_page pages page)
within-with [] page p e = e
within-with (b ∷ pages) zero zero e = refl
within-with (b ∷ pages) zero (suc p) e = e
within-with (b ∷ pages) (suc page) zero e = e
within-with (b ∷ pages) (suc page) (suc p) e = within-with pages page p e

-- ---- unions

pub length-union : (pages others : List Bool) → length (union pages others) ≡ length pages
length-union [] others = refl
length-union (b ∷ pages) [] = refl
length-union (b ∷ pages) (c ∷ others) = ap suc (length-union pages others)

pub read-union : (pages others : List Bool) (p : ℕ) → p < length pages → length pages ≡ length others
    → get_or (union pages others) p false ≡ (get_or pages p false || get_or others p false)
read-union [] others p lt long = absurd (omega (arith, lt))
read-union (b ∷ pages) [] p lt long = absurd (omega (arith, long))
read-union (b ∷ pages) (c ∷ others) zero lt long = refl
read-union (b ∷ pages) (c ∷ others) (suc p) lt long = read-union pages others p (omega (arith, lt))
    (omega (arith, long))

-- the words of a union
pub union-set : (old other new : List ℕ) (n : ℕ)
    → ((bit : ℕ) → is_set new bit ≡ (is_set old bit || is_set other bit)) → bits_of new n
    ≡ union (bits_of old n) (bits_of other n)
union-set old other new n each =
    same_bits new n (union (bits_of old n) (bits_of other n))
    (length-union (bits_of old n) (bits_of other n) ∙ length-bits old 0 n)
    (λ k lt.
    each k
    ∙ sym (read-union (bits_of old n) (bits_of other n) k (omega (arith, lt, length-bits old 0 n))
    (length-bits old 0 n ∙ sym (length-bits other 0 n))
    ∙ ap (λ b. b || get_or (bits_of other n) k false) (read old n k false lt)
    ∙ ap (λ b. is_set old k || b) (read other n k false lt)))

-- ---- pages in rising order

step_out : (pages : List Bool) (page : ℕ) → page < length pages → has pages page ≡ false → pages_from page pages
    ≡ pages_from (page + 1) pages
step_out pages page lt out = ap (pages_of page) (drop_more pages page true lt)
    ∙ ap (λ (b : Bool). pages_of page (b ∷ drop (page + 1) pages)) out

pub step_in : (pages : List Bool) (page : ℕ) → page < length pages → has pages page ≡ true → pages_from page pages
    ≡ page ∷ pages_from (page + 1) pages
step_in pages page lt there = ap (pages_of page) (drop_more pages page true lt)
    ∙ ap (λ (b : Bool). pages_of page (b ∷ drop (page + 1) pages)) there

from-past : (pages : List Bool) (page : ℕ) → length pages ≤ page → pages_from page pages ≡ []
from-past pages page le = ap (pages_of page) (drop_all page pages le)

skip : (pages : List Bool) (page d : ℕ) → page + d ≤ length pages
    → ((p : ℕ) → page ≤ p → p < page + d → has pages p ≡ false)
    → pages_from page pages ≡ pages_from (page + d) pages
skip pages page zero le out = ap (λ k. pages_from k pages) (omega arith)
skip pages page (suc d) le out =
    step_out pages page (omega arith) (out page (omega arith) (omega arith))
    ∙ skip pages (page + 1) d (omega arith) (λ p low high. out p (omega arith) (omega arith))
    ∙ ap (λ k. pages_from k pages) (omega arith)

-- the next page comes first
pub from-next : (pages : List Bool) (page p : ℕ) → IsNext pages page p → pages_from page pages
    ≡ p ∷ pages_from (p + 1) pages
from-next pages page p it =
    let le : page ≤ p = it.from in
    let lt : p < length pages = it.inside in
    let is : page + (p - page) ≡ p = omega arith in
    skip pages page (p - page) (omega arith) (λ q low high. it.between q low (omega arith))
    ∙ ap (λ k. pages_from k pages) is ∙ step_in pages p lt it.there

-- where there is none, none is left
pub from-none : (pages : List Bool) (page : ℕ) → HasNoneFrom pages page → pages_from page pages ≡ []
from-none pages page none = ⊎_elim
    (λ (low : page < length pages).
    let is : page + (length pages - page) ≡ length pages = omega arith in
    skip pages page (length pages - page) (omega arith) (λ q from to. none q from (omega arith))
    ∙ ap (λ k. pages_from k pages) is ∙ from-past pages (length pages) (omega arith))
    (λ (past : length pages ≤ page). from-past pages page past)
    (cases_lt page (length pages))

-- a page of the list, from its head on

pub contains_rest : (i : ℕ) (left : List ℕ) (p : ℕ) → Contains (i ∷ left) p → (i ≡ p) ⊎ Contains left p
contains_rest i left p (zero, lt, is) = inl is
contains_rest i left p (suc k, lt, is) = inr (k, omega (arith, lt), is)

pub contains_more : (i : ℕ) (left : List ℕ) (p : ℕ) → Contains left p → Contains (i ∷ left) p
contains_more i left p (k, lt, is) = (suc k, omega (arith, lt), is)

record IsOf (page : ℕ) (pages : List Bool) (p : ℕ) : Type 0 where
  pub from : page ≤ p
  pub inside : p < page + length pages
  pub there : get_or pages (p - page) false ≡ true

of : (pages : List Bool) (page p : ℕ) → Contains (pages_of page pages) p → IsOf page pages p
of [] page p (k, lt, is) = absurd (omega (arith, lt))
of (true ∷ pages) page p c = ⊎_elim
    (λ (here : page ≡ p).
    let none : p - page ≡ 0 = omega arith in
    record { from = omega arith; inside = omega arith; there = ap (λ k. get_or (true ∷ pages) k false) none })
    (λ rest.
    let it = of pages (page + 1) p rest in
    let next : p - page ≡ suc (p - (page + 1)) = omega (arith, it.from) in
    record {
      from = omega (arith, it.from);
      inside = omega (arith, it.inside);
      there = ap
          (λ k. get_or (true ∷ pages) k false) next ∙ it.there;
    })
    (contains_rest page (pages_of (page + 1) pages) p c)
of (false ∷ pages) page p c =
    let it = of pages (page + 1) p c in
    let next : p - page ≡ suc (p - (page + 1)) = omega (arith, it.from) in
    record {
      from = omega (arith, it.from);
      inside = omega (arith, it.inside);
      there = ap
          (λ k. get_or (false ∷ pages) k false) next ∙ it.there;
    }

lists : (pages : List Bool) (page k : ℕ) → get_or pages k false ≡ true → Contains (pages_of page pages) (page + k)
lists [] page k there = absurd (true≢false (sym there))
lists (true ∷ pages) page zero there = (zero, omega arith, let e : page ≡ page + 0 = omega arith in e)
lists (true ∷ pages) page (suc k) there =
    let same : page + 1 + k ≡ page + suc k = omega arith in
    contains_more page (pages_of (page + 1) pages) (page + suc k)
    (subst (Contains (pages_of (page + 1) pages)) same (lists pages (page + 1) k there))
lists (false ∷ pages) page zero there = absurd (true≢false (sym there))
lists (false ∷ pages) page (suc k) there =
    let same : page + 1 + k ≡ page + suc k = omega arith in
    subst (Contains (pages_of (page + 1) pages)) same (lists pages (page + 1) k there)

-- the listed pages of a set are pages of it
pub record IsListed (pages : List Bool) (page p : ℕ) : Type 0 where
  pub from : page ≤ p
  pub inside : p < length pages
  pub there : has pages p ≡ true

pub listed : (pages : List Bool) (page p : ℕ) → Contains (pages_from page pages) p → IsListed pages page p
listed pages page p c =
    let it = of (drop page pages) page p c in
    let inside : p < length pages = omega (arith, it.from, it.inside, length-drop page pages) in
    let is : page + (p - page) ≡ p = omega (arith, it.from) in
    record {
      from = it.from;
      inside = inside;
      there = get_or_default pages p true false inside ∙ ap (λ k. get_or pages k false) (sym is)
          ∙ sym (get_or-drop page pages (p - page) false) ∙ it.there;
    }

-- and each page of it is listed
pub lists-each : (pages : List Bool) (page p : ℕ) → page ≤ p → p < length pages → has pages p ≡ true
    → Contains (pages_from page pages) p
lists-each pages page p low high there =
    let is : page + (p - page) ≡ p = omega arith in
    subst (Contains (pages_from page pages)) is
    (lists (drop page pages) page (p - page)
    (get_or-drop page pages (p - page) false ∙ ap (λ k. get_or pages k false) is
    ∙ get_or_default pages p false true high ∙ there))

-- a set has no more pages than there are
pub few-from : (pages : List Bool) (page : ℕ) → length (pages_of page pages) ≤ length pages
few-from [] page = omega arith
few-from (true ∷ pages) page = omega (arith, few-from pages (page + 1))
few-from (false ∷ pages) page = omega (arith, few-from pages (page + 1))

-- and as many are listed as it has
