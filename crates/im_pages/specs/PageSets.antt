-- Sets of pages: one truth value for each page, by the page's number. (Own.)
use Rattle.std.specs.Prelude.{◌≡◌, ℕ, zero, suc, ◌+◌, ◌<◌, ◌≤◌, Bool, true, false, ◌||◌, List, [], ◌∷◌, length, drop}
use Rattle.std.specs.Prelude.{slice_index_or, slice_set}

-- whether a page is in a set; a page past the set's end counts as being in it
abbrev pub has : List Bool → ℕ → Bool
has set page = slice_index_or set page true

-- a set with one more page
abbrev pub with_page : List Bool → ℕ → List Bool
with_page set page = slice_set set page true

-- a set with n more pages, from this one on
abbrev pub with_pages : List Bool → ℕ → ℕ → List Bool
with_pages set page zero = set
with_pages set page (suc n) = with_pages (with_page set page) (suc page) n

-- the pages of either of two sets
abbrev pub union : List Bool → List Bool → List Bool
union [] others = []
union (b ∷ set) [] = b ∷ set
union (b ∷ set) (c ∷ others) = (b || c) ∷ union set others

-- the pages of a set in rising order; its first truth value stands for this page
abbrev pub pages_of : ℕ → List Bool → List ℕ
pages_of page [] = []
pages_of page (true ∷ set) = page ∷ pages_of (page + 1) set
pages_of page (false ∷ set) = pages_of (page + 1) set

-- the pages of a set from this page on, in rising order
abbrev pub pages_from : ℕ → List Bool → List ℕ
pages_from page set = pages_of page (drop page set)

-- the number of pages in a set
abbrev pub size_of : List Bool → ℕ
size_of [] = 0
size_of (true ∷ set) = suc (size_of set)
size_of (false ∷ set) = size_of set

-- each page of one set is in the other
abbrev pub IsWithin : List Bool → List Bool → Type 0
IsWithin set other = (page : ℕ) → has set page ≡ true → has other page ≡ true

-- the least page of a set from this one on
pub record IsNext (set : List Bool) (page next : ℕ) : Type 0 where
  pub from : page ≤ next
  pub inside : next < length set
  pub there : has set next ≡ true
  pub between : (p : ℕ) → page ≤ p → p < next → has set p ≡ false

-- a set has no page from this one on
abbrev pub HasNoneFrom : List Bool → ℕ → Type 0
HasNoneFrom set page = (p : ℕ) → page ≤ p → p < length set → has set p ≡ false
