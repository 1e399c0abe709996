-- Holes among cells: rows of free cells that no free cell can lengthen. (Own.)
use Rattle.std.specs.Prelude.{◌≡◌, ℕ, zero, suc, pred, ◌+◌, ◌-◌, ◌*◌, ◌/◌, ◌^◌, ◌<◌, ◌≤◌, max, Bool, true, false, ◌≢◌}
use Rattle.std.specs.Prelude.{List, [], ◌∷◌, length, if◌then◌else◌, IsSome, nat_lt, slice_index_or, slice_set, Some}
use Rattle.std.specs.Prelude.{None, Option}
use Rattle.im_holes.specs.declared.tags.TheConstants.{PART}
use Rattle.im_holes.specs.Tree.{at_node, HasMaxima, leaf_count, row_length}

-- a cell: None for a free one and past the last cell, and the holder's number for a held one
abbrev pub holder_at : List (Option ℕ) → ℕ → Option ℕ
holder_at cells k = slice_index_or cells k None

-- whether a cell has no holder
abbrev pub is_free_cell : Option ℕ → Bool
is_free_cell None = true
is_free_cell (Some number) = false

-- whether a cell exists and is free
abbrev pub free_at : List (Option ℕ) → ℕ → Bool
free_at cells k = is_free_cell (slice_index_or cells k (Some 0))

-- n cells from base on exist and are held
abbrev pub AreHeld : List (Option ℕ) → ℕ → ℕ → Type 0
AreHeld cells base n = (k : ℕ) → base ≤ k → k < base + n → IsSome (holder_at cells k)

-- n cells from base on became held, the first one with the number 0, and no other cell changed
pub record AreTakenFrom (old new : List (Option ℕ)) (base n : ℕ) : Type 0 where
  pub count : length new ≡ length old
  pub held : AreHeld new base n
  pub first : holder_at new base ≡ Some 0
  pub others : (k : ℕ) → (base ≤ k → k < base + n → ⊥) → holder_at new k ≡ holder_at old k

-- n cells from base on are a hole: all are free, and neither the cell before them nor the cell after them is
pub record IsHole (free : ℕ → Bool) (base n : ℕ) : Type 0 where
  pub some : 0 < n
  pub each : (k : ℕ) → base ≤ k → k < base + n → free k ≡ true
  pub before : (k : ℕ) → k + 1 ≡ base → free k ≡ false
  pub behind : free (base + n) ≡ false

-- whether a hole begins at a cell, by the marks
abbrev pub mark_at : List Bool → ℕ → Bool
mark_at begins k = slice_index_or begins k false

-- the number that is kept for a cell
abbrev pub kept_at : List ℕ → ℕ → ℕ
kept_at tags k = slice_index_or tags k 0

-- the length of the hole that begins at a cell, by its mark and its number; 0 if none begins there
abbrev pub length_by : Bool → ℕ → ℕ
length_by false n = 0
length_by true n = n

-- the length of the hole that begins at a cell; 0 if none does
abbrev pub begin_at : List Bool → List ℕ → ℕ → ℕ
begin_at begins tags k = length_by (mark_at begins k) (kept_at tags k)

-- a cell: free while a run of free cells has cells left, else held with this number
abbrev pub cell_in_run : ℕ → ℕ → Option ℕ
cell_in_run zero tag = Some tag
cell_in_run (suc n) tag = None

-- the cells that marks and numbers stand for; the first n of them are free
abbrev pub cells_from : ℕ → List Bool → List ℕ → List (Option ℕ)
cells_from n [] tags = []
cells_from n (begin ∷ begins) [] = []
cells_from n (begin ∷ begins) (tag ∷ tags) =
    let run : ℕ = max n (length_by begin tag) in cell_in_run run tag ∷ cells_from (pred run) begins tags

-- the cells that marks and numbers stand for
unfoldable pub told_cells : List Bool → List ℕ → List (Option ℕ)
told_cells begins tags = cells_from 0 begins tags

-- the marks with a hole that begins at a cell
abbrev pub marked : List Bool → ℕ → List Bool
marked begins base = slice_set begins base true

-- the numbers with the length of a hole at its first and its last cell
abbrev pub tagged : List ℕ → ℕ → ℕ → List ℕ
tagged tags base n = slice_set (slice_set tags base n) (base + n - 1) n

-- the marks after the first n cells of a hole are taken; the rest of it is a hole
abbrev pub cut_marks : List Bool → ℕ → ℕ → ℕ → List Bool
cut_marks begins base n length =
    if nat_lt n length then marked (slice_set begins base false) (base + n) else slice_set begins base false

-- the same for the lengths
abbrev pub cut_tags : List ℕ → ℕ → ℕ → ℕ → List ℕ
cut_tags tags base n length =
    if nat_lt n length then tagged (slice_set tags base 0) (base + n) (length - n) else slice_set tags base 0

-- the marks with a hole that begins at one cell, and none that begins at the other
abbrev pub joined_marks : List Bool → ℕ → ℕ → List Bool
joined_marks begins from end = marked (slice_set begins end false) from

-- the same for the lengths
abbrev pub joined_tags : List ℕ → ℕ → ℕ → List ℕ
joined_tags tags from to = tagged tags from (to - from)

-- the hole that ends right before a cell, by its tags, begins here; if none ends there, this is the cell itself
pub record MeetsHole (begins : List Bool) (tags : List ℕ) (base from : ℕ) : Type 0 where
  pub upto : from ≤ base
  pub mark : from < base → mark_at begins from ≡ true
  pub tag : from < base → kept_at tags from ≡ base - from
  pub none : from ≡ base → (h : ℕ) → h < base → mark_at begins h ≡ true → kept_at tags h ≡ base - h
      → kept_at tags (base - 1) ≡ base - h → ⊥

-- boundary tags: a cell is marked if and only if a hole begins there, and the first and the last cell of a hole have
-- its length
pub record HasTags (free : ℕ → Bool) (begins : List Bool) (tags : List ℕ) : Type 0 where
  pub own : (k : ℕ) → mark_at begins k ≡ true → IsHole free k (kept_at tags k)
  pub mark : (base n : ℕ) → IsHole free base n → mark_at begins base ≡ true
  pub first : (base n : ℕ) → IsHole free base n → kept_at tags base ≡ n
  pub last : (base n : ℕ) → IsHole free base n → kept_at tags (base + n - 1) ≡ n
  pub past : (k : ℕ) → length tags ≤ k → free k ≡ false

-- a number is the largest length of a part
pub record IsLargest (lengths : ℕ → ℕ) (part largest : ℕ) : Type 0 where
  pub over : (k : ℕ) → k / PART ≡ part → lengths k ≤ largest
  pub reached : 0 < largest → (k : ℕ) × (k / PART ≡ part) × (lengths k ≡ largest)

-- the first cell of a part where a hole of at least n cells begins
pub record IsLeast (lengths : ℕ → ℕ) (n part at : ℕ) : Type 0 where
  pub inside : at / PART ≡ part
  pub room : n ≤ lengths at
  pub before : (k : ℕ) → k / PART ≡ part → k < at → lengths k < n

-- a leaf is the largest length among the holes that begin in its part
abbrev pub HasLeaf : (ℕ → ℕ) → List ℕ → ℕ → Type 0
HasLeaf lengths nodes j = IsLargest lengths j (at_node nodes (leaf_count nodes + j))

-- the tree of lengths after the leaves of two cells are renewed
pub record IsRenewed (begins : List Bool) (tags old new : List ℕ) (x y : ℕ) : Type 0 where
  pub count : length new ≡ length old
  pub inner : HasMaxima new
  pub first : HasLeaf (begin_at begins tags) new (x / PART)
  pub second : HasLeaf (begin_at begins tags) new (y / PART)
  pub others : (j : ℕ) → j ≢ x / PART → j ≢ y / PART → at_node new (leaf_count old + j) ≡ at_node old
      (leaf_count old + j)

-- the marks, the numbers and the tree of all cells agree
pub record AreHoles (begins : List Bool) (tags nodes : List ℕ) : Type 0 where
  pub count : length begins ≡ length tags
  pub few : length tags < 2 ^ 32
  pub own : HasTags (free_at (told_cells begins tags)) begins tags
  pub height : ℕ
  pub power : leaf_count nodes ≡ row_length height
  pub even : length nodes ≡ 2 * leaf_count nodes
  pub inside : length tags ≤ PART * leaf_count nodes
  pub leaves : (j : ℕ) → j < leaf_count nodes → HasLeaf (begin_at begins tags) nodes j
  pub inner : HasMaxima nodes
