-- A tree of maxima in one list: node 1 is its root, and the nodes below node k are 2 k and 2 k + 1. (Own.)
use Rattle.std.specs.Prelude.{◌≡◌, ℕ, zero, suc, ◌+◌, ◌*◌, ◌/◌, ◌<◌, ◌≤◌, max, ◌≢◌, List, length, slice_index_or}

-- a node of the tree
abbrev pub at_node : List ℕ → ℕ → ℕ
at_node nodes k = slice_index_or nodes k 0

-- the number of leaves of a tree of this height
abbrev pub row_length : ℕ → ℕ
row_length zero = 1
row_length (suc height) = 2 * row_length height

-- the number of leaves of a tree with these nodes; node 0 is not used
abbrev pub leaf_count : List ℕ → ℕ
leaf_count nodes = length nodes / 2

-- a node is the larger of the two below it
abbrev pub IsLarger : List ℕ → ℕ → Type 0
IsLarger nodes k = at_node nodes k ≡ max (at_node nodes (2 * k)) (at_node nodes (2 * k + 1))

-- each node but the leaves is the larger of the two below it
abbrev pub HasMaxima : List ℕ → Type 0
HasMaxima nodes = (k : ℕ) → 0 < k → k < leaf_count nodes → IsLarger nodes k

-- a tree of maxima: it has twice as many nodes as leaves, and each node above the leaves is the larger of the two below
-- it
pub record IsMaxTree (nodes : List ℕ) : Type 0 where
  pub even : length nodes ≡ 2 * leaf_count nodes
  pub inner : HasMaxima nodes

-- the tree with another number at a leaf
pub record IsPut (old new : List ℕ) (leaf number : ℕ) : Type 0 where
  pub count : length new ≡ length old
  pub inner : HasMaxima new
  pub here : at_node new (leaf_count old + leaf) ≡ number
  pub others : (j : ℕ) → j ≢ leaf → at_node new (leaf_count old + j) ≡ at_node old (leaf_count old + j)

-- no leaf changed, and each other node, except the one right above this one, is the larger of the two below it
pub record IsUpTo (old new : List ℕ) (k : ℕ) : Type 0 where
  pub even : length old ≡ 2 * leaf_count old
  pub count : length new ≡ length old
  pub inside : k < length old
  pub inner : (i : ℕ) → 0 < i → i < leaf_count old → i ≢ k / 2 → IsLarger new i
  pub kept : (i : ℕ) → leaf_count old ≤ i → at_node new i ≡ at_node old i

-- no leaf changed, and each other node is the larger of the two below it
pub record IsUp (old new : List ℕ) : Type 0 where
  pub count : length new ≡ length old
  pub inner : HasMaxima new
  pub kept : (i : ℕ) → leaf_count old ≤ i → at_node new i ≡ at_node old i

-- the first leaf with at least this number
pub record IsFirst (nodes : List ℕ) (n leaf : ℕ) : Type 0 where
  pub inside : leaf < leaf_count nodes
  pub room : n ≤ at_node nodes (leaf_count nodes + leaf)
  pub before : (j : ℕ) → j < leaf → at_node nodes (leaf_count nodes + j) < n

-- a node on the left edge, so many rows below the root and above the leaves, with at least this number
pub record IsStart (nodes : List ℕ) (n k : ℕ) : Type 0 where
  pub above : ℕ
  pub below : ℕ
  pub edge : k ≡ row_length above
  pub rows : leaf_count nodes ≡ row_length (below + above)
  pub room : n ≤ at_node nodes k

-- a tree with at least this many leaves, all 0; the number of its leaves is a power of two
pub record IsZeroTree (nodes : List ℕ) (leaves : ℕ) : Type 0 where
  pub height : ℕ
  pub power : leaf_count nodes ≡ row_length height
  pub even : length nodes ≡ 2 * leaf_count nodes
  pub enough : leaves ≤ leaf_count nodes
  pub zeros : (k : ℕ) → at_node nodes k ≡ 0
