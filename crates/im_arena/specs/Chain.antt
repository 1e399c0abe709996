-- Chains of nodes, each node naming the next. (Own.)
use Rattle.std.specs.Prelude.{◌≡◌, ℕ, zero, suc, ◌+◌, ◌<◌, ◌≤◌, Bool, ◌≢◌, List, [], ◌∷◌, nat_lt}

-- the node after this number of links
abbrev pub place_from : (ℕ → ℕ) → ℕ → ℕ → ℕ
place_from next at zero = at
place_from next at (suc i) = place_from next (next at) i

-- the contents of this number of nodes, from this one on
abbrev pub along : {X : Type 0} → (ℕ → X) → (ℕ → ℕ) → ℕ → ℕ → List X
along item next at zero = []
along item next at (suc n) = item at ∷ along item next (next at) n

-- Each row is a chain with its number of nodes, and the last row is that of the free ones. Each node is on one row, in
-- one place of it. It is marked as used if and only if its row isn't the last. A chain ends with a link to `none`, and
-- both ends of an empty row are `none`.
pub record Chains (nodes rows none : ℕ) (next : ℕ → ℕ) (used : ℕ → Bool) (first last count : ℕ → ℕ) : Type 0 where
  pub within : (a i : ℕ) → a < rows → i < count a → place_from next (first a) i < nodes
  pub apart : (a b i j : ℕ) → a < rows → b < rows → i < count a → j < count b
      → place_from next (first a) i ≡ place_from next (first b) j → (a ≡ b) × (i ≡ j)
  pub covered : (n : ℕ) → n < nodes → ((a i : ℕ) → a < rows → i < count a → place_from next (first a) i ≢ n) → ⊥
  pub marked : (a i : ℕ) → a < rows → i < count a → used (place_from next (first a) i) ≡ nat_lt (a + 1) rows
  pub ends : (a i : ℕ) → a < rows → count a ≡ i + 1 → last a ≡ place_from next (first a) i
  pub tail : (a : ℕ) → a < rows → 0 < count a → next (last a) ≡ none
  pub no_first : (a : ℕ) → a < rows → count a ≡ 0 → first a ≡ none
  pub no_last : (a : ℕ) → a < rows → count a ≡ 0 → last a ≡ none
  pub few : nodes ≤ none
