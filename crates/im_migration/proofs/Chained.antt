-- The lists of waiters of records that are cut or lengthened.
use Rattle.std.proofs.Common.{◌≡◌, ℕ, zero, suc, ◌≤◌, List, [], ◌∷◌, get_or, None, Option, sym, refl, ap, ◌∙◌, arith}
use Rattle.im_types.specs.Types.{Waiter, NONE, Held, held_at, waiters_at, CellRecord, NodeRecord, TagEmpty, TagWaiting}
use Rattle.im_types.specs.Types.{TagFull, TagClashed, FreeCell, BlockCell, HaveChains, uses, all_uses, ShowLists}
use Rattle.im_types.specs.Types.{cell_shown, cells_shown}
use Rattle.im_migration.specs.Resizing.{fitted}

-- a cell in no block
abbrev pub free_cell : CellRecord
free_cell = FreeCell 0 NONE

abbrev pub nobody : List Waiter
nobody = []

abbrev no_nodes : List ℕ
no_nodes = []

abbrev no_cell : Option Held
no_cell = None

module _ (nodes : List NodeRecord) where
  have-fitted : (n : ℕ) (cells : List CellRecord) (chains : List (List ℕ)) (lists : List (List Waiter))
      → HaveChains nodes cells chains lists
      → HaveChains nodes (fitted free_cell n cells) (fitted no_nodes n chains) (fitted nobody n lists)
  have-fitted zero cells chains lists have = tt
  have-fitted (suc n) [] [] [] have = ((refl, refl), have-fitted n [] [] [] tt)
  have-fitted (suc n) [] [] (waiters ∷ lists) have = absurd have
  have-fitted (suc n) [] (chain ∷ chains) lists have = absurd have
  have-fitted (suc n) (cell ∷ cells) [] lists have = absurd have
  have-fitted (suc n) (cell ∷ cells) (chain ∷ chains) [] have = absurd have
  have-fitted (suc n) (cell ∷ cells) (chain ∷ chains) (waiters ∷ lists) have =
      (have.0, have-fitted n cells chains lists have.1)

  -- where no cell of a block is shown, no node is in a chain
  free-chain : (cells : List CellRecord) (chains : List (List ℕ)) (lists : List (List Waiter))
      → HaveChains nodes cells chains lists → (a : ℕ) → held_at (cells_shown cells lists) a ≡ None
      → get_or chains a [] ≡ []
  free-chain [] [] [] have a none = refl
  free-chain [] [] (waiters ∷ lists) have a none = absurd have
  free-chain [] (chain ∷ chains) lists have a none = absurd have
  free-chain (cell ∷ cells) [] lists have a none = absurd have
  free-chain (cell ∷ cells) (chain ∷ chains) [] have a none = absurd have
  free-chain (FreeCell hole next ∷ cells) (chain ∷ chains) (waiters ∷ lists) have zero none = have.0.0
  free-chain (BlockCell block tag ∷ cells) (chain ∷ chains) (waiters ∷ lists) have zero none = absurd cc
  free-chain (cell ∷ cells) (chain ∷ chains) (waiters ∷ lists) have (suc a) none =
      free-chain cells chains lists have.1 a none

  -- the list of a cell is who waits there
  pub list-is : (cells : List CellRecord) (chains : List (List ℕ)) (lists : List (List Waiter))
      → HaveChains nodes cells chains lists → (a : ℕ) → get_or lists a [] ≡ waiters_at (cells_shown cells lists) a
  list-is [] [] [] have a = refl
  list-is [] [] (waiters ∷ lists) have a = absurd have
  list-is [] (chain ∷ chains) lists have a = absurd have
  list-is (cell ∷ cells) [] lists have a = absurd have
  list-is (cell ∷ cells) (chain ∷ chains) [] have a = absurd have
  list-is (FreeCell hole next ∷ cells) (chain ∷ chains) (waiters ∷ lists) have zero = have.0.1
  list-is (BlockCell block TagEmpty ∷ cells) (chain ∷ chains) (waiters ∷ lists) have zero = have.0.1
  list-is (BlockCell block (TagWaiting first last) ∷ cells) (chain ∷ chains) (waiters ∷ lists) have zero = refl
  list-is (BlockCell block (TagFull v) ∷ cells) (chain ∷ chains) (waiters ∷ lists) have zero = have.0.1
  list-is (BlockCell block (TagClashed v) ∷ cells) (chain ∷ chains) (waiters ∷ lists) have zero = have.0.1
  list-is (cell ∷ cells) (chain ∷ chains) (waiters ∷ lists) have (suc a) = list-is cells chains lists have.1 a

  -- what is shown of the cells is cut and lengthened as they are
  pub shown-fitted : (n : ℕ) (cells : List CellRecord) (chains : List (List ℕ)) (lists : List (List Waiter))
      → HaveChains nodes cells chains lists
      → cells_shown (fitted free_cell n cells) (fitted nobody n lists) ≡ fitted no_cell n (cells_shown cells lists)
  shown-fitted zero cells chains lists have = refl
  shown-fitted (suc n) [] [] [] have = ap (λ (l : List (Option Held)). no_cell ∷ l) (shown-fitted n [] [] [] tt)
  shown-fitted (suc n) [] [] (waiters ∷ lists) have = absurd have
  shown-fitted (suc n) [] (chain ∷ chains) lists have = absurd have
  shown-fitted (suc n) (cell ∷ cells) [] lists have = absurd have
  shown-fitted (suc n) (cell ∷ cells) (chain ∷ chains) [] have = absurd have
  shown-fitted (suc n) (cell ∷ cells) (chain ∷ chains) (waiters ∷ lists) have =
      ap (λ (l : List (Option Held)). cell_shown cell waiters ∷ l) (shown-fitted n cells chains lists have.1)

no-uses : (k : ℕ) (chains : List (List ℕ)) → ((a : ℕ) → get_or chains a [] ≡ []) → all_uses k chains ≡ 0
no-uses k [] none = refl
no-uses k (chain ∷ chains) none =
    let here : uses k chain ≡ 0 = ap (uses k) (none 0) in
    let rest : all_uses k chains ≡ 0 = no-uses k chains (λ a. none (suc a)) in
    omega (arith, here, rest)

-- no node that is in use is cut off
uses-fitted : (k n : ℕ) (chains : List (List ℕ)) → ((a : ℕ) → n ≤ a → get_or chains a [] ≡ [])
    → all_uses k (fitted no_nodes n chains) ≡ all_uses k chains
uses-fitted k zero chains none = sym (no-uses k chains (λ a. none a (omega arith)))
uses-fitted k (suc n) [] none =
    let rest : all_uses k (fitted no_nodes n []) ≡ 0 = uses-fitted k n [] (λ a from. refl) in
    omega (arith, rest)
uses-fitted k (suc n) (chain ∷ chains) none =
    let rest : all_uses k (fitted no_nodes n chains)
    ≡ all_uses k chains = uses-fitted k n chains (λ a from. none (suc a) (omega (arith, from))) in
    omega (arith, rest)

-- the same nodes hold the lists of waiters of as many cells as there are now
pub lists-fitted : (nodes : List NodeRecord) (n : ℕ) (cells : List CellRecord) (lists : List (List Waiter))
    → ShowLists nodes cells lists → ((a : ℕ) → n ≤ a → held_at (cells_shown cells lists) a ≡ None)
    → ShowLists nodes (fitted free_cell n cells) (fitted nobody n lists)
lists-fitted nodes n cells lists shown past = record {
  chains = fitted no_nodes n shown.chains;
  have = have-fitted nodes n cells shown.chains lists shown.have;
  once = λ k. uses-fitted k n shown.chains
      (λ a from. free-chain nodes cells shown.chains lists shown.have a (past a from)) ∙ shown.once k;
}
