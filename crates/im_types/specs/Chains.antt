-- Lists of waiters, as chains of nodes. (Own.)
use Rattle.std.specs.Prelude.{◌≡◌, ℕ, ◌+◌, ◌≤◌, Bool, true, false, List, [], ◌∷◌, length, ◌==◌, slice_index_or}
use Rattle.im_types.specs.declared.{operations.Waiter.Waiter, TheConstants.NONE}
use Rattle.im_types.specs.declared.records.{CellRecord.CellRecord, NodeRecord.NodeRecord}
use Rattle.im_types.specs.declared.records.CellRecord.TheVariants.{Free as FreeCell, Held as BlockCell}
use Rattle.im_types.specs.declared.records.NodeRecord.TheVariants.{Free as FreeNode, Listed as ListNode}
use Rattle.im_types.specs.declared.records.PresenceTag.TheVariants.{Clashed as TagClashed, Empty as TagEmpty}
use Rattle.im_types.specs.declared.records.PresenceTag.TheVariants.{Full as TagFull, Waiting as TagWaiting}

-- the first node of a chain
abbrev pub first_of : List ℕ → ℕ
first_of [] = NONE
first_of (node ∷ chain) = node

-- the last node of a chain
abbrev pub last_of : List ℕ → ℕ
last_of [] = NONE
last_of (node ∷ []) = node
last_of (node ∷ next ∷ chain) = last_of (next ∷ chain)

-- these nodes hold these waiters, each linked to the next one
abbrev pub ChainHolds : List NodeRecord → List ℕ → List Waiter → Type 0
ChainHolds nodes [] [] = Unit {0}
ChainHolds nodes (node ∷ chain) (who ∷ waiters) =
    (slice_index_or nodes node (FreeNode NONE) ≡ ListNode (first_of chain) who) × ChainHolds nodes chain waiters
ChainHolds nodes [] (who ∷ waiters) = ⊥
ChainHolds nodes (node ∷ chain) [] = ⊥

-- these nodes, from the first one to the last one, hold these waiters
pub record IsChain (nodes : List NodeRecord) (first last : ℕ) (chain : List ℕ) (waiters : List Waiter) : Type 0 where
  pub some : 1 ≤ length chain
  pub first_is : first_of chain ≡ first
  pub last_is : last_of chain ≡ last
  pub holds : ChainHolds nodes chain waiters

-- no node and no waiter
abbrev pub HasNoChain : List ℕ → List Waiter → Type 0
HasNoChain chain waiters = (chain ≡ []) × (waiters ≡ [])

-- the chain of a cell record; a cell that no request waits for has none
abbrev pub HasChain : List NodeRecord → CellRecord → List ℕ → List Waiter → Type 0
HasChain nodes (FreeCell hole next) chain waiters = HasNoChain chain waiters
HasChain nodes (BlockCell block TagEmpty) chain waiters = HasNoChain chain waiters
HasChain nodes (BlockCell block (TagWaiting first last)) chain waiters = IsChain nodes first last chain waiters
HasChain nodes (BlockCell block (TagFull v)) chain waiters = HasNoChain chain waiters
HasChain nodes (BlockCell block (TagClashed v)) chain waiters = HasNoChain chain waiters

-- each cell record has its chain and its waiters
abbrev pub HaveChains : List NodeRecord → List CellRecord → List (List ℕ) → List (List Waiter) → Type 0
HaveChains nodes [] [] [] = Unit {0}
HaveChains nodes (cell ∷ cells) (chain ∷ chains) (waiters ∷ lists) =
    HasChain nodes cell chain waiters × HaveChains nodes cells chains lists
HaveChains nodes cells chains lists = ⊥

-- 1 if a test holds, else 0
abbrev pub bit : Bool → ℕ
bit true = 1
bit false = 0

-- how often a node stands in a chain
abbrev pub uses : ℕ → List ℕ → ℕ
uses n [] = 0
uses n (node ∷ chain) = bit (n == node) + uses n chain

-- how often a node stands in chains
abbrev pub all_uses : ℕ → List (List ℕ) → ℕ
all_uses n [] = 0
all_uses n (chain ∷ chains) = uses n chain + all_uses n chains

-- whether a node is marked as one of a list
abbrev pub is_listed : NodeRecord → Bool
is_listed (FreeNode next) = false
is_listed (ListNode next who) = true

-- the lists of waiters, one for each cell, stand in the nodes: each node of a list stands once in one chain, and no
-- other node does
pub record ShowLists (nodes : List NodeRecord) (cells : List CellRecord) (lists : List (List Waiter)) : Type 0 where
  pub chains : List (List ℕ)
  pub have : HaveChains nodes cells chains lists
  pub once : (n : ℕ) → all_uses n chains ≡ bit (is_listed (slice_index_or nodes n (FreeNode NONE)))
