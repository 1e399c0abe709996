-- An arena as contracts see it: the waiters on its lists, and the links between its nodes, for a caller that shows the
-- table of nodes. (Own.)
use Rattle.std.specs.Prelude.{◌≡◌, ℕ, ◌+◌, ◌-◌, ◌<◌, ◌≢◌, ◌↔◌, List, [], ◌∷◌, ◌++◌, length, drop, slice_get}
use Rattle.std.specs.Prelude.{slice_index_or, slice_set, Some, None, sum_by, Option}
use Rattle.im_types.specs.Types.{Waiter, NONE, NodeRecord, ListNode, FreeNode}
use Rattle.im_arena.specs.{Chain.place_from, declared.table.Ends.Ends}

-- the number of nodes, and the waiters on each list
pub record Lists : Type 0 where
  pub nodes : ℕ
  pub lists : List (List Waiter)

-- the record of each node, the ends of each list (None for an empty one), and the node that the next waiter takes (NONE
-- if no node is free)
pub record Links : Type 0 where
  pub records : List NodeRecord
  pub ends : List (Option Ends)
  pub spare : ℕ

-- an arena as contracts see it: the waiters of its lists, and the links that lead through them
pub record Shown : Type 0 where
  pub held : Lists
  pub links : Links

-- the waiters on a list, in order
abbrev pub list_at : Lists → ℕ → List Waiter
list_at held list = slice_index_or held.lists list []

-- the lists with other waiters on this one
abbrev pub with_list : Lists → ℕ → List Waiter → Lists
with_list held list waiters = record { nodes = held.nodes; lists = slice_set held.lists list waiters }

-- the number of nodes that hold no waiter
abbrev pub free : Lists → ℕ
free held = held.nodes - sum_by length held.lists

-- the first waiter is taken off one list, this one stands at the end of another, and the other lists are as before
pub record IsHandedOver (from to : ℕ) (waiter : Waiter) (old new : Lists) : Type 0 where
  pub rest : list_at new from ≡ drop 1 (list_at old from)
  pub behind : list_at new to ≡ list_at old to ++ waiter ∷ []
  pub others : (list : ℕ) → list ≢ from → list ≢ to → list_at new list ≡ list_at old list

-- the record of a free node
abbrev pub free_record : NodeRecord
free_record = FreeNode NONE

-- from the node `at` on, the links lead through nodes with these waiters, in their order, and then to NONE; the
-- last of these nodes is `last`. The node `before` is the one that led here.
abbrev pub Threads : List NodeRecord → ℕ → ℕ → ℕ → List Waiter → Type 0
Threads records before at last [] = (at ≡ NONE) × (before ≡ last)
Threads records before at last (w ∷ ws) =
    (next : ℕ) × (slice_get records at ≡ Some (ListNode next w)) × Threads records at next last ws

-- the first node of a list
abbrev pub first_in : Option Ends → ℕ
first_in None = NONE
first_in (Some e) = e.first

-- the last node of ends, or NONE
abbrev pub last_in : Option Ends → ℕ
last_in None = NONE
last_in (Some e) = e.last

-- the ends of a list
abbrev pub ends_at : Links → ℕ → Option Ends
ends_at links list = slice_index_or links.ends list None

-- the link of a record
abbrev pub link_of : NodeRecord → ℕ
link_of (FreeNode next) = next
link_of (ListNode next waiter) = next

-- the link of a node
abbrev pub next_in : Links → ℕ → ℕ
next_in links n = link_of (slice_index_or links.records n free_record)

-- the node at a place of a list
abbrev pub node_at : Links → ℕ → ℕ → ℕ
node_at links list place = place_from (next_in links) (first_in (ends_at links list)) place

-- the links from the first node of each list lead through its waiters to its last node, whose link is NONE. No node is
-- on two lists or twice on one, and a node that is on none is free.
pub record IsThreaded (shown : Shown) : Type 0 where
  pub node_count : length shown.links.records ≡ shown.held.nodes
  pub list_count : length shown.links.ends ≡ length shown.held.lists
  pub empty : (list : ℕ) → list < length shown.held.lists
      → (ends_at shown.links list ≡ None) ↔ (list_at shown.held list ≡ [])
  pub threads : (list : ℕ) → list < length shown.held.lists
      → Threads shown.links.records NONE (first_in (ends_at shown.links list)) (last_in (ends_at shown.links list))
      (list_at shown.held list)
  pub once : (a b i j : ℕ) → a < length shown.held.lists → b < length shown.held.lists
      → i < length (list_at shown.held a) → j < length (list_at shown.held b)
      → node_at shown.links a i ≡ node_at shown.links b j → (a ≡ b) × (i ≡ j)
  pub unreached : (n : ℕ) → n < shown.held.nodes
      → ((a i : ℕ) → a < length shown.held.lists → i < length (list_at shown.held a) → node_at shown.links a i ≢ n)
      → slice_get shown.links.records n ≡ Some free_record

-- a new waiter on a list leaves the ends of all other lists, and the records of all nodes but at most two. These are
-- the node that it takes and, if the list isn't empty, the last node before it, which now links to it.
pub record IsPushed (list : ℕ) (old new : Shown) : Type 0 where
  pub records : (n : ℕ) → n ≢ old.links.spare → (list_at old.held list ≢ [] → n ≢ last_in (ends_at old.links list))
      → slice_get new.links.records n ≡ slice_get old.links.records n
  pub ends : (b : ℕ) → b ≢ list → slice_get new.links.ends b ≡ slice_get old.links.ends b

-- taking the first waiter off a list leaves the ends of all other lists, and the records of all nodes but that
-- waiter's; its list continues with the nodes after that one
pub record IsPopped (list : ℕ) (old new : Shown) : Type 0 where
  pub records : (n : ℕ) → n ≢ first_in (ends_at old.links list)
      → slice_get new.links.records n ≡ slice_get old.links.records n
  pub ends : (b : ℕ) → b ≢ list → slice_get new.links.ends b ≡ slice_get old.links.ends b
  pub rest : (i : ℕ) → i + 1 < length (list_at old.held list)
      → node_at new.links list i ≡ node_at old.links list (i + 1)
