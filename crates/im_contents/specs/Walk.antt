-- Following links from node to node, with a mark on each visited node. A walk ends, whatever the links are. (Own.)
use Rattle.std.specs.Prelude.{ℕ, zero, suc, Bool, true, false, not, ◌&&◌, List, [], ◌∷◌, ◌++◌, length, replicate}
use Rattle.std.specs.Prelude.{if◌then◌else◌, ◌==◌, slice_index_or, slice_set, Some, None, Option, option_and_then}
use Rattle.im_types.specs.Types.{Waiter, NONE, CellRecord, NodeRecord, TagEmpty, TagWaiting, TagFull, TagClashed}
use Rattle.im_types.specs.Types.{FreeCell, BlockCell, ListNode, FreeNode, is_listed}

-- the waiters that a walk has met, in their order, and its marks
pub record Walked : Type 0 where
  pub waiters : List Waiter
  pub marks : List Bool

-- the content of a node that no walk has visited; a node that was visited, or isn't there, counts as free
abbrev pub unvisited_node : List Bool → List NodeRecord → ℕ → NodeRecord
unvisited_node marks nodes at =
    if slice_index_or marks at true then FreeNode NONE else slice_index_or nodes at (FreeNode NONE)

-- the node behind
abbrev pub node_behind : NodeRecord → ℕ
node_behind (FreeNode next) = next
node_behind (ListNode next who) = next

-- these waiters, and then those that a walk has met
abbrev pub met_after : List Waiter → Option Walked → Option Walked
met_after front None = None
met_after front (Some w) = Some (record { waiters = front ++ w.waiters; marks = w.marks })

-- a walk from a node on: it depends on the node and on the walk from the next node on
abbrev pub visit : ℕ → ℕ → List Bool → NodeRecord → Option Walked → Option Walked
visit last at marks (FreeNode next) rest = None
visit last at marks (ListNode next who) rest =
    if next == NONE then (if at == last then Some (record { waiters = who ∷ []; marks = marks }) else None)
    else met_after (who ∷ []) rest

-- a walk from a node on to the last one, over at most this many nodes
abbrev pub walk : List NodeRecord → ℕ → ℕ → List Bool → ℕ → Option Walked
walk nodes last zero marks at = None
walk nodes last (suc most) marks at =
    visit last at (slice_set marks at true) (unvisited_node marks nodes at)
    (walk nodes last most (slice_set marks at true) (node_behind (unvisited_node marks nodes at)))

-- the walk over the list of a cell; there is none if nobody waits
unfoldable pub walk_cell : List NodeRecord → CellRecord → List Bool → Option Walked
walk_cell nodes (FreeCell hole next) marks = Some (record { waiters = []; marks = marks })
walk_cell nodes (BlockCell block TagEmpty) marks = Some (record { waiters = []; marks = marks })
walk_cell nodes (BlockCell block (TagWaiting first last)) marks = walk nodes last (length nodes) marks first
walk_cell nodes (BlockCell block (TagFull v)) marks = Some (record { waiters = []; marks = marks })
walk_cell nodes (BlockCell block (TagClashed v)) marks = Some (record { waiters = []; marks = marks })

-- the lists of all cells, and the marks as the walks leave them
pub record AllWalked : Type 0 where
  pub lists : List (List Waiter)
  pub marks : List Bool

-- one more list, before the others
abbrev pub after_list : List Waiter → Option AllWalked → Option AllWalked
after_list waiters None = None
after_list waiters (Some r) = Some (record { lists = waiters ∷ r.lists; marks = r.marks })

-- some lists, before the others
abbrev pub after_lists : List (List Waiter) → Option AllWalked → Option AllWalked
after_lists front None = None
after_lists front (Some r) = Some (record { lists = front ++ r.lists; marks = r.marks })

-- the walks over the lists of all cells, one after another
abbrev pub walk_all : List NodeRecord → List CellRecord → List Bool → Option AllWalked
walk_all nodes [] marks = Some (record { lists = []; marks = marks })
walk_all nodes (cell ∷ cells) marks =
    option_and_then (λ w. after_list w.waiters (walk_all nodes cells w.marks)) (walk_cell nodes cell marks)

-- whether a mark is right
abbrev pub same_mark : Bool → Bool → Bool
same_mark true b = b
same_mark false b = not b

-- whether exactly the nodes that belong to lists were visited
abbrev pub are_reached : List Bool → List NodeRecord → Bool
are_reached [] nodes = true
are_reached (mark ∷ marks) [] = true
are_reached (mark ∷ marks) (node ∷ nodes) = same_mark mark (is_listed node) && are_reached marks nodes

-- the lists, if no node of a list was left out
abbrev pub lists_if_reached : List NodeRecord → AllWalked → Option (List (List Waiter))
lists_if_reached nodes r = if are_reached r.marks nodes then Some r.lists else None

-- the lists of all cells, if each walk finds one and no node of a list is left out
unfoldable pub lists_in : List NodeRecord → List CellRecord → Option (List (List Waiter))
lists_in nodes cells = option_and_then (lists_if_reached nodes) (walk_all nodes cells (replicate (length nodes) false))
