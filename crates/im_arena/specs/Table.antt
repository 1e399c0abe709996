-- The lists in a table of nodes. (Own.)
use Rattle.std.specs.Prelude.{◌≡◌, ℕ, zero, suc, ◌+◌, ◌-◌, ◌<◌, ◌≤◌, Bool, true, false, ◌≢◌, List, [], ◌∷◌, ◌++◌, map}
use Rattle.std.specs.Prelude.{length, take, replicate, if◌then◌else◌, ◌==◌, slice_index_or, slice_set, Some, None}
use Rattle.std.specs.Prelude.{sum_by, Option}
use Rattle.im_types.specs.Types.{Waiter, NONE, NodeRecord, ListNode}
use Rattle.im_arena.specs.{Chain.along, Chain.Chains, Chain.place_from, Lists.free_record, Lists.Lists, Lists.Shown}
use Rattle.im_arena.specs.declared.table.{Ends.Ends, Node.Node, Row.Row}

-- a node that holds no waiter
abbrev pub blank_node : Node
blank_node = record { next = 0; element = 0; used = false; number = 0 }

-- a row and the number of its nodes
pub record Span : Type 0 where
  pub first : ℕ
  pub last : ℕ
  pub count : ℕ

-- a row with no node
abbrev pub blank_row : Row
blank_row = record { first = 0; last = 0 }

-- a span with no node
abbrev pub blank_span : Span
blank_span = record { first = 0; last = 0; count = 0 }

-- a free node that links to none
abbrev pub free_node : Node
free_node = record { next = NONE; element = 0; used = false; number = 0 }

-- a node with a waiter, which links to none
abbrev pub used_node : Waiter → Node
used_node w = record { next = NONE; element = w.element; used = true; number = w.number }

-- the waiter that a node holds
abbrev pub waiter_in : Node → Waiter
waiter_in node = record { element = node.element; number = node.number }

-- the record of a node, by whether it is used
abbrev pub record_if : Bool → Node → NodeRecord
record_if true node = ListNode node.next (waiter_in node)
record_if false node = free_record

-- the record of a node
abbrev pub record_of : Node → NodeRecord
record_of node = record_if node.used node

-- the ends of a row, if it isn't empty
abbrev pub ends_of : Row → Option Ends
ends_of row = if row.first == NONE then None else Some (record { first = row.first; last = row.last })

-- the link of a node
abbrev pub next_of : List Node → ℕ → ℕ
next_of nodes n = (slice_index_or nodes n blank_node).next

-- whether a node is marked as used
abbrev pub used_of : List Node → ℕ → Bool
used_of nodes n = (slice_index_or nodes n blank_node).used

-- the waiter in a node
abbrev pub waiter_of : List Node → ℕ → Waiter
waiter_of nodes n = waiter_in (slice_index_or nodes n blank_node)

-- the number of links from a node to NONE, counted up to a bound
abbrev pub steps_from : (ℕ → ℕ) → ℕ → ℕ → ℕ
steps_from next at zero = 0
steps_from next at (suc n) = if at == NONE then 0 else suc (steps_from next (next at) n)

-- a row, and the number of nodes on its links
abbrev pub span_of : List Node → Row → Span
span_of nodes row =
    record { first = row.first; last = row.last; count = steps_from (next_of nodes) row.first (length nodes) }

-- the same for each row
abbrev pub spans_of : List Node → List Row → List Span
spans_of nodes rows = map (span_of nodes) rows

-- the first node of a span
abbrev pub list_first : List Span → ℕ → ℕ
list_first spans a = (slice_index_or spans a blank_span).first

-- the last node of a span
abbrev pub list_last : List Span → ℕ → ℕ
list_last spans a = (slice_index_or spans a blank_span).last

-- the number of nodes of a span
abbrev pub count_of : List Span → ℕ → ℕ
count_of spans a = (slice_index_or spans a blank_span).count

-- the waiters on a span, in order
abbrev pub waiters_on : List Node → Span → List Waiter
waiters_on nodes span = along (waiter_of nodes) (next_of nodes) span.first span.count

-- the waiters on the span with this number
abbrev pub row_at : List Node → List Span → ℕ → List Waiter
row_at nodes spans a = waiters_on nodes (slice_index_or spans a blank_span)

-- the waiters from a node on
abbrev pub waiters_from : List Node → ℕ → List Waiter
waiters_from nodes at = along (waiter_of nodes) (next_of nodes) at (steps_from (next_of nodes) at (length nodes))

-- the links from a node on lead through nodes of the table, and then to NONE
pub record IsWalk (nodes : List Node) (at : ℕ) : Type 0 where
  pub few : length nodes ≤ NONE
  pub short : steps_from (next_of nodes) at (length nodes) ≤ length nodes
  pub within : (i : ℕ) → i < steps_from (next_of nodes) at (length nodes)
      → place_from (next_of nodes) at i < length nodes
  pub end : place_from (next_of nodes) at (steps_from (next_of nodes) at (length nodes)) ≡ NONE

-- each node is on one span, in one place of it
pub record Sound (nodes : List Node) (spans : List Span) : Type 0 where
  pub chains : Chains (length nodes) (length spans) NONE (next_of nodes) (used_of nodes) (list_first spans)
      (list_last spans) (count_of spans)
  pub total : sum_by (λ (s : Span). s.count) spans ≡ length nodes

-- a row from `first` to `last` after a node is linked at its end
pub record Attached (old new : List Node) (first last node : ℕ) (result : Row) : Type 0 where
  pub end : result.last ≡ node
  pub empty : last ≡ NONE → (result.first ≡ node) × (new ≡ old)
  pub longer : last ≢ NONE
      → (result.first ≡ first)
      × (new ≡ slice_set old last (record (slice_index_or old last blank_node) { next = node }))

-- a row that ended at `last`, without its first node, which linked to `next`
pub record Detached (last next : ℕ) (result : Row) : Type 0 where
  pub first : result.first ≡ next
  pub one : next ≡ NONE → result.last ≡ NONE
  pub more : next ≢ NONE → result.last ≡ last

-- the first node of the row `from` is now the last one of the row `to`, and has new content
pub record Transferred (nodes nodes2 : List Node) (rows rows2 : List Row) (from to : ℕ) (content : Node)
    (result : Waiter) : Type 0 where
  pub sound : Sound nodes2 (spans_of nodes2 rows2)
  pub size : length rows2 ≡ length rows
  pub table : length nodes2 ≡ length nodes
  pub front : row_at nodes (spans_of nodes rows) from ≡ result ∷ row_at nodes2 (spans_of nodes2 rows2) from
  pub back : row_at nodes2 (spans_of nodes2 rows2) to ≡ row_at nodes (spans_of nodes rows) to ++ waiter_in content ∷ []
  pub others : (b : ℕ) → b < length rows → b ≢ from → b ≢ to
      → row_at nodes2 (spans_of nodes2 rows2) b ≡ row_at nodes (spans_of nodes rows) b
  -- the two rows after it, and the nodes that changed
  pub giver : Row
  pub taker : Row
  pub detached : Detached (slice_index_or rows from blank_row).last
      (next_of nodes (slice_index_or rows from blank_row).first) giver
  pub attached : Attached (slice_set nodes (slice_index_or rows from blank_row).first content) nodes2
      (slice_index_or rows to blank_row).first (slice_index_or rows to blank_row).last
      (slice_index_or rows from blank_row).first taker
  pub rows_are : rows2 ≡ slice_set (slice_set rows from giver) to taker

-- the lists that callers see: the spans but the last one, which is that of the free nodes
abbrev pub held : List Node → List Span → ℕ → Lists
held nodes spans lists = record { nodes = length nodes; lists = take lists (map (waiters_on nodes) spans) }

-- the arena that callers see, from nodes and rows
abbrev pub shown_table : List Node → List Row → ℕ → Shown
shown_table nodes rows lists = record {
  held = held nodes (spans_of nodes rows) lists;
  links =
      record {
        records = map record_of nodes;
        ends = take lists (map ends_of rows);
        spare = (slice_index_or rows lists blank_row).first;
      };
}

-- the rows that callers see come first, and the row of the free nodes last; this number of nodes is free
pub record IsArena (nodes : List Node) (rows : List Row) (lists free : ℕ) : Type 0 where
  pub sound : Sound nodes (spans_of nodes rows)
  pub size : length rows ≡ lists + 1
  pub count : free ≡ count_of (spans_of nodes rows) lists

-- a row without nodes
abbrev pub empty_row : Row
empty_row = record { first = NONE; last = NONE }

-- a row of all nodes in turn
abbrev pub full_row : ℕ → Row
full_row nodes = if nodes == 0 then empty_row else record { first = 0; last = nodes - 1 }

-- this number of empty rows, and then one of all nodes
abbrev pub start_rows : ℕ → ℕ → List Row
start_rows nodes lists = slice_set (replicate (lists + 1) empty_row) lists (full_row nodes)

-- this number of free nodes, each linked to the next one
pub record AreFree (nodes : List Node) (count : ℕ) : Type 0 where
  pub size : length nodes ≡ count
  pub unused : (n : ℕ) → n < length nodes → used_of nodes n ≡ false
  pub chained : (n : ℕ) → n + 1 < count → next_of nodes n ≡ n + 1
  pub tail : (n : ℕ) → n + 1 ≡ count → next_of nodes n ≡ NONE
