-- The change that a command makes to the full I cells, given the memory before it. (Own.)
use Rattle.std.specs.Prelude.{ℕ, suc, ◌+◌, Bool, true, false, List, [], ◌∷◌, ◌++◌, take, drop, if◌then◌else◌, nat_lt}
use Rattle.std.specs.Prelude.{◌==◌, Some, None, fold, Option}
use Rattle.std.specs.List.{list_any}
use Rattle.im_types.specs.Act.{block_with_base, is_waiting_cell, same_kind}
use Rattle.im_types.specs.Contents.{CellState, Clashed, Contents, Empty, Full, full_in, Held, held_at}
use Rattle.im_types.specs.declared.{changes.Change.Change, commands.Line.Line}
use Rattle.im_types.specs.declared.changes.Change.TheVariants.{Full as Fills, Gone, Same}
use Rattle.im_types.specs.declared.commands.Call.{Call, TheVariants.Collect, TheVariants.Command as Commands}
use Rattle.im_types.specs.declared.commands.Command.{Command, TheVariants.Confirm, TheVariants.Request as Asks}
use Rattle.im_types.specs.declared.operations.{Block.Block, Kind.TheVariants.I, Op.Op}
use Rattle.im_types.specs.declared.operations.Op.TheVariants.{Alloc, Fetch, Put, Release, Reset, Store, Take}
use Rattle.im_types.specs.{Step.is_accepted, Trace.contents_after}

-- whether an address is one of n from base on
abbrev pub is_among : ℕ → ℕ → ℕ → Bool
is_among base n a = if nat_lt a base then false else nat_lt a (base + n)

-- the value of the full cell at an address after a change
abbrev pub changed : ℕ → Option ℕ → Change → Option ℕ
changed a value Same = value
changed a value (Fills b v) = if a == b then Some v else value
changed a value (Gone base n) = if is_among base n a then None else value

-- the value of the full cell at an address after these changes
abbrev pub value_after : ℕ → Option ℕ → List Change → Option ℕ
value_after a value changes = fold (changed a) value changes

-- whether a change names only addresses below n
abbrev pub is_below : ℕ → Change → Bool
is_below n Same = true
is_below n (Fills a v) = nat_lt a n
is_below n (Gone base length) = if nat_lt n (base + length) then false else true

-- a store fills a cell that is empty or waited for, and marks a full one as clashed
abbrev pub store_change : ℕ → ℕ → CellState → Change
store_change a v (Empty readers) = Fills a v
store_change a v (Full w) = Gone a 1
store_change a v (Clashed w) = Same

-- the change of a store to a cell of a block, if it is an I cell
abbrev pub store_change_in : ℕ → ℕ → Option Held → Change
store_change_in a v None = Same
store_change_in a v (Some held) = if same_kind I held.block.kind then store_change a v held.state else Same

-- a release that is answered with Released frees the block's cells, and a reset that is answered with Cleared empties
-- them
abbrev pub emptying_change : List (Option Held) → ℕ → Option Block → Change
emptying_change cells a None = Same
emptying_change cells a (Some block) =
    if list_any is_waiting_cell (take block.length (drop a cells)) then Same else Gone a block.length

-- the change of an operation that is served
abbrev pub change_of : List (Option Held) → Op → Change
change_of cells (Alloc kind n) = Same
change_of cells (Release a) = emptying_change cells a (block_with_base a (held_at cells a))
change_of cells (Reset a) = emptying_change cells a (block_with_base a (held_at cells a))
change_of cells (Fetch a) = Same
change_of cells (Store a v) = store_change_in a v (held_at cells a)
change_of cells (Take a) = Same
change_of cells (Put a v) = Same

-- the change of an accepted command
abbrev pub change_by : Contents → Command → Change
change_by m (Asks r) = change_of m.cells r.op
change_by m (Confirm element upto) = Same

-- the change of a command, if it is accepted
abbrev pub changes_at : Contents → Command → List Change
changes_at m command = if is_accepted m command then change_by m command ∷ [] else []

-- the changes of a call
abbrev pub changes_in : Contents → Call → List Change
changes_in m (Commands command) = changes_at m command
changes_in m (Collect element number) = []

-- the changes of a trace: one for each accepted command, in order
abbrev pub changes_of : Contents → List Line → List Change
changes_of m [] = []
changes_of m (line ∷ trace) = changes_in m line.call ++ changes_of (contents_after m line.call) trace

-- the change that fills a cell, if it has a value
abbrev pub fill_at : ℕ → Option ℕ → List Change
fill_at a None = []
fill_at a (Some v) = Fills a v ∷ []

-- the changes that fill the full cells of a list, which begins at this address
abbrev pub fills_from : ℕ → List (Option Held) → List Change
fills_from base [] = []
fills_from base (cell ∷ cells) = fill_at base (full_in cell) ++ fills_from (suc base) cells

-- the full cells of a memory, as changes of a memory without full cells
abbrev pub opening : Contents → List Change
opening m = fills_from 0 m.cells

-- the changes that are shown after a trace: the full cells of the memory that was opened, and then one change for each
-- accepted command
abbrev pub shown_by : Contents → List Line → List Change
shown_by m trace = opening m ++ changes_of m trace
