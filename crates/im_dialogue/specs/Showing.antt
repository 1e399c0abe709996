-- What is shown of a memory by a line that only looks. (Own.)
use Rattle.std.specs.Prelude.{ℕ, List, [], ◌∷◌, ◌++◌, length, if◌then◌else◌, nat_lt, slice_get, Some, None, Ok, Err}
use Rattle.std.specs.Prelude.{codes, decimal, flat_map, Option, Result}
use Rattle.im_types.specs.Types.{Waiter, Block, Kept as KeptEntry, Refusal, Gap, Forgotten, Window, Contents, held_at}
use Rattle.im_types.specs.Types.{waiters_at, kept_for, block_at, presence_in, Cell, bounds}
use Rattle.im_text.specs.Texts.{kind_text, line_feed}
use Rattle.im_report.specs.Figures.{kept_in, queue_at, sum_below}
use Rattle.im_dialogue.specs.{Counting.addresses_of, declared.sort.Sort.Sort}
use Rattle.im_dialogue.specs.declared.sort.Sort.TheVariants.{Base, Clashed, Empty, Full, Waiting}
use Rattle.im_types.specs.declared.cells.Cell.TheVariants as cell

-- ---- a request and what is kept for it

-- what is kept for a request with its operation, or why nothing is kept, as for `collect`, by the bounds of the window
abbrev pub recalled : ℕ → Result (ℕ × ℕ) Refusal → Option KeptEntry → Result KeptEntry Refusal
recalled number (Err refusal) kept = Err refusal
recalled number (Ok (base, next)) (Some kept) = Ok kept
recalled number (Ok (base, next)) None = Err (if nat_lt number base then Forgotten else Gap)

-- a request and what is kept for it, or why nothing is kept
abbrev pub recall : List Window → Waiter → Result KeptEntry Refusal
recall windows who = recalled who.number (bounds windows who.element) (kept_for windows who)

-- ---- a cell

-- the requests that wait, in their order: E.N of each, behind a space
abbrev pub queue_text : List Waiter → List ℕ
queue_text [] = []
queue_text (who ∷ others) =
    (codes " " ++ decimal who.element ++ codes "." ++ decimal who.number) ++ queue_text others

-- the state of a cell, with its value or the requests that wait at it
abbrev pub state_text : Option Cell → List Waiter → List ℕ
state_text None waiters = []
state_text (Some cell.Empty) waiters = codes " empty"
state_text (Some cell.Waiting) waiters = codes " waiting" ++ queue_text waiters
state_text (Some (cell.Full v)) waiters = codes " full " ++ decimal v
state_text (Some (cell.Clashed v)) waiters = codes " clashed " ++ decimal v

-- the kind and the state of a cell, or that there is none, by the block that it lies in
abbrev pub held_text : Option Block → Option Cell → List Waiter → List ℕ
held_text None seen waiters = codes "nocell"
held_text (Some block) seen waiters = kind_text block.kind ++ state_text seen waiters

-- cell A KIND STATE, or cell A nocell
abbrev pub cell_said : Contents → ℕ → List ℕ
cell_said m a = codes "cell " ++ decimal a ++ codes " "
    ++ held_text (block_at m.cells a) (presence_in (held_at m.cells a)) (waiters_at m.cells a)

-- block BASE KIND LENGTH, or block A noblock
abbrev pub block_said : ℕ → Option Block → List ℕ
block_said a None = codes "block " ++ decimal a ++ codes " noblock"
block_said a (Some b) =
    codes "block " ++ decimal b.base ++ codes " " ++ kind_text b.kind ++ codes " " ++ decimal b.length

-- E window BASE NEXT, by the bounds of the window
abbrev pub window_said : ℕ → Result (ℕ × ℕ) Refusal → List ℕ
window_said element (Ok w) = decimal element ++ codes " window " ++ decimal w.0 ++ codes " " ++ decimal w.1
window_said element (Err refusal) = []

-- ---- lists

-- a word, a number, and what is said of each place, behind a comma
abbrev pub list_said : List ℕ → ℕ → (ℕ → List ℕ) → List ℕ → List ℕ
list_said word many said places =
    word ++ codes " " ++ decimal many ++ flat_map (λ place. codes ", " ++ said place) places ++ line_feed

-- the same, with how many places there are
abbrev pub list_line : List ℕ → (ℕ → List ℕ) → List ℕ → List ℕ
list_line word said places = list_said word (length places) said places

-- what is said of an address of this sort: of a base its block, else its cell
abbrev pub shown_at : Sort → Contents → ℕ → List ℕ
shown_at Base m a = block_said a (block_at m.cells a)
shown_at sort m a = cell_said m a

-- ---- counts

-- a word, and how many addresses are of a sort
abbrev pub count_said : List ℕ → Sort → Contents → List ℕ
count_said word sort m = word ++ decimal (length (addresses_of sort m))

-- stat cells C blocks B empty E waiting W full F clashed X kept K deferred D: how many cells of blocks are in each
-- state, how many entries are kept, and how many requests wait
abbrev pub stat_line : Contents → List ℕ
stat_line m = (codes "stat cells " ++ decimal (length m.cells) ++ count_said (codes " blocks ") Base m)
    ++ (count_said (codes " empty ") Empty m ++ count_said (codes " waiting ") Waiting m)
    ++ (count_said (codes " full ") Full m ++ count_said (codes " clashed ") Clashed m)
    ++ (codes " kept " ++ decimal (sum_below (λ k. kept_in (slice_get m.windows k)) (length m.windows)))
    ++ (codes " deferred " ++ decimal (sum_below (queue_at m) (length m.cells)) ++ line_feed)

-- ---- help

-- what `help` says: the requests of a dialogue, and its other lines
abbrev pub help_line : List ℕ
help_line = (codes "help E.N alloc i LENGTH, E.N alloc m LENGTH, E.N release A, E.N reset A, E.N fetch A, "
    ++ codes "E.N store A VALUE, E.N take A, E.N put A VALUE, ")
    ++ (codes "collect E.N, entry E.N, confirm E UPTO, window E, elements, cell A, "
    ++ codes "cells A-B, waiting, block A, blocks, "
    ++ codes "stat, room, turn, count, about, backup NAME, help, quit" ++ line_feed)
