-- The addresses of a memory's blocks, and of its cells in each state. (Own.)
use Rattle.std.specs.Prelude.{ℕ, Bool, true, false, List, length, ◌==◌, Some, filter, Option}
use Rattle.std.specs.{List.range_with_len, Option.option_map_or}
use Rattle.im_types.specs.Types.{Block, Contents, held_at, block_at, presence_in, Cell}
use Rattle.im_dialogue.specs.declared.sort.Sort.{Sort}
use Rattle.im_dialogue.specs.declared.sort.Sort.TheVariants.{Base, Clashed, Empty, Full, Waiting}
use Rattle.im_types.specs.declared.cells.Cell.TheVariants as cell

-- the address is of this sort, by the block that it lies in and its cell
abbrev pub is_counted : Sort → ℕ → Option Block → Option Cell → Bool
is_counted Base a block seen = option_map_or (λ (b : Block). b.base == a) block false
is_counted Empty a block (Some cell.Empty) = true
is_counted Waiting a block (Some cell.Waiting) = true
is_counted Full a block (Some (cell.Full v)) = true
is_counted Clashed a block (Some (cell.Clashed v)) = true
is_counted sort a block seen = false

-- the addresses of this sort, in order
abbrev pub addresses_of : Sort → Contents → List ℕ
addresses_of sort m = filter (λ a. is_counted sort a (block_at m.cells a) (presence_in (held_at m.cells a)))
    (range_with_len 0 (length m.cells))
