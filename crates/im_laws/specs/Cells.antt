-- The cells that an operation may change. (Own.)
use Rattle.std.specs.Prelude.{◌≡◌, ℕ, List, [], Some, None, Option}
use Rattle.im_types.specs.Types.{Op, Block, Alloc, Release, Reset, Fetch, Store, Take, Put, Empty, Held, held_at}
use Rattle.im_types.specs.Types.{block_at}

-- an allocation may change cells in no block, a release and a reset the cells of the block with that base, and another
-- operation the cell at its address
abbrev pub MayChange : Op → List (Option Held) → ℕ → Type 0
MayChange (Alloc kind n) cells b = held_at cells b ≡ None
MayChange (Release a) cells b = (block : Block) × (block_at cells b ≡ Some block) × (block.base ≡ a)
MayChange (Reset a) cells b = (block : Block) × (block_at cells b ≡ Some block) × (block.base ≡ a)
MayChange (Fetch a) cells b = b ≡ a
MayChange (Store a v) cells b = b ≡ a
MayChange (Take a) cells b = b ≡ a
MayChange (Put a v) cells b = b ≡ a

-- the cell of a new block: no request waits for it
abbrev pub empty_cell : Block → Held
empty_cell block = record { block = block; state = Empty [] }
