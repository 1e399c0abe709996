-- Whether cells lie in blocks, found by a look at each cell in turn. (Own.)
use Rattle.std.specs.Prelude.{◌≡◌, ℕ, ◌+◌, ◌<◌, ◌≤◌, List, length, slice_index_or, Some, None, Option}
use Rattle.im_types.specs.Types.{Block, NONE, CellRecord, FreeCell, BlockCell}

-- the block of a record's cell
abbrev pub recorded_block : CellRecord → Option Block
recorded_block (FreeCell hole next) = None
recorded_block (BlockCell block tag) = Some block

-- the block of the cell at an address
abbrev pub recorded_block_at : List CellRecord → ℕ → Option Block
recorded_block_at cells a = recorded_block (slice_index_or cells a (FreeCell 0 NONE))

-- the cells from one place up to another say that they lie in a block
abbrev pub LieIn : List CellRecord → ℕ → ℕ → Block → Type 0
LieIn cells from to block = (a : ℕ) → from ≤ a → a < to → recorded_block_at cells a ≡ Some block

-- a block begins at a place, ends within the cells, and each of its cells says that it lies in it
pub record IsBlockAt (cells : List CellRecord) (a : ℕ) (block : Block) : Type 0 where
  pub from : block.base ≡ a
  pub to : a < block.base + block.length
  pub below : block.base + block.length ≤ length cells
  pub whole : LieIn cells block.base (block.base + block.length) block

-- the cell at an address lies in a block that ends at or before a place, and all cells of the block say so
pub record EndsBefore (cells : List CellRecord) (place a : ℕ) (block : Block) : Type 0 where
  pub from : block.base ≤ a
  pub to : a < block.base + block.length
  pub end : block.base + block.length ≤ place
  pub whole : LieIn cells block.base (block.base + block.length) block

-- the cells below a place lie in blocks that end at or before it
abbrev pub HaveBlocksBelow : List CellRecord → ℕ → Type 0
HaveBlocksBelow cells place = (a : ℕ) (block : Block) → a < place → recorded_block_at cells a ≡ Some block
    → EndsBefore cells place a block
