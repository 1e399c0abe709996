-- The addresses of a block, and the reply for a block that stays as it is. (Own.)
use Rattle.std.specs.Prelude.{◌≡◌, ℕ, ◌+◌, ◌<◌, ◌≤◌, List, Some, Option}
use Rattle.im_types.specs.Types.{Reply, Block, Held, held_at, block_at, only_tells, block_with_base, unless_waited_for}
use Rattle.im_laws.specs.Cells.{empty_cell}

-- the address is one of the block's
abbrev pub LiesIn : ℕ → Block → Type 0
LiesIn a block = (block.base ≤ a) × (a < block.base + block.length)

-- two blocks of these cells that share an address are one block
abbrev pub BlocksAreApart : List (Option Held) → Type 0
BlocksAreApart cells =
    (a b shared : ℕ) (first second : Block) → block_at cells a ≡ Some first → block_at cells b ≡ Some second
    → LiesIn shared first → LiesIn shared second → first ≡ second

-- each cell of the block is there, and is empty
abbrev pub HasEmptyBlock : List (Option Held) → Block → Type 0
HasEmptyBlock cells block = (a : ℕ) → LiesIn a block → held_at cells a ≡ Some (empty_cell block)

-- each cell of the block with this base, by its address and its block
abbrev pub EachCellOf : List (Option Held) → ℕ → (ℕ → Block → Type 0) → Type 0
EachCellOf cells a Fact = (b : ℕ) (block : Block) → block_at cells b ≡ Some block → block.base ≡ a → Fact b block

-- the reply of the block with this base, whatever change of its cells was asked for
abbrev pub TellsOnly : List (Option Held) → ℕ → Reply → Type 0
TellsOnly cells a reply =
    (after : Block → List (Option Held)) (meant : Reply)
    → unless_waited_for after meant cells a (block_with_base a (held_at cells a)) ≡ only_tells cells reply
