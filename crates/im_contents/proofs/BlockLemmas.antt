-- Cells lie in blocks exactly where each block begins behind others and is whole.
use Rattle.std.proofs.Common.{◌≡◌, ℕ, zero, suc, ◌+◌, ◌<◌, ◌≤◌, List, [], ◌∷◌, length, Some, None, sym, refl, ap, ◌∙◌}
use Rattle.std.proofs.Common.{⊎_elim, arith}
use Rattle.std.proofs.lemmas.{Bool.cases_lt, List.get_or_past}
use Rattle.im_types.specs.Types.{Waiter, Block, NONE, block_at, HasBlocks, CellRecord, FreeCell, BlockCell, cells_shown}
use Rattle.im_contents.proofs.MarkLemmas.{none_some}
use Rattle.im_contents.specs.Local.{EndsBefore, HaveBlocksBelow, IsBlockAt, LieIn, recorded_block, recorded_block_at}

pub length-cells_shown : (cells : List CellRecord) (lists : List (List Waiter)) → length (cells_shown cells lists)
    ≡ length cells
length-cells_shown [] lists = refl
length-cells_shown (cell ∷ cells) [] = ap suc (length-cells_shown cells [])
length-cells_shown (cell ∷ cells) (waiters ∷ lists) = ap suc (length-cells_shown cells lists)

-- who waits has no part in a block
block_at-shown : (cells : List CellRecord) (lists : List (List Waiter)) (a : ℕ)
    → block_at (cells_shown cells lists) a ≡ recorded_block_at cells a
block_at-shown [] lists a = refl
block_at-shown (FreeCell hole next ∷ cells) [] zero = refl
block_at-shown (FreeCell hole next ∷ cells) (waiters ∷ lists) zero = refl
block_at-shown (BlockCell block tag ∷ cells) [] zero = refl
block_at-shown (BlockCell block tag ∷ cells) (waiters ∷ lists) zero = refl
block_at-shown (cell ∷ cells) [] (suc a) = block_at-shown cells [] a
block_at-shown (cell ∷ cells) (waiters ∷ lists) (suc a) = block_at-shown cells lists a

-- a cell of a block is one of the cells
pub in_cells : (cells : List CellRecord) (a : ℕ) (block : Block) → recorded_block_at cells a ≡ Some block
    → a < length cells
in_cells cells a block e = ⊎_elim
    (λ (lt : a < length cells). lt)
    (λ (past : length cells ≤ a). absurd
    (none_some block (sym (ap recorded_block (get_or_past cells a (FreeCell 0 NONE) past)) ∙ e)))
    (cases_lt a (length cells))

-- a free cell is no part of a block
pub free_below : (cells : List CellRecord) (place : ℕ) → HaveBlocksBelow cells place
    → None ≡ recorded_block_at cells place
    → HaveBlocksBelow cells (place + 1)
free_below cells place below free a block lt here = ⊎_elim
    (λ (less : a < place). let e = below a block less here in record {
      from = e.from;
      to = e.to;
      end = omega
          (arith, e.end);
      whole = e.whole;
    })
    (λ (past : place ≤ a). absurd
    (none_some block (free ∙ ap (recorded_block_at cells) (let same : place ≡ a = omega arith in same) ∙ here)))
    (cases_lt a place)

-- where cells lie in blocks, the first cell behind some of them begins one
pub begins_block : (cells : List CellRecord) (lists : List (List Waiter)) (place : ℕ) (block : Block)
    → HasBlocks (cells_shown cells lists) → HaveBlocksBelow cells place
    → recorded_block_at cells place ≡ Some block → IsBlockAt cells place block
begins_block cells lists place block blocks below here =
    let w = blocks.within place block (block_at-shown cells lists place ∙ here) in
    let count = length-cells_shown cells lists in
    let whole : LieIn cells block.base (block.base + block.length) block =
    λ a le lt. sym (block_at-shown cells lists a)
    ∙ blocks.whole place block (block_at-shown cells lists place ∙ here) a le lt in
    let from : block.base ≡ place = ⊎_elim
    (λ (less : block.base < place). absurd
    (omega (
      arith,
      (below block.base block less
          (whole block.base (omega arith) (omega (arith, w.0, w.1)))).end,
      w.1,
    )))
    (λ (past : place ≤ block.base). omega (arith, w.0))
    (cases_lt block.base place) in
    record { from = from; to = w.1; below = omega (arith, w.2); whole = whole }

-- all cells lie in blocks
pub blocks_of_all : (cells : List CellRecord) (lists : List (List Waiter)) (place : ℕ) → length cells ≡ place
    → HaveBlocksBelow cells place → HasBlocks (cells_shown cells lists)
blocks_of_all cells lists place all below = record {
  within = λ a block here. let e = it a block here in let count = length-cells_shown cells lists in
      (e.from, e.to, omega (arith, e.end));
  whole = λ a block here b le lt. block_at-shown cells lists b ∙ (it a block here).whole b le lt;
}
  where
    it : (a : ℕ) (block : Block) → block_at (cells_shown cells lists) a ≡ Some block → EndsBefore cells place a block
    it a block here =
        let shown = sym (block_at-shown cells lists a) ∙ here in
        below a block (omega (arith, in_cells cells a block shown)) shown

-- who waits has no part in it
pub blocks_of_others : (cells : List CellRecord) (lists others : List (List Waiter))
    → HasBlocks (cells_shown cells lists) → HasBlocks (cells_shown cells others)
blocks_of_others cells lists others blocks = record {
  within = λ a block here. let w = blocks.within a block (same a ∙ here) in
      (w.0, w.1, omega (arith, w.2, length-cells_shown cells lists, length-cells_shown cells others));
  whole = λ a block here b le lt. sym (same b) ∙ blocks.whole a block (same a ∙ here) b le lt;
}
  where
    same : (a : ℕ) → block_at (cells_shown cells lists) a ≡ block_at (cells_shown cells others) a
    same a = block_at-shown cells lists a ∙ sym (block_at-shown cells others a)
