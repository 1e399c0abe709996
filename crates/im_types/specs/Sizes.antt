-- The numbers of cells, elements and journal slots. (Own.)
use Rattle.std.specs.Prelude.{ℕ, ◌≤◌}
use Rattle.im_types.specs.declared.TheConstants.{MAX_CELLS, MAX_ELEMENTS, MAX_SLOTS, MIN_SLOTS}

-- each number is in its range
pub record AreLimits (cells elements slots : ℕ) : Type 0 where
  pub some_cell : 1 ≤ cells
  pub few_cells : cells ≤ MAX_CELLS
  pub some_element : 1 ≤ elements
  pub few_elements : elements ≤ MAX_ELEMENTS
  pub enough_slots : MIN_SLOTS ≤ slots
  pub few_slots : slots ≤ MAX_SLOTS
