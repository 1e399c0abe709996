-- A cell without a value, as its takers show it. (Own.)
use Rattle.std.specs.Prelude.{List, [], ◌∷◌}
use Rattle.im_types.specs.Types.{Waiter, Cell, CellEmpty as Empty, CellWaiting as Waiting}

-- the cell without a value that these wait for
abbrev pub open_cell : List Waiter → Cell
open_cell [] = Empty
open_cell (waiter ∷ waiters) = Waiting
