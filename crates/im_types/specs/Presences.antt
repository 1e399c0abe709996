-- A cell as its presence tag shows it. (Presence tags: Arvind, Nikhil, Pingali, TOPLAS 11(4), 1989. Clashed: own.)
use Rattle.std.specs.Prelude.{[], ◌∷◌, Option, option_map}
use Rattle.im_types.specs.Contents.{CellState, Clashed, Empty, Full, Held}
use Rattle.im_types.specs.declared.cells.Cell.{Cell, TheVariants.Clashed as IsClashed, TheVariants.Empty as IsEmpty}
use Rattle.im_types.specs.declared.cells.Cell.{TheVariants.Full as IsFull, TheVariants.Waiting as IsWaiting}

-- the presence tag of a state
abbrev pub presence_of : CellState → Cell
presence_of (Empty []) = IsEmpty
presence_of (Empty (waiter ∷ waiters)) = IsWaiting
presence_of (Full v) = IsFull v
presence_of (Clashed v) = IsClashed v

-- the presence tag of a cell of a block
abbrev pub presence_in : Option Held → Option Cell
presence_in held = option_map (λ (held : Held). presence_of held.state) held
