-- The effect of an operation on a table of cells and an arena, while the requests that it resumes are still to be
-- answered. (Own.)
use Rattle.std.specs.Prelude.{◌≡◌, ◌<◌, List, [], ◌∷◌, length, Ok, Option}
use Rattle.im_types.specs.Types.{Reply, Waiter, Waiting, Answered, Value, Window, Acted as ActedCells, answer, ask}
use Rattle.{im_arena.specs.Lists.list_at, im_arena.specs.Lists.Shown, im_cell.specs.declared.Slot.Slot}
use Rattle.im_istore.specs.{Access.replies_to, Agreement.Agree, Agreement.AgreeBut, Joined.cells_of}
use Rattle.im_memory.specs.declared.acts.Acted.{Acted}
use Rattle.im_memory.specs.declared.acts.Resumed.{Resumed, TheVariants.Nobody, TheVariants.Readers, TheVariants.Taker}

-- the effect of an operation that is answered at once, and answers no waiting request
abbrev pub telling : Reply → Acted
telling reply = record { entry = Answered reply; resumed = Nobody }

-- the replies to the resumed requests; readers still stand on the list of their cell
abbrev pub replies_of : Resumed → Shown → List (Waiter × Reply)
replies_of Nobody arena = []
replies_of (Taker who value) arena = (who, Value value) ∷ []
replies_of (Readers a value) arena = replies_to (list_at arena.held a) value

-- the readers' list exists
abbrev pub AreListed : Resumed → Shown → Type 0
AreListed Nobody arena = Unit {0}
AreListed (Taker who value) arena = Unit {0}
AreListed (Readers a value) arena = a < length arena.held.lists

-- table and arena agree, except at the cell whose readers are resumed
abbrev pub AgreeFor : Resumed → List (Option Slot) → Shown → Type 0
AgreeFor Nobody slots arena = Agree slots arena
AgreeFor (Taker who value) slots arena = Agree slots arena
AgreeFor (Readers a value) slots arena = AgreeBut a slots arena

-- each of these replies is to a request that waits after the replies before it
abbrev pub AreAwaited : List Window → List (Waiter × Reply) → Type 0
AreAwaited windows [] = Unit {0}
AreAwaited windows (r ∷ replies) = (ask windows r.0 ≡ Ok Waiting) × AreAwaited (answer windows r.0 r.1) replies

-- table and arena are the effect of an operation, and the requests that it resumes are named
pub record HasActed (slots : List (Option Slot)) (arena : Shown) (acted : Acted) (was : ActedCells) : Type 0 where
  pub cells : cells_of slots arena ≡ was.cells
  pub told : acted.entry ≡ was.entry
  pub replies : replies_of acted.resumed arena ≡ was.resumed
  pub listed : AreListed acted.resumed arena
  pub agree : AgreeFor acted.resumed slots arena
