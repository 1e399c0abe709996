-- What is known of the ports at a controller's end. (Own.)
use Rattle.std.specs.Prelude.{◌≡◌, ℕ, ◌+◌, Bool, ◌↔◌, List, length, IsTrue, sum_by}
use Rattle.std.specs.List.{AllByRecursion}
use Rattle.im_trace.specs.{Ends.CountsTrace, Ends.RecordingState, Lines.LineCounts, Origin.Origin}
use Rattle.im_controller.specs.State.{PortState}
use mathlib.Core.List.{IsPrefix}

-- how many lines these ports were told, and how many of these are marked
abbrev pub told_to_all : List PortState → LineCounts
told_to_all ports = record { lines = sum_by (λ p. p.told.lines) ports; marked = sum_by (λ p. p.told.marked) ports }

-- Of a controller's ports these came back, and some weren't given out. Whether all came that were given out, and
-- whether no line of the trace waits for its port. The trace is of the book of lines.
pub record HaveCome (origin : Origin) (trace : RecordingState) (back : List PortState) (left : ℕ)
    (came claimed : Bool) : Type 0 where
  pub book_is : trace.book ≡ origin.book.lines
  -- each port has seen a prefix of the trace: so have all receipts that it was told
  pub seen : AllByRecursion (λ p. IsPrefix p.history trace.items) back
  -- all came exactly if both make all
  pub exactly : IsTrue came ↔ (length back + left ≡ origin.ports)
  pub whole : length back ≡ origin.ports → IsTrue came
  -- where all came, they were told all lines and all marked lines if no line waits, and fewer lines if one waits
  pub counted : IsTrue came → CountsTrace origin.marks trace.items claimed (told_to_all back)
