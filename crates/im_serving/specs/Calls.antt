-- The calls that an element's server makes. (Own.)
use Rattle.std.specs.Prelude.{◌≡◌, ℕ, ◌+◌, ◌<◌, Bool, false, List, length, slice_get, Some, Result}
use Rattle.im_types.specs.Types.{Op, Outcome, Call, Line, Asks, Confirm, Commands, Collect, Refusal}
use Rattle.im_controller.specs.{Lines.line_of, State.PortState}
use Rattle.im_serving.specs.declared.numbers.ServedNumbers.{ServedNumbers}

-- A call of an element's server that is to ask for these operations, under the numbers from the first on: one of them
-- under its number, a collect, or a confirmation. Of an earlier script it confirms only numbers below `untold`.
abbrev pub IsOwnCall : ℕ → ℕ → ℕ → List Op → Call → Type 0
IsOwnCall element first untold ops (Commands (Asks r)) =
    (r.element ≡ element) × ((at : ℕ) × ((r.number ≡ first + at) × (slice_get ops at ≡ Some r.op)))
IsOwnCall element first untold ops (Commands (Confirm k upto)) =
    (k ≡ element) × ((number : ℕ) → number < first → number < upto → number < untold)
IsOwnCall element first untold ops (Collect k number) = k ≡ element

-- A port made calls like these alone: it was told no marked line more, if no line of such a call is marked. That holds
-- whatever is marked.
abbrev pub MakesOnly : (Line → Bool) → (Call → Type 0) → PortState → PortState → Type 0
MakesOnly marks P old new =
    ((call : Call) (answer : Result Outcome Refusal) → P call → marks (line_of call answer) ≡ false)
    → new.told.marked ≡ old.told.marked

-- A server came from the first numbers to the second, and was to ask for these operations: its port made only calls of
-- such a server. No entry of an earlier script was confirmed but those that were told by then.
abbrev pub MakesOwn : (Line → Bool) → ServedNumbers → ServedNumbers → List Op → PortState → PortState → Type 0
MakesOwn marks was is ops old new = MakesOnly marks (IsOwnCall old.element was.first is.untold ops) old new

-- the same, whatever it was to ask for, if this was the next operation
abbrev pub MakesNext : (Line → Bool) → ServedNumbers → ServedNumbers → Op → PortState → PortState → Type 0
MakesNext marks was is op old new = (ops : List Op) → slice_get ops (length was.entries.items) ≡ Some op
    → MakesOwn marks was is ops old new
