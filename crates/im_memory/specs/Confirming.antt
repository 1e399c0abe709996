-- Confirmations on one window. (Own.)
use Rattle.std.specs.Prelude.{ℕ, Bool, false, nat_lt, Some, None, Ok, Err, Option, Result}
use Rattle.im_types.specs.Types.{Kept, Refusal, Window, is_waiting}

-- whether a confirmation with this result drops an entry
abbrev pub forgets : ℕ → Window → Result Window Refusal → Result Bool Refusal
forgets upto w (Ok now) = Ok (nat_lt w.base upto)
forgets upto w (Err refusal) = Err refusal

-- whether the entry waits, if there is one
abbrev pub does_wait : Option Kept → Bool
does_wait None = false
does_wait (Some k) = is_waiting k
