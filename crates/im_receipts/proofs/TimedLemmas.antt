-- The times of two histories of one trace.
use Rattle.std.proofs.Common.{◌≡◌, ℕ, ◌≤◌, List, length, ap, arith, length-append}
use Rattle.{im_types.specs.Types.Line, im_trace.specs.Lines.NeverGoBack, im_trace.specs.Lines.time_at}
use mathlib.Core.List.{IsPrefix}

pub in_time : (times : List ℕ) (trace one two : List Line) → NeverGoBack times → length times ≡ length trace
    → IsPrefix one two → IsPrefix two trace → time_at times (length one) ≤ time_at times (length two)
in_time times trace one two order whole p q =
    order (length one) (length two) (omega (arith, length-append one p.0, ap length p.1))
    (omega (arith, whole, length-append two q.0, ap length q.1))
