use Rattle.std.proofs.Common.{◌≡◌, ◌-◌, take, drop, slice_get, Some}
use Rattle.std.specs.List.{list_any}
use Rattle.im_types.specs.Types.{Window, is_waiting}

-- whether one waits is whether one of those that are left does
abbrev pub invariant-loop-number : Rattle.im_memory.proofs.windows.any_waits.Given.invariant-loop-number
invariant-loop-number l = (w : Window) → slice_get l.sessions l.element ≡ Some w → w.base ≡ l.base
    → list_any is_waiting (take (l.upto - l.base) w.kept)
    ≡ list_any is_waiting (take (l.upto - l.number) (drop (l.number - l.base) w.kept))
