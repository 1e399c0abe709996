use Rattle.std.proofs.Common.{◌≡◌, ◌+◌, ◌-◌, ◌++◌, slice_get, Some, string_bytes}
use Rattle.{im_types.specs.Types.Window, im_text.specs.Texts.texts_below}
use Rattle.im_report.specs.Report.{Bounds, entry_line}

abbrev pub invariant-loop-number : Rattle.im_report.proofs.report.add_entries.Given.invariant-loop-number
invariant-loop-number l = (w : Window) → slice_get l.memory.contents.windows l.element ≡ Some w
    → Bounds l.fn.bounds.0 l.fn.bounds.1 w → string_bytes l.out ≡ string_bytes l.fn.out
    ++ texts_below (λ i. entry_line l.notation l.element (w.base + i) (slice_get w.kept i)) (l.number - l.fn.bounds.0)
