use Rattle.std.proofs.Common.{◌≡◌, ◌++◌, slice_get, string_bytes}
use Rattle.im_text.specs.Texts.{texts_below}
use Rattle.im_report.specs.Report.{window_text}

abbrev pub invariant-loop-element : Rattle.im_report.proofs.report.add_elements.Given.invariant-loop-element
invariant-loop-element l = string_bytes l.out ≡ string_bytes l.fn.out ++ texts_below (λ element. window_text l.notation element (slice_get l.memory.contents.windows element)) l.element
