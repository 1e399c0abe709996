use Rattle.std.proofs.Common.{◌≡◌, ◌++◌, slice_get, string_bytes}
use Rattle.im_text.specs.Texts.{texts_below}
use Rattle.im_report.specs.{Look.names_element, Look.text_if, Report.window_text}

abbrev pub invariant-loop-element : Rattle.im_report.proofs.filtering.add_named_elements.Given.invariant-loop-element
invariant-loop-element l = string_bytes l.out ≡ string_bytes l.fn.out
    ++ texts_below (λ k. text_if (names_element l.filter.element k)
    (window_text l.notation k (slice_get l.memory.contents.windows k))) l.element
