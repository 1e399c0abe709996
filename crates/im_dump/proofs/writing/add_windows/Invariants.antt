use Rattle.std.proofs.Common.{◌≡◌, ℕ, ◌<◌, ◌++◌, slice_get, string_bytes}
use Rattle.im_text.specs.Texts.{texts_below}
use Rattle.im_dump.specs.{Dump.window_lines, Fitting.FitsWindowOf}

abbrev pub invariant-loop-element : Rattle.im_dump.proofs.writing.add_windows.Given.invariant-loop-element
invariant-loop-element l = record {
  lines : string_bytes l.out ≡ string_bytes l.fn.out ++ texts_below (λ element. window_lines element (slice_get
      l.memory.contents.windows element)) l.element;
  fits : (k : ℕ) → k < l.element → FitsWindowOf l.memory.contents k;
}
