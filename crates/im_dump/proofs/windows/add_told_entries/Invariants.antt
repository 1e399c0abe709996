use Rattle.std.proofs.Common.{◌≡◌, ◌+◌, ◌++◌, slice_get, string_bytes}
use Rattle.im_text.specs.Texts.{texts_below}
use Rattle.im_dump.specs.Dump.{kept_entry}

abbrev pub invariant-loop-i : Rattle.im_dump.proofs.windows.add_told_entries.Given.invariant-loop-i
invariant-loop-i l = string_bytes l.out ≡ string_bytes l.fn.out
    ++ texts_below (λ i. kept_entry l.element (l.window.base + i) (slice_get l.window.kept i)) l.i
