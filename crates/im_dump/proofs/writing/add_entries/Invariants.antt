use Rattle.std.proofs.Common.{◌≡◌, ℕ, ◌+◌, ◌-◌, ◌<◌, ◌++◌, slice_get, Some, string_bytes}
use Rattle.im_types.specs.Types.{Window, next_number, FitsPlace}
use Rattle.im_text.specs.Texts.{texts_below}
use Rattle.im_dump.specs.Dump.{kept_entry}

abbrev pub invariant-loop-number : Rattle.im_dump.proofs.writing.add_entries.Given.invariant-loop-number
invariant-loop-number l = record {
  lines : (w : Window) → slice_get l.memory.contents.windows l.element ≡ Some w → l.base ≡ w.base → l.next
      ≡ next_number w
      → string_bytes l.out ≡ string_bytes l.fn.out ++ texts_below (λ i. kept_entry l.element (w.base + i) (slice_get
      w.kept i)) (l.number - l.base);
  fits : (w : Window) → slice_get l.memory.contents.windows l.element ≡ Some w → l.base ≡ w.base
      → (i : ℕ) → i < l.number - l.base → FitsPlace (slice_get w.kept i);
}
