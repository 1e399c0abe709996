use Rattle.std.proofs.Common.{◌≡◌, ℕ, ◌<◌, ◌++◌, string_bytes}
use Rattle.{im_types.specs.Types.held_at, im_text.specs.Texts.texts_below}
use Rattle.im_dump.specs.{Dump.cell_lines, Fitting.FitsHeld}

abbrev pub invariant-loop-a : Rattle.im_dump.proofs.writing.add_cells.Given.invariant-loop-a
invariant-loop-a l = record {
  lines : string_bytes l.out ≡ string_bytes l.fn.out ++ texts_below (cell_lines l.memory.contents) l.a;
  fits : (k : ℕ) → k < l.a → FitsHeld (held_at l.memory.contents.cells k);
}
