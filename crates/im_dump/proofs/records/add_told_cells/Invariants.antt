use Rattle.std.proofs.Common.{◌≡◌, ◌++◌, string_bytes}
use Rattle.im_text.specs.Texts.{texts_below}
use Rattle.im_dump.specs.Salvage.{told_cell}

abbrev pub invariant-loop-a : Rattle.im_dump.proofs.records.add_told_cells.Given.invariant-loop-a
invariant-loop-a l = string_bytes l.out ≡ string_bytes l.fn.out ++ texts_below (told_cell l.part) l.a
