use Rattle.std.proofs.Common.{◌≡◌, ◌++◌, string_bytes}
use Rattle.im_text.specs.Texts.{texts_below}
use Rattle.im_dump.specs.Salvage.{told_node}

abbrev pub invariant-loop-n : Rattle.im_dump.proofs.records.add_told_nodes.Given.invariant-loop-n
invariant-loop-n l = string_bytes l.out ≡ string_bytes l.fn.out ++ texts_below (told_node l.part) l.n
