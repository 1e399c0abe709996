use Rattle.std.proofs.Common.{◌≡◌, ◌++◌, string_bytes}
use Rattle.{im_types.specs.Types.block_at, im_text.specs.Texts.texts_below}
use Rattle.im_report.specs.Report.{block_line}

abbrev pub invariant-loop-a : Rattle.im_report.proofs.report.add_blocks.Given.invariant-loop-a
invariant-loop-a l = string_bytes l.out ≡ string_bytes l.fn.out ++ texts_below (λ a. block_line l.notation a (block_at l.memory.contents.cells a)) l.a
