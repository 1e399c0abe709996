use Rattle.std.proofs.Common.{◌≡◌, ◌++◌, string_bytes}
use Rattle.im_types.specs.Types.{held_at, waiters_at, presence_in}
use Rattle.im_text.specs.Texts.{texts_below}
use Rattle.im_report.specs.Report.{cell_line}

abbrev pub invariant-loop-a : Rattle.im_report.proofs.report.add_cells.Given.invariant-loop-a
invariant-loop-a l = string_bytes l.out ≡ string_bytes l.fn.out ++ texts_below (λ a. cell_line l.notation a (presence_in (held_at l.memory.contents.cells a)) (waiters_at l.memory.contents.cells a)) l.a
