use Rattle.std.proofs.Common.{◌≤◌, length}
use Rattle.im_dialogue.specs.{declared.lines.TheConstants.KEPT, Hearing.HasReadPart}

abbrev pub invariant-loop-part : Rattle.im_dialogue.proofs.lines.next_line.Given.invariant-loop-part
invariant-loop-part g l = record {
  few : length l.line.items ≤ KEPT;
  read : HasReadPart (g.R.Read.remaining l.fn.input) (g.R.Read.remaining l.input) l.line.items;
}
