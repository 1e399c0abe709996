use Rattle.std.proofs.Common.{◌≡◌, reverse, length}
use Rattle.im_disk.specs.Record.{LieWithin, ranges_of, settled_of}
use Rattle.im_disk.proofs.record.undo.Given as goal

abbrev pub invariant-loop-call : goal.invariant-loop-call
invariant-loop-call l = record {
  settled : settled_of l.bytes.items (reverse l.rest) ≡ settled_of l.initial.bytes.items (reverse l.initial.rest);
  within : LieWithin (length l.bytes.items) (ranges_of (reverse l.rest));
}

abbrev pub decreases-loop-call : goal.decreases-loop-call
decreases-loop-call l = length l.rest
