use Rattle.std.proofs.Common.{◌≡◌, reverse, length}
use Rattle.im_disk.specs.Record.{filled, LieWithin, ranges_of}
use Rattle.im_disk.proofs.record.fill_all.Given as goal

abbrev pub invariant-loop-call : goal.invariant-loop-call
invariant-loop-call l = record {
  filled : filled l.byte l.bytes.items (ranges_of (reverse l.rest))
      ≡ filled l.byte l.initial.bytes.items (ranges_of (reverse l.initial.rest));
  within : LieWithin (length l.bytes.items) (ranges_of (reverse l.rest));
}

abbrev pub decreases-loop-call : goal.decreases-loop-call
decreases-loop-call l = length l.rest
