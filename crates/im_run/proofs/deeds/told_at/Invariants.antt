use Rattle.std.proofs.Common.{◌≡◌, ◌+◌, ◌++◌, drop}
use Rattle.im_run.specs.Doing.{told_among}

abbrev pub invariant-loop-entry : Rattle.im_run.proofs.deeds.told_at.Given.invariant-loop-entry
invariant-loop-entry l = record {
  at : l.at ≡ l.entry-index;
  told : l.told.items ++ told_among l.element (l.served.first + l.at) l.at (drop l.entry-index l.entries) l.rest
      ≡ told_among l.element l.served.first 0 l.entries l.made;
}
