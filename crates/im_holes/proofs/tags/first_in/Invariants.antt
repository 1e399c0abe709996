use Rattle.std.proofs.Common.{◌-◌, length}
use Rattle.im_holes.{proofs.Cuts.IsLeastFrom, specs.Holes.begin_at}
use Rattle.im_holes.proofs.tags.first_in.Given as goal

abbrev pub invariant-loop-at : goal.invariant-loop-at
invariant-loop-at l = IsLeastFrom (begin_at l.begins l.tags) l.n l.leaf l.at

abbrev pub decreases-loop-at : goal.decreases-loop-at
decreases-loop-at l = length l.tags - l.at
