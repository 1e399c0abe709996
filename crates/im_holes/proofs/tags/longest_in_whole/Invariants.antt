use Rattle.std.proofs.Common.{◌+◌, ◌*◌}
use Rattle.im_holes.{proofs.Cuts.IsLargestTo, specs.declared.tags.TheConstants.PART, specs.Holes.begin_at}

abbrev pub invariant-loop-past : Rattle.im_holes.proofs.tags.longest_in_whole.Given.invariant-loop-past
invariant-loop-past l = IsLargestTo (begin_at l.begins l.tags) l.leaf (l.leaf * PART + l.past) l.longest
