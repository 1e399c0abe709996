use Rattle.im_holes.{proofs.Cuts.IsLargestTo, specs.Holes.begin_at}

abbrev pub invariant-loop-at : Rattle.im_holes.proofs.tags.longest_in.Given.invariant-loop-at
invariant-loop-at l = IsLargestTo (begin_at l.begins l.tags) l.leaf l.at l.longest
