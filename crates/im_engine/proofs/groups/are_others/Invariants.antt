use Rattle.std.proofs.Common.{drop}
use Rattle.im_types.specs.Types.{AreOthers}

abbrev pub invariant-loop-member : Rattle.im_engine.proofs.groups.are_others.Given.invariant-loop-member
invariant-loop-member l = record {
  back : AreOthers l.element (drop l.member-index l.members) → AreOthers l.element l.members;
  on : AreOthers l.element l.members → AreOthers l.element (drop l.member-index l.members);
}
