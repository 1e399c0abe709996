use Rattle.std.proofs.Common.{◌≡◌, ◌++◌, map, drop}
use Rattle.im_c.specs.Group.{outcome_served}

abbrev pub invariant-loop-answer : Rattle.im_c.proofs.group.spell_all.Given.invariant-loop-answer
invariant-loop-answer l = l.outcomes.items ++ map outcome_served (drop l.answer-index l.served)
    ≡ map outcome_served l.served
