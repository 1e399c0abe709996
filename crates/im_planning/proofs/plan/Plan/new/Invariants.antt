use Rattle.std.{proofs.Common.◌≤◌, proofs.Common.length, proofs.Common.drop, proofs.Common.nat_cmp, specs.BTreeMap.get}
use Rattle.im_types.specs.Types.{IsPlan}
use Rattle.im_planning.specs.{Begins.IndexesPlan, Making.key_cmp}
use Rattle.im_planning.proofs.plan.Plan.new.Given as goal

-- the requests from here on make a plan, and the index follows it
abbrev pub invariant-loop-at : goal.invariant-loop-at
invariant-loop-at l = record {
  within : l.at ≤ length l.requests.items;
  plan : IsPlan (drop l.at l.requests.items);
  follows : IndexesPlan (get key_cmp l.under) (get nat_cmp l.stored) (drop l.at l.requests.items);
}

abbrev pub decreases-loop-at : goal.decreases-loop-at
decreases-loop-at l = l.at
