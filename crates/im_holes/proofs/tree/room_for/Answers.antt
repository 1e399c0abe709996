use Rattle.std.proofs.Common.{suc, refl, arith}
use Rattle.im_holes.proofs.tree.room_for.Goals as goal

pub loop-count-init : goal.loop-count-init
loop-count-init c = record { power = (0, refl); some = omega arith; few = omega arith }

pub loop-count-preserved : goal.loop-count-preserved
loop-count-preserved c = record {
  power = let p = c.loop-count.invariant.power in (suc p.0, omega (arith, p.1));
  some = omega arith;
  few = omega arith;
}
