use Rattle.std.proofs.Common.{◌≡◌, ◌+◌, ◌-◌, ◌*◌, ◌^◌, ◌≤◌, length}
use Rattle.im_types.specs.Types.{layout_in_use, sizes_of, image_length}
use Rattle.im_migration.specs.Laying.{AreCleared, StaysBlank}
use Rattle.im_migration.proofs.laying.clear.Given as goal

abbrev pub invariant-loop-page : goal.invariant-loop-page
invariant-loop-page g l = record {
  near : 4096 * l.page ≤ l.whole + 4096;
  few : l.whole ≤ 2 ^ 48;
  whole : l.whole ≡ image_length layout_in_use (sizes_of l.fn.limits);
  honest : g.N.Disk.honest l.new → g.N.Disk.honest l.fn.new;
  cleared : g.N.Disk.honest l.new → AreCleared l.page l.whole (g.N.Disk.now l.new).bytes;
  size : g.N.Disk.honest l.new → length (g.N.Disk.now l.new).bytes ≡ l.whole;
  blank : g.N.Disk.honest l.new → StaysBlank g.N.Disk l.fn.new l.new;
  failures : g.N.Disk.failures l.new ≡ g.N.Disk.failures l.fn.new;
}

abbrev pub decreases-loop-page : goal.decreases-loop-page
decreases-loop-page g l = l.whole - 4096 * l.page
