use Rattle.std.proofs.Common.{◌≡◌}
use Rattle.im_types.specs.Types.{sizes_of}
use Rattle.im_migration.specs.Laying.{IsLaid, StaysBlank}

abbrev pub invariant-loop-i : Rattle.im_migration.proofs.laying.write_pages.Given.invariant-loop-i
invariant-loop-i g l = record {
  honest : g.N.Disk.honest l.new → g.N.Disk.honest l.fn.new;
  laid : g.N.Disk.honest l.new → IsLaid (sizes_of l.limits) l.memory.records l.i 0 (g.N.Disk.now l.new).bytes;
  blank : g.N.Disk.honest l.new → StaysBlank g.N.Disk l.fn.new l.new;
  failures : g.N.Disk.failures l.new ≡ g.N.Disk.failures l.fn.new;
}
