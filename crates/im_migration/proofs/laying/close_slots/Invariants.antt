use Rattle.std.proofs.Common.{◌≡◌, length}
use Rattle.im_types.specs.Types.{layout_in_use, sizes_of, area_pages, image_length, Records}
use Rattle.im_migration.specs.Laying.{IsLaid, StaysBlank}

abbrev pub invariant-loop-slot : Rattle.im_migration.proofs.laying.close_slots.Given.invariant-loop-slot
invariant-loop-slot g l = record {
  honest : g.N.Disk.honest l.new → g.N.Disk.honest l.fn.new;
  laid : g.N.Disk.honest l.new → (r : Records)
      → IsLaid (sizes_of l.fn.limits) r (area_pages layout_in_use (sizes_of l.fn.limits)) 0
      (g.N.Disk.now l.fn.new).bytes
      → IsLaid (sizes_of l.fn.limits) r (area_pages layout_in_use (sizes_of l.fn.limits)) l.slot
      (g.N.Disk.now l.new).bytes;
  size : g.N.Disk.honest l.new → length (g.N.Disk.now l.new).bytes ≡ image_length layout_in_use (sizes_of l.fn.limits);
  blank : g.N.Disk.honest l.new → StaysBlank g.N.Disk l.fn.new l.new;
  failures : g.N.Disk.failures l.new ≡ g.N.Disk.failures l.fn.new;
}
