use Rattle.std.proofs.Common.{◌≡◌, ◌*◌, length}
use Rattle.{im_types.specs.Types.layout_of, im_types.specs.Types.sizes_of, im_disk.specs.Since.OnlyReads}
use Rattle.im_image.specs.Reading.{HasFirstCells}

abbrev pub invariant-loop-i : Rattle.im_image.proofs.open_area.read_pieces.Given.invariant-loop-i
invariant-loop-i g l = record {
  count : length l.cells ≡ 8192 * l.i;
  piece : length l.piece.items ≡ 262144;
  honest : g.D.Disk.honest l.disk → g.D.Disk.honest l.initial.disk;
  reads : g.D.Disk.honest l.disk → OnlyReads g.D.Disk.now g.D.Disk.past l.initial.disk l.disk;
  first : g.D.Disk.honest l.disk
      → HasFirstCells (layout_of l.area.version) (sizes_of l.area.limits) l.area.number (g.D.Disk.now l.initial.disk).bytes l.cells;
  failures : g.D.Disk.failures l.disk ≡ g.D.Disk.failures l.initial.disk;
}
