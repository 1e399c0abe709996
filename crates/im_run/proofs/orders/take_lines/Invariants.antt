use Rattle.std.{proofs.Common.[], specs.Option.option_map_or}
use Rattle.im_script.specs.Script.{draft_of, lines_of}
use Rattle.im_serial.specs.Serving.{Passes, seen_by}
use Rattle.im_run.specs.Orders.{blocks_of, HasMissed, HasReadTo, lines_heard, script_heard, settled_by}

abbrev pub invariant-loop-number : Rattle.im_run.proofs.orders.take_lines.Given.invariant-loop-number
invariant-loop-number g l = record {
  served : Passes (blocks_of (settled_by l.fn.sheet.past) (script_heard l.script)) l.fn.server.bases.items
      (blocks_of (settled_by l.sheet.past)
      (option_map_or (λ text. lines_heard (draft_of l.reader) (lines_of text.now)) l.rest [])) l.server.bases.items
      (seen_by l.fn.server (g.W.Write.contents l.fn.out))
      (seen_by l.server (g.W.Write.contents l.out));
  read : HasReadTo (settled_by l.fn.sheet.past) (script_heard l.script) l.fn.sheet.orders.items
      (settled_by l.sheet.past) (option_map_or (λ text. lines_heard (draft_of l.reader) (lines_of text.now)) l.rest [])
      l.server.bases.items l.sheet.orders.items;
  there : HasMissed l.elements (script_heard l.script)
      (option_map_or (λ text. lines_heard (draft_of l.reader) (lines_of text.now)) l.rest []) l.missing;
}
