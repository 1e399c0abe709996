use Rattle.std.{proofs.Common.[], specs.Option.option_map_or}
use Rattle.im_script.specs.Script.{draft_of, lines_of}
use Rattle.im_run.specs.Orders.{HasReadTo, lines_heard, script_heard}

abbrev pub invariant-loop-number : Rattle.im_run.proofs.whole.add_lines.Given.invariant-loop-number
invariant-loop-number l = HasReadTo [] (script_heard l.script) l.fn.orders.items []
    (option_map_or (λ text. lines_heard (draft_of l.reader) (lines_of text.now)) l.rest []) l.bases l.orders.items
