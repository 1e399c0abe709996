use Rattle.std.proofs.Common.{ℕ, List, [], ap₂}
use Rattle.im_script.specs.Script.{Draft, draft_of, lines_of}
use Rattle.im_run.proofs.OrdersLemmas.{read_line, read_none, rest_none, rest_some}
use Rattle.im_run.specs.Orders.{lines_heard, script_heard}
use Rattle.im_run.proofs.whole.add_lines.Goals as goal

pub loop-number-init : goal.loop-number-init
loop-number-init c = read_none [] c.args.bases.now (script_heard c.args.script.now) _ c.args.orders.now.items
    (ap₂ (λ (d : Draft) (t : List ℕ). lines_heard d (lines_of t)) c.new-reader.ensures c.text.ensures)

pub loop-number-preserved : goal.loop-number-preserved
loop-number-preserved c =
    let first = c.args.orders.now.items in
    let mid = c.loop-number.orders.items in
    let bases = c.args.bases.now in
    let all = script_heard c.args.script.now in
    let d = draft_of c.loop-number.reader in
    let next = draft_of c.read_with_glances.new.self in
    let text = c.in-Some.text in
    read_line [] all first mid c.add_heard.new.orders.items [] [] d next c.in-Ok.heard text.now
    c.split_line.result.0.now c.split_line.result.1 bases bases c.split_line.ensures c.in-Ok.ensures.ok
    (rest_some [] all first mid [] bases d c.loop-number.rest text c.in-Some.is c.loop-number.invariant)
    c.in-Ok-add_heard.ensures

pub returns-in-None : goal.returns-in-None
returns-in-None c = rest_none [] (script_heard c.args.script.now) c.args.orders.now.items c.loop-number.orders.items []
    c.args.bases.now (draft_of c.loop-number.reader) c.loop-number.rest c.in-None.is c.loop-number.invariant
