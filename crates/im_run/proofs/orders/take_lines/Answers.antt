use Rattle.std.proofs.Common.{ℕ, List, [], refl, subst, ap₂}
use Rattle.std.specs.Option.{option_map_or}
use Rattle.im_script.specs.Script.{Draft, draft_of, lines_of}
use Rattle.im_serial.proofs.OnceLemmas.{part_ends, part_serves}
use Rattle.im_serial.{proofs.ScriptedLemmas.ends_here, proofs.ScriptedLemmas.has_served, specs.Serving.seen_by}
use Rattle.im_run.proofs.BlocksLemmas.{blocks_line, blocks_none, blocks_some, blocks_start}
use Rattle.im_run.proofs.OrdersLemmas.{read_line, read_none, rest_none, rest_some, there_end, there_line, there_start}
use Rattle.im_run.specs.Orders.{ArePartsThere, blocks_of, lines_heard, script_heard, settled_by}
use Rattle.im_run.proofs.orders.take_lines.Goals as goal

pub loop-number-init : goal.loop-number-init
loop-number-init g c =
    let had = settled_by c.args.sheet.now.past in
    let all = script_heard c.args.script.now in
    let bases = c.args.server.now.bases.items in
    let same = ap₂ (λ (d : Draft) (t : List ℕ). lines_heard d (lines_of t)) c.new-reader.ensures c.text.ensures in
    record {
      served = blocks_start had all _ bases _ same;
      read = read_none had bases all _ c.args.sheet.now.orders.items same;
      there = there_start _ all _ _ same;
    }

pub loop-number-preserved : goal.loop-number-preserved
loop-number-preserved g c =
    let it = c.loop-number.invariant in
    let was = c.args.server.now in
    let old = seen_by was (g.W.Write.contents c.args.out.now)
    in
    let now = c.loop-number.server in
    let mid = seen_by now (g.W.Write.contents c.loop-number.out) in
    let n = c.take_heard.new.server in
    let new = seen_by n (g.W.Write.contents c.take_heard.new.out)
    in
    let s = c.loop-number.sheet in
    let d = draft_of c.loop-number.reader in
    let next = draft_of c.read_with_glances.new.self in
    let all = script_heard c.args.script.now in
    let first = c.args.sheet.now in
    let had = settled_by first.past in
    let before = settled_by s.past in
    let left = settled_by c.take_heard.new.sheet.past in
    let text = c.in-Some.text in
    let heard = c.in-Ok-take_heard.ensures.heard in
    record {
      served = part_serves _ _ _ _ (blocks_line before left d next c.in-Ok.heard text.now
          c.split_line.result.0.now c.split_line.result.1 c.split_line.ensures c.in-Ok.ensures.ok heard.settled)
          was.bases.items now.bases.items old mid
          (blocks_some (blocks_of had all) before was.bases.items now.bases.items old mid d
          c.loop-number.rest text c.in-Some.is it.served) n.bases.items new
          c.in-Ok-take_heard.ensures.served.serves;
      read = read_line had all first.orders.items s.orders.items c.take_heard.new.sheet.orders.items before left d
          next c.in-Ok.heard text.now c.split_line.result.0.now c.split_line.result.1 now.bases.items n.bases.items
          c.split_line.ensures c.in-Ok.ensures.ok
          (rest_some had all first.orders.items s.orders.items before now.bases.items d c.loop-number.rest text
          c.in-Some.is it.read) heard;
      there = there_line c.count_elements-elements.result all d next c.in-Ok.heard c.loop-number.rest text
          c.split_line.result.0.now c.split_line.result.1 c.loop-number.missing c.missed_by-missing.result c.in-Some.is
          c.split_line.ensures c.in-Ok.ensures.ok c.missed_by-missing.ensures.there it.there;
    }

pub returns-in-None-clause-served : goal.returns-in-None-clause-served
returns-in-None-clause-served g c =
    let had = settled_by c.args.sheet.now.past in
    let all = blocks_of had (script_heard c.args.script.now) in
    has_served _ all _ _ _ _ (blocks_none all (settled_by c.loop-number.sheet.past)
    c.args.server.now.bases.items c.loop-number.server.bases.items _ _ (draft_of c.loop-number.reader)
    c.loop-number.rest c.in-None.is c.loop-number.invariant.served)

pub returns-in-None-clause-read : goal.returns-in-None-clause-read
returns-in-None-clause-read g c =
    let first = c.args.sheet.now in
    let s = c.loop-number.sheet in
    rest_none (settled_by first.past) (script_heard c.args.script.now) first.orders.items s.orders.items
    (settled_by s.past) c.loop-number.server.bases.items (draft_of c.loop-number.reader) c.loop-number.rest
    c.in-None.is c.loop-number.invariant.read

pub returns-in-None-clause-there : goal.returns-in-None-clause-there
returns-in-None-clause-there g c = λ none.
    let all = script_heard c.args.script.now in
    subst (λ (n : ℕ). ArePartsThere n all) c.count_elements-elements.ensures
    (there_end c.count_elements-elements.result all (draft_of c.loop-number.reader) c.loop-number.rest
    c.loop-number.missing c.in-None.is c.loop-number.invariant.there none)

pub returns-in-Err-clause-served : goal.returns-in-Err-clause-served
returns-in-Err-clause-served g c =
    let had = settled_by c.args.sheet.now.past in
    record {
      serves = tt;
      ends = ends_here (blocks_of had (script_heard c.args.script.now))
          (blocks_of (settled_by c.loop-number.sheet.past) (option_map_or (λ text.
          lines_heard (draft_of c.loop-number.reader) (lines_of text.now)) c.loop-number.rest []))
          c.args.server.now.bases.items c.loop-number.server.bases.items _ _ c.loop-number.invariant.served;
    }

pub returns-in-Err-take_heard-clause-served : goal.returns-in-Err-take_heard-clause-served
returns-in-Err-take_heard-clause-served g c =
    let was = c.args.server.now in
    let old = seen_by was (g.W.Write.contents c.args.out.now)
    in
    let now = c.loop-number.server in
    let mid = seen_by now (g.W.Write.contents c.loop-number.out) in
    let n = c.take_heard.new.server in
    let new = seen_by n (g.W.Write.contents c.take_heard.new.out)
    in
    let had = settled_by c.args.sheet.now.past in
    let all = blocks_of had (script_heard c.args.script.now) in
    let before = settled_by c.loop-number.sheet.past in
    let d = draft_of c.loop-number.reader in
    let text = c.in-Some.text in
    record {
      serves = tt;
      ends = part_ends _ _ _ _ (blocks_line before _ d (draft_of c.read_with_glances.new.self)
          c.in-Ok.heard text.now c.split_line.result.0.now c.split_line.result.1 c.split_line.ensures
          c.in-Ok.ensures.ok refl) was.bases.items now.bases.items old mid
          (blocks_some all before was.bases.items now.bases.items old mid d c.loop-number.rest text
          c.in-Some.is c.loop-number.invariant.served) new c.in-Err-take_heard.ensures.served.ends;
    }

pub returns-clause-served : goal.returns-clause-served
returns-clause-served g c =
    let had = settled_by c.args.sheet.now.past in
    record {
      serves = tt;
      ends = ends_here (blocks_of had (script_heard c.args.script.now))
          (blocks_of (settled_by c.loop-number.sheet.past) (option_map_or (λ text.
          lines_heard (draft_of c.loop-number.reader) (lines_of text.now)) c.loop-number.rest []))
          c.args.server.now.bases.items c.loop-number.server.bases.items _ _ c.loop-number.invariant.served;
    }
