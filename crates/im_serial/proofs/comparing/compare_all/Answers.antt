use Rattle.std.proofs.Common.{[]}
use Rattle.im_script.specs.Script.{draft_of, lines_of}
use Rattle.im_serial.proofs.FittingLemmas.{compared_none, compared_some, line_compared, line_wrong}
use Rattle.im_serial.specs.Asked.{wanted_in, wanted_of}
use Rattle.im_serial.proofs.comparing.compare_all.Goals as goal

pub returns-in-None-clause-fits : goal.returns-in-None-clause-fits
returns-in-None-clause-fits c = (compared_none (λ text. wanted_in (draft_of c.loop-number.reader) (lines_of text.now))
    c.args.memory.now.contents (wanted_of c.args.script.now) c.args.past.now.many.items [] c.args.past.now.end
    c.loop-number.past.many.items c.loop-number.bases.items c.loop-number.past.end c.loop-number.rest c.in-None.is
    c.loop-number.invariant).0

pub returns-in-None-clause-behind : goal.returns-in-None-clause-behind
returns-in-None-clause-behind c = (compared_none (λ text. wanted_in (draft_of c.loop-number.reader) (lines_of text.now))
    c.args.memory.now.contents (wanted_of c.args.script.now) c.args.past.now.many.items [] c.args.past.now.end
    c.loop-number.past.many.items c.loop-number.bases.items c.loop-number.past.end c.loop-number.rest c.in-None.is
    c.loop-number.invariant).1

pub returns-in-Err-compare_said-clause-wrong : goal.returns-in-Err-compare_said-clause-wrong
returns-in-Err-compare_said-clause-wrong c =
    let m = c.args.memory.now.contents in
    let first = c.args.past.now in
    let past = c.loop-number.past in
    let bases = c.loop-number.bases.items in
    let d = draft_of c.loop-number.reader in
    let all = wanted_of c.args.script.now in
    line_wrong m all first.many.items [] first.end past.many.items bases past.end d (draft_of c.hear.new.reader)
    c.in-Ok.said c.in-Some.text.now c.split_line.result.0.now c.split_line.result.1 c.split_line.ensures
    c.in-Ok.ensures.ok
    (compared_some (λ text. wanted_in d (lines_of text.now)) m all first.many.items [] first.end past.many.items
    bases past.end c.loop-number.rest c.in-Some.text c.in-Some.is c.loop-number.invariant)
    c.in-Err-compare_said.reason c.in-Err-compare_said.ensures.compared.0

pub loop-number-preserved : goal.loop-number-preserved
loop-number-preserved c =
    let m = c.args.memory.now.contents in
    let first = c.args.past.now in
    let past = c.loop-number.past in
    let bases = c.loop-number.bases.items in
    let d = draft_of c.loop-number.reader in
    let all = wanted_of c.args.script.now in
    line_compared m all first.many.items [] first.end past.many.items bases past.end d (draft_of c.hear.new.reader)
    c.in-Ok.said c.in-Some.text.now c.split_line.result.0.now c.split_line.result.1 c.split_line.ensures
    c.in-Ok.ensures.ok
    (compared_some (λ text. wanted_in d (lines_of text.now)) m all first.many.items [] first.end past.many.items
    bases past.end c.loop-number.rest c.in-Some.text c.in-Some.is c.loop-number.invariant)
    c.compare_said.new.past.many.items c.compare_said.new.bases.items c.compare_said.new.past.end
    c.in-Ok-compare_said.ensures.compared
