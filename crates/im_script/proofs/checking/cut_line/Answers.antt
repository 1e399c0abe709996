use Rattle.std.proofs.Common.{length, arith, take_all, eqb-true}
use Rattle.std.proofs.lemmas.List.{Splits.slice_split_none, take_rest}
use Rattle.im_script.proofs.ScriptLemmas.{none_before, part_ends}
use Rattle.im_script.proofs.checking.cut_line.Goals as goal

pub returns-in-Some-clause-lines : goal.returns-in-Some-clause-lines
returns-in-Some-clause-lines c =
    let found = c.in-Some.ensures in
    rw take_rest (part_ends 10 c.args.text.now c.in-Some.at found.0.high
    (eqb-true _ 10 found.1)
    (none_before 10 c.args.text.now c.in-Some.at (omega (arith, found.0.high)) found.0.before))

pub returns-in-Some-clause-smaller : goal.returns-in-Some-clause-smaller
returns-in-Some-clause-smaller c =
    omega (arith, c.in-Some.ensures.0.high)

pub returns-in-None-clause-lines : goal.returns-in-None-clause-lines
returns-in-None-clause-lines c =
    let text = c.args.text.now in
    slice_split_none _ _ (rw (take_all (length text) text (omega arith)) at
    (none_before 10 text (length text) (omega arith) c.in-None.ensures))
