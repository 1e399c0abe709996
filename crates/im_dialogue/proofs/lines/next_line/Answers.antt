use Rattle.std.proofs.Common.{arith, rules}
use Rattle.im_dialogue.proofs.HearingLemmas.{read_end, read_last, read_more, read_none}
use Rattle.im_dialogue.proofs.lines.next_line.Goals as goal

pub loop-part-init : goal.loop-part-init
loop-part-init g c = record {
  few = search (rules, arith);
  read = read_none _ _ (search rules);
}

pub loop-part-preserved : goal.loop-part-preserved
loop-part-preserved g c = record {
  few = c.read_part.ensures.few;
  read = read_more _ _ _ _ _ c.loop-part.invariant.read (rw c.in-Ok-More.field-0-is at c.in-Ok-More.ensures.read);
}

pub returns-in-Ok-Last-clause-read : goal.returns-in-Ok-Last-clause-read
returns-in-Ok-Last-clause-read g c = read_last _ _ _ _ _ c.loop-part.invariant.read
    (rw c.in-Ok-Last.field-0-is at c.in-Ok-Last.ensures.read)

pub returns-in-Ok-None-clause-read : goal.returns-in-Ok-None-clause-read
returns-in-Ok-None-clause-read g c = read_end _ _ _ _ _ c.loop-part.invariant.read
    (rw c.in-Ok-None.field-0-is at c.in-Ok-None.ensures.read)
