use Rattle.im_script.proofs.ScriptLemmas.{no_end}
use Rattle.im_dialogue.proofs.HearingLemmas.{whole_part}
use Rattle.im_dialogue.proofs.lines.line_len.Goals as goal

pub loop-at-preserved : goal.loop-at-preserved
loop-at-preserved c = no_end 10 _ _ c.loop-at-test.true c.if-byte-eq10.false c.loop-at.invariant

pub returns-clause-part : goal.returns-clause-part
returns-clause-part c = whole_part _ _ c.loop-at-test.false c.loop-at.invariant
