use Rattle.std.proofs.{Common.[], Common.refl, KnownBytes.Appends-nil}
use Rattle.im_dialogue.proofs.ServeLemmas.{put_whole}
use Rattle.im_dialogue.proofs.serving.Dialogue.put_due.Goals as goal

pub returns-then-is_due-clause-put : goal.returns-then-is_due-clause-put
returns-then-is_due-clause-put g c = put_whole c.put_out.result _ _ _ _ c.put_out.ensures.whole c.put_out.ensures.none

pub returns-else-is_due-clause-put : goal.returns-else-is_due-clause-put
returns-else-is_due-clause-put g c = ([], Appends-nil (g.W.Write.contents c.args.out.now), refl)

pub returns-else-is_due-clause-begins : goal.returns-else-is_due-clause-begins
returns-else-is_due-clause-begins g c = (0, Appends-nil (g.W.Write.contents c.args.out.now))
