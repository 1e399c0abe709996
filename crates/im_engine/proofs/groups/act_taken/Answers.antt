use Rattle.std.proofs.Common.{ℕ, ◌∙◌, subst}
use Rattle.im_engine.proofs.Members.{answer_taken, contents_taken, left_taken, pages_taken, taken_parts}
use Rattle.im_engine.specs.Groups.{StaysBut}
use Rattle.im_engine.proofs.groups.act_taken.Goals as goal

pub act-requires-clause-accepted : goal.act-requires-clause-accepted
act-requires-clause-accepted c = (taken_parts c.args.memory.now.contents c.args.left.now c.args.command.now
    c.requires.taken).0

pub returns-clause-answer : goal.returns-clause-answer
returns-clause-answer c = c.act.ensures.answer
    ∙ answer_taken c.args.memory.now.contents c.args.left.now c.args.command.now c.requires.taken

pub returns-clause-contents : goal.returns-clause-contents
returns-clause-contents c = c.act.ensures.contents
    ∙ contents_taken c.args.memory.now.contents c.args.left.now c.args.command.now c.requires.taken

pub returns-clause-left : goal.returns-clause-left
returns-clause-left c = c.saturating_sub-less.ensures
    ∙ left_taken c.args.memory.now.contents c.args.left.now c.args.command.now c.requires.taken

pub returns-clause-stays : goal.returns-clause-stays
returns-clause-stays c = subst (λ (n : ℕ). StaysBut n c.args.checkpoint.now c.act.new.checkpoint)
    (pages_taken c.args.memory.now.contents c.args.left.now c.args.command.now c.requires.taken) c.act.ensures.stays
