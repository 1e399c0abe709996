use Rattle.std.proofs.Common.{inr, arith}
use Rattle.im_groups.proofs.JudgedLemmas.{behind-nothing, few-behind}
use Rattle.im_groups.proofs.judging.judge_whole.Goals as goal

pub returns-clause-enough : goal.returns-clause-enough
returns-clause-enough c = few-behind c.args.memory.now.contents c.args.members.now c.args.places
    c.judge_whole_next.result (omega (arith, c.if-members-places.false)) c.judge_whole_next.ensures.begins

pub returns-clause-begins : goal.returns-clause-begins
returns-clause-begins c = behind-nothing c.args.memory.now.contents c.args.members.now c.judge_whole_next.result
    c.judge_whole_next.ensures.begins

pub returns-clause-none : goal.returns-clause-none
returns-clause-none c = λ none. inr (c.judge_whole_next.ensures.none none)
