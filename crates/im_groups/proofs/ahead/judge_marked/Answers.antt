use Rattle.std.proofs.Common.{sym, ◌∙◌}
use Rattle.im_groups.proofs.MarkLemmas.{request-alone}

pub returns-else-has_mark : Rattle.im_groups.proofs.ahead.judge_marked.Goals.returns-else-has_mark
returns-else-has_mark c = c.judge_alone.ensures
    ∙ request-alone c.args.memory.now.contents c.args.ahead.now c.args.marks.now c.args.request.now c.requires.accepted
    c.requires.marked (sym c.has_mark.ensures ∙ c.if-has_mark.false)
