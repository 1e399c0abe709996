use Rattle.std.proofs.Common.{sym, ◌∙◌, arith}
use Rattle.im_groups.proofs.AheadLemmas.{bounds-low, request-judged, request-nowhere}
use Rattle.im_groups.proofs.ahead.judge_alone.Goals as goal

pub is_next-requires : goal.is_next-requires
is_next-requires c =
    let low = bounds-low _ _ c.args.memory.now.contents c.args.request.now.element c.in-Ok.bounds.0
    c.in-Ok.bounds.1 c.bounds_now.ensures.memory (sym c.bounds_now.ensures.bounds ∙ c.in-Ok.is) in
    record { low = omega (arith, low.0, low.1) }

pub returns-in-Ok : goal.returns-in-Ok
returns-in-Ok c = c.is_next.ensures
    ∙ request-judged c.args.memory.now.contents c.args.request.now c.in-Ok.bounds
    (sym c.bounds_now.ensures.bounds ∙ c.in-Ok.is)

pub returns-in-Err : goal.returns-in-Err
returns-in-Err c = sym (request-nowhere c.args.memory.now.contents c.args.request.now c.in-Err.field-0
    (sym c.bounds_now.ensures.bounds ∙ c.in-Err.is))
