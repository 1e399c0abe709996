use Rattle.std.proofs.Common.{sym, ◌∙◌, arith}
use Rattle.im_groups.proofs.AheadLemmas.{moved-low, request-behind, request-lost}
use Rattle.im_groups.proofs.ahead.judge_request.Goals as goal

pub is_next-requires : goal.is_next-requires
is_next-requires c =
    let low = moved-low _ _ c.args.memory.now.contents c.args.ahead.now c.args.request.now.element c.in-Ok.bounds.0
    c.in-Ok.bounds.1 c.requires.accepted c.bounds_after.ensures.memory
    (sym c.bounds_after.ensures.bounds ∙ c.in-Ok.is) in
    record { low = omega (arith, low.0, low.1) }

pub returns-in-Ok : goal.returns-in-Ok
returns-in-Ok c = c.is_next.ensures
    ∙ request-behind c.args.memory.now.contents c.args.ahead.now c.args.request.now c.in-Ok.bounds c.requires.accepted
    (sym c.bounds_after.ensures.bounds ∙ c.in-Ok.is)

pub returns-in-Err : goal.returns-in-Err
returns-in-Err c = request-lost c.args.memory.now.contents c.args.ahead.now c.args.request.now c.in-Err.field-0
    c.requires.accepted
    (sym c.bounds_after.ensures.bounds ∙ c.in-Err.is)
