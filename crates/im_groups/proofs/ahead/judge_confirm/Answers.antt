use Rattle.std.proofs.Common.{◌<◌, ◌≤◌, ◌⊎◌, sym, ◌∙◌, inl, inr, arith}
use Rattle.im_groups.proofs.ahead.judge_confirm.Goals.{then-upto-base-via-else-upto-base+then-upto-next}
use Rattle.im_groups.proofs.ahead.judge_confirm.Goals.{then-upto-base-via-then-upto-base}
use Rattle.im_groups.proofs.AheadLemmas.{bounds-moved, confirm-in, confirm-lost, confirm-out}
use Rattle.im_groups.proofs.ahead.judge_confirm.Goals as goal

pub returns-in-Err-clause-found : goal.returns-in-Err-clause-found
returns-in-Err-clause-found c = confirm-lost c.args.memory.now.contents c.args.ahead.now c.args.element c.args.upto
    c.in-Err.field-0 c.requires.accepted
    (sym c.bounds_after.ensures.bounds ∙ c.in-Err.is)

pub returns-then-upto-base-clause-found : goal.returns-then-upto-base-clause-found
returns-then-upto-base-clause-found c =
    let out : (c.args.upto ≤ c.in-Ok.bounds.0) ⊎ (c.in-Ok.bounds.1 < c.args.upto) =
    elim c.then-upto-base.branch [
      | then-upto-base-via-then-upto-base w ↦ inl (omega (arith, w.if-upto-base.true))
      | then-upto-base-via-else-upto-base+then-upto-next w ↦ inr (omega (arith, w.if-upto-next.true))
    ] in
    confirm-out c.args.memory.now.contents c.args.ahead.now c.args.element c.args.upto c.in-Ok.bounds.0
    c.in-Ok.bounds.1 c.requires.accepted
    (sym c.bounds_after.ensures.bounds ∙ c.in-Ok.is) out

pub returns-then-are_sure-clause-found : goal.returns-then-are_sure-clause-found
returns-then-are_sure-clause-found c =
    confirm-in c.args.memory.now.contents c.args.ahead.now c.args.element c.args.upto c.in-Ok.bounds.0
    c.in-Ok.bounds.1 c.requires.accepted
    c.bounds_after.ensures.memory.agrees (sym c.bounds_after.ensures.bounds ∙ c.in-Ok.is)
    (omega (arith, c.if-upto-base.false)) (omega (arith, c.if-upto-next.false)) (c.are_sure.ensures.all
    c.if-are_sure.true)

pub returns-else-are_sure-clause-unsure : goal.returns-else-are_sure-clause-unsure
returns-else-are_sure-clause-unsure c = λ none.
    let found = c.are_sure.ensures.some c.if-are_sure.false in
    record {
      base = c.in-Ok.bounds.0;
      next = c.in-Ok.bounds.1;
      are = bounds-moved c.args.memory.now.contents c.args.ahead.now c.args.element c.requires.accepted
          ∙ sym c.bounds_after.ensures.bounds ∙ c.in-Ok.is;
      reached = omega (arith, c.if-upto-next.false);
      number = found.0;
      from = found.1;
      below = found.2;
      unsure = found.3;
      behind = c.requires.some;
    }
