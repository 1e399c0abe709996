use Rattle.std.proofs.Common.{List, length, ap, ◌∙◌, arith}
use Rattle.im_types.specs.Types.{Waiter}
use Rattle.im_report.proofs.QueueLemmas.{none_left, one_left, queue_few}
use Rattle.im_report.proofs.counting.queue_at.Goals as goal

pub loop-waiter-init : goal.loop-waiter-init
loop-waiter-init c =
    let all = c.into_iter-waiter-iterator.ensures.into_iter_gives ∙ c.waiters-waiter-items.ensures in
    let same = ap (λ (left : List Waiter). length left) all in
    omega arith

pub overflow_add-count : goal.overflow_add-count
overflow_add-count c =
    let few = queue_few c.args.memory.now.contents c.args.a c.elements-elements.ensures.memory
    (omega arith) in
    let left = one_left _ _ _ c.in-Some.ensures.steps in
    let is = c.loop-waiter.invariant in
    omega arith

pub loop-waiter-preserved : goal.loop-waiter-preserved
loop-waiter-preserved c =
    let left = one_left _ _ _ c.in-Some.ensures.steps in
    let is = c.loop-waiter.invariant in
    omega arith

pub returns-clause-is : goal.returns-clause-is
returns-clause-is c =
    let none = none_left _ (c.in-None.ensures.steps.0) in
    let is = c.loop-waiter.invariant in
    omega arith

pub returns-clause-few : goal.returns-clause-few
returns-clause-few c =
    let few = queue_few c.args.memory.now.contents c.args.a c.elements-elements.ensures.memory
    (omega arith) in
    let is = c.loop-waiter.invariant in
    omega arith
