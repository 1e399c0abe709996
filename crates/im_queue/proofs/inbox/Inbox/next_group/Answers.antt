use Rattle.std.proofs.Common.{arith}
use Rattle.im_queue.proofs.{inbox.Inbox.next_group.Goals.else-loop-element-test}
use Rattle.im_queue.proofs.{inbox.Inbox.next_group.Goals.then-loop-element-test+else-len-most+else-len-ge-MAX_GROUP+then-not-gather}
use Rattle.im_queue.proofs.{inbox.Inbox.next_group.Goals.then-loop-element-test+then-len-most, Taking.taken_next}
use Rattle.im_queue.proofs.inbox.Inbox.next_group.Goals as goal

pub loop-element-preserved : goal.loop-element-preserved
loop-element-preserved g c = (
  c.gather.ensures.gathered,
  omega (arith, c.gather.ensures.few, c.if-len-most.false, c.len.ensures.value),
  taken_next c.args.self.now c.loop-element.element c.loop-element.members.items c.loop-element.self
      c.gather.new.members.items c.gather.new.self c.loop-element.invariant.2 c.loop-element.invariant.0.below
      c.gather.ensures.taken,
)

pub returns-clause-found : goal.returns-clause-found
returns-clause-found g c =
    elim c.loop-element-test.branch [
      | else-loop-element-test w ↦ rw (w.self-is, w.members-is) c.loop-element.invariant.2
      | then-loop-element-test+then-len-most w ↦ rw (w.self-is, w.members-is) c.loop-element.invariant.2
      | then-loop-element-test+else-len-most+else-len-ge-MAX_GROUP+then-not-gather w ↦
          rw (w.self-is, w.members-is) (taken_next c.args.self.now c.loop-element.element c.loop-element.members.items c.loop-element.self
          w.gather.new.members.items w.gather.new.self c.loop-element.invariant.2 c.loop-element.invariant.0.below
          w.gather.ensures.taken)
    ]
