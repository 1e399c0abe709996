use Rattle.std.proofs.Common.{◌+◌, Bool, get_or, drop, Some, None, sym, ap, ◌∙◌, subst, arith}
use Rattle.im_types.specs.Types.{I, Alloc, Command, Asks}
use Rattle.{im_laws.proofs.Tests.true_false, im_groups.specs.Commands.takes_place}
use Rattle.im_controller.proofs.AdmitLemmas.{admitting-ahead, admitting-cons, admitting-end, admitting-lent}
use Rattle.im_controller.proofs.AdmitLemmas.{admitting-refused, admitting-start, verdict-lineless}
use Rattle.im_controller.proofs.admitting.admit.Goals.{in-Err, in-Ok}
use Rattle.im_controller.specs.Admitted.{is_asked, IsVerdict, places_with}
use Rattle.im_controller.proofs.admitting.admit.Goals as goal

pub loop-i-init : goal.loop-i-init
loop-i-init g c = rw c.new-lent.ensures
    (admitting-start c.args.plan.now c.is_asked-asked.result c.memory-memory.result.now.contents
    c.places_with-left.result c.args.members.now c.args.log.now c.args.pane.now c.requires.apart c.requires.free)

pub keep-requires-clause-room : goal.keep-requires-clause-room
keep-requires-clause-room g c = λ told. absurd (true_false (sym told ∙ verdict-lineless c.is_off-is_off.result
    (takes_place c.memory-memory.result.now.contents c.loop-i.left _) c.in-Err.refusal c.in-Err.ensures.verdict))

pub keep-requires-clause-is_so : goal.keep-requires-clause-is_so
keep-requires-clause-is_so g c = λ told. absurd (true_false (sym told ∙ verdict-lineless c.is_off-is_off.result
    (takes_place c.memory-memory.result.now.contents c.loop-i.left _) c.in-Err.refusal c.in-Err.ensures.verdict))

pub loop-i-preserved : goal.loop-i-preserved
loop-i-preserved g c =
    let plan = c.args.plan.now in let asked = c.is_asked-asked.result in
    let m = c.memory-memory.result.now.contents in let left0 = c.places_with-left.result in
    let rs = c.args.members.now in let i = c.loop-i.i in
    let first : Command = Asks (record { element = 0; number = 0; op = Alloc I 0 }) in
    let r = get_or rs i first in let left = c.loop-i.left in
    let k = admitting-cons plan asked m left0 rs c.args.log.now c.args.pane.now left c.loop-i.lent.items c.loop-i.log
    c.loop-i.pane i first c.loop-i-test.true c.loop-i.invariant in
    elim c.match-judge.branch [
      | in-Ok w ↦ rw (w.left-is, w.lent-is, w.log-is, w.push.ensures.items)
          (admitting-lent plan asked m left0 rs c.args.log.now c.args.pane.now left r (drop (i + 1) rs)
          c.loop-i.lent.items c.loop-i.log c.loop-i.pane k
          (subst (λ (off : Bool). IsVerdict off (takes_place m left r) None) c.is_off-is_off.ensures
          w.in-Ok.ensures.verdict.1)
          w.places_behind-left.result (w.places_behind-left.ensures m r w.in-Ok.ensures.verdict.0) c.judge.new.pane
          w.in-Ok.ensures.ahead)
      | in-Err w ↦ rw (w.left-is, w.lent-is, w.log-is)
          (admitting-refused plan asked m left0 rs c.args.log.now c.args.pane.now left r (drop (i + 1) rs)
          c.loop-i.lent.items c.loop-i.log c.loop-i.pane k w.in-Err.refusal
          (subst (λ (off : Bool). IsVerdict off (takes_place m left r) (Some w.in-Err.refusal))
          c.is_off-is_off.ensures w.in-Err.ensures.verdict)
          _ w.keep.new.self w.keep.ensures.log w.keep.ensures.times c.judge.new.pane w.in-Err.ensures.same)
    ]

pub returns-clause-admits : goal.returns-clause-admits
returns-clause-admits g c = admitting-end c.args.plan.now c.is_asked-asked.result c.memory-memory.result.now.contents
    c.places_with-left.result c.args.members.now c.args.log.now c.args.pane.now c.loop-i.left c.loop-i.lent.items
    c.loop-i.log c.loop-i.pane c.loop-i.i (omega arith) c.loop-i.invariant c.args.engine.now c.memory-memory.ensures
    (c.is_asked-asked.ensures ∙ ap (is_asked c.args.engine.now) c.room-room.ensures.room)
    (c.places_with-left.ensures ∙ ap (places_with c.args.engine.now) c.room-room.ensures.room)

pub returns-clause-ahead : goal.returns-clause-ahead
returns-clause-ahead g c = admitting-ahead c.args.plan.now c.is_asked-asked.result
    c.memory-memory.result.now.contents c.places_with-left.result c.args.members.now c.args.log.now c.args.pane.now
    c.loop-i.left c.loop-i.lent.items c.loop-i.log c.loop-i.pane c.loop-i.i (omega arith) c.loop-i.invariant
    c.args.engine.now c.memory-memory.ensures
    (c.places_with-left.ensures ∙ ap (places_with c.args.engine.now) c.room-room.ensures.room)
