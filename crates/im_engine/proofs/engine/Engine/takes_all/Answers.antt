use Rattle.std.proofs.Common.{◌≡◌, ℕ, ◌≤◌, List, length, take, sym, ap, ◌∙◌, subst, arith}
use Rattle.im_types.specs.Types.{Command, after}
use Rattle.{im_laws.proofs.Tests.eq_by_test, im_groups.specs.Ahead.AreAccepted}
use Rattle.im_engine.proofs.Advancing.{accepted, all_taken, few_put, laid_is, put_is}
use Rattle.im_engine.specs.{Chain.laid_of, Chain.places_left, Chain.put_ahead, State.EngineState}
use Rattle.im_engine.proofs.engine.Engine.takes_all.Goals as goal

-- there are as many places as commands ahead
pub overflow_sub-left : goal.overflow_sub-left
overflow_sub-left g c =
    let e = c.self.inside in
    omega (
      arith,
      c.places_in.ensures.places,
      c.ahead.ensures,
      few_put e.disk e.checkpoint e.memory e.journal e.ahead.members.items
          (laid_of e.ahead.whole e.ahead.members.items e.ahead.commands.items) e.ahead.taken.items
          e.failed c.places_in.ensures.known c.self.invariant.2,
    )

-- the commands of the group ahead are accepted, each in its turn
pub judge_whole_next-requires-clause-accepted : goal.judge_whole_next-requires-clause-accepted
judge_whole_next-requires-clause-accepted g c =
    let e = c.self.inside in
    subst (λ (l : List Command). AreAccepted e.memory.contents l) (sym (c.as_slice-group.ensures.value ∙ c.put.ensures))
    (accepted e.disk e.checkpoint e.memory e.journal e.ahead.members.items
    (laid_of e.ahead.whole e.ahead.members.items e.ahead.commands.items) e.ahead.taken.items
    e.failed c.places_in.ensures.known c.self.invariant.2)

pub returns-in-Some-clause-accepted : goal.returns-in-Some-clause-accepted
returns-in-Some-clause-accepted g c = λ all.
    let e = c.self.inside in
    let next = c.args.next.now in
    let many : c.in-Some.many ≡ length next = eq_by_test c.in-Some.many (length next) all in
    let is = c.as_slice-group.ensures.value ∙ c.put.ensures
    ∙ put_is e.disk e.checkpoint e.memory e.journal e.ahead.members.items
    (laid_of e.ahead.whole e.ahead.members.items e.ahead.commands.items) e.ahead.taken.items e.failed
    c.places_in.ensures.known c.self.invariant.2 in
    subst (λ (s : EngineState g.row.D.Denot). AreAccepted (after s.memory (put_ahead s)) next) c.self.view_is
    (subst (λ (l : List Command). AreAccepted (after e.memory.contents l) next) is
    (subst (λ (l : List Command). AreAccepted (after e.memory.contents c.as_slice-group.result.now) l)
    (ap (λ (n : ℕ). take n next) many ∙ all_taken next) c.in-Some.ensures.accepted))

pub returns-in-Some-clause-places : goal.returns-in-Some-clause-places
returns-in-Some-clause-places g c = λ all.
    let e = c.self.inside in
    subst (λ (s : EngineState g.row.D.Denot). length c.args.next.now ≤ places_left s) c.self.view_is (omega (
      arith,
      c.if-next-left.false,
      c.places_in.ensures.places,
      c.ahead.ensures,
      ap length (laid_is e.disk e.checkpoint e.memory e.journal e.ahead.members.items
          (laid_of e.ahead.whole e.ahead.members.items e.ahead.commands.items) e.ahead.taken.items e.failed
          c.places_in.ensures.known c.self.invariant.2),
    ))
