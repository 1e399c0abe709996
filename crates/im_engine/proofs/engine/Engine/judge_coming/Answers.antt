use Rattle.std.proofs.Common.{◌≡◌, ℕ, ◌-◌, min, List, length, take, sym, ◌∙◌, subst, arith, length-take, take-take}
use Rattle.std.proofs.Common.{rules}
use Rattle.im_types.specs.Types.{Command, after}
use Rattle.im_groups.specs.{Ahead.AreAccepted, Ahead.ServesBehind, Commands.places}
use Rattle.im_engine.proofs.Advancing.{accepted, coming, few_put, put_is, told_of}
use Rattle.im_engine.specs.{Chain.IsComing, Chain.laid_of, Chain.put_ahead, Chain.WereJudged, State.EngineState}
use Rattle.im_engine.proofs.engine.Engine.judge_coming.Goals as goal

-- there are as many places as commands ahead
pub overflow_sub-left : goal.overflow_sub-left
overflow_sub-left g c =
    let e = c.self.inside in
    omega (
      arith,
      c.places_in-places.ensures.places,
      c.ahead-laid.ensures,
      few_put e.disk e.checkpoint e.memory e.journal e.ahead.members.items
          (laid_of e.ahead.whole e.ahead.members.items e.ahead.commands.items) e.ahead.taken.items
          e.failed c.places_in-places.ensures.known c.self.invariant.2,
    )

pub judge_next-requires-clause-fits : goal.judge_next-requires-clause-fits
judge_next-requires-clause-fits g c = (
  c.as_slice-group.ensures.fits,
  omega (arith, length-take c.min-most.result c.args.next.now, c.requires.few),
)

-- the commands of the group ahead are accepted, each in its turn
pub judge_next-requires-clause-accepted : goal.judge_next-requires-clause-accepted
judge_next-requires-clause-accepted g c =
    let e = c.self.inside in
    subst (λ (l : List Command). AreAccepted e.memory.contents l) (sym (c.as_slice-group.ensures.value ∙ c.put.ensures))
    (accepted e.disk e.checkpoint e.memory e.journal e.ahead.members.items
    (laid_of e.ahead.whole e.ahead.members.items e.ahead.commands.items) e.ahead.taken.items
    e.failed c.places_in-places.ensures.known c.self.invariant.2)

-- what was judged behind the commands of the group ahead, at the memory after them
pub returns-clause-told : goal.returns-clause-told
returns-clause-told g c =
    let e = c.self.inside in
    let many = c.judge_next.result in
    let next = c.args.next.now in
    let asked = take c.min-most.result next in
    let is = c.as_slice-group.ensures.value ∙ c.put.ensures
    ∙ put_is e.disk e.checkpoint e.memory e.journal e.ahead.members.items
    (laid_of e.ahead.whole e.ahead.members.items e.ahead.commands.items) e.ahead.taken.items e.failed
    c.places_in-places.ensures.known c.self.invariant.2 in
    subst (λ (s : EngineState g.row.D.Denot). WereJudged (after s.memory (put_ahead s)) (take many next)
    c.judge_next.new.commands.items c.judge_next.new.taken.items) c.self.view_is
    (subst (λ (l : List Command). WereJudged (after e.memory.contents l) (take many next)
    c.judge_next.new.commands.items c.judge_next.new.taken.items) is
    (told_of (after e.memory.contents c.as_slice-group.result.now) asked (take many next)
    c.judge_next.new.commands.items c.judge_next.new.taken.items many
    (sym (take-take many c.min-most.result next
    (omega (arith, c.judge_next.ensures.begins.within, length-take c.min-most.result next))))
    c.judge_next.ensures.commands c.judge_next.ensures.taken c.judge_next.ensures.begins.within))

pub returns-clause-begins : goal.returns-clause-begins
returns-clause-begins g c =
    let e = c.self.inside in
    let next : List Command = c.args.next.now in
    let put = c.judge_next.new.commands.items in
    let many = c.judge_next.result in
    let cs = laid_of e.ahead.whole e.ahead.members.items e.ahead.commands.items in
    let left : ℕ = c.places_in-places.result - c.ahead-laid.result in
    let left_is : left ≡ places e.journal.count e.journal.room - length e.journal.ahead
    = (λ i. (c.places_in-places.ensures.places i) - (c.ahead-laid.ensures i)) in
    let most_is : c.min-most.result ≡ min (length next) left = search rules in
    let serves = subst (λ (n : ℕ). ServesBehind e.memory.contents cs put (take n next) many) most_is
    (subst (λ (l : List Command). ServesBehind e.memory.contents l put (take c.min-most.result next) many)
    (c.as_slice-group.ensures.value ∙ c.put.ensures) c.judge_next.ensures.begins) in
    subst (λ (s : EngineState g.row.D.Denot). IsComing s next put many) c.self.view_is
    (coming e.disk e.checkpoint e.memory e.journal e.ahead.members.items cs e.ahead.taken.items
    e.failed c.places_in-places.ensures.known c.self.invariant.2 next left left_is put many serves)
