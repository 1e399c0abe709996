use Rattle.std.proofs.Common.{◌≡◌, true, List, [], length, IfOk, Err, sym, refl, subst, inl, arith}
use Rattle.im_types.specs.Types.{Command, Failed, after}
use Rattle.im_engine.proofs.Advancing.{advance_dead, all_coming, all_told}
use Rattle.im_engine.specs.Chain.{Advances, laid_of, put_ahead, ServesAhead, TakesNext}
use Rattle.im_engine.specs.State.{EngineState}
use Rattle.im_engine.proofs.engine.Engine.advance.Goals as goal

pub returns-then-self-clause-answered : goal.returns-then-self-clause-answered
returns-then-self-clause-answered g c =
    let e = c.self.inside in
    subst (λ (s : EngineState g.row.D.Denot). Advances s c.args.next.now.items (Err Failed)
    c.refuse.new.served.items s) c.self.view_is
    (advance_dead e.disk e.checkpoint e.memory e.journal e.ahead.members.items
    (laid_of e.ahead.whole e.ahead.members.items e.ahead.commands.items) e.ahead.taken.items e.failed
    c.count-count.ensures.known c.self.invariant.2 c.if-self.true c.args.next.now.items
    c.refuse.new.served.items c.refuse.ensures)

pub returns-then-self-clause-runs : goal.returns-then-self-clause-runs
returns-then-self-clause-runs g c =
    let e = c.self.inside in
    let dead : e.failed ≡ true = c.if-self.true in
    subst (λ (s : EngineState g.row.D.Denot). ServesAhead g.D.Disk s s (length c.args.next.now.items) (Err Failed))
    c.self.view_is (record {
      honest = λ h. h;
      calls = tt;
      few = λ h. omega arith;
      faults = (inl refl, λ is. absurd (cc), λ no. refl);
      leaves = λ h f. absurd (cc);
      doubt = λ h f. absurd (cc);
      means = λ h f. absurd (cc);
    })

pub go_on-requires-clause-told : goal.go_on-requires-clause-told
go_on-requires-clause-told g c =
    let next = c.as_slice-members.result.now in
    all_told (after c.args.self.now.memory (put_ahead c.args.self.now)) next c.args.next.now.items []
    (sym c.as_slice-members.ensures.value) (c.takes_all.ensures.accepted c.if-takes_all.true)

pub go_on-requires-clause-begins : goal.go_on-requires-clause-begins
go_on-requires-clause-begins g c = all_coming c.args.self.now c.as_slice-members.result.now c.args.next.now.items
    (c.takes_all.ensures.places c.if-takes_all.true)

pub returns-then-takes_all-clause-answered : goal.returns-then-takes_all-clause-answered
returns-then-takes_all-clause-answered g c =
    subst (λ (l : List Command). Advances c.args.self.now l c.go_on.result c.go_on.new.served.items c.go_on.new.self)
    c.as_slice-members.ensures.value c.go_on.ensures.answered

pub returns-then-takes_all-clause-takes : goal.returns-then-takes_all-clause-takes
returns-then-takes_all-clause-takes g c =
    subst (λ (l : List Command). IfOk c.go_on.result (λ many. TakesNext c.args.self.now l c.go_on.new.self many))
    c.as_slice-members.ensures.value c.go_on.ensures.takes

pub returns-then-takes_all-clause-runs : goal.returns-then-takes_all-clause-runs
returns-then-takes_all-clause-runs g c =
    subst (λ (l : List Command). ServesAhead g.D.Disk c.args.self.now c.go_on.new.self (length l) c.go_on.result)
    c.as_slice-members.ensures.value c.go_on.ensures.runs

pub returns-clause-answered : goal.returns-clause-answered
returns-clause-answered g c =
    subst (λ (l : List Command). Advances c.args.self.now l c.advance_some.result c.advance_some.new.served.items
    c.advance_some.new.self) c.as_slice-members.ensures.value c.advance_some.ensures.answered

pub returns-clause-takes : goal.returns-clause-takes
returns-clause-takes g c =
    subst (λ (l : List Command). IfOk c.advance_some.result
    (λ many. TakesNext c.args.self.now l c.advance_some.new.self many))
    c.as_slice-members.ensures.value c.advance_some.ensures.takes

pub returns-clause-runs : goal.returns-clause-runs
returns-clause-runs g c =
    subst (λ (l : List Command). ServesAhead g.D.Disk c.args.self.now c.advance_some.new.self (length l)
    c.advance_some.result) c.as_slice-members.ensures.value c.advance_some.ensures.runs
