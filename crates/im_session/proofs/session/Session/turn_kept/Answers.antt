use Rattle.std.proofs.Common.{refl}
use Rattle.im_session.proofs.CallLemmas.{turn_goes}
use Rattle.im_session.proofs.KeptLemmas.{count_stays, keeps_still, kept_still, memory_stays, whole_still}
use Rattle.im_session.proofs.session.Session.turn_kept.Goals as goal

pub invariant_of-self : goal.invariant_of-self
invariant_of-self g c =
    let e = c.turn.ensures in
    kept_still g.D.Disk c.self.inside.start c.self.inside.calls.sure c.self.inside.calls.doubt c.self.inside.engine
    c.turn.new.self c.self.invariant (turn_goes g.D.Disk c.self.inside.engine c.turn.new.self
    (record { since = e.leaves; now = e.now; means = e.means; honest = e.honest }) c.turn.result e.answered e.faults)

pub returns-clause-answered : goal.returns-clause-answered
returns-clause-answered g c = rw (← c.self.view_is) c.turn.ensures.answered

pub returns-clause-same : goal.returns-clause-same
returns-clause-same g c =
    let e = c.turn.ensures in
    let goes = turn_goes g.D.Disk c.self.inside.engine c.turn.new.self
    (record { since = e.leaves; now = e.now; means = e.means; honest = e.honest }) c.turn.result e.answered e.faults in
    rw (← c.self.view_is) (record {
      same = refl;
      memory = memory_stays g.D.Disk c.self.inside.engine c.turn.new.self goes;
      count = count_stays g.D.Disk c.self.inside.engine c.turn.new.self goes;
    })

pub returns-clause-keeps : goal.returns-clause-keeps
returns-clause-keeps g c = let e = c.turn.ensures in rw (← c.self.view_is) (keeps_still g.D.Disk c.self.inside.start
    c.self.inside.calls.sure c.self.inside.calls.doubt c.self.inside.engine c.turn.new.self c.self.invariant
    (turn_goes g.D.Disk c.self.inside.engine c.turn.new.self
    (record { since = e.leaves; now = e.now; means = e.means; honest = e.honest }) c.turn.result e.answered e.faults))

pub returns-clause-leaves : goal.returns-clause-leaves
returns-clause-leaves g c = let e = c.turn.ensures in rw (← c.self.view_is) (whole_still g.D.Disk c.self.inside.start
    c.self.inside.calls.sure c.self.inside.calls.doubt c.self.inside.engine c.turn.new.self c.self.invariant
    (turn_goes g.D.Disk c.self.inside.engine c.turn.new.self
    (record { since = e.leaves; now = e.now; means = e.means; honest = e.honest }) c.turn.result e.answered e.faults))

pub returns-clause-calls : goal.returns-clause-calls
returns-clause-calls g c = rw (← c.self.view_is) c.turn.ensures.calls
