use Rattle.std.proofs.Common.{refl}
use Rattle.im_session.proofs.CallLemmas.{sweep_goes}
use Rattle.im_session.proofs.KeptLemmas.{count_stays, keeps_still, kept_still, memory_stays, whole_still}
use Rattle.im_session.proofs.session.Session.sweep_kept.Goals as goal

pub invariant_of-self : goal.invariant_of-self
invariant_of-self g c =
    let e = c.sweep.ensures in
    kept_still g.D.Disk c.self.inside.start c.self.inside.calls.sure c.self.inside.calls.doubt c.self.inside.engine
    c.sweep.new.self c.self.invariant (sweep_goes g.D.Disk c.self.inside.engine c.sweep.new.self
    (record { since = e.leaves; now = e.now; means = e.means; honest = e.honest }) c.args.most c.sweep.result e.answered e.faults)

pub returns-clause-answered : goal.returns-clause-answered
returns-clause-answered g c = rw (← c.self.view_is) c.sweep.ensures.answered

pub returns-clause-same : goal.returns-clause-same
returns-clause-same g c =
    let e = c.sweep.ensures in
    let goes = sweep_goes g.D.Disk c.self.inside.engine c.sweep.new.self
    (record { since = e.leaves; now = e.now; means = e.means; honest = e.honest }) c.args.most c.sweep.result e.answered
    e.faults in
    rw (← c.self.view_is) (record {
      same = refl;
      memory = memory_stays g.D.Disk c.self.inside.engine c.sweep.new.self goes;
      count = count_stays g.D.Disk c.self.inside.engine c.sweep.new.self goes;
    })

pub returns-clause-keeps : goal.returns-clause-keeps
returns-clause-keeps g c = let e = c.sweep.ensures in rw (← c.self.view_is) (keeps_still g.D.Disk c.self.inside.start
    c.self.inside.calls.sure c.self.inside.calls.doubt c.self.inside.engine c.sweep.new.self c.self.invariant
    (sweep_goes g.D.Disk c.self.inside.engine c.sweep.new.self
    (record { since = e.leaves; now = e.now; means = e.means; honest = e.honest }) c.args.most c.sweep.result e.answered
    e.faults))

pub returns-clause-leaves : goal.returns-clause-leaves
returns-clause-leaves g c = let e = c.sweep.ensures in rw (← c.self.view_is) (whole_still g.D.Disk c.self.inside.start
    c.self.inside.calls.sure c.self.inside.calls.doubt c.self.inside.engine c.sweep.new.self c.self.invariant
    (sweep_goes g.D.Disk c.self.inside.engine c.sweep.new.self
    (record { since = e.leaves; now = e.now; means = e.means; honest = e.honest }) c.args.most c.sweep.result e.answered
    e.faults))
