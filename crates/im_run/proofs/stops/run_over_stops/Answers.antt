use Rattle.std.proofs.Common.{ℕ, List, sym, ap, subst}
use Rattle.im_disk.specs.{Fuse.Fused, Recording.Recording, Since.LeavesNow}
use Rattle.{im_session.specs.Carrying.LedBy, im_serial.proofs.KeepsLemmas.crashed_keeps}
use Rattle.im_run.specs.Stops.{HasRunByPlan, LeadTo}
use Rattle.im_run.proofs.stops.run_over_stops.Goals as goal

pub loop-at-preserved : goal.loop-at-preserved
loop-at-preserved g c =
    let text = c.args.asked.script.now in
    let kept = c.run_in-status.ensures.keeps tt in
    let fresh = ap (λ (x : Fused). x.disk) c.new-fused.ensures.fresh in
    let ready : (P : List ℕ → Type 0) → LeavesNow c.loop-at.disk.moment P
    → LeavesNow c.new-fused.result.disk.moment P =
    λ P before. subst (λ (d : Recording). LeavesNow d.moment P) (sym fresh) before in
    let behind : (P : List ℕ → Type 0) → LeavesNow c.run_in-status.result.1.disk.moment P
    → LeavesNow c.crash-disk.result.moment P =
    λ P left. crashed_keeps c.into_inner.result.moment c.crash-disk.result.moment P c.crash-disk.ensures.left
    (ap (λ (d : Recording). d.moment.ranges) c.crash-disk.ensures.after)
    (subst (λ (d : Recording). LeavesNow d.moment P) (sym c.into_inner.ensures) left) in (
      λ limits before. behind (LedBy (LeadTo limits)) (kept.accepted limits (ready (LedBy (LeadTo limits))
          (c.loop-at.invariant.0 limits before))),
      λ limits planned before. behind (LedBy (HasRunByPlan limits text)) (kept.by_plan limits planned
          (ready (LedBy (HasRunByPlan limits text)) (c.loop-at.invariant.1 limits planned before))),
    )

pub returns-clause-accepted : goal.returns-clause-accepted
returns-clause-accepted g c = λ limits before.
    (c.run_in-status-2.ensures.keeps tt).accepted limits (c.loop-at.invariant.0 limits before)

pub returns-clause-served : goal.returns-clause-served
returns-clause-served g c = λ limits zero before.
    (c.run_in-status-2.ensures.keeps tt).served limits zero (c.loop-at.invariant.0 limits before)

pub returns-clause-planned : goal.returns-clause-planned
returns-clause-planned g c = λ limits planned before.
    (c.run_in-status-2.ensures.keeps tt).by_plan limits planned (c.loop-at.invariant.1 limits planned before)

pub returns-clause-ended : goal.returns-clause-ended
returns-clause-ended g c = λ limits planned zero before.
    (c.run_in-status-2.ensures.keeps tt).ended limits planned zero (c.loop-at.invariant.1 limits planned before)
