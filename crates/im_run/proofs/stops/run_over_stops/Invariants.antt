use Rattle.std.proofs.Common.{◌≡◌, true}
use Rattle.{im_types.specs.Types.Limits, im_session.specs.Carrying.LedBy}
use Rattle.im_run.specs.Stops.{CarriesOver, HasRunByPlan, LeadTo}

abbrev pub invariant-loop-at : Rattle.im_run.proofs.stops.run_over_stops.Given.invariant-loop-at
invariant-loop-at g l = ((limits : Limits) → CarriesOver l.fn.image.disk.moment (LedBy (LeadTo limits)) l.disk.moment
    (LedBy (LeadTo limits)))
    × ((limits : Limits) → l.asked.planned ≡ true
    → CarriesOver l.fn.image.disk.moment (LedBy (HasRunByPlan limits l.asked.script.now)) l.disk.moment
    (LedBy (HasRunByPlan limits l.asked.script.now)))
