use Rattle.std.proofs.Common.{◌<◌, List, length, sum_by, Option, sym, ◌∙◌, subst, arith}
use Rattle.im_trace.proofs.LogLemmas.{log-claimed}
use Rattle.im_trace.specs.Log.{AreClaimed, unclaimed_lines, UnclaimedState}

pub invariant_of-result : Rattle.im_trace.proofs.ending.Ended.of.Goals.invariant_of-result
invariant_of-result g c =
    let r = c.reserve.invariant in
    let is = c.log.invariant in
    let same = c.as_slice.ensures.value in
    let told = c.are_claimed-claimed.ensures in
    let m = g.K.Name.origin.memory in
    let marks = g.K.Name.origin.marks in (
      record {
        lines = λ claimed. (log-claimed m marks _ _ is (subst AreClaimed same (told.claimed claimed))).0;
        marked = λ claimed. (log-claimed m marks _ _ is (subst AreClaimed same (told.claimed claimed))).1;
        fewer = λ waits.
            let more = subst (λ (places : List (Option UnclaimedState)).
            0 < sum_by (λ place. length (unclaimed_lines place)) places) same (told.waits waits) in
            omega (arith, more, is.lines);
      },
      r.1 ∙ sym r.0,
      omega (arith, r.0, r.4, r.5),
    )
