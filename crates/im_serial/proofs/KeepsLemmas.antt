-- What runs of a script leave, whatever stopped them. (Own.)
use Rattle.std.proofs.Common.{◌≡◌, ℕ, ◌+◌, false, ◌⊎◌, List, [], ◌++◌, length, Some, sym, refl, ap, ◌∙◌, subst, inl}
use Rattle.std.proofs.Common.{inr, ⊎_elim, append-nil, arith, length-append}
use Rattle.im_types.specs.Types.{Command, Limits, after, accept_each, Means}
use Rattle.im_disk.proofs.SinceLemmas.{leaves_now, leaves_weaker}
use Rattle.im_disk.specs.{declared.Disk.Ghosts, Moment.Left, Moment.Moment, Moment.Outside}
use Rattle.im_disk.specs.Since.{LeavesNow, LeavesOnly}
use Rattle.{im_session.proofs.AcceptedLemmas.each_accepted, im_text.specs.Said.Output, im_text.specs.Said.Written}
use Rattle.im_session.proofs.CarryLemmas.{began_with, BeganWith, carried}
use Rattle.im_session.specs.{Carrying.LedBy, Kept.Kept, Kept.MeansPut, Kept.SessionState}
use Rattle.im_serial.proofs.BegunLemmas.{all_accepted, all_asked, begun_on, gone_on}
use Rattle.im_serial.proofs.SetupLemmas.{setup_first}
use Rattle.im_serial.specs.{Asked.Wanted, Asked.wanted_of, Once.HasMade, Once.IsAskedOnce, Once.SerialOnceOn}
use Rattle.im_serial.specs.Begun.{HasComeTo, HasDone, HasGoneOn, KeepsBegun, new_memory}

module _ {D : Type 0} (disk : Ghosts D) (limits : Limits) (text : List ℕ) (s : SessionState D) (status : ℕ)
    (kept : Kept disk s) (h : disk.honest s.engine.disk)
    (before : LeavesNow (disk.now s.start.disk) (LedBy (HasComeTo limits (wanted_of text))))
    (asked : IsAskedOnce s.start.memory (wanted_of text) (s.put ++ s.doubt) status)
    (made : HasMade s.start.memory (wanted_of text) ⊎ ((s.put ++ s.doubt ≡ []) × (status ≡ 0 → ⊥))) where
  abbrev script : List Wanted
  script = wanted_of text

  abbrev all : List Command
  all = s.put ++ s.doubt

  -- what the session began with is what a run came to
  began : BeganWith (HasComeTo limits script) s
  began = began_with disk (HasComeTo limits script) s kept h before

  accepted : accept_each s.start.memory all ≡ Some (after s.start.memory all)
  accepted = each_accepted s.start.memory all kept.in_turn

  pub went_on : HasGoneOn limits script s.start.memory all status
  went_on = gone_on limits script (setup_first text) began.earlier s.start.memory began.holds all status asked accepted
      made

  -- each file that such a run leaves
  begins_on : LeavesOnly disk.now disk.past s.start.disk s.engine.disk (LedBy (HasComeTo limits script))
  begins_on = carried disk (HasComeTo limits script) s kept h before
      (λ earlier holds count many few. begun_on limits script (setup_first text) earlier s.start.memory holds all status
      asked accepted made many)

  -- with status 0 all of it is done
  done_on : s.engine.failed ≡ false → status ≡ 0 → LeavesNow (disk.now s.engine.disk) (LedBy (HasDone limits script))
  done_on works zero = λ file left.
      let m = s.start.memory in
      let w = began in
      let count = w.count in
      let both = length-append w.earlier all in
      let sum : s.start.count + length all ≡ length (w.earlier ++ all) = omega (arith, count, both) in
      let same : s.put ≡ all = sym (append-nil s.put) ∙ ap (λ (l : List Command). s.put ++ l) (sym (kept.sure works)) in
      let means : MeansPut s.start all file = ⊎_elim
      (λ sure. subst (λ (l : List Command). MeansPut s.start l file) same sure) (λ it. it)
      ((kept.leaves h).now file left) in
      let it = all_asked limits script (setup_first text) w.earlier m w.holds all status asked accepted made in (
        w.earlier ++ all,
        (
          after m all,
          (
            (
              record { left = it.left; leads = it.leads; all = λ none. it.all zero },
              all_accepted limits script (setup_first text) w.earlier m w.holds all status asked accepted made,
            ),
            subst (λ (n : ℕ). Means (after m all) n 0 file) sum means,
          ),
        ),
      )

  pub keeps_session : (status ≡ 0 → s.engine.failed ≡ false)
      → KeepsBegun disk.now disk.past limits script s.start.disk s.engine.disk status
  keeps_session works = record {
    within = begins_on.within;
    after = begins_on.after;
    done = λ zero. done_on (works zero) zero;
  }

module _ {D : Type 0} (disk : Ghosts D) (limits : Limits) (text : List ℕ) (old new : D) (was : Output)
    (is : Written) (status : ℕ)
    (before : LeavesNow (disk.now old) (LedBy (HasComeTo limits (wanted_of text)))) (h : disk.honest new) where
  pub keeps_on : SerialOnceOn disk text old new was is status
      → KeepsBegun disk.now disk.past limits (wanted_of text) old new status
  keeps_on (inl it) = record {
    within = leaves_weaker (disk.now old) (disk.now new) (disk.past old) (disk.past new) (Left (disk.now old))
        (LedBy (HasComeTo limits (wanted_of text))) it.leaves before;
    after = λ file left. ⊎_elim (before file) (before file) (leaves_now (disk.now old) (disk.now new) (disk.past old)
        (disk.past new) (Left (disk.now old)) it.leaves file left);
    done = λ zero. absurd (let one = it.status_is in omega arith);
  }
  keeps_on (inr it) =
      subst (λ (d : D). KeepsBegun disk.now disk.past limits (wanted_of text) d new status) it.opened
      (subst (λ (d : D). KeepsBegun disk.now disk.past limits (wanted_of text) it.session.start.disk d status)
      (sym it.closed)
      (keeps_session disk limits text it.session status it.kept (subst disk.honest it.closed h)
      (subst (λ (d : D). LeavesNow (disk.now d) (LedBy (HasComeTo limits (wanted_of text)))) (sym it.opened) before)
      it.asked it.made it.works))

-- a crash leaves no more than could be left
pub crashed_keeps : (old new : Moment) (P : List ℕ → Type 0) → Left old new.bytes → new.ranges ≡ old.ranges
    → LeavesNow old P → LeavesNow new P
crashed_keeps old new P left same keeps = λ file again. keeps file (record {
  size = again.size ∙ left.size;
  same = λ i out. again.same i (subst (λ (r : List (ℕ × ℕ)). Outside r i) (sym same) out) ∙ left.same i out;
})

-- a new image
pub new_begun : (limits : Limits) (script : List Wanted) (file : List ℕ) → Means (new_memory limits) 0 0 file
    → LedBy (HasComeTo limits script) file
new_begun limits script file means = (
  [],
  (new_memory limits, (record { left = script; leads = refl; accepted = refl }, means)),
)
