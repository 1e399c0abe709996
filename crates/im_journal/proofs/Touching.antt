-- What a gate that is written alone leaves, and bodies with a sync behind them.
use Rattle.std.proofs.Common.{◌≡◌, ℕ, ◌+◌, ◌-◌, ◌≤◌, List, [], ◌∷◌, length, get_or, sym, refl, ap, ◌∙◌, subst, inl, inr}
use Rattle.std.proofs.Common.{arith}
use Rattle.im_types.specs.Types.{Command, open_gate, Ring}
use Rattle.im_disk.proofs.OverlayLemmas.{length-overlaid, overlaid_inside, overlaid_outside}
use Rattle.im_disk.proofs.SinceLemmas.{leaves_start, leaves_step, left_sync, left_torn}
use Rattle.im_disk.specs.{declared.Disk.Ghosts, Since.LeavesNow, Since.LeavesOnly, Since.SameBut}
use Rattle.im_disk.specs.Moment.{Left, MayTick, Moment, overlaid, Shaken, synced, Torn, written}
use Rattle.im_journal.specs.{Gates.HasOpened, Gates.MayTouch, Groups.AreLaid, Groups.AreWritten, Groups.MayWriteBodies}

-- a gate is written
module _ {D : Type 0} (disk : Ghosts D) (at : ℕ) (d0 d1 : D)
    (inside : at + 1 ≤ length (disk.now d0).bytes) where
  abbrev May : List ℕ → Type 0
  May = MayTouch at (disk.now d0)

  abbrev Written : Type 0
  Written = MayTick (Torn at 1) (disk.now d0) (disk.now d1) (disk.past d0) (disk.past d1)

  touched : Written → LeavesNow (disk.now d1) May
  touched (inl same) c left = record {
    from = c;
    left = subst (λ (m : Moment). Left m c) same.0 left;
    same = record { size = refl; same = λ i out. refl };
  }
  touched (inr tick) c left =
      let from : (d : List ℕ) × Left (disk.now d0) d
      × SameBut at 1 d c = left_torn at 1 (disk.now d0) (disk.now d1) inside tick.now c left in
      record { from = from.0; left = from.1; same = from.2 }

  pub touch_leaves : Written → LeavesOnly disk.now disk.past d0 d1 May
  touch_leaves tick = record {
    within = leaves_step (disk.now d0) (disk.now d0) (disk.now d1) (disk.past d0) (disk.past d0) (disk.past d1) May
        (Torn at 1) (leaves_start (disk.now d0) (disk.past d0) May) tick (touched tick);
    after = touched tick;
  }

-- and then it is open
pub touch_opens : (at : ℕ) (m0 m1 : Moment) → at + 1 ≤ length m0.bytes → m1 ≡ written at (open_gate ∷ []) m0
    → HasOpened at m0 m1
touch_opens at m0 m1 inside is = record {
  kept = record {
    size = ap length bytes ∙ length-overlaid m0.bytes at (open_gate ∷ []) inside;
    same = λ i out. ap (λ (l : List ℕ). get_or l i 0) bytes
        ∙ overlaid_outside m0.bytes at (open_gate ∷ []) inside i out;
  };
  opened =
      let none : at - at ≡ 0 = omega arith in
      ap (λ (l : List ℕ). get_or l at 0) bytes
      ∙ overlaid_inside m0.bytes at (open_gate ∷ []) inside at (omega arith) (omega arith)
      ∙ ap (λ (k : ℕ). get_or (open_gate ∷ []) k 0) none;
}
  where
    bytes : m1.bytes ≡ overlaid m0.bytes at (open_gate ∷ [])
    bytes = ap (λ (x : Moment). x.bytes) is

-- bodies are written, and synced
pub synced_bodies : {D : Type 0} (disk : Ghosts D) (r : Ring) (s n : ℕ) (d0 d1 d2 : D)
    → LeavesOnly disk.now disk.past d0 d1 (MayWriteBodies r s n (disk.now d0))
    → MayTick Shaken (disk.now d1) (disk.now d2) (disk.past d1) (disk.past d2)
    → LeavesOnly disk.now disk.past d0 d2 (MayWriteBodies r s n (disk.now d0))
synced_bodies disk r s n d0 d1 d2 only tick = record {
  within = leaves_step (disk.now d0) (disk.now d1) (disk.now d2) (disk.past d0) (disk.past d1) (disk.past d2)
      (MayWriteBodies r s n (disk.now d0)) Shaken only.within tick after;
  after = after;
}
  where
    after : LeavesNow (disk.now d2) (MayWriteBodies r s n (disk.now d0))
    after c left = only.after c (left_sync (disk.now d1) (disk.now d2) (disk.past d1) (disk.past d2) tick c left)

pub laid_now : (r : Ring) (s : ℕ) (commands : List Command) (m0 m1 m2 : Moment) → AreWritten r s commands m0 m1
    → m2 ≡ synced m1 → AreLaid r s commands m0 m2
laid_now r s commands m0 m1 m2 w is = subst (λ (m : Moment). AreLaid r s commands m0 m) (sym is)
    (record { kept = w.kept; bodies = w.bodies; fits = w.fits; calm = refl })
