-- What each device call of the closing of gates may leave.
use Rattle.std.proofs.Common.{◌≡◌, ℕ, ◌+◌, ◌-◌, ◌*◌, ◌<◌, ◌≤◌, ◌≢◌, ◌⊎◌, List, [], ◌∷◌, length, get_or, sym, refl, ap}
use Rattle.std.proofs.Common.{◌∙◌, subst, inl, inr, ⊎_elim, arith}
use Rattle.std.proofs.lemmas.Bool.{cases_eq, cases_lt}
use Rattle.im_types.specs.Types.{Ring, slot_offset}
use Rattle.im_disk.proofs.OverlayLemmas.{length-overlaid, overlaid_inside, overlaid_outside}
use Rattle.im_disk.proofs.SinceLemmas.{leaves_start, leaves_step, left_sync, left_torn}
use Rattle.im_disk.specs.Moment.{Left, MayTick, Moment, overlaid, Shaken, synced, Torn, written}
use Rattle.im_disk.specs.Since.{Calls, LeavesNow, LeavesOnly, SameBut}
use Rattle.im_journal.proofs.Slots.{slot_inside}
use Rattle.im_journal.specs.Gates.{AreShut, closed_gate, HasClosed, MayClose, SameButGates}

pub beside : (i a : ℕ) → i ≢ a → (i < a) ⊎ (a + 1 ≤ i)
beside i a other = ⊎_elim (λ low. inl low) (λ high. inr (omega arith)) (cases_lt i a)

-- so many gates are written, of those that are to be closed
pub record IsClosing {D : Type 0} (now : D → Moment) (past : D → List Moment) (r : Ring) (s n i : ℕ)
    (d0 d : D) : Type 0 where
  pub leaves : LeavesOnly now past d0 d (MayClose r s n (now d0))
  pub kept : SameButGates r s n (now d0).bytes (now d).bytes
  pub closed : HasClosed r s i (now d).bytes
  pub calls : Calls past d0 d i

none_yet : (r : Ring) (s n : ℕ) (c : List ℕ) → SameButGates r s n c c
none_yet r s n c = record { size = refl; same = λ i out. refl }

-- one byte more, a gate among them
one_more : (r : Ring) (s n k : ℕ) → k < n → (c d e : List ℕ) → SameButGates r s n c d
    → SameBut (slot_offset r (s + k)) 1 d e → SameButGates r s n c e
one_more r s n k low c d e so_far but = record {
  size = but.size ∙ so_far.size;
  same = λ i out. but.same i (beside i (slot_offset r (s + k)) (out k low)) ∙ so_far.same i out;
}

module _ {D : Type 0} (now : D → Moment) (past : D → List Moment) (r : Ring) (s n : ℕ) (d0 : D) where
  abbrev May : List ℕ → Type 0
  May = MayClose r s n (now d0)

  pub closing_start : IsClosing now past r s n 0 d0 d0
  closing_start = record {
    leaves = record {
      within = leaves_start (now d0) (past d0) May;
      after = λ c left. record { from = c; left = left; same = none_yet r s n c };
    };
    kept = none_yet r s n (now d0).bytes;
    closed = λ k low. absurd (omega (arith, low));
    calls = omega arith;
  }

  -- the gate of the next slot is written
  module _ (i : ℕ) (few : i < n) (some : 0 < r.slots) (d : D)
      (inside : r.base + 64 * r.slots ≤ length (now d0).bytes) (so_far : IsClosing now past r s n i d0 d)
      (bytes : List ℕ) (is_bytes : bytes ≡ closed_gate ∷ []) (d1 : D) where
    abbrev at : ℕ
    at = slot_offset r (s + i)

    one : length bytes ≡ 1
    one = ap length is_bytes

    pub fits : at + length bytes ≤ length (now d).bytes
    fits = omega (arith, one, slot_inside r some (s + i), so_far.kept.size, inside)

    but_one : (c e : List ℕ) → SameBut at (length bytes) c e → SameBut at 1 c e
    but_one c e but = subst (λ (l : ℕ). SameBut at l c e) one but

    torn_now : MayTick (Torn at (length bytes)) (now d) (now d1) (past d) (past d1) → LeavesNow (now d1) May
    torn_now (inl same) c left = so_far.leaves.after c (subst (λ (x : Moment). Left x c) same.0 left)
    torn_now (inr tick) c left =
        let from : (e : List ℕ) × Left (now d) e
        × SameBut at (length bytes) e c = left_torn at (length bytes) (now d) (now d1) fits tick.now c left in
        let was : MayClose r s n (now d0) from.0 = so_far.leaves.after from.0 from.1 in
        record {
          from = was.from;
          left = was.left;
          same = one_more r s n i few was.from from.0 c was.same
              (but_one from.0 c from.2);
        }

    pub torn_leaves : MayTick (Torn at (length bytes)) (now d) (now d1) (past d) (past d1)
        → LeavesOnly now past d0 d1 May
    torn_leaves tick = record {
      within = leaves_step (now d0) (now d) (now d1) (past d0) (past d) (past d1) May
          (Torn at (length bytes)) so_far.leaves.within tick (torn_now tick);
      after = torn_now tick;
    }

    module _ (is_written : now d1 ≡ written at bytes (now d)) where
      new_bytes : (now d1).bytes ≡ overlaid (now d).bytes at bytes
      new_bytes = ap (λ (x : Moment). x.bytes) is_written

      outside : SameBut at 1 (now d).bytes (now d1).bytes
      outside = but_one (now d).bytes (now d1).bytes (record {
        size = ap length new_bytes ∙ length-overlaid (now d).bytes at bytes fits;
        same = λ b out. ap (λ (l : List ℕ). get_or l b 0) new_bytes
            ∙ overlaid_outside (now d).bytes at bytes fits b out;
      })

      there : get_or (now d1).bytes at 0 ≡ closed_gate
      there =
          let none : at - at ≡ 0 = omega arith in
          ap (λ (l : List ℕ). get_or l at 0) new_bytes
          ∙ overlaid_inside (now d).bytes at bytes fits at (omega arith) (omega (arith, one))
          ∙ ap (λ (k : ℕ). get_or bytes k 0) none
          ∙ ap (λ (l : List ℕ). get_or l 0 0) is_bytes

      earlier : (k : ℕ) → k < i + 1 → slot_offset r (s + k) ≢ at → k < i
      earlier k low other = ⊎_elim
          (λ (here : k ≡ i). absurd (other (ap (λ (x : ℕ). slot_offset r (s + x)) here)))
          (λ (before : k ≢ i). omega (arith, low))
          (cases_eq k i)

      still_closed : HasClosed r s (i + 1) (now d1).bytes
      still_closed k low = ⊎_elim
          (λ (here : slot_offset r (s + k) ≡ at). ap (λ (b : ℕ). get_or (now d1).bytes b 0) here ∙ there)
          (λ (other : slot_offset r (s + k) ≢ at). outside.same (slot_offset r (s + k))
          (beside (slot_offset r (s + k)) at other)
          ∙ so_far.closed k (earlier k low other))
          (cases_eq (slot_offset r (s + k)) at)

      pub closing_next : MayTick (Torn at (length bytes)) (now d) (now d1) (past d) (past d1) → past d1
          ≡ now d ∷ past d → IsClosing now past r s n (i + 1) d0 d1
      closing_next tick longer = record {
        leaves = torn_leaves tick;
        kept = one_more r s n i few (now d0).bytes (now d).bytes (now d1).bytes so_far.kept outside;
        closed = still_closed;
        calls = omega (arith, ap length longer, so_far.calls);
      }

  -- all of them are, and now they are put on the disk
  module _ (i : ℕ) (d : D) (so_far : IsClosing now past r s n i d0 d) (d1 : D) where
    synced_now : MayTick Shaken (now d) (now d1) (past d) (past d1) → LeavesNow (now d1) May
    synced_now tick c left = so_far.leaves.after c (left_sync (now d) (now d1) (past d) (past d1) tick c left)

    pub synced_leaves : MayTick Shaken (now d) (now d1) (past d) (past d1) → LeavesOnly now past d0 d1 May
    synced_leaves tick = record {
      within = leaves_step (now d0) (now d) (now d1) (past d0) (past d)
          (past d1) May Shaken so_far.leaves.within tick (synced_now tick);
      after = synced_now tick;
    }

    pub synced_shut : n ≤ i → now d1 ≡ synced (now d) → AreShut r s n (now d0) (now d1)
    synced_shut all is = record {
      kept = subst (λ (l : List ℕ). SameButGates r s n (now d0).bytes l) (sym same_bytes) so_far.kept;
      closed = λ k low. ap (λ (l : List ℕ). get_or l (slot_offset r (s + k)) 0) same_bytes
          ∙ so_far.closed k (omega (arith, low, all));
      calm = ap (λ (x : Moment). x.ranges) is;
    }
      where
        same_bytes : (now d1).bytes ≡ (now d).bytes
        same_bytes = ap (λ (x : Moment). x.bytes) is
