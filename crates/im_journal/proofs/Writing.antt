-- What each device call that writes the bodies of a group may leave.
use Rattle.std.proofs.Common.{◌≡◌, ℕ, ◌+◌, ◌*◌, ◌<◌, ◌≤◌, ◌⊎◌, List, [], ◌∷◌, ◌++◌, length, get_or, take, drop, sym}
use Rattle.std.proofs.Common.{refl, ap, ◌∙◌, subst, inl, inr, arith, length-append}
use Rattle.im_types.specs.Types.{Command, slot_body, FitsCommand, Ring, slot_offset, slot}
use Rattle.im_disk.proofs.OverlayLemmas.{length-overlaid, overlaid_outside, overlaid_part}
use Rattle.im_disk.proofs.SinceLemmas.{leaves_start, leaves_step, left_torn}
use Rattle.im_disk.specs.Moment.{Left, MayTick, Moment, overlaid, Torn, written}
use Rattle.im_disk.specs.Since.{Calls, LeavesNow, LeavesOnly, SameBut}
use Rattle.im_journal.proofs.Groups.{bodies_push, fits_push, same_bodies}
use Rattle.im_journal.proofs.Slots.{away, body_is, same_slot, slot_inside}
use Rattle.im_journal.specs.Groups.{AllFit, AreWritten, count_at, HasBodies, MayWriteBodies, SameButBodies}

-- The bodies of the commands so far are written, of a group of n.
pub record IsWriting {D : Type 0} (now : D → Moment) (past : D → List Moment) (r : Ring) (s n : ℕ)
    (commands : List Command) (d0 d : D) : Type 0 where
  pub leaves : LeavesOnly now past d0 d (MayWriteBodies r s n (now d0))
  pub kept : SameButBodies r s n (now d0).bytes (now d).bytes
  pub bodies : HasBodies r n s commands (now d).bytes
  pub fits : AllFit commands
  pub calls : Calls past d0 d (length commands)

pub none_yet : (r : Ring) (s n : ℕ) (c : List ℕ) → SameButBodies r s n c c
none_yet r s n c = record { size = refl; same = λ i out. refl }

-- a body more
one_more : (r : Ring) (s n k : ℕ) → k < n → (c d e : List ℕ) → SameButBodies r s n c d
    → SameBut (slot_offset r (s + k) + 1) 63 d e → SameButBodies r s n c e
one_more r s n k low c d e so_far but = record {
  size = but.size ∙ so_far.size;
  same = λ i out. but.same i (outside i (slot_offset r (s + k)) (out k low)) ∙ so_far.same i out;
}
  where
    outside : (i a : ℕ) → (i ≤ a) ⊎ (a + 64 ≤ i) → (i < a + 1) ⊎ (a + 1 + 63 ≤ i)
    outside i a (inl le) = inl (omega (arith, le))
    outside i a (inr ge) = inr (omega (arith, ge))

module _ {D : Type 0} (now : D → Moment) (past : D → List Moment) (r : Ring) (s n : ℕ) (d0 : D) where
  abbrev May : List ℕ → Type 0
  May = MayWriteBodies r s n (now d0)

  pub writing_start : IsWriting now past r s n [] d0 d0
  writing_start = record {
    leaves = record {
      within = leaves_start (now d0) (past d0) May;
      after = λ c left. record { from = c; left = left; same = none_yet r s n c };
    };
    kept = none_yet r s n (now d0).bytes;
    bodies = tt;
    fits = tt;
    calls = omega arith;
  }

  -- the body of the next command is written
  module _ (commands : List Command) (i : ℕ) (is_i : length commands ≡ i) (few : i < n) (round : n ≤ r.slots)
      (some : 0 < r.slots) (d : D) (inside : r.base + 64 * r.slots ≤ length (now d0).bytes)
      (so_far : IsWriting now past r s n commands d0 d)
      (bytes : List ℕ) (long : length bytes ≡ 63) (d1 : D) where
    abbrev at : ℕ
    at = slot_offset r (s + i)

    pub fits_body : at + 1 + length bytes ≤ length (now d).bytes
    fits_body = omega (arith, long, slot_inside r some (s + i), so_far.kept.size, inside)

    but_one : (c e : List ℕ) → SameBut (at + 1) (length bytes) c e → SameBut (at + 1) 63 c e
    but_one c e but = subst (λ (l : ℕ). SameBut (at + 1) l c e) long but

    torn_now : MayTick (Torn (at + 1) (length bytes)) (now d) (now d1) (past d) (past d1) → LeavesNow (now d1) May
    torn_now (inl same) c left = so_far.leaves.after c (subst (λ (x : Moment). Left x c) same.0 left)
    torn_now (inr tick) c left =
        let from : (e : List ℕ) × Left (now d) e
        × SameBut (at + 1) (length bytes) e c = left_torn (at + 1) (length bytes) (now d)
        (now d1) fits_body tick.now c left in
        let was : MayWriteBodies r s n (now d0) from.0 = so_far.leaves.after from.0 from.1 in
        record {
          from = was.from;
          left = was.left;
          same = one_more r s n i few was.from from.0 c was.same
              (but_one from.0 c from.2);
        }

    pub torn_leaves : MayTick (Torn (at + 1) (length bytes)) (now d) (now d1) (past d) (past d1)
        → LeavesOnly now past d0 d1 May
    torn_leaves tick = record {
      within = leaves_step (now d0) (now d) (now d1) (past d0) (past d) (past d1) May
          (Torn (at + 1) (length bytes)) so_far.leaves.within tick (torn_now tick);
      after = torn_now tick;
    }

    module _ (command : Command) (fits : FitsCommand command)
        (is_bytes : bytes ≡ slot_body (count_at n i) (s + i) command)
        (is_written : now d1 ≡ written (at + 1) bytes (now d)) where
      new_bytes : (now d1).bytes ≡ overlaid (now d).bytes (at + 1) bytes
      new_bytes = ap (λ (x : Moment). x.bytes) is_written

      outside : SameBut (at + 1) 63 (now d).bytes (now d1).bytes
      outside = but_one (now d).bytes (now d1).bytes (record {
        size = ap length new_bytes ∙ length-overlaid (now d).bytes (at + 1) bytes fits_body;
        same = λ b out. ap (λ (l : List ℕ). get_or l b 0) new_bytes
            ∙ overlaid_outside (now d).bytes (at + 1) bytes fits_body b out;
      })

      there : drop 1 (slot r (s + i) (now d1).bytes) ≡ slot_body (count_at n i) (s + i) command
      there =
          body_is r (s + i) (now d1).bytes bytes long
          (ap (λ (l : List ℕ). take (length bytes) (drop (at + 1) l)) new_bytes
          ∙ overlaid_part (now d).bytes (at + 1) bytes fits_body)
          ∙ is_bytes

      behind_them : drop 1 (slot r (s + length commands) (now d1).bytes)
          ≡ slot_body (count_at n (length commands)) (s + length commands) command
      behind_them = subst
          (λ (m : ℕ). drop 1 (slot r (s + m) (now d1).bytes) ≡ slot_body (count_at n m) (s + m) command)
          (sym is_i) there

      -- the slots before it stay
      earlier : (k : ℕ) → k < i → slot r (s + k) (now d1).bytes ≡ slot r (s + k) (now d).bytes
      earlier k low = same_slot r (s + k) (now d1).bytes (now d).bytes outside.size
          (λ b lo hi. outside.same b
          (far b (slot_offset r (s + i))
          (away r some (s + k) (s + i) b (omega (arith, low)) (omega (arith, few, round)) lo hi)))
        where
          far : (b a : ℕ) → (b < a) ⊎ (a + 64 ≤ b) → (b < a + 1) ⊎ (a + 1 + 63 ≤ b)
          far b a (inl lt) = inl (omega (arith, lt))
          far b a (inr ge) = inr (omega (arith, ge))

      pub writing_next : MayTick (Torn (at + 1) (length bytes)) (now d) (now d1) (past d) (past d1) → past d1
          ≡ now d ∷ past d → (more : List Command) → more ≡ commands ++ command ∷ []
          → IsWriting now past r s n more d0 d1
      writing_next tick longer more is_more = subst (λ (l : List Command). IsWriting now past r s n l d0 d1)
          (sym is_more) (record {
            leaves = torn_leaves tick;
            kept = one_more r s n i few (now d0).bytes (now d).bytes (now d1).bytes so_far.kept outside;
            bodies = bodies_push r (now d1).bytes n s commands command
                (same_bodies r (now d).bytes (now d1).bytes n s commands
                (λ k low. ap (λ (l : List ℕ). drop 1 l)
                (earlier k (omega (arith, low, is_i)))) so_far.bodies) behind_them;
            fits = fits_push commands command so_far.fits fits;
            calls = omega (arith, ap length longer, so_far.calls, length-append commands (command ∷ []));
          })

-- the bodies of all commands are written
pub all_written : {D : Type 0} (now : D → Moment) (past : D → List Moment) (r : Ring) (s n : ℕ)
    (commands so_far : List Command) (d0 d : D) → n ≡ length commands → so_far ≡ commands
    → IsWriting now past r s n so_far d0 d
    → AreWritten r s commands (now d0) (now d)
all_written now past r s n commands so_far d0 d is_n is_all w =
    let bodies : HasBodies r n s commands (now d).bytes = subst
    (λ (l : List Command). HasBodies r n s l (now d).bytes) is_all w.bodies in
    record {
      kept = subst (λ (m : ℕ). SameButBodies r s m (now d0).bytes (now d).bytes) is_n w.kept;
      bodies = subst (λ (m : ℕ). HasBodies r m s commands (now d).bytes) is_n bodies;
      fits = subst AllFit is_all w.fits;
    }
