-- Bytes behind a gate: what each call that writes them leaves, and what stands there once they are written.
use Rattle.std.proofs.Common.{◌≡◌, ℕ, zero, suc, ◌+◌, ◌-◌, ◌<◌, ◌≤◌, ◌≢◌, List, [], ◌∷◌, length, get_or, take, drop}
use Rattle.std.proofs.Common.{sym, refl, ap, ◌∙◌, subst, inl, inr, ⊎_elim, arith, length-drop, length-take, get_or-drop}
use Rattle.std.proofs.Common.{take_all, get_or-take, ext_get_or}
use Rattle.std.proofs.lemmas.Bool.{cases_eq, cases_lt}
use Rattle.im_types.specs.Types.{open_gate}
use Rattle.im_disk.proofs.OverlayLemmas.{length-overlaid, overlaid_inside, overlaid_outside, overlaid_part}
use Rattle.im_disk.proofs.SinceLemmas.{leaves_start, leaves_step, leaves_then, left_now, left_sync, left_synced}
use Rattle.im_disk.proofs.SinceLemmas.{left_torn}
use Rattle.im_disk.specs.Gate.{HasThere, IsClosed, MayOpen, MayWrite}
use Rattle.im_disk.specs.Moment.{Left, MayTick, Moment, overlaid, Shaken, synced, Torn, written}
use Rattle.im_disk.specs.Since.{LeavesNow, LeavesOnly, SameBut}

-- a sync, the gate, a sync
module _ {D : Type 0} (now : D → Moment) (past : D → List Moment) (at : ℕ) (d0 : D)
    (inside : at + 1 ≤ length (now d0).bytes) where
  abbrev May : List ℕ → Type 0
  May = MayOpen at (now d0)

  module _ (d1 : D) (tick1 : MayTick Shaken (now d0) (now d1) (past d0) (past d1)) where
    after1 : LeavesNow (now d1) May
    after1 c left = inl (left_sync (now d0) (now d1) (past d0) (past d1) tick1 c left)

    pub open1 : LeavesOnly now past d0 d1 May
    open1 = record {
      within = leaves_step (now d0) (now d0) (now d1) (past d0) (past d0) (past d1) May Shaken
          (leaves_start (now d0) (past d0) May) tick1 after1;
      after = after1;
    }

    module _ (settled : now d1 ≡ synced (now d0)) (d2 : D)
        (tick2 : MayTick (Torn at 1) (now d1) (now d2) (past d1) (past d2)) where
      only1 : (c : List ℕ) → Left (now d1) c → c ≡ (now d0).bytes
      only1 c left = left_synced (now d0) c (subst (λ (m : Moment). Left m c) settled left)

      fits1 : at + 1 ≤ length (now d1).bytes
      fits1 = omega (arith, ap (λ (m : Moment). length m.bytes) settled)

      but_gate : (c : List ℕ) → MayTick (Torn at 1) (now d1) (now d2) (past d1) (past d2) → Left (now d2) c
          → SameBut at 1 (now d0).bytes c
      but_gate c (inl same) left =
          let is : c ≡ (now d0).bytes = only1 c (subst (λ (m : Moment). Left m c) same.0 left) in
          record { size = ap length is; same = λ i out. ap (λ (l : List ℕ). get_or l i 0) is }
      but_gate c (inr tick) left =
          let from : (d : List ℕ) × Left (now d1) d
          × SameBut at 1 d c = left_torn at 1 (now d1) (now d2) fits1 tick.now c left in
          subst (λ (l : List ℕ). SameBut at 1 l c) (only1 from.0 from.1) from.2

      after2 : LeavesNow (now d2) May
      after2 c left = inr (but_gate c tick2 left)

      pub open2 : LeavesOnly now past d0 d2 May
      open2 = record {
        within = leaves_step (now d0) (now d1) (now d2) (past d0) (past d1) (past d2) May
            (Torn at 1) open1.within tick2 after2;
        after = after2;
      }

      module _ (d3 : D) (tick3 : MayTick Shaken (now d2) (now d3) (past d2) (past d3)) where
        after3 : LeavesNow (now d3) May
        after3 c left = after2 c (left_sync (now d2) (now d3) (past d2) (past d3) tick3 c left)

        pub open3 : LeavesOnly now past d0 d3 May
        open3 = record {
          within = leaves_step (now d0) (now d2) (now d3) (past d0) (past d2)
              (past d3) May Shaken open2.within tick3 after3;
          after = after3;
        }

-- a body and then the gate in front of it
module _ (b body : List ℕ) (at o : ℕ) (fits : at + 1 + length body ≤ length b) where
  abbrev with_body : List ℕ
  with_body = overlaid b (at + 1) body

  size_body_in : length with_body ≡ length b
  size_body_in = length-overlaid b (at + 1) body fits

  fits_gate : at + length (o ∷ []) ≤ length with_body
  fits_gate = omega (arith, size_body_in)

  fits_both : at + length (o ∷ body) ≤ length b
  fits_both = omega arith

  size : length (overlaid with_body at (o ∷ [])) ≡ length b
  size = length-overlaid with_body at (o ∷ []) fits_gate ∙ size_body_in

  size' : length (overlaid b at (o ∷ body)) ≡ length b
  size' = length-overlaid b at (o ∷ body) fits_both

  before : (i : ℕ) → i < at → get_or (overlaid with_body at (o ∷ [])) i 0 ≡ get_or (overlaid b at (o ∷ body)) i 0
  before i low = overlaid_outside with_body at (o ∷ []) fits_gate i (inl low)
      ∙ overlaid_outside b (at + 1) body fits i (inl (omega arith))
      ∙ sym (overlaid_outside b at (o ∷ body) fits_both i (inl low))

  here : get_or (overlaid with_body at (o ∷ [])) at 0 ≡ get_or (overlaid b at (o ∷ body)) at 0
  here =
      let none : at - at ≡ 0 = omega arith in
      overlaid_inside with_body at (o ∷ []) fits_gate at (omega arith) (omega arith)
      ∙ ap (λ (k : ℕ). get_or (o ∷ []) k 0) none
      ∙ sym (ap (λ (k : ℕ). get_or (o ∷ body) k 0) none)
      ∙ sym (overlaid_inside b at (o ∷ body) fits_both at (omega arith) (omega arith))

  behind : (i : ℕ) → at < i → get_or (overlaid with_body at (o ∷ [])) i 0 ≡ get_or (overlaid b at (o ∷ body)) i 0
  behind i high = overlaid_outside with_body at (o ∷ []) fits_gate i (inr (omega arith)) ∙ ⊎_elim
      (λ (in_body : i < at + 1 + length body).
      let next : i - at ≡ suc (i - (at + 1)) = omega arith in
      overlaid_inside b (at + 1) body fits i (omega arith) in_body
      ∙ sym (ap (λ (k : ℕ). get_or (o ∷ body) k 0) next)
      ∙ sym (overlaid_inside b at (o ∷ body) fits_both i (omega arith) (omega arith)))
      (λ (past_it : at + 1 + length body ≤ i). overlaid_outside b (at + 1) body fits i (inr past_it)
      ∙ sym (overlaid_outside b at (o ∷ body) fits_both i (inr (omega arith))))
      (cases_lt i (at + 1 + length body))

  each : (i : ℕ) → i < length (overlaid with_body at (o ∷ [])) → get_or (overlaid with_body at (o ∷ [])) i 0
      ≡ get_or (overlaid b at (o ∷ body)) i 0
  each i lt = ⊎_elim (before i)
      (λ (ge : at ≤ i). ⊎_elim
      (λ (is : i ≡ at). subst
      (λ (k : ℕ). get_or (overlaid with_body at (o ∷ [])) k 0 ≡ get_or (overlaid b at (o ∷ body)) k 0) (sym is) here)
      (λ (other : i ≢ at). behind i (omega (arith, ge, other))) (cases_eq i at)) (cases_lt i at)

  -- are the bytes at once
  pub body_and_gate : overlaid (overlaid b (at + 1) body) at (o ∷ []) ≡ overlaid b at (o ∷ body)
  body_and_gate = ext_get_or 0 (overlaid (overlaid b (at + 1) body) at (o ∷ [])) (overlaid b at (o ∷ body))
      (size ∙ sym size') each

-- bytes are to be written where the gate is closed: a body behind the gate, and the gate
pub record IsReady (at : ℕ) (bytes : List ℕ) (m0 : Moment) (body : List ℕ) : Type 0 where
  pub is : bytes ≡ open_gate ∷ body
  pub closed : IsClosed at (length bytes) m0

-- the bytes behind the first one, as code takes them
pub behind_first : (bytes : List ℕ) → get_or bytes 0 0 ≡ open_gate → bytes
    ≡ open_gate ∷ take (length bytes - 1) (drop 1 bytes)
behind_first [] none = absurd (omega (arith, none))
behind_first (x ∷ body) is = (λ i. is i ∷ all i)
  where
    all : body ≡ take (length (x ∷ body) - 1) body
    all = sym (take_all (length (x ∷ body) - 1) body (omega arith))

module _ {at : ℕ} {bytes : List ℕ} {m0 : Moment} {body : List ℕ} (r : IsReady at bytes m0 body) where
  long : length bytes ≡ suc (length body)
  long = ap length r.is

  fits_body : at + 1 + length body ≤ length m0.bytes
  fits_body = omega (arith, long, r.closed.inside)

  unchanged : (c : List ℕ) → Left m0 c → MayWrite at bytes m0 c
  unchanged c left = record {
    from = c;
    left = left;
    same = record { size = refl; same = λ i out. refl };
    gated = inl
        (r.closed.shut c left);
  }

  body_torn : (m1 : Moment) → Torn (at + 1) (length body) m0 m1 → (c : List ℕ) → Left m1 c → MayWrite at bytes m0 c
  body_torn m1 torn c left =
      let from : (d : List ℕ) × Left m0 d
      × SameBut (at + 1) (length body) d c = left_torn (at + 1) (length body) m0 m1 fits_body torn c left in
      record {
        from = from.0;
        left = from.1;
        same = record {
          size = from.2.size;
          same = λ i out. from.2.same i
              (⊎_elim (λ (low : i < at). inl (omega arith))
              (λ (high : at + length bytes ≤ i). inr (omega (arith, long))) out);
        };
        gated = inl (λ e. r.closed.shut from.0 from.1 (sym (from.2.same at (inl (omega arith))) ∙ e));
      }

  -- the body may be torn, behind a closed gate
  pub body_written : (m1 : Moment) (past past1 : List Moment)
      → MayTick (Torn (at + 1) (length body)) m0 m1 past past1 → (c : List ℕ) → Left m1 c → MayWrite at bytes m0 c
  body_written m1 past past1 (inl same) c left = unchanged c (subst (λ (m : Moment). Left m c) same.0 left)
  body_written m1 past past1 (inr tick) c left = body_torn m1 tick.now c left

  -- the bytes once the body is on the disk
  abbrev staged : List ℕ
  staged = overlaid m0.bytes (at + 1) body

  staged_size : length staged ≡ length m0.bytes
  staged_size = length-overlaid m0.bytes (at + 1) body fits_body

  -- then only the gate's byte can change
  gate_same : (c : List ℕ) → SameBut at 1 staged c → SameBut at (length bytes) m0.bytes c
  gate_same c same = record {
    size = same.size ∙ staged_size;
    same = λ i out. ⊎_elim
        (λ (low : i < at). same.same i (inl low)
        ∙ overlaid_outside m0.bytes (at + 1) body fits_body i (inl (omega arith)))
        (λ (high : at + length bytes ≤ i). same.same i (inr (omega (arith, long)))
        ∙ overlaid_outside m0.bytes (at + 1) body fits_body i (inr (omega (arith, long))))
        out;
  }

  each_there : (c : List ℕ) → SameBut at 1 staged c → get_or c at 0 ≡ open_gate → (k : ℕ) → k < length bytes
      → get_or c (at + k) 0 ≡ get_or bytes k 0
  each_there c same open_here zero lt = ap (λ (i : ℕ). get_or c i 0) (omega arith) ∙ open_here
      ∙ sym (ap (λ (l : List ℕ). get_or l 0 0) r.is)
  each_there c same open_here (suc k) lt =
      same.same (at + suc k) (inr (omega arith))
      ∙ overlaid_inside m0.bytes (at + 1) body fits_body (at + suc k) (omega arith) (omega (arith, long, lt))
      ∙ ap (λ (i : ℕ). get_or body i 0) (omega arith)
      ∙ sym (ap (λ (l : List ℕ). get_or l (suc k) 0) r.is)

  all_there : (c : List ℕ) → SameBut at 1 staged c → get_or c at 0 ≡ open_gate → HasThere at bytes c
  all_there c same open_here = ext_get_or 0 (take (length bytes) (drop at c)) bytes size (λ i lt.
      let short : i < length bytes = omega (arith, lt, size) in
      get_or-take (length bytes) (drop at c) i 0 short ∙ get_or-drop at c i 0 ∙ each_there c same open_here i short)
    where
      size : length (take (length bytes) (drop at c)) ≡ length bytes
      size = omega (
        arith,
        length-take (length bytes)
            (drop at c),
        length-drop at c,
        same.size,
        staged_size,
        long,
        fits_body,
      )

  gate_torn : (c : List ℕ) → SameBut at 1 staged c → MayWrite at bytes m0 c
  gate_torn c same = record {
    from = m0.bytes;
    left = left_now m0;
    same = gate_same c same;
    gated = ⊎_elim
        (λ (open_here : get_or c at 0 ≡ open_gate). inr (all_there c same open_here))
        (λ (shut : get_or c at 0 ≢ open_gate). inl shut)
        (cases_eq (get_or c at 0) open_gate);
  }

  -- what the opening of the gate may leave
  pub gate_opens : (m1 : Moment) → m1 ≡ written (at + 1) body m0 → LeavesNow m1 (MayWrite at bytes m0) → (c : List ℕ)
      → MayOpen at m1 c → MayWrite at bytes m0 c
  gate_opens m1 is_written before c (inl left) = before c left
  gate_opens m1 is_written before c (inr but) = gate_torn c
      (subst (λ (m : Moment). SameBut at 1 m.bytes c) is_written but)

  pub written_by : (m1 m2 : Moment) → m1 ≡ written (at + 1) body m0 → m2 ≡ synced (written at (open_gate ∷ []) m1)
      → m2 ≡ synced (written at bytes m0)
  written_by m1 m2 first second =
      second
      ∙ ap (λ (m : Moment). synced (written at (open_gate ∷ []) m)) first
      ∙ ap settled_bytes (body_and_gate m0.bytes body at open_gate fits_body)
      ∙ ap (λ (l : List ℕ). settled_bytes (overlaid m0.bytes at l)) (sym r.is)
    where
      settled_bytes : List ℕ → Moment
      settled_bytes l = record { bytes = l; ranges = [] }

-- the same of a disk: the body, and then the opening of the gate
module _ {D : Type 0} (now : D → Moment) (past : D → List Moment) {at : ℕ} {bytes : List ℕ} {body : List ℕ} (d0 : D)
    (r : IsReady at bytes (now d0) body)
    (d1 : D) (tick : MayTick (Torn (at + 1) (length body)) (now d0) (now d1) (past d0) (past d1)) where
  abbrev Writes : List ℕ → Type 0
  Writes = MayWrite at bytes (now d0)

  pub write1 : LeavesOnly now past d0 d1 Writes
  write1 = record {
    within = leaves_step (now d0) (now d0) (now d1) (past d0) (past d0) (past d1) Writes
        (Torn (at + 1) (length body)) (leaves_start (now d0) (past d0) Writes) tick after1;
    after = after1;
  }
    where
      after1 : LeavesNow (now d1) Writes
      after1 = body_written r (now d1) (past d0) (past d1) tick

  pub write2 : now d1 ≡ written (at + 1) body (now d0) → (d2 : D) → LeavesOnly now past d1 d2 (MayOpen at (now d1))
      → LeavesOnly now past d0 d2 Writes
  write2 is_written d2 opens = record {
    within = leaves_then (now d0) (now d1) (now d2) (past d0) (past d1) (past d2) Writes
        (MayOpen at (now d1)) Writes write1.within opens.within (λ c may. may)
        (gate_opens r (now d1) is_written write1.after);
    after = λ c left. gate_opens r (now d1) is_written write1.after c (opens.after c left);
  }

-- bytes that are written and synced
module _ (at : ℕ) (bytes : List ℕ) (m m' : Moment) (inside : at + length bytes ≤ length m.bytes)
    (is : m' ≡ synced (written at bytes m)) where
  pub done_is : (c : List ℕ) → Left m' c → c ≡ overlaid m.bytes at bytes
  done_is c left = left_synced (written at bytes m) c (subst (λ (x : Moment). Left x c) is left)

  same_there : (c : List ℕ) → c ≡ overlaid m.bytes at bytes → SameBut at (length bytes) m.bytes c
  same_there c e = record {
    size = ap length e ∙ length-overlaid m.bytes at bytes inside;
    same = λ i out. ap (λ (l : List ℕ). get_or l i 0) e ∙ overlaid_outside m.bytes at bytes inside i out;
  }

  pub done_same : LeavesNow m' (SameBut at (length bytes) m.bytes)
  done_same c left = same_there c (done_is c left)

  pub done_there : LeavesNow m' (HasThere at bytes)
  done_there c left = ap (λ (l : List ℕ). take (length bytes) (drop at l)) (done_is c left)
      ∙ overlaid_part m.bytes at bytes inside

  pub done_kept : SameBut at (length bytes) m.bytes m'.bytes
  done_kept = same_there m'.bytes (ap (λ (x : Moment). x.bytes) is)

  pub done_calm : m'.ranges ≡ []
  done_calm = ap (λ (x : Moment). x.ranges) is
