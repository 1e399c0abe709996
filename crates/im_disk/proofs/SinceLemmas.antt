-- Laws of what a run of calls may leave, for the proofs of callers.
use Rattle.std.proofs.Common.{◌≡◌, ℕ, ◌+◌, ◌-◌, ◌<◌, ◌≤◌, ◌⊎◌, List, [], ◌∷◌, length, take, drop, sym, refl, ap, ◌∙◌}
use Rattle.std.proofs.Common.{subst, inl, inr, ⊎_elim, arith, length-drop, length-take, get_or-drop, get_or-take}
use Rattle.std.proofs.Common.{ext_get_or}
use Rattle.std.{specs.Prelude.get_or, proofs.lemmas.Bool.cases_lt}
use Rattle.im_disk.proofs.OverlayLemmas.{length-overlaid, overlaid_inside, overlaid_outside}
use Rattle.im_disk.specs.Moment.{Left, LeftSince, MayTick, Moment, Outside, overlaid, Shaken, synced, Torn}
use Rattle.im_disk.specs.Since.{Leaves, LeavesNow, LeavesOnly, ReadsOnly, SameBut}

none_before : (past : List Moment) (t : ℕ) (c : List ℕ) → length past ≤ t → LeftSince past t c → ⊥
none_before [] t c le left = left
none_before (m ∷ past) t c le (inl now) = let low : t ≤ length past = now.0 in absurd (omega arith)
none_before (m ∷ past) t c le (inr earlier) = none_before past t c (omega arith) earlier

-- since this moment there is no other
pub only_now : (m : Moment) (past : List Moment) (c : List ℕ) → LeftSince (m ∷ past) (length past) c → Left m c
only_now m past c (inl now) = now.1
only_now m past c (inr earlier) = absurd (none_before past (length past) c (omega arith) earlier)

pub left_now : (m : Moment) → Left m m.bytes
left_now m = record { size = refl; same = λ i out. refl }

pub leaves_start : (m : Moment) (past : List Moment) (P : List ℕ → Type 0) → Leaves m m past past P
leaves_start m past P = record { later = omega arith; each = λ t c le left. inl left }

pub leaves_step : (old mid new : Moment) (past past_mid past_new : List Moment) (P : List ℕ → Type 0)
    (step : Moment → Moment → Type 0) → Leaves old mid past past_mid P → MayTick step mid new past_mid past_new
    → ((c : List ℕ) → Left new c → P c) → Leaves old new past past_new P
leaves_step old mid new past past_mid past_new P step so_far (inl same) here =
    let e : new ∷ past_new ≡ mid ∷ past_mid = (λ i. same.0 i ∷ same.1 i) in
    record {
      later = subst (λ (l : List Moment). length past ≤ length l) (sym same.1) so_far.later;
      each = λ t c le left. so_far.each t c le (subst (λ (l : List Moment). LeftSince l t c) e left);
    }
leaves_step old mid new past past_mid past_new P step so_far (inr tick) here =
    record {
      later = let so : length past ≤ length past_mid = so_far.later in let e : length past_new
          ≡ length (mid ∷ past_mid) = ap length tick.past in omega arith;
      each = λ t c le left. ⊎_elim (λ now. inr (here c now.1))
          (λ earlier. so_far.each t c le (subst (λ (l : List Moment). LeftSince l t c) tick.past earlier)) left;
    }

abbrev restored : ℕ → ℕ → Moment → List ℕ → List ℕ
restored at n m c = overlaid c at (take n (drop at m.bytes))

-- what a torn write may leave is what could be left before it, but for its range
pub left_torn : (at n : ℕ) (m m' : Moment) → at + n ≤ length m.bytes → Torn at n m m' → (c : List ℕ) → Left m' c
    → (d : List ℕ) × Left m d × SameBut at n d c
left_torn at n m m' fits torn c left = (
  restored at n m c,
  record {
    size = size_d
        ∙ size_c;
    same = same_d;
  },
  record {
    size = sym size_d;
    same = λ i out. sym
        (overlaid_outside c at (take n (drop at m.bytes)) fits_c i (wide i out));
  },
)
  where
    size_c : length c ≡ length m.bytes
    size_c = left.size ∙ torn.size

    size_part : length (take n (drop at m.bytes)) ≡ n
    size_part = omega (arith, length-take n (drop at m.bytes), length-drop at m.bytes)

    fits_c : at + length (take n (drop at m.bytes)) ≤ length c
    fits_c = omega (arith, size_c, size_part)

    size_d : length (restored at n m c) ≡ length c
    size_d = length-overlaid c at (take n (drop at m.bytes)) fits_c

    wide : (i : ℕ) → (i < at) ⊎ (at + n ≤ i) → (i < at) ⊎ (at + length (take n (drop at m.bytes)) ≤ i)
    wide i (inl low) = inl low
    wide i (inr high) = inr (omega (arith, size_part))

    outside : (i : ℕ) → (i < at) ⊎ (at + n ≤ i) → Outside m.ranges i → get_or (restored at n m c) i 0
        ≡ get_or m.bytes i 0
    outside i here out = overlaid_outside c at (take n (drop at m.bytes)) fits_c i (wide i here)
        ∙ left.same i (subst (λ (r : List (ℕ × ℕ)). Outside r i) (sym torn.ranges) (here, out)) ∙ torn.same i here

    inside : (i : ℕ) → at ≤ i → i < at + n → get_or (restored at n m c) i 0 ≡ get_or m.bytes i 0
    inside i low high =
        overlaid_inside c at (take n (drop at m.bytes)) fits_c i low (omega (arith, size_part))
        ∙ get_or-take n (drop at m.bytes) (i - at) 0 (omega arith)
        ∙ get_or-drop at m.bytes (i - at) 0
        ∙ ap (λ (k : ℕ). get_or m.bytes k 0) (omega arith)

    same_d : (i : ℕ) → Outside m.ranges i → get_or (restored at n m c) i 0 ≡ get_or m.bytes i 0
    same_d i out = ⊎_elim (λ low. outside i (inl low) out)
        (λ ge. ⊎_elim (λ high. inside i ge high) (λ high. outside i (inr high) out) (cases_lt i (at + n)))
        (cases_lt i at)

-- after a sync there is one file
pub left_synced : (m : Moment) (c : List ℕ) → Left (synced m) c → c ≡ m.bytes
left_synced m c left = ext_get_or 0 c m.bytes left.size (λ i lt. left.same i tt)

-- the same of a moment with no range
pub left_settled : (m : Moment) (c : List ℕ) → m.ranges ≡ [] → Left m c → c ≡ m.bytes
left_settled m c none left = ext_get_or 0 c m.bytes left.size
    (λ i lt. left.same i (subst (λ (r : List (ℕ × ℕ)). Outside r i) (sym none) tt))

-- a sync, failed or not, leaves no file that couldn't be left before it
pub left_shaken : (m m' : Moment) → Shaken m m' → (c : List ℕ) → Left m' c → Left m c
left_shaken m m' shaken c left = ⊎_elim
    (λ same. record {
      size = left.size
          ∙ shaken.size;
      same = λ i out. left.same i (subst (λ (r : List (ℕ × ℕ)). Outside r i) (sym same) out)
          ∙ shaken.same i out;
    })
    (λ done. subst (Left m) (sym (left_synced m c (subst (λ (x : Moment). Left x c) done left))) (left_now m))
    shaken.ranges

-- the same where the call may have done nothing
pub left_sync : (m m' : Moment) (past past' : List Moment) → MayTick Shaken m m' past past' → (c : List ℕ)
    → Left m' c → Left m c
left_sync m m' past past' (inl same) c left = subst (λ (x : Moment). Left x c) same.0 left
left_sync m m' past past' (inr tick) c left = left_shaken m m' tick.now c left

pub reads_then : (old mid new : Moment) (past past_mid past_new : List Moment) → ReadsOnly old mid past past_mid
    → ReadsOnly mid new past_mid past_new → ReadsOnly old new past past_new
reads_then old mid new past past_mid past_new first second = record {
  now = second.now ∙ first.now;
  leaves = record {
    later = let a : length past ≤ length past_mid = first.leaves.later in let b : length past_mid ≤ length past_new = second.leaves.later in omega arith;
    each = λ t c le left. ⊎_elim
        (λ earlier. first.leaves.each t c le earlier)
        (λ here. inr (subst (λ (x : Moment). Left x c) first.now here))
        (second.leaves.each t c (let a : length past ≤ length past_mid = first.leaves.later in omega arith) left);
  };
}

pub leaves_weaker : (old new : Moment) (past past_new : List Moment) (P Q : List ℕ → Type 0)
    → Leaves old new past past_new P → ((c : List ℕ) → P c → Q c) → Leaves old new past past_new Q
leaves_weaker old new past past_new P Q leaves weaker = record {
  later = leaves.later;
  each = λ t c le left. ⊎_elim
      (λ earlier. inl earlier) (λ here. inr (weaker c here)) (leaves.each t c le left);
}

-- the same of a disk, within the run and at its end
pub only_weaker : {D : Type 0} (now : D → Moment) (past : D → List Moment) (old new : D) (P Q : List ℕ → Type 0)
    → LeavesOnly now past old new P → ((c : List ℕ) → P c → Q c) → LeavesOnly now past old new Q
only_weaker now past old new P Q only weaker = record {
  within = leaves_weaker (now old) (now new) (past old) (past new) P Q only.within weaker;
  after = λ c left. weaker c (only.after c left);
}

-- two runs of calls, one after the other
pub leaves_then : (old mid new : Moment) (past past_mid past_new : List Moment) (P Q R : List ℕ → Type 0)
    → Leaves old mid past past_mid P → Leaves mid new past_mid past_new Q → ((c : List ℕ) → P c → R c)
    → ((c : List ℕ) → Q c → R c) → Leaves old new past past_new R
leaves_then old mid new past past_mid past_new P Q R first second weaker_p weaker_q = record {
  later = let a : length past ≤ length past_mid = first.later in let b : length past_mid ≤ length past_new = second.later in omega arith;
  each = λ t c le left. ⊎_elim
      (λ earlier. ⊎_elim (λ before. inl before) (λ here. inr (weaker_p c here)) (first.each t c le earlier))
      (λ here. inr (weaker_q c here))
      (second.each t c (let a : length past ≤ length past_mid = first.later in omega arith) left);
}

-- At its end a run that leaves only P leaves now what has P, or what could be left at its start.
pub leaves_now : (old new : Moment) (past past_new : List Moment) (P : List ℕ → Type 0)
    → Leaves old new past past_new P → LeavesNow new (λ c. Left old c ⊎ P c)
leaves_now old new past past_new P leaves c left = ⊎_elim (λ earlier. inl (only_now old past c earlier))
    (λ here. inr here) (leaves.each (length past) c (omega arith) (inl (leaves.later, left)))

-- after a sync that succeeded, what its one file has
pub leaves_now_synced : (m m' : Moment) (P : List ℕ → Type 0) → m' ≡ synced m → P m.bytes → LeavesNow m' P
leaves_now_synced m m' P is has c left = subst P (sym (left_synced m c (subst (λ (x : Moment). Left x c) is left))) has
