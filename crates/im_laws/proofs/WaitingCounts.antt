-- How many requests wait: each has a Waiting entry of its own, and a window has few entries.
use Rattle.std.proofs.Common.{◌≡◌, ℕ, zero, suc, ◌+◌, ◌-◌, ◌*◌, ◌<◌, ◌≤◌, true, false, ◌≢◌, List, [], ◌∷◌, length, set}
use Rattle.std.proofs.Common.{slice_get, Some, None, Option, sym, refl, ap, ◌∙◌, arith}
use Rattle.im_types.specs.Types.{Reply, Waiter, Kept, WINDOW, Held, Window, held_at, kept_for, IsWindow, waits_in}
use Rattle.im_types.specs.Types.{answer_at, answer_in, answer, is_waiting}
use Rattle.im_laws.proofs.AgreementLemmas.{one_if, waits_for-kept, waits_in-other}
use Rattle.im_laws.proofs.StepAgrees.{one_if-most}
use Rattle.im_laws.proofs.WindowLemmas.{kept_for-here, kept_for-window, kept_under-from, window_at}

-- how many of these entries are Waiting
pub waiting_count : List Kept → ℕ
waiting_count [] = 0
waiting_count (k ∷ kept) = one_if (is_waiting k) + waiting_count kept

pub waiting_counts : List Window → ℕ
waiting_counts [] = 0
waiting_counts (w ∷ windows) = waiting_count w.kept + waiting_counts windows

waiting_count-most : (kept : List Kept) → waiting_count kept ≤ length kept
unfolding waiting_count
waiting_count-most [] = omega arith
waiting_count-most (k ∷ kept) = omega (arith, one_if-most (is_waiting k), waiting_count-most kept)

pub waiting_counts-most : (windows : List Window)
    → ((element : ℕ) (w : Window) → slice_get windows element ≡ Some w → IsWindow w)
    → waiting_counts windows ≤ WINDOW * length windows
unfolding waiting_counts
waiting_counts-most [] are = omega arith
waiting_counts-most (w ∷ windows) are =
    let few = (are 0 w refl).few in
    omega (arith, waiting_count-most w.kept, waiting_counts-most windows (λ element v at. are (suc element) v at))

-- with room for one more
pub waiting_counts-less : (windows : List Window)
    → ((element : ℕ) (w : Window) → slice_get windows element ≡ Some w → IsWindow w)
    → (element : ℕ) (w : Window) → slice_get windows element ≡ Some w → length w.kept < WINDOW
    → waiting_counts windows < WINDOW * length windows
unfolding waiting_counts
waiting_counts-less [] are element w at room = absurd (cc)
waiting_counts-less (v ∷ windows) are zero w at room =
    let same : v ≡ w = cc in
    let kept = ap (λ (w : Window). length w.kept) same in
    omega (arith, waiting_count-most v.kept, waiting_counts-most windows (λ element v at. are (suc element) v at))
waiting_counts-less (v ∷ windows) are (suc element) w at room =
    let few = (are 0 v refl).few in
    omega (
      arith,
      waiting_count-most v.kept,
      waiting_counts-less windows
          (λ element v at. are (suc element) v at) element w at room,
    )

-- an answer leaves one Waiting entry less
waiting_count-answer_at : (kept : List Kept) (place : ℕ) (reply : Reply) (k : Kept) → slice_get kept place ≡ Some k
    → is_waiting k ≡ true → waiting_count kept ≡ suc (waiting_count (answer_at place reply kept))
unfolding waiting_count
waiting_count-answer_at [] place reply k at waits = absurd (cc)
waiting_count-answer_at (j ∷ kept) zero reply k at waits =
    let same : j ≡ k = cc in
    let one : one_if (is_waiting j) ≡ 1 = ap (λ k. one_if (is_waiting k)) same ∙ ap one_if waits in
    omega arith
waiting_count-answer_at (j ∷ kept)
    (suc place) reply k at waits = let h = waiting_count-answer_at kept place reply k at waits in omega arith

waiting_counts-set : (windows : List Window) (element : ℕ) (w new : Window) → slice_get windows element ≡ Some w
    → waiting_count w.kept ≡ suc (waiting_count new.kept)
    → waiting_counts windows ≡ suc (waiting_counts (set windows element new))
unfolding waiting_counts
waiting_counts-set [] element w new at less = absurd (cc)
waiting_counts-set (v ∷ windows) zero w new at less =
    let same : v ≡ w = cc in
    let kept = ap (λ (w : Window). waiting_count w.kept) same in
    omega arith
waiting_counts-set (v ∷ windows)
    (suc element) w new at less = let h = waiting_counts-set windows element w new at less in omega arith

pub waiting_counts-answer : (windows : List Window) (who : Waiter) (reply : Reply) (k : Kept) → kept_for windows who
    ≡ Some k → is_waiting k ≡ true
    → waiting_counts windows ≡ suc (waiting_counts (answer windows who reply))
waiting_counts-answer windows who reply k is waits =
    let w = kept_for-window windows who k is in
    let at : slice_get w.0.kept (who.number - w.0.base) ≡ Some k = sym (kept_under-from w.0 who.number w.2)
    ∙ sym (kept_for-here windows who.element w.0 who w.1 refl) ∙ is in
    waiting_counts-set windows who.element w.0 (answer_in who.number reply w.0) w.1
    (waiting_count-answer_at w.0.kept (who.number - w.0.base) reply k at waits)
    ∙ ap (λ w. suc (waiting_counts (set windows who.element (answer_in who.number reply w))))
    (sym (window_at windows who.element w.0 w.1))

-- who waits for a cell has a Waiting entry, and waits for no other cell
pub record AwaitsOne (cells : List (Option Held)) (a : ℕ) (kept : Option Kept) : Type 0 where
  pub entry : Kept
  pub is : kept ≡ Some entry
  pub waits : is_waiting entry ≡ true
  pub no_other : (b : ℕ) → b ≢ a → waits_in b (held_at cells b) kept ≡ false

pub waits_in-AwaitsOne : (cells : List (Option Held)) (a : ℕ) (kept : Option Kept) (held : Option Held)
    → waits_in a held kept ≡ true → AwaitsOne cells a kept
waits_in-AwaitsOne cells a kept None e = absurd (cc)
waits_in-AwaitsOne cells a kept (Some held) e =
    let k = waits_for-kept held.block.kind a kept e in
    record {
      entry = k.0;
      is = k.1;
      waits = k.2;
      no_other = λ b n. waits_in-other held.block.kind a b
          (held_at cells b) kept n e;
    }
