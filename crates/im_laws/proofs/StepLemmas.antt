-- What is kept for a new request, and after many answers.
use Rattle.std.proofs.Common.{◌≡◌, ℕ, zero, suc, ◌+◌, ◌-◌, ◌<◌, ◌≤◌, Bool, true, false, cond, ◌||◌, List, [], ◌∷◌, map}
use Rattle.std.proofs.Common.{length, nat_lt, slice_get, Some, None, Ok, Err, Option, option_map, option_and_then, sym}
use Rattle.std.proofs.Common.{refl, ap, ◌∙◌, ⊎_elim, arith}
use Rattle.std.proofs.lemmas.Bool.Decides.{nat_tests}
use Rattle.im_types.specs.Types.{Reply, Waiter, Kept, Request, Fresh, Repeat, Gap, Forgotten, WindowFull, Mismatch}
use Rattle.im_types.specs.Types.{WINDOW, LAST, Window, kept_under, kept_for, same_waiter, times, next_number, same_op}
use Rattle.im_types.specs.Types.{judge_number, judge_window, judge, answer, answer_each, is_waiting, asker}
use Rattle.im_laws.proofs.AgreementLemmas.{IsQuiet, same_waiter-self}
use Rattle.im_laws.proofs.Tests.{true_or_false, zero_or_more}
use Rattle.im_laws.proofs.WindowLemmas.{answered_kept, kept_for-answer, kept_for-window}

-- a request that is new: its element has a window with room, and its number is the next and none past the last
pub record IsNext (windows : List Window) (r : Request) : Type 0 where
  pub window : Window
  pub there : slice_get windows r.element ≡ Some window
  pub next : r.number ≡ window.base + length window.kept
  pub room : length window.kept < WINDOW
  pub to_last : r.number ≤ LAST

slice_get-past : (kept : List Kept) (place : ℕ) → slice_get kept place ≡ None → length kept ≤ place
slice_get-past [] place e = omega arith
slice_get-past (k ∷ kept) zero e = absurd (cc)
slice_get-past (k ∷ kept) (suc place) e = let h = slice_get-past kept place e in omega arith

number_is_next : (windows : List Window) (w : Window) (r : Request) → slice_get windows r.element ≡ Some w
    → w.base ≤ r.number
    → (o : Option Kept) → slice_get w.kept (r.number - w.base) ≡ o → judge_number w r o ≡ Ok Fresh → IsNext windows r
number_is_next windows w r there from (Some k) at e = absurd (by_test (same_op k.op r.op) e)
  where
    by_test : (b : Bool) → cond b (Ok (Repeat k.entry)) (Err Mismatch) ≡ Ok Fresh → ⊥
    by_test true e = cc
    by_test false e = cc
number_is_next windows w r there from None at e = by_tests (nat_lt (next_number w) r.number) refl
    (nat_lt LAST r.number) refl (nat_lt (length w.kept) WINDOW) refl e
  where
    by_tests : (far : Bool) → nat_lt (next_number w) r.number ≡ far → (last : Bool) → nat_lt LAST r.number ≡ last
        → (room : Bool)
        → nat_lt (length w.kept) WINDOW ≡ room
        → cond (far || last) (Err Gap) (cond room (Ok Fresh) (Err WindowFull)) ≡ Ok Fresh → IsNext windows r
    by_tests true f last l room t e = absurd (cc)
    by_tests false f true l room t e = absurd (cc)
    by_tests false f false l false t e = absurd (cc)
    by_tests false f false l true t e =
        let past = slice_get-past w.kept (r.number - w.base) at in
        let near : r.number ≤ w.base + length w.kept = grind (arith, nat_tests) in
        record {
          window = w;
          there = there;
          next = omega arith;
          room = grind (arith, nat_tests);
          to_last = grind
              (arith, nat_tests);
        }

pub judge-fresh : (windows : List Window) (r : Request) → judge windows r ≡ Ok Fresh → IsNext windows r
judge-fresh windows r e = by_window (slice_get windows r.element) refl e
  where
    by_test : (w : Window) → slice_get windows r.element ≡ Some w → (b : Bool) → nat_lt r.number w.base ≡ b
        → cond b (Err Forgotten) (judge_number w r (slice_get w.kept (r.number - w.base))) ≡ Ok Fresh → IsNext windows r
    by_test w at true t e = absurd (cc)
    by_test w at false t e =
        let from : w.base ≤ r.number = grind (arith, nat_tests) in
        number_is_next windows w r at from (slice_get w.kept (r.number - w.base)) refl e

    by_window : (o : Option Window) → slice_get windows r.element ≡ o → judge_window r o ≡ Ok Fresh → IsNext windows r
    by_window None at e = absurd (cc)
    by_window (Some w) at e = by_test w at (nat_lt r.number w.base) refl e

-- a new request isn't kept yet
pub slice_get-end : (kept : List Kept) (place : ℕ) → length kept ≤ place → slice_get kept place ≡ None
slice_get-end [] place h = refl
slice_get-end (k ∷ kept) zero h = absurd (omega arith)
slice_get-end (k ∷ kept) (suc place) h = slice_get-end kept place (omega arith)

pub kept_for-next : (windows : List Window) (r : Request) → IsNext windows r → kept_for windows (asker r) ≡ None
kept_for-next windows r n =
    let t : nat_lt r.number n.window.base ≡ false = let e = n.next in grind (arith, nat_tests) in
    ap (option_and_then (λ w. kept_under w r.number)) n.there
    ∙ ap (λ b. cond b None (slice_get n.window.kept (r.number - n.window.base))) t
    ∙ slice_get-end n.window.kept (r.number - n.window.base) (let e = n.next in omega arith)

answered_twice : (reply : Reply) (kept : Option Kept)
    → option_map (answered_kept reply) (option_map (answered_kept reply) kept) ≡ option_map (answered_kept reply) kept
answered_twice reply None = refl
answered_twice reply (Some k) = refl

pub answered_quiet : (reply : Reply) (kept : Option Kept) → IsQuiet (option_map (answered_kept reply) kept)
answered_quiet reply None k e = absurd (cc)
answered_quiet reply (Some x) k e = let same : answered_kept reply x ≡ k = cc in sym (ap is_waiting same)

-- one answer: the entry of another request stays, and that of the request is answered
pub answer-other : (windows : List Window) (other : Waiter) (reply : Reply) (k : Kept) → kept_for windows other
    ≡ Some k → (who : Waiter)
    → same_waiter who other ≡ false → kept_for (answer windows other reply) who ≡ kept_for windows who
answer-other windows other reply k is who e =
    let w = kept_for-window windows other k is in
    kept_for-answer windows other reply w.0 who w.1 w.2
    ∙ ap (λ b. cond b (option_map (answered_kept reply) (kept_for windows who)) (kept_for windows who)) e

pub answer-same : (windows : List Window) (other : Waiter) (reply : Reply) (k : Kept) → kept_for windows other
    ≡ Some k → (who : Waiter)
    → same_waiter who other ≡ true
    → kept_for (answer windows other reply) who ≡ option_map (answered_kept reply) (kept_for windows who)
answer-same windows other reply k is who e =
    let w = kept_for-window windows other k is in
    kept_for-answer windows other reply w.0 who w.1 w.2
    ∙ ap (λ b. cond b (option_map (answered_kept reply) (kept_for windows who)) (kept_for windows who)) e

-- something is kept for each of these
abbrev pub AreKept : List Window → List Waiter → Type 0
AreKept windows waiters = (who : Waiter) → 1 ≤ times who waiters → (k : Kept) × (kept_for windows who ≡ Some k)

-- after all these answers: others keep their entries, and these are answered
pub record AfterAnswers (before after : List Window) (reply : Reply) (waiters : List Waiter)
    (who : Waiter) : Type 0 where
  pub stays : times who waiters ≡ 0 → kept_for after who ≡ kept_for before who
  pub given : 1 ≤ times who waiters → kept_for after who ≡ option_map (answered_kept reply) (kept_for before who)

times-here : (who other : Waiter) (others : List Waiter) → same_waiter who other ≡ true → times who (other ∷ others)
    ≡ suc (times who others)
times-here who other others e = ap (λ b. cond b (suc (times who others)) (times who others)) e

times-there : (who other : Waiter) (others : List Waiter) → same_waiter who other ≡ false
    → times who (other ∷ others) ≡ times who others
times-there who other others e = ap (λ b. cond b (suc (times who others)) (times who others)) e

some_more : (windows : List Window) (who other : Waiter) (others : List Waiter) → AreKept windows (other ∷ others)
    → 1 ≤ times who others
    → (k : Kept) × (kept_for windows who ≡ Some k)
some_more windows who other others are h = are who
    (⊎_elim (λ e. omega (arith, times-here who other others e)) (λ e. omega (arith, times-there who other others e))
    (true_or_false (same_waiter who other)))

pub answer_each-AfterAnswers : (windows : List Window) (reply : Reply) (waiters : List Waiter)
    → AreKept windows waiters → (who : Waiter)
    → AfterAnswers windows (answer_each windows (map (λ w. (w, reply)) waiters)) reply waiters who
answer_each-AfterAnswers windows reply [] are who = record { stays = λ e. refl; given = λ h. absurd (omega arith) }
answer_each-AfterAnswers windows reply (other ∷ others) are who =
    let first : (k : Kept)
    × (kept_for windows other ≡ Some k) = are other
    (omega (arith, times-here other other others (same_waiter-self other))) in
    let next : List Window = answer windows other reply in
    let still : AreKept next others = λ v h. ⊎_elim
    (λ e. let k = some_more windows v other others are h in (
      answered_kept reply k.0,
      answer-same windows other reply first.0 first.1 v e
          ∙ ap (option_map (answered_kept reply)) k.1,
    ))
    (λ e. let k = some_more windows v other others are h in
    (k.0, answer-other windows other reply first.0 first.1 v e ∙ k.1))
    (true_or_false (same_waiter v other)) in
    let later = answer_each-AfterAnswers next reply others still who in
    ⊎_elim
    (λ e. record {
      stays = λ none. absurd (let t = times-here who other others e in omega arith);
      given = λ h. ⊎_elim
          (λ none. later.stays none ∙ answer-same windows other reply first.0 first.1 who e)
          (λ some. later.given some
          ∙ ap (option_map (answered_kept reply)) (answer-same windows other reply first.0 first.1 who e)
          ∙ answered_twice reply (kept_for windows who))
          (zero_or_more (times who others));
    })
    (λ e. record {
      stays = λ none. later.stays (sym (times-there who other others e) ∙ none)
          ∙ answer-other windows other reply first.0 first.1 who e;
      given = λ h. later.given (let t = times-there who other others e in omega arith)
          ∙ ap (option_map (answered_kept reply)) (answer-other windows other reply first.0 first.1 who e);
    })
    (true_or_false (same_waiter who other))
