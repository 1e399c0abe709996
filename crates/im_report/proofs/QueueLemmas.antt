-- How many requests can wait at one cell: each has a Waiting entry of its own, and a window has few entries. (Own.)
use Rattle.std.proofs.Common.{◌≡◌, ℕ, suc, ◌+◌, ◌≤◌, true, false, List, [], ◌∷◌, length, Option, ap, ◌∙◌, ⊎_elim, arith}
use Rattle.im_types.specs.Types.{Waiter, Stored, MAX_ELEMENTS, Held, Window, Contents, held_at, waiters_at, kept_for}
use Rattle.im_types.specs.Types.{IsMemory, same_waiter, times, waits_in, answer}
use Rattle.im_laws.proofs.AgreementLemmas.{one_if, same_waiter-equal, same_waiter-self}
use Rattle.im_laws.proofs.{StepAgrees.one_if-most, StepAgrees.one_if-true, StepLemmas.answer-other, Tests.true_or_false}
use Rattle.im_laws.proofs.WaitingCounts.{AwaitsOne, waiting_counts, waiting_counts-answer, waiting_counts-most}
use Rattle.im_laws.proofs.WaitingCounts.{waits_in-AwaitsOne}
use Rattle.im_memory.proofs.AnswerLemmas.{times-more, times-same}

module _ (cells : List (Option Held)) (a : ℕ) where
  -- a request stands in this list at most once, and only if its entry waits for the cell
  abbrev Awaits : List Waiter → List Window → Type 0
  Awaits waiters windows = (who : Waiter)
      → times who waiters ≤ one_if (waits_in a (held_at cells a) (kept_for windows who))

  module _ (w : Waiter) (waiters : List Waiter) (windows : List Window) (listed : Awaits (w ∷ waiters) windows) where
    -- the first one awaits the cell
    first : AwaitsOne cells a (kept_for windows w)
    first = waits_in-AwaitsOne cells a (kept_for windows w) (held_at cells a)
        (one_if-true _ (omega (arith, listed w, times-same w w waiters (same_waiter-self w))))

    gone : times w waiters ≤ 0
    gone = omega (
      arith,
      listed w,
      times-same w w waiters (same_waiter-self w),
      one_if-most (waits_in a (held_at cells a) (kept_for windows w)),
    )

    -- once it is answered the others still await theirs
    others : Awaits waiters (answer windows w Stored)
    others who = ⊎_elim same other (true_or_false (same_waiter who w))
      where
        same : same_waiter who w ≡ true
            → times who waiters ≤ one_if (waits_in a (held_at cells a) (kept_for (answer windows w Stored) who))
        same e = omega (arith, gone, ap (λ who. times who waiters) (same_waiter-equal who w e))

        other : same_waiter who w ≡ false
            → times who waiters ≤ one_if (waits_in a (held_at cells a) (kept_for (answer windows w Stored) who))
        other e =
            let stays : one_if (waits_in a (held_at cells a) (kept_for (answer windows w Stored) who))
            ≡ one_if (waits_in a (held_at cells a) (kept_for windows who)) =
            ap (λ kept. one_if (waits_in a (held_at cells a) kept))
            (answer-other windows w Stored first.entry first.is who e) in
            omega (arith, stays, listed who, times-more who w waiters)

  -- there are as many as Waiting entries, or fewer
  all_wait : (waiters : List Waiter) (windows : List Window) → Awaits waiters windows
      → length waiters ≤ waiting_counts windows
  all_wait [] windows listed = omega arith
  all_wait (w ∷ waiters) windows listed =
      let awaits = first w waiters windows listed in
      let less = waiting_counts-answer windows w Stored awaits.entry awaits.is awaits.waits in
      omega (
        arith,
        less,
        all_wait waiters (answer windows w Stored) (others w waiters windows listed),
      )

-- no more requests wait at a cell than windows have room for
pub queue_few : (m : Contents) (a : ℕ) → IsMemory (length m.cells) (length m.windows) m
    → length m.windows ≤ MAX_ELEMENTS → length (waiters_at m.cells a) ≤ 4096
queue_few m a is few =
    let listed : Awaits m.cells a (waiters_at m.cells a) m.windows = λ who. le_of (is.agrees.listed who a) in
    let most = all_wait m.cells a (waiters_at m.cells a) m.windows listed in
    omega (arith, most, waiting_counts-most m.windows is.windows)
  where
    le_of : {x y : ℕ} → x ≡ y → x ≤ y
    le_of e = omega arith

-- ---- the requests that are still to be counted

pub none_left : (left : List Waiter) → left ≡ [] → length left ≡ 0
none_left left e = ap (λ (ws : List Waiter). length ws) e

pub one_left : (left after : List Waiter) (who : Waiter) → left ≡ who ∷ after → length left ≡ length after + 1
one_left left after who e = ap (λ (ws : List Waiter). length ws) e ∙ suc_is (length after)
  where
    suc_is : (n : ℕ) → suc n ≡ n + 1
    suc_is n = omega arith
