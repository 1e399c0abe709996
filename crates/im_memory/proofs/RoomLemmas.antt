-- A free node for each new request: each request on a list has a Waiting entry of its own, and a window has few entries.
use Rattle.std.proofs.Common.{◌≡◌, ℕ, zero, suc, ◌+◌, ◌*◌, ◌<◌, ◌≤◌, true, false, ◌≢◌, List, [], ◌∷◌, length, slice_get}
use Rattle.std.proofs.Common.{Some, Ok, sum_by, Option, sym, ap, ◌∙◌, ⊎_elim, arith}
use Rattle.std.proofs.lemmas.List.Sums.{sum_by-cons}
use Rattle.im_types.specs.Types.{Waiter, Stored, Request, Fresh, WINDOW, Held, Window, held_at, kept_for, IsWindow}
use Rattle.im_types.specs.Types.{same_waiter, times, waits_in, WaitersAgree, judge, answer}
use Rattle.im_laws.proofs.AgreementLemmas.{one_if, same_waiter-equal, same_waiter-self}
use Rattle.im_laws.proofs.{StepAgrees.one_if-most, StepAgrees.one_if-true, Tests.true_or_false}
use Rattle.{im_laws.proofs.StepLemmas.answer-other, im_laws.proofs.StepLemmas.judge-fresh, im_arena.specs.Lists.free}
use Rattle.{im_arena.specs.Lists.Shown, im_cell.specs.declared.Slot.Slot, im_istore.proofs.Cells.list_of}
use Rattle.{im_istore.proofs.Waiters.waiters_at-cells, im_istore.specs.Agreement.Agree, im_istore.specs.Joined.cells_of}
use Rattle.im_laws.proofs.WaitingCounts.{AwaitsOne, waiting_counts, waiting_counts-answer, waiting_counts-less}
use Rattle.im_laws.proofs.WaitingCounts.{waiting_counts-most, waits_in-AwaitsOne}
use Rattle.im_memory.{proofs.AnswerLemmas.times-more, proofs.AnswerLemmas.times-same, specs.MakesMemory.MakesMemory}

module _ (cells : List (Option Held)) where
  -- a request stands on the list of a cell, from the first of these lists on, at most once, and only where its entry waits for that cell
  abbrev AreListed : ℕ → List (List Waiter) → List Window → Type 0
  AreListed first lists windows = (who : Waiter) (i : ℕ)
      → times who (list_of lists i) ≤ one_if (waits_in (first + i) (held_at cells (first + i)) (kept_for windows who))

  module _ (first : ℕ) (lists : List (List Waiter)) (w : Waiter) (waiters : List Waiter) (windows : List Window)
      (listed : AreListed first ((w ∷ waiters) ∷ lists) windows) where
    -- the first on the first list: it awaits its cell
    first-awaits : AwaitsOne cells (first + 0) (kept_for windows w)
    first-awaits = waits_in-AwaitsOne cells (first + 0) (kept_for windows w) (held_at cells (first + 0))
        (one_if-true _ (omega (arith, listed w 0, times-same w w waiters (same_waiter-self w))))

    gone : (i : ℕ) → times w (list_of (waiters ∷ lists) i) ≤ 0
    gone zero = omega (
      arith,
      listed w 0,
      times-same w w waiters (same_waiter-self w),
      one_if-most
          (waits_in (first + 0) (held_at cells (first + 0)) (kept_for windows w)),
    )
    gone (suc i) =
        let other : first + suc i ≢ first + 0 = λ e. omega arith in
        let none : one_if (waits_in (first + suc i) (held_at cells (first + suc i)) (kept_for windows w))
        ≡ 0 = ap one_if (first-awaits.no_other (first + suc i) other) in
        omega (arith, listed w (suc i), none)

    fewer : (who : Waiter) (i : ℕ)
        → times who (list_of (waiters ∷ lists) i) ≤ times who (list_of ((w ∷ waiters) ∷ lists) i)
    fewer who zero = times-more who w waiters
    fewer who (suc i) = let h : times who (list_of lists i) ≤ times who (list_of lists i) = omega arith in h

    -- once it is answered the others still await theirs
    others-listed : AreListed first (waiters ∷ lists) (answer windows w Stored)
    others-listed who i = ⊎_elim same other (true_or_false (same_waiter who w))
      where
        same : same_waiter who w ≡ true
            → times who (list_of (waiters ∷ lists) i) ≤ one_if
            (waits_in (first + i) (held_at cells (first + i)) (kept_for (answer windows w Stored) who))
        same e = omega (arith, gone i, ap (λ who. times who (list_of (waiters ∷ lists) i)) (same_waiter-equal who w e))

        other : same_waiter who w ≡ false
            → times who (list_of (waiters ∷ lists) i) ≤ one_if
            (waits_in (first + i) (held_at cells (first + i)) (kept_for (answer windows w Stored) who))
        other e =
            let stays : one_if
            (waits_in (first + i) (held_at cells (first + i)) (kept_for (answer windows w Stored) who))
            ≡ one_if (waits_in (first + i) (held_at cells (first + i)) (kept_for windows who)) =
            ap (λ kept. one_if (waits_in (first + i) (held_at cells (first + i)) kept))
            (answer-other windows w Stored first-awaits.entry first-awaits.is who e) in
            omega (arith, stays, listed who i, fewer who i)

  -- an empty list is passed
  rest-listed : (first : ℕ) (lists : List (List Waiter)) (windows : List Window)
      → AreListed first ([] ∷ lists) windows → AreListed (suc first) lists windows
  rest-listed first lists windows listed who i =
      let here : first + suc i ≡ suc first + i = omega arith in
      omega (arith, listed who (suc i), ap (λ a. one_if (waits_in a (held_at cells a) (kept_for windows who))) here)

  -- those on the first list, and then the others
  one-list : (first : ℕ) (lists : List (List Waiter))
      → ((windows : List Window) → AreListed (suc first) lists windows → sum_by length lists ≤ waiting_counts windows)
      → (waiters : List Waiter) (windows : List Window) → AreListed first (waiters ∷ lists) windows
      → length waiters + sum_by length lists ≤ waiting_counts windows
  one-list first lists rest [] windows listed = omega (arith, rest windows (rest-listed first lists windows listed))
  one-list first lists rest (w ∷ waiters) windows listed =
      let awaits = first-awaits first lists w waiters windows listed in
      let one_less = waiting_counts-answer windows w Stored awaits.entry awaits.is awaits.waits in
      omega (
        arith,
        one_less,
        one-list first lists rest waiters (answer windows w Stored)
            (others-listed first lists w waiters windows listed),
      )

  all-lists : (first : ℕ) (lists : List (List Waiter)) (windows : List Window) → AreListed first lists windows
      → sum_by length lists ≤ waiting_counts windows
  all-lists first [] windows listed = omega arith
  all-lists first (waiters ∷ lists) windows listed = omega (
    arith,
    sum_by-cons length waiters lists,
    one-list first lists
        (all-lists (suc first) lists) waiters windows listed,
  )

-- in a memory
module _ (slots : List (Option Slot)) (arena : Shown) (windows : List Window) (agree : Agree slots arena)
    (agrees : WaitersAgree (cells_of slots arena) (kept_for windows)) where
  agrees-AreListed : AreListed (cells_of slots arena) 0 arena.held.lists windows
  agrees-AreListed who a =
      let here : 0 + a ≡ a = omega arith in
      let listed = ap (times who) (sym (waiters_at-cells slots arena a agree)) ∙ agrees.listed who a in
      omega (
        arith,
        listed,
        ap
            (λ a. one_if (waits_in a (held_at (cells_of slots arena) a) (kept_for windows who))) here,
      )

  -- there are as many waiters as waiting entries, or fewer
  all-listed : sum_by length arena.held.lists ≤ waiting_counts windows
  all-listed = all-lists (cells_of slots arena) 0 arena.held.lists windows agrees-AreListed

  -- so there is a node for each of them
  pub all-fit : ((element : ℕ) (w : Window) → slice_get windows element ≡ Some w → IsWindow w)
      → sum_by length arena.held.lists ≤ WINDOW * length windows
  all-fit are = omega (arith, all-listed, waiting_counts-most windows are)

-- where a request is new, a node is free
pub room-fresh : (slots : List (Option Slot)) (arena : Shown) (windows : List Window)
    → MakesMemory slots arena windows → (r : Request) → judge windows r ≡ Ok Fresh → 0 < free arena.held
room-fresh slots arena windows makes r fresh =
    let next = judge-fresh windows r fresh in
    let all = all-listed slots arena windows makes.agree makes.memory.agrees in
    let less = waiting_counts-less windows makes.memory.windows r.element next.window next.there next.room in
    omega (arith, all, less, makes.nodes)
