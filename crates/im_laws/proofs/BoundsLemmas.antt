-- The bounds of a window, after each step.
use Rattle.std.proofs.Common.{◌≡◌, ℕ, zero, suc, ◌+◌, ◌-◌, ◌<◌, ◌≤◌, max, Bool, true, false, cond, ◌≢◌, List, [], ◌∷◌}
use Rattle.std.proofs.Common.{length, set, ◌==◌, slice_get, Some, None, Ok, Err, Option, Result, option_map, sym, refl}
use Rattle.std.proofs.Common.{ap, ◌∙◌, ⊎_elim, arith, length-append, length-drop}
use Rattle.std.proofs.lemmas.Bool.{cases_eq, Decides.nat_tests}
use Rattle.im_types.specs.Types.{Entry, Reply, Waiter, Kept, Request, Command, Judged, Asks, Confirm, Fresh, Repeat}
use Rattle.im_types.specs.Types.{Refusal, WINDOW, LAST, Window, Contents, act, judge, with_window, note_in, note}
use Rattle.im_types.specs.Types.{answer_at, answer_in, answer, answer_each, confirm_window, bounds_of, bounds, asker}
use Rattle.im_types.specs.Types.{step_request, step_confirm, step}
use Rattle.im_laws.proofs.{RunAgrees.confirm-ok, RunAgrees.IsConfirmed, StepLemmas.IsNext, StepLemmas.judge-fresh}
use Rattle.im_laws.proofs.{Tests.cond_same, Tests.test-self, WindowLemmas.slice_get-set}

-- one window changes, if it is there
pub slice_get-with_window : (windows : List Window) (e f : ℕ) (change : Window → Window)
    → slice_get (with_window windows e change) f
    ≡ cond (f == e) (option_map change (slice_get windows f)) (slice_get windows f)
slice_get-with_window [] e f change = cond_same (f == e) None
slice_get-with_window (w ∷ windows) zero zero change = refl
slice_get-with_window (w ∷ windows) zero (suc f) change =
    let t : (suc f == 0) ≡ false = grind (arith, nat_tests) in sym
    (ap (λ b. cond b (option_map change (slice_get windows f)) (slice_get windows f)) t)
slice_get-with_window (w ∷ windows) (suc e) zero change =
    let t : (0 == suc e) ≡ false = grind (arith, nat_tests) in sym (ap (λ b. cond b (Some (change w)) (Some w)) t)
slice_get-with_window (w ∷ windows) (suc e) (suc f) change =
    let t : (suc f == suc e) ≡ (f == e) = grind (arith, nat_tests) in
    slice_get-with_window windows e f change
    ∙ sym (ap (λ b. cond b (option_map change (slice_get windows f)) (slice_get windows f)) t)

length-answer_at : (place : ℕ) (reply : Reply) (kept : List Kept) → length (answer_at place reply kept) ≡ length kept
length-answer_at place reply [] = refl
length-answer_at zero reply (k ∷ kept) = refl
length-answer_at (suc place) reply (k ∷ kept) = ap suc (length-answer_at place reply kept)

bounds_of-answer_in : (number : ℕ) (reply : Reply) (w : Option Window)
    → bounds_of (option_map (answer_in number reply) w) ≡ bounds_of w
bounds_of-answer_in number reply None = refl
bounds_of-answer_in number reply (Some w) = ap (λ (n : ℕ). bounds_is w.base (w.base + n))
    (length-answer_at (number - w.base) reply w.kept)
  where
    bounds_is : ℕ → ℕ → Result (ℕ × ℕ) Refusal
    bounds_is base next = Ok (base, next)

-- an answer moves no bounds
pub bounds-answer : (windows : List Window) (who : Waiter) (reply : Reply) (element : ℕ)
    → bounds (answer windows who reply) element ≡ bounds windows element
bounds-answer windows who reply element = ap bounds_of
    (slice_get-with_window windows who.element element (answer_in who.number reply))
    ∙ by_test (element == who.element)
  where
    by_test : (b : Bool)
        → bounds_of (cond b (option_map (answer_in who.number reply) (slice_get windows element))
        (slice_get windows element)) ≡ bounds windows element
    by_test true = bounds_of-answer_in who.number reply (slice_get windows element)
    by_test false = refl

pub bounds-answer_each : (windows : List Window) (replies : List (Waiter × Reply)) (element : ℕ)
    → bounds (answer_each windows replies) element ≡ bounds windows element
bounds-answer_each windows [] element = refl
bounds-answer_each windows (r ∷ replies) element = bounds-answer_each (answer windows r.0 r.1) replies element
    ∙ bounds-answer windows r.0 r.1 element

-- a new request raises its element's next number by one
pub bounds-note_here : (windows : List Window) (r : Request) (entry : Entry) (w : Window)
    → slice_get windows r.element ≡ Some w
    → bounds (note windows r entry) r.element ≡ Ok (w.base, w.base + length w.kept + 1)
bounds-note_here windows r entry w at =
    ap bounds_of (slice_get-with_window windows r.element r.element (note_in r.op entry)
    ∙ ap (λ b. cond b (option_map (note_in r.op entry) (slice_get windows r.element)) (slice_get windows r.element))
    (test-self r.element)
    ∙ ap (option_map (note_in r.op entry)) at)
    ∙ ap bounds_with (let e = length-append w.kept (record { op = r.op; entry = entry } ∷ []) in omega arith)
  where
    bounds_with : ℕ → Result (ℕ × ℕ) Refusal
    bounds_with next = Ok (w.base, next)

pub bounds-note_other : (windows : List Window) (r : Request) (entry : Entry) (element : ℕ) → element ≢ r.element
    → bounds (note windows r entry) element ≡ bounds windows element
bounds-note_other windows r entry element n =
    let t : (element == r.element) ≡ false = grind (arith, nat_tests) in
    ap bounds_of (slice_get-with_window windows r.element element (note_in r.op entry)
    ∙ ap (λ b. cond b (option_map (note_in r.op entry) (slice_get windows element)) (slice_get windows element)) t)

-- what one step does to the bounds of a window: nothing; a new request takes the next number; or a confirmation moves the base
pub data BoundsMove (before after : Result (ℕ × ℕ) Refusal) : Type 0 where
  Stays : after ≡ before → BoundsMove before after
  Grows : (base next : ℕ) → before ≡ Ok (base, next) → after ≡ Ok (base, next + 1) → next < base + WINDOW
      → next ≤ LAST → BoundsMove before after
  Rises : (base next upto : ℕ) → before ≡ Ok (base, next) → after ≡ Ok (max base upto, next) → upto ≤ next
      → BoundsMove before after

pub bounds-serve_here : (m : Contents) (r : Request) → (n : IsNext m.windows r)
    → bounds (step_request m r (Ok Fresh)).contents.windows r.element ≡ Ok (n.window.base, r.number + 1)
bounds-serve_here m r n =
    let acted = act m.cells (asker r) r.op in
    bounds-answer_each (note m.windows r acted.entry) acted.resumed r.element
    ∙ bounds-note_here m.windows r acted.entry n.window n.there
    ∙ ap bounds_with (sym n.next)
  where
    bounds_with : ℕ → Result (ℕ × ℕ) Refusal
    bounds_with number = Ok (n.window.base, number + 1)

pub bounds-serve_other : (m : Contents) (r : Request) (element : ℕ) → element ≢ r.element
    → bounds (step_request m r (Ok Fresh)).contents.windows element ≡ bounds m.windows element
bounds-serve_other m r element n =
    let acted = act m.cells (asker r) r.op in
    bounds-answer_each (note m.windows r acted.entry) acted.resumed element
    ∙ bounds-note_other m.windows r acted.entry element n

pub bounds-next : (m : Contents) (r : Request) → (n : IsNext m.windows r) → bounds m.windows r.element
    ≡ Ok (n.window.base, r.number)
bounds-next m r n = ap bounds_of n.there ∙ ap bounds_with (sym n.next)
  where
    bounds_with : ℕ → Result (ℕ × ℕ) Refusal
    bounds_with next = Ok (n.window.base, next)

pub bounds-confirm_here : (windows : List Window) (element upto : ℕ) (w new : Window) → slice_get windows element
    ≡ Some w → IsConfirmed upto w new
    → bounds (set windows element new) element ≡ Ok (max w.base upto, w.base + length w.kept)
bounds-confirm_here windows element upto w new at c =
    ap bounds_of (slice_get-set windows element element w new at
    ∙ ap (λ b. cond b (Some new) (slice_get windows element)) (test-self element) ∙ ap Some c.is)
    ∙ ap bounds_with (let e = length-drop (upto - w.base) w.kept in let r = c.reached in omega arith)
  where
    bounds_with : ℕ → Result (ℕ × ℕ) Refusal
    bounds_with next = Ok (max w.base upto, next)

pub bounds-confirm_other : (windows : List Window) (element upto : ℕ) (w new : Window) → slice_get windows element
    ≡ Some w → (other : ℕ)
    → other ≢ element
    → bounds (set windows element new) other ≡ bounds windows other
bounds-confirm_other windows element upto w new at other n =
    let t : (other == element) ≡ false = grind (arith, nat_tests) in
    ap bounds_of (slice_get-set windows element other w new at
    ∙ ap (λ b. cond b (Some new) (slice_get windows other)) t)

-- each step is one of these moves, of each window
pub step-moves : (m : Contents) (command : Command) (element : ℕ)
    → BoundsMove (bounds m.windows element) (bounds (step m command).contents.windows element)
step-moves m (Asks r) element = by_judged (judge m.windows r) refl
  where
    by_judged : (j : Result Judged Refusal) → judge m.windows r ≡ j
        → BoundsMove (bounds m.windows element) (bounds (step_request m r j).contents.windows element)
    by_judged (Err refusal) e = Stays refl
    by_judged (Ok (Repeat entry)) e = Stays refl
    by_judged (Ok Fresh) e =
        let n = judge-fresh m.windows r e in
        ⊎_elim
        (λ same. let here = ap (bounds m.windows) same in
        Grows n.window.base r.number (ap (bounds m.windows) same ∙ bounds-next m r n)
        (ap (bounds (step_request m r (Ok Fresh)).contents.windows) same ∙ bounds-serve_here m r n)
        (let next = n.next in let room = n.room in omega arith) n.to_last)
        (λ other. Stays (bounds-serve_other m r element other))
        (cases_eq element r.element)
step-moves m (Confirm of upto) element = by_window (slice_get m.windows of) refl
  where
    by_result : (w : Window) → slice_get m.windows of ≡ Some w → (c : Result Window Refusal)
        → confirm_window upto (Some w) ≡ c
        → BoundsMove (bounds m.windows element) (bounds (step_confirm m of c).contents.windows element)
    by_result w at (Err refusal) e = Stays refl
    by_result w at (Ok new) e =
        let c = confirm-ok upto w new e in
        ⊎_elim
        (λ same. Rises w.base (w.base + length w.kept) upto (ap (bounds m.windows) same ∙ ap bounds_of at)
        (ap (bounds (set m.windows of new)) same ∙ bounds-confirm_here m.windows of upto w new at c) c.reached)
        (λ other. Stays (bounds-confirm_other m.windows of upto w new at element other))
        (cases_eq element of)

    by_window : (o : Option Window) → slice_get m.windows of ≡ o
        → BoundsMove (bounds m.windows element)
        (bounds (step_confirm m of (confirm_window upto o)).contents.windows element)
    by_window None at = Stays refl
    by_window (Some w) at = by_result w at (confirm_window upto (Some w)) refl
