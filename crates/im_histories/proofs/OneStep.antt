-- One command on a memory: it leaves the cells, or it is a new request, which its operation serves.
use Rattle.std.proofs.Common.{◌≡◌, ℕ, zero, suc, ◌≤◌, Bool, true, false, cond, List, [], ◌∷◌, slice_get, Some, Ok, Err}
use Rattle.std.proofs.Common.{Result, sym, refl, ap, ◌∙◌, subst, arith}
use Rattle.std.proofs.lemmas.Option.{none-some, same_Some}
use Rattle.im_types.specs.Types.{Waiter, Kept, Request, Command, Judged, Asks, Confirm, Fresh, Repeat, Refusal, Held}
use Rattle.im_types.specs.Types.{Window, Contents, held_at, waiters_of, kept_for, HasBlocks, same_waiter, times}
use Rattle.im_types.specs.Types.{awaiting, waits_for, WaitingAgrees, Acted, act, judge, note, answer_each, is_waiting}
use Rattle.im_types.specs.Types.{confirm_window, asker, step_request, step_confirm, step, is_fresh, Event, event_of}
use Rattle.im_histories.proofs.Given.{act-blocks, IsNext, judge-fresh, listed_at, one_if, same_waiter-self, step-agrees}
use Rattle.im_histories.proofs.Given.{waits_for-kept}

-- the memory after an operation of a new request
abbrev pub contents_of : Contents → Request → Acted → Contents
contents_of m r acted = record {
  cells = acted.cells;
  windows = answer_each
      (note m.windows r acted.entry) acted.resumed;
}

abbrev pub event_for : Request → Acted → Event
event_for r acted = record { request = r; entry = acted.entry }

-- what a command does
pub data Takes (m : Contents) (command : Command) : Type 0 where
  Silent : event_of m command ≡ [] → (step m command).contents.cells ≡ m.cells → Takes m command
  Asked : (r : Request) → IsNext m.windows r → event_of m command ≡ event_for r (act m.cells (asker r) r.op) ∷ []
      → (step m command).contents ≡ contents_of m r (act m.cells (asker r) r.op) → Takes m command

pub takes_command : (m : Contents) (command : Command) → Takes m command
takes_command m (Asks r) = by_judged (judge m.windows r) refl
  where
    by_judged : (j : Result Judged Refusal) → judge m.windows r ≡ j → Takes m (Asks r)
    by_judged (Err refusal) e =
        Silent (ap (λ j. cond (is_fresh j) (event_for r (act m.cells (asker r) r.op) ∷ []) []) e)
        (ap (λ j. (step_request m r j).contents.cells) e)
    by_judged (Ok (Repeat entry)) e =
        Silent (ap (λ j. cond (is_fresh j) (event_for r (act m.cells (asker r) r.op) ∷ []) []) e)
        (ap (λ j. (step_request m r j).contents.cells) e)
    by_judged (Ok Fresh) e =
        Asked r (judge-fresh m.windows r e)
        (ap (λ j. cond (is_fresh j) (event_for r (act m.cells (asker r) r.op) ∷ []) []) e)
        (ap (λ j. (step_request m r j).contents) e)
takes_command m (Confirm element upto) = Silent refl (by_result (confirm_window upto (slice_get m.windows element)))
  where
    by_result : (c : Result Window Refusal) → (step_confirm m element c).contents.cells ≡ m.cells
    by_result (Err refusal) = refl
    by_result (Ok window) = refl

-- what holds of each memory that commands have made from the empty one
pub record IsSound (m : Contents) : Type 0 where
  pub blocks : HasBlocks m.cells
  pub agrees : WaitingAgrees m

pub sound-step : (m : Contents) (command : Command) → IsSound m → IsSound (step m command).contents
sound-step m command sound = record {
  blocks = by_takes
      (takes_command m command);
  agrees = step-agrees m command sound.agrees;
}
  where
    by_takes : Takes m command → HasBlocks (step m command).contents.cells
    by_takes (Silent none same) = subst HasBlocks (sym same) sound.blocks
    by_takes (Asked r next one is) = subst (λ (c : Contents). HasBlocks c.cells) (sym is)
        (act-blocks m.cells sound.blocks (asker r) r.op)

-- who waits at a cell
pub times-get : (waiters : List Waiter) (k : ℕ) (who : Waiter) → slice_get waiters k ≡ Some who → 1 ≤ times who waiters
times-get [] k who at = absurd (none-some who at)
times-get (w ∷ waiters) zero who at = by_same (same_Some w who at)
  where
    by_same : w ≡ who → 1 ≤ times who (w ∷ waiters)
    by_same e =
        let here : times who (w ∷ waiters)
        ≡ suc (times who waiters) = ap (λ t. cond t (suc (times who waiters)) (times who waiters))
        (ap (same_waiter who) e ∙ same_waiter-self who) in
        omega arith
times-get (w ∷ waiters) (suc k) who at = by_test (same_waiter who w) (times-get waiters k who at)
  where
    by_test : (t : Bool) → 1 ≤ times who waiters → 1 ≤ cond t (suc (times who waiters)) (times who waiters)
    by_test true h = omega arith
    by_test false h = h

one_if-true : (b : Bool) → 1 ≤ one_if b → b ≡ true
one_if-true true h = refl
one_if-true false h = let k : 1 ≤ 0 = h in absurd (omega arith)

-- and has a waiting entry
pub waiting_kept : (m : Contents) → WaitingAgrees m → (a : ℕ) (held : Held) → held_at m.cells a ≡ Some held
    → (who : Waiter) → 1 ≤ times who (waiters_of held.state)
    → (k : Kept) × (kept_for m.windows who ≡ Some k) × (is_waiting k ≡ true)
waiting_kept m agrees a held at who some =
    let listed = listed_at m.cells (kept_for m.windows) agrees a held at who in
    let waits : waits_for (awaiting held.block.kind a) (kept_for m.windows who) ≡ true = one_if-true _ (omega arith) in
    let w = waits_for-kept held.block.kind a (kept_for m.windows who) waits in
    (w.0, w.1, w.2)
