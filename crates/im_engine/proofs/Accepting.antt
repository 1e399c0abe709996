-- An accepted command isn't refused.
use Rattle.std.proofs.Common.{◌≡◌, true, slice_get, slice_index_or, Ok, Err, Result, refl}
use Rattle.im_types.specs.Types.{Command, Outcome, Judged, Asks, Confirm, Tells, Confirmed, Fresh, Repeat, Refusal}
use Rattle.im_types.specs.Types.{Window, Contents, new_window, act, judge, confirm_window, asker, step_request}
use Rattle.im_types.specs.Types.{step_confirm, step, is_fresh, moves_base, is_accepted}

-- the answer is an outcome
abbrev pub Answers : Result Outcome Refusal → Type 0
Answers answer = (outcome : Outcome) × (answer ≡ Ok outcome)

pub accepted_answers : (m : Contents) (command : Command) → is_accepted m command ≡ true
    → Answers (step m command).answer
accepted_answers m (Asks r) accepted = by_judged (judge m.windows r) accepted
  where
    by_judged : (j : Result Judged Refusal) → is_fresh j ≡ true → Answers (step_request m r j).answer
    by_judged (Ok Fresh) e = (Tells (act m.cells (asker r) r.op).entry, refl)
    by_judged (Ok (Repeat entry)) e = absurd (cc)
    by_judged (Err refusal) e = absurd (cc)
accepted_answers m (Confirm element upto) accepted = by_window
    (confirm_window upto (slice_get m.windows element)) accepted
  where
    by_window : (w : Result Window Refusal) → moves_base upto (slice_index_or m.windows element new_window) w ≡ true
        → Answers (step_confirm m element w).answer
    by_window (Ok window) e = (Confirmed, refl)
    by_window (Err refusal) e = absurd (cc)
