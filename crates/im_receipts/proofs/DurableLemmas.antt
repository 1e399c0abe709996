-- A file that has at least the accepted commands of a history has what its last line tells.
use Rattle.std.proofs.Common.{◌≡◌, ℕ, zero, suc, ◌+◌, ◌-◌, ◌≤◌, List, [], ◌∷◌, ◌++◌, length, take, Ok, Err, Result, sym}
use Rattle.std.proofs.Common.{refl, ap, ◌∙◌, subst, inl, inr, append_assoc, arith, length-append, length-take}
use Rattle.im_types.specs.Types.{Entry, Waiter, Kept, Answered, Request, Command, Outcome, Line, Tells, Commands}
use Rattle.im_types.specs.Types.{Collect, Refusal, Window, Contents, WaitingAgrees, ask, after, told, IsLegal, end_of}
use Rattle.im_types.specs.Types.{Means}
use Rattle.im_laws.proofs.{EntryLemmas.ask-kept, RunAgrees.after-agrees, RunLemmas.after-append}
use Rattle.im_laws.proofs.TraceLemmas.{end_of-append, end_of-commands, IsLegal-split}
use Rattle.{im_laws.proofs.WaiterLemmas.waiting_only, im_disk.specs.declared.Disk.Ghosts, im_trace.specs.Origin.Origin}
use Rattle.im_laws.specs.Entries.{IsKeptFor, IsToldAgainOrForgotten, LastsOrIsForgotten}
use Rattle.im_laws.specs.{Requests.after_request, Requests.IsAnswered, Traces.commands_of}
use Rattle.im_plans.proofs.PlannedRuns.{asked-kept, IsKeptAs}
use Rattle.im_session.specs.{Keeping.MeansFrom, Kept.MeansPut, Kept.SessionStart, Kept.SessionState}
use Rattle.im_promise.specs.Traces.{line_telling}
use Rattle.im_controller.proofs.KeptLemmas.{accepted-after, accepted-more}
use Rattle.im_controller.specs.Kept.{accepted_in, IsLeftAt, IsSessionOf}
use Rattle.im_controller.specs.{Lines.EndsIn, Lines.line_of, Lines.time_at, Log.FoundState, Log.ReceiptState}
use Rattle.im_receipts.proofs.Tellings.{is_telling}
use Rattle.im_receipts.specs.{Alike.GivesEntry, Durable.commands_through, Durable.IsFoundAgainOrForgotten}
use mathlib.Core.List.{IsPrefix}

-- the first elements of two lists, if they go past the first one
take_past : {X : Type 0} (n : ℕ) (xs ys : List X) → length xs ≤ n → take n (xs ++ ys) ≡ xs ++ take (n - length xs) ys
take_past n [] ys less = let same : n ≡ n - 0 = omega arith in ap (λ k. take k ys) same
take_past zero (x ∷ xs) ys less = absurd (omega (arith, less))
take_past (suc n) (x ∷ xs) ys less =
    let same : n - length xs ≡ suc n - length (x ∷ xs) = omega arith in
    ap (λ l. x ∷ l) (take_past n xs ys (omega (arith, less))) ∙ ap (λ k. x ∷ (xs ++ take k ys)) same

-- a file that means the memory after the accepted commands of a history, and after others that were accepted later
pub record MeansPast {D : Type 0} (start : SessionStart D) (k : Origin) (history : List Line)
    (file : List ℕ) : Type 0 where
  pub later : List Command
  pub means : MeansPut start (commands_through k history later) file

module _ {D : Type 0} (disk : Ghosts D) (k : Origin) (history trace : List Line) (s : SessionState D)
    (it : IsSessionOf disk k trace s) where
  pub means_past : (file : List ℕ) → IsPrefix history trace
      → MeansFrom s.start (s.put ++ s.doubt) (length k.first + length (accepted_in k.memory history)) file
      → MeansPast s.start k history file
  means_past file begins means =
      let m = k.memory in
      let mine = accepted_in m history in
      let xs = k.first ++ mine in
      let more = accepted_in (end_of m history) begins.0 in
      let split : accepted_in m trace ≡ mine ++ more =
      ap (accepted_in m) (sym begins.1) ∙ accepted-more m (end_of m history) history begins.0 refl in
      let all : s.put ++ s.doubt ≡ xs ++ (more ++ s.doubt) =
      ap (λ l. l ++ s.doubt)
      (it.put ∙ ap (λ l. k.first ++ l) split ∙ sym (append_assoc k.first mine more))
      ∙ append_assoc xs more s.doubt in
      let later = take (means.0 - length xs) (more ++ s.doubt) in
      let is : take means.0 (s.put ++ s.doubt) ≡ xs ++ later =
      ap (λ l. take means.0 l) all
      ∙ take_past means.0 xs (more ++ s.doubt) (omega (arith, means.1, length-append k.first mine)) in
      let long : means.0 ≡ length (xs ++ later) =
      omega (arith, ap length is, length-take means.0 (s.put ++ s.doubt), means.2) in record {
        later = later;
        means = subst (λ (l : List Command). MeansPut s.start l file) (append_assoc k.first mine later)
            (subst (λ (n : ℕ). Means (after s.start.memory (xs ++ later)) (s.start.count + n) 0 file) long
            (subst (λ (l : List Command). Means (after s.start.memory l) (s.start.count + means.0) 0 file) is means.3));
      }

  -- its memory is the one that was opened, after the commands behind those that were put before
  pub memory_with : (later : List Command)
      → after s.start.memory (commands_through k history later) ≡ after k.memory (accepted_in k.memory history ++ later)
  memory_with later = after-append s.start.memory k.first (accepted_in k.memory history ++ later)
      ∙ ap (λ (m : Contents). after m (accepted_in k.memory history ++ later)) (sym it.memory)

module _ (again : (m : Contents) (r : Request) (entry : Entry) (commands : List Command) → WaitingAgrees m
    → IsAnswered m r entry → IsToldAgainOrForgotten (after (after_request m r) commands) r entry)
    (m : Contents) (agrees : WaitingAgrees m) (receipt : ReceiptState) (legal : IsLegal m receipt.history)
    (last : EndsIn receipt.history (line_of (Commands receipt.command) (Ok receipt.outcome))) where
  pub told_later : (later : List Command) (r : Request) (entry : Entry) → GivesEntry receipt r entry
      → IsToldAgainOrForgotten (after m (accepted_in m receipt.history ++ later)) r entry
  told_later later r entry gives =
      let it = is_telling m r entry receipt gives legal last in
      let before : List Line = it.1.0 in
      let n = end_of m before in
      let this = line_telling r entry ∷ [] in
      let answered : IsAnswered n r entry = sym
      (IsLegal-split m before this (subst (IsLegal m) it.1.1 it.0)).1.0 in
      let ends : end_of m receipt.history ≡ after_request n r = ap (end_of m) it.1.1 ∙ end_of-append m before this in
      let same : after m (accepted_in m receipt.history ++ later) ≡ after (after_request n r) later =
      after-append m (accepted_in m receipt.history) later
      ∙ ap (λ x. after x later) (accepted-after m receipt.history ∙ ends) in
      let here : WaitingAgrees n = subst WaitingAgrees (sym (end_of-commands m before))
      (after-agrees m (commands_of before) agrees) in
      subst (λ (x : Contents). IsToldAgainOrForgotten x r entry) (sym same) (again n r entry later here answered)

-- what a collect was told is kept under its number
collected-kept : (windows : List Window) (who : Waiter) (entry : Entry) (asked : Result Entry Refusal)
    → ask windows who ≡ asked → Ok (Tells entry) ≡ told asked → IsKeptAs windows who entry
collected-kept windows who entry (Ok other) is e = asked-kept windows who entry (is ∙ ap Ok (same e))
  where
    same : ◌≡◌ {A = Result Outcome Refusal} (Ok (Tells entry)) (Ok (Tells other)) → other ≡ entry
    same e = let outcome : Tells other ≡ Tells entry = cc in cc
collected-kept windows who entry (Err refusal) is e = absurd (not_told e)
  where
    not_told : ◌≡◌ {A = Result Outcome Refusal} (Ok (Tells entry)) (Err refusal) → ⊥
    not_told e = cc

found_again : (m : Contents) (who : Waiter) (entry : Entry) (k : Kept) → k.entry ≡ entry → LastsOrIsForgotten m who k
    → IsFoundAgainOrForgotten m who entry
found_again m who entry k is (inl forgotten) = inl forgotten
found_again m who entry k is (inr (inl same)) =
    inr (record { entry = k.entry; since = inl is; found = ask-kept m.windows who k same })
found_again m who entry k is (inr (inr h)) = inr (record {
  entry = Answered h.0;
  since = inr (h.0, sym is ∙ waiting_only k.entry h.1, refl);
  found = ask-kept m.windows who (record { op = k.op; entry = Answered h.0 }) h.2;
})

module _ (lasts : (m : Contents) (commands : List Command) (who : Waiter) (k : Kept) → IsKeptFor m who k
    → LastsOrIsForgotten (after m commands) who k)
    (m : Contents) (agrees : WaitingAgrees m) (found : FoundState) (legal : IsLegal m found.history)
    (last : EndsIn found.history (line_of (Collect found.element found.number) (Ok (Tells found.entry)))) where
  abbrev who : Waiter
  who = record { element = found.element; number = found.number }

  pub found_later : (later : List Command)
      → IsFoundAgainOrForgotten (after m (accepted_in m found.history ++ later)) who found.entry
  found_later later =
      let before : List Line = last.0 in
      let n = end_of m before in
      let this = line_of (Collect found.element found.number) (Ok (Tells found.entry)) ∷ [] in
      let kept = collected-kept n.windows who found.entry (ask n.windows who) refl
      (IsLegal-split m before this (subst (IsLegal m) last.1 legal)).1.0 in
      let ends : end_of m found.history ≡ n = ap (end_of m) last.1 ∙ end_of-append m before this in
      let same : after m (accepted_in m found.history ++ later) ≡ after n later =
      after-append m (accepted_in m found.history) later
      ∙ ap (λ x. after x later) (accepted-after m found.history ∙ ends) in
      let here : WaitingAgrees n = subst WaitingAgrees (sym (end_of-commands m before))
      (after-agrees m (commands_of before) agrees) in
      subst (λ (x : Contents). IsFoundAgainOrForgotten x who found.entry) (sym same)
      (found_again (after n later) who found.entry kept.kept kept.entry_is
      (lasts n later who kept.kept (record { agrees = here; is = kept.there })))

-- the last line of a history was left at the time that its receipt has
pub is_left_at : (trace : List Line) (times : List ℕ) (history : List Line) (line : Line) (time : ℕ)
    → IsPrefix history trace → EndsIn history line → time ≡ time_at times (length history)
    → IsLeftAt trace times history time
is_left_at trace times history line time begins last is = record {
  begins = begins;
  some = omega (arith, ap length last.1, length-append last.0 (line ∷ []));
  time_is = is;
}
