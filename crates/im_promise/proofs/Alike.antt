-- A request that two lines of a trace tell an entry.
use Rattle.std.proofs.Common.{◌≡◌, false, ◌↔◌, List, ◌∷◌, ◌++◌, IsTrue, IsFalse, Ok, Err, Result, sym, ap, ◌∙◌, subst}
use Rattle.std.proofs.Common.{⊎_elim}
use Rattle.im_types.specs.Types.{Entry, Request, Command, Outcome, Line, Asks, Tells, Refusal, Forgotten, Contents}
use Rattle.im_types.specs.Types.{WaitingAgrees, Stepped, asker, step, is_accepted, after, IsLegal, end_of}
use Rattle.im_laws.specs.Entries.{IsRefused, IsSameOrAnswer, IsToldAgainOrForgotten}
use Rattle.im_laws.specs.{Requests.after_request, Requests.IsAnswered, Traces.commands_of, Windows.IsForgotten}
use Rattle.im_promise.proofs.{Answering.is_true, Sent.agrees_after, Sent.by_is_false}
use Rattle.im_promise.specs.Traces.{AskTwice, at_other, line_answering, line_telling, ToldTwice}

abbrev IsOkOf : Entry → Result Outcome Refusal → Type 0
IsOkOf entry answer = Ok (Tells entry) ≡ answer

not_both : (entry : Entry) → IsOkOf entry (Err Forgotten) → ⊥
not_both entry is = absurd (cc)

same_entry : (one other : Entry) → IsOkOf one (Ok (Tells other)) → one ≡ other
same_entry one other is = cc

-- the later line has the entry of the earlier one or its answer, and the request isn't accepted there
pub record IsAlike (m : Contents) (r : Request) (first second : Entry) : Type 0 where
  pub alike : IsSameOrAnswer first second
  pub still : is_accepted m (Asks r) ≡ false

module _ (run : (m : Contents) (trace : List Line) → end_of m trace ≡ after m (commands_of trace))
    (join : (m : Contents) (earlier later : List Line) → end_of m (earlier ++ later) ≡ end_of (end_of m earlier) later)
    (legal_join : (m : Contents) (earlier later : List Line)
    → IsLegal m (earlier ++ later) ↔ (IsLegal m earlier × IsLegal (end_of m earlier) later))
    (next : (m : Contents) (command : Command) → WaitingAgrees m → WaitingAgrees (step m command).contents)
    (repeat : (m : Contents) (r : Request) (entry : Entry) (commands : List Command) → WaitingAgrees m
    → IsAnswered m r entry → IsToldAgainOrForgotten (after (after_request m r) commands) r entry)
    (refused : (m : Contents) (r : Request) → IsForgotten m.windows (asker r) → IsRefused m r Forgotten)
    (unaccepted : (m : Contents) (command : Command)
    → IsFalse (is_accepted m command) ↔ ((step m command).contents ≡ m)) where
  told_at : (m : Contents) (between later : List Line) (r : Request) (first second : Entry) → WaitingAgrees m
      → IsLegal m (line_telling r first ∷ (between ++ (line_telling r second ∷ later)))
      → IsAlike (end_of (after_request m r) between) r first second
  told_at m between later r first second agrees legal =
      let rest = (legal_join (after_request m r) between (line_telling r second ∷ later)).0 legal.1 in
      let m3 : Contents = end_of (after_request m r) between in
      let said : Ok (Tells second) ≡ (step (end_of (after_request m r) between) (Asks r)).answer = rest.1.0 in
      let again : IsToldAgainOrForgotten (end_of (after_request m r) between) r first =
      subst (λ (x : Contents). IsToldAgainOrForgotten x r first) (sym (run (after_request m r) between))
      (repeat m r first (commands_of between) agrees (sym legal.0)) in
      ⊎_elim
      (λ gone. absurd (not_both second (said ∙ ap (λ (s : Stepped). s.answer) (refused m3 r gone))))
      (λ it. record {
        alike = subst (IsSameOrAnswer first)
            (sym (same_entry second it.entry (said ∙ ap (λ (s : Stepped). s.answer) it.told))) it.since;
        still = by_is_false (is_accepted m3 (Asks r))
            ((unaccepted m3 (Asks r)).1 (ap (λ (s : Stepped). s.contents) it.told));
      })
      again

  -- the memory at the later line
  there : (m : Contents) (earlier between : List Line) (r : Request) (answer : Result Outcome Refusal)
      → end_of m (earlier ++ (line_answering r answer ∷ between)) ≡ end_of (after_request (end_of m earlier) r) between
  there m earlier between r answer = join m earlier (line_answering r answer ∷ between)

  pub told_alike : (m : Contents) (trace : List Line) (r : Request) (first second : Entry)
      → (it : ToldTwice m trace r first second) → IsAlike (at_other m it.stand) r first second
  told_alike m trace r first second it =
      let earlier = it.stand.earlier in
      let between = it.stand.between in
      let later = it.stand.later in
      let legal = subst (IsLegal m) it.stand.is it.legal in
      let rest = (legal_join m earlier (line_telling r first ∷ (between ++ (line_telling r second ∷ later)))).0 legal in
      subst (λ (x : Contents). IsAlike x r first second) (sym (there m earlier between r (Ok (Tells first))))
      (told_at (end_of m earlier) between later r first second
      (subst WaitingAgrees (sym (run m earlier)) (agrees_after next m (commands_of earlier) it.agrees)) rest.1)

  pub acts_once : ((m : Contents) (r again : Request) (commands : List Command) → IsTrue (is_accepted m (Asks r))
      → asker again ≡ asker r → IsFalse (is_accepted (after (after_request m r) commands) (Asks again)))
      → (m : Contents) (trace : List Line) (r again : Request) (it : AskTwice m trace r again)
      → is_accepted (at_other m it.stand) (Asks again) ≡ false
  acts_once once m trace r again it =
      let earlier = it.stand.earlier in
      let between = it.stand.between in
      by_is_false (is_accepted (at_other m it.stand) (Asks again))
      (subst (λ (x : Contents). IsFalse (is_accepted x (Asks again)))
      (sym (there m earlier between r it.answer ∙ run (after_request (end_of m earlier) r) between))
      (once (end_of m earlier) r again (commands_of between) (is_true _ it.accepted) it.same))
