-- Commands put while a script is served. (Own.)
use Rattle.std.proofs.Common.{◌≡◌, ℕ, ◌-◌, Bool, true, false, ◌||◌, List, [], ◌∷◌, length, IfOk, if◌then◌else◌, OnErr}
use Rattle.std.proofs.Common.{nat_lt, slice_get, None, Ok, Err, Result, sym, refl, ap, ◌∙◌, subst, arith}
use Rattle.im_types.specs.Types.{Request, Command, Outcome, Judged, Asks, Fresh, Refusal, Gap, Forgotten, WindowFull}
use Rattle.im_types.specs.Types.{WINDOW, LAST, Contents, next_number, judge_number, judge_window, judge, bounds}
use Rattle.im_types.specs.Types.{step_request, step, is_fresh, is_accepted}
use Rattle.{im_engine.specs.Answered.Answered, im_session.specs.Kept.SessionState}
use Rattle.im_session.proofs.ServedLemmas.{command_refused, command_served, refused_behind, served_behind}
use Rattle.im_session.specs.Serving.{CommandRefused, CommandServed, Rests, served_one}
use Rattle.im_text.proofs.WindowLemmas.{bounds_found, HasBounds, not_below}

-- ---- new requests

past_end : {A : Type 0} (xs : List A) → slice_get xs (length xs) ≡ None
past_end [] = refl
past_end (x ∷ xs) = past_end xs

-- a request with the next number is new, or refused
pub next_is_new : (m : Contents) (r : Request) (base : ℕ) (o : Outcome) → bounds m.windows r.element ≡ Ok (base, r.number) → (step m (Asks r)).answer ≡ Ok o → is_accepted m (Asks r) ≡ true
next_is_new m r base o is answer =
    let found = bounds_found (slice_get m.windows r.element) base r.number is in
    let judged = judged_next m r found in
    by_tests judged.0 judged.1.0 (subst (λ (j : Result Judged Refusal). (step_request m r j).answer ≡ Ok o) judged.1.1 answer) (sym (ap is_fresh judged.1.1))
  where
    judged_next : (m : Contents) (r : Request) → HasBounds (slice_get m.windows r.element) base r.number
        → (gap : Bool) × ((room : Bool) × (judge m.windows r ≡ (if gap then Err Gap else if room then Ok Fresh else Err WindowFull)))
    judged_next m r found =
        let w = found.window in (
          nat_lt (next_number w) r.number || nat_lt LAST r.number,
          (
            nat_lt (length w.kept) WINDOW,
            ap (judge_window r) found.found_is
                ∙ ap (λ (b : Bool). if b then Err Forgotten else judge_number w r (slice_get w.kept (r.number - w.base))) (not_below r.number w.base (omega (arith, found.next_is)))
                ∙ ap (judge_number w r) (ap (slice_get w.kept) (omega (arith, found.next_is)) ∙ past_end w.kept),
          ),
        )

    by_tests : (gap room : Bool) → (step_request m r (if gap then Err Gap else if room then Ok Fresh else Err WindowFull)).answer ≡ Ok o
        → is_fresh (if gap then Err Gap else if room then Ok Fresh else Err WindowFull) ≡ is_accepted m (Asks r) → is_accepted m (Asks r) ≡ true
    by_tests true room answer same = absurd (cc)
    by_tests false true answer same = sym same
    by_tests false false answer same = absurd (cc)

-- ---- one command, behind the turns that made room for it

module _ {D : Type 0} (old mid new : SessionState D) (c : Command) where
  pub one_served : (a : Result Outcome Refusal) → Rests old mid → Answered mid.engine c a new.engine
      → new ≡ served_one mid c a new.engine → IfOk a (λ o. CommandServed old c o new)
  one_served (Ok o) rests it put =
      served_behind old mid new rests c o (command_served mid new c (Ok o) it put o refl)
  one_served (Err e) rests it put = tt

  pub one_refused : (a : Result Outcome Refusal) → Rests old mid → Answered mid.engine c a new.engine
      → new ≡ served_one mid c a new.engine → OnErr a (CommandRefused old c new)
  one_refused (Ok o) rests it put = tt
  one_refused (Err e) rests it put =
      refused_behind old mid new rests c (command_refused mid new c (Err e) it put e refl)
