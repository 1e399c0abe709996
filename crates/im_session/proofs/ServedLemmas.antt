-- What a served command comes to, for whoever holds a session.
use Rattle.std.proofs.Common.{◌≡◌, Bool, true, false, ◌&&◌, ◌⊎◌, List, [], ◌∷◌, ◌++◌, if◌then◌else◌, IsOk, Ok, Err}
use Rattle.std.proofs.Common.{Result, sym, refl, ap, ◌∙◌, subst, ap₂, inl, inr, ⊎_elim, append-nil}
use Rattle.im_types.specs.Types.{Command, Outcome, Refusal, JournalFull, Device, Failed, Contents, step, is_accepted}
use Rattle.im_types.specs.Types.{accepted}
use Rattle.im_laws.proofs.AcceptLemmas.{accepted-ok, unaccepted-leaves}
use Rattle.im_laws.proofs.Tests.{true_false, true_or_false}
use Rattle.im_checkpoint.proofs.Fitting.{none_or_some}
use Rattle.im_engine.specs.{Answered.Answered, Answered.is_device, State.EngineState}
use Rattle.im_session.specs.{Kept.session_of, Kept.SessionState, Put.doubted_by, Put.sure_by}
use Rattle.im_session.specs.Serving.{CommandRefused, CommandServed, Rests, served_one}

ok_err : (x : Outcome) (e : Refusal) → ◌≡◌ {A = Result Outcome Refusal} (Ok x) (Err e) → ⊥
ok_err x e is = cc

-- what is put and in doubt of a command that changes nothing
pub unsure : (m : Contents) (c : Command) (a : Result Outcome Refusal) → is_accepted m c ≡ false → sure_by m c a ≡ []
unsure m c (Ok o) e = ap (λ (b : Bool). if b then c ∷ [] else []) e
unsure m c (Err r) e = refl

pub undoubted : (m : Contents) (c : Command) (a : Result Outcome Refusal) → is_accepted m c ≡ false
    → doubted_by m c a ≡ []
undoubted m c (Ok o) e = refl
undoubted m c (Err r) e = ap (λ (b : Bool). if b && is_device r then c ∷ [] else []) e

pub not_device : (m : Contents) (c : Command) (r : Refusal) → is_device r ≡ false → doubted_by m c (Err r) ≡ []
not_device m c r e = by_test (is_accepted m c) (is_device r) e
  where
    by_test : (b p : Bool) → p ≡ false → (if b && p then c ∷ [] else []) ≡ []
    by_test true true e = absurd (cc)
    by_test true false e = refl
    by_test false p e = refl

-- an answer that is no refusal is the step's
record Did {D : Type 0} (mid new : EngineState D) (c : Command) (o : Outcome) : Type 0 where
  answer : (step mid.memory c).answer ≡ Ok o
  memory : new.memory ≡ (step mid.memory c).contents
  works : new.failed ≡ false

did_by : {D : Type 0} (mid new : EngineState D) (c : Command) (a : Result Outcome Refusal) (o : Outcome)
    → Answered mid c a new → a ≡ Ok o → Did mid new c o
did_by {D} mid new c a o it is = ⊎_elim
    (λ dead. absurd (ok_err o Failed (sym is ∙ (it.dead dead).0)))
    (λ f. ⊎_elim
    (λ e. ⊎_elim
    (λ none. absurd (ok_err o JournalFull (sym is ∙ (it.full f e none).0)))
    (λ some. ⊎_elim
    (λ done. record {
      answer = sym done.0 ∙ is;
      memory = ap (λ (s : EngineState D). s.memory) done.1;
      works = ap (λ (s : EngineState D). s.failed) done.1 ∙ f;
    })
    (λ fault. absurd (ok_err o Device (sym is ∙ fault.0)))
    (it.put f e some))
    (none_or_some mid.room))
    (λ un. let same = it.unaccepted f un in record {
      answer = sym same.0 ∙ is;
      memory = ap (λ (s : EngineState D). s.memory) same.1 ∙ sym (unaccepted-leaves mid.memory c un);
      works = ap (λ (s : EngineState D). s.failed) same.1 ∙ f;
    })
    (true_or_false (is_accepted mid.memory c)))
    (true_or_false mid.failed)

-- a refusal leaves the memory
stays_by : {D : Type 0} (mid new : EngineState D) (c : Command) (a : Result Outcome Refusal) (r : Refusal)
    → Answered mid c a new → a ≡ Err r → new.memory ≡ mid.memory
stays_by {D} mid new c a r it is = ⊎_elim
    (λ dead. ap (λ (s : EngineState D). s.memory) (it.dead dead).1)
    (λ f. ⊎_elim
    (λ e. ⊎_elim
    (λ none. ap (λ (s : EngineState D). s.memory) (it.full f e none).1)
    (λ some. ⊎_elim
    (λ done. absurd (no_refusal e (sym done.0 ∙ is)))
    (λ fault. ap (λ (s : EngineState D). s.memory) fault.1)
    (it.put f e some))
    (none_or_some mid.room))
    (λ un. ap (λ (s : EngineState D). s.memory) (it.unaccepted f un).1)
    (true_or_false (is_accepted mid.memory c)))
    (true_or_false mid.failed)
  where
    no_refusal : is_accepted mid.memory c ≡ true → (step mid.memory c).answer ≡ Err r → ⊥
    no_refusal e refused = true_false
        (sym (subst (λ (x : Result Outcome Refusal). IsOk x) refused (accepted-ok mid.memory c e)))

module _ {D : Type 0} (old new : SessionState D) (c : Command) (a : Result Outcome Refusal)
    (it : Answered old.engine c a new.engine) (put : new ≡ served_one old c a new.engine) where
  pub command_served : (o : Outcome) → a ≡ Ok o → CommandServed old c o new
  command_served o is = let done = did_by old.engine new.engine c a o it is in record {
    answer = done.answer;
    same = put ∙ ap (λ (x : Result Outcome Refusal). served_one old c x new.engine) is
        ∙ ap (λ (l : List Command). session_of old.start (old.put ++ accepted old.engine.memory (c ∷ [])) l new.engine)
        (append-nil old.doubt);
    memory = done.memory;
    works = done.works;
  }

  pub command_refused : (r : Refusal) → a ≡ Err r → CommandRefused old c new
  command_refused r is = record {
    start = ap (λ (s : SessionState D). s.start) put;
    put = ap (λ (s : SessionState D). s.put) put
        ∙ ap (λ (x : Result Outcome Refusal). old.put ++ sure_by old.engine.memory c x) is ∙ append-nil old.put;
    doubt = by_test (is_accepted old.engine.memory c) (is_device r) refl
        (ap (λ (s : SessionState D). s.doubt) put
        ∙ ap (λ (x : Result Outcome Refusal). old.doubt ++ doubted_by old.engine.memory c x) is);
    memory = stays_by old.engine new.engine c a r it is;
  }
    where
      by_test : (b p : Bool) → is_accepted old.engine.memory c ≡ b
          → new.doubt ≡ old.doubt ++ (if b && p then c ∷ [] else [])
          → (new.doubt ≡ old.doubt)
          ⊎ ((is_accepted old.engine.memory c ≡ true) × (new.doubt ≡ old.doubt ++ c ∷ []))
      by_test true true e same = inr (e, same)
      by_test true false e same = inl (same ∙ append-nil old.doubt)
      by_test false p e same = inl (same ∙ append-nil old.doubt)

-- the same behind a call that put nothing
module _ {D : Type 0} (old mid new : SessionState D) (rests : Rests old mid) (c : Command) where
  pub served_behind : (o : Outcome) → CommandServed mid c o new → CommandServed old c o new
  served_behind o it = record {
    answer = subst (λ (m : Contents). (step m c).answer ≡ Ok o) rests.memory it.answer;
    same = it.same
        ∙ ap₂ (λ (s : SessionState D) (m : Contents). session_of s.start (s.put ++ accepted m (c ∷ [])) s.doubt new.engine)
        rests.same rests.memory;
    memory = it.memory ∙ ap (λ (m : Contents). (step m c).contents) rests.memory;
    works = it.works;
  }

  pub refused_behind : CommandRefused mid c new → CommandRefused old c new
  refused_behind it = record {
    start = it.start ∙ ap (λ (s : SessionState D). s.start) rests.same;
    put = it.put ∙ ap (λ (s : SessionState D). s.put) rests.same;
    doubt = ⊎_elim (λ same. inl (same ∙ ap (λ (s : SessionState D). s.doubt) rests.same))
        (λ more. inr (
          subst (λ (m : Contents). is_accepted m c ≡ true) rests.memory more.0,
          more.1 ∙ ap (λ (s : SessionState D). s.doubt ++ c ∷ []) rests.same,
        ))
        it.doubt;
    memory = it.memory ∙ rests.memory;
  }

-- it is refused before it is served
pub rests_refused : {D : Type 0} (old new : SessionState D) (c : Command) → Rests old new → CommandRefused old c new
rests_refused {D} old new c rests = record {
  start = ap (λ (s : SessionState D). s.start) rests.same;
  put = ap (λ (s : SessionState D). s.put) rests.same;
  doubt = inl (ap (λ (s : SessionState D). s.doubt) rests.same);
  memory = rests.memory;
}

-- what a session comes to by a refusal that no call of the disk caused
pub refused_same : {D : Type 0} (s : SessionState D) (c : Command) (r : Refusal) → is_device r ≡ false
    → s ≡ served_one s c (Err r) s.engine
refused_same s c r none = sym (ap₂ (λ (put doubt : List Command). session_of s.start put doubt s.engine)
    (append-nil s.put)
    (ap (λ l. s.doubt ++ l) (not_device s.engine.memory c r none) ∙ append-nil s.doubt))
