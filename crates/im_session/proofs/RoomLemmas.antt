-- What turns that make room come to.
use Rattle.std.proofs.Common.{◌≡◌, true, Ok, Err, Result, sym, refl, ap, ◌∙◌, inl, inr, ⊎_elim}
use Rattle.im_types.specs.Types.{Refusal, Device, Failed}
use Rattle.{im_laws.proofs.Tests.true_or_false, im_checkpoint.specs.declared.TurnDone.TurnDone}
use Rattle.im_engine.specs.{Answered.TurnAnswered, State.EngineState}
use Rattle.im_session.specs.{Kept.session_of, Kept.SessionState, Serving.IsBroken, Serving.Rests}

pub rests_none : {D : Type 0} (s : SessionState D) → Rests s s
rests_none s = record { same = refl; memory = refl; count = refl }

pub rests_then : {D : Type 0} (a b c : SessionState D) → Rests a b → Rests b c → Rests a c
rests_then {D} a b c first second = record {
  same = second.same ∙ ap (λ (s : SessionState D). session_of s.start s.put s.doubt c.engine) first.same;
  memory = second.memory ∙ first.memory;
  count = second.count ∙ first.count;
}

-- a turn that is done leaves it open whether the engine works
pub turn_works : {D : Type 0} (mid new : EngineState D) (a : Result TurnDone Refusal) (done : TurnDone)
    → TurnAnswered mid a new → a ≡ Ok done → new.failed ≡ mid.failed
turn_works {D} mid new a done it is = ⊎_elim
    (λ dead. absurd (ok_err done Failed (sym is ∙ (it.dead dead).0)))
    (λ f. ⊎_elim
    (λ taken. taken.2.alive ∙ sym f)
    (λ fault. absurd (ok_err done Device (sym is ∙ fault.0)))
    (it.alive f))
    (true_or_false mid.failed)
  where
    ok_err : (d : TurnDone) (e : Refusal) → Ok d ≡ Err e → ⊥
    ok_err d e is = cc

-- a turn that is refused
pub broken : {D : Type 0} (mid new : EngineState D) (a : Result TurnDone Refusal) (e : Refusal) → TurnAnswered mid a new
    → a ≡ Err e → IsBroken e × (new.failed ≡ true)
broken {D} mid new a e it is = ⊎_elim
    (λ dead. (
      inr (same e Failed (sym is ∙ (it.dead dead).0)),
      ap (λ (s : EngineState D). s.failed) (it.dead dead).1 ∙ dead,
    ))
    (λ f. ⊎_elim
    (λ done. absurd (other e done.0 (sym is ∙ done.1)))
    (λ fault. (inl (same e Device (sym is ∙ fault.0)), ap (λ (s : EngineState D). s.failed) fault.1))
    (it.alive f))
    (true_or_false mid.failed)
  where
    same : (e r : Refusal) → ◌≡◌ {A = Result TurnDone Refusal} (Err e) (Err r) → e ≡ r
    same e r is = cc

    other : (e : Refusal) (d : TurnDone) → Err e ≡ Ok d → ⊥
    other e d is = cc
