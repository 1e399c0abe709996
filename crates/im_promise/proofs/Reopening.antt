-- An image that is opened again.
use Rattle.std.proofs.Common.{◌≡◌, ℕ, ◌⊎◌, List, IfOk, IfErr, Ok, Err, Result, subst, inl, inr, ⊎_elim}
use Rattle.im_types.specs.Types.{Command, Refusal, Device, NoMemory, Contents}
use Rattle.{im_disk.specs.Recording.Recording, im_session.specs.declared.Event.Event}
use Rattle.im_engine.specs.State.{EngineState, IsFirstFault, MeansState}
use Rattle.im_promise.proofs.Recovering.{MeansOne, NoFault, still_means}
use Rattle.im_promise.specs.{declared.recovery.Recovered.Recovered, Recovery.Recovers}

-- a run after an opening that found the same
pub again_by : (m n : Contents) (count other : ℕ) (ahead there : List Command) (events : List Event)
    (r : Result Recovered Refusal) → n ≡ m → other ≡ count → there ≡ ahead
    → IfOk r (λ x. Recovers n other there events x.answers.items x.engine.memory x.engine.count)
    → IfOk r (λ x. Recovers m count ahead events x.answers.items x.engine.memory x.engine.count)
again_by m n count other ahead there events (Ok x) same counted line it =
    subst (λ (l : List Command). Recovers m count l events x.answers.items x.engine.memory x.engine.count) line
    (subst (λ (y : Contents). Recovers y count there events x.answers.items x.engine.memory x.engine.count) same
    (subst (λ (k : ℕ). Recovers n k there events x.answers.items x.engine.memory x.engine.count) counted it))
again_by m n count other ahead there events (Err e) same counted line it = tt

-- an opening that found what was left
pub same_by : (s : EngineState Recording) (left : List ℕ → Type 0) (r : Result (EngineState Recording) Refusal)
    → MeansOne → ((file : List ℕ) → left file → MeansState s file)
    → IfOk r (λ e. left e.disk.moment.bytes) → IfOk r (λ e. MeansState e e.disk.moment.bytes)
    → IfOk r (λ e. (e.memory ≡ s.memory) × (e.count ≡ s.count))
same_by s left (Ok e) one said was means = still_means s e e.disk.moment.bytes one (said e.disk.moment.bytes was) means
same_by s left (Err e) one said was means = tt

pub refused_by : {X : Type 0} (s : EngineState Recording) (left : List ℕ → Type 0) (r : Result X Refusal) → NoFault
    → ((file : List ℕ) → left file → MeansState s file)
    → IfErr r (λ e. (e ≡ NoMemory) ⊎ (e ≡ Device) ⊎ ((file : List ℕ) × left file × IsFirstFault e file))
    → IfErr r (λ e. (e ≡ NoMemory) ⊎ (e ≡ Device))
refused_by s left (Ok x) none said it = tt
refused_by s left (Err e) none said it =
    ⊎_elim (λ want. inl want)
    (λ more. ⊎_elim (λ device. inr device)
    (λ fault. absurd (none fault.0 e s.memory s.count s.room fault.2 (said fault.0 fault.1))) more) it

-- ---- under a premise

module _ {X : Type 0} (P : Type 0) where
  pub under : (Q : X → Type 0) (r : Result X Refusal) → (P → IfOk r Q) → IfOk r (λ x. P → Q x)
  under Q (Ok x) it = it
  under Q (Err e) it = tt

  pub over : (Q : X → Type 0) (r : Result X Refusal) → P → IfOk r (λ x. P → Q x) → IfOk r Q
  over Q (Ok x) p it = it p
  over Q (Err e) p it = tt

  pub under_err : (Q : Refusal → Type 0) (r : Result X Refusal) → (P → IfErr r Q) → IfErr r (λ e. P → Q e)
  under_err Q (Ok x) it = tt
  under_err Q (Err e) it = it
