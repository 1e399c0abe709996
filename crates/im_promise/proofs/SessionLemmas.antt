-- What an opening finds after a crash of a session's disk.
use Rattle.std.proofs.Common.{◌≡◌, ℕ, ◌+◌, ◌⊎◌, List, [], ◌++◌, length, IfOk, IfErr, Ok, Err, Result, sym, refl, subst}
use Rattle.std.proofs.Common.{inl, inr, ⊎_elim, append-nil}
use Rattle.im_types.specs.Types.{Command, Refusal, Device, NoMemory, Contents, after}
use Rattle.im_disk.specs.Recording.{Recording}
use Rattle.im_engine.specs.State.{EngineState, IsFirstFault, MeansState}
use Rattle.im_session.specs.{declared.Answer.Answer, declared.Event.Event, Events.after_events}
use Rattle.im_session.specs.Kept.{MeansPut, session_of, SessionState, start_at}
use Rattle.im_promise.proofs.{Answering.AreTold, Recovering.MeansOne, Recovering.NoFault}
use Rattle.im_promise.specs.Recovery.{HasNoRoom, Recovers, RecoversSession}

-- the file means the memory after what was acknowledged, with or without what is in doubt
abbrev pub MeansEnd : {D : Type 0} → SessionState D → List ℕ → Type 0
MeansEnd s file = MeansPut s.start s.put file ⊎ MeansPut s.start (s.put ++ s.doubt) file

module _ {D : Type 0} (s : SessionState D) (left : List ℕ → Type 0)
    (said : (file : List ℕ) → left file → MeansEnd s file) where
  pub session_found : (r : Result (EngineState Recording) Refusal) → MeansOne
      → IfOk r (λ e. left e.disk.moment.bytes) → IfOk r (λ e. MeansState e e.disk.moment.bytes)
      → IfOk r (λ e. RecoversSession s e.memory e.count)
  session_found (Err e) one was means = tt
  session_found (Ok e) one was means = ⊎_elim
      (λ without. by_also [] (inl refl)
      (subst (λ (l : List Command). MeansPut s.start l e.disk.moment.bytes) (sym (append-nil s.put)) without))
      (λ all. by_also s.doubt (inr refl) all)
      (said e.disk.moment.bytes was)
    where
      by_also : (also : List Command) → (also ≡ []) ⊎ (also ≡ s.doubt) → MeansPut s.start (s.put ++ also) e.disk.moment.bytes
          → RecoversSession s e.memory e.count
      by_also also or_not it =
          let same = one e.disk.moment.bytes e.memory (after s.start.memory (s.put ++ also)) e.count _ e.room 0 means it in
          record { also = also; or_not = or_not; memory = same.0; count = same.1 }

  none_refused : NoFault → (e : Refusal) (file : List ℕ) → IsFirstFault e file → MeansEnd s file → ⊥
  none_refused none e file fault (inl it) =
      none file e (after s.start.memory s.put) (s.start.count + length s.put) 0 fault it
  none_refused none e file fault (inr it) =
      none file e (after s.start.memory (s.put ++ s.doubt)) (s.start.count + length (s.put ++ s.doubt)) 0 fault it

  pub session_refused : {X : Type 0} (r : Result X Refusal) → NoFault
      → IfErr r (λ e. (e ≡ NoMemory) ⊎ (e ≡ Device) ⊎ ((file : List ℕ) × left file × IsFirstFault e file))
      → IfErr r (λ e. HasNoRoom e)
  session_refused (Ok x) none it = tt
  session_refused (Err e) none it = ⊎_elim (λ want. inl want)
      (λ more. ⊎_elim (λ device. inr device)
      (λ fault. absurd (none_refused none e fault.0 fault.2 (said fault.0 fault.1))) more) it

-- what a run of events comes to, if its session is recovered
pub recovered : {D : Type 0} (s : EngineState D) (new : SessionState D) (events : List Event) (answers : List Answer)
    → new ≡ after_events (session_of (start_at s.disk s) [] [] s) events answers new.engine
    → AreTold s.memory s.count s.ahead events answers → (m : Contents) (n : ℕ) → RecoversSession new m n
    → Recovers s.memory s.count s.ahead events answers m n
recovered {D} s new events answers is told m n it =
    let there : RecoversSession (after_events (session_of (start_at s.disk s) [] [] s) events answers new.engine) m n
    = subst (λ (x : SessionState D). RecoversSession x m n) is it in record {
      answered = told.answered;
      one_in_doubt = told.one;
      few_in_doubt = told.few;
      also = there.also;
      or_not = there.or_not;
      memory = there.memory;
      count = there.count;
    }
