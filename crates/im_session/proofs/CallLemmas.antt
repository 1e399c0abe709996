-- What each call of an engine comes to.
use Rattle.std.proofs.Common.{◌≡◌, ℕ, ◌+◌, ◌<◌, Bool, true, false, ◌&&◌, ◌⊎◌, List, [], ◌∷◌, length, if◌then◌else◌, Ok}
use Rattle.std.proofs.Common.{Err, Result, sym, refl, ap, ◌∙◌, ap₂, inl, inr, ⊎_elim, arith}
use Rattle.im_types.specs.Types.{Command, Outcome, Served, Refusal, JournalFull, Failed, step, is_accepted, after}
use Rattle.{im_laws.proofs.Tests.true_or_false, im_disk.specs.declared.Disk.Ghosts, im_disk.specs.Moment.Faults}
use Rattle.im_groups.{proofs.CommandLemmas.at-accepts, proofs.CommandLemmas.at-after, specs.Commands.places}
use Rattle.im_checkpoint.{proofs.Fitting.none_or_some, specs.declared.TurnDone.TurnDone}
use Rattle.im_engine.{proofs.Accepting.accepted_answers, specs.Chain.Advances, specs.Chain.ServesAhead}
use Rattle.im_engine.specs.Answered.{Answered, is_device, SweepAnswered, TurnAnswered}
use Rattle.im_engine.specs.Commands.{after_commands, commands_put, CommandsAnswered, ServesCommands}
use Rattle.im_engine.specs.State.{EngineState, MeansEither, MeansState, with_command}
use Rattle.im_session.proofs.AcceptedLemmas.{accepted_each, one_accepted}
use Rattle.im_session.proofs.KeptLemmas.{Accepted, all_of, CallLeaves, GoesOn, MeansWithOrWithout, none_of, puts_all}
use Rattle.im_session.proofs.KeptLemmas.{puts_none, puts_nothing, rose_by, steady_by}
use Rattle.im_session.proofs.ServedLemmas.{not_device, undoubted, unsure}
use Rattle.im_session.specs.Put.{doubted_by, doubted_of, sure_by, sure_of}

-- ---- a command

module _ {D : Type 0} (disk : Ghosts D) (mid new : EngineState D) (c : Command) (a : Result Outcome Refusal)
    (it : Answered mid c a new) (call : CallLeaves disk mid new (MeansEither mid (with_command mid c)))
    (cause : Faults (λ e. Unit {0}) a (disk.failures mid.disk) (disk.failures new.disk)) where
  abbrev Goes : Type 0
  Goes = GoesOn disk mid new (sure_by mid.memory c a) (doubted_by mid.memory c a)

  refused : (r : Refusal) → a ≡ Err r → is_device r ≡ false → new ≡ mid → Goes
  refused r is e same = inl (record {
    same = same;
    none_sure = ap (sure_by mid.memory c) is;
    none_doubted = ap (doubted_by mid.memory c) is ∙ not_device mid.memory c r e;
  })

  either : (file : List ℕ) → MeansEither mid (with_command mid c) file → MeansWithOrWithout mid [] (c ∷ []) file
  either file (inl old) = none_of mid (c ∷ []) file old
  either file (inr with_it) = inr (all_of mid (c ∷ []) (step mid.memory c).contents (mid.count + 1) _ file refl refl
      with_it)

  accepted : mid.failed ≡ false → is_accepted mid.memory c ≡ true → Goes
  accepted f e = ⊎_elim
      (λ none. let full = it.full f e none in refused JournalFull full.0 refl full.1)
      (λ some. ⊎_elim
      (λ done.
      let o = accepted_answers mid.memory c e in
      let is : a ≡ Ok o.0 = done.0 ∙ o.1 in
      let sure : sure_by mid.memory c a ≡ c ∷ []
      = ap (sure_by mid.memory c) is ∙ ap (λ (b : Bool). if b then c ∷ [] else []) e in
      let doubt : doubted_by mid.memory c a ≡ [] = ap (doubted_by mid.memory c) is in
      inr (rw (sure, doubt) (puts_all disk mid new (MeansEither mid (with_command mid c)) call f (c ∷ [])
      (one_accepted mid.memory c e) either
      (ap (λ (s : EngineState D). s.memory) done.1) (ap (λ (s : EngineState D). s.count) done.1)
      (ap (λ (s : EngineState D). s.failed) done.1 ∙ f) (steady_by a o.0 _ _ cause is))))
      (λ fault.
      let sure : sure_by mid.memory c a ≡ [] = ap (sure_by mid.memory c) fault.0 in
      let doubt : doubted_by mid.memory c a ≡ c ∷ []
      = ap (doubted_by mid.memory c) fault.0 ∙ ap (λ (b : Bool). if b && true then c ∷ [] else []) e in
      inr (rw (sure, doubt) (puts_none disk mid new (MeansEither mid (with_command mid c)) call f (c ∷ [])
      (one_accepted mid.memory c e) either
      fault.1 (rose_by a _ _ cause fault.0))))
      (it.put f e some))
      (none_or_some mid.room)

  pub command_goes : Goes
  command_goes = ⊎_elim
      (λ dead. let gone = it.dead dead in refused Failed gone.0 refl gone.1)
      (λ f. ⊎_elim
      (λ e. accepted f e)
      (λ un. inl (record {
        same = (it.unaccepted f un).1;
        none_sure = unsure mid.memory c a un;
        none_doubted = undoubted mid.memory c a un;
      }))
      (true_or_false (is_accepted mid.memory c)))
      (true_or_false mid.failed)

-- ---- a turn, and a sweep

module _ {D : Type 0} (disk : Ghosts D) (mid new : EngineState D) (call : CallLeaves disk mid new (MeansState mid))
  where
    stood : (file : List ℕ) → MeansState mid file → MeansWithOrWithout mid [] [] file
    stood file image = none_of mid [] file image

    pub turn_goes : (a : Result TurnDone Refusal) → TurnAnswered mid a new
        → Faults (λ e. Unit {0}) a (disk.failures mid.disk) (disk.failures new.disk) → GoesOn disk mid new [] []
    turn_goes a it cause = ⊎_elim
        (λ dead. inl (record { same = (it.dead dead).1; none_sure = refl; none_doubted = refl }))
        (λ f. inr (⊎_elim
        (λ done. puts_all disk mid new (MeansState mid) call f [] refl stood done.2.memory
        (let n = done.2.count in omega (arith, n)) done.2.alive (steady_by a done.0 _ _ cause done.1))
        (λ fault. puts_none disk mid new (MeansState mid) call f [] refl stood fault.1 (rose_by a _ _ cause fault.0))
        (it.alive f)))
        (true_or_false mid.failed)

    pub sweep_goes : (most : ℕ) (a : Result ℕ Refusal) → SweepAnswered mid most a new
        → Faults (λ e. Unit {0}) a (disk.failures mid.disk) (disk.failures new.disk) → GoesOn disk mid new [] []
    sweep_goes most a it cause = ⊎_elim
        (λ dead. inl (record { same = (it.dead dead).1; none_sure = refl; none_doubted = refl }))
        (λ f. inr (⊎_elim
        (λ done. puts_all disk mid new (MeansState mid) call f [] refl stood
        (ap (λ (s : EngineState D). s.memory) done.1)
        (let n = ap (λ (s : EngineState D). s.count) done.1 in omega (arith, n))
        (ap (λ (s : EngineState D). s.failed) done.1 ∙ f) (steady_by a _ _ _ cause done.0))
        (λ fault. puts_none disk mid new (MeansState mid) call f [] refl stood fault.1 (rose_by a _ _ cause fault.0))
        (it.alive f)))
        (true_or_false mid.failed)

-- ---- commands that are put together

none_or_more : (l : List Command) → (l ≡ []) ⊎ (0 < length l)
none_or_more [] = inl refl
none_or_more (c ∷ l) = inr (omega arith)

module _ {D : Type 0} (mid : EngineState D) (members : List Command) where
  together : after mid.memory (commands_put mid members) ≡ (after_commands mid members).memory
  together = at-after mid.memory (places mid.count mid.room) members

  all_accepted : Accepted mid.memory (commands_put mid members)
  all_accepted = accepted_each mid.memory (commands_put mid members) _
      (at-accepts mid.memory (places mid.count mid.room) members)

  both : (file : List ℕ) → MeansEither mid (after_commands mid members) file
      → MeansWithOrWithout mid [] (commands_put mid members) file
  both file (inl old) = none_of mid (commands_put mid members) file old
  both file (inr all) = inr (all_of mid (commands_put mid members) (after_commands mid members).memory
      (after_commands mid members).count (after_commands mid members).room file (sym together) refl all)

module _ {D : Type 0} (disk : Ghosts D) (mid new : EngineState D) (members : List Command) (answers : List Served)
    (did : CommandsAnswered mid members answers new) (it : ServesCommands disk mid new members) where
  abbrev cs : List Command
  cs = commands_put mid members

  abbrev GoesTogether : Type 0
  GoesTogether = GoesOn disk mid new (sure_of new.failed cs) (doubted_of mid.failed new.failed cs)

  same_again : new ≡ mid → sure_of new.failed cs ≡ [] → doubted_of mid.failed new.failed cs ≡ [] → GoesTogether
  same_again same sure doubt = inl (record { same = same; none_sure = sure; none_doubted = doubt })

  call : CallLeaves disk mid new (MeansEither mid (after_commands mid members))
  call = record { since = it.leaves; now = it.doubt; means = it.means; honest = it.honest }

  failed_before : mid.failed ≡ true → GoesTogether
  failed_before dead =
      let same : new ≡ mid = (did.dead dead).1 in
      let gone : new.failed ≡ true = ap (λ (s : EngineState D). s.failed) same ∙ dead in
      same_again same (ap (λ (b : Bool). sure_of b cs) gone) (ap₂ (λ (b f : Bool). doubted_of b f cs) dead gone)

  worked_before : mid.failed ≡ false → GoesTogether
  worked_before works = ⊎_elim
      (λ none.
      let same : new ≡ mid = (did.none works none).1 in
      let alive : new.failed ≡ false = ap (λ (s : EngineState D). s.failed) same ∙ works in
      same_again same (ap₂ (λ (b : Bool) (l : List Command). sure_of b l) alive none)
      (ap (λ (b : Bool). doubted_of mid.failed b cs) alive))
      (λ some. ⊎_elim
      (λ done.
      let alive : new.failed ≡ false = ap (λ (s : EngineState D). s.failed) done.1 ∙ works in
      let sure : sure_of new.failed cs ≡ cs = ap (λ (b : Bool). sure_of b cs) alive in
      let doubt : doubted_of mid.failed new.failed cs ≡ [] = ap (λ (b : Bool). doubted_of mid.failed b cs) alive in
      inr (rw (sure, doubt) (puts_all disk mid new (MeansEither mid (after_commands mid members)) call works cs
      (all_accepted mid members) (both mid members)
      (ap (λ (s : EngineState D). s.memory) done.1 ∙ sym (together mid members))
      (ap (λ (s : EngineState D). s.count) done.1) alive (it.faults.steady (alive ∙ sym works)))))
      (λ fault.
      let dead : new.failed ≡ true = ap (λ (s : EngineState D). s.failed) fault.1 in
      let sure : sure_of new.failed cs ≡ [] = ap (λ (b : Bool). sure_of b cs) dead in
      let doubt : doubted_of mid.failed new.failed cs ≡ cs = ap₂ (λ (b f : Bool). doubted_of b f cs) works dead in
      inr (rw (sure, doubt) (puts_none disk mid new (MeansEither mid (after_commands mid members)) call works cs
      (all_accepted mid members) (both mid members) fault.1 (it.faults.failed works dead).0)))
      (did.put works some))
      (none_or_more cs)

  pub commands_go : GoesTogether
  commands_go = ⊎_elim failed_before worked_before (true_or_false mid.failed)

-- ---- a chain of groups

-- a refusal has its cause, whichever reasons there may be
caused_somehow : {T : Type 0} (r : Result T Refusal) (may : Refusal → Type 0) (old now : ℕ) → Faults may r old now
    → Faults (λ e. Unit {0}) r old now
caused_somehow (Ok x) may old now same = same
caused_somehow (Err e) may old now fault = (tt, fault.1, fault.2)

module _ {D : Type 0} (disk : Ghosts D) (mid new : EngineState D) (next : List Command) (result : Result ℕ Refusal)
    (answers : List Served) (most : ℕ) (did : Advances mid next result answers new)
    (it : ServesAhead disk mid new most result) where
  abbrev put : List Command
  put = commands_put mid mid.ahead

  abbrev GoesAhead : Type 0
  GoesAhead = GoesOn disk mid new (sure_of new.failed put) (doubted_of mid.failed new.failed put)

  call_ahead : CallLeaves disk mid new (MeansEither mid (after_commands mid mid.ahead))
  call_ahead = record { since = it.leaves; now = it.doubt; means = it.means; honest = it.honest }

  cause : Faults (λ e. Unit {0}) result (disk.failures mid.disk) (disk.failures new.disk)
  cause = caused_somehow result _ _ _ it.faults

  dead_ahead : mid.failed ≡ true → GoesAhead
  dead_ahead dead =
      let same : new ≡ mid = (did.dead dead).2 in
      let gone : new.failed ≡ true = ap (λ (s : EngineState D). s.failed) same ∙ dead in
      inl (record {
        same = same;
        none_sure = ap (λ (b : Bool). sure_of b put) gone;
        none_doubted = ap₂ (λ (b f : Bool). doubted_of b f put) dead gone;
      })

  alive_ahead : mid.failed ≡ false → GoesAhead
  alive_ahead works = ⊎_elim
      (λ done.
      let alive : new.failed ≡ false = ap (λ (s : EngineState D). s.failed) done.3 ∙ works in
      let sure : sure_of new.failed put ≡ put = ap (λ (b : Bool). sure_of b put) alive in
      let doubt : doubted_of mid.failed new.failed put ≡ [] = ap (λ (b : Bool). doubted_of mid.failed b put) alive in
      inr (rw (sure, doubt) (puts_all disk mid new (MeansEither mid (after_commands mid mid.ahead)) call_ahead works put
      (all_accepted mid mid.ahead) (both mid mid.ahead)
      (ap (λ (s : EngineState D). s.memory) done.3 ∙ sym (together mid mid.ahead))
      (ap (λ (s : EngineState D). s.count) done.3) alive (steady_by result done.0 _ _ cause done.1))))
      (λ fault.
      let dead : new.failed ≡ true = ap (λ (s : EngineState D). s.failed) fault.2 in
      let sure : sure_of new.failed put ≡ [] = ap (λ (b : Bool). sure_of b put) dead in
      let doubt : doubted_of mid.failed new.failed put ≡ put = ap₂ (λ (b f : Bool). doubted_of b f put) works dead in
      inr (rw (sure, doubt) (puts_nothing disk mid new (MeansEither mid (after_commands mid mid.ahead)) call_ahead
      works put
      (all_accepted mid mid.ahead) (both mid mid.ahead) dead (ap (λ (s : EngineState D). s.memory) fault.2)
      (ap (λ (s : EngineState D). s.count) fault.2) (rose_by result _ _ cause fault.0))))
      (did.alive works)

  pub advance_goes : GoesAhead
  advance_goes = ⊎_elim dead_ahead alive_ahead (true_or_false mid.failed)
