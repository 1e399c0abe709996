-- A group, and what an opening after a crash finds of it.
use Rattle.std.proofs.Common.{◌≡◌, ℕ, ◌+◌, ◌<◌, true, false, ◌⊎◌, List, [], ◌∷◌, length, IfOk, IfErr, Ok, Err, Result}
use Rattle.std.proofs.Common.{sym, refl, ap, ◌∙◌, subst, inl, inr, ⊎_elim, arith}
use Rattle.im_types.specs.Types.{Request, Command, Served, Refusal, Device, NoMemory, Contents, after, reached_by_all}
use Rattle.im_types.specs.Types.{puts_of, Reached}
use Rattle.im_disk.specs.Recording.{Recording}
use Rattle.im_engine.specs.Groups.{after_group, all_refused, group_put, GroupAnswered, reached_in}
use Rattle.im_engine.specs.State.{EngineState, IsFirstFault, MeansEither, MeansState}
use Rattle.im_session.specs.{declared.Answer.Answer, declared.Event.Event, Events.has_device}
use Rattle.im_promise.proofs.Recovering.{MeansOne, NoFault, still_means}
use Rattle.im_promise.specs.Groups.{GroupAskedOverACrash, GroupSaidAgain, HasMore, IsGroupAnswer, RecoversGroup}
use Rattle.im_promise.specs.Recovery.{Recovers}

-- what a group comes to, by the commands that it puts into the journal
pub record GroupsAreRuns : Type 0 where
  pub memory : (s : Reached) (members : List Request)
      → (reached_by_all s members).contents ≡ after s.contents (puts_of s members)
  pub count : (s : Reached) (members : List Request)
      → (reached_by_all s members).count ≡ s.count + length (puts_of s members)

module _ {D E : Type 0} (s n : EngineState D) (e : EngineState E) (members : List Request) (answers : List Served)
    (f : s.failed ≡ false) (one : MeansOne) (runs : GroupsAreRuns)
    (answered : GroupAnswered s members answers n) (file : List ℕ) (doubt : MeansEither s (after_group s members) file)
    (sure : n.failed ≡ false → MeansState n file) (means : MeansState e file) where
  has_all : MeansState (after_group s members) file → HasMore s (group_put s members) e
  has_all said =
      let same = still_means (after_group s members) e file one said means in
      record {
        memory = same.0 ∙ runs.memory (reached_in s) members;
        count = same.1 ∙ runs.count (reached_in s) members;
      }

  has_none : MeansState s file → HasMore s [] e
  has_none said =
      let same = still_means s e file one said means in
      record { memory = same.0; count = omega (arith, same.1) }

  by_put : (put : List Command) → group_put s members ≡ put → RecoversGroup s members answers e
  by_put [] none =
      let it = answered.none f none in
      let said : MeansState s file =
      subst (λ (x : EngineState D). MeansState x file) it.1 (sure (ap (λ (x : EngineState D). x.failed) it.1 ∙ f)) in
      inl (it.0, subst (λ (l : List Command). HasMore s l e) (sym none) (has_none said))
  by_put (command ∷ commands) some = ⊎_elim
      (λ done. inl (
        done.0,
        has_all
            (subst (λ (x : EngineState D). MeansState x file) done.1
            (sure (ap (λ (x : EngineState D). x.failed) done.1 ∙ f))),
      ))
      (λ failed. inr (failed.0, ⊎_elim (λ before. inl (has_none before)) (λ all. inr (has_all all)) doubt))
      (answered.put f (omega (arith, ap length some)))

  pub group_found : RecoversGroup s members answers e
  group_found = by_put (group_put s members) refl

-- the engine that an opening gives
pub group_by : {D : Type 0} (s n : EngineState D) (members : List Request) (answers : List Served)
    (left : List ℕ → Type 0) (r : Result (EngineState Recording) Refusal) → s.failed ≡ false → MeansOne → GroupsAreRuns
    → GroupAnswered s members answers n → ((file : List ℕ) → left file → MeansEither s (after_group s members) file)
    → (n.failed ≡ false → (file : List ℕ) → left file → MeansState n file)
    → IfOk r (λ e. left e.disk.moment.bytes) → IfOk r (λ e. MeansState e e.disk.moment.bytes)
    → IfOk r (λ e. RecoversGroup s members answers e)
group_by s n members answers left (Ok e) f one runs answered doubt sure was means =
    let file = e.disk.moment.bytes in
    group_found s n e members answers f one runs answered file (doubt file was) (λ works. sure works file was) means
group_by s n members answers left (Err e) f one runs answered doubt sure was means = tt

-- its files mean something, so no fault of the image is told
no_fault : {D : Type 0} (s : EngineState D) (members : List Request) (e : Refusal) (file : List ℕ) → NoFault
    → MeansEither s (after_group s members) file → IsFirstFault e file → ⊥
no_fault s members e file none (inl before) fault = none file e s.memory s.count s.room fault before
no_fault s members e file none (inr all) fault =
    let s2 = after_group s members in
    none file e s2.memory s2.count s2.room fault all

pub group_refused : {D X : Type 0} (s : EngineState D) (members : List Request) (left : List ℕ → Type 0)
    (r : Result X Refusal) → NoFault → ((file : List ℕ) → left file → MeansEither s (after_group s members) file)
    → IfErr r (λ e. (e ≡ NoMemory) ⊎ (e ≡ Device) ⊎ ((file : List ℕ) × left file × IsFirstFault e file))
    → IfErr r (λ e. (e ≡ NoMemory) ⊎ (e ≡ Device))
group_refused s members left (Ok x) none said it = tt
group_refused s members left (Err e) none said it =
    ⊎_elim (λ want. inl want)
    (λ more. ⊎_elim (λ device. inr device)
    (λ fault. absurd (no_fault s members e fault.0 none (said fault.0 fault.1) fault.2)) more) it

-- ---- the answers to a group

pub group_answer : {D : Type 0} (old new : EngineState D) (members : List Request) (answers : List Served)
    → old.failed ≡ false → GroupAnswered old members answers new → IsGroupAnswer old members answers
group_answer {D} old new members answers f answered = by_put (group_put old members) refl
  where
    by_put : (put : List Command) → group_put old members ≡ put → IsGroupAnswer old members answers
    by_put [] none = inl (answered.none f none).0
    by_put (command ∷ commands) some =
        let many : 0 < length (group_put old members) = omega (arith, ap length some) in
        ⊎_elim (λ done. inl done.0) (λ failed. inr failed.0) (answered.put f many)

-- ---- a group that no member of which was answered `Device`

-- the engine after it
pub record GroupActed {D : Type 0} (old : EngineState D) (members : List Request) (new : EngineState D) : Type 0 where
  pub works : new.failed ≡ false
  pub memory : new.memory ≡ (after_group old members).memory
  pub count : new.count ≡ (after_group old members).count
  pub ahead : (new.ahead ≡ old.ahead) ⊎ (new.ahead ≡ [])

pub group_acted : {D : Type 0} (old new : EngineState D) (members : List Request) (answers : List Served)
    → GroupsAreRuns → ((s : Reached) (rs : List Request) → 0 < length (puts_of s rs)
    → has_device (all_refused Device rs) ≡ true)
    → old.failed ≡ false → GroupAnswered old members answers new → has_device answers ≡ false
    → GroupActed old members new
group_acted {D} old new members answers runs fault f answered quiet = by_put (group_put old members) refl
  where
    by_put : (put : List Command) → group_put old members ≡ put → GroupActed old members new
    by_put [] none =
        let it = answered.none f none in
        record {
          works = ap (λ (s : EngineState D). s.failed) it.1 ∙ f;
          memory =
              ap (λ (s : EngineState D). s.memory) it.1 ∙ sym
              (runs.memory (reached_in old) members ∙ ap (λ (l : List Command). after old.memory l) none);
          count =
              ap (λ (s : EngineState D). s.count) it.1 ∙ omega
              (arith, runs.count (reached_in old) members, ap length none);
          ahead = inl (ap (λ (s : EngineState D). s.ahead) it.1);
        }
    by_put (command ∷ commands) some =
        let many : 0 < length (group_put old members) = omega (arith, ap length some) in
        ⊎_elim
        (λ done. record {
          works = ap (λ (s : EngineState D). s.failed) done.1 ∙ f;
          memory = ap (λ (s : EngineState D). s.memory) done.1;
          count = ap (λ (s : EngineState D). s.count) done.1;
          ahead = inr (ap (λ (s : EngineState D). s.ahead) done.1);
        })
        (λ failed. let both : true ≡ false = sym (ap has_device failed.0 ∙ fault (reached_in old) members many) ∙ quiet
        in absurd (cc))
        (answered.put f many)

-- and what came of it over a crash
pub group_asked : {D E : Type 0} (old mid : EngineState D) (opened new : EngineState E) (members : List Request)
    (events : List Event) (answers : List Answer) (said : List Served) → GroupActed old members mid
    → opened.failed ≡ false
    → Recovers mid.memory mid.count mid.ahead events answers opened.memory opened.count
    → GroupSaidAgain (reached_in old) opened members said new
    → GroupAskedOverACrash old members events answers said new
group_asked old mid opened new members events answers said acted works found again = record {
  ahead = mid.ahead;
  left = acted.ahead;
  opened = opened;
  works = works;
  once =
      subst (λ (k : ℕ). Recovers (after_group old members).memory k mid.ahead events answers opened.memory
      opened.count) acted.count
      (subst (λ (x : Contents). Recovers x mid.count mid.ahead events answers opened.memory opened.count) acted.memory
      found);
  again = again;
}
