-- A request that is sent again, by the laws of steps.
use Rattle.std.proofs.Common.{◌≡◌, ℕ, ◌+◌, Bool, true, false, ◌⊎◌, List, [], ◌∷◌, ◌++◌, if◌then◌else◌, IsTrue, IsFalse}
use Rattle.std.proofs.Common.{Ok, Err, Result, sym, refl, ap, ◌∙◌, subst, inl, inr, ⊎_elim, arith}
use Rattle.im_types.specs.Types.{Entry, Waiter, Request, Command, Outcome, Asks, Tells, Refusal, Forgotten, JournalFull}
use Rattle.im_types.specs.Types.{Device, Contents, WaitingAgrees, bounds, Stepped, asker, step, is_accepted, after}
use Rattle.im_laws.specs.Entries.{IsRefused, IsToldAgainOrForgotten}
use Rattle.im_laws.specs.Windows.{AreNoLess, IsForgotten, TakesNextNumber}
use Rattle.im_engine.specs.Answered.{Answered}
use Rattle.im_engine.specs.State.{EngineState, IsFirstFault, MeansEither, with_command}
use Rattle.im_session.specs.declared.{Answer.Answer, Event.Event}
use Rattle.im_promise.{proofs.Answering.none_or_some, proofs.Recovering.NoFault, specs.Recovery.Recovers}
use Rattle.im_promise.specs.Again.{AskedOverACrash, count_after, HasNotActed, IsAnswerOf, IsSaidAgain, IsUnused}

pub said : {D : Type 0} (old new : EngineState D) (r : Request) (entry : Entry) (answer : Result Outcome Refusal)
    → old.failed ≡ false → Answered old (Asks r) answer new
    → IsToldAgainOrForgotten old.memory r entry
    → (IsForgotten old.memory.windows (asker r) → IsRefused old.memory r Forgotten)
    → ((step old.memory (Asks r)).contents ≡ old.memory → is_accepted old.memory (Asks r) ≡ false)
    → IsSaidAgain old.memory r entry answer × (new ≡ old) × (answer ≡ (step old.memory (Asks r)).answer)
said old new r entry answer f it again refused unaccepted = ⊎_elim
    (λ gone.
    let same = ap (λ (s : Stepped). s.contents) (refused gone) in
    let done = it.unaccepted f (unaccepted same) in
    (inl (gone, done.0 ∙ ap (λ (s : Stepped). s.answer) (refused gone)), done.1, done.0))
    (λ told.
    let same = ap (λ (s : Stepped). s.contents) told.told in
    let done = it.unaccepted f (unaccepted same) in
    (inr (told.entry, told.since, done.0 ∙ ap (λ (s : Stepped). s.answer) told.told), done.1, done.0))
    again

pub is_false_by : (b : Bool) → b ≡ false → IsFalse b
is_false_by true e = absurd (cc)
is_false_by false e = refl

pub by_is_false : (b : Bool) → IsFalse b → b ≡ false
by_is_false true n = absurd (cc)
by_is_false false n = refl

-- ---- sent for the first time

pub answer_of : {D : Type 0} (old new : EngineState D) (r : Request) (answer : Result Outcome Refusal)
    → Answered old (Asks r) answer new → IsAnswerOf old r answer
answer_of old new r answer is = record {
  dead = λ f. (is.dead f).0;
  unaccepted = λ f no. (is.unaccepted f no).0;
  full = λ f yes none. (is.full f yes none).0;
  put = λ f yes room. ⊎_elim (λ done. inl done.0) (λ lost. inr lost.0) (is.put f yes room);
}

pub bool_cases : (b : Bool) → (b ≡ true) ⊎ (b ≡ false)
bool_cases true = inl refl
bool_cases false = inr refl

-- what an answer says of the memory and the engine
pub record HasActed {D : Type 0} (old : EngineState D) (r : Request) (entry : Entry)
    (new : EngineState D) : Type 0 where
  pub works : new.failed ≡ false
  pub answered : (step old.memory (Asks r)).answer ≡ Ok (Tells entry)
  pub memory : new.memory ≡ (step old.memory (Asks r)).contents
  pub count : new.count ≡ count_after old.memory r old.count
  pub ahead : (new.ahead ≡ old.ahead) ⊎ (new.ahead ≡ [])

pub acted : {D : Type 0} (old new : EngineState D) (r : Request) (entry : Entry) (answer : Result Outcome Refusal)
    → old.failed ≡ false → Answered old (Asks r) answer new → answer ≡ Ok (Tells entry)
    → (is_accepted old.memory (Asks r) ≡ false → (step old.memory (Asks r)).contents ≡ old.memory)
    → HasActed old r entry new
acted old new r entry answer f it is unaccepted = ⊎_elim
    (λ yes. ⊎_elim
    (λ none. let a : Ok (Tells entry) ≡ Err JournalFull = sym is ∙ (it.full f yes none).0 in absurd (cc))
    (λ some. ⊎_elim
    (λ done. record {
      works = ap (λ (s : EngineState _). s.failed) done.1 ∙ f;
      answered = sym done.0 ∙ is;
      memory = ap (λ (s : EngineState _). s.memory) done.1;
      count =
          ap (λ (s : EngineState _). s.count) done.1 ∙ sym
          (ap (λ (b : Bool). if b then old.count + 1 else old.count) yes);
      ahead = inr (ap (λ (s : EngineState _). s.ahead) done.1);
    })
    (λ fault. let a : Ok (Tells entry) ≡ Err Device = sym is ∙ fault.0 in absurd (cc))
    (it.put f yes some))
    (none_or_some old.room))
    (λ not. let done = it.unaccepted f not in record {
      works = ap (λ (s : EngineState _). s.failed) done.1 ∙ f;
      answered = sym done.0 ∙ is;
      memory = ap (λ (s : EngineState _). s.memory) done.1 ∙ sym (unaccepted not);
      count =
          ap (λ (s : EngineState _). s.count) done.1 ∙ sym
          (ap (λ (b : Bool). if b then old.count + 1 else old.count) not);
      ahead = inl (ap (λ (s : EngineState _). s.ahead) done.1);
    })
    (bool_cases (is_accepted old.memory (Asks r)))

-- ---- over a crash

-- a memory that agrees does so after any commands
pub agrees_after : ((m : Contents) (command : Command) → WaitingAgrees m → WaitingAgrees (step m command).contents)
    → (m : Contents) (commands : List Command) → WaitingAgrees m → WaitingAgrees (after m commands)
agrees_after next m [] it = it
agrees_after next m (command ∷ commands) it = agrees_after next (step m command).contents commands (next m command it)

-- a request that was told, what a recovery gave, and the same request sent again
pub asked : {D E : Type 0} (old mid : EngineState D) (now new : EngineState E) (r : Request) (entry : Entry)
    (answer : Result Outcome Refusal) (events : List Event) (answers : List Answer) → HasActed old r entry mid
    → Recovers mid.memory mid.count mid.ahead events answers now.memory now.count
    → IsSaidAgain now.memory r entry answer × (new ≡ now) × (answer ≡ (step now.memory (Asks r)).answer)
    → AskedOverACrash old r events answers entry answer new
asked {D} {E} old mid now new r entry answer events answers first found again =
    let back = sym again.1 in
    record {
      again = subst (λ (s : EngineState E). IsSaidAgain s.memory r entry answer) back again.0;
      told = subst (λ (s : EngineState E). answer ≡ (step s.memory (Asks r)).answer) back again.2;
      ahead = mid.ahead;
      left = first.ahead;
      once =
          subst (λ (s : EngineState E). Recovers (step old.memory (Asks r)).contents
          (count_after old.memory r old.count) mid.ahead events answers s.memory s.count) back
          (subst (λ (k : ℕ). Recovers (step old.memory (Asks r)).contents k mid.ahead events answers now.memory
          now.count)
          first.count
          (subst (λ (x : Contents). Recovers x mid.count mid.ahead events answers now.memory now.count) first.memory
          found));
    }

-- a request that is there or not, and is told an entry when it is sent again
pub sent_once : {D E : Type 0} (old : EngineState D) (e new : EngineState E) (r : Request) (entry : Entry)
    (answer : Result Outcome Refusal) → e.failed ≡ false → Answered e (Asks r) answer new → answer ≡ Ok (Tells entry)
    → ((m : Contents) → is_accepted m (Asks r) ≡ false → (step m (Asks r)).contents ≡ m)
    → (is_accepted old.memory (Asks r) ≡ true → is_accepted (step old.memory (Asks r)).contents (Asks r) ≡ false)
    → (e.memory ≡ old.memory) ⊎ (e.memory ≡ (step old.memory (Asks r)).contents)
    → new.memory ≡ (step old.memory (Asks r)).contents
sent_once {D} {E} old e new r entry answer works it told still once (inl before) =
    let did = acted e new r entry answer works it told (still e.memory) in
    did.memory ∙ ap (λ (x : Contents). (step x (Asks r)).contents) before
sent_once {D} {E} old e new r entry answer works it told still once (inr there) = ⊎_elim
    (λ yes.
    let no : is_accepted e.memory (Asks r) ≡ false = ap (λ (x : Contents). is_accepted x (Asks r)) there ∙ once yes in
    ap (λ (s : EngineState E). s.memory) (it.unaccepted works no).1 ∙ there)
    (λ no.
    let did = acted e new r entry answer works it told (still e.memory) in
    did.memory ∙ ap (λ (x : Contents). (step x (Asks r)).contents) (there ∙ still old.memory no))
    (bool_cases (is_accepted old.memory (Asks r)))

-- an image that has a command or not isn't refused for a fault
pub no_fault_of_one : {D : Type 0} (s : EngineState D) (r : Request) (e : Refusal) (file : List ℕ) → NoFault
    → MeansEither s (with_command s (Asks r)) file → IsFirstFault e file → ⊥
no_fault_of_one s r e file none (inl before) fault = none file e s.memory s.count s.room fault before
no_fault_of_one s r e file none (inr later) fault =
    let t = with_command s (Asks r) in
    none file e t.memory t.count t.room fault later

-- a number that isn't used was never accepted
module _ (takes : (m : Contents) (r : Request) → IsTrue (is_accepted m (Asks r)) → TakesNextNumber m r)
    (never_fall : (m : Contents) (commands : List Command) (element base next : ℕ)
    → bounds m.windows element ≡ Ok (base, next) → AreNoLess base next (bounds (after m commands).windows element))
    (join : (m : Contents) (earlier later : List Command) → after m (earlier ++ later) ≡ after (after m earlier) later)
  where
    abbrev pair_of : ℕ → ℕ → Result (ℕ × ℕ) Refusal
    pair_of a b = Ok (a, b)

    abbrev next_of : Result (ℕ × ℕ) Refusal → ℕ
    next_of (Ok (base, next)) = next
    next_of (Err refusal) = 0

    same_pair : (a b c d : ℕ) → pair_of a b ≡ pair_of c d → b ≡ d
    same_pair a b c d is = ap next_of is

    pub unused : (m0 now : Contents) (commands : List Command) (r : Request) → now ≡ after m0 commands → IsUnused now r
        → HasNotActed m0 commands r
    unused m0 now commands r is free again earlier later parts same accepted =
        let m1 : Contents = after m0 earlier in
        let t = takes m1 again accepted in
        let k = never_fall (step m1 (Asks again)).contents later again.element t.base (again.number + 1) t.after in
        let end : now ≡ after (step m1 (Asks again)).contents later =
        is ∙ ap (λ (l : List Command). after m0 l) parts ∙ join m0 earlier (Asks again ∷ later) in
        let element : again.element ≡ r.element = ap (λ (w : Waiter). w.element) same in
        let number : again.number ≡ r.number = ap (λ (w : Waiter). w.number) same in
        let here : bounds now.windows r.element ≡ Ok (k.base_now, k.next_now) =
        ap (λ (x : Contents). bounds x.windows r.element) end ∙ ap
        (λ (e : ℕ). bounds (after (step m1 (Asks again)).contents later).windows e) (sym element) ∙ k.are in
        let next : free.next ≡ k.next_now = same_pair free.base free.next k.base_now k.next_now (sym free.are ∙ here) in
        omega (arith, next, number, k.next_rises, free.from)
