-- The answer to a request that is sent again. (Own.)
use Rattle.std.specs.Prelude.{◌≡◌, ℕ, ◌+◌, ◌<◌, ◌≤◌, true, false, ◌⊎◌, List, [], ◌∷◌, ◌++◌, if◌then◌else◌, Ok, Err}
use Rattle.std.specs.Prelude.{Result}
use Rattle.im_types.specs.Types.{Entry, Request, Command, Outcome, Asks, Tells, Refusal, Forgotten, JournalFull, Device}
use Rattle.im_types.specs.Types.{Failed, Contents, WaitingAgrees, bounds, asker, step, is_accepted, after}
use Rattle.im_laws.specs.{Entries.IsSameOrAnswer, Requests.after_request, Requests.IsAnswered, Windows.IsForgotten}
use Rattle.im_engine.specs.State.{EngineState}
use Rattle.im_session.specs.declared.{Answer.Answer, Event.Event}
use Rattle.im_promise.specs.Recovery.{Recovers}

-- the answer is the entry told before, or the answer that has come since, or `Forgotten` if the request was confirmed
abbrev pub IsSaidAgain : Contents → Request → Entry → Result Outcome Refusal → Type 0
IsSaidAgain m r before said =
    (IsForgotten m.windows (asker r) × (said ≡ Err Forgotten))
    ⊎ ((entry : Entry) × IsSameOrAnswer before entry × (said ≡ Ok (Tells entry)))

-- A memory that this one came of, by these commands, told the request this entry. Its waiters and entries agreed.
pub record WasTold (m : Contents) (r : Request) (entry : Entry) : Type 0 where
  pub before : Contents
  pub later : List Command
  pub agrees : WaitingAgrees before
  pub answered : IsAnswered before r entry
  pub is : m ≡ after (after_request before r) later

-- an engine's answer to a request: the memory's, but for a failed engine, a full journal, and a failed call of the disk
pub record IsAnswerOf {D : Type 0} (old : EngineState D) (r : Request) (answer : Result Outcome Refusal) : Type 0 where
  pub dead : old.failed ≡ true → answer ≡ Err Failed
  pub unaccepted : old.failed ≡ false → is_accepted old.memory (Asks r) ≡ false
      → answer ≡ (step old.memory (Asks r)).answer
  pub full : old.failed ≡ false → is_accepted old.memory (Asks r) ≡ true → old.room ≡ 0 → answer ≡ Err JournalFull
  pub put : old.failed ≡ false → is_accepted old.memory (Asks r) ≡ true → 0 < old.room
      → (answer ≡ (step old.memory (Asks r)).answer) ⊎ (answer ≡ Err Device)

-- the memory has used no number of this element from this number on
pub record IsUnused (m : Contents) (r : Request) : Type 0 where
  pub base : ℕ
  pub next : ℕ
  pub are : bounds m.windows r.element ≡ Ok (base, next)
  pub from : next ≤ r.number

-- none of these commands is a request under this number that was accepted in its turn
abbrev pub HasNotActed : Contents → List Command → Request → Type 0
HasNotActed m commands r =
    (again : Request) (earlier later : List Command) → commands ≡ earlier ++ Asks again ∷ later → asker again ≡ asker r
    → is_accepted (after m earlier) (Asks again) ≡ true → ⊥

-- the count of all commands after a request: one more if it is accepted
abbrev pub count_after : Contents → Request → ℕ → ℕ
count_after m r count = if is_accepted m (Asks r) then count + 1 else count

-- A request was told an entry. Events were served and answered. The disk stopped, or not, and a crash left a file. The
-- image was opened, and the request was sent again.
pub record AskedOverACrash {D E : Type 0} (old : EngineState D) (r : Request) (events : List Event)
    (answers : List Answer) (before : Entry) (said : Result Outcome Refusal) (new : EngineState E) : Type 0 where
  -- it is told the same entry, or the answer that has come since, and just what the memory says
  pub again : IsSaidAgain new.memory r before said
  pub told : said ≡ (step new.memory (Asks r)).answer
  -- the members that are ahead of the engine behind it: those that were, or none
  pub ahead : List Command
  pub left : (ahead ≡ old.ahead) ⊎ (ahead ≡ [])
  -- it has acted once: the memory and the count are those after it, and after what a recovery gives of the events
  pub once : Recovers (after_request old.memory r)
      (count_after old.memory r old.count) ahead events answers new.memory new.count
