-- What a call of a session comes to.
use Rattle.std.specs.Prelude.{◌≡◌, true, false, ◌⊎◌, List, [], ◌∷◌, ◌++◌, Ok, Err, Result}
use Rattle.im_types.specs.Types.{Command, Outcome, Served, Unserved, Done, Refused, Refusal, Device, Failed, NoMemory}
use Rattle.im_types.specs.Types.{step, is_accepted, accepted}
use Rattle.im_engine.specs.{Commands.commands_put, State.EngineState}
use Rattle.im_session.specs.Kept.{session_of, SessionState}
use Rattle.im_session.specs.Put.{doubted_by, doubted_of, sure_by, sure_of}

-- the session after a command with this answer
abbrev pub served_one : {D : Type 0} → SessionState D → Command → Result Outcome Refusal → EngineState D
    → SessionState D
served_one s c answer engine = session_of s.start (s.put ++ sure_by s.engine.memory c answer)
    (s.doubt ++ doubted_by s.engine.memory c answer) engine

-- what one of the commands that were served together was answered
abbrev pub served_answer : Served → Result Outcome Refusal
served_answer (Done outcome) = Ok outcome
served_answer (Refused refusal) = Err refusal
served_answer Unserved = Err NoMemory

-- the session after these members were served together
abbrev pub served_together : {D : Type 0} → SessionState D → List Command → EngineState D → SessionState D
served_together s members engine = let put = commands_put s.engine members in session_of s.start
    (s.put ++ sure_of engine.failed put) (s.doubt ++ doubted_of s.engine.failed engine.failed put) engine

-- a command was served with this outcome: it is put if it changes the memory
pub record CommandServed {D : Type 0} (old : SessionState D) (c : Command) (outcome : Outcome)
    (new : SessionState D) : Type 0 where
  pub answer : (step old.engine.memory c).answer ≡ Ok outcome
  pub same : new ≡ session_of old.start (old.put ++ accepted old.engine.memory (c ∷ [])) old.doubt new.engine
  pub memory : new.engine.memory ≡ (step old.engine.memory c).contents
  pub works : new.engine.failed ≡ false

-- a command was refused: it isn't put, and it is in doubt if it would change the memory and the disk failed
pub record CommandRefused {D : Type 0} (old : SessionState D) (c : Command) (new : SessionState D) : Type 0 where
  pub start : new.start ≡ old.start
  pub put : new.put ≡ old.put
  pub doubt : (new.doubt ≡ old.doubt)
      ⊎ ((is_accepted old.engine.memory c ≡ true) × (new.doubt ≡ old.doubt ++ c ∷ []))
  pub memory : new.engine.memory ≡ old.engine.memory

-- nothing was put, and memory and count stay
pub record Rests {D : Type 0} (old new : SessionState D) : Type 0 where
  pub same : new ≡ session_of old.start old.put old.doubt new.engine
  pub memory : new.engine.memory ≡ old.engine.memory
  pub count : new.engine.count ≡ old.engine.count

-- a call of the disk failed, or had failed before
abbrev pub IsBroken : Refusal → Type 0
IsBroken e = (e ≡ Device) ⊎ (e ≡ Failed)
