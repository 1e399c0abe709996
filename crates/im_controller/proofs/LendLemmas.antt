-- What the engine's answer says of the memory, and of the trace.
use Rattle.std.proofs.Common.{◌≡◌, ℕ, zero, suc, Bool, true, false, if◌then◌else◌, IsOk, Ok, Err, Result, sym, refl, ap}
use Rattle.std.proofs.Common.{◌∙◌, ⊎_elim, arith}
use Rattle.im_types.specs.Types.{Command, Outcome, Commands, Refusal, Contents, step, is_accepted}
use Rattle.im_laws.proofs.{AcceptLemmas.accepted-ok, AcceptLemmas.unaccepted-leaves, Tests.true_false}
use Rattle.im_engine.specs.{Answered.Answered, State.EngineState}
use Rattle.im_trace.specs.Lines.{leaves_line, memory_after}

-- an answer that the engine gives: the step's, or one that leaves no line
data Told (m : Contents) (command : Command) (answer : Result Outcome Refusal) (after : Contents) : Type 0 where
  Steps : answer ≡ (step m command).answer → leaves_line answer ≡ true → after ≡ (step m command).contents
      → Told m command answer after
  Passes : answer ≡ (step m command).answer → (step m command).contents ≡ m → after ≡ m → Told m command answer after
  Refuses : leaves_line answer ≡ false → after ≡ m → Told m command answer after

pub ok-leaves : (answer : Result Outcome Refusal) → IsOk answer → leaves_line answer ≡ true
ok-leaves (Ok outcome) is = refl
ok-leaves (Err refusal) is = absurd (true_false (sym is))

pub same_by : (b : Bool) (m n : Contents) → n ≡ m → m ≡ (if b then n else m)
same_by true m n is = sym is
same_by false m n is = refl

module _ {D : Type 0} (old new : EngineState D) (command : Command) (answer : Result Outcome Refusal)
    (a : Answered old command answer new) (alive : old.failed ≡ false) where
  told-put : is_accepted old.memory command ≡ true → (n : ℕ) → old.room ≡ n → Told old.memory command answer new.memory
  told-put accepted zero room = let is = a.full alive accepted room in Refuses (ap leaves_line is.0)
      (ap (λ (e : EngineState D). e.memory) is.1)
  told-put accepted (suc n) room = ⊎_elim
      (λ done. Steps done.0
      (ap leaves_line done.0
      ∙ ok-leaves (step old.memory command).answer (accepted-ok old.memory command accepted))
      (ap (λ (e : EngineState D). e.memory) done.1))
      (λ doubt. Refuses (ap leaves_line doubt.0) (ap (λ (e : EngineState D). e.memory) doubt.1))
      (a.put alive accepted (omega (arith, room)))

  told-by : (b : Bool) → is_accepted old.memory command ≡ b → Told old.memory command answer new.memory
  told-by true accepted = told-put accepted old.room refl
  told-by false unaccepted =
      let is = a.unaccepted alive unaccepted in
      Passes is.0 (unaccepted-leaves old.memory command unaccepted) (ap (λ (e : EngineState D). e.memory) is.1)

  answer_so : Told old.memory command answer new.memory → leaves_line answer ≡ true → answer
      ≡ (step old.memory command).answer
  answer_so (Steps is left after) told = is
  answer_so (Passes is stays after) told = is
  answer_so (Refuses none after) told = absurd (true_false (sym told ∙ none))

  memory_so : Told old.memory command answer new.memory → new.memory ≡ memory_after old.memory (Commands command) answer
  memory_so (Steps is left after) = after
      ∙ sym (ap (λ b. if b then (step old.memory command).contents else old.memory) left)
  memory_so (Passes is stays after) = after
      ∙ same_by (leaves_line answer) old.memory (step old.memory command).contents stays
  memory_so (Refuses none after) = after
      ∙ sym (ap (λ b. if b then (step old.memory command).contents else old.memory) none)

  -- where the answer leaves a line, it is the step's
  pub answered-so : leaves_line answer ≡ true → answer ≡ (step old.memory command).answer
  answered-so = answer_so (told-by (is_accepted old.memory command) refl)

  -- and the memory is that after the line
  pub answered-memory : new.memory ≡ memory_after old.memory (Commands command) answer
  answered-memory = memory_so (told-by (is_accepted old.memory command) refl)
