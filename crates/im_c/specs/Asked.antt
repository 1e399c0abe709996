-- What is asked of an image, and what is told, for C.
use Rattle.std.specs.Prelude.{◌≡◌, ℕ, ◌<◌, ◌≤◌, true, false, List, [], ◌∷◌, ◌++◌, map, length, drop, if◌then◌else◌}
use Rattle.std.specs.Prelude.{nat_lt, slice_get, Some, None, Ok, Err, Option, Result}
use Rattle.im_types.specs.Types.{Op, Command, Asks, Confirm, Refusal, Device, number_of, MAX_GROUP, address_of, op_code}
use Rattle.im_types.specs.Types.{op_value, op_of}
use Rattle.im_front.specs.{declared.AskedCommand.AskedCommand, declared.ToldAnswer.ToldAnswer, Lists.with_ticket}
use Rattle.im_listed.specs.Asking.{AnswersFirst, asked_too, AsksNext, GoesOn, has_no_room, IsNotNext, many_behind}
use Rattle.im_listed.specs.Image.{ImageState}
use Rattle.im_c.specs.declared.asked.{LtAdvanced.LtAdvanced, LtAsked.LtAsked, LtTold.LtTold}
use Rattle.im_c.specs.{declared.plain.LtCommand.LtCommand, Group.outcome_served, Image.idle_after, Plain.meant}

-- a command in C's form
abbrev pub command_told : Command → LtCommand
command_told (Asks r) = record {
  tag = op_code r.op;
  element = r.element;
  address = address_of r.op;
  number = r.number;
  value = op_value r.op;
}
command_told (Confirm element upto) = record { tag = 8; element = element; address = 0; number = upto; value = 0 }

-- an answer in C's form
abbrev pub told_for_c : ToldAnswer → LtTold
told_for_c t = record { ticket = t.asked.ticket; outcome = outcome_served t.served }

-- these answers at the first places, and after them what was there
abbrev pub first_told : List ToldAnswer → List LtTold → List LtTold
first_told told places = map told_for_c told ++ drop (length told) places

-- 2 for what is ahead, and 1 for what isn't
abbrev pub state_at : ℕ → ℕ → ℕ
state_at ahead index = if nat_lt index ahead then 2 else 1

-- what is asked at a place, in C's form; 0 is the state if there is none
abbrev pub asked_told : ℕ → ℕ → Option AskedCommand → LtAsked
asked_told ahead index None =
    record { ticket = 0; command = record { tag = 0; element = 0; address = 0; number = 0; value = 0 }; state = 0 }
asked_told ahead index (Some a) = record {
  ticket = a.ticket;
  command = command_told a.command;
  state = state_at ahead index;
}

-- what is asked of an image at a place
abbrev pub asked_for_c : ImageState → ℕ → LtAsked
asked_for_c i index = asked_told (length i.engine.ahead) index (slice_get i.asked index)

-- a command is asked behind all that is asked, unless as many are asked as a group has behind those that are ahead
pub record Submits (old : ImageState) (ticket : ℕ) (c : LtCommand) (answer : ℕ) (new : ImageState) : Type 0 where
  pub unknown : meant c ≡ None → (answer ≡ 255) × (new ≡ old)
  pub full : (command : Command) → meant c ≡ Some command → MAX_GROUP ≤ many_behind old → (answer ≡ 254) × (new ≡ old)
  pub known : (command : Command) → meant c ≡ Some command → many_behind old < MAX_GROUP
      → (answer ≡ 0) × (new ≡ asked_too old (with_ticket ticket command ∷ []))

-- a request of the command's element is asked under the next number, which is written into the command
abbrev pub NextAsked : ImageState → ℕ → LtCommand → Op → ℕ → Result ℕ Refusal → ℕ → LtCommand → ImageState → Type 0
NextAsked old ticket c op most (Ok number) answer after new =
    (answer ≡ 0) × (after ≡ record c { number = number }) × AsksNext old ticket c.element op most number new
NextAsked old ticket c op most (Err refusal) answer after new =
    (answer ≡ number_of refusal) × (after ≡ c) × (new ≡ old) × IsNotNext old c.element most refusal

-- the same, unless it isn't a request, or as many are asked as a group has behind those that are ahead
pub record SubmitsNext (old : ImageState) (ticket : ℕ) (c : LtCommand) (most answer : ℕ) (after : LtCommand)
    (new : ImageState) : Type 0 where
  pub unknown : op_of c.tag c.address c.value ≡ None → (answer ≡ 255) × (after ≡ c) × (new ≡ old)
  pub full : (op : Op) → op_of c.tag c.address c.value ≡ Some op → MAX_GROUP ≤ many_behind old
      → (answer ≡ 254) × (after ≡ c) × (new ≡ old)
  pub known : (op : Op) → op_of c.tag c.address c.value ≡ Some op → many_behind old < MAX_GROUP
      → (result : Result ℕ Refusal) × NextAsked old ticket c op most result answer after new

-- a refusal, how many are ahead now, and how many are told
abbrev pub advanced : ℕ → ℕ → ℕ → LtAdvanced
advanced refusal ahead answered = record { refusal = refusal; ahead = ahead; answered = answered }

-- the same by the result of a call that told so many
abbrev pub advanced_by : Result ℕ Refusal → ℕ → LtAdvanced
advanced_by (Ok many) answered = advanced 0 many answered
advanced_by (Err refusal) answered = advanced (number_of refusal) 0 answered

-- the chain goes on, or if nothing is ahead and there is no place, the first that is asked is answered alone
pub record GoesOnBy (old : ImageState) (result : Result ℕ Refusal) (told : List ToldAnswer)
    (new : ImageState) : Type 0 where
  pub full : has_no_room old ≡ true → (result ≡ Ok 0) × AnswersFirst old told new
  pub going : has_no_room old ≡ false → GoesOn old result told new

-- what was done, who is told, and what the caller's file holds on the way
pub record AdvancesBy (old : ImageState) (before : List LtTold) (done : LtAdvanced) (after : List LtTold)
    (new : ImageState) : Type 0 where
  pub unknown : (length before ≡ MAX_GROUP → ⊥) → (done ≡ advanced 255 0 0) × (after ≡ before) × (new ≡ idle_after old)
  pub lost : length before ≡ MAX_GROUP → old.lost ≡ true
      → (done ≡ advanced (number_of Device) 0 0) × (after ≡ before) × (new ≡ old)
  -- so no answer is `Failed`
  pub works : length before ≡ MAX_GROUP → old.lost ≡ false → old.engine.failed ≡ false
  pub known : length before ≡ MAX_GROUP → old.lost ≡ false
      → (result : Result ℕ Refusal) × (told : List ToldAnswer) × (done ≡ advanced_by result (length told))
      × (after ≡ first_told told before) × GoesOnBy old result told new
