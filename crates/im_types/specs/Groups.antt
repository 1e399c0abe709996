-- A group of requests: the answers to its members, and the memory that they reach, each after the one before. (Own.)
use Rattle.std.specs.Prelude.{ℕ, ◌+◌, ◌-◌, Bool, ◌&&◌, ◌≢◌, List, [], ◌∷◌, ◌++◌, if◌then◌else◌, nat_lt, ◌==◌, Ok, Err}
use Rattle.std.specs.Prelude.{Result}
use Rattle.im_types.specs.declared.commands.Command.{Command, TheVariants.Request as Asks}
use Rattle.im_types.specs.declared.commands.{Outcome.Outcome, Request.Request}
use Rattle.im_types.specs.declared.groups.Served.{Served, TheVariants.Done, TheVariants.Refused}
use Rattle.im_types.specs.declared.{operations.Op.TheVariants.Fetch, TheConstants.LAST}
use Rattle.im_types.specs.declared.refusals.Refusal.{Refusal, TheVariants.JournalFull}
use Rattle.im_types.specs.{Meaning.Reached, Step.is_accepted, Step.step}

-- a request that no memory accepts
abbrev pub no_request : Request
no_request = record { element = 0; number = 0; op = Fetch 0 }

-- none of the requests is of this element
abbrev pub AreOthers : ℕ → List Request → Type 0
AreOthers element [] = Unit {0}
AreOthers element (r ∷ rs) = (element ≢ r.element) × AreOthers element rs

-- each element has at most one of the requests
abbrev pub AreApart : List Request → Type 0
AreApart [] = Unit {0}
AreApart (r ∷ rs) = AreOthers r.element rs × AreApart rs

-- the state of an answered member of a group
abbrev pub as_served : Result Outcome Refusal → Served
as_served (Ok outcome) = Done outcome
as_served (Err refusal) = Refused refusal

-- the request would change the memory
abbrev pub is_new : Reached → Request → Bool
is_new s r = is_accepted s.contents (Asks r)

-- the request would change the memory, and there is room for it in the journal
abbrev pub is_put : Reached → Request → Bool
is_put s r = is_new s r && nat_lt 0 s.room

-- the state after one more request; at the last count of all the room is 0
abbrev pub with_request : Reached → Request → Reached
with_request s r =
    record {
      contents = (step s.contents (Asks r)).contents;
      count = s.count + 1;
      room = if s.count + 1 == LAST then 0 else s.room - 1;
    }

-- a member's answer: `JournalFull` if it would change the memory and there is no room
abbrev pub answer_of : Reached → Request → Result Outcome Refusal
answer_of s r = if is_new s r && (s.room == 0) then Err JournalFull else (step s.contents (Asks r)).answer

-- the state after one member
abbrev pub reached_by_one : Reached → Request → Reached
reached_by_one s r = if is_put s r then with_request s r else s

-- the members' answers, each at the state after the members before it
abbrev pub answers_of : Reached → List Request → List (Result Outcome Refusal)
answers_of s [] = []
answers_of s (r ∷ rs) = answer_of s r ∷ answers_of (reached_by_one s r) rs

-- the state after all members
abbrev pub reached_by_all : Reached → List Request → Reached
reached_by_all s [] = s
reached_by_all s (r ∷ rs) = reached_by_all (reached_by_one s r) rs

-- the commands that the members put into the journal
abbrev pub puts_of : Reached → List Request → List Command
puts_of s [] = []
puts_of s (r ∷ rs) = (if is_put s r then Asks r ∷ [] else []) ++ puts_of (reached_by_one s r) rs
