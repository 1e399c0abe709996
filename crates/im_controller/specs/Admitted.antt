-- The members of a group that are lent, and those that are refused before the engine is asked. (Own.)
use Rattle.std.specs.Prelude.{◌≡◌, ℕ, ◌-◌, Bool, true, false, ◌⊎◌, List, [], ◌∷◌, length, if◌then◌else◌, nat_lt, ◌==◌}
use Rattle.std.specs.Prelude.{Some, None, Err, Option}
use Rattle.im_types.specs.Types.{Request, Command, Refusal, NoMemory, OffPlan, Contents}
use Rattle.im_groups.specs.Commands.{places, places_behind, takes_place}
use Rattle.{im_engine.specs.State.EngineState, im_trace.specs.Log.LogState, im_trace.specs.Log.with_unclaimed}
use Rattle.im_controller.specs.Planned.{has_command}

-- how many more lines a trace has room for
abbrev pub free_lines : LogState → ℕ
free_lines l = l.limit - length l.trace

-- how many more commands an engine takes, and 0 if it has failed or the trace has room for no line
abbrev pub places_with : {D : Type 0} → EngineState D → ℕ → ℕ
places_with e room = if e.failed then 0 else if room == 0 then 0 else places e.count e.room

-- whether a plan is asked at all: it isn't if the engine has failed or the trace has room for no line, since all
-- members are refused for that
abbrev pub is_asked : {D : Type 0} → EngineState D → ℕ → Bool
is_asked e room = if e.failed then false else nat_lt 0 room

-- whether the plan is asked and doesn't have a command
abbrev pub is_off : Option (List Request) → Bool → Command → Bool
is_off plan asked c = if asked then (if has_command plan c then false else true) else false

-- Why a member isn't lent, or none if it is, given whether it is off the plan and whether it takes a place.
pub record IsVerdict (off takes : Bool) (verdict : Option Refusal) : Type 0 where
  pub off_plan : off ≡ true → verdict ≡ Some OffPlan
  -- the pane may have no room for its change
  pub placed : off ≡ false → takes ≡ true → (verdict ≡ None) ⊎ (verdict ≡ Some NoMemory)
  pub unplaced : off ≡ false → takes ≡ false → verdict ≡ None

-- the places that are left after a member with this verdict
abbrev pub places_after : Contents → ℕ → Command → Option Refusal → ℕ
places_after m left c None = places_behind m left c
places_after m left c (Some refusal) = left

-- These are the verdicts on the members, each by the memory before the group and by the places that those before it
-- leave.
abbrev pub AreVerdicts : Option (List Request) → Bool → Contents → ℕ → List (Option Refusal) → List Command → Type 0
AreVerdicts plan asked m left [] cs = cs ≡ []
AreVerdicts plan asked m left (v ∷ vs) [] = ⊥
AreVerdicts plan asked m left (v ∷ vs) (c ∷ cs) =
    IsVerdict (is_off plan asked c) (takes_place m left c) v × AreVerdicts plan asked m (places_after m left c v) vs cs

-- the members that are lent
abbrev pub lent_of : List (Option Refusal) → List Command → List Command
lent_of [] cs = []
lent_of (v ∷ vs) [] = []
lent_of (None ∷ vs) (c ∷ cs) = c ∷ lent_of vs cs
lent_of (Some refusal ∷ vs) (c ∷ cs) = lent_of vs cs

-- the log with the answers to the others, which wait for their ports
abbrev pub with_refused : LogState → List (Option Refusal) → List Command → LogState
with_refused l [] cs = l
with_refused l (v ∷ vs) [] = l
with_refused l (None ∷ vs) (c ∷ cs) = with_refused l vs cs
with_refused l (Some refusal ∷ vs) (c ∷ cs) = with_refused (with_unclaimed l c (Err refusal)) vs cs

-- The members of a group that an engine is lent to, and the log with the answers to the others.
pub record Admits {D : Type 0} (plan : Option (List Request)) (e : EngineState D) (l : LogState)
    (members lent : List Command) (l' : LogState) : Type 0 where
  pub verdicts : List (Option Refusal)
  pub judged : AreVerdicts plan (is_asked e (free_lines l)) e.memory (places_with e (free_lines l)) verdicts members
  pub lent_is : lent ≡ lent_of verdicts members
  pub log : l' ≡ with_refused l verdicts members
