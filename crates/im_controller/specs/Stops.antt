-- Planned runs that were stopped. (Own.)
use Rattle.std.specs.Prelude.{◌≡◌, ℕ, ◌+◌, ◌≤◌, List, ◌++◌, length, take, Some}
use Rattle.im_types.specs.Types.{Request, Command, Line, Contents, after, IsLegal, end_of, Means}
use Rattle.im_plans.specs.Runs.{IsPlannedRun}
use Rattle.im_controller.specs.{Kept.accepted_in, Planned.AreOnPlan}

-- a planned run leads from the one memory to the other
pub record LeadsTo (plan : List Request) (m n : Contents) : Type 0 where
  pub trace : List Line
  pub legal : IsLegal m trace
  pub run : IsPlannedRun plan trace
  pub ends : end_of m trace ≡ n

-- the file means the memory after a prefix of these commands
abbrev pub MeansSome : Contents → ℕ → List Command → List ℕ → Type 0
MeansSome m count commands file = (many : ℕ) × (many ≤ length commands)
    × Means (after m (take many commands)) (count + many) 0 file

-- A crash may have left this file of a planned run from that memory: it means the memory after some of the trace's
-- accepted commands, from the first on, and maybe after some of those in doubt.
pub record IsLeftOf (m : Contents) (plan : List Request) (file : List ℕ) : Type 0 where
  pub trace : List Line
  pub doubt : List Command
  pub count : ℕ
  pub run : IsPlannedRun plan trace
  pub on_plan : AreOnPlan (Some plan) doubt
  pub means : MeansSome m count (accepted_in m trace ++ doubt) file
