-- The end of a script's plan, whatever stopped its runs. (Own.)
use Rattle.std.proofs.Common.{◌≡◌, ℕ, List, [], ◌∷◌, Some, Ok, Option, sym, refl, ap, ◌∙◌, subst}
use Rattle.im_types.specs.Types.{Entry, Request, Command, Line, Confirmed, Commands, Limits, Held, Contents, held_at}
use Rattle.im_types.specs.Types.{full_at, ask, asker, step, after, planned_value, result_of, end_of, accept_each}
use Rattle.{im_laws.proofs.RunLemmas.after-append, im_controller.specs.Planned.AreOnPlan}
use Rattle.im_plans.proofs.{UnderWayLaws.runs-served, Values.runs-value}
use Rattle.im_plans.specs.Runs.{entry_for, HasServed, IsInPlan, IsPlannedRun}
use Rattle.im_plans.specs.UnderWay.{AreRunsOf, HaveServed, value_in_end}
use Rattle.im_serial.{proofs.BegunLemmas.accepted_after, proofs.BegunLemmas.is_memory, specs.Begun.new_memory}
use Rattle.im_run.proofs.CountLemmas.{accept_split, cells_behind, cells_led}
use Rattle.im_run.proofs.{SplitLemmas.has_split, StopsLemmas.own_same}
use Rattle.im_run.specs.Stops.{HasDoneByPlan, setup_blocks}

-- ---- commands as a trace

abbrev lines_of : List Command → List Line
lines_of [] = []
lines_of (c ∷ cs) = record { call = Commands c; answer = Ok Confirmed } ∷ lines_of cs

planned_lines : (plan : List Request) (cs : List Command) → AreOnPlan (Some plan) cs → IsPlannedRun plan (lines_of cs)
planned_lines plan [] on = tt
planned_lines plan (c ∷ cs) on = (on.0, planned_lines plan cs on.1)

end_lines : (cs : List Command) (m : Contents) → end_of m (lines_of cs) ≡ after m cs
end_lines [] m = refl
end_lines (c ∷ cs) m = end_lines cs (step m c).contents

-- ---- one end

module _ (limits : Limits) (text : List ℕ) (put : List Command) (m : Contents)
    (it : HasDoneByPlan limits text put m) where
  behind : Contents
  behind = after (new_memory limits) it.setup

  ends : end_of (after (new_memory limits) it.setup) (lines_of it.others) ≡ m
  ends = end_lines it.others (after (new_memory limits) it.setup)
      ∙ sym (after-append (new_memory limits) it.setup it.others)
      ∙ sym (ap (after (new_memory limits)) it.split)
      ∙ sym (accepted_after (new_memory limits) put m it.accepted)

  runs : AreRunsOf it.parts.plan (after (new_memory limits) it.setup) (lines_of it.others ∷ [])
  runs = record {
    goes_on = it.parts.goes_on;
    planned = (planned_lines it.parts.plan it.others it.parts.on_plan, tt);
  }

  all : HaveServed (after (new_memory limits) it.setup) it.parts.plan (lines_of it.others ∷ [])
  all = record {
    are = runs;
    served = subst (λ (x : Contents). HasServed x.windows it.parts.plan) (sym ends) it.served;
  }

  -- the cells behind the setup
  cells_is : (after (new_memory limits) it.setup).cells ≡ cells_behind (new_memory limits).cells (setup_blocks text)
  cells_is = cells_led limits.cells limits.elements it.setup (setup_blocks text) (new_memory limits)
      (after (new_memory limits) it.setup) [] (is_memory limits []) (has_split text).split.first it.blocks
      (accept_split it.setup it.others (new_memory limits) m
      (subst (λ (l : List Command). accept_each (new_memory limits) l ≡ Some m) it.split it.accepted)).0

  value_is : (a : ℕ) → full_at m a ≡ value_in_end (planned_value a it.parts.plan)
      (held_at (cells_behind (new_memory limits).cells (setup_blocks text)) a)
  value_is a = ap (λ (x : Contents). full_at x a) (sym ends)
      ∙ runs-value (after (new_memory limits) it.setup) it.parts.plan (lines_of it.others ∷ []) a all
      ∙ ap (λ (c : List (Option Held)). value_in_end (planned_value a it.parts.plan) (held_at c a)) cells_is

  entry_is : (r : Request) (entry : Entry) → IsInPlan it.parts.plan r → ask m.windows (asker r) ≡ Ok entry
      → entry ≡ entry_for (result_of (cells_behind (new_memory limits).cells (setup_blocks text)) it.parts.plan r.op)
  entry_is r entry in_plan kept =
      runs-served (after (new_memory limits) it.setup) it.parts.plan (lines_of it.others ∷ []) r entry all
      (record {
        are = runs;
        in_plan = in_plan;
        kept = ap (λ (x : Contents). ask x.windows (asker r)) ends ∙ kept;
      })
      ∙ ap (λ (c : List (Option Held)). entry_for (result_of c it.parts.plan r.op)) cells_is

module _ (limits : Limits) (text : List ℕ) (put more : List Command) (m n : Contents)
    (it : HasDoneByPlan limits text put m) (other : HasDoneByPlan limits text more n) where
  plan_is : it.parts.plan ≡ other.parts.plan
  plan_is = own_same text it.parts.plan other.parts.plan it.parts.own other.parts.own

  pub same_cells : (a : ℕ) → full_at m a ≡ full_at n a
  same_cells a = value_is limits text put m it a
      ∙ ap (λ (p : List Request). value_in_end (planned_value a p)
      (held_at (cells_behind (new_memory limits).cells (setup_blocks text)) a)) plan_is
      ∙ sym (value_is limits text more n other a)

  pub same_entries : (r : Request) (entry later : Entry) → IsInPlan it.parts.plan r
      → ask m.windows (asker r) ≡ Ok entry → ask n.windows (asker r) ≡ Ok later → entry ≡ later
  same_entries r entry later in_plan kept there =
      entry_is limits text put m it r entry in_plan kept
      ∙ ap (λ (p : List Request). entry_for (result_of (cells_behind (new_memory limits).cells (setup_blocks text)) p
      r.op)) plan_is
      ∙ sym (entry_is limits text more n other r later
      (subst (λ (p : List Request). IsInPlan p r) plan_is in_plan) there)
