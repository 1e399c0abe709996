-- The laws of planned runs from a memory in which the plan is under way, over any number of stops.
use Rattle.std.proofs.Common.{◌≡◌, List, [], ◌∷◌, None, Ok, Option, sym, refl, ap, ◌∙◌, subst}
use Rattle.std.specs.List.{AllByRecursion}
use Rattle.im_types.specs.Types.{Entry, Op, Waiting, Request, Command, Call, Line, Commands, Contents, ask, asker, step}
use Rattle.im_types.specs.Types.{after, result_of, answer_to, contents_after, IsLegal, end_of}
use Rattle.im_plans.proofs.Laws.{planned-kept, planned-served, planned-told, planned-waits}
use Rattle.im_plans.proofs.UnderWayLemmas.{goes-on, result-stays}
use Rattle.im_plans.specs.Runs.{entry_for, HasServed, IsInPlan, IsPlannedCall, IsPlannedRun, IsResultOrWaits}
use Rattle.im_plans.specs.Runs.{TellsResults}
use Rattle.im_plans.specs.UnderWay.{AreLegal, AreRunsOf, end_of_runs, HaveServed, IsKeptAfter, PlanGoesOn, Traces}

-- ---- one run

-- one call, and one command behind the other
pub call-goes_on : (m : Contents) (plan : List Request) (call : Call) → PlanGoesOn m plan → IsPlannedCall plan call
    → PlanGoesOn (contents_after m call) plan
call-goes_on m plan call g planned = goes-on m plan (record { call = call; answer = answer_to m call } ∷ []) g
    (planned, tt)

pub after-goes_on : (m : Contents) (plan : List Request) (commands : List Command) → PlanGoesOn m plan
    → AllByRecursion (λ (c : Command). IsPlannedCall plan (Commands c)) commands → PlanGoesOn (after m commands) plan
after-goes_on m plan [] g planned = g
after-goes_on m plan (c ∷ commands) g planned = after-goes_on (step m c).contents plan commands
    (call-goes_on m plan (Commands c) g planned.0) planned.1

-- ---- several runs

all-map : {X : Type 0} (P Q : X → Type 0) → ((x : X) → P x → Q x) → (xs : List X) → AllByRecursion P xs
    → AllByRecursion Q xs
all-map P Q f [] all = tt
all-map P Q f (x ∷ xs) all = (f x all.0, all-map P Q f xs all.1)

-- the runs behind the first one
pub next-runs : (m : Contents) (plan : List Request) (trace : List Line) (runs : Traces)
    → AreRunsOf plan m (trace ∷ runs) → AreRunsOf plan (end_of m trace) runs
next-runs m plan trace runs are = record {
  goes_on = goes-on m plan trace are.goes_on are.planned.0;
  planned = are.planned.1;
}

first-result : (m : Contents) (plan : List Request) (trace : List Line) (runs : Traces) (op : Op)
    → AreRunsOf plan m (trace ∷ runs) → result_of (end_of m trace).cells plan op ≡ result_of m.cells plan op
first-result m plan trace runs op are = result-stays m plan trace op are.goes_on are.planned.0

pub runs-go_on : (m : Contents) (plan : List Request) (runs : Traces) → AreRunsOf plan m runs
    → PlanGoesOn (end_of_runs m runs) plan
runs-go_on m plan [] are = are.goes_on
runs-go_on m plan (trace ∷ runs) are = runs-go_on (end_of m trace) plan runs (next-runs m plan trace runs are)

pub runs-result : (m : Contents) (plan : List Request) (runs : Traces) (op : Op) → AreRunsOf plan m runs
    → result_of (end_of_runs m runs).cells plan op ≡ result_of m.cells plan op
runs-result m plan [] op are = refl
runs-result m plan (trace ∷ runs) op are = runs-result (end_of m trace) plan runs op (next-runs m plan trace runs are)
    ∙ first-result m plan trace runs op are

pub runs-told : (m : Contents) (plan : List Request) (runs : Traces) → AreRunsOf plan m runs
    → AreLegal m runs → AllByRecursion (AllByRecursion (TellsResults m plan)) runs
runs-told m plan [] are legal = tt
runs-told m plan (trace ∷ runs) are legal = (
  planned-told m plan trace are.goes_on legal.0 are.planned.0,
  all-map (AllByRecursion (TellsResults (end_of m trace) plan)) (AllByRecursion (TellsResults m plan))
      (all-map (TellsResults (end_of m trace) plan) (TellsResults m plan) (λ line tells r entry in_plan of told.
      subst (λ o. IsResultOrWaits o entry) (first-result m plan trace runs r.op are) (tells r entry in_plan of told)))
      runs (runs-told (end_of m trace) plan runs (next-runs m plan trace runs are) legal.1),
)

-- what is kept at the end
module _ (m : Contents) (plan : List Request) (runs : Traces) (r : Request) (entry : Entry) where
  pub runs-kept : IsKeptAfter m plan runs r entry → IsResultOrWaits (result_of m.cells plan r.op) entry
  runs-kept k = subst (λ o. IsResultOrWaits o entry) (runs-result m plan runs r.op k.are)
      (planned-kept (end_of_runs m runs) plan [] r entry (runs-go_on m plan runs k.are) tt k.in_plan k.kept)

  pub runs-wait : IsKeptAfter m plan runs r entry → result_of m.cells plan r.op ≡ None → entry ≡ Waiting
  runs-wait k none = planned-waits (end_of_runs m runs) plan [] r entry (runs-go_on m plan runs k.are) tt k.in_plan
      k.kept (runs-result m plan runs r.op k.are ∙ none)

  pub runs-served : HaveServed m plan runs → IsKeptAfter m plan runs r entry
      → entry ≡ entry_for (result_of m.cells plan r.op)
  runs-served h k =
      planned-served (end_of_runs m runs) plan [] r entry (runs-go_on m plan runs k.are) tt k.in_plan k.kept h.served
      ∙ ap entry_for (runs-result m plan runs r.op k.are)
