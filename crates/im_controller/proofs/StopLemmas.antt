-- What a stop of a planned run leaves, and what a run from there comes to.
use Rattle.std.proofs.Common.{◌≡◌, ℕ, zero, suc, ◌+◌, Bool, true, false, List, [], ◌∷◌, ◌++◌, take, if◌then◌else◌, Some}
use Rattle.std.proofs.Common.{refl, ap, ◌∙◌, subst}
use Rattle.std.specs.List.{AllByRecursion}
use Rattle.im_types.specs.Types.{Request, Command, Call, Line, Commands, Collect, Contents, step, is_accepted, after}
use Rattle.im_types.specs.Types.{accepted, result_of, answer_to, Means}
use Rattle.im_laws.specs.Traces.{commands_of, commands_of_call}
use Rattle.im_plans.{proofs.UnderWayLemmas.goes-on, proofs.UnderWayLemmas.result-stays, specs.UnderWay.PlanGoesOn}
use Rattle.im_plans.specs.Runs.{entry_for, IsPlannedCall, IsPlannedRun, IsResultOrWaits}
use Rattle.im_engine.proofs.FilesMean.{means_one}
use Rattle.im_controller.specs.{Kept.accepted_in, Stops.IsLeftOf, Stops.LeadsTo}
use Rattle.im_controller.specs.Planned.{AreOnPlan, EndsAsPlanned, IsOnPlan}

-- ---- lists

all-take : {X : Type 0} (P : X → Type 0) (n : ℕ) (xs : List X) → AllByRecursion P xs → AllByRecursion P (take n xs)
all-take P zero xs all = tt
all-take P (suc n) [] all = tt
all-take P (suc n) (x ∷ xs) all = (all.0, all-take P n xs all.1)

-- ---- commands of a plan

module _ (plan : List Request) where
  if-on : (b : Bool) (c : Command) (rest more : List Command) → IsPlannedCall plan (Commands c)
      → AreOnPlan (Some plan) (rest ++ more) → AreOnPlan (Some plan) ((if b then c ∷ rest else rest) ++ more)
  if-on true c rest more on all = (on, all)
  if-on false c rest more on all = all

  -- those that a planned run accepts, and these behind them
  accepted-on : (trace : List Line) (m : Contents) (more : List Command) → IsPlannedRun plan trace
      → AreOnPlan (Some plan) more → AreOnPlan (Some plan) (accepted_in m trace ++ more)
  accepted-on [] m more run on = on
  accepted-on (line ∷ trace) m more run on = by_call line.call run.0 (λ n. accepted-on trace n more run.1 on)
    where
      by_call : (call : Call) → IsPlannedCall plan call
          → ((n : Contents) → AreOnPlan (Some plan) (accepted_in n trace ++ more))
          → AreOnPlan (Some plan) (accepted m (commands_of_call call ++ commands_of trace) ++ more)
      by_call (Commands c) is rest = if-on (is_accepted m c) c (accepted_in (step m c).contents trace) more is
          (rest (step m c).contents)
      by_call (Collect element number) is rest = rest m

  -- a planned run of them alone
  leads-after : (cs : List Command) (m : Contents) → AreOnPlan (Some plan) cs → LeadsTo plan m (after m cs)
  leads-after [] m on = record { trace = []; legal = tt; run = tt; ends = refl }
  leads-after (c ∷ cs) m on =
      let rest = leads-after cs (step m c).contents on.1 in
      record {
        trace = record { call = Commands c; answer = answer_to m (Commands c) } ∷ rest.trace;
        legal = (refl, rest.legal);
        run = (on.0, rest.run);
        ends = rest.ends;
      }

  -- ---- what a crash leaves

  pub left-leads : (m n : Contents) (file : List ℕ) (count room : ℕ) → IsLeftOf m plan file → Means n count room file
      → LeadsTo plan m n
  left-leads m n file count room left means =
      let all = accepted_in m left.trace ++ left.doubt in
      let some = left.means in
      let same = (means_one file (after m (take some.0 all)) n (left.count + some.0) count 0 room some.2 means).0 in
      subst (λ (x : Contents). LeadsTo plan m x) same (leads-after (take some.0 all) m
      (all-take (λ (c : Command). IsOnPlan (Some plan) (Commands c)) some.0 all
      (accepted-on left.trace m left.doubt left.run left.on_plan)))

  pub leads-goes_on : (m n : Contents) → PlanGoesOn m plan → LeadsTo plan m n → PlanGoesOn n plan
  leads-goes_on m n g first = subst (λ (x : Contents). PlanGoesOn x plan) first.ends
      (goes-on m plan first.trace g first.run)

  -- ---- a run from there

  run-on : (first trace : List Line) → IsPlannedRun plan first → IsPlannedRun plan trace
      → IsPlannedRun plan (first ++ trace)
  run-on [] trace run more = more
  run-on (line ∷ first) trace run more = (run.0, run-on first trace run.1 more)

  module _ (m n end : Contents) (trace : List Line) (g : PlanGoesOn m plan) (first : LeadsTo plan m n)
      (e : EndsAsPlanned n plan trace end) where
    result-same : (r : Request) → result_of n.cells plan r.op ≡ result_of m.cells plan r.op
    result-same r = subst (λ (x : Contents). result_of x.cells plan r.op ≡ result_of m.cells plan r.op) first.ends
        (result-stays m plan first.trace r.op g first.run)

    pub ends-joined : EndsAsPlanned m plan (first.trace ++ trace) end
    ends-joined = record {
      starts = g;
      run = run-on first.trace trace first.run e.run;
      results = λ r entry in_plan kept. subst (λ o. IsResultOrWaits o entry) (result-same r)
          (e.results r entry in_plan kept);
      waits = λ r entry in_plan none kept. e.waits r entry in_plan (result-same r ∙ none) kept;
      one = λ r entry served in_plan kept. e.one r entry served in_plan kept ∙ ap entry_for (result-same r);
      goes_on = e.goes_on;
    }
