-- The values of full I cells, all through planned runs and at their end.
use Rattle.std.proofs.Common.{◌≡◌, ℕ, true, false, cond, ◌≢◌, List, [], ◌∷◌, Some, None, Ok, Err, Option, Result}
use Rattle.std.proofs.Common.{option_map, sym, refl, ap, ◌∙◌, subst, ⊎_elim}
use Rattle.std.proofs.lemmas.Option.{none-some, same_Some}
use Rattle.im_types.specs.Types.{Kind, Op, Waiter, Block, I, M, Alloc, Release, Reset, Fetch, Store, Take, Put}
use Rattle.im_types.specs.Types.{WrongKind, Request, Judged, Call, Line, Asks, Confirm, Fresh, Repeat, Commands}
use Rattle.im_types.specs.Types.{Collect, Refusal, CellState, Empty, Full, Clashed, Held, Contents, held_at, full_value}
use Rattle.im_types.specs.Types.{full_in, full_at, block_at, address_of, ServedCell as Served, fetch, store, only_tells}
use Rattle.im_types.specs.Types.{same_kind, serve_cell, at_cell, act, judge, asker, step_request, planned_value}
use Rattle.im_types.specs.Types.{is_planned, IsPlan, contents_after, end_of}
use Rattle.im_laws.proofs.{AgreementLemmas.held_at-set, AgreementLemmas.held_at-within, JudgeLemmas.confirm-cells}
use Rattle.im_plans.proofs.PlanLemmas.{IsStored, planned_value-store, planned_value-stored}
use Rattle.im_plans.proofs.{PlannedRuns.end-under_plan, UnderWayLemmas.goes-under}
use Rattle.im_plans.proofs.UnderWayLaws.{next-runs, runs-go_on}
use Rattle.im_plans.specs.Runs.{HasServed, IsInPlan, IsPlannedCall, IsPlannedRun}
use Rattle.im_plans.specs.UnderWay.{AreRunsOf, end_of_runs, HaveServed, IsCellOf, PlanGoesOn, StoredBy, ToStore, Traces}
use Rattle.im_plans.specs.UnderWay.{value_in_end}

-- ---- one operation on an I cell

module _ (f : CellState → Served) (cells : List (Option Held)) (a : ℕ) where
  at-others : (b : ℕ) → b ≢ a → held_at (at_cell I f cells a (held_at cells a)).cells b ≡ held_at cells b
  at-others b other = by_held (held_at cells a) refl
    where
      by_kind : (held : Held) → held_at cells a ≡ Some held → (kind : Kind)
          → held_at (cond (same_kind I kind) (serve_cell cells a held.block (f held.state))
          (only_tells cells WrongKind)).cells b ≡ held_at cells b
      by_kind held at M = refl
      by_kind held at I = ⊎_elim (λ h. absurd (other h.0)) (λ h. h.1)
          (held_at-set cells a b (Some (record { block = held.block; state = (f held.state).state }))
          (held_at-within cells a held at))

      by_held : (o : Option Held) → held_at cells a ≡ o → held_at (at_cell I f cells a o).cells b ≡ held_at cells b
      by_held None at = refl
      by_held (Some held) at = by_kind held at held.block.kind

  at-full : ((k : Kind) (s : CellState) → full_value k (f s).state ≡ full_value k s) → (b : ℕ)
      → full_in (held_at (at_cell I f cells a (held_at cells a)).cells b) ≡ full_in (held_at cells b)
  at-full keeps b = by_held (held_at cells a) refl
    where
      by_kind : (held : Held) → held_at cells a ≡ Some held → (kind : Kind)
          → full_in (held_at (cond (same_kind I kind) (serve_cell cells a held.block (f held.state))
          (only_tells cells WrongKind)).cells b) ≡ full_in (held_at cells b)
      by_kind held at M = refl
      by_kind held at I = ⊎_elim
          (λ h. ap full_in h.1 ∙ keeps held.block.kind held.state
          ∙ sym (ap full_in (ap (λ b. held_at cells b) h.0 ∙ at)))
          (λ h. ap full_in h.1)
          (held_at-set cells a b (Some (record { block = held.block; state = (f held.state).state }))
          (held_at-within cells a held at))

      by_held : (o : Option Held) → held_at cells a ≡ o
          → full_in (held_at (at_cell I f cells a o).cells b) ≡ full_in (held_at cells b)
      by_held None at = refl
      by_held (Some held) at = by_kind held at held.block.kind

fetch-full : (who : Waiter) (k : Kind) (s : CellState) → full_value k (fetch who s).state ≡ full_value k s
fetch-full who I (Empty waiters) = refl
fetch-full who M (Empty waiters) = refl
fetch-full who k (Full v) = refl
fetch-full who k (Clashed v) = refl

-- ---- where the plan has no store, the value stays

module _ (plan : List Request) (is : IsPlan plan) (a : ℕ) (none : planned_value a plan ≡ None) where
  act-full : (cells : List (Option Held)) (r : Request) → IsInPlan plan r
      → full_in (held_at (act cells (asker r) r.op).cells a) ≡ full_in (held_at cells a)
  act-full cells r in_plan = by_op r.op refl
    where
      false_true : false ≡ true → ⊥
      false_true e = cc

      planned : is_planned r.op ≡ true
      planned = is.planned in_plan.0 r in_plan.1

      apart : (b v : ℕ) → r.op ≡ Store b v → a ≢ b
      apart b v op same = none-some v
          (sym none ∙ planned_value-store plan is r a v in_plan (op ∙ ap (λ c. Store c v) (sym same)))

      by_op : (op : Op) → r.op ≡ op → full_in (held_at (act cells (asker r) op).cells a) ≡ full_in (held_at cells a)
      by_op (Fetch b) e = at-full (fetch (asker r)) cells b (fetch-full (asker r)) a
      by_op (Store b v) e = ap full_in (at-others (store v) cells b a (apart b v e))
      by_op (Alloc kind n) e = absurd (false_true (ap is_planned (sym e) ∙ planned))
      by_op (Release b) e = absurd (false_true (ap is_planned (sym e) ∙ planned))
      by_op (Reset b) e = absurd (false_true (ap is_planned (sym e) ∙ planned))
      by_op (Take b) e = absurd (false_true (ap is_planned (sym e) ∙ planned))
      by_op (Put b v) e = absurd (false_true (ap is_planned (sym e) ∙ planned))

  call-full : (m : Contents) (call : Call) → IsPlannedCall plan call → full_at (contents_after m call) a ≡ full_at m a
  call-full m (Commands (Asks r)) in_plan = by_judged (judge m.windows r)
    where
      by_judged : (j : Result Judged Refusal) → full_at (step_request m r j).contents a ≡ full_at m a
      by_judged (Err refusal) = refl
      by_judged (Ok (Repeat entry)) = refl
      by_judged (Ok Fresh) = act-full m.cells r in_plan
  call-full m (Commands (Confirm element upto)) on = ap (λ cells. full_in (held_at cells a))
      (confirm-cells m element upto)
  call-full m (Collect element number) on = refl

  run-full : (m : Contents) (trace : List Line) → IsPlannedRun plan trace → full_at (end_of m trace) a ≡ full_at m a
  run-full m [] planned = refl
  run-full m (line ∷ trace) planned = run-full (contents_after m line.call) trace planned.1
      ∙ call-full m line.call planned.0

  runs-full : (m : Contents) (runs : Traces) → AreRunsOf plan m runs
      → full_at (end_of_runs m runs) a ≡ full_at m a
  runs-full m [] are = refl
  runs-full m (trace ∷ runs) are = runs-full (end_of m trace) runs (next-runs m plan trace runs are)
      ∙ run-full m trace are.planned.0

-- ---- the end

runs-block : (m : Contents) (plan : List Request) (runs : Traces) (a : ℕ) → AreRunsOf plan m runs
    → block_at (end_of_runs m runs).cells a ≡ block_at m.cells a
runs-block m plan [] a are = refl
runs-block m plan (trace ∷ runs) a are = runs-block (end_of m trace) plan runs a (next-runs m plan trace runs are)
    ∙ (end-under_plan plan are.goes_on.is_plan m m trace are.planned.0 (goes-under m plan are.goes_on)).same a

-- a cell that the plan stores to, once all is served
stored-full : (e : Contents) (plan : List Request) (a v : ℕ) → PlanGoesOn e plan → HasServed e.windows plan
    → planned_value a plan ≡ Some v → (held : Held) → held_at e.cells a ≡ Some held
    → full_value held.block.kind held.state ≡ full_value held.block.kind (Full v)
stored-full e plan a v g served value held at = by_kind held.block.kind refl
  where
    s : IsStored plan a v
    s = planned_value-stored plan a v value

    by_cell : (kind : Kind) → IsCellOf plan e.windows a held.state → full_value kind held.state
        ≡ full_value kind (Full v)
    by_cell kind (ToStore waiters is all none) = absurd
        (none s.request v s.in_plan s.op (served s.request s.in_plan))
    by_cell kind (StoredBy q w q_in op t full) = ap (full_value kind) full
        ∙ ap (λ v. full_value kind (Full v))
        (same_Some w v (sym (planned_value-store plan g.is_plan q a w q_in op) ∙ value))

    by_kind : (kind : Kind) → held.block.kind ≡ kind → full_value kind held.state ≡ full_value kind (Full v)
    by_kind M is = refl
    by_kind I is = by_cell I (subst (λ b. IsCellOf plan e.windows b held.state) (ap address_of s.op)
        (g.under_way.cell s.request held s.in_plan (ap (held_at e.cells) (ap address_of s.op) ∙ at) is))

pub runs-value : (m : Contents) (plan : List Request) (runs : Traces) (a : ℕ) → HaveServed m plan runs
    → full_at (end_of_runs m runs) a ≡ value_in_end (planned_value a plan) (held_at m.cells a)
runs-value m plan runs a h = by_value (planned_value a plan) refl
  where
    by_held : (v : ℕ) → planned_value a plan ≡ Some v → (now : Option Held)
        → held_at (end_of_runs m runs).cells a ≡ now → (was : Option Held)
        → ◌≡◌ {A = Option Block} (option_map (λ held. held.block) now) (option_map (λ held. held.block) was)
        → full_in now ≡ value_in_end (Some v) was
    by_held v value None at None same = refl
    by_held v value None at (Some was) same = absurd (none-some was.block same)
    by_held v value (Some held) at None same = absurd (none-some held.block (sym same))
    by_held v value (Some held) at (Some was) same =
        stored-full (end_of_runs m runs) plan a v (runs-go_on m plan runs h.are) h.served value held at
        ∙ ap (λ (block : Block). full_value block.kind (Full v)) (same_Some held.block was.block same)

    by_value : (o : Option ℕ) → planned_value a plan ≡ o
        → full_at (end_of_runs m runs) a ≡ value_in_end o (held_at m.cells a)
    by_value None value = runs-full plan h.are.goes_on.is_plan a value m runs h.are
    by_value (Some v) value = by_held v value (held_at (end_of_runs m runs).cells a) refl (held_at m.cells a)
        (runs-block m plan runs a h.are)
