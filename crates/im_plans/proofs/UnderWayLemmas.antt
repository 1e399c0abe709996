-- A plan that is under way: from its beginning, and all through its runs.
use Rattle.std.proofs.Common.{◌≡◌, ℕ, ◌<◌, ◌≤◌, true, ◌⊎◌, ◌↔◌, List, [], ◌∷◌, is_some, slice_get, Some, None, Option}
use Rattle.std.proofs.Common.{sym, refl, ap, ◌∙◌, subst, inl, inr, arith}
use Rattle.std.{proofs.lemmas.Option.same_Some, specs.List.AllByRecursion}
use Rattle.im_types.specs.Types.{Kind, Op, Waiter, Kept, Waiting, I, M, Alloc, Release, Reset, Fetch, Store, Take, Put}
use Rattle.im_types.specs.Types.{Request, Call, Line, Commands, Collect, CellState, Empty, Full, Held, Window, Contents}
use Rattle.im_types.specs.Types.{held_at, waiters_of, waiters_in, block_at, times, awaiting, address_of, WaitingAgrees}
use Rattle.im_types.specs.Types.{next_number, bounds_of, asker, step, planned_value, fetched, result_of, FitsPlan}
use Rattle.im_types.specs.Types.{contents_after, end_of}
use Rattle.im_laws.proofs.{ForgetLemmas.after-no_less, MemoryLemmas.bounds-window, Tests.below_or_from}
use Rattle.im_laws.proofs.WaiterLemmas.{listed-WaitsAt, waiting-WaitsAt, WaitsAt-listed}
use Rattle.im_plans.proofs.Invariant.{CellIs, IsUnderPlan, StoredBy as WasStored, Unstored, untaken}
use Rattle.im_plans.proofs.{PlanLemmas.in_block-same, PlannedRuns.end-under_plan, Taken.kept-taken}
use Rattle.im_plans.proofs.Waiters.{all-times, AreAlone, end-alone, first-listed, times-all, waiting_at}
use Rattle.im_plans.specs.Runs.{IsInPlan, IsPlannedRun, IsResultOrWaits, IsTaken}
use Rattle.im_plans.specs.UnderWay.{fetch_by, IsCellOf, IsPlanUnderWay, IsPlanUnserved, PlanGoesOn, StoredBy, ToStore}

-- ---- what doesn't change

-- a result, by the blocks alone
pub result-same : (m start : Contents) (plan : List Request)
    → ((a : ℕ) → block_at m.cells a ≡ block_at start.cells a) → (op : Op)
    → result_of m.cells plan op ≡ result_of start.cells plan op
result-same m start plan same (Fetch a) = in_block-same (held_at m.cells a) (held_at start.cells a)
    (fetched (planned_value a plan)) (sym (same a))
result-same m start plan same (Store a v) = in_block-same (held_at m.cells a) (held_at start.cells a) _ (sym (same a))
result-same m start plan same (Alloc kind n) = refl
result-same m start plan same (Release a) = refl
result-same m start plan same (Reset a) = refl
result-same m start plan same (Take a) = refl
result-same m start plan same (Put a v) = refl

-- an element stays there
some-window : (o : Option Window) → is_some o ≡ true → (w : Window) × (o ≡ Some w)
some-window None e = absurd (cc)
some-window (Some w) e = (w, refl)

there-still : (m : Contents) (call : Call) (element : ℕ) → is_some (slice_get m.windows element) ≡ true
    → is_some (slice_get (contents_after m call).windows element) ≡ true
there-still m (Commands command) element some =
    let w = some-window (slice_get m.windows element) some in
    let now = after-no_less m (command ∷ []) element w.0.base (next_number w.0) (ap bounds_of w.1) in
    let there = bounds-window (step m command).contents.windows element now.base_now now.next_now now.are in
    ap is_some there.there
there-still m (Collect e number) element some = some

there-after : (m : Contents) (trace : List Line) (element : ℕ) → is_some (slice_get m.windows element) ≡ true
    → is_some (slice_get (end_of m trace).windows element) ≡ true
there-after m [] element some = some
there-after m (line ∷ trace) element some = there-after (contents_after m line.call) trace element
    (there-still m line.call element some)

-- ---- the two forms of what holds under a plan

pub goes-under : (m : Contents) (plan : List Request) → PlanGoesOn m plan → IsUnderPlan plan m m
goes-under m plan g = record {
  agrees = g.agrees;
  same = λ a. refl;
  cells = λ r held in_plan at kind. by_cell (address_of r.op) held.state (g.under_way.cell r held in_plan at kind);
  kept = λ r k in_plan is. record {
    op = g.under_way.op r k in_plan is;
    result = g.under_way.result r k in_plan is;
  };
}
  where
    by_cell : (a : ℕ) (state : CellState) → IsCellOf plan m.windows a state → CellIs plan m.windows a state
    by_cell a state (ToStore waiters e all none) = Unstored waiters e none
    by_cell a state (StoredBy r v in_plan op t full) = WasStored r v in_plan op t full

pub goes-alone : (m : Contents) (plan : List Request) → PlanGoesOn m plan → AreAlone plan m
goes-alone m plan g = record {
  fetches = λ r in_plan who is.
      let w = waiting-WaitsAt m g.agrees who (waiting_at (address_of r.op)) is refl in
      let kind = of_fetch w.held.block.kind (address_of r.op) (same_Some _ _ (sym w.waits ∙ is)) in
      let some = subst (λ o. 1 ≤ times who (waiters_in o)) w.there
      (WaitsAt-listed m g.agrees who (address_of r.op) w) in
      by_cell (address_of r.op) who w.held.state (g.under_way.cell r w.held in_plan w.there kind) some;
}
  where
    of_fetch : (kind : Kind) (a : ℕ) → ◌≡◌ {A = Kept} (record { op = awaiting kind a; entry = Waiting }) (waiting_at a)
        → kind ≡ I
    of_fetch I a e = refl
    of_fetch M a e = let op : Take a ≡ Fetch a = ap (λ (k : Kept). k.op) e in absurd (cc)

    by_state : (a : ℕ) (who : Waiter) (waiters : List Waiter)
        → AllByRecursion (λ who. IsInPlan plan (fetch_by a who)) waiters → 1 ≤ times who (waiters_of (Empty waiters))
        → IsInPlan plan (fetch_by a who)
    by_state a who waiters all some = times-all (λ who. IsInPlan plan (fetch_by a who)) waiters all who some

    not_full : (who : Waiter) (v : ℕ) → 1 ≤ times who (waiters_of (Full v)) → ⊥
    not_full who v some = omega arith

    by_cell : (a : ℕ) (who : Waiter) (state : CellState) → IsCellOf plan m.windows a state
        → 1 ≤ times who (waiters_of state) → IsInPlan plan (fetch_by a who)
    by_cell a who state (ToStore waiters e all none) some = by_state a who waiters all
        (subst (λ s. 1 ≤ times who (waiters_of s)) e some)
    by_cell a who state (StoredBy r v in_plan op t full) some = absurd
        (not_full who v (subst (λ s. 1 ≤ times who (waiters_of s)) full some))

-- the cells of a plan that is under way
cell-of : (start m : Contents) (plan : List Request) → IsUnderPlan plan start m → AreAlone plan m → (r : Request)
    (held : Held) → IsInPlan plan r → held_at m.cells (address_of r.op) ≡ Some held → held.block.kind ≡ I
    → IsCellOf plan m.windows (address_of r.op) held.state
cell-of start m plan under alone r held in_plan at kind = by_cell held.state refl (under.cells r held in_plan at kind)
  where
    waits : (waiters : List Waiter) → held.state ≡ Empty waiters → (who : Waiter) → 1 ≤ times who waiters
        → IsInPlan plan (fetch_by (address_of r.op) who)
    waits waiters e who some =
        let w = listed-WaitsAt m under.agrees who (address_of r.op)
        (subst (λ o. 1 ≤ times who (waiters_in o)) (sym at)
        (subst (λ s. 1 ≤ times who (waiters_of s)) (sym e) some)) in
        let same : w.held.block.kind ≡ I =
        ap (λ (held : Held). held.block.kind) (same_Some w.held held (sym w.there ∙ at)) ∙ kind in
        alone.fetches r in_plan who
        (w.waits ∙ ap (λ k. Some (record { op = awaiting k (address_of r.op); entry = Waiting })) same)

    by_cell : (state : CellState) → held.state ≡ state → CellIs plan m.windows (address_of r.op) state
        → IsCellOf plan m.windows (address_of r.op) state
    by_cell state s (Unstored waiters e none) = ToStore waiters e
        (all-times (λ who. IsInPlan plan (fetch_by (address_of r.op) who)) waiters (waits waiters (s ∙ e))) none
    by_cell state s (WasStored q v q_in op t full) = StoredBy q v q_in op t full

-- ---- a planned run

pub goes-on : (m : Contents) (plan : List Request) (trace : List Line) → PlanGoesOn m plan → IsPlannedRun plan trace
    → PlanGoesOn (end_of m trace) plan
goes-on m plan trace g planned =
    let under = end-under_plan plan g.is_plan m m trace planned (goes-under m plan g) in
    let alone = end-alone plan m trace planned g.agrees (goes-alone m plan g) in
    record {
      agrees = under.agrees;
      is_plan = g.is_plan;
      under_way = record {
        element = λ r in_plan. there-after m trace r.element (g.under_way.element r in_plan);
        number = g.under_way.number;
        op = λ r k in_plan is. (under.kept r k in_plan is).op;
        result = λ r k in_plan is. subst (λ o. IsResultOrWaits o k.entry)
            (sym (result-same (end_of m trace) m plan under.same r.op)) (under.kept r k in_plan is).result;
        cell = cell-of m (end_of m trace) plan under alone;
      };
    }

pub result-stays : (m : Contents) (plan : List Request) (trace : List Line) (op : Op) → PlanGoesOn m plan
    → IsPlannedRun plan trace → result_of (end_of m trace).cells plan op ≡ result_of m.cells plan op
result-stays m plan trace op g planned = result-same (end_of m trace) m plan
    (end-under_plan plan g.is_plan m m trace planned (goes-under m plan g)).same op

-- ---- the beginning

pub fits-under_way : (m : Contents) (plan : List Request) → FitsPlan m plan → IsPlanUnderWay m plan
fits-under_way m plan fits = record {
  element = λ r in_plan. fits.element in_plan.0 r in_plan.1;
  number = λ r in_plan.
      let w = some-window (slice_get m.windows r.element) (fits.element in_plan.0 r in_plan.1) in
      (fits.number in_plan.0 r w.0 in_plan.1 w.1).1;
  op = λ r k in_plan is. absurd (untaken m plan fits r in_plan (kept-taken m.windows (asker r) k is));
  result = λ r k in_plan is. absurd (untaken m plan fits r in_plan (kept-taken m.windows (asker r) k is));
  cell = λ r held in_plan at kind. ToStore [] (fits.empty in_plan.0 r held in_plan.1 at kind) tt
      (λ q v q_in op t. untaken m plan fits q q_in t);
}

pub under_way-fits : (m : Contents) (plan : List Request) → WaitingAgrees m → IsPlanUnderWay m plan
    → ((r : Request) → IsInPlan plan r → IsTaken m.windows (asker r) → ⊥) → FitsPlan m plan
under_way-fits m plan agrees u none = record {
  element = λ i r at. u.element r (i, at);
  number = λ i r w at there. (from r (i, at) w there (below_or_from r.number (next_number w)), u.number r (i, at));
  empty = λ i r held at there kind. by_cell (address_of r.op) held there held.state refl
      (u.cell r held (i, at) there kind);
}
  where
    from : (r : Request) → IsInPlan plan r → (w : Window) → slice_get m.windows r.element ≡ Some w
        → (r.number < next_number w) ⊎ (next_number w ≤ r.number) → next_number w ≤ r.number
    from r in_plan w there (inl below) = absurd
        (none r in_plan (record { window = w; there = there; below = below }))
    from r in_plan w there (inr h) = h

    by_list : (a : ℕ) (held : Held) → held_at m.cells a ≡ Some held → (waiters : List Waiter)
        → held.state ≡ Empty waiters → AllByRecursion (λ who. IsInPlan plan (fetch_by a who)) waiters
        → Empty waiters ≡ Empty []
    by_list a held at [] e all = refl
    by_list a held at (w ∷ ws) e all =
        let listed : 1 ≤ times w (waiters_of held.state) =
        subst (λ s. 1 ≤ times w (waiters_of s)) (sym e) (first-listed w ws) in
        let waits = listed-WaitsAt m agrees w a (subst (λ o. 1 ≤ times w (waiters_in o)) (sym at) listed) in
        let t = kept-taken m.windows w _ waits.waits in
        absurd (none (fetch_by a w) all.0 (record { window = t.window; there = t.there; below = t.below }))

    by_cell : (a : ℕ) (held : Held) → held_at m.cells a ≡ Some held → (state : CellState) → held.state ≡ state
        → IsCellOf plan m.windows a state → state ≡ Empty []
    by_cell a held at state s (ToStore waiters e all unstored) = e ∙ by_list a held at waiters (s ∙ e) all
    by_cell a held at state s (StoredBy r v in_plan op t full) = absurd (none r in_plan t)

pub fits-begins : (m : Contents) (plan : List Request) → WaitingAgrees m
    → FitsPlan m plan ↔ (IsPlanUnderWay m plan × IsPlanUnserved m.windows plan)
fits-begins m plan agrees = (
  λ fits. (fits-under_way m plan fits, untaken m plan fits),
  λ h. under_way-fits m plan agrees h.0 h.1,
)
