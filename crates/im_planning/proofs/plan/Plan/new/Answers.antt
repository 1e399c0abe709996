use Rattle.std.proofs.Common.{◌≡◌, ℕ, ◌+◌, ◌-◌, ◌<◌, ◌≤◌, List, ◌∷◌, length, drop, slice_index_or, nat_cmp, sym, ap}
use Rattle.std.proofs.Common.{◌∙◌, subst, arith}
use Rattle.std.{proofs.lemmas.List.drop_more, specs.BTreeMap.get}
use Rattle.im_types.specs.Types.{Request, IsPlan}
use Rattle.im_planning.proofs.MakingLemmas.{cons-plan, drop-plan, plan-begins}
use Rattle.im_planning.specs.{Begins.IndexesPlan, Making.key_cmp}
use Rattle.im_planning.proofs.plan.Plan.new.Goals as goal

-- one request more
one_more : (xs : List Request) (at : ℕ) (x : Request) → at ≤ length xs → 0 < at → x ≡ slice_index_or xs (at - 1) x
    → drop (at - 1) xs ≡ x ∷ drop at xs
one_more xs at x within more is =
    let lt : at - 1 < length xs = omega arith in
    let back : at - 1 + 1 ≡ at = omega arith in
    drop_more xs (at - 1) x lt ∙ ap (λ y. y ∷ drop (at - 1 + 1) xs) (sym is) ∙ ap (λ n. x ∷ drop n xs) back

pub returns-in-Err-clause-bad : goal.returns-in-Err-clause-bad
returns-in-Err-clause-bad c = λ e is.
    let more = one_more c.args.requests.items c.loop-at.at c.index.result.now c.loop-at.invariant.within c.loop-at-test.true c.index.ensures in
    let plan = subst IsPlan more (drop-plan (c.loop-at.at - 1) c.args.requests.items is) in
    c.in-Err.ensures.bad (drop c.loop-at.at c.args.requests.items) c.loop-at.invariant.follows e
    (plan-begins c.index.result.now (drop c.loop-at.at c.args.requests.items) plan)

pub loop-at-preserved : goal.loop-at-preserved
loop-at-preserved c =
    let more = one_more c.args.requests.items c.loop-at.at c.index.result.now c.loop-at.invariant.within c.loop-at-test.true c.index.ensures in
    let b = c.in_default.ensures.begins (drop c.loop-at.at c.args.requests.items) c.loop-at.invariant.follows in
    record {
      within = omega arith;
      plan = subst IsPlan (sym more)
          (cons-plan c.index.result.now (drop c.loop-at.at c.args.requests.items) b.0 c.loop-at.invariant.plan);
      follows = subst (IndexesPlan (get key_cmp c.add.new.under) (get nat_cmp c.add.new.stored)) (sym more) b.1;
    }
