use Rattle.std.proofs.Common.{List, ◌++◌, length, drop, refl, ap, ◌∙◌, subst, arith, take_all}
use Rattle.im_types.specs.Types.{Change}
use Rattle.im_glass.{proofs.CopyLemmas.staged-next, proofs.CopyLemmas.staged-none, specs.Copies.FollowEach}
use Rattle.im_glass.proofs.sides.stage.Goals as goal

pub loop-change-init : goal.loop-change-init
loop-change-init g c = (refl, omega arith, staged-none _ _ _ _ c.requires.none)

pub loop-change-preserved : goal.loop-change-preserved
loop-change-preserved g c = (
  c.stage_one.ensures.desk ∙ c.loop-change.invariant.0,
  omega (arith, c.stage_one.ensures.count, c.loop-change.invariant.1),
  staged-next _ _ _ c.args.changes.now _ _ c.loop-change.change-index _ _ _ c.loop-change.invariant.2 (omega arith)
      c.stage_one.ensures.all c.stage_one.ensures.one
      (rw (← c.loop-change.invariant.0) c.stage_one.ensures.below),
)

pub returns-clause-goes_on : goal.returns-clause-goes_on
returns-clause-goes_on g c =
    let i = c.loop-change.invariant in
    rw (i.0)
    (subst (λ (l : List Change). FollowEach (length c.args.both.now.desk.shown.value.cells) g.J.PaneName.book l
    (drop c.loop-change.both.behind c.loop-change.both.log.items)) c.requires.kept.1 i.2.goes)

pub returns-clause-kept : goal.returns-clause-kept
returns-clause-kept g c = rw (c.loop-change.invariant.0) c.requires.kept.0

pub returns-clause-log : goal.returns-clause-log
returns-clause-log g c =
    let i = c.loop-change.invariant in
    rw (i.0)
    (ap (λ (l : List Change). c.args.both.now.desk.shown.value.seen.log ++ l)
    (i.2.changes_are ∙ take_all c.loop-change.change-index c.args.changes.now (omega arith)))

pub returns-clause-all : goal.returns-clause-all
returns-clause-all g c =
    c.loop-change.invariant.2.to_is
    ∙ ap (λ (l : List Change). c.args.all.now ++ l) (take_all c.loop-change.change-index c.args.changes.now (omega arith))
    ∙ ap (λ (l : List Change). l ++ c.args.changes.now) c.requires.kept.1

pub returns-clause-cells : goal.returns-clause-cells
returns-clause-cells g c = rw (c.loop-change.invariant.0) refl
