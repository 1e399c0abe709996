use Rattle.std.proofs.Common.{Bool, if◌then◌else◌, refl, ap, ◌∙◌, ap₂, arith}
use Rattle.im_dialogue.{proofs.ListLemmas.count_more, specs.Counting.is_counted}
use Rattle.im_dialogue.proofs.counting.count_cells.Goals as goal

pub loop-a-init : goal.loop-a-init
loop-a-init c = record {
  many = refl;
  few = omega arith;
}

pub loop-a-preserved : goal.loop-a-preserved
loop-a-preserved c =
    let a = c.loop-a.a in
    let passes = c.is_counted-passes.ensures
    ∙ ap₂ (is_counted c.args.sort a) c.block.ensures c.cell.ensures in
    record {
      many = count_more _ a c.loop-a.count c.one_that-count.result c.loop-a.invariant.many
          (c.one_that-count.ensures.value ∙ ap (λ (b : Bool). if b then 1 else 0) passes);
      few = omega (arith, c.loop-a.invariant.few, c.one_that-count.ensures.few);
    }
