use Rattle.std.proofs.Common.{◌≡◌, ℕ, suc, ◌+◌, List, length, set, None, Option, ap, ◌∙◌, arith}
use Rattle.im_types.specs.Types.{fill}
use Rattle.im_glass.proofs.CellLemmas.{fill-more, fill-none, length-filled}
use Rattle.im_glass.proofs.cells.FullCells.empty_all.Goals as goal

pub loop-i-init : goal.loop-i-init
loop-i-init c = fill-none _ _

pub empty-requires : goal.empty-requires
empty-requires c =
    omega (
      arith,
      c.requires,
      ap
          (λ (cells : List (Option ℕ)). length cells) c.loop-i.invariant,
      length-filled c.args.self.now c.args.base c.loop-i.i,
    )

pub loop-i-preserved : goal.loop-i-preserved
loop-i-preserved c =
    c.empty.ensures
    ∙ ap (λ (cells : List (Option ℕ)). set cells (c.args.base + c.loop-i.i) None) c.loop-i.invariant
    ∙ fill-more c.args.self.now c.args.base c.loop-i.i
    ∙ ap (λ (n : ℕ). fill c.args.self.now c.args.base n None)
    (let e : suc c.loop-i.i ≡ c.loop-i.i + 1 = omega arith in e)
