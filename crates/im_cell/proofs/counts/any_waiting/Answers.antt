use Rattle.std.proofs.Common.{sym, ◌∙◌, inl, inr, arith}
use Rattle.im_laws.proofs.Tests.{zero_or_more}
use Rattle.im_cell.proofs.Changed.{held-block, loud-number, quiet-number}
use Rattle.im_cell.proofs.counts.any_waiting.Goals as goal

pub number-requires : goal.number-requires
number-requires c =
    let w = c.requires.table.blocks.within c.args.block.base c.args.block c.requires.block in
    held-block c.args.slots.now c.args.holes.now c.args.block c.requires.table c.requires.block c.args.block.base
    (omega arith) (omega arith)

pub returns : goal.returns
returns c = elim (zero_or_more c.number.result) [
  | inl z ↦ c.is_any.ensures.none z ∙ sym (quiet-number c.args.slots.now c.args.holes.now c.args.block c.number.result
      c.requires.table c.requires.block c.number.ensures z)
  | inr m ↦ c.is_any.ensures.some m ∙ sym (loud-number c.args.slots.now c.args.holes.now c.args.block c.number.result
      c.requires.table c.requires.block c.number.ensures m)
]
