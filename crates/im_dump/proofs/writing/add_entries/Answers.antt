use Rattle.std.proofs.Common.{◌-◌, ◌++◌, string_bytes, ap, ◌∙◌, subst, arith}
use Rattle.im_types.specs.Types.{FitsPlace}
use Rattle.im_text.proofs.TextLemmas.{written_more_at, written_none_at}
use Rattle.im_dump.proofs.WritingLemmas.{entry_at, one_entry_more, place_at}
use Rattle.im_dump.proofs.writing.add_entries.Goals as goal

pub loop-number-init : goal.loop-number-init
loop-number-init c = record {
  lines = λ w at from next. written_none_at _ _ _ (omega arith);
  fits = λ w at from i lt. absurd (omega arith);
}

pub loop-number-preserved : goal.loop-number-preserved
loop-number-preserved c = record {
  lines = λ w at from next.
      written_more_at _ (c.loop-number.number - c.args.base) _ _ _ _ (omega arith) (c.loop-number.invariant.lines w at
      from next)
      (c.in_ok-add_kept.ensures.lines ∙ ap (λ line. string_bytes c.loop-number.out ++ line) (entry_at
      c.args.memory.now.contents.windows c.args.element w c.args.base c.loop-number.number c.kept.result at from
      (omega arith) c.kept.ensures));
  fits = λ w at from. one_entry_more w.kept (c.loop-number.number - c.args.base) _ (omega arith)
      (c.loop-number.invariant.fits w at from)
      (subst FitsPlace (place_at c.args.memory.now.contents.windows c.args.element w c.args.base c.loop-number.number
      c.kept.result at from (omega arith) c.kept.ensures) c.add_kept.ensures.fits);
}
