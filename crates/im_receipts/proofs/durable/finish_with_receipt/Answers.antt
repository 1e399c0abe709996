use Rattle.std.proofs.Common.{List, sym, ap, ◌∙◌, subst}
use Rattle.{im_types.specs.Types.Line, im_types.specs.Types.Contents, im_controller.specs.Lines.time_at}
use Rattle.im_laws.specs.Entries.{IsToldAgainOrForgotten}
use Rattle.im_receipts.proofs.DurableLemmas.{is_left_at, means_past, memory_with, told_later}
use mathlib.Core.List.{IsPrefix}

pub returns : Rattle.im_receipts.proofs.durable.finish_with_receipt.Goals.returns
returns g c = record {
  keeps = λ honest.
      let k = g.K.Name.origin in
      let m = k.memory in
      let receipt = c.args.receipt.now in
      let trace = c.finish_with.result.trace in
      let it = c.outcome-outcome.ensures in
      let ends = c.finish_with.ensures in
      let kept = ends.keeps honest in
      let s = c.finish_with.result.session in
      let begins = subst (λ (h : List Line). IsPrefix h trace.items) c.history.ensures ends.begins in
      let time = sym c.when.ensures.time ∙ ends.time ∙ ap (λ n. time_at trace.times n) c.when.ensures.lines in
      let left = is_left_at trace.items trace.times receipt.history _ receipt.time begins it.last time in
      record {
        begins = begins;
        by = kept.by receipt.history receipt.time left;
        since = λ file since.
            let past = means_past g.D.Disk k receipt.history trace.items s ends.put file begins
            (kept.since receipt.history receipt.time left file since) in
            record {
              later = past.later;
              means = past.means;
              again = λ r entry gives. subst (λ (n : Contents). IsToldAgainOrForgotten n r entry)
                  (sym (memory_with g.D.Disk k receipt.history trace.items s ends.put past.later))
                  (told_later c.repeat_is_told_again.ensures m ends.memory.agrees receipt it.legal it.last past.later r
                  entry gives);
            };
      };
}
