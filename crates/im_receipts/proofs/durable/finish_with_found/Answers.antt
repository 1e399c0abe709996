use Rattle.std.proofs.Common.{List, sym, ap, ◌∙◌, subst}
use Rattle.{im_types.specs.Types.Line, im_types.specs.Types.Contents, im_controller.specs.Lines.time_at}
use Rattle.im_receipts.proofs.DurableLemmas.{found_later, is_left_at, means_past, memory_with}
use Rattle.im_receipts.specs.Durable.{IsFoundAgainOrForgotten}
use mathlib.Core.List.{IsPrefix}

pub returns : Rattle.im_receipts.proofs.durable.finish_with_found.Goals.returns
returns g c = record {
  keeps = λ honest.
      let k = g.K.Name.origin in
      let m = k.memory in
      let found = c.args.found.now in
      let trace = c.finish_with-finished.result.trace in
      let it = c.entry-entry.ensures in
      let ends = c.finish_with-finished.ensures in
      let kept = ends.keeps honest in
      let s = c.finish_with-finished.result.session in
      let begins = subst (λ (h : List Line). IsPrefix h trace.items) c.history.ensures ends.begins in
      let time = sym c.when.ensures.time ∙ ends.time ∙ ap (λ n. time_at trace.times n) c.when.ensures.lines in
      let left = is_left_at trace.items trace.times found.history _ found.time begins it.last time in
      record {
        begins = begins;
        by = kept.by found.history found.time left;
        since = λ file since.
            let past = means_past g.D.Disk k found.history trace.items s ends.put file begins
            (kept.since found.history found.time left file since) in
            record {
              later = past.later;
              means = past.means;
              again = subst (λ (n : Contents). IsFoundAgainOrForgotten n
                  (record { element = found.element; number = found.number }) found.entry)
                  (sym (memory_with g.D.Disk k found.history trace.items s ends.put past.later))
                  (found_later c.entry_lasts.ensures.run m ends.memory.agrees found it.legal it.last past.later);
            };
      };
}
