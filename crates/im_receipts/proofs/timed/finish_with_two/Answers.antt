use Rattle.std.proofs.Common.{◌≡◌, List, length, sym, ap, ◌∙◌, subst}
use Rattle.im_types.specs.Types.{Line}
use Rattle.im_trace.{proofs.TimeLemmas.both-at, specs.Ends.RecordingState, specs.Lines.time_at}
use Rattle.im_receipts.proofs.TimedLemmas.{in_time}
use mathlib.Core.List.{IsPrefix}

pub returns : Rattle.im_receipts.proofs.timed.finish_with_two.Goals.returns
returns g c = record {
  order = λ honest begins.
      let one = c.args.one.now in
      let two = c.args.two.now in
      let trace = c.finish_kept-session.result.trace in
      let kept = c.finish_kept-session.ensures.keeps honest in
      let same = c.knows.ensures.same in
      let later = subst (λ (h : List Line). IsPrefix h trace.items) c.history.ensures c.knows.ensures.known in
      both-at one.time two.time (time_at trace.times (length one.history)) (time_at trace.times (length two.history))
      (sym c.when.ensures.time ∙ c.times.ensures.time
      ∙ ap (λ n. time_at c.knows.new.self.times n) c.when.ensures.lines
      ∙ ap (λ (r : RecordingState). time_at r.times (length one.history)) same)
      (sym c.when-2.ensures.time ∙ c.times-2.ensures.time
      ∙ ap (λ n. time_at c.times.new.self.times n) c.when-2.ensures.lines
      ∙ ap (λ (r : RecordingState). time_at r.times (length two.history)) (c.times.ensures.same ∙ same))
      (in_time trace.times trace.items one.history two.history kept.order kept.whole begins later);
}
