use Rattle.std.proofs.Common.{◌≡◌, ◌<◌, true, ◌++◌, length, sym, ap, ◌∙◌, subst}
use Rattle.im_types.specs.Types.{answer_to, end_of}
use Rattle.im_trace.proofs.{LogLemmas.end-lines, LogLemmas.log-leaves, TimeLemmas.time-last}
use Rattle.im_trace.specs.{Ends.RecordState, Log.LogState, Log.TimedLog}
use Rattle.im_trace.specs.Lines.{leaves_line, left_lines, memory_after, times_of}
use Rattle.im_trace.proofs.log.Log.leave.Goals as goal

pub invariant_of-self : goal.invariant_of-self
invariant_of-self g c =
    let m = g.K.Name.origin.memory in let call = c.args.call in let answer = c.args.answer in
    let so = subst (λ (l : LogState). leaves_line answer ≡ true → answer ≡ answer_to (end_of m l.trace) call)
    (sym (ap (λ (t : TimedLog). t.state) c.self.view_is)) c.requires.is_so in
    let room = subst (λ (l : LogState). length l.trace < l.limit)
    (sym (ap (λ (t : TimedLog). t.state) c.self.view_is)) c.requires.room in
    rw (c.push.ensures.lines, c.count_line.ensures.books)
    (log-leaves m g.K.Name.origin.marks _ c.self.inside.books c.self.invariant call answer (λ _. room) so)

pub returns-clause-end : goal.returns-clause-end
returns-clause-end g c =
    let m = g.K.Name.origin.memory in
    rw c.push.ensures.lines (
    end-lines m c.self.inside.record.lines c.args.call c.args.answer
    ∙ ap (λ (l : LogState). memory_after (end_of m l.trace) c.args.call c.args.answer)
    (ap (λ (t : TimedLog). t.state) c.self.view_is))

pub returns-clause-times : goal.returns-clause-times
returns-clause-times g c =
    let more = left_lines c.args.call c.args.answer in let time = length (g.D.Disk.past c.args.disk.now) in record {
      more = more;
      lines = ap (λ (r : RecordState). r.lines) c.push.ensures.lines
          ∙ ap (λ (t : TimedLog). t.state.trace ++ more) c.self.view_is;
      times = ap (λ (r : RecordState). r.times) c.push.ensures.lines
          ∙ ap (λ (t : TimedLog). t.times ++ times_of time more) c.self.view_is;
    }

pub returns-clause-time : goal.returns-clause-time
returns-clause-time g c = λ left.
    time-last c.args.call c.args.answer c.self.inside.record.lines c.push.new.self.lines c.self.inside.record.times
    c.push.new.self.times (length (g.D.Disk.past c.args.disk.now)) left
    (ap (λ (r : RecordState). r.lines) c.push.ensures.lines) (ap (λ (r : RecordState). r.times) c.push.ensures.lines)
    c.push.ensures.whole
