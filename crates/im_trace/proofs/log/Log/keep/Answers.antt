use Rattle.std.proofs.Common.{◌≡◌, ◌<◌, true, ◌++◌, length, slice_get, Some, None, sym, ap, ◌∙◌, subst}
use Rattle.im_types.specs.Types.{Commands, answer_to, end_of}
use Rattle.im_trace.proofs.LogLemmas.{end-lines, log-keeps}
use Rattle.im_trace.specs.{Ends.RecordState, Log.LogState, Log.sender_of, Log.TimedLog}
use Rattle.im_trace.specs.Lines.{leaves_line, left_lines, memory_after, times_of}
use Rattle.im_trace.proofs.log.Log.keep.Goals as goal

pub invariant_of-self : goal.invariant_of-self
invariant_of-self g c =
    let m = g.K.Name.origin.memory in let r = c.args.command.now in let answer = c.args.answer
    in let v = sym (ap (λ (t : TimedLog). t.state) c.self.view_is) in
    let so = subst (λ (l : LogState). leaves_line answer ≡ true → answer
    ≡ answer_to (end_of m l.trace) (Commands r)) v c.requires.is_so in
    let room = subst (λ (l : LogState). leaves_line answer ≡ true → length l.trace < l.limit) v c.requires.room in
    let free = subst (λ (l : LogState). slice_get l.places (sender_of r) ≡ Some None) v c.requires.free in
    rw (c.put_in.ensures, c.len-before.ensures, c.push.ensures.lines)
    (log-keeps m g.K.Name.origin.marks _ c.self.inside.books c.self.invariant r answer free room so)

pub returns-clause-end : goal.returns-clause-end
returns-clause-end g c =
    let m = g.K.Name.origin.memory in let call = Commands c.args.command.now in
    rw c.push.ensures.lines (
    end-lines m c.self.inside.record.lines call c.args.answer
    ∙ ap (λ (l : LogState). memory_after (end_of m l.trace) call c.args.answer)
    (ap (λ (t : TimedLog). t.state) c.self.view_is))

pub returns-clause-times : goal.returns-clause-times
returns-clause-times g c =
    let more = left_lines (Commands c.args.command.now) c.args.answer in
    let time = length (g.D.Disk.past c.args.disk.now) in record {
      more = more;
      lines = ap (λ (r : RecordState). r.lines) c.push.ensures.lines
          ∙ ap (λ (t : TimedLog). t.state.trace ++ more) c.self.view_is;
      times = ap (λ (r : RecordState). r.times) c.push.ensures.lines
          ∙ ap (λ (t : TimedLog). t.times ++ times_of time more) c.self.view_is;
    }
