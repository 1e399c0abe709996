use Rattle.std.proofs.Common.{◌≡◌, Some, None, sym, ◌∙◌, subst}
use Rattle.{im_types.specs.Types.Contents, im_types.specs.Types.kept_for, im_text.specs.Said.who_of}
use Rattle.im_serial.proofs.NotedLemmas.{learnt_dropped, learnt_kept, learnt_past}
use Rattle.im_serial.proofs.waits.learn_last.Goals as goal

pub returns-in-Some-kept-clause-learnt : goal.returns-in-Some-kept-clause-learnt
returns-in-Some-kept-clause-learnt c = λ m put same learnt.
    learnt_kept m put c.args.waited.now c.set_entry.new.waited c.args.at c.in-Some.last c.in-Some-kept.kept (sym c.waited_at.ensures ∙ c.in-Some.is)
    (subst (λ (n : Contents). kept_for n.windows (who_of c.in-Some.last) ≡ Some c.in-Some-kept.kept) same (sym c.kept.ensures ∙ c.in-Some-kept.is)) c.set_entry.ensures.sets learnt

pub returns-in-None-kept-clause-learnt : goal.returns-in-None-kept-clause-learnt
returns-in-None-kept-clause-learnt c = λ m put same learnt.
    learnt_dropped m put c.args.waited.now c.args.at c.in-Some.last (sym c.waited_at.ensures ∙ c.in-Some.is)
    (subst (λ (n : Contents). kept_for n.windows (who_of c.in-Some.last) ≡ None) same (sym c.kept.ensures ∙ c.in-None-kept.is)) learnt

pub returns-in-None-clause-learnt : goal.returns-in-None-clause-learnt
returns-in-None-clause-learnt c = λ m put same learnt. learnt_past m put c.args.waited.now c.args.at (sym c.waited_at.ensures ∙ c.in-None.is) learnt
