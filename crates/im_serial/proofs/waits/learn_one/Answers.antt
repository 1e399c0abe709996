use Rattle.std.proofs.Common.{◌≡◌, length, Some, None, sym, ◌∙◌, subst}
use Rattle.im_types.specs.Types.{Waiter, Contents, kept_for}
use Rattle.im_laws.proofs.MemoryLemmas.{after-memory}
use Rattle.im_serial.proofs.NotedLemmas.{noted_learnt, noted_none}
use Rattle.im_serial.proofs.waits.learn_one.Goals as goal

pub returns-in-Some-clause-learnt : goal.returns-in-Some-clause-learnt
returns-in-Some-clause-learnt c = λ m put same memory noted.
    let who : Waiter = record { element = c.args.who.0; number = c.args.who.1 } in
    noted_learnt m put who c.in-Some.kept c.take-mark.result c.args.places.now.marks.items c.take-mark.new.self.marks.items c.args.waited.now c.settle.new.waited
    (after-memory (length m.cells) (length m.windows) m put memory).windows
    (subst (λ (n : Contents). kept_for n.windows who ≡ Some c.in-Some.kept) same (sym c.kept.ensures ∙ c.in-Some.is)) c.take-mark.ensures.mark c.take-mark.ensures.others c.settle.ensures.sets noted

pub returns-in-None-clause-learnt : goal.returns-in-None-clause-learnt
returns-in-None-clause-learnt c = λ m put same memory noted.
    let who : Waiter = record { element = c.args.who.0; number = c.args.who.1 } in
    noted_none m put who c.args.places.now.marks.items c.args.waited.now (subst (λ (n : Contents). kept_for n.windows who ≡ None) same (sym c.kept.ensures ∙ c.in-None.is)) noted
