use Rattle.std.proofs.Common.{[], sym, ap, ◌∙◌, subst}
use Rattle.im_types.specs.Types.{Asks, Contents, WaitingAgrees}
use Rattle.{im_laws.specs.Entries.IsToldAgainOrForgotten, im_engine.specs.State.EngineState}
use Rattle.im_promise.proofs.Sent.{acted, by_is_false, is_false_by, said, unused}
use Rattle.im_promise.specs.Again.{IsSaidAgain}
use Rattle.im_promise.proofs.again.send_twice.Goals as goal

pub returns-clause-unheld : goal.returns-clause-unheld
returns-clause-unheld g c = λ before commands is free.
    unused c.request_takes_the_next_number.ensures c.bounds_never_fall.ensures c.runs_join.ensures.memory before
    c.args.engine.now.memory commands c.args.request is free

pub returns-clause-once : goal.returns-clause-once
returns-clause-once g c = λ f entry answer.
    let old = c.args.engine.now in
    let mid = c.serve-first.new.self in
    let r = c.args.request in
    let first = acted old mid r entry c.serve-first.result f c.serve-first.ensures.answered answer
    (λ un. (c.accepted_where_changed.ensures.unaccepted old.memory (Asks r)).0 (is_false_by _ un)) in
    let agrees : WaitingAgrees old.memory = subst WaitingAgrees c.memory.ensures c.cells-cells.ensures.memory.agrees in
    let again =
    said mid c.serve-second.new.self r entry c.serve-second.result first.works c.serve-second.ensures.answered
    (subst (λ (x : Contents). IsToldAgainOrForgotten x r entry) (sym first.memory)
    (c.repeat_is_told_again.ensures old.memory r entry [] agrees first.answered))
    (λ gone. c.forgotten_for_ever.ensures.refused mid.memory r gone)
    (λ same. by_is_false _ ((c.accepted_where_changed.ensures.unaccepted mid.memory (Asks r)).1 same)) in
    let still = ap (λ (s : EngineState _). s.memory) again.1 in
    (subst (λ (x : Contents). IsSaidAgain x r entry c.serve-second.result) (sym still) again.0, still ∙ first.memory)
