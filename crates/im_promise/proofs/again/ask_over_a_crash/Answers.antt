use Rattle.std.proofs.Common.{◌≡◌, List, ◌++◌, sym, ap, ◌∙◌, subst}
use Rattle.im_types.specs.Types.{Command, Asks, Contents, WaitingAgrees, after}
use Rattle.im_laws.specs.{Entries.IsToldAgainOrForgotten, Requests.after_request}
use Rattle.im_session.specs.Events.{acknowledged}
use Rattle.im_promise.proofs.Sent.{acted, answer_of, asked, by_is_false, is_false_by, said}
use Rattle.im_promise.proofs.again.ask_over_a_crash.Goals as goal

pub returns-in-Ok-clause-again : goal.returns-in-Ok-clause-again
returns-in-Ok-clause-again c = λ f entry told.
    let old = c.args.engine in
    let mid = c.serve-first.new.self in
    let r = c.args.request in
    let now = c.in-Ok.recovered.engine in
    let first = acted old mid r entry c.serve-first.result f c.serve-first.ensures.answered told
    (λ un. (c.accepted_where_changed.ensures.unaccepted old.memory (Asks r)).0 (is_false_by _ un)) in
    let agrees : WaitingAgrees old.memory = subst WaitingAgrees c.memory.ensures c.cells-cells.ensures.memory.agrees in
    let found = c.in-Ok.ensures.recovers first.works in
    let l : List Command = acknowledged mid.memory c.args.events.now c.in-Ok.recovered.answers.items ++ found.also in
    let is : now.memory ≡ after (after_request old.memory r) l =
    found.memory ∙ ap (λ (x : Contents). after x l) first.memory in
    let again =
    said now c.serve-again.new.self r entry c.serve-again.result c.in-Ok.ensures.works c.serve-again.ensures.answered
    (subst (λ (x : Contents). IsToldAgainOrForgotten x r entry) (sym is)
    (c.repeat_is_told_again.ensures old.memory r entry l agrees first.answered))
    (λ gone. c.forgotten_for_ever.ensures.refused now.memory r gone)
    (λ same. by_is_false _ ((c.accepted_where_changed.ensures.unaccepted now.memory (Asks r)).1 same)) in
    asked old mid now c.serve-again.new.self r entry c.serve-again.result c.args.events.now
    c.in-Ok.recovered.answers.items first found again

pub returns-in-Err-clause-refused : goal.returns-in-Err-clause-refused
returns-in-Err-clause-refused c = λ f entry told.
    let old = c.args.engine in
    let r = c.args.request in
    let first = acted old c.serve-first.new.self r entry c.serve-first.result f c.serve-first.ensures.answered told
    (λ un. (c.accepted_where_changed.ensures.unaccepted old.memory (Asks r)).0 (is_false_by _ un)) in
    c.in-Err.ensures.refused first.works

pub returns-in-Ok-clause-first : goal.returns-in-Ok-clause-first
returns-in-Ok-clause-first c =
    let new = c.serve-first.new.self in
    answer_of c.args.engine new c.args.request c.serve-first.result c.serve-first.ensures.answered

pub returns-in-Err-clause-first : goal.returns-in-Err-clause-first
returns-in-Err-clause-first c =
    let new = c.serve-first.new.self in
    answer_of c.args.engine new c.args.request c.serve-first.result c.serve-first.ensures.answered
