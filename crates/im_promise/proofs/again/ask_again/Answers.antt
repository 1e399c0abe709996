use Rattle.std.proofs.Common.{sym, subst}
use Rattle.{im_types.specs.Types.Asks, im_types.specs.Types.Contents, im_laws.specs.Entries.IsToldAgainOrForgotten}
use Rattle.im_promise.proofs.Sent.{by_is_false, said}

pub returns : Rattle.im_promise.proofs.again.ask_again.Goals.returns
returns g c = λ f entry told.
    let again = said c.args.engine.now c.serve.new.self c.args.request entry c.serve.result f c.serve.ensures.answered
    (subst (λ (x : Contents). IsToldAgainOrForgotten x c.args.request entry) (sym told.is)
    (c.repeat_is_told_again.ensures told.before c.args.request entry told.later told.agrees told.answered))
    (λ gone. c.forgotten_for_ever.ensures.refused c.args.engine.now.memory c.args.request gone)
    (λ same. by_is_false _
    ((c.accepted_where_changed.ensures.unaccepted c.args.engine.now.memory (Asks c.args.request)).1 same)) in
    (again.0, again.1)
