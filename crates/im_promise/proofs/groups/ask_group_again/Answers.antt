use Rattle.std.proofs.Common.{[], refl}
use Rattle.im_engine.specs.Groups.{reached_in}
use Rattle.im_promise.proofs.Asking.{group_again, said_again}
use Rattle.im_promise.proofs.Sent.{agrees_after, by_is_false, is_false_by}

pub returns : Rattle.im_promise.proofs.groups.ask_group_again.Goals.returns
returns g c = λ f before has.
    let old = c.args.engine.now in
    let members = c.args.members.now.items in
    group_again before old c.serve_group.new.self members c.serve_group.new.served.items f
    c.serve_group.ensures.answered
    (said_again c.repeat_is_told_again.ensures c.forgotten_for_ever.ensures.refused
    (λ m command e. (c.accepted_where_changed.ensures.unaccepted m command).0 (is_false_by _ e))
    (λ m command same. by_is_false _ ((c.accepted_where_changed.ensures.unaccepted m command).1 same))
    c.runs_join.ensures.memory before.contents
    (λ commands. agrees_after c.waiting_agrees.ensures.step before.contents commands has.agrees)
    before (reached_in old) members [] has.later refl has.is)
