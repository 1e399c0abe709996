use Rattle.std.proofs.Common.{◌≡◌, List, [], ◌++◌, refl, ap, ◌∙◌, subst}
use Rattle.im_types.specs.Types.{Command, Contents, WaitingAgrees, after}
use Rattle.{im_engine.specs.Groups.group_put, im_engine.specs.Groups.reached_in, im_session.specs.Events.acknowledged}
use Rattle.im_promise.proofs.Asking.{group_again, said_again}
use Rattle.im_promise.proofs.Grouping.{group_acted, group_answer, group_asked, GroupsAreRuns}
use Rattle.im_promise.proofs.Sent.{agrees_after, by_is_false, is_false_by}
use Rattle.im_promise.proofs.groups.ask_group_over_a_crash.Goals as goal

pub returns-in-Ok-clause-again : goal.returns-in-Ok-clause-again
returns-in-Ok-clause-again c = λ f quiet.
    let old = c.args.engine in
    let mid = c.serve_group.new.self in
    let members = c.args.members.now.items in
    let opened = c.in-Ok.recovered.engine in
    let events = c.args.events.now in
    let answers = c.in-Ok.recovered.answers.items in
    let runs : GroupsAreRuns =
    record { memory = c.groups_are_runs.ensures.memory; count = c.groups_are_runs.ensures.count } in
    let acted =
    group_acted old mid members c.serve_group.new.served.items runs c.groups_acknowledge_what_they_put.ensures.fault f
    c.serve_group.ensures.answered quiet in
    let agrees : WaitingAgrees old.memory = subst WaitingAgrees c.memory.ensures c.cells-cells.ensures.memory.agrees in
    let found = c.in-Ok.ensures.recovers acted.works in
    let between : List Command = acknowledged mid.memory events answers ++ found.also in
    let is : opened.memory ≡ after (after old.memory (group_put old members)) between =
    found.memory ∙ ap (λ (x : Contents). after x between) (acted.memory ∙ runs.memory (reached_in old) members) in
    group_asked old mid opened c.serve_group-in-Ok.new.self members events answers c.serve_group-in-Ok.new.served.items
    acted c.in-Ok.ensures.works found
    (group_again (reached_in old) opened c.serve_group-in-Ok.new.self members c.serve_group-in-Ok.new.served.items
    c.in-Ok.ensures.works c.serve_group-in-Ok.ensures.answered
    (said_again c.repeat_is_told_again.ensures c.forgotten_for_ever.ensures.refused
    (λ m command e. (c.accepted_where_changed.ensures.unaccepted m command).0 (is_false_by _ e))
    (λ m command same. by_is_false _ ((c.accepted_where_changed.ensures.unaccepted m command).1 same))
    c.runs_join.ensures.memory old.memory
    (λ commands. agrees_after c.waiting_agrees.ensures.step old.memory commands agrees)
    (reached_in old) (reached_in opened) members [] between refl is))

pub returns-in-Err-clause-refused : goal.returns-in-Err-clause-refused
returns-in-Err-clause-refused c = λ f quiet.
    let runs : GroupsAreRuns =
    record { memory = c.groups_are_runs.ensures.memory; count = c.groups_are_runs.ensures.count } in
    let acted =
    group_acted c.args.engine c.serve_group.new.self c.args.members.now.items c.serve_group.new.served.items runs
    c.groups_acknowledge_what_they_put.ensures.fault f c.serve_group.ensures.answered quiet in
    c.in-Err.ensures.refused acted.works

pub returns-in-Ok-clause-first : goal.returns-in-Ok-clause-first
returns-in-Ok-clause-first c = λ f.
    group_answer c.args.engine c.serve_group.new.self c.args.members.now.items c.serve_group.new.served.items f
    c.serve_group.ensures.answered

pub returns-in-Err-clause-first : goal.returns-in-Err-clause-first
returns-in-Err-clause-first c = λ f.
    group_answer c.args.engine c.serve_group.new.self c.args.members.now.items c.serve_group.new.served.items f
    c.serve_group.ensures.answered
