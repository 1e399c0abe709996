use Rattle.std.proofs.Common.{List, map, length, ap, ◌∙◌, subst}
use Rattle.{im_types.specs.Types.Command, im_types.specs.Types.Asks, im_disk.proofs.SinceLemmas.leaves_weaker}
use Rattle.im_engine.proofs.Requests.{all_served, means_requests, put_is, requests_answered}
use Rattle.im_engine.{proofs.Together.counted_by, specs.State.EngineState, specs.State.MeansEither}
use Rattle.im_engine.specs.Commands.{after_commands, CommandsAnswered, ServesCommands}
use Rattle.im_engine.specs.Groups.{after_group, calls_for_group, GroupCalls}
use Rattle.im_engine.proofs.engine.Engine.serve_group.Goals as goal

pub returns-clause-answered : goal.returns-clause-answered
returns-clause-answered g c =
    let old = c.args.self.now in
    let rs = c.args.members.now.items in
    let counted = counted_by c.self.inside.journal c.count-count.ensures.known old
    (ap (λ (s : EngineState g.row.D.Denot). s.count) c.self.view_is)
    (ap (λ (s : EngineState g.row.D.Denot). s.room) c.self.view_is) in
    let all = all_served old.memory _ c.commands_of.new.commands.items rs _
    (c.commands_of.ensures ∙ ap (map Asks) c.as_slice.ensures.value) c.serve_commands.ensures.begins in
    requests_answered old rs counted c.serve_commands.new.served.items c.serve_commands.new.self
    (subst (λ (l : List Command). CommandsAnswered old l c.serve_commands.new.served.items c.serve_commands.new.self)
    all
    c.serve_commands.ensures.answered)

pub returns-clause-calls : goal.returns-clause-calls
returns-clause-calls g c = λ h.
    let old = c.args.self.now in
    let rs = c.args.members.now.items in
    let counted = counted_by c.self.inside.journal c.count-count.ensures.known old
    (ap (λ (s : EngineState g.row.D.Denot). s.count) c.self.view_is)
    (ap (λ (s : EngineState g.row.D.Denot). s.room) c.self.view_is) in
    let all = all_served old.memory _ c.commands_of.new.commands.items rs _
    (c.commands_of.ensures ∙ ap (map Asks) c.as_slice.ensures.value) c.serve_commands.ensures.begins in
    let runs = subst (λ (l : List Command). ServesCommands g.D.Disk old c.serve_commands.new.self l) all
    c.serve_commands.ensures.runs in
    subst (λ (l : List Command). GroupCalls g.D.Disk.past old.disk c.serve_commands.new.self.disk
    c.serve_commands.new.self.failed (calls_for_group (length l))) (put_is old rs counted) (runs.calls h)

pub returns-clause-leaves : goal.returns-clause-leaves
returns-clause-leaves g c = λ h f.
    let old = c.args.self.now in
    let rs = c.args.members.now.items in
    let counted = counted_by c.self.inside.journal c.count-count.ensures.known old
    (ap (λ (s : EngineState g.row.D.Denot). s.count) c.self.view_is)
    (ap (λ (s : EngineState g.row.D.Denot). s.room) c.self.view_is) in
    let all = all_served old.memory _ c.commands_of.new.commands.items rs _
    (c.commands_of.ensures ∙ ap (map Asks) c.as_slice.ensures.value) c.serve_commands.ensures.begins in
    let runs = subst (λ (l : List Command). ServesCommands g.D.Disk old c.serve_commands.new.self l) all
    c.serve_commands.ensures.runs in
    leaves_weaker (g.D.Disk.now old.disk) (g.D.Disk.now c.serve_commands.new.self.disk) (g.D.Disk.past old.disk)
    (g.D.Disk.past c.serve_commands.new.self.disk) (MeansEither old (after_commands old (map Asks rs)))
    (MeansEither old (after_group old rs))
    (runs.leaves h f) (means_requests old rs counted)

pub returns-clause-doubt : goal.returns-clause-doubt
returns-clause-doubt g c = λ h f file left.
    let old = c.args.self.now in
    let rs = c.args.members.now.items in
    let counted = counted_by c.self.inside.journal c.count-count.ensures.known old
    (ap (λ (s : EngineState g.row.D.Denot). s.count) c.self.view_is)
    (ap (λ (s : EngineState g.row.D.Denot). s.room) c.self.view_is) in
    let all = all_served old.memory _ c.commands_of.new.commands.items rs _
    (c.commands_of.ensures ∙ ap (map Asks) c.as_slice.ensures.value) c.serve_commands.ensures.begins in
    let runs = subst (λ (l : List Command). ServesCommands g.D.Disk old c.serve_commands.new.self l) all
    c.serve_commands.ensures.runs in
    means_requests old rs counted file (runs.doubt h f file left)
