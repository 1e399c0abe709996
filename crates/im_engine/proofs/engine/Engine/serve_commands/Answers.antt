use Rattle.std.proofs.Common.{◌≤◌, List, take, subst, arith, length-take-le}
use Rattle.im_types.specs.Types.{Command}
use Rattle.im_groups.specs.{Ahead.AreAccepted, Ahead.ServesPrefix, Commands.places}
use Rattle.im_engine.proofs.Members.{whole_begins, whole_served}
use Rattle.im_engine.specs.{Commands.AreWhole, Commands.CommandsAnswered, Commands.ServesCommands, State.EngineState}
use Rattle.im_engine.proofs.engine.Engine.serve_commands.Goals as goal

pub serve_whole-requires-clause-whole : goal.serve_whole-requires-clause-whole
serve_whole-requires-clause-whole g c =
    let ms = c.as_slice-members.result.now in
    let all = length-take-le c.in-Some.judged ms c.in-Some.ensures.begins.within in
    subst (λ (s : EngineState g.row.D.Denot). AreWhole s.memory (places s.count s.room) (take c.in-Some.judged ms))
    c.self.view_is
    (record {
      few = omega (arith, all, c.in-Some.ensures.begins.within, c.as_slice-members.ensures.fits);
      accepted = c.in-Some.ensures.accepted;
      enough = omega (arith, all, c.in-Some.ensures.enough, c.places_in-places.ensures.places);
    })

pub returns-in-Some-clause-answered : goal.returns-in-Some-clause-answered
returns-in-Some-clause-answered g c =
    subst (λ (l : List Command). CommandsAnswered c.args.self.now l c.serve_whole.new.served.items
    c.serve_whole.new.self)
    (whole_served c.as_slice-members.result.now c.args.members.now.items c.in-Some.judged _
    c.as_slice-members.ensures.value
    c.in-Some.ensures.begins.within c.serve_whole.ensures.length)
    c.serve_whole.ensures.answered

pub returns-in-Some-clause-runs : goal.returns-in-Some-clause-runs
returns-in-Some-clause-runs g c =
    subst (λ (l : List Command). ServesCommands g.D.Disk c.args.self.now c.serve_whole.new.self l)
    (whole_served c.as_slice-members.result.now c.args.members.now.items c.in-Some.judged _
    c.as_slice-members.ensures.value
    c.in-Some.ensures.begins.within c.serve_whole.ensures.length)
    c.serve_whole.ensures.runs

pub returns-in-Some-clause-begins : goal.returns-in-Some-clause-begins
returns-in-Some-clause-begins g c =
    let m = c.args.self.now.memory in
    let judged = c.in-Some.judged in
    let ms = c.as_slice-members.result.now in
    whole_begins m (places c.args.self.now.count c.args.self.now.room) ms c.args.members.now.items judged _
    c.as_slice-members.ensures.value
    (subst (λ (s : EngineState g.row.D.Denot). AreAccepted s.memory (take judged ms)) c.self.view_is
    c.in-Some.ensures.accepted)
    (subst (λ (s : EngineState g.row.D.Denot). judged ≤ places s.count s.room) c.self.view_is
    (omega (arith, c.in-Some.ensures.enough, c.places_in-places.ensures.places)))
    (subst (λ (s : EngineState g.row.D.Denot). ServesPrefix s.memory (take judged ms) ms judged) c.self.view_is
    c.in-Some.ensures.begins)
    c.serve_whole.ensures.length
