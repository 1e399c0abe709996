use Rattle.std.proofs.Common.{◌≡◌, List, map, ap, ◌∙◌, subst}
use Rattle.{im_types.specs.Types.Request, im_types.specs.Types.Asks, im_laws.specs.Groups.IsCounted}
use Rattle.im_engine.specs.{Groups.GroupAnswered, Groups.reached_in, State.EngineState}
use Rattle.im_session.{proofs.EventLemmas.group_answered, proofs.EventLemmas.group_event, specs.Events.after_event}
use Rattle.im_session.specs.declared.events.{Answer.TheVariants.Grouped, Event.TheVariants.Group as Together}
use Rattle.im_session.proofs.session.Session.take_group.Goals as goal

pub returns-clause-answered : goal.returns-clause-answered
returns-clause-answered g c =
    let old = c.args.self.now in
    let e = c.serve_commands_kept in
    let room = c.room-room.ensures ∙ ap (λ (s : EngineState g.row.D.Denot). s.room) c.engine.ensures.state in
    let counted = subst (λ (s : EngineState g.row.D.Denot). IsCounted (reached_in s)) c.engine-2.ensures.state
    c.places-places.ensures.known in (
      room,
      subst (λ (l : List Request). GroupAnswered old.engine l e.new.served.items e.new.self.engine)
          c.requests.ensures.found
          (group_answered old e.new.self c.requests.result.now.items c.commands_of.new.commands.items e.new.served
          c.room-room.result (c.commands_of.ensures ∙ ap (map Asks) c.as_slice.ensures.value) counted room e.ensures.begins
          e.ensures.answered e.ensures.put),
    )

pub returns-clause-put : goal.returns-clause-put
returns-clause-put g c =
    let old = c.args.self.now in
    let e = c.serve_commands_kept in
    let room = c.room-room.ensures ∙ ap (λ (s : EngineState g.row.D.Denot). s.room) c.engine.ensures.state in
    let counted = subst (λ (s : EngineState g.row.D.Denot). IsCounted (reached_in s)) c.engine-2.ensures.state
    c.places-places.ensures.known in
    subst (λ (l : List Request). e.new.self
    ≡ after_event old (Together l) (Grouped c.room-room.result e.new.served) e.new.self.engine) c.requests.ensures.found
    (group_event old e.new.self c.requests.result.now.items c.commands_of.new.commands.items e.new.served
    c.room-room.result (c.commands_of.ensures ∙ ap (map Asks) c.as_slice.ensures.value) counted room e.ensures.begins
    e.ensures.answered e.ensures.put)
