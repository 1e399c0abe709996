use Rattle.std.proofs.Common.{◌≡◌, List, map, ap, ◌∙◌, subst}
use Rattle.{im_types.specs.Types.Request, im_types.specs.Types.Asks, im_engine.specs.State.EngineState}
use Rattle.im_session.proofs.EventLemmas.{ahead_answered, ahead_event}
use Rattle.im_session.specs.declared.events.{Answer.TheVariants.Advanced, Event.TheVariants.Ahead}
use Rattle.im_session.specs.Events.{after_event, EventAnswered}
use Rattle.im_session.proofs.session.Session.take_ahead.Goals as goal

pub returns-clause-answered : goal.returns-clause-answered
returns-clause-answered g c =
    let old = c.args.self.now in
    let e = c.advance_kept-result in
    let were = c.copy_members.ensures ∙ c.as_slice.ensures.value ∙ c.ahead.ensures
    ∙ ap (λ (s : EngineState g.row.D.Denot). s.ahead) c.engine.ensures.state in
    subst (λ (l : List Request). EventAnswered old.engine (Ahead l)
    (Advanced c.copy_members.new.copies e.result e.new.served) e.new.self.engine) c.requests.ensures.found
    (ahead_answered old e.new.self c.requests.result.now.items c.commands_of.new.commands.items c.copy_members.new.copies
    e.result e.new.served (c.commands_of.ensures ∙ ap (map Asks) c.as_slice-2.ensures.value) were e.ensures.answered
    e.ensures.takes)

pub returns-clause-put : goal.returns-clause-put
returns-clause-put g c =
    let old = c.args.self.now in
    let e = c.advance_kept-result in
    let were = c.copy_members.ensures ∙ c.as_slice.ensures.value ∙ c.ahead.ensures
    ∙ ap (λ (s : EngineState g.row.D.Denot). s.ahead) c.engine.ensures.state in
    subst (λ (l : List Request). e.new.self
    ≡ after_event old (Ahead l) (Advanced c.copy_members.new.copies e.result e.new.served) e.new.self.engine)
    c.requests.ensures.found
    (ahead_event old e.new.self c.requests.result.now.items c.commands_of.new.commands.items c.copy_members.new.copies
    e.result e.new.served (c.commands_of.ensures ∙ ap (map Asks) c.as_slice-2.ensures.value) were e.ensures.answered
    e.ensures.takes e.ensures.put)
