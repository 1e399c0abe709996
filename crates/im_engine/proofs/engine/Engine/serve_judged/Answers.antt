use Rattle.std.proofs.Common.{◌≡◌, ℕ, true, false, List, map, length, Ok, Err, Result, sym, ap, ◌∙◌, subst, rules}
use Rattle.im_types.specs.Types.{Served, Device, Contents, as_served}
use Rattle.{im_disk.proofs.SinceLemmas.only_weaker, im_journal.specs.Holding.JournalState}
use Rattle.im_groups.specs.Commands.{answers_with, contents_after_all, most_pages_with, places}
use Rattle.im_checkpoint.specs.{Keeping.Fits, Keeping.IsKept, Keeping.paged, Step.changed_in, Turns.AddsAtMost}
use Rattle.im_engine.proofs.{Chaining.still_ahead, Chaining.unchanged_after, Keeping.all_hold, Keeping.all_mean}
use Rattle.im_engine.proofs.Members.{length_answers, length_refused}
use Rattle.im_engine.proofs.Together.{accepts, calls_done, calls_failed, fits_group, group_done, group_failed, last_for}
use Rattle.im_engine.proofs.Together.{means_group, room_for}
use Rattle.im_engine.specs.{Chain.IsAhead, Chain.laid_of, State.engine_of, State.EngineState, State.MeansEither}
use Rattle.im_engine.specs.Commands.{after_commands, AreParted, AreWhole, commands_put, CommandsAnswered}
use Rattle.im_engine.specs.Commands.{ServesCommands}
use Rattle.im_engine.proofs.engine.Engine.serve_judged.Goals as goal

pub put_on-requires-clause-fits : goal.put_on-requires-clause-fits
put_on-requires-clause-fits g c =
    let e = c.self.inside in
    let are = c.requires.judged ∙ ap (λ (s : EngineState g.row.D.Denot). commands_put s c.args.members.now.all.now) (sym
    c.self.view_is) in
    record {
      known = c.places_in-places.ensures.known;
      few = c.requires.few;
      room = room_for e.disk e.checkpoint e.memory e.journal e.ahead.members.items e.failed
          c.args.members.now.all.now
          c.places_in-places.ensures.known c.args.commands.now are;
      last = last_for e.disk e.checkpoint e.memory e.journal e.ahead.members.items e.failed
          c.args.members.now.all.now
          c.places_in-places.ensures.known c.args.commands.now are;
    }

pub put_on-requires-clause-holds : goal.put_on-requires-clause-holds
put_on-requires-clause-holds g c = λ h.
    let e = c.self.inside in
    let alive : e.failed ≡ false = ap (λ (s : EngineState g.row.D.Denot). s.failed) c.self.view_is ∙ c.requires.alive in
    all_hold e.checkpoint.state (paged e.checkpoint e.memory) e.memory.contents e.journal (g.D.Disk.now e.disk)
    (c.self.invariant.1 h alive)

not_both : {T E : Type 0} (r : Result T E) (x : T) (e : E) → r ≡ Err e → r ≡ Ok x → ⊥
not_both (Ok y) x e is it = cc
not_both (Err y) x e is it = cc

pub returns-in-Err-clause-answered : goal.returns-in-Err-clause-answered
returns-in-Err-clause-answered g c =
    let e = c.self.inside in
    let are = c.requires.judged ∙ ap (λ (s : EngineState g.row.D.Denot). commands_put s c.args.members.now.all.now) (sym
    c.self.view_is) in
    let alive : e.failed ≡ false = ap (λ (s : EngineState g.row.D.Denot). s.failed) c.self.view_is ∙ c.requires.alive in
    subst (λ (s : EngineState g.row.D.Denot). CommandsAnswered s c.args.members.now.all.now
    c.refuse_all.new.served.items (engine_of c.put_on.new.disk e.checkpoint e.memory c.put_on.new.journal
    e.ahead.members.items true)) c.self.view_is
    (group_failed e.disk e.checkpoint e.memory e.journal e.ahead.members.items e.failed
    c.args.members.now.all.now
    c.places_in-places.ensures.known
    c.args.commands.now are alive c.put_on.new.disk c.put_on.new.journal c.in-Err.ensures.state
    (λ none. not_both c.put_on.result tt c.in-Err.field-0 c.in-Err.is (c.put_on.ensures.calls.none none).0)
    c.refuse_all.new.served.items c.refuse_all.ensures)

pub returns-in-Err-clause-length : goal.returns-in-Err-clause-length
returns-in-Err-clause-length g c = ap (λ (l : List Served). length l) c.refuse_all.ensures ∙ length_refused
    Device c.args.members.now.all.now

pub returns-in-Err-clause-runs : goal.returns-in-Err-clause-runs
returns-in-Err-clause-runs g c =
    let e = c.self.inside in
    let are = c.requires.judged ∙ ap (λ (s : EngineState g.row.D.Denot). commands_put s c.args.members.now.all.now) (sym
    c.self.view_is) in
    let alive : e.failed ≡ false = ap (λ (s : EngineState g.row.D.Denot). s.failed) c.self.view_is ∙ c.requires.alive in
    let known = c.places_in-places.ensures.known in
    let only = λ (h : g.D.Disk.honest c.put_on.new.disk). only_weaker g.D.Disk.now g.D.Disk.past e.disk
    c.put_on.new.disk _
    (MeansEither (engine_of e.disk e.checkpoint e.memory e.journal e.ahead.members.items e.failed)
    (after_commands (engine_of e.disk e.checkpoint e.memory e.journal e.ahead.members.items e.failed)
    c.args.members.now.all.now))
    (c.put_on.ensures.leaves h e.checkpoint.state (paged e.checkpoint e.memory) e.memory.contents
    (contents_after_all e.memory.contents (places e.journal.count e.journal.room) c.args.members.now.all.now)
    (accepts e.disk e.checkpoint e.memory e.journal e.ahead.members.items e.failed
    c.args.members.now.all.now known c.args.commands.now are)
    (c.self.invariant.1 (c.put_on.ensures.honest h) alive))
    (means_group e.disk e.checkpoint e.memory e.journal e.ahead.members.items e.failed
    c.args.members.now.all.now known c.args.commands.now
    are) in
    subst (λ (s : EngineState g.row.D.Denot). ServesCommands g.D.Disk s (engine_of c.put_on.new.disk e.checkpoint
    e.memory c.put_on.new.journal e.ahead.members.items true) c.args.members.now.all.now) c.self.view_is
    (record {
      honest = λ h. c.put_on.ensures.honest h;
      calls = λ h. calls_failed e.disk e.checkpoint e.memory e.journal e.ahead.members.items e.failed
          c.args.members.now.all.now known
          c.args.commands.now are g.D.Disk.past c.put_on.new.disk c.put_on.result c.in-Err.field-0 c.in-Err.is
          (c.put_on.ensures.calls.made h);
      faults = search rules;
      leaves = λ h f. (only h).within;
      doubt = λ h f. (only h).after;
      means = λ h f. absurd (cc);
    })

pub invariant_of-self-2 : goal.invariant_of-self-2
invariant_of-self-2 g c =
    let e = c.self.inside in
    let are = c.requires.judged ∙ ap (λ (s : EngineState g.row.D.Denot). commands_put s c.args.members.now.all.now) (sym
    c.self.view_is) in
    let known = c.places_in-places.ensures.known in
    let contents = c.act_all.ensures.contents ∙ ap (λ n. contents_after_all e.memory.contents n
    c.args.members.now.all.now)
    c.places_in-places.ensures.places in (
      fits_group e.checkpoint.state c.act_all.new.checkpoint.state e.memory.contents c.act_all.new.memory.contents
          e.journal c.put_on.new.journal (length c.args.commands.now) c.self.invariant.0 c.act_all.ensures.stays.state
          c.act_all.ensures.sizes c.in_default.ensures.state,
      λ h f. subst (λ (n : Contents). IsKept c.act_all.new.checkpoint.state
          (paged c.act_all.new.checkpoint c.act_all.new.memory) n c.put_on.new.journal
          (g.D.Disk.now c.put_on.new.disk))
          (sym contents)
          (c.act_all.ensures.kept
          (contents_after_all e.memory.contents (places e.journal.count e.journal.room) c.args.members.now.all.now)
          c.put_on.new.journal (g.D.Disk.now c.put_on.new.disk)
          (c.in_default.ensures.kept h e.checkpoint.state (paged e.checkpoint e.memory) e.memory.contents
          (contents_after_all e.memory.contents (places e.journal.count e.journal.room) c.args.members.now.all.now)
          (accepts e.disk e.checkpoint e.memory e.journal e.ahead.members.items e.failed
          c.args.members.now.all.now known c.args.commands.now
          are)
          (c.self.invariant.1 (c.put_on.ensures.honest h) f))),
      still_ahead e.memory.contents c.act_all.new.memory.contents e.journal c.put_on.new.journal
          c.args.commands.now _ _ _ _ _ _ c.in_default.ensures.state c.forget_behind.ensures.members
          c.forget_behind.ensures.put c.forget_behind.ensures.taken
          (λ none. contents ∙ unchanged_after e.memory.contents (places e.journal.count e.journal.room)
          c.args.members.now.all.now c.args.commands.now are none) c.places_in-places.ensures.known c.self.invariant.2,
    )

pub returns-clause-answered : goal.returns-clause-answered
returns-clause-answered g c =
    let e = c.self.inside in
    let are = c.requires.judged ∙ ap (λ (s : EngineState g.row.D.Denot). commands_put s c.args.members.now.all.now) (sym
    c.self.view_is) in
    let alive : e.failed ≡ false = ap (λ (s : EngineState g.row.D.Denot). s.failed) c.self.view_is ∙ c.requires.alive in
    let contents = c.act_all.ensures.contents ∙ ap (λ n. contents_after_all e.memory.contents n
    c.args.members.now.all.now)
    c.places_in-places.ensures.places in
    let answers = c.act_all.ensures.answers ∙ ap (λ n. map as_served (answers_with e.memory.contents n
    c.args.members.now.all.now)) c.places_in-places.ensures.places in
    let adds = subst (λ n. AddsAtMost (most_pages_with e.memory.contents n c.args.members.now.all.now)
    (changed_in e.checkpoint) (changed_in c.act_all.new.checkpoint)) c.places_in-places.ensures.places
    c.act_all.ensures.stays.pages in
    subst (λ (s : EngineState g.row.D.Denot). CommandsAnswered s c.args.members.now.all.now c.act_all.new.served.items
    (engine_of c.put_on.new.disk c.act_all.new.checkpoint c.act_all.new.memory c.put_on.new.journal
    c.forget_behind.new.self.members.items e.failed)) c.self.view_is
    (group_done e.disk e.checkpoint e.memory e.journal e.ahead.members.items e.failed
    c.args.members.now.all.now
    c.places_in-places.ensures.known
    c.args.commands.now are alive c.put_on.new.disk c.act_all.new.checkpoint c.act_all.new.memory
    c.put_on.new.journal _ c.in_default.ensures.state c.forget_behind.ensures.members (λ none.
    (c.put_on.ensures.calls.none none).1)
    c.act_all.ensures.stays.state contents
    c.act_all.new.served.items answers adds)

pub returns-clause-length : goal.returns-clause-length
returns-clause-length g c = ap (λ (l : List Served). length l) c.act_all.ensures.answers
    ∙ length_answers c.self.inside.memory.contents c.places_in-places.result c.args.members.now.all.now

pub returns-clause-runs : goal.returns-clause-runs
returns-clause-runs g c =
    let e = c.self.inside in
    let are = c.requires.judged ∙ ap (λ (s : EngineState g.row.D.Denot). commands_put s c.args.members.now.all.now) (sym
    c.self.view_is) in
    let alive : e.failed ≡ false = ap (λ (s : EngineState g.row.D.Denot). s.failed) c.self.view_is ∙ c.requires.alive in
    let known = c.places_in-places.ensures.known in
    let contents = c.act_all.ensures.contents ∙ ap (λ n. contents_after_all e.memory.contents n
    c.args.members.now.all.now)
    c.places_in-places.ensures.places in
    let only = λ (h : g.D.Disk.honest c.put_on.new.disk). only_weaker g.D.Disk.now g.D.Disk.past e.disk
    c.put_on.new.disk _
    (MeansEither (engine_of e.disk e.checkpoint e.memory e.journal e.ahead.members.items e.failed)
    (after_commands (engine_of e.disk e.checkpoint e.memory e.journal e.ahead.members.items e.failed)
    c.args.members.now.all.now))
    (c.put_on.ensures.leaves h e.checkpoint.state (paged e.checkpoint e.memory) e.memory.contents
    (contents_after_all e.memory.contents (places e.journal.count e.journal.room) c.args.members.now.all.now)
    (accepts e.disk e.checkpoint e.memory e.journal e.ahead.members.items e.failed
    c.args.members.now.all.now known c.args.commands.now are)
    (c.self.invariant.1 (c.put_on.ensures.honest h) alive))
    (means_group e.disk e.checkpoint e.memory e.journal e.ahead.members.items e.failed
    c.args.members.now.all.now known c.args.commands.now
    are) in
    subst (λ (s : EngineState g.row.D.Denot). ServesCommands g.D.Disk s (engine_of c.put_on.new.disk
    c.act_all.new.checkpoint c.act_all.new.memory c.put_on.new.journal c.forget_behind.new.self.members.items e.failed)
    c.args.members.now.all.now) c.self.view_is
    (record {
      honest = λ h. c.put_on.ensures.honest h;
      calls = λ h. calls_done e.disk e.checkpoint e.memory e.journal e.ahead.members.items e.failed
          c.args.members.now.all.now known
          c.args.commands.now are g.D.Disk.past c.put_on.new.disk c.put_on.result _ c.in_default.is
          (c.put_on.ensures.calls.made h);
      faults = search rules;
      leaves = λ h f. (only h).within;
      doubt = λ h f. (only h).after;
      means = λ h f. all_mean c.act_all.new.checkpoint.state
          (paged c.act_all.new.checkpoint c.act_all.new.memory) c.act_all.new.memory.contents c.put_on.new.journal
          (g.D.Disk.now c.put_on.new.disk)
          (subst (λ (n : Contents). IsKept c.act_all.new.checkpoint.state
          (paged c.act_all.new.checkpoint c.act_all.new.memory) n c.put_on.new.journal
          (g.D.Disk.now c.put_on.new.disk))
          (sym contents)
          (c.act_all.ensures.kept
          (contents_after_all e.memory.contents (places e.journal.count e.journal.room) c.args.members.now.all.now)
          c.put_on.new.journal (g.D.Disk.now c.put_on.new.disk)
          (c.in_default.ensures.kept h e.checkpoint.state (paged e.checkpoint e.memory) e.memory.contents
          (contents_after_all e.memory.contents (places e.journal.count e.journal.room) c.args.members.now.all.now)
          (accepts e.disk e.checkpoint e.memory e.journal e.ahead.members.items e.failed
          c.args.members.now.all.now known c.args.commands.now
          are)
          (c.self.invariant.1 (c.put_on.ensures.honest h) f))));
    })

pub act_all-requires-clause-judged : goal.act_all-requires-clause-judged
act_all-requires-clause-judged g c =
    let members = c.args.members.now.all.now in
    let at = c.places_in-places.ensures.places in
    record {
      few = c.requires.members.few;
      whole = λ is. subst (λ (n : ℕ). AreWhole c.self.inside.memory.contents n members) (sym at)
          (subst (λ (s : EngineState g.row.D.Denot). AreWhole s.memory (places s.count s.room) members)
          (sym c.self.view_is) (c.requires.members.whole is));
      each = λ is. subst (λ (n : ℕ). AreParted c.self.inside.memory.contents n members c.args.members.now.taken.now)
          (sym at) (subst (λ (s : EngineState g.row.D.Denot). AreParted s.memory (places s.count s.room) members
          c.args.members.now.taken.now) (sym c.self.view_is) (c.requires.members.each is));
    }

pub refuse_all-requires-clause-fits : goal.refuse_all-requires-clause-fits
refuse_all-requires-clause-fits g c = c.requires.members.few

pub invariant_of-self : goal.invariant_of-self
invariant_of-self g c =
    let e = c.self.inside in
    let same = c.in-Err.ensures.state in (
      subst (λ (j : JournalState). Fits e.checkpoint.state e.memory.contents j) (sym same) c.self.invariant.0,
      λ h f. absurd (cc),
      subst (λ (j : JournalState). IsAhead e.memory.contents j e.ahead.members.items
          (laid_of e.ahead.whole e.ahead.members.items e.ahead.commands.items) e.ahead.taken.items)
          (sym same) c.self.invariant.2,
    )
