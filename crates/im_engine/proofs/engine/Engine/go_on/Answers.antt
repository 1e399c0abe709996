use Rattle.std.proofs.Common.{◌≡◌, ℕ, ◌≤◌, true, false, List, [], length, take, Ok, Err, sym, refl, ap, ◌∙◌, subst, inr}
use Rattle.std.proofs.Common.{arith, length-take}
use Rattle.im_types.specs.Types.{Command, Device, Contents, after}
use Rattle.im_disk.{proofs.SinceLemmas.only_weaker, specs.Since.Calls}
use Rattle.im_journal.specs.Holding.{JournalState, longer, with_ahead}
use Rattle.im_groups.{proofs.EnoughLemmas.enough-contents, specs.Commands.contents_after_all, specs.Commands.places}
use Rattle.im_checkpoint.specs.Keeping.{IsKept, paged}
use Rattle.im_engine.proofs.Advancing.{accepts, advance_done, advance_failed, calls_few, calls_made, few_coming, fits}
use Rattle.im_engine.proofs.Advancing.{laid_is, new_put, next_ahead, put_whole, renewed}
use Rattle.im_engine.proofs.Chaining.{fits_ahead, nothing_ahead}
use Rattle.im_engine.proofs.{Keeping.all_hold, Keeping.all_mean, Together.fits_group, Together.means_group}
use Rattle.im_engine.specs.Chain.{Advances, calls_to_advance, IsComing, laid_of, places_left, put_ahead, ServesAhead}
use Rattle.im_engine.specs.Chain.{WereJudged}
use Rattle.im_engine.specs.{Commands.after_commands, State.engine_of, State.EngineState, State.MeansEither}
use Rattle.im_engine.proofs.engine.Engine.go_on.Goals as goal

pub renew-requires-clause-within : goal.renew-requires-clause-within
renew-requires-clause-within g c = c.requires.begins.within

-- commands as many as the members are the members
pub renew-requires-clause-whole : goal.renew-requires-clause-whole
renew-requires-clause-whole g c = let coming = c.args.coming.now in
    put_whole (after c.args.self.now.memory (put_ahead c.args.self.now)) coming.next.now coming.commands.now.items
    coming.taken.now coming.many c.requires.begins.within c.requires.told

pub put_behind-requires-clause-fits : goal.put_behind-requires-clause-fits
put_behind-requires-clause-fits g c =
    let e = c.self.inside in
    let alive : e.failed ≡ false = ap (λ (s : EngineState g.row.D.Denot). s.failed) c.self.view_is ∙ c.requires.alive in
    let ms = e.ahead.members.items in
    let cs = laid_of e.ahead.whole e.ahead.members.items e.ahead.commands.items in
    let ts = e.ahead.taken.items in
    let known = c.count-count.ensures.known in
    let it = c.self.invariant.2 in
    let next = take c.args.coming.now.many c.args.coming.now.next.now in
    let put = c.args.coming.now.commands.now.items in
    let told = c.args.coming.now.taken.now in
    fits e.disk e.checkpoint e.memory e.journal ms cs ts e.failed known it next put
    told
    (subst (λ (s : EngineState g.row.D.Denot). WereJudged (after s.memory (put_ahead s)) next
    put told) (sym c.self.view_is) c.requires.told)
    (subst (λ (s : EngineState g.row.D.Denot). length next ≤ places_left s) (sym c.self.view_is)
    (omega (arith, length-take c.args.coming.now.many c.args.coming.now.next.now, c.requires.begins.few)))

pub put_behind-requires-clause-holds : goal.put_behind-requires-clause-holds
put_behind-requires-clause-holds g c = λ h.
    let e = c.self.inside in
    all_hold e.checkpoint.state (paged e.checkpoint e.memory) e.memory.contents e.journal (g.D.Disk.now e.disk)
    (c.self.invariant.1 h (ap (λ (s : EngineState g.row.D.Denot). s.failed) c.self.view_is ∙ c.requires.alive))

pub act_ahead-requires-clause-told : goal.act_ahead-requires-clause-told
act_ahead-requires-clause-told g c = c.self.invariant.2.told

pub returns-in-Err-clause-answered : goal.returns-in-Err-clause-answered
returns-in-Err-clause-answered g c =
    let e = c.self.inside in
    let alive : e.failed ≡ false = ap (λ (s : EngineState g.row.D.Denot). s.failed) c.self.view_is ∙ c.requires.alive in
    let ms = e.ahead.members.items in
    let cs = laid_of e.ahead.whole e.ahead.members.items e.ahead.commands.items in
    let ts = e.ahead.taken.items in
    let known = c.count-count.ensures.known in
    let it = c.self.invariant.2 in
    subst (λ (s : EngineState g.row.D.Denot). Advances s c.args.coming.now.next.now (Err Device)
    c.refuse.new.served.items (engine_of c.put_behind.new.disk e.checkpoint e.memory c.forget_ahead.new.self
    c.forget.new.self.members.items true)) c.self.view_is
    (advance_failed e.disk e.checkpoint e.memory e.journal ms cs ts e.failed known it alive c.put_behind.new.disk
    c.forget_ahead.new.self c.args.coming.now.next.now c.forget.new.self.members.items
    (c.forget_ahead.ensures.state ∙ ap (λ (j : JournalState). with_ahead [] j) c.in-Err.ensures.state)
    c.forget.ensures.members c.refuse.new.served.items c.refuse.ensures)

pub invariant_of-self : goal.invariant_of-self
invariant_of-self g c =
    let e = c.self.inside in
    let state = c.forget_ahead.ensures.state ∙ ap (λ (j : JournalState). with_ahead [] j) c.in-Err.ensures.state in (
      fits_ahead e.checkpoint.state e.memory.contents e.journal c.forget_ahead.new.self [] state c.self.invariant.0,
      λ h f. absurd (cc),
      nothing_ahead e.memory.contents c.forget_ahead.new.self c.forget.new.self.members.items
          _ c.forget.new.self.taken.items c.forget.ensures.members c.forget.ensures.put
          (ap (λ (j : JournalState). j.ahead) state),
    )

pub returns-clause-answered : goal.returns-clause-answered
returns-clause-answered g c =
    let e = c.self.inside in
    let alive : e.failed ≡ false = ap (λ (s : EngineState g.row.D.Denot). s.failed) c.self.view_is ∙ c.requires.alive in
    let ms = e.ahead.members.items in
    let cs = laid_of e.ahead.whole e.ahead.members.items e.ahead.commands.items in
    let ts = e.ahead.taken.items in
    let known = c.count-count.ensures.known in
    let it = c.self.invariant.2 in
    let next = take c.args.coming.now.many c.args.coming.now.next.now in
    let put = c.args.coming.now.commands.now.items in
    let told = c.args.coming.now.taken.now in
    subst (λ (s : EngineState g.row.D.Denot). Advances s c.args.coming.now.next.now (Ok c.args.coming.now.many)
    c.act_ahead.new.served.items (engine_of c.put_behind.new.disk c.act_ahead.new.checkpoint c.act_ahead.new.memory
    c.put_behind.new.journal c.renew.new.self.members.items e.failed)) c.self.view_is
    (advance_done e.disk e.checkpoint e.memory e.journal ms cs ts e.failed known it alive c.put_behind.new.disk
    c.act_ahead.new.checkpoint c.act_ahead.new.memory c.put_behind.new.journal c.args.coming.now.next.now
    put c.renew.new.self.members.items c.args.coming.now.many c.in_default.ensures.state c.renew.ensures.members
    c.act_ahead.ensures.stays.state c.act_ahead.ensures.contents c.act_ahead.new.served.items
    c.act_ahead.ensures.answers c.act_ahead.ensures.stays.pages)

pub returns-in-Err-clause-runs : goal.returns-in-Err-clause-runs
returns-in-Err-clause-runs g c =
    let e = c.self.inside in
    let alive : e.failed ≡ false = ap (λ (s : EngineState g.row.D.Denot). s.failed) c.self.view_is ∙ c.requires.alive in
    let ms = e.ahead.members.items in
    let cs = laid_of e.ahead.whole e.ahead.members.items e.ahead.commands.items in
    let ts = e.ahead.taken.items in
    let known = c.count-count.ensures.known in
    let it = c.self.invariant.2 in
    let next = take c.args.coming.now.many c.args.coming.now.next.now in
    let put = c.args.coming.now.commands.now.items in
    let told = c.args.coming.now.taken.now in
    let only = λ (h : g.D.Disk.honest c.put_behind.new.disk). only_weaker g.D.Disk.now g.D.Disk.past e.disk
    c.put_behind.new.disk _
    (MeansEither (engine_of e.disk e.checkpoint e.memory e.journal ms e.failed)
    (after_commands (engine_of e.disk e.checkpoint e.memory e.journal ms e.failed) ms))
    (c.put_behind.ensures.leaves h e.checkpoint.state (paged e.checkpoint e.memory) e.memory.contents
    (contents_after_all e.memory.contents (places e.journal.count e.journal.room) ms)
    (accepts e.disk e.checkpoint e.memory e.journal ms cs ts e.failed known it)
    (c.self.invariant.1 (c.put_behind.ensures.honest h) alive))
    (means_group e.disk e.checkpoint e.memory e.journal ms e.failed ms known e.journal.ahead
    (laid_is e.disk e.checkpoint e.memory e.journal ms cs ts e.failed known it)) in
    subst (λ (s : EngineState g.row.D.Denot). ServesAhead g.D.Disk s (engine_of c.put_behind.new.disk e.checkpoint
    e.memory c.forget_ahead.new.self c.forget.new.self.members.items true) (length c.args.coming.now.next.now)
    (Err Device)) c.self.view_is (record {
      honest = λ h. c.put_behind.ensures.honest h;
      calls = tt;
      few = λ h. calls_few g.D.Disk.past e.disk c.put_behind.new.disk (length e.journal.ahead)
          (length put) (length c.args.coming.now.next.now) c.put_behind.result
          (few_coming _ c.args.coming.now.next.now c.args.coming.now.next.now next put told refl c.requires.told
          (omega (arith, length-take c.args.coming.now.many c.args.coming.now.next.now)))
          (c.put_behind.ensures.calls.made h);
      faults = (inr refl, λ is. c.in-Err.ensures.faults.1 c.in-Err.ensures.faults.0, λ no. absurd (no refl));
      leaves = λ h f. (only h).within;
      doubt = λ h f. (only h).after;
      means = λ h f. absurd (cc);
    })

pub invariant_of-self-2 : goal.invariant_of-self-2
invariant_of-self-2 g c =
    let e = c.self.inside in
    let alive : e.failed ≡ false = ap (λ (s : EngineState g.row.D.Denot). s.failed) c.self.view_is ∙ c.requires.alive in
    let ms = e.ahead.members.items in
    let cs = laid_of e.ahead.whole e.ahead.members.items e.ahead.commands.items in
    let ts = e.ahead.taken.items in
    let known = c.count-count.ensures.known in
    let it = c.self.invariant.2 in
    let next = take c.args.coming.now.many c.args.coming.now.next.now in
    let put = c.args.coming.now.commands.now.items in
    let told = c.args.coming.now.taken.now in
    let contents = c.act_ahead.ensures.contents
    ∙ enough-contents e.memory.contents (length ms) (places e.journal.count e.journal.room) ms (omega arith) it.enough
    in
    let kept = λ (h : g.D.Disk.honest c.put_behind.new.disk). subst (λ (n : Contents). IsKept
    c.act_ahead.new.checkpoint.state (paged c.act_ahead.new.checkpoint c.act_ahead.new.memory) n
    c.put_behind.new.journal (g.D.Disk.now c.put_behind.new.disk)) (sym contents)
    (c.act_ahead.ensures.kept
    (contents_after_all e.memory.contents (places e.journal.count e.journal.room) ms)
    c.put_behind.new.journal (g.D.Disk.now c.put_behind.new.disk)
    (c.in_default.ensures.kept h e.checkpoint.state (paged e.checkpoint e.memory) e.memory.contents
    (contents_after_all e.memory.contents (places e.journal.count e.journal.room) ms)
    (accepts e.disk e.checkpoint e.memory e.journal ms cs ts e.failed known it)
    (c.self.invariant.1 (c.put_behind.ensures.honest h) alive))) in (
      fits_ahead c.act_ahead.new.checkpoint.state c.act_ahead.new.memory.contents
          (longer (length e.journal.ahead) e.journal) c.put_behind.new.journal put
          c.in_default.ensures.state
          (fits_group e.checkpoint.state c.act_ahead.new.checkpoint.state e.memory.contents
          c.act_ahead.new.memory.contents e.journal (longer (length e.journal.ahead) e.journal)
          (length e.journal.ahead) c.self.invariant.0 c.act_ahead.ensures.stays.state c.act_ahead.ensures.sizes refl),
      λ h f. kept h,
      renewed c.act_ahead.new.memory.contents c.put_behind.new.journal next put told
          c.args.coming.now.many c.renew.new.self.members.items
          (laid_of c.renew.new.self.whole c.renew.new.self.members.items c.renew.new.self.commands.items)
          c.renew.new.self.taken.items
          (omega (arith, length-take c.args.coming.now.many c.args.coming.now.next.now, c.requires.begins.within))
          c.renew.ensures.members c.renew.ensures.put c.renew.ensures.taken
          (next_ahead e.disk e.checkpoint e.memory e.journal ms cs ts e.failed known it next put told
          (subst (λ (s : EngineState g.row.D.Denot). WereJudged (after s.memory (put_ahead s)) next
          put told) (sym c.self.view_is) c.requires.told)
          (subst (λ (s : EngineState g.row.D.Denot). length next ≤ places_left s) (sym c.self.view_is)
          (omega (arith, length-take c.args.coming.now.many c.args.coming.now.next.now, c.requires.begins.few)))
          c.act_ahead.new.memory.contents c.put_behind.new.journal c.act_ahead.ensures.contents
          c.in_default.ensures.state),
    )

pub returns-clause-runs : goal.returns-clause-runs
returns-clause-runs g c =
    let e = c.self.inside in
    let alive : e.failed ≡ false = ap (λ (s : EngineState g.row.D.Denot). s.failed) c.self.view_is ∙ c.requires.alive in
    let ms = e.ahead.members.items in
    let cs = laid_of e.ahead.whole e.ahead.members.items e.ahead.commands.items in
    let ts = e.ahead.taken.items in
    let known = c.count-count.ensures.known in
    let it = c.self.invariant.2 in
    let next = take c.args.coming.now.many c.args.coming.now.next.now in
    let put = c.args.coming.now.commands.now.items in
    let told = c.args.coming.now.taken.now in
    let only = λ (h : g.D.Disk.honest c.put_behind.new.disk). only_weaker g.D.Disk.now g.D.Disk.past e.disk
    c.put_behind.new.disk _
    (MeansEither (engine_of e.disk e.checkpoint e.memory e.journal ms e.failed)
    (after_commands (engine_of e.disk e.checkpoint e.memory e.journal ms e.failed) ms))
    (c.put_behind.ensures.leaves h e.checkpoint.state (paged e.checkpoint e.memory) e.memory.contents
    (contents_after_all e.memory.contents (places e.journal.count e.journal.room) ms)
    (accepts e.disk e.checkpoint e.memory e.journal ms cs ts e.failed known it)
    (c.self.invariant.1 (c.put_behind.ensures.honest h) alive))
    (means_group e.disk e.checkpoint e.memory e.journal ms e.failed ms known e.journal.ahead
    (laid_is e.disk e.checkpoint e.memory e.journal ms cs ts e.failed known it)) in
    let contents = c.act_ahead.ensures.contents
    ∙ enough-contents e.memory.contents (length ms) (places e.journal.count e.journal.room) ms (omega arith) it.enough
    in
    let kept = λ (h : g.D.Disk.honest c.put_behind.new.disk). subst (λ (n : Contents). IsKept
    c.act_ahead.new.checkpoint.state (paged c.act_ahead.new.checkpoint c.act_ahead.new.memory) n
    c.put_behind.new.journal (g.D.Disk.now c.put_behind.new.disk)) (sym contents)
    (c.act_ahead.ensures.kept
    (contents_after_all e.memory.contents (places e.journal.count e.journal.room) ms)
    c.put_behind.new.journal (g.D.Disk.now c.put_behind.new.disk)
    (c.in_default.ensures.kept h e.checkpoint.state (paged e.checkpoint e.memory) e.memory.contents
    (contents_after_all e.memory.contents (places e.journal.count e.journal.room) ms)
    (accepts e.disk e.checkpoint e.memory e.journal ms cs ts e.failed known it)
    (c.self.invariant.1 (c.put_behind.ensures.honest h) alive))) in
    let ahead2 = renewed c.act_ahead.new.memory.contents c.put_behind.new.journal next put told
    c.args.coming.now.many c.renew.new.self.members.items
    (laid_of c.renew.new.self.whole c.renew.new.self.members.items c.renew.new.self.commands.items)
    c.renew.new.self.taken.items
    (omega (arith, length-take c.args.coming.now.many c.args.coming.now.next.now, c.requires.begins.within))
    c.renew.ensures.members c.renew.ensures.put c.renew.ensures.taken
    (next_ahead e.disk e.checkpoint e.memory e.journal ms cs ts e.failed known it next put told
    (subst (λ (s : EngineState g.row.D.Denot). WereJudged (after s.memory (put_ahead s)) next
    put told) (sym c.self.view_is) c.requires.told)
    (subst (λ (s : EngineState g.row.D.Denot). length next ≤ places_left s) (sym c.self.view_is)
    (omega (arith, length-take c.args.coming.now.many c.args.coming.now.next.now, c.requires.begins.few)))
    c.act_ahead.new.memory.contents c.put_behind.new.journal c.act_ahead.ensures.contents c.in_default.ensures.state) in
    let was : length e.journal.ahead ≡ length (put_ahead (engine_of e.disk e.checkpoint e.memory e.journal ms e.failed))
    = ap length (laid_is e.disk e.checkpoint e.memory e.journal ms cs ts e.failed known it) in
    let is : length put ≡ length (put_ahead (engine_of c.put_behind.new.disk c.act_ahead.new.checkpoint
    c.act_ahead.new.memory c.put_behind.new.journal c.renew.new.self.members.items e.failed))
    = ap length (sym c.renew.ensures.put ∙ new_put e.memory.contents c.act_ahead.new.memory.contents
    c.put_behind.new.journal c.renew.new.self.members.items _ c.renew.new.self.taken.items ahead2) in
    subst (λ (s : EngineState g.row.D.Denot). ServesAhead g.D.Disk s (engine_of c.put_behind.new.disk
    c.act_ahead.new.checkpoint c.act_ahead.new.memory c.put_behind.new.journal c.renew.new.self.members.items e.failed)
    (length c.args.coming.now.next.now) (Ok c.args.coming.now.many)) c.self.view_is (record {
      honest = λ h. c.put_behind.ensures.honest h;
      calls = λ h. subst (λ (n : ℕ). Calls g.D.Disk.past e.disk c.put_behind.new.disk n)
          (λ i. calls_to_advance (was i) (is i))
          (calls_made g.D.Disk.past e.disk c.put_behind.new.disk _ c.put_behind.result _ c.in_default.is
          (c.put_behind.ensures.calls.made h));
      few = λ h. calls_few g.D.Disk.past e.disk c.put_behind.new.disk (length e.journal.ahead)
          (length put) (length c.args.coming.now.next.now) c.put_behind.result
          (few_coming _ c.args.coming.now.next.now c.args.coming.now.next.now next put told refl c.requires.told
          (omega (arith, length-take c.args.coming.now.many c.args.coming.now.next.now)))
          (c.put_behind.ensures.calls.made h);
      faults = c.in_default.ensures.faults;
      leaves = λ h f. (only h).within;
      doubt = λ h f. (only h).after;
      means = λ h f. all_mean c.act_ahead.new.checkpoint.state
          (paged c.act_ahead.new.checkpoint c.act_ahead.new.memory) c.act_ahead.new.memory.contents
          c.put_behind.new.journal (g.D.Disk.now c.put_behind.new.disk) (kept h);
    })

-- the commands of the next members are those ahead of the new engine
pub returns-clause-takes : goal.returns-clause-takes
returns-clause-takes g c =
    let e = c.self.inside in
    let ms = e.ahead.members.items in
    let cs = laid_of e.ahead.whole e.ahead.members.items e.ahead.commands.items in
    let ts = e.ahead.taken.items in
    let known = c.count-count.ensures.known in
    let it = c.self.invariant.2 in
    let next = take c.args.coming.now.many c.args.coming.now.next.now in
    let put = c.args.coming.now.commands.now.items in
    let told = c.args.coming.now.taken.now in
    let ahead2 = renewed c.act_ahead.new.memory.contents c.put_behind.new.journal next put told
    c.args.coming.now.many c.renew.new.self.members.items
    (laid_of c.renew.new.self.whole c.renew.new.self.members.items c.renew.new.self.commands.items)
    c.renew.new.self.taken.items
    (omega (arith, length-take c.args.coming.now.many c.args.coming.now.next.now, c.requires.begins.within))
    c.renew.ensures.members c.renew.ensures.put c.renew.ensures.taken
    (next_ahead e.disk e.checkpoint e.memory e.journal ms cs ts e.failed known it next put told
    (subst (λ (s : EngineState g.row.D.Denot). WereJudged (after s.memory (put_ahead s)) next
    put told) (sym c.self.view_is) c.requires.told)
    (subst (λ (s : EngineState g.row.D.Denot). length next ≤ places_left s) (sym c.self.view_is)
    (omega (arith, length-take c.args.coming.now.many c.args.coming.now.next.now, c.requires.begins.few)))
    c.act_ahead.new.memory.contents c.put_behind.new.journal c.act_ahead.ensures.contents c.in_default.ensures.state) in
    subst (λ (l : List Command). IsComing c.args.self.now c.args.coming.now.next.now l c.args.coming.now.many)
    (sym c.renew.ensures.put ∙ new_put e.memory.contents c.act_ahead.new.memory.contents c.put_behind.new.journal
    c.renew.new.self.members.items _ c.renew.new.self.taken.items ahead2) c.requires.begins
