use Rattle.std.proofs.Common.{◌≡◌, ◌≤◌, true, false, List, [], map, take, None, string_bytes, sym, ap, subst, rules}
use Rattle.{im_types.specs.Types.LAST, im_engine.specs.State.EngineState}
use Rattle.im_front.specs.{declared.AskedCommand.AskedCommand, Lists.commands_asked}
use Rattle.im_dialogue.proofs.ServeLemmas.{asked_less, group_failed, group_told, group_untold, lines_as, still_asked}
use Rattle.im_dialogue.proofs.ServeLemmas.{was_told}
use Rattle.im_dialogue.proofs.TalkLemmas.{talk_ends_here}
use Rattle.im_dialogue.specs.{Serving.told_by_it, Together.group_start, Together.TellWatchers}
use Rattle.im_dialogue.proofs.serving.Dialogue.serve_group.Goals as goal

pub returns-in-Err-clause-talks : goal.returns-in-Err-clause-talks
returns-in-Err-clause-talks g c = λ kept left.
    talk_ends_here c.args.self.now.setting.watch c.args.self.now.front.session
    (told_by_it c.args.self.now kept left) None

pub returns-then-failed-clause-talks : goal.returns-then-failed-clause-talks
returns-then-failed-clause-talks g c = λ kept left.
    let old = c.args.self.now in
    let dead : c.advance.new.self.session.engine.failed ≡ true = search rules in
    group_failed old.setting.watch old.front c.advance.new.self c.advance.new.told.items c.advance.ensures.advanced
    c.in-Ok.most (string_bytes old.drafts.draft.text) c.advance.ensures.few dead kept left

pub returns-in-Ok-say_all-clause-talks : goal.returns-in-Ok-say_all-clause-talks
returns-in-Ok-say_all-clause-talks g c = λ kept left.
    let old = c.args.self.now in
    let new = c.advance.new.self in
    let told = c.advance.new.told.items in
    let nows = map string_bytes c.make_nows.new.nows.items in
    let alive : new.session.engine.failed ≡ false = search rules in
    let counted = c.places-places.ensures.known in
    let within = subst (λ (e : EngineState _). e.count ≤ LAST) c.engine.ensures.state counted.to_last in
    let last = subst (λ (e : EngineState _). e.count ≡ LAST → e.room ≡ 0) c.engine.ensures.state counted.full_at_last in
    let watched = subst (λ (l : List AskedCommand). TellWatchers old.setting.watch
    (group_start old.front.session.engine) [] (take c.in-Ok.most (commands_asked l)) nows) c.asked.ensures
    (c.in-Ok.ensures.known (group_start old.front.session.engine) (sym c.memory.ensures)) in
    let was = was_told old.setting.watch old.front new told c.advance.ensures.advanced nows c.in-Ok.most
    c.requires.asked c.advance.ensures.few watched within last c.requires.spent alive in
    let said = c.in-Ok-say_all.ensures.said in
    group_told old.setting.watch old.front new told c.advance.ensures.advanced nows said.0 _ _ was
    (lines_as _ told _ nows said.0 c.as_slice.ensures.value
    (ap (map string_bytes) c.as_slice-nows.ensures.value) said.1) said.2 alive kept left

pub returns-in-Err-say_all-clause-talks : goal.returns-in-Err-say_all-clause-talks
returns-in-Err-say_all-clause-talks g c = λ kept left.
    let old = c.args.self.now in
    let new = c.advance.new.self in
    let told = c.advance.new.told.items in
    let nows = map string_bytes c.make_nows.new.nows.items in
    let alive : new.session.engine.failed ≡ false = search rules in
    let counted = c.places-places.ensures.known in
    let within = subst (λ (e : EngineState _). e.count ≤ LAST) c.engine.ensures.state counted.to_last in
    let last = subst (λ (e : EngineState _). e.count ≡ LAST → e.room ≡ 0) c.engine.ensures.state counted.full_at_last in
    let watched = subst (λ (l : List AskedCommand). TellWatchers old.setting.watch
    (group_start old.front.session.engine) [] (take c.in-Ok.most (commands_asked l)) nows) c.asked.ensures
    (c.in-Ok.ensures.known (group_start old.front.session.engine) (sym c.memory.ensures)) in
    let was = was_told old.setting.watch old.front new told c.advance.ensures.advanced nows c.in-Ok.most
    c.requires.asked c.advance.ensures.few watched within last c.requires.spent alive in
    group_untold old.setting.watch old.front new told c.advance.ensures.advanced nows _ _ was
    c.in-Err-say_all.ensures.same alive kept left

pub returns-then-failed-clause-asked : goal.returns-then-failed-clause-asked
returns-then-failed-clause-asked g c = still_asked c.args.self.now.setting.watch c.args.self.now.front
    c.advance.new.self c.advance.new.told.items c.advance.ensures.advanced c.requires.asked

pub returns-in-Ok-say_all-clause-asked : goal.returns-in-Ok-say_all-clause-asked
returns-in-Ok-say_all-clause-asked g c = still_asked c.args.self.now.setting.watch c.args.self.now.front
    c.advance.new.self c.advance.new.told.items c.advance.ensures.advanced c.requires.asked

pub returns-in-Err-say_all-clause-asked : goal.returns-in-Err-say_all-clause-asked
returns-in-Err-say_all-clause-asked g c = still_asked c.args.self.now.setting.watch c.args.self.now.front
    c.advance.new.self c.advance.new.told.items c.advance.ensures.advanced c.requires.asked

pub returns-in-Ok-say_all-clause-less : goal.returns-in-Ok-say_all-clause-less
returns-in-Ok-say_all-clause-less g c = asked_less c.args.self.now.setting.watch c.args.self.now.front
    c.advance.new.self c.advance.new.told.items c.advance.ensures.advanced c.requires.some
