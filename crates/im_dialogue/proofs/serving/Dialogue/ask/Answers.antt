use Rattle.std.proofs.Common.{true, [], ◌∷◌, ◌++◌, Some, string_bytes, sym, subst}
use Rattle.im_front.specs.{Lists.with_ticket, State.FrontState}
use Rattle.im_dialogue.proofs.{TalkLemmas.to_left, ToldLemmas.asked_more, ToldLemmas.asks_more}
use Rattle.im_dialogue.specs.{Hearing.asking, Hearing.left_behind, Talk.outputs, Talk.TalksOn, Together.AreAsked}
use Rattle.im_dialogue.specs.Serving.{behind_asked, told_by_it, told_so}
use Rattle.im_dialogue.specs.declared.asking.Question.TheVariants as asks
use Rattle.im_dialogue.proofs.serving.Dialogue.ask.Goals as goal

pub returns-in-Ok-clause-talks : goal.returns-in-Ok-clause-talks
returns-in-Ok-clause-talks g c = λ kept rest.
    let old = c.args.self.now in
    let mid = c.make_place.new.self in
    let command = c.args.command.now in
    let text = string_bytes mid.drafts.draft.text in
    let a = with_ticket 0 command in
    let asked = Some (asks.Serve command) in
    subst (λ (f : FrontState _). TalksOn old.setting.watch old.front.session (told_by_it old kept (asking asked rest))
    f.session (told_so f.asked text kept (left_behind true rest))) (sym c.submit.ensures)
    (to_left old.setting.watch old.front.session mid.front.session (told_by_it old kept (asking asked rest))
    (outputs (Some text) kept) (behind_asked mid.front.asked (asking asked rest))
    (behind_asked (mid.front.asked ++ a ∷ []) (left_behind true rest)) (asks_more mid.front.asked a rest)
    (c.in-Ok.ensures.talks kept (asking asked rest)))

pub returns-in-Err-clause-talks : goal.returns-in-Err-clause-talks
returns-in-Err-clause-talks g c = λ kept rest.
    c.in-Err.ensures.talks kept (asking (Some (asks.Serve c.args.command.now)) rest)

pub returns-in-Ok-clause-asked : goal.returns-in-Ok-clause-asked
returns-in-Ok-clause-asked g c =
    let mid = c.make_place.new.self in
    subst (λ (f : FrontState _). AreAsked f.asked) (sym c.submit.ensures)
    (asked_more mid.front.asked (with_ticket 0 c.args.command.now) c.in-Ok.ensures.asked (c.requires.line, tt))
