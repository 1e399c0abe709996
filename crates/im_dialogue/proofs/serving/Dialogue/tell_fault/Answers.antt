use Rattle.std.proofs.Common.{true, [], ◌++◌, None, string_bytes, sym, refl, ap, ◌∙◌, append-nil}
use Rattle.im_dialogue.proofs.{HearingLemmas.hears_line, ToldLemmas.hears_alone, WatchLemmas.alone_line}
use Rattle.im_dialogue.proofs.TalkLemmas.{talk_ends, talk_ends_here, talks_on}
use Rattle.im_dialogue.specs.{declared.answers.LineAnswer.LineAnswer, Hearing.asking, Hearing.left_behind}
use Rattle.im_dialogue.specs.{Serving.behind_asked, Serving.told_so, Talk.backup_by}
use Rattle.im_dialogue.proofs.serving.Dialogue.tell_fault.Goals as goal

pub returns-in-Ok-say-clause-talks : goal.returns-in-Ok-say-clause-talks
returns-in-Ok-say-clause-talks g c = λ kept rest.
    let watch = c.args.self.now.setting.watch in
    let old = c.args.self.now.front in
    let said = c.in-Ok-say.ensures.said in
    talks_on watch old.session old.session
    (told_so old.asked (string_bytes c.args.self.now.drafts.draft.text) kept (asking None rest))
    (told_so old.asked (string_bytes c.say.new.self.text) kept (left_behind true rest)) None
    c.wrong-answer.result c.args.self.now.drafts.line.items said.0 _ c.requires.line c.wrong-answer.ensures.answered
    (λ n turns here a. alone_line watch said.0 old.session.engine.memory _ n turns here None c.wrong-answer.result refl
    (λ look is. c.memory.ensures) a)
    (ap (λ (a : LineAnswer). backup_by old.session.engine.memory a ++ kept) (sym c.wrong-answer.ensures.answer)) said.1
    (λ n turns here a. hears_alone old.asked old.asked _ _ _ c.requires.none c.requires.none
    (hears_line None rest refl))

pub returns-in-Err-say-clause-talks : goal.returns-in-Err-say-clause-talks
returns-in-Err-say-clause-talks g c = λ kept rest.
    let watch = c.args.self.now.setting.watch in
    let old = c.args.self.now.front in
    talk_ends watch old.session old.session
    (told_so old.asked (string_bytes c.args.self.now.drafts.draft.text) kept (asking None rest))
    (told_so old.asked (string_bytes c.say.new.self.text) kept None) None
    c.wrong-answer.result c.args.self.now.drafts.line.items [] _ c.requires.line c.wrong-answer.ensures.answered
    (λ n turns here a. alone_line watch [] old.session.engine.memory _ n turns here None c.wrong-answer.result refl
    (λ look is. c.memory.ensures) a)
    (ap (λ (a : LineAnswer). backup_by old.session.engine.memory a ++ kept) (sym c.wrong-answer.ensures.answer))
    (behind_asked old.asked (left_behind true rest)) (0, c.in-Err-say.ensures.same ∙ sym (append-nil _))
    (λ n turns here a. hears_alone old.asked old.asked _ _ _ c.requires.none c.requires.none
    (hears_line None rest refl))

pub returns-in-Err-clause-talks : goal.returns-in-Err-clause-talks
returns-in-Err-clause-talks g c = λ kept rest.
    let old = c.args.self.now in
    talk_ends_here old.setting.watch old.front.session
    (told_so old.front.asked (string_bytes old.drafts.draft.text) kept (asking None rest)) None
