use Rattle.std.proofs.Common.{◌≡◌, true, false, List, [], Some, None, string_bytes, sym, ap, ◌∙◌, subst, append-nil}
use Rattle.im_front.specs.{declared.AskedCommand.AskedCommand, State.FrontState}
use Rattle.im_dialogue.proofs.{HearingLemmas.hears_line, HearingLemmas.hears_quit, ToldLemmas.hears_alone}
use Rattle.im_dialogue.proofs.{ToldLemmas.same_behind, WatchLemmas.alone_line, WatchLemmas.same_asked}
use Rattle.im_dialogue.proofs.TalkLemmas.{halts_talk, not_quit, quit_talk, talk_ends, talks_on}
use Rattle.im_dialogue.specs.{Backups.Backup, declared.asking.Question.Question, Serving.behind_asked, Serving.told_so}
use Rattle.im_dialogue.specs.Hearing.{asking, is_quit, left_behind}
use Rattle.im_dialogue.specs.Talk.{outputs, TalkEnds, TalksOn}
use Rattle.im_dialogue.specs.declared.asking.Question.TheVariants as asks
use Rattle.im_dialogue.proofs.serving.Dialogue.tell.Goals as goal

pub returns-in-Ok-clause-talks : goal.returns-in-Ok-clause-talks
returns-in-Ok-clause-talks g c = λ rest.
    let watch = c.args.self.now.setting.watch in
    let old = c.args.self.now.front in
    let new = c.answer.new.front in
    let answer = c.in-Ok-Some.answer in
    let asked = Some c.args.asked in
    let said = c.in-Ok.ensures.said in
    talks_on watch old.session new.session
    (told_so old.asked (string_bytes c.args.self.now.drafts.draft.text) (g.B.Backups.kept c.args.backups.now)
    (asking asked rest))
    (told_so new.asked (string_bytes c.say.new.self.text) (g.B.Backups.kept c.answer.new.backups)
    (left_behind true rest))
    asked answer c.args.self.now.drafts.line.items said.0 _ c.requires.line
    (rw c.in-Ok-Some.field-0-is at c.in-Ok-Some.ensures.answered)
    (λ n turns here a. alone_line watch said.0 old.session.engine.memory _ n turns here asked answer c.requires.other
    (λ look is. let it = same_asked c.args.asked (asks.Look look) is in c.memory.ensures
    ∙ ap (λ (f : FrontState _). f.session.engine.memory) (c.answer.ensures.same look it)) a)
    (rw c.in-Ok-Some.field-0-is at c.in-Ok-Some.ensures.kept) said.1
    (λ n turns here a. hears_alone old.asked new.asked _ _ _ c.requires.none (c.answer.ensures.asked ∙ c.requires.none)
    (hears_line asked rest (not_quit old.session.engine.memory n turns here c.args.asked answer a)))

pub returns-in-Err-say-clause-talks : goal.returns-in-Err-say-clause-talks
returns-in-Err-say-clause-talks g c = λ rest.
    let watch = c.args.self.now.setting.watch in
    let old = c.args.self.now.front in
    let new = c.answer.new.front in
    let answer = c.in-Ok-Some.answer in
    let asked = Some c.args.asked in
    talk_ends watch old.session new.session
    (told_so old.asked (string_bytes c.args.self.now.drafts.draft.text) (g.B.Backups.kept c.args.backups.now)
    (asking asked rest))
    (told_so new.asked (string_bytes c.say.new.self.text) (g.B.Backups.kept c.answer.new.backups) None)
    asked answer c.args.self.now.drafts.line.items [] _ c.requires.line
    (rw c.in-Ok-Some.field-0-is at c.in-Ok-Some.ensures.answered)
    (λ n turns here a. alone_line watch [] old.session.engine.memory _ n turns here asked answer c.requires.other
    (λ look is. let it = same_asked c.args.asked (asks.Look look) is in c.memory.ensures
    ∙ ap (λ (f : FrontState _). f.session.engine.memory) (c.answer.ensures.same look it)) a)
    (rw c.in-Ok-Some.field-0-is at c.in-Ok-Some.ensures.kept) (behind_asked new.asked (left_behind true rest))
    (0, c.in-Err-say.ensures.same ∙ sym (append-nil _))
    (λ n turns here a. hears_alone old.asked new.asked _ _ _ c.requires.none (c.answer.ensures.asked ∙ c.requires.none)
    (hears_line asked rest (not_quit old.session.engine.memory n turns here c.args.asked answer a)))

pub returns-in-Err-clause-talks : goal.returns-in-Err-clause-talks
returns-in-Err-clause-talks g c = λ rest.
    let watch = c.args.self.now.setting.watch in
    let old = c.args.self.now.front in
    let text = string_bytes c.args.self.now.drafts.draft.text in
    let was = told_so old.asked text (g.B.Backups.kept c.args.backups.now) (asking (Some c.args.asked) rest) in
    subst (λ (l : List Backup). TalkEnds watch old.session was c.answer.new.front.session (outputs (Some text) l))
    (sym c.in-Err.ensures.kept)
    (halts_talk watch old.session c.answer.new.front.session was None c.in-Err.ensures.answered)

pub returns-in-Ok-None-clause-talks : goal.returns-in-Ok-None-clause-talks
returns-in-Ok-None-clause-talks g c = λ rest.
    let old = c.args.self.now.front in
    let new = c.answer.new.front in
    let text = string_bytes c.args.self.now.drafts.draft.text in
    let it = rw c.in-Ok-None.field-0-is at c.in-Ok-None.ensures.answered in
    let kept = rw c.in-Ok-None.field-0-is at c.in-Ok-None.ensures.kept in
    let quit : is_quit (Some c.args.asked) ≡ true = ap (λ (a : Question). is_quit (Some a)) it.0 in
    subst (λ (l : List AskedCommand). TalksOn c.args.self.now.setting.watch old.session
    (told_so old.asked text (g.B.Backups.kept c.args.backups.now) (asking (Some c.args.asked) rest)) new.session
    (told_so l text (g.B.Backups.kept c.answer.new.backups) (left_behind false rest))) (sym c.answer.ensures.asked)
    (quit_talk c.args.self.now.setting.watch old.session new.session (Some text) (g.B.Backups.kept c.args.backups.now)
    (g.B.Backups.kept c.answer.new.backups) (behind_asked old.asked (asking (Some c.args.asked) rest))
    (behind_asked old.asked (left_behind false rest)) it.1 kept
    (same_behind old.asked _ _ (hears_quit (Some c.args.asked) rest quit)))
