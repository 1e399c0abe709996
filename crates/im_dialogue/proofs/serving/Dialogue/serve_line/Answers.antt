use Rattle.std.proofs.Common.{◌≡◌, None, Option, sym, ◌∙◌, subst, rules}
use Rattle.im_dialogue.proofs.{TalkLemmas.talk_ends_here, WatchLemmas.command_some}
use Rattle.im_dialogue.proofs.ToldLemmas.{asked_if, never_if, none_if}
use Rattle.im_dialogue.specs.{Asking.asked_of, declared.asking.Question.Question, Hearing.asking}
use Rattle.im_dialogue.specs.Serving.{TalksLine, told_by_it}
use Rattle.im_dialogue.proofs.serving.Dialogue.serve_line.Goals as goal

pub returns-in-Err-clause-talks : goal.returns-in-Err-clause-talks
returns-in-Err-clause-talks g c = λ rest.
    let old = c.args.self.now in
    talk_ends_here old.setting.watch old.front.session
    (told_by_it old (g.B.Backups.kept c.args.backups.now) (asking (asked_of old.drafts.line.items) rest)) None

pub returns-in-Some-clause-talks : goal.returns-in-Some-clause-talks
returns-in-Some-clause-talks g c =
    let kept = g.B.Backups.kept c.args.backups.now in
    let read : asked_of c.args.self.now.drafts.line.items ≡ c.in-Ok.asked = search rules in
    let is = command_some c.in-Ok.asked c.in-Some.command (sym c.question_command.ensures ∙ c.in-Some.is) in
    subst (λ (o : Option Question). TalksLine o c.args.self.now kept c.ask.new.self kept c.ask.result)
    (sym (read ∙ is)) (c.ask.ensures.talks kept)

pub ask-requires-clause-line : goal.ask-requires-clause-line
ask-requires-clause-line g c =
    let read : asked_of c.args.self.now.drafts.line.items ≡ c.in-Ok.asked = search rules in (
      c.args.self.now.drafts.line.items,
      read ∙ command_some c.in-Ok.asked c.in-Some.command (sym c.question_command.ensures ∙ c.in-Some.is),
    )

pub returns-in-None-clause-talks : goal.returns-in-None-clause-talks
returns-in-None-clause-talks g c =
    let read : asked_of c.args.self.now.drafts.line.items ≡ c.in-Ok.asked = search rules in
    subst (λ (o : Option Question). TalksLine o c.args.self.now (g.B.Backups.kept c.args.backups.now)
    c.serve_alone.new.self (g.B.Backups.kept c.serve_alone.new.backups) c.serve_alone.result) (sym read)
    c.serve_alone.ensures.talks

pub returns-in-None-clause-asked : goal.returns-in-None-clause-asked
returns-in-None-clause-asked g c =
    asked_if c.serve_alone.result c.serve_alone.new.self.front.asked c.serve_alone.ensures.none

pub returns-in-None-clause-none : goal.returns-in-None-clause-none
returns-in-None-clause-none g c =
    none_if c.serve_alone.result c.serve_alone.new.self.front.asked c.serve_alone.ensures.none

pub returns-in-Some-clause-none : goal.returns-in-Some-clause-none
returns-in-Some-clause-none g c = never_if c.ask.result c.ask.new.self.front.asked c.ask.ensures.goes
