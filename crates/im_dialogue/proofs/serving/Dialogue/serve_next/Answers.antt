use Rattle.std.proofs.Common.{None}
use Rattle.im_dialogue.proofs.{HearingLemmas.asked_line, HearingLemmas.asked_nothing, ServeLemmas.end_next}
use Rattle.im_dialogue.proofs.{ServeLemmas.line_next, TalkLemmas.talk_ends_here, ToldLemmas.none_asked}
use Rattle.im_dialogue.specs.{Asking.asked_of, Hearing.questions_left, Serving.told_by_it}
use Rattle.im_dialogue.proofs.serving.Dialogue.serve_next.Goals as goal

pub returns-in-Ok-true-clause-talks : goal.returns-in-Ok-true-clause-talks
returns-in-Ok-true-clause-talks g c =
    let known = g.R.Read.remaining c.args.input.now in
    let later = g.R.Read.remaining c.next_line.new.input in
    let line = c.next_line.new.line.items in
    line_next c.args.self.now c.serve_line.new.self (g.B.Backups.kept c.args.backups.now)
    (g.B.Backups.kept c.serve_line.new.backups)
    known later (asked_of line) c.serve_line.result
    (asked_line known later line (rw c.in-Ok-true.field-0-test at c.in-Ok-true.ensures.read)) c.serve_line.ensures.talks

pub returns-in-Ok-clause-talks : goal.returns-in-Ok-clause-talks
returns-in-Ok-clause-talks g c =
    let known = g.R.Read.remaining c.args.input.now in
    let later = g.R.Read.remaining c.next_line.new.input in
    let kept = g.B.Backups.kept c.args.backups.now in
    end_next c.args.self.now c.drain.new.self kept known later
    (asked_nothing known later c.next_line.new.line.items
    (rw c.in-Ok-false.field-0-test at c.in-Ok-false.ensures.read)) (c.in-Ok.ensures.talks kept)

pub returns-in-Err-drain-clause-talks : goal.returns-in-Err-drain-clause-talks
returns-in-Err-drain-clause-talks g c = c.in-Err-drain.ensures.talks (g.B.Backups.kept c.args.backups.now)
    (questions_left (g.R.Read.remaining c.args.input.now))

pub returns-in-Err-clause-talks : goal.returns-in-Err-clause-talks
returns-in-Err-clause-talks g c =
    let old = c.args.self.now in
    talk_ends_here old.setting.watch old.front.session
    (told_by_it old (g.B.Backups.kept c.args.backups.now) (questions_left (g.R.Read.remaining c.args.input.now))) None

pub returns-in-Ok-clause-asked : goal.returns-in-Ok-clause-asked
returns-in-Ok-clause-asked g c = none_asked c.drain.new.self.front.asked c.in-Ok.ensures.none
