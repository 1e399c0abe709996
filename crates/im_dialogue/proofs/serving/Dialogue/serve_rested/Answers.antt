use Rattle.std.proofs.Common.{true, false, option_map, ◌∙◌}
use Rattle.im_dialogue.proofs.ServeLemmas.{next_err, next_ok, settled_err, settled_ok, then_next}
use Rattle.im_dialogue.specs.Hearing.{left_behind, questions_in, questions_left}
use Rattle.im_dialogue.proofs.serving.Dialogue.serve_rested.Goals as goal

pub returns-in-Ok-settle-clause-talks : goal.returns-in-Ok-settle-clause-talks
returns-in-Ok-settle-clause-talks g c =
    let old = c.args.self.now in
    let mid = c.rest.new.self in
    let been = c.serve_next.new.self in
    let was = g.B.Backups.kept c.args.backups.now in
    let is = g.B.Backups.kept c.serve_next.new.backups in
    let known = g.R.Read.remaining c.args.input.now in
    let later = g.R.Read.remaining c.serve_next.new.input in
    let next = then_next old mid been was is c.rest.ensures.same known (g.R.Read.remaining c.rest.new.input) later
    c.serve_next.result c.rest.ensures.kept c.in-Ok.ensures.talks
    (rw c.show_rest.ensures at c.serve_next.ensures.talks) in
    let on = next_ok old been was is known later c.serve_next.result next c.in-Ok-true.field-0 true c.in-Ok-true.is
    c.in-Ok-true.field-0-test in
    settled_ok old been c.settle.new.self was is (questions_left known)
    (left_behind true (option_map questions_in later)) (c.serve_next.ensures.same ∙ c.rest.ensures.same) on
    c.settle.result c.settle.ensures.talks tt c.in-Ok-settle.is

pub returns-in-Err-settle-clause-talks : goal.returns-in-Err-settle-clause-talks
returns-in-Err-settle-clause-talks g c =
    let old = c.args.self.now in
    let mid = c.rest.new.self in
    let been = c.serve_next.new.self in
    let was = g.B.Backups.kept c.args.backups.now in
    let is = g.B.Backups.kept c.serve_next.new.backups in
    let known = g.R.Read.remaining c.args.input.now in
    let later = g.R.Read.remaining c.serve_next.new.input in
    let next = then_next old mid been was is c.rest.ensures.same known (g.R.Read.remaining c.rest.new.input) later
    c.serve_next.result c.rest.ensures.kept c.in-Ok.ensures.talks
    (rw c.show_rest.ensures at c.serve_next.ensures.talks) in
    let on = next_ok old been was is known later c.serve_next.result next c.in-Ok-true.field-0 true c.in-Ok-true.is
    c.in-Ok-true.field-0-test in
    settled_err old been c.settle.new.self was is (questions_left known)
    (left_behind true (option_map questions_in later)) (c.serve_next.ensures.same ∙ c.rest.ensures.same) on
    c.settle.result c.settle.ensures.talks c.in-Err-settle.reason c.in-Err-settle.is

pub returns-in-Ok-false-clause-talks : goal.returns-in-Ok-false-clause-talks
returns-in-Ok-false-clause-talks g c =
    let old = c.args.self.now in
    let mid = c.rest.new.self in
    let been = c.serve_next.new.self in
    let was = g.B.Backups.kept c.args.backups.now in
    let is = g.B.Backups.kept c.serve_next.new.backups in
    let known = g.R.Read.remaining c.args.input.now in
    let later = g.R.Read.remaining c.serve_next.new.input in
    let next = then_next old mid been was is c.rest.ensures.same known (g.R.Read.remaining c.rest.new.input) later
    c.serve_next.result c.rest.ensures.kept c.in-Ok.ensures.talks
    (rw c.show_rest.ensures at c.serve_next.ensures.talks) in
    next_ok old been was is known later c.serve_next.result next c.in-Ok-false.field-0 false c.in-Ok-false.is
    c.in-Ok-false.field-0-test

pub returns-in-Err-serve_next-clause-talks : goal.returns-in-Err-serve_next-clause-talks
returns-in-Err-serve_next-clause-talks g c =
    let old = c.args.self.now in
    let mid = c.rest.new.self in
    let been = c.serve_next.new.self in
    let was = g.B.Backups.kept c.args.backups.now in
    let is = g.B.Backups.kept c.serve_next.new.backups in
    let known = g.R.Read.remaining c.args.input.now in
    let later = g.R.Read.remaining c.serve_next.new.input in
    let next = then_next old mid been was is c.rest.ensures.same known (g.R.Read.remaining c.rest.new.input) later
    c.serve_next.result c.rest.ensures.kept c.in-Ok.ensures.talks
    (rw c.show_rest.ensures at c.serve_next.ensures.talks) in
    next_err old been was is known later c.serve_next.result next c.in-Err-serve_next.reason c.in-Err-serve_next.is

pub returns-in-Err-clause-talks : goal.returns-in-Err-clause-talks
returns-in-Err-clause-talks g c = c.in-Err.ensures.talks (g.B.Backups.kept c.args.backups.now)
    (questions_left (g.R.Read.remaining c.args.input.now))
