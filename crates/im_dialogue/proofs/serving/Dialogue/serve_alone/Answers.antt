use Rattle.std.proofs.Common.{Some, None, Option, sym, subst}
use Rattle.im_dialogue.proofs.ServeLemmas.{then_line}
use Rattle.im_dialogue.specs.{declared.asking.Question.Question, Hearing.asking, Serving.TalksLine}
use Rattle.im_dialogue.proofs.serving.Dialogue.serve_alone.Goals as goal

pub returns-in-Some-clause-talks : goal.returns-in-Some-clause-talks
returns-in-Some-clause-talks g c =
    let was = g.B.Backups.kept c.args.backups.now in
    let is = g.B.Backups.kept c.tell.new.backups in
    subst (λ (o : Option Question). TalksLine o c.args.self.now was c.tell.new.self is c.tell.result)
    (sym c.in-Some.is)
    (then_line c.args.self.now c.drain.new.self c.tell.new.self was is c.drain.ensures.same (Some c.in-Some.asked)
    c.tell.result c.in-Ok.ensures.talks c.tell.ensures.talks)

pub returns-in-None-clause-talks : goal.returns-in-None-clause-talks
returns-in-None-clause-talks g c =
    let was = g.B.Backups.kept c.args.backups.now in
    subst (λ (o : Option Question). TalksLine o c.args.self.now was c.tell_fault.new.self was c.tell_fault.result)
    (sym c.in-None.is)
    (then_line c.args.self.now c.drain.new.self c.tell_fault.new.self was was c.drain.ensures.same None
    c.tell_fault.result c.in-Ok.ensures.talks (c.tell_fault.ensures.talks was))

pub returns-in-Err-clause-talks : goal.returns-in-Err-clause-talks
returns-in-Err-clause-talks g c = λ rest.
    c.in-Err.ensures.talks (g.B.Backups.kept c.args.backups.now) (asking c.args.asked rest)
