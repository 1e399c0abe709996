use Rattle.std.proofs.Common.{sym, ◌∙◌, rules}
use Rattle.im_serving.proofs.{AnswerLemmas.asked_by, GlanceLemmas.glanced_asked, GlanceLemmas.glanced_more}
use Rattle.im_serving.proofs.asking.ask.Goals as goal

pub returns-in-Ok-entry_of-clause-seen : goal.returns-in-Ok-entry_of-clause-seen
returns-in-Ok-entry_of-clause-seen g c =
    glanced_asked g.K.Name.origin.memory c.args.port.now.element c.args.number c.args.op c.in-Ok-entry_of.entry
    c.args.glances.now.last c.args.glances.now.glance c.learn.new.self.glance
    c.args.glances.now.made.items c.learn.new.self.made.items c.in-Ok.receipt.command c.in-Ok.receipt.outcome
    c.in-Ok.receipt.history
    c.in-Ok.ensures.asked c.in-Ok.ensures.legal c.in-Ok.ensures.last
    (sym c.learn.ensures.found ∙ c.in-Ok-entry_of.ensures) c.learn.ensures.shown (search rules)

pub returns-in-Ok-clause-seen : goal.returns-in-Ok-clause-seen
returns-in-Ok-clause-seen g c =
    glanced_more g.K.Name.origin.memory c.args.port.now.element c.args.glances.now.last c.learn.new.self.last
    c.args.glances.now.glance c.learn.new.self.glance
    c.args.glances.now.made.items c.learn.new.self.made.items c.learn.ensures.kept
    (search rules) c.learn.ensures.same.1

pub returns-in-Ok-entry_of-clause-order : goal.returns-in-Ok-entry_of-clause-order
returns-in-Ok-entry_of-clause-order g c =
    asked_by c.args.port.now.history c.submit.new.port.history c.args.port.now.element c.args.number c.args.op
    c.in-Ok-entry_of.entry c.in-Ok.receipt.command c.in-Ok.receipt.outcome
    c.in-Ok.ensures.asked (sym c.learn.ensures.found ∙ c.in-Ok-entry_of.ensures) c.in-Ok.ensures.order
