use Rattle.std.proofs.Common.{refl, rules}
use Rattle.im_serving.proofs.{CallsLemmas.intent_alone, ToldLemmas.tells_none}
use Rattle.im_serving.proofs.GlanceLemmas.{done_glance, done_refused, done_request, glanced_by, unglanced}
use Rattle.im_serving.proofs.server.serve_intent.Goals as goal

pub returns-in-Request-clause-done : goal.returns-in-Request-clause-done
returns-in-Request-clause-done g c =
    let s = c.serve_one in
    done_request s.result c.args.port.now s.new.port c.args.served.now s.new.served _ _ _ c.args.intent
    c.in-Request.is s.ensures.same.0 s.ensures.same.1 s.ensures.asked s.ensures.same.2

pub returns-in-Request-clause-kept : goal.returns-in-Request-clause-kept
returns-in-Request-clause-kept g c =
    let s = c.serve_one in
    done_refused s.result c.args.port.now s.new.port c.args.served.now s.new.served _ _ s.ensures.same.0
    s.ensures.same.1 s.ensures.kept s.ensures.same.2

pub returns-in-Glance-clause-done : goal.returns-in-Glance-clause-done
returns-in-Glance-clause-done g c =
    done_glance c.read.result c.args.port.now c.args.served.now _ _ _ _ _ _ c.args.intent c.in-Glance.is
    (search rules) c.read.ensures.made

pub returns-in-Glance-clause-kept : goal.returns-in-Glance-clause-kept
returns-in-Glance-clause-kept g c =
    unglanced c.read.result c.args.port.now c.args.served.now _ _ _ _ c.read.ensures.same

pub returns-in-Glance-clause-seen : goal.returns-in-Glance-clause-seen
returns-in-Glance-clause-seen g c =
    glanced_by c.read.result g.K.Name.origin.memory c.args.port.now.element _ _ c.args.glances.now.last
    c.read.new.self.last
    c.args.glances.now.glance c.read.new.self.glance
    c.args.glances.now.made.items c.read.new.self.made.items c.read.ensures.kept c.read.ensures.made
    c.read.ensures.last c.read.ensures.same

pub returns-in-Glance-clause-told : goal.returns-in-Glance-clause-told
returns-in-Glance-clause-told g c = tells_none _ _ _ _

pub returns-in-Request-clause-alone : goal.returns-in-Request-clause-alone
returns-in-Request-clause-alone g c = λ before d.
    let s = c.serve_one in
    intent_alone g.K.Name.origin.marks c.args.port.now.element c.args.served.now.first s.new.served.untold _
    c.args.intent before c.args.served.now.entries.items c.args.port.now s.new.port c.in-Request.is d.count
    s.ensures.alone

pub returns-in-Glance-clause-alone : goal.returns-in-Glance-clause-alone
returns-in-Glance-clause-alone g c = λ before d quiet. refl
