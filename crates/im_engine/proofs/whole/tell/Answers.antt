use Rattle.std.proofs.Common.{◌≡◌, [], ◌∷◌, ◌++◌, Ok, sym, ap, ◌∙◌, subst}
use Rattle.im_types.specs.Types.{Command, Tells, Served, step, as_served}
use Rattle.im_memory.specs.Touched.{ChangesOnly, touched}
use Rattle.im_engine.proofs.{Keeping.kept_prepared, Members.sizes_after}
use Rattle.im_engine.proofs.whole.tell.Goals as goal

pub returns-in-Request-clause-answer : goal.returns-in-Request-clause-answer
returns-in-Request-clause-answer c =
    let answer = subst (λ (k : Command). Ok (Tells c.accept_request-entry.result)
    ≡ (step c.args.memory.now.contents k).answer) (sym c.in-Request.is) c.accept_request-entry.ensures.answer in
    c.push.ensures.items ∙ ap (λ (s : Served). c.args.served.now.items ++ s ∷ []) (ap as_served answer)

pub returns-in-Request-clause-sizes : goal.returns-in-Request-clause-sizes
returns-in-Request-clause-sizes c =
    let contents = subst (λ (k : Command). c.accept_request-entry.new.self.contents
    ≡ (step c.args.memory.now.contents k).contents) (sym c.in-Request.is) c.accept_request-entry.ensures.contents in
    sizes_after c.args.checkpoint.now.state c.before-2.new.self.state c.args.memory.now.contents
    c.accept_request-entry.new.self.contents c.args.command.now c.before-2.ensures.state contents c.requires.sizes

pub returns-in-Request-clause-kept : goal.returns-in-Request-clause-kept
returns-in-Request-clause-kept c = λ m j now kept.
    let changes = subst (λ (k : Command). ChangesOnly (touched c.args.memory.now k) c.args.memory.now.records
    c.accept_request-entry.new.self.records) (sym c.in-Request.is) c.accept_request-entry.ensures.changes in
    kept_prepared c.args.checkpoint.now c.before-2.new.self c.args.memory.now c.accept_request-entry.new.self
    c.args.command.now c.before-2.ensures c.requires.sizes changes m j now kept

pub returns-in-Confirm-clause-answer : goal.returns-in-Confirm-clause-answer
returns-in-Confirm-clause-answer c = c.push-in-Confirm.ensures.items
    ∙ ap (λ (s : Served). c.args.served.now.items ++ s ∷ []) (c.as_served.ensures ∙ ap as_served
    c.accept.ensures.answer)

pub returns-in-Confirm-clause-sizes : goal.returns-in-Confirm-clause-sizes
returns-in-Confirm-clause-sizes c = sizes_after c.args.checkpoint.now.state c.before-2.new.self.state
    c.args.memory.now.contents c.accept.new.self.contents c.args.command.now c.before-2.ensures.state
    c.accept.ensures.contents c.requires.sizes

pub returns-in-Confirm-clause-kept : goal.returns-in-Confirm-clause-kept
returns-in-Confirm-clause-kept c = λ m j now kept.
    kept_prepared c.args.checkpoint.now c.before-2.new.self c.args.memory.now c.accept.new.self c.args.command.now
    c.before-2.ensures c.requires.sizes c.accept.ensures.changes m j now kept
