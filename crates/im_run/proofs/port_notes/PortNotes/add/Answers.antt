use Rattle.std.proofs.Common.{List, ◌++◌, sym, ap, ◌∙◌, subst, inr}
use Rattle.im_run.proofs.{DoingLemmas.ports_front, DoingLemmas.ports_last, OrdersLemmas.grown}
use Rattle.im_run.specs.{declared.served.Did.Did, Doing.HaveSeen}
use Rattle.im_run.proofs.port_notes.PortNotes.add.Goals as goal

pub returns-in-Ok-clause-ports : goal.returns-in-Ok-clause-ports
returns-in-Ok-clause-ports g c = ports_front c.args.self.now.ports.items c.push.new.self.items c.args.port
    (grown c.push.result _ _ _ c.push.ensures.items (sym c.is_err.ensures.value ∙ c.if-is_err.false))

pub returns-in-Ok-clause-added : goal.returns-in-Ok-clause-added
returns-in-Ok-clause-added g c = inr (
  ports_last c.args.self.now.ports.items c.push.new.self.items c.args.port
      (grown c.push.result _ _ _ c.push.ensures.items (sym c.is_err.ensures.value ∙ c.if-is_err.false)),
  c.in-Ok.ensures.items ∙ ap (λ (l : List Did). c.args.self.now.did.items ++ l) c.as_slice.ensures.value,
)

pub returns-clause-ports : goal.returns-clause-ports
returns-clause-ports g c = λ trace seen. ports_front c.args.self.now.ports.items c.push.new.self.items c.args.port
    (grown c.push.result _ _ _ c.push.ensures.items (sym c.is_err.ensures.value ∙ c.if-is_err.false)) trace
    (subst (HaveSeen trace) c.refuse-in-Err.ensures.ports seen)
