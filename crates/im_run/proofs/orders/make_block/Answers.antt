use Rattle.std.proofs.Common.{[], ◌∷◌, sym}
use Rattle.im_serial.proofs.ScriptedLemmas.{unserved}
use Rattle.im_run.proofs.OrdersLemmas.{on_ok_map}
use Rattle.im_run.proofs.orders.make_block.Goals as goal

pub returns-then-is_err-clause-served : goal.returns-then-is_err-clause-served
returns-then-is_err-clause-served g c = unserved _ _ _ _ _

pub returns-clause-longer : goal.returns-clause-longer
returns-clause-longer g c = on_ok_map _ _ c.make_block-made.result c.make_block-made.ensures.named
    (λ it. (it.0 ∷ [], sym it.1))
