use Rattle.std.proofs.Common.{List, slice_get, sym, refl, ap, ◌∙◌, arith}
use Rattle.std.proofs.lemmas.Iterator.Adapters.{option_map_id}
use Rattle.std.proofs.lemmas.Iterator.Consumers.{nth_from_yields_List, YieldsList-from_first}
use Rattle.im_types.specs.Types.{Waiter}

pub returns : Rattle.im_memory.proofs.memory.Memory.waiter.Goals.returns
returns c =
    sym (option_map_id c.nth.result)
    ∙ nth_from_yields_List c.nth.result c.nth.new.self _ c.nth.ensures.ran
    (YieldsList-from_first (λ (w : Waiter). w) (λ (left : List Waiter). left) c.waiters.result refl)
    ∙ ap (slice_get c.waiters.result) (omega arith)
    ∙ ap (λ waiters. slice_get waiters c.args.place) c.waiters.ensures
