use Rattle.std.proofs.Common.{◌≡◌, List, ◌++◌, vec_capacity}
use Rattle.im_serving.specs.Elements.{AreEnded, Asked}

abbrev pub invariant-loop-running : Rattle.im_serving.proofs.ending.end_all.Given.invariant-loop-running
invariant-loop-running g l =
    ((before : List Asked)
    × ((before ++ l.running-iterator.rest.items ≡ l.fn.all.items)
    × AreEnded g.K.Name.origin.memory g.K.Name.origin.marks before l.done.items)) ×
    (vec_capacity l.done ≡ vec_capacity l.fn.done)
