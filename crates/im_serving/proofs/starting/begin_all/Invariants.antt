use Rattle.std.proofs.Common.{◌≡◌, ◌++◌, vec_capacity}

abbrev pub invariant-loop-part : Rattle.im_serving.proofs.starting.begin_all.Given.invariant-loop-part
invariant-loop-part g l = (l.all.items ++ l.part-iterator.rest.items ≡ l.fn.parts.items)
    × (vec_capacity l.all ≡ vec_capacity l.fn.all)
