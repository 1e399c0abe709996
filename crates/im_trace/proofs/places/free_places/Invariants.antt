use Rattle.im_trace.specs.Log.{AreVacant}

abbrev pub invariant-loop : Rattle.im_trace.proofs.places.free_places.Given.invariant-loop
invariant-loop l = AreVacant l.places.items
