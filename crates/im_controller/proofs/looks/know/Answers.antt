pub invariant_of-shared : Rattle.im_controller.proofs.looks.know.Goals.invariant_of-shared
invariant_of-shared g c = rw c.knows.ensures.same c.shared.invariant
