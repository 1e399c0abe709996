use Rattle.std.proofs.Common.{◌≡◌, ◌≤◌, ◌++◌, map, length, take, drop}
use Rattle.im_c.specs.Asked.{told_for_c}

abbrev pub invariant-loop-it : Rattle.im_c.proofs.asked.tell_first.Given.invariant-loop-it
invariant-loop-it l = (take l.count l.places ++ map told_for_c (drop l.it-index l.told) ≡ map told_for_c l.told)
    × (drop l.count l.places ≡ drop l.count l.fn.places) × (l.count ≡ l.it-index) × (length l.told ≤ length l.places)
