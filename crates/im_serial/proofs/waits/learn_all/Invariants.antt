use Rattle.std.proofs.Common.{◌≡◌, List, map}
use Rattle.im_types.specs.Types.{Command, Contents, after}
use Rattle.im_text.specs.Said.{who_of}
use Rattle.im_serial.specs.Noted.{AreKnown, IsLearnt}

abbrev pub invariant-loop-at : Rattle.im_serial.proofs.waits.learn_all.Given.invariant-loop-at
invariant-loop-at l = (map who_of l.waited ≡ map who_of l.fn.waited) × ((m : Contents) (put : List Command) → l.memory.contents ≡ after m put → AreKnown m put l.fn.waited → IsLearnt m put l.at l.waited)
