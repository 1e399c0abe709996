use Rattle.std.proofs.Common.{◌≡◌, drop}
use Rattle.{im_asks.specs.Behind.bounds_asked_all, im_front.specs.Lists.commands_asked}

abbrev pub invariant-loop-it : Rattle.im_listed.proofs.asking.moved_behind.Given.invariant-loop-it
invariant-loop-it l = bounds_asked_all l.element (commands_asked (drop l.it-index l.asked)) l.moved
    ≡ bounds_asked_all l.element (commands_asked l.asked) l.fn.bounds
