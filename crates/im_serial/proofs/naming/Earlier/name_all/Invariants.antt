use Rattle.std.proofs.Common.{◌≡◌}
use Rattle.im_serial.specs.{Had.left_of, Named.AreNamed}

abbrev pub invariant-loop-number : Rattle.im_serial.proofs.naming.Earlier.name_all.Given.invariant-loop-number
invariant-loop-number g l = (l.self.last.items ≡ l.fn.self.last.items)
    × AreNamed l.memory.contents (left_of l.fn.self.last.items l.element) l.element l.base l.number l.self.named
