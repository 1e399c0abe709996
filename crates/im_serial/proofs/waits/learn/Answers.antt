use Rattle.std.proofs.Common.{◌≡◌, ℕ, subst, arith}
use Rattle.im_serial.specs.Noted.{Learns}

pub returns-clause-learnt : Rattle.im_serial.proofs.waits.learn.Goals.returns-clause-learnt
returns-clause-learnt c = λ low.
    let at_end : c.loop-number.number ≡ c.args.numbers.2 =
    omega (arith, low, c.loop-number-test.false, c.loop-number.auto.number-end) in
    subst (λ (upto : ℕ). Learns c.args.memory.now.contents c.args.numbers.0 c.args.numbers.1 upto
    c.args.places.now.marks.items c.args.waited.now c.loop-number.places.marks.items c.loop-number.waited) at_end
    c.loop-number.invariant.1
