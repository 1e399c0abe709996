use Rattle.std.proofs.Common.{◌≡◌, ℕ, ◌+◌, ◌<◌, true, nat_lt, sym, ap, ◌∙◌, arith, lt-ltb}
use Rattle.im_types.specs.Types.{sequence_of, slot}
use Rattle.im_journal.{proofs.Reading.stale_more, specs.Holding.ring_alone}

pub loop-i-preserved : Rattle.im_journal.proofs.ring.are_stale.Goals.loop-i-preserved
loop-i-preserved c =
    let less : c.sequence_in.result < c.args.first = omega arith in
    let test : nat_lt (sequence_of
    (slot (ring_alone c.args.slots) (c.args.«from» + c.loop-i.i) c.args.ring.now)) c.args.first ≡ true =
    ap (λ (n : ℕ). nat_lt n c.args.first) (ap sequence_of (sym c.slot_in-slot.ensures) ∙ sym c.sequence_in.ensures)
    ∙ lt-ltb c.sequence_in.result c.args.first less in
    c.loop-i.invariant ∙ stale_more
    (ring_alone c.args.slots) c.args.ring.now c.args.count c.loop-i.i c.args.«from» c.loop-i-test.true c.args.first test
