use Rattle.std.proofs.Common.{◌≡◌, ℕ, suc, ◌+◌, ◌-◌, false, get_or, sym, ap, ◌∙◌, arith, ne_eqb}
use Rattle.im_types.specs.Types.{open_gate, is_open, closed_from, slot}
use Rattle.im_journal.{proofs.Reading.closed_more, specs.Holding.ring_alone}

pub loop-i-preserved : Rattle.im_journal.proofs.ring.closed_in.Goals.loop-i-preserved
loop-i-preserved c =
    let shut : is_open (slot (ring_alone c.args.slots) (c.args.«from» + c.loop-i.i) c.args.ring.now)
    ≡ false = ap is_open (sym c.slot_in-slot.ensures)
    ∙ ne_eqb (get_or c.slot_in-slot.result 0 0) open_gate c.if-slot.false in
    c.loop-i.invariant
    ∙ ap (λ (m : ℕ). c.loop-i.i + m)
    (closed_more (ring_alone c.args.slots) c.args.ring.now c.args.count c.loop-i.i c.args.«from» c.loop-i-test.true shut)
    ∙ moved c.loop-i.i (closed_from (ring_alone c.args.slots) (c.args.count - (c.loop-i.i + 1))
    (c.args.«from» + (c.loop-i.i + 1)) c.args.ring.now)
  where
    moved : (a b : ℕ) → a + suc b ≡ a + 1 + b
    moved a b = omega arith
