use Rattle.std.proofs.Common.{arith, rules}
use Rattle.im_sessions.proofs.RingLemmas.{IsShown-window_of, IsWindow-window_of, window_of-note}
use Rattle.im_sessions.proofs.ring.Ring.note.Goals as goal

pub invariant_of-self : goal.invariant_of-self
invariant_of-self c =
    let r = c.self.inside in
    let shown = IsShown-window_of r.places r.base r.count c.args.self.now c.self.view_is in
    record { from_one = c.self.invariant.from_one; few = omega arith; to_last = omega arith }

pub returns-clause-noted : goal.returns-clause-noted
returns-clause-noted c =
    let r = c.self.inside in
    rw c.new.ensures (window_of-note r.places r.base r.count c.place_of.result c.args.op c.args.entry c.args.self.now
    (search rules) c.self.view_is (omega arith) c.requires.room)

pub returns-clause-bounds : goal.returns-clause-bounds
returns-clause-bounds c = IsWindow-window_of _ _ _ (invariant_of-self c)
