use Rattle.std.proofs.Common.{arith}
use Rattle.im_sessions.proofs.RingLemmas.{IsShown-window_of, IsWindow-window_of, window_of-drop}
use Rattle.im_sessions.proofs.ring.Ring.drop_first.Goals as goal

pub overflow_add-self : goal.overflow_add-self
overflow_add-self c =
    let r = c.self.inside in
    let shown = IsShown-window_of r.places r.base r.count c.args.self.now c.self.view_is in
    omega arith

pub overflow_sub-self : goal.overflow_sub-self
overflow_sub-self c =
    let r = c.self.inside in
    let shown = IsShown-window_of r.places r.base r.count c.args.self.now c.self.view_is in
    omega arith

pub invariant_of-self : goal.invariant_of-self
invariant_of-self c =
    let r = c.self.inside in
    let shown = IsShown-window_of r.places r.base r.count c.args.self.now c.self.view_is in
    record { from_one = omega arith; few = omega arith; to_last = omega arith }

pub returns-clause-dropped : goal.returns-clause-dropped
returns-clause-dropped c =
    let r = c.self.inside in
    window_of-drop r.places r.base r.count c.args.count c.args.self.now c.self.view_is c.requires

pub returns-clause-bounds : goal.returns-clause-bounds
returns-clause-bounds c = IsWindow-window_of _ _ _ (invariant_of-self c)
