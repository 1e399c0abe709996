use Rattle.std.proofs.Common.{arith, rules}
use Rattle.im_sessions.proofs.RingLemmas.{slice_get-window}

pub returns : Rattle.im_sessions.proofs.ring.Ring.at.Goals.returns
returns c =
    let r = c.self.inside in
    slice_get-window r.places r.base r.count c.args.number c.place_of.result _ _ (search rules) c.self.view_is
    (omega arith) c.requires.from_base c.requires.below_next
