use Rattle.std.proofs.Common.{arith, rules}
use Rattle.im_sessions.proofs.RingLemmas.{IsWindow-window_of, window_of-answer}
use Rattle.im_sessions.proofs.ring.Ring.answer.Goals as goal

pub returns-clause-answered : goal.returns-clause-answered
returns-clause-answered c =
    let r = c.self.inside in
    rw c.answer.ensures (window_of-answer r.places r.base r.count c.args.number c.place_of.result c.args.reply _ c.args.self.now (search rules) c.self.invariant.few c.self.view_is (omega arith) c.requires.from_base c.requires.below_next)

pub returns-clause-bounds : goal.returns-clause-bounds
returns-clause-bounds c = IsWindow-window_of _ _ _ c.self.invariant
