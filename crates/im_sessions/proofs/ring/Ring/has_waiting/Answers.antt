use Rattle.std.proofs.Common.{◌≡◌, sym, ap, ◌∙◌, arith}
use Rattle.im_sessions.proofs.RingLemmas.{list_any-next, list_any-some}
use Rattle.im_sessions.proofs.ring.Ring.has_waiting.Goals as goal

pub returns-then-is_waiting : goal.returns-then-is_waiting
returns-then-is_waiting c =
    let base : c.bounds-base.result.0 ≡ c.args.self.now.base = ap (λ p. p.0) c.bounds-base.ensures in
    sym (list_any-some c.args.self.now.kept c.loop-past.past _ c.args.count _ c.loop-past-test.true c.requires
    (omega arith) c.at.ensures (sym c.is_waiting.ensures ∙ c.if-is_waiting.true))

pub loop-past-preserved : goal.loop-past-preserved
loop-past-preserved c =
    let base : c.bounds-base.result.0 ≡ c.args.self.now.base = ap (λ p. p.0) c.bounds-base.ensures in
    list_any-next c.args.self.now.kept c.loop-past.past _ _ (omega arith)
    (omega arith) c.at.ensures c.loop-past.invariant ∙ (sym c.is_waiting.ensures ∙ c.if-is_waiting.false)
