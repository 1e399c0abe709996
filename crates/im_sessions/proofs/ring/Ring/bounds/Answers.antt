use Rattle.std.proofs.Common.{◌≡◌, ℕ, arith}
use Rattle.im_sessions.proofs.RingLemmas.{IsShown-window_of}

both : (a b c d : ℕ) → a ≡ c → b ≡ d → let p : ℕ × ℕ = (a, b) in p ≡ (c, d)
both a b c d first second = cc

pub returns : Rattle.im_sessions.proofs.ring.Ring.bounds.Goals.returns
returns c =
    let r = c.self.inside in
    let shown = IsShown-window_of r.places r.base r.count c.args.self.now c.self.view_is in
    both _ _ _ _ (omega arith) (omega arith)
