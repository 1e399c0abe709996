-- A journal whose bytes are all zero.
use Rattle.std.proofs.Common.{◌≡◌, ℕ, ◌+◌, ◌*◌, ◌<◌, ◌≤◌, List, get_or, arith}
use Rattle.im_types.specs.Types.{open_gate, Ring}
use Rattle.im_journal.specs.Holding.{AreClosed}

-- zero bytes are closed gates
pub closed_zeros : (ring : Ring) (file : List ℕ)
    → ((i : ℕ) → ring.base ≤ i → i < ring.base + 64 * ring.slots → get_or file i 0 ≡ 0) → AreClosed ring file
closed_zeros ring file zero i lt is =
    let none : get_or file (ring.base + 64 * i) 0 ≡ 0 = zero (ring.base + 64 * i) (omega arith) (omega arith) in
    absurd (clash (get_or file (ring.base + 64 * i) 0) none is)
  where
    clash : (n : ℕ) → n ≡ 0 → n ≡ open_gate → ⊥
    clash n e f = omega arith
