use Rattle.std.proofs.Common.{◌≡◌, ℕ, ◌<◌, ◌≤◌, get_or, bit_or}

abbrev pub invariant-loop-at : Rattle.im_pages.proofs.words.set_bits.Given.invariant-loop-at
invariant-loop-at l = record {
  done : (k : ℕ) → k < l.at → get_or l.words k 0 ≡ bit_or (get_or l.initial.words k 0) (get_or l.other k 0);
  rest : (k : ℕ) → l.at ≤ k → get_or l.words k 0 ≡ get_or l.initial.words k 0;
}
