use Rattle.std.proofs.Common.{◌≡◌, ℕ, ◌<◌, ◌≤◌, max, length, get_or}

abbrev pub invariant-loop-at : Rattle.im_pages.proofs.words.fill_between.Given.invariant-loop-at
invariant-loop-at l = record {
  long : length l.words ≡ length l.initial.words;
  upto : l.at ≤ max l.from l.to;
  done : (k : ℕ) → l.from ≤ k → k < l.at → get_or l.words k 0 ≡ l.word;
  rest : (k : ℕ) → (l.from ≤ k → k < l.at → ⊥) → get_or l.words k 0 ≡ get_or l.initial.words k 0;
}
