use Rattle.std.proofs.Common.{◌≡◌, ℕ, ◌+◌, ◌<◌, true, false, slice_get, slice_index_or, Some}
use Rattle.im_types.specs.Types.{Kept, is_waiting}

abbrev pub invariant-loop-past : Rattle.im_contents.proofs.waiting.is_marked.Given.invariant-loop-past
invariant-loop-past l =
    (i : ℕ) (k : Kept) → i < l.past → slice_get l.kept i ≡ Some k → is_waiting k ≡ true
    → slice_index_or l.marks (l.first + i) false ≡ true
