-- The entries of earlier scripts that are named before they are confirmed. (Own.)
use Rattle.std.specs.Prelude.{◌≡◌, ℕ, ◌<◌, ◌≤◌, List, slice_get, Some}
use Rattle.im_types.specs.Types.{Kept, Contents, kept_for}
use Rattle.im_text.specs.declared.Waited.{Waited}

-- an entry is among those that were named
abbrev pub IsNamed : List Waited → Waited → Type 0
IsNamed named w = (at : ℕ) × (slice_get named at ≡ Some w)

-- What a memory keeps of an element's requests under these numbers was named, as far as they are of earlier scripts:
-- their numbers go to this last one.
abbrev pub AreNamed : Contents → ℕ → ℕ → ℕ → ℕ → List Waited → Type 0
AreNamed m last element from upto named = (number : ℕ) (k : Kept) → from ≤ number → number < upto → number ≤ last
    → kept_for m.windows (record { element = element; number = number }) ≡ Some k
    → IsNamed named (record { element = element; number = number; entry = k.entry })
