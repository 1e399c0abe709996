-- A worked trace, and its changes. (Own.)
use Rattle.std.specs.Prelude.{List, [], ◌∷◌}
use Rattle.im_types.specs.Types.{I, Alloc, Release, Reset, Store, Base, Stored, Clash, Released, Cleared, Line, Change}
use Rattle.im_types.specs.Types.{Fills, Same, Gone}
use Rattle.im_laws.specs.Examples.{asks, collects, told_reply}

-- two cells are stored to, one of them twice; their block is reset, stored to again, and released
abbrev pub stored_and_released : List Line
stored_and_released =
    asks 0 1 (Alloc I 2) (told_reply (Base 0))
    ∷ asks 1 1 (Store 0 5) (told_reply Stored)
    ∷ collects 1 1 (told_reply Stored)
    ∷ asks 1 2 (Store 1 6) (told_reply Stored)
    ∷ asks 2 1 (Store 0 5) (told_reply Clash)
    ∷ asks 0 2 (Reset 0) (told_reply Cleared)
    ∷ asks 2 2 (Store 1 7) (told_reply Stored)
    ∷ asks 0 3 (Release 0) (told_reply Released)
    ∷ []

-- one change for each command; a question has none
abbrev pub seven_changes : List Change
seven_changes = Same ∷ Fills 0 5 ∷ Fills 1 6 ∷ Gone 0 1 ∷ Gone 0 2 ∷ Fills 1 7 ∷ Gone 0 2 ∷ []
