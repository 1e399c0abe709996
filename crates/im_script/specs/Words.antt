-- The words of a line, one after another. (Own.)
use Rattle.std.specs.Prelude.{ℕ, List, ◌∷◌, length, if◌then◌else◌, ◌==◌}

-- the words of a line that has this part up to its first space, and these words after that
abbrev pub words_past : List ℕ → List (List ℕ) → List (List ℕ)
words_past part words = if length part == 0 then words else part ∷ words
