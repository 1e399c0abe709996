-- What someone is told of earlier scripts. (Own.)
use Rattle.std.specs.Prelude.{◌≡◌, ℕ, suc, List, [], ◌∷◌, ◌++◌, Some, None, Option}
use Rattle.im_types.specs.Types.{Entry}
use Rattle.im_serving.specs.declared.earlier.EarlierAnswer.{EarlierAnswer}

-- someone was told these answers more, if what it was told is known
abbrev pub ToldAlso : Option (List EarlierAnswer) → Option (List EarlierAnswer) → List EarlierAnswer → Type 0
ToldAlso None is answers = Unit {0}
ToldAlso (Some was) None answers = ⊥
ToldAlso (Some was) (Some is) answers = is ≡ was ++ answers

-- what is told of these entries, which are kept under an element's numbers from this one on
abbrev pub answers_from : ℕ → ℕ → List Entry → List EarlierAnswer
answers_from element number [] = []
answers_from element number (entry ∷ entries) =
    record { element = element; number = number; entry = entry } ∷ answers_from element (suc number) entries
