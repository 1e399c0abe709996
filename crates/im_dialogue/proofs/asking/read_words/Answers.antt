use Rattle.std.proofs.Common.{◌≡◌, ℕ, ◌<◌, List, [], ◌∷◌, length, None, refl, arith, Bor}
use Rattle.im_script.specs.Grammar.{texts}
use Rattle.im_dialogue.specs.Asking.{asked_in}

-- no line of the grammar has more than four words
asked_by_many : (words : List (Bor (List ℕ))) → 4 < length words → None ≡ asked_in (texts words)
asked_by_many [] many = absurd (omega arith)
asked_by_many (a ∷ []) many = absurd (omega arith)
asked_by_many (a ∷ b ∷ []) many = absurd (omega arith)
asked_by_many (a ∷ b ∷ c ∷ []) many = absurd (omega arith)
asked_by_many (a ∷ b ∷ c ∷ d ∷ []) many = absurd (omega arith)
asked_by_many (a ∷ b ∷ c ∷ d ∷ e ∷ rest) many = refl

pub returns-in_default-2 : Rattle.im_dialogue.proofs.asking.read_words.Goals.returns-in_default-2
returns-in_default-2 c = asked_by_many c.args.words.now (omega arith)
