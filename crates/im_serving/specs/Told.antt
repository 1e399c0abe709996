-- What a server tells of earlier scripts before it confirms it. (Own.)
use Rattle.std.specs.Prelude.{◌≡◌, ℕ, suc, ◌+◌, ◌<◌, ◌⊎◌, List, [], ◌∷◌, length, Option}
use Rattle.im_types.specs.Types.{Entry, Waiting, Line}
use Rattle.im_serving.specs.declared.{earlier.EarlierAnswer.EarlierAnswer, numbers.ServedNumbers.ServedNumbers}
use Rattle.im_serving.specs.{Earlier.answers_from, Earlier.ToldAlso, Serving.found_line, Serving.StandIn}
use mathlib.Core.List.{IsPrefix}

-- an entry below this number, if it is one of an earlier script, was told
abbrev pub IsToldBelow : ℕ → ServedNumbers → Type 0
IsToldBelow upto s = (number : ℕ) → number < s.first → number < upto → number < s.untold

-- each of these entries is an answer that was found in this trace, under an element's numbers from this one on
abbrev pub AreAnswersIn : List Line → ℕ → ℕ → List Entry → Type 0
AreAnswersIn trace element number [] = Unit {0}
AreAnswersIn trace element number (entry ∷ entries) = (entry ≡ Waiting → ⊥)
    × (StandIn (found_line element number entry ∷ []) trace × AreAnswersIn trace element (suc number) entries)

-- a server's numbers are the same but for the entries of its own requests
pub record AreSameNumbers (old new : ServedNumbers) : Type 0 where
  pub element : new.element ≡ old.element
  pub first : new.first ≡ old.first
  pub base : new.base ≡ old.base
  pub untold : new.untold ≡ old.untold

-- this is the next answer of an earlier script, and it was told
pub record IsNextTold (number : ℕ) (entry : Entry) (old new : ServedNumbers)
    (was is : Option (List EarlierAnswer)) : Type 0 where
  pub next : number ≡ old.untold
  pub answered : entry ≡ Waiting → ⊥
  pub untold : new.untold ≡ suc number
  pub told : ToldAlso was is (record { element = old.element; number = number; entry = entry } ∷ [])

-- what was found under a number was told, if it is the next answer of an earlier script
pub record TellsNext (number : ℕ) (entry : Entry) (old new : ServedNumbers)
    (was is : Option (List EarlierAnswer)) : Type 0 where
  pub element : new.element ≡ old.element
  pub first : new.first ≡ old.first
  pub base : new.base ≡ old.base
  pub told : ((new.untold ≡ old.untold) × (is ≡ was)) ⊎ IsNextTold number entry old new was is

-- A server came from the first numbers to the second, and its port saw more of the trace. Someone was told the answers
-- that it found for requests of earlier scripts, one number after another. If each entry that it had confirmed was
-- told, so is each that it has confirmed now.
pub record TellsEarlier (trace more : List Line) (element : ℕ) (old new : ServedNumbers)
    (was is : Option (List EarlierAnswer)) : Type 0 where
  pub longer : IsPrefix trace more
  pub same : new.element ≡ old.element
  pub entries : List Entry
  pub found : AreAnswersIn more element old.untold entries
  pub count : new.untold ≡ old.untold + length entries
  pub told : ToldAlso was is (answers_from old.element old.untold entries)
  pub confirmed : IsToldBelow old.base old → IsToldBelow new.base new
