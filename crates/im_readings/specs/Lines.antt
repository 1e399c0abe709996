-- The lines whose text can be read back, and what one line is in a text. (Own.)
use Rattle.std.specs.Prelude.{◌≡◌, ℕ, ◌^◌, ◌<◌, ◌≢◌, List, [], ◌∷◌, ◌++◌, Some, None, All}
use Rattle.{im_types.specs.Types.Refusal, im_types.specs.Types.FitsEntry, im_text.specs.Texts.line_feed}
use Rattle.im_text.specs.declared.{OutputLine.OutputLine, Waited.Waited}
use Rattle.im_text.specs.declared.OutputLine.TheVariants.{Done, Glance, Now, Refused, Reply}

-- the numbers of a request and its entry are such as their types have
abbrev pub FitsWaited : Waited → Type 0
FitsWaited w = (w.element < 2 ^ 16) × (w.number < 2 ^ 64) × FitsEntry w.entry

-- the numbers of a line are such as their types have
abbrev pub FitsLine : OutputLine → Type 0
FitsLine (Reply w) = FitsWaited w
FitsLine (Now w) = FitsWaited w
FitsLine (Done element number) = (element < 2 ^ 16) × (number < 2 ^ 64)
FitsLine (Glance element address None) = (element < 2 ^ 16) × (address < 2 ^ 32)
FitsLine (Glance element address (Some v)) = (element < 2 ^ 16) × (address < 2 ^ 32) × (v < 2 ^ 64)
FitsLine (Refused refusal) = Unit {0}

-- a text that ends with a line feed and has no other
abbrev pub IsOneLine : List ℕ → Type 0
IsOneLine text = (words : List ℕ) × (text ≡ words ++ line_feed) × All (λ byte. byte ≢ 10) words

-- the refusals among lines
abbrev pub refusals_in : List OutputLine → List Refusal
refusals_in [] = []
refusals_in (Refused refusal ∷ lines) = refusal ∷ refusals_in lines
refusals_in (line ∷ lines) = refusals_in lines
