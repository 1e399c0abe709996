-- Which line of a text isn't in the grammar. (Own.)
use Rattle.std.specs.Prelude.{◌≡◌, ℕ, ◌+◌, Bool, true, false, List, ◌∷◌, ◌++◌, length, Some, None, Option}
use Rattle.im_types.specs.Types.{Refusal}
use Rattle.im_script.specs.declared.faults.LineFault.{LineFault, TheVariants.TooLong}
use Rattle.im_script.specs.declared.faults.ScriptFault.{ScriptFault}
use Rattle.im_script.specs.declared.faults.ScriptFault.TheVariants.{BadLine, NoMemory, TooLarge}
use Rattle.im_script.specs.declared.reading.TextFault.{TextFault, TheVariants.Bad, TheVariants.Unread}
use Rattle.im_script.specs.Script.{Draft, heard, lines_after, lines_of, new_draft}
use Rattle.im_types.specs.declared.refusals.Refusal.TheVariants as refusal

-- the number of the line that a fault names, from 1
abbrev pub bad_line : ScriptFault → Option ℕ
bad_line NoMemory = None
bad_line TooLarge = None
bad_line (BadLine line fault) = Some line

-- the refusal of a fault
abbrev pub refusal_of : ScriptFault → Refusal
refusal_of NoMemory = refusal.NoMemory
refusal_of TooLarge = refusal.BadScript
refusal_of (BadLine line fault) = refusal.BadScript

-- the fault is that the text is too large
abbrev pub is_of_size : ScriptFault → Bool
is_of_size TooLarge = true
is_of_size fault = false

-- a text isn't read because it is too large
abbrev pub is_too_large : TextFault → Bool
is_too_large (Bad fault) = is_of_size fault
is_too_large (Unread kind) = false

-- the fault of a line is that it is too long
abbrev pub is_of_length : LineFault → Bool
is_of_length TooLong = true
is_of_length fault = false

-- the same for the fault that names the line
abbrev pub tells_length : ScriptFault → Bool
tells_length (BadLine line fault) = is_of_length fault
tells_length fault = false

-- line n of a text, from 1, isn't in the grammar at its place, but each line before it is; with glances, or without
pub record IsFirstBadLine (glances : Bool) (text : List ℕ) (n : ℕ) : Type 0 where
  pub before : List (List ℕ)
  pub line : List ℕ
  pub rest : List (List ℕ)
  pub lines : lines_of text ≡ before ++ line ∷ rest
  pub number : n ≡ length before + 1
  pub draft : Draft  -- what the lines before it say
  pub read : lines_after glances new_draft before ≡ Some draft
  pub bad : heard glances draft line ≡ None
