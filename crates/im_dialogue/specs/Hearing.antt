-- What the lines of an input ask for, and what of it was heard. (Own.)
use Rattle.std.specs.Prelude.{◌≡◌, ℕ, Bool, true, false, List, [], ◌∷◌, ◌++◌, map, take, IfSome, if◌then◌else◌, ◌==◌}
use Rattle.std.specs.Prelude.{Some, None, All, Option, option_map}
use Rattle.std.specs.Io.KnownBytes.{Consumes, IsAtEnd}
use Rattle.im_script.specs.Script.{lines_of}
use Rattle.im_dialogue.specs.Asking.{asked_of}
use Rattle.im_dialogue.specs.declared.{asking.Question.Question, line_part.LinePart.LinePart, lines.TheConstants.KEPT}
use Rattle.im_dialogue.specs.declared.asking.Question.TheVariants as asks
use Rattle.im_dialogue.specs.declared.line_part.LinePart.TheVariants as piece

-- ---- the lines of an input

-- all but the last of these
abbrev pub but_last : {X : Type 0} → List X → List X
but_last [] = []
but_last (x ∷ []) = []
but_last (x ∷ y ∷ ys) = x ∷ but_last (y ∷ ys)

-- What the whole lines of a text ask for, in order. What stands behind the last line feed is no line.
abbrev pub questions_in : List ℕ → List (Option Question)
questions_in text = map asked_of (but_last (lines_of text))

-- this ends the dialogue
abbrev pub is_quit : Option Question → Bool
is_quit (Some asks.Quit) = true
is_quit _ = false

-- those up to the first that ends the dialogue
abbrev pub until_quit : List (Option Question) → List (Option Question)
until_quit [] = []
until_quit (first ∷ others) = if is_quit first then [] else first ∷ until_quit others

-- what an input asks for, where its bytes are known: each of its lines, up to `quit`
abbrev pub questions_left : Option (List ℕ) → Option (List (Option Question))
questions_left known = option_map (λ bytes. until_quit (questions_in bytes)) known

-- ---- what of it was heard

-- Of what is left, where that is known, these were heard, and the others are left.
abbrev pub Hears : Option (List (Option Question)) → Option (List (Option Question)) → List (Option Question) → Type 0
Hears None left heard = Unit {0}
Hears (Some all) None heard = ⊥
Hears (Some all) (Some left) heard = all ≡ heard ++ left

-- of what is left, where that is known, these were heard
abbrev pub HearsSome : Option (List (Option Question)) → List (Option Question) → Type 0
HearsSome left heard = IfSome left (λ all. (others : List (Option Question)) × (all ≡ heard ++ others))

-- the same, and if the status is 0, these are all
abbrev pub HearsAll : Option (List (Option Question)) → List (Option Question) → ℕ → Type 0
HearsAll left heard status = IfSome left
    (λ all. (others : List (Option Question)) × (all ≡ heard ++ others) × (status ≡ 0 → others ≡ []))

-- what is left with this line in front of it
abbrev pub asking : Option Question → Option (List (Option Question)) → Option (List (Option Question))
asking asked rest = option_map (λ others. until_quit (asked ∷ others)) rest

-- what is left behind a line: nothing behind the last one
abbrev pub left_behind : Bool → Option (List (Option Question)) → Option (List (Option Question))
left_behind goes_on rest = option_map (λ others. if goes_on then until_quit others else []) rest

-- what is left behind that many lines: nothing behind none
abbrev pub asked_after : ℕ → Option (List ℕ) → Option (List (Option Question))
asked_after many known = option_map (λ bytes. if many == 0 then [] else until_quit (questions_in bytes)) known

-- ---- parts of lines

-- a part of a line, with no line feed
abbrev pub IsLinePart : List ℕ → Type 0
IsLinePart bytes = All (λ byte. (byte == 10) ≡ false) bytes

-- what was read of a line, given what the reader had and has: a part of it, the rest of it with its line feed, or the
-- end of the input
abbrev pub ReadsPart : LinePart → Option (List ℕ) → Option (List ℕ) → List ℕ → Type 0
ReadsPart piece.More was is bytes = Consumes was is bytes
ReadsPart piece.Last was is bytes = Consumes was is (bytes ++ 10 ∷ [])
ReadsPart piece.None was is bytes = Consumes was is bytes × (IsAtEnd was × (bytes ≡ []))

-- the same of a line of which these bytes were kept and these are
abbrev pub ReadsMore : LinePart → Option (List ℕ) → Option (List ℕ) → List ℕ → List ℕ → Type 0
ReadsMore part was is kept now = (bytes : List ℕ) × (now ≡ take KEPT (kept ++ bytes)) × IsLinePart bytes
    × ReadsPart part was is bytes

-- so far these bytes of a line were read, and kept up to a bound
abbrev pub HasReadPart : Option (List ℕ) → Option (List ℕ) → List ℕ → Type 0
HasReadPart was is line = IfSome was (λ bytes. (whole : List ℕ) × (rest : List ℕ) × (is ≡ Some rest)
    × (line ≡ take KEPT whole) × IsLinePart whole × (bytes ≡ whole ++ rest))

-- A line was read of these bytes, or there was none. The line that is kept may have been cut.
abbrev pub ReadsLine : Bool → Option (List ℕ) → Option (List ℕ) → List ℕ → Type 0
ReadsLine is_line was is line = IfSome was (λ bytes. (rest : List ℕ) × (is ≡ Some rest)
    × (questions_in bytes ≡ (if is_line then asked_of line ∷ questions_in rest else [])))
