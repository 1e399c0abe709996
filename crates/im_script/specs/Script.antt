-- The grammar of scripts: what a text says, line by line. (Own.)
use Rattle.std.specs.Prelude.{◌≡◌, ℕ, Bool, List, [], ◌∷◌, ◌++◌, length, if◌then◌else◌, nat_le, ◌==◌, slice_index_or, ⊤}
use Rattle.std.specs.Prelude.{Some, None, Ok, Err, Option, Result, option_map, option_and_then}
use Rattle.std.specs.{List.slice_split, Option.option_map_or, Option.option_or}
use Rattle.im_types.specs.Types.{Refusal, NoMemory, BadScript}
use Rattle.im_script.specs.declared.{reader.Reader.Reader, script.Said.Said}
use Rattle.im_script.specs.declared.script.Heard.{Heard, TheVariants.Glances, TheVariants.Says}
use Rattle.im_script.specs.declared.script.Said.TheVariants.{Asks, Begins, Block, Nothing}
use Rattle.im_script.specs.declared.script.Stage.{Stage, TheVariants.Part, TheVariants.Setup, TheVariants.Start}
use Rattle.im_script.specs.Grammar.{is_line, number_up_to, texts, words_of}
use Rattle.im_script.specs.Lines.{action_of, glanced, named_block, part_number, starts_setup}

-- where the next line stands, and the names that the setup has given
pub record Draft : Type 0 where
  pub stage : Stage
  pub names : List (List ℕ)

-- the state of a reader
abbrev pub draft_of : Reader → Draft
draft_of r = record { stage = r.stage; names = texts r.names.keys }

-- before all lines that count
abbrev pub new_draft : Draft
new_draft = record { stage = Start; names = [] }

-- ---- one line: where the next one stands, and what it says

-- element K, by its number
abbrev pub begun_part : Draft → List ℕ → Option (Draft × Said)
begun_part d number = option_map (λ k. (record d { stage = Part k }, Begins k)) (number_up_to 63 number)

-- the first line that counts
abbrev pub begun_setup : Draft → List (List ℕ) → Option (Draft × Said)
begun_setup d words = if starts_setup words then Some (record d { stage = Setup }, Nothing) else None

-- a line in the setup
abbrev pub named : Draft → List (List ℕ) → Option (Draft × Said)
named d words = option_map (λ b. (record d { names = d.names ++ b.0 ∷ [] }, Block b.1)) (named_block d.names words)

-- a line in a part of this element
abbrev pub requested : Draft → ℕ → List (List ℕ) → Option (Draft × Said)
requested d k words = option_map (λ a. (d, Asks (record { element = k; action = a }))) (action_of d.names words)

-- a line that begins no part
abbrev pub line_at : Draft → Stage → List (List ℕ) → Option (Draft × Said)
line_at d Start words = begun_setup d words
line_at d Setup words = named d words
line_at d (Part k) words = requested d k words

-- a line that counts
abbrev pub line_after : Draft → List (List ℕ) → Option (Draft × Said)
line_after d words = option_map_or (begun_part d) (part_number words) (line_at d d.stage words)

-- a line by its words: an empty one says nothing, nor does one whose first character is '#'
abbrev pub words_after : Draft → List (List ℕ) → Option (Draft × Said)
words_after d [] = Some (d, Nothing)
words_after d (word ∷ words) = if slice_index_or word 0 0 == 35 then Some (d, Nothing) else line_after d (word ∷ words)

-- a line, which must be ASCII and not too long
abbrev pub line_says : Draft → List ℕ → Option (Draft × Said)
line_says d line = if is_line line then words_after d (words_of line) else None

-- ---- one line of a script that may have glances

-- a glance, which is a line in a part
abbrev pub glance_at : Draft → Stage → List (List ℕ) → Option Heard
glance_at d (Part k) words = option_map (Glances k) (glanced d.names words)
glance_at d _ words = None

-- a line that glances, which must be ASCII and not too long
abbrev pub glance_of : Draft → List ℕ → Option Heard
glance_of d line = if is_line line then glance_at d d.stage (words_of line) else None

-- a line by its words, if it may be a glance
abbrev pub heard_in : Draft → List (List ℕ) → Option (Draft × Heard)
heard_in d words =
    option_or (option_map (λ h. (d, h)) (glance_at d d.stage words))
    (option_map (λ r. (r.0, Says r.1)) (words_after d words))

-- a line: a glance, if there may be one, or a line of any script
abbrev pub heard : Bool → Draft → List ℕ → Option (Draft × Heard)
heard glances d line =
    option_or (option_map (λ h. (d, h)) (if glances then glance_of d line else None))
    (option_map (λ r. (r.0, Says r.1)) (line_says d line))

-- ---- all lines

-- what these lines say, one after another, if each is in the grammar at its place; with glances, or without
abbrev pub lines_say : Bool → Draft → List (List ℕ) → Option (List Heard)
lines_say glances d [] = Some []
lines_say glances d (line ∷ lines) =
    option_and_then (λ r. option_map (λ rest. r.1 ∷ rest) (lines_say glances r.0 lines)) (heard glances d line)

-- and where the next line stands after them
abbrev pub lines_after : Bool → Draft → List (List ℕ) → Option Draft
lines_after glances d [] = Some d
lines_after glances d (line ∷ lines) = option_and_then (λ r. lines_after glances r.0 lines) (heard glances d line)

-- the lines of a text, between line feeds
abbrev pub lines_of : List ℕ → List (List ℕ)
lines_of text = slice_split (λ byte. byte == 10) text

-- a script has 256 MiB at most
abbrev pub is_few : List ℕ → Bool
is_few text = nat_le (length text) 268435456

-- the script in a text, by what each line says, if it is one; with glances, or without
abbrev pub script_of : Bool → List ℕ → Option (List Heard)
script_of glances text = if is_few text then lines_say glances new_draft (lines_of text) else None

-- ---- what a reading function returns

-- success: the line says this, and the next draft follows; BadScript: the line isn't in the grammar; or NoMemory
abbrev pub SaysAs : Result Said Refusal → Option (Draft × Said) → Draft → Type 0
SaysAs (Ok said) next new = next ≡ Some (new, said)
SaysAs (Err BadScript) next new = next ≡ None
SaysAs (Err NoMemory) next new = ⊤
SaysAs (Err _) next new = ⊥

-- the same for a script that may have glances
abbrev pub HearsAs : Result Heard Refusal → Option (Draft × Heard) → Draft → Type 0
HearsAs (Ok said) next new = next ≡ Some (new, said)
HearsAs (Err BadScript) next new = next ≡ None
HearsAs (Err NoMemory) next new = ⊤
HearsAs (Err _) next new = ⊥
