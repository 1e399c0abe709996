-- What a server is told of its requests, and what it saw at its glances. (Own.)
use Rattle.std.specs.Prelude.{◌≡◌, ℕ, suc, ◌+◌, ◌⊎◌, List, [], ◌∷◌, ◌++◌, map, length, Some, None, Ok, All, Option}
use Rattle.im_types.specs.Types.{Entry, Op, Line, Asks, Tells, Commands, Collect, Contents, IsLegal, value_after}
use Rattle.im_types.specs.Types.{opening, shown_by, Change}
use Rattle.im_controller.specs.{Lines.EndsIn, Lines.GoesOnTo, Lines.line_of, State.PortState}
use Rattle.im_serving.specs.declared.{glances.Glanced.Glanced, numbers.ServedNumbers.ServedNumbers}
use Rattle.im_serving.specs.declared.intent.Intent.{Intent, TheVariants.Glance, TheVariants.Request}
use mathlib.Core.List.{IsPrefix}

-- a legal trace from the memory ends in the line of this element's request with this entry as its answer
abbrev pub IsAskedIn : Contents → ℕ → ℕ → Op → Entry → Type 0
IsAskedIn memory element number op entry =
    (history : List Line) × IsLegal memory history
    × EndsIn history (line_of (Commands (Asks (record { element = element; number = number; op = op })))
    (Ok (Tells entry)))

-- ---- glances

-- An element has seen what was shown when its request with this number was answered: the full cells of the opening, and
-- the changes of a legal trace that ends in that answer. If no request was answered yet, it has seen the opening.
abbrev pub HasLearnt : Contents → ℕ → Option ℕ → List Change → Type 0
HasLearnt m element None seen = IsPrefix (opening m) seen
HasLearnt m element (Some number) seen =
    (op : Op) × (entry : Entry) × (history : List Line) × IsLegal m history
    × EndsIn history (line_of (Commands (Asks (record { element = element; number = number; op = op })))
    (Ok (Tells entry)))
    × IsPrefix (shown_by m history) seen

-- a glance tells the cell as it is after changes that the element had seen, which include all that was shown at its
-- last answer
abbrev pub IsGlanced : Contents → ℕ → Glanced → Type 0
IsGlanced m element g =
    (seen : List Change) × HasLearnt m element g.after seen × (g.value ≡ value_after g.address None seen)

-- the same of each of these glances, and the reader has seen these changes
abbrev pub AreGlanced : Contents → ℕ → Option ℕ → List Change → List Glanced → Type 0
AreGlanced m element last seen made = HasLearnt m element last seen × All (IsGlanced m element) made

-- ---- answers

-- the line of this request with this entry as its answer
abbrev pub asked_line : ℕ → ℕ → Op → Entry → Line
asked_line element number op entry =
    line_of (Commands (Asks (record { element = element; number = number; op = op }))) (Ok (Tells entry))

-- the line that finds this entry under a number
abbrev pub found_line : ℕ → ℕ → Entry → Line
found_line element number entry = line_of (Collect element number) (Ok (Tells entry))

-- these lines stand in a trace, in this order
abbrev pub StandIn : List Line → List Line → Type 0
StandIn [] trace = Unit {0}
StandIn (line ∷ lines) trace =
    (before : List Line) × (after : List Line) × (trace ≡ before ++ line ∷ after) × StandIn lines after

-- the lines of these operations under the numbers from this one on, each with its first entry
abbrev pub asked_lines : ℕ → ℕ → List Op → List Entry → List Line
asked_lines element number [] firsts = []
asked_lines element number (op ∷ ops) [] = []
asked_lines element number (op ∷ ops) (first ∷ firsts) =
    asked_line element number op first ∷ asked_lines element (suc number) ops firsts

-- of the numbers from this one on: each of the later entries is the earlier one, or was found under its number in this
-- trace
abbrev pub AreFound : List Line → ℕ → ℕ → List Entry → List Entry → Type 0
AreFound trace element number [] [] = Unit {0}
AreFound trace element number [] (entry ∷ entries) = ⊥
AreFound trace element number (first ∷ firsts) [] = ⊥
AreFound trace element number (first ∷ firsts) (entry ∷ entries) =
    ((entry ≡ first) ⊎ StandIn (found_line element number entry ∷ []) trace)
    × AreFound trace element (suc number) firsts entries

-- These operations were asked in this order, under the numbers from this one on: their lines stand so in the trace. The
-- i-th entry is the answer to the i-th of them, or what was found later under its number.
pub record HasAnswers (trace : List Line) (element number : ℕ) (ops : List Op) (entries : List Entry) : Type 0 where
  pub firsts : List Entry
  pub count : length firsts ≡ length ops
  pub asked : StandIn (asked_lines element number ops firsts) trace
  pub found : AreFound trace element number firsts entries

-- a port saw more of the trace, and each entry is as it was, or was found there
pub record Looked (trace more : List Line) (element number : ℕ) (entries later : List Entry) : Type 0 where
  pub longer : IsPrefix trace more
  pub found : AreFound more element number entries later

-- one operation more was asked, under the next number, and its entry was added
pub record HasAsked (trace more : List Line) (element number : ℕ) (op : Op) (entries later : List Entry) : Type 0 where
  pub before : List Entry
  pub entry : Entry
  pub seen : List Line
  pub looked : Looked trace seen element number entries before
  pub asked : GoesOnTo seen (asked_line element (number + length before) op entry ∷ []) more
  pub added : later ≡ before ++ entry ∷ []

-- ---- what is asked for

-- how many of these are requests
abbrev pub requests : List Intent → ℕ
requests [] = 0
requests (Request op ∷ intents) = suc (requests intents)
requests (Glance a ∷ intents) = requests intents

-- the glances among these, the first of which stands after n requests: after how many requests each stands, and its
-- address
abbrev pub sites : ℕ → List Intent → List (ℕ × ℕ)
sites n [] = []
sites n (Request op ∷ intents) = sites (suc n) intents
sites n (Glance a ∷ intents) = (n, a) ∷ sites n intents

-- the operations among these
abbrev pub ops_of : List Intent → List Op
ops_of [] = []
ops_of (Request op ∷ intents) = op ∷ ops_of intents
ops_of (Glance a ∷ intents) = ops_of intents

-- All of these were done by a port, from the first number on. There is an entry for each request, and its line stands
-- in what the port has seen of the trace. Each glance was made in its place.
pub record AreDone (port : PortState) (served : ServedNumbers) (made : List Glanced)
    (intents : List Intent) : Type 0 where
  pub count : length served.entries.items ≡ requests intents
  pub answered : HasAnswers port.history port.element served.first (ops_of intents) served.entries.items
  pub places : map (λ g. (g.behind, g.address)) made ≡ sites 0 intents

-- a prefix of these was done
abbrev pub HasBegun : PortState → ServedNumbers → List Glanced → List Intent → Type 0
HasBegun port served made intents = (done : List Intent) × IsPrefix done intents × AreDone port served made done
