-- Which requests a script asks for, and which of them were put on a disk. (Own.)
use Rattle.std.specs.Prelude.{◌≡◌, ℕ, Bool, true, false, ◌⊎◌, List, [], ◌∷◌, ◌++◌, if◌then◌else◌, slice_get, Some, None}
use Rattle.std.specs.Prelude.{Ok, Option, Result, option_map, option_and_then}
use Rattle.std.specs.Option.{option_map_or}
use Rattle.im_types.specs.Types.{Waiter, Answered, Base, Request, Command, Outcome, Asks, Confirm, Tells, Refusal}
use Rattle.im_types.specs.Types.{Contents, next_number, step, after}
use Rattle.{im_asks.specs.Windows.IsDue, im_script.specs.Places.action_op}
use Rattle.im_script.specs.declared.{Action.Action, Action.TheVariants.Alloc, Said.Said}
use Rattle.im_script.specs.declared.Heard.{Heard, TheVariants.Glances, TheVariants.Says}
use Rattle.im_script.specs.declared.Said.TheVariants.{Asks as Line, Begins, Block, Nothing}
use Rattle.im_script.specs.Script.{Draft, heard, lines_of, new_draft}

-- ---- what a script asks for

-- a request of a script: who asks, what for, and whether it makes a block of the setup, which has a name
pub record Wanted : Type 0 where
  pub element : ℕ
  pub action : Action
  pub named : Bool

-- what a line asks for; element 0 asks for the blocks of the setup
abbrev pub wanted_by : Said → List Wanted
wanted_by Nothing = []
wanted_by (Block b) = record { element = 0; action = Alloc b.kind b.length; named = true } ∷ []
wanted_by (Begins k) = []
wanted_by (Line l) = record { element = l.element; action = l.action; named = false } ∷ []

-- what a line says of requests: a glance asks for none
abbrev pub said_by : Heard → Said
said_by (Says said) = said
said_by (Glances element place) = Nothing

-- the same of a line at its place
abbrev pub said_at : Draft → List ℕ → Option (Draft × Said)
said_at d line = option_map (λ r. (r.0, said_by r.1)) (heard true d line)

-- what these lines ask for, in their order, up to the first one that isn't in the grammar
abbrev pub wanted_in : Draft → List (List ℕ) → List Wanted
wanted_in d [] = []
wanted_in d (line ∷ lines) = option_map_or (λ r. wanted_by r.1 ++ wanted_in r.0 lines) (said_at d line) []

-- what a script asks for
abbrev pub wanted_of : List ℕ → List Wanted
wanted_of text = wanted_in new_draft (lines_of text)

-- ---- which commands these requests are

-- the request in this memory: it has its element's next number, and the bases stand for the names
abbrev pub request_in : Contents → List ℕ → Wanted → Option Request
request_in m bases w = option_and_then (λ window. option_map (λ op. record {
  element = w.element;
  number = next_number window;
  op = op;
}) (action_op bases w.action)) (slice_get m.windows w.element)

-- the base in an answer
abbrev pub base_told : Result Outcome Refusal → Option (List ℕ)
base_told (Ok (Tells (Answered (Base base)))) = Some (base ∷ [])
base_told answer = None

-- the bases that an answer adds: one for a block with a name. Without it the script can't go on.
abbrev pub bases_by : Wanted → Result Outcome Refusal → Option (List ℕ)
bases_by w answer = if w.named then base_told answer else Some []

-- These commands are, confirmations aside, the first of these requests, in their order, and the others are left. If a
-- block with a name isn't made, its request is left too, and nothing comes after it.
abbrev pub Leads : Contents → List ℕ → List Wanted → List Command → List Wanted → Type 0
Leads m bases wanted [] left = wanted ≡ left
Leads m bases wanted (Confirm element upto ∷ put) left = Leads (step m (Confirm element upto)).contents bases wanted
    put left
Leads m bases [] (Asks r ∷ put) left = ⊥
Leads m bases (w ∷ wanted) (Asks r ∷ put) left = (request_in m bases w ≡ Some r)
    × (((more : List ℕ) × ((bases_by w (step m (Asks r)).answer ≡ Some more) × Leads (step m (Asks r)).contents (bases
    ++ more) wanted put left))
    ⊎ ((bases_by w (step m (Asks r)).answer ≡ None) × ((put ≡ []) × (left ≡ w ∷ wanted))))

-- The commands that were put are, confirmations aside, the first of these requests, in their order, with these bases at
-- first. If the status is 0, they are all of them.
pub record IsAsked (m : Contents) (bases : List ℕ) (wanted : List Wanted) (put : List Command)
    (status : ℕ) : Type 0 where
  pub left : List Wanted
  pub leads : Leads m bases wanted put left
  pub all : status ≡ 0 → left ≡ []

-- the bases that the names stand for after these commands, which are the first of these requests, and confirmations:
-- those at first, and the base in the answer to each block with a name
abbrev pub bases_after : Contents → List ℕ → List Wanted → List Command → List ℕ
bases_after m bases wanted [] = bases
bases_after m bases wanted (Confirm element upto ∷ put) =
    bases_after (step m (Confirm element upto)).contents bases wanted put
bases_after m bases [] (Asks r ∷ put) = bases
bases_after m bases (w ∷ wanted) (Asks r ∷ put) = bases_after (step m (Asks r)).contents
    (bases ++ option_map_or (λ more. more) (bases_by w (step m (Asks r)).answer) []) wanted put

-- Each confirmation among these commands is of a full window in its turn: of its entries up to the first that isn't
-- answered, and there is one.
abbrev pub AreDue : Contents → List Command → Type 0
AreDue m [] = Unit {0}
AreDue m (Confirm element upto ∷ put) =
    IsDue m element upto × AreDue (step m (Confirm element upto)).contents put
AreDue m (Asks r ∷ put) = AreDue (step m (Asks r)).contents put

-- ---- where a script stands

-- what a script had to do when it began: the bases that were known, its requests, and those that waited already
pub record Course : Type 0 where
  pub first : List ℕ
  pub wanted : List Wanted
  pub earlier : List Waiter

-- the course of a script of which nothing was done before
abbrev pub whole_course : List Wanted → Course
whole_course wanted = record { first = []; wanted = wanted; earlier = [] }

-- those that waited before it, if there is a script
abbrev pub earlier_in : Option Course → List Waiter
earlier_in None = []
earlier_in (Some c) = c.earlier

-- the course of the script, if there is one; the bases of the blocks that have names so far; and the requests that are
-- left
pub record Standing : Type 0 where
  pub script : Option Course
  pub bases : List ℕ
  pub left : List Wanted

-- a standing of these
abbrev pub standing : Option Course → List ℕ → List Wanted → Standing
standing script bases left = record { script = script; bases = bases; left = left }

-- the commands are the first requests of the script, if there is one, and these are left
abbrev pub LeadsIf : Contents → Option Course → List Command → List Wanted → Type 0
LeadsIf m None put left = Unit {0}
LeadsIf m (Some c) put left = Leads m c.first c.wanted put left

-- after these commands the script stands there: what comes of the rest comes of all
abbrev pub HasReached : Contents → Standing → List Command → Type 0
HasReached m s put = (more : List Command) (last : List Wanted) → Leads (after m put) s.bases s.left more last →
    LeadsIf m s.script (put ++ more) last

-- if there is a script, its names stand for these bases after these commands
abbrev pub NamesIf : Contents → Option Course → List Command → List ℕ → Type 0
NamesIf m None put bases = Unit {0}
NamesIf m (Some c) put bases = bases_after m c.first c.wanted put ≡ bases

-- the names of the script stand for the bases of its standing: so whatever comes of the rest
abbrev pub HasNamed : Contents → Standing → List Command → Type 0
HasNamed m s put = (more : List Command)
    → NamesIf m s.script (put ++ more) (bases_after (after m put) s.bases s.left more)
