-- What becomes of elements that are all served at once. (Own.)
use Rattle.std.specs.Prelude.{◌≡◌, ℕ, ◌+◌, ◌≤◌, Bool, true, List, [], ◌∷◌, length, OnOk, Err, Option, Result}
use Rattle.im_types.specs.Types.{Line, Refusal, NoMemory, Contents, Change}
use Rattle.{im_pipes.specs.Ends.PipeEnd, im_pipes.specs.Ends.PipeId, im_controller.specs.State.PortState}
use Rattle.im_serving.specs.{Calls.MakesOwn, declared.glances.Glanced.Glanced, declared.glances.Glances.Glances}
use Rattle.im_serving.specs.declared.{intent.Intent.Intent, numbers.ServedNumbers.ServedNumbers}
use Rattle.im_serving.specs.Serving.{AreDone, AreGlanced, HasBegun, ops_of}
use mathlib.Core.List.{IsPrefix}

-- what was done for an element: its port with what it has seen of the trace, its numbers and entries, the number of the
-- last request that was answered, what the element has seen, and its glances
pub record Deeds : Type 0 where
  pub port : PortState
  pub served : ServedNumbers
  pub last : Option ℕ
  pub seen : List Change
  pub made : List Glanced

-- what was done for an element with this port, these numbers and this reader
abbrev pub deeds_of : {K : Type 0} → PortState → ServedNumbers → Glances K → Deeds
deeds_of port served glances = record {
  port = port;
  served = served;
  last = glances.last;
  seen = glances.glance;
  made = glances.made.items;
}

-- If the glances of a reader tell what the element had seen, those that were made since do so too.
abbrev pub StayGlanced : {K : Type 0} → Contents → ℕ → Glances K → Glances K → Type 0
StayGlanced m element glances later =
    AreGlanced m element glances.last glances.glance glances.made.items
    → AreGlanced m element later.last later.glance later.made.items

-- a part as contracts see it: what was done for its element before, and what it asks for
pub record Asked : Type 0 where
  pub deeds : Deeds
  pub intents : List Intent

-- how a part has ended: what was done for its element, and the refusal, if there is one
pub record End : Type 0 where
  pub deeds : Deeds
  pub result : Result (Unit {0}) Refusal

-- A server came from the first deeds to the second, while it received what a pipe gave out. If nothing was refused, it
-- received the end mark, and did all that it received, in order; else it did a prefix of it. For each thing done there
-- is an entry or a glance more, and for what was refused at most one. Each glance tells what the element had seen. Its
-- port made only calls of a server that is to ask for what was received.
pub record ServesOn (m : Contents) (marks : Line → Bool) (p q : Deeds) (result : Result (Unit {0}) Refusal)
    (was is : PipeEnd Intent) : Type 0 where
  pub element : q.port.element ≡ p.port.element
  pub first : q.served.first ≡ p.served.first
  pub pipe : is.pipe ≡ was.pipe
  pub ended : OnOk result (is.ended ≡ true)
  pub begun : AreDone p.port p.served p.made was.items → HasBegun q.port q.served q.made is.items
  pub done : OnOk result (AreDone p.port p.served p.made was.items → AreDone q.port q.served q.made is.items)
  pub count : OnOk result (length q.served.entries.items + length q.made + length was.items
      ≡ length p.served.entries.items + length p.made + length is.items)
  pub few : length q.served.entries.items + length q.made + length was.items
      ≤ length p.served.entries.items + length p.made + length is.items
  pub seen : AreGlanced m p.port.element p.last p.seen p.made → AreGlanced m p.port.element q.last q.seen q.made
  pub alone : AreDone p.port p.served p.made was.items
      → MakesOwn marks p.served q.served (ops_of is.items) p.port q.port

-- A server came from the first deeds to the second, given what was asked for. It did all of it, in order, if nothing
-- was refused, and else a prefix of it. Each glance tells what the element had seen. Its port made only calls of a
-- server that is to ask for that. What was done is counted from the start, so nothing was done before.
pub record ServesIntents (m : Contents) (marks : Line → Bool) (p q : Deeds) (result : Result (Unit {0}) Refusal)
    (intents : List Intent) : Type 0 where
  pub element : q.port.element ≡ p.port.element
  pub first : q.served.first ≡ p.served.first
  pub begun : AreDone p.port p.served p.made [] → HasBegun q.port q.served q.made intents
  pub done : OnOk result (AreDone p.port p.served p.made [] → AreDone q.port q.served q.made intents)
  pub seen : AreGlanced m p.port.element p.last p.seen p.made → AreGlanced m p.port.element q.last q.seen q.made
  pub alone : AreDone p.port p.served p.made []
      → MakesOwn marks p.served q.served (ops_of intents) p.port q.port

-- a part has ended so, given what it asks for
abbrev pub IsEnded : Contents → (Line → Bool) → Asked → End → Type 0
IsEnded m marks p d = ServesIntents m marks p.deeds d.deeds d.result p.intents

-- the same of each of these, in order
abbrev pub AreEnded : Contents → (Line → Bool) → List Asked → List End → Type 0
AreEnded m marks [] [] = Unit {0}
AreEnded m marks [] (d ∷ ends) = ⊥
AreEnded m marks (p ∷ parts) [] = ⊥
AreEnded m marks (p ∷ parts) (d ∷ ends) = IsEnded m marks p d × AreEnded m marks parts ends

-- nothing was done, for want of memory or of a thread
abbrev pub IsUnserved : Contents → (Line → Bool) → Deeds → End → Type 0
IsUnserved m marks p d = ServesIntents m marks p d.deeds d.result [] × (d.result ≡ Err NoMemory)

-- a server did what it received; if nothing was refused, it received the end mark
abbrev pub HasStopped : Contents → (Line → Bool) → Deeds → End → PipeEnd Intent → Type 0
HasStopped m marks p d outlet =
    ServesIntents m marks p d.deeds d.result outlet.items × OnOk d.result (outlet.ended ≡ true)

-- what was sent into a pipe is a prefix of what is asked for, and all of it if nothing was handed back
abbrev pub HasSent : PipeId Intent → List Intent → PipeEnd Intent → Bool → Type 0
HasSent pipe intents finished all =
    (finished.pipe ≡ pipe) × IsPrefix finished.items intents × (all ≡ true → finished.items ≡ intents)
