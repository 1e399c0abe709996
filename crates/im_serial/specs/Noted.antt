-- The requests that had to wait: what is noted of each until it is dropped, and at last. (Own.)
use Rattle.std.specs.Prelude.{◌≡◌, ℕ, ◌+◌, ◌*◌, ◌%◌, ◌<◌, ◌&&◌, ◌⊎◌, List, [], ◌∷◌, ◌++◌, length, if◌then◌else◌, ◌==◌}
use Rattle.std.specs.Prelude.{slice_get, MatchResult, Some, Option, Result, option_map}
use Rattle.im_types.specs.Types.{Entry, Waiter, Kept, Waiting, Answered, Command, WINDOW, Contents, kept_for, IsMemory}
use Rattle.im_types.specs.Types.{after, last_entry}
use Rattle.{im_laws.specs.Windows.IsForgotten, im_text.specs.declared.Waited.Waited, im_text.specs.Said.who_of}
use Rattle.im_serial.specs.declared.waits.Mark.{Mark, TheVariants.Earlier, TheVariants.Here, TheVariants.Nobody}

-- ---- at last

-- Each of these requests is noted with its entry after these commands, or with the one that it had when it was dropped.
abbrev pub AreLast : Contents → List Command → List Waited → Type 0
AreLast m put waited = (at : ℕ) (w : Waited) → slice_get waited at ≡ Some w → last_entry m put (who_of w) ≡ Some w.entry

-- ---- until then

-- each of them was dropped, and its last entry is noted; or it is kept
abbrev pub AreKnown : Contents → List Command → List Waited → Type 0
AreKnown m put waited = (at : ℕ) (w : Waited) → slice_get waited at ≡ Some w
    → (IsForgotten (after m put).windows (who_of w) × (last_entry m put (who_of w)
    ≡ Some w.entry)) ⊎ ((k : Kept) × (kept_for (after m put).windows (who_of w) ≡ Some k))

-- the place of a request's mark
abbrev pub mark_place : Waiter → ℕ
mark_place who = who.element * WINDOW + who.number % WINDOW

-- it is a request of this element, with a number below that one
abbrev pub IsToDrop : ℕ → ℕ → Waiter → Type 0
IsToDrop element upto who = (who.element ≡ element) × (who.number < upto)

-- What is noted of a kept request, the one at this index. Its entry is noted if it is one of those that are dropped
-- next; else its mark says the index.
pub record IsMarked (m : Contents) (element upto : ℕ) (marks : List Mark) (at : ℕ) (w : Waited) : Type 0 where
  pub kept : Kept
  pub kept_is : kept_for m.windows (who_of w) ≡ Some kept
  pub learnt : IsToDrop element upto (who_of w) → w.entry ≡ kept.entry
  pub marked : (IsToDrop element upto (who_of w) → ⊥) → slice_get marks (mark_place (who_of w)) ≡ Some (Here at)

-- Each of them was dropped, and its last entry is noted; or it's kept, and marked.
abbrev pub AreNoted : Contents → List Command → ℕ → ℕ → List Mark → List Waited → Type 0
AreNoted m put element upto marks waited = (at : ℕ) (w : Waited) → slice_get waited at ≡ Some w
    → (IsForgotten (after m put).windows (who_of w) × (last_entry m put (who_of w)
    ≡ Some w.entry)) ⊎ IsMarked (after m put) element upto marks at w

-- the entries of the first ones are noted, and the others are known
pub record IsLearnt (m : Contents) (put : List Command) (upto : ℕ) (waited : List Waited) : Type 0 where
  pub known : AreKnown m put waited
  pub last : (at : ℕ) (w : Waited) → at < upto → slice_get waited at ≡ Some w → last_entry m put (who_of w)
      ≡ Some w.entry

-- what is noted is right before and after entries of this element, from the first number on, are learnt on this memory
abbrev pub Learns : Contents → ℕ → ℕ → ℕ → List Mark → List Waited → List Mark → List Waited → Type 0
Learns now element from upto marks waited later learned = (m : Contents) (put : List Command) → now ≡ after m put
    → IsMemory (length m.cells) (length m.windows) m → AreNoted m put element from marks waited
    → AreNoted m put element upto later learned

-- ---- one of them

-- a request with this entry in the place of its own, if it is the one that is meant
abbrev pub with_entry : Waiter → Entry → Waited → Waited
with_entry who entry w = if (w.element == who.element) && (w.number == who.number) then record {
  element = w.element;
  number = w.number;
  entry = entry;
} else w

-- what stands at index i after the one at an index was given this entry, if it is the one that is meant
abbrev pub entered : ℕ → Waiter → Entry → ℕ → Option Waited → Option Waited
entered at who entry i found = if i == at then option_map (with_entry who entry) found else found

-- the same by a mark
abbrev pub noted_by : Mark → Waiter → Entry → ℕ → Option Waited → Option Waited
noted_by Nobody who entry i found = found
noted_by Earlier who entry i found = found
noted_by (Here at) who entry i found = entered at who entry i found

-- the note of a request, if it has to wait
abbrev pub noted_if : Waiter → Entry → List Waited
noted_if who Waiting = record { element = who.element; number = who.number; entry = Waiting } ∷ []
noted_if who (Answered reply) = []

-- these are noted more, or at an error none
abbrev pub NotesMore : {T E : Type 0} → Result T E → List Waited → List Waited → List Waited → Type 0
NotesMore result old new more = MatchResult result (λ _. new ≡ old ++ more) (λ _. new ≡ old)

-- if a request is kept and waits, its mark says this index
abbrev pub MarksWaiting : Contents → Waiter → List Mark → ℕ → Type 0
MarksWaiting m who marks at = (k : Kept) → kept_for m.windows who ≡ Some k → k.entry ≡ Waiting
    → slice_get marks (mark_place who) ≡ Some (Here at)

-- ---- the notes of a server

-- the requests that had to wait, the marks, and which entries are to be dropped next: those of this element below that
-- number
pub record Notes : Type 0 where
  pub waited : List Waited
  pub marks : List Mark
  pub element : ℕ
  pub upto : ℕ

-- notes while no entry is to be dropped
abbrev pub notes : List Waited → List Mark → Notes
notes waited marks = record { waited = waited; marks = marks; element = 0; upto = 0 }

-- notes in which the entries of this element below that number were learnt
abbrev pub learnt : List Waited → List Mark → ℕ → ℕ → Notes
learnt waited marks element upto = record { waited = waited; marks = marks; element = element; upto = upto }
