-- The meaning of an image: the memory of the area in force, after the run of commands in the journal. (Own.)
use Rattle.std.specs.Prelude.{◌≡◌, ℕ, ◌+◌, ◌≤◌, Bool, true, false, ◌&&◌, ◌||◌, ◌⊎◌, List, [], ◌∷◌, length}
use Rattle.std.specs.Prelude.{if◌then◌else◌, MatchOption, Some, None, Ok, Err, Option, Result}
use Rattle.std.specs.List.{list_all}
use Rattle.im_types.specs.{Contents.Contents, Journal.Tail, Journal.tail, Pages.Shows, Records.has_room_for}
use Rattle.im_types.specs.declared.{commands.Command.Command, refusals.Refusal.Refusal}
use Rattle.im_types.specs.declared.refusals.Refusal.TheVariants.{BadPage, BadRecord, OldVersion}
use Rattle.im_types.specs.Header.{header_fault, header_of, is_old, layout_in}
use Rattle.im_types.specs.Layout.{area_of, Layout, layout_in_use, ring_of}
use Rattle.im_types.specs.Step.{is_accepted, step}

-- the state that an image reaches: the memory, the count of all its commands, and the room for more
pub record Reached : Type 0 where
  pub contents : Contents
  pub count : ℕ
  pub room : ℕ

-- whether a memory can stand in an image of a layout
abbrev pub can_stand : Layout → Contents → Bool
can_stand l m = l.resets || list_all (has_room_for l) m.windows

-- the memory after commands, if each is accepted in its turn and each memory on the way can stand in the layout; else
-- None
abbrev pub accept_in : Layout → Contents → List Command → Option Contents
accept_in l m [] = Some m
accept_in l m (command ∷ commands) =
    if can_stand l (step m command).contents && is_accepted m command
    then accept_in l (step m command).contents commands else None

-- the same in the layout in use, where each memory can stand
abbrev pub accept_each : Contents → List Command → Option Contents
accept_each = accept_in layout_in_use

-- the state with this memory, this count and this room, if there is a memory
abbrev pub reached_by : ℕ → ℕ → Option Contents → Result Reached Refusal
reached_by count room None = Err BadRecord
reached_by count room (Some m) = Ok (record { contents = m; count = count; room = room })

-- the state that a memory reaches through the rest of the journal
abbrev pub reached_after : Layout → ℕ → Contents → Option Tail → Result Reached Refusal
reached_after l count m None = Err BadRecord
reached_after l count m (Some t) = reached_by (count + length t.commands) t.room (accept_in l m t.commands)

-- the state of the area in force, after the journal's run
abbrev pub read_journal : Layout → List ℕ → Contents → Result Reached Refusal
read_journal l file m = let h = header_of file in reached_after l h.count m (tail (ring_of l h.sizes) h.count file)

-- the pages of the area in force show a memory
abbrev pub IsShown : Layout → List ℕ → Contents → Type 0
IsShown l file m = let h = header_of file in Shows l h.sizes (area_of l h.sizes h.area file) m

-- the outcome of reading an image: the state that it reaches, or the first fault of its headers, of the pages in force,
-- and of the journal
abbrev pub Reads : Layout → List ℕ → Result Reached Refusal → Type 0
Reads l file outcome = MatchOption (header_fault l file)
    (((m : Contents) × IsShown l file m × (outcome ≡ read_journal l file m))
    ⊎ (((m : Contents) → IsShown l file m → ⊥) × (outcome ≡ Err BadPage)))
    (λ fault. outcome ≡ Err fault)

-- the outcome of opening an image: an old one is refused, and another one is read
abbrev pub OpensBy : Bool → List ℕ → Result Reached Refusal → Type 0
OpensBy true file outcome = outcome ≡ Err OldVersion
OpensBy false file outcome = Reads (layout_in file) file outcome

-- the outcome of opening an image
abbrev pub Opens : List ℕ → Result Reached Refusal → Type 0
Opens file outcome = OpensBy (is_old file) file outcome

-- an image of the layout in use means this memory after `count` commands, with room for at least `room` more
abbrev pub Means : Contents → ℕ → ℕ → List ℕ → Type 0
Means m count room file =
    (there : ℕ) × (room ≤ there) × Reads layout_in_use file (Ok (record { contents = m; count = count; room = there }))
