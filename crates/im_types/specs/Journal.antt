-- The journal: a ring of slots, the run of commands in it, and the room after the run. (Own.)
use Rattle.std.specs.Prelude.{◌≡◌, ℕ, zero, suc, ◌+◌, ◌-◌, ◌*◌, ◌%◌, Bool, true, false, ◌&&◌, List, [], ◌∷◌, length}
use Rattle.std.specs.Prelude.{take, drop, if◌then◌else◌, nat_lt, nat_le, ◌==◌, Some, None, Option, option_map}
use Rattle.std.specs.Prelude.{option_and_then}
use Rattle.im_types.specs.declared.{commands.Command.Command, TheConstants.LAST, TheConstants.MAX_GROUP}
use Rattle.im_types.specs.Slot.{group_of, is_open, read_in, sequence_of}

-- where the ring begins in the file, and the number of its slots
pub record Ring : Type 0 where
  pub base : ℕ
  pub slots : ℕ

-- the command with sequence number s stands in slot s mod slots
abbrev pub slot_offset : Ring → ℕ → ℕ
slot_offset ring s = ring.base + 64 * (s % ring.slots)

-- the 64 bytes of the slot for a sequence number
unfoldable pub slot : Ring → ℕ → List ℕ → List ℕ
slot ring s file = take 64 (drop (slot_offset ring s) file)

-- the slot's gate is open, for the command with this sequence number
unfoldable pub continues : List ℕ → ℕ → Bool
continues slot s = is_open slot && (sequence_of slot == s) && nat_lt s LAST

-- one more slot, if the run continues
abbrev pub next_if : Bool → List ℕ → List (List ℕ) → List (List ℕ)
next_if true slot slots = slot ∷ slots
next_if false slot slots = []

-- The slots of the run from sequence number s on, at most n of them; the first `due` slots follow in a group that began
-- before. The slot that leads a group is in the run by its gate and its number. With it come as many slots as the group
-- counts, whatever they hold.
abbrev pub run_from : Ring → ℕ → ℕ → ℕ → List ℕ → List (List ℕ)
run_from ring zero due s file = []
run_from ring (suc n) zero s file =
    next_if (continues (slot ring s file) s) (slot ring s file)
    (run_from ring n (group_of (slot ring s file) - 1) (s + 1) file)
run_from ring (suc n) (suc due) s file = slot ring s file ∷ run_from ring n due (s + 1) file

-- the run continues at most once round the ring
abbrev pub run : Ring → ℕ → List ℕ → List (List ℕ)
run ring first file = run_from ring ring.slots 0 first file

-- a command before others, if all are spelled
abbrev pub with_first : Option Command → Option (List Command) → Option (List Command)
with_first None commands = None
with_first (Some command) commands = option_map (λ rest. command ∷ rest) commands

-- a command, if this holds
abbrev pub if_true : Bool → Option Command → Option Command
if_true true command = command
if_true false command = None

-- the slot's count is that of a group, and none of the group's commands is past the last number of all
abbrev pub leads : ℕ → List ℕ → Bool
leads s slot = nat_lt 0 (group_of slot) && nat_le (group_of slot) MAX_GROUP && nat_le (s + group_of slot) LAST

-- the command of a slot of the run, if `due` followers of a group are due
abbrev pub member : ℕ → ℕ → List ℕ → Option Command
member zero s slot = if_true (leads s slot) (read_in (group_of slot) slot)
member (suc due) s slot = if_true (sequence_of slot == s) (read_in 0 slot)

-- the number of followers that are due after the slot
abbrev pub due_after : ℕ → List ℕ → ℕ
due_after zero slot = group_of slot - 1
due_after (suc due) slot = due

-- The commands that slots spell from sequence number s on; the first `due` slots follow in a group that began before.
-- None if one of them isn't spelled as it should be, or a group isn't whole.
abbrev pub commands_in : ℕ → ℕ → List (List ℕ) → Option (List Command)
commands_in zero s [] = Some []
commands_in (suc due) s [] = None
commands_in zero s (slot ∷ slots) = with_first (member zero s slot) (commands_in (due_after zero slot) (s + 1) slots)
commands_in (suc due) s (slot ∷ slots) =
    with_first (member (suc due) s slot) (commands_in (due_after (suc due) slot) (s + 1) slots)

-- the first k slots exist and are whole groups, after the first `due` slots, which follow in a group that began before
abbrev pub is_boundary : ℕ → ℕ → List (List ℕ) → Bool
is_boundary zero zero slots = true
is_boundary (suc due) zero slots = false
is_boundary zero (suc k) [] = false
is_boundary (suc due) (suc k) [] = false
is_boundary zero (suc k) (slot ∷ slots) = is_boundary (group_of slot - 1) k slots
is_boundary (suc due) (suc k) (slot ∷ slots) = is_boundary due k slots

-- no group continues past the first k commands of the run, so the run may begin anew there
abbrev pub IsBoundary : Ring → ℕ → ℕ → List ℕ → Type 0
IsBoundary ring first k file = is_boundary 0 k (run ring first file) ≡ true

-- the number of closed gates from sequence number s on, among n of them, up to the first open one
abbrev pub closed_from : Ring → ℕ → ℕ → List ℕ → ℕ
closed_from ring zero s file = 0
closed_from ring (suc n) s file = if is_open (slot ring s file) then 0 else suc (closed_from ring n (s + 1) file)

-- each of n slots from sequence number s on belongs to a command before the first one
abbrev pub are_stale : Ring → ℕ → ℕ → ℕ → List ℕ → Bool
are_stale ring zero s first file = true
are_stale ring (suc n) s first file =
    nat_lt (sequence_of (slot ring s file)) first && are_stale ring n (s + 1) first file

-- the number of closed gates after the run, up to the first open one
abbrev pub behind : Ring → ℕ → ℕ → List ℕ → ℕ
behind ring first count file = closed_from ring (ring.slots - count) (first + count) file

-- each slot is stale from the first open gate after the run on, once round the ring
abbrev pub ends_stale : Ring → ℕ → ℕ → List ℕ → Bool
ends_stale ring first count file =
    let closed = behind ring first count file in
    are_stale ring (ring.slots - count - closed) (first + count + closed) first file

-- the room for commands: 0 at the last count of all, else the closed gates after the run
abbrev pub room_of : Ring → ℕ → ℕ → List ℕ → ℕ
room_of ring first count file = if first + count == LAST then 0 else behind ring first count file

-- the commands of the run from this sequence number on, and the room after them
pub record Tail : Type 0 where
  pub commands : List Command
  pub room : ℕ

-- a tail, if nothing after the run is at fault
abbrev pub tail_if : Bool → ℕ → List Command → Option Tail
tail_if true room commands = Some (record { commands = commands; room = room })
tail_if false room commands = None

-- the tail of the journal; None if a slot of the run isn't spelled as it should be, or one after it isn't stale
unfoldable pub tail : Ring → ℕ → List ℕ → Option Tail
tail ring first file =
    let count = length (run ring first file) in
    option_and_then (tail_if (ends_stale ring first count file) (room_of ring first count file))
    (commands_in 0 first (run ring first file))
