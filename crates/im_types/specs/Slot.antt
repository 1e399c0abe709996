-- A command in a journal slot of 64 bytes: a gate, and then the command's fields. (Own.)
use Rattle.std.specs.Prelude.{ℕ, ◌^◌, ◌<◌, Bool, List, ◌∷◌, ◌++◌, drop, if◌then◌else◌, ◌==◌, slice_index, Some, None}
use Rattle.std.specs.Prelude.{Option, option_and_then}
use Rattle.byteorder.specs.Endian.{little_bytes}
use Rattle.im_types.specs.Agreement.{address_of}
use Rattle.im_types.specs.Bytes.{FitsOp, number_at, op_code, op_value, open_gate, same_bytes, zeros}
use Rattle.im_types.specs.declared.commands.Command.{Command, TheVariants.Confirm, TheVariants.Request as Asks}
use Rattle.im_types.specs.declared.operations.{Kind.TheVariants.I, Kind.TheVariants.M, Op.Op}
use Rattle.im_types.specs.declared.operations.Op.TheVariants.{Alloc, Fetch, Put, Release, Reset, Store, Take}

-- the 63 bytes after a slot's gate
abbrev pub slot_fields : ℕ → ℕ → ℕ → ℕ → ℕ → ℕ → ℕ → List ℕ
slot_fields group code element sequence number address value =
    group ∷ code ∷ 0 ∷ little_bytes 2 element ++ zeros 2 ++ little_bytes 8 sequence ++ little_bytes 8 number
    ++ little_bytes 4 address ++ zeros 4 ++ little_bytes 8 value ++ zeros 24

-- the bytes after the gate for a command, in a group with this count, under a sequence number
abbrev pub slot_body : ℕ → ℕ → Command → List ℕ
slot_body group sequence (Asks r) =
    slot_fields group (op_code r.op) r.element sequence r.number (address_of r.op) (op_value r.op)
slot_body group sequence (Confirm element upto) = slot_fields group 8 element sequence upto 0 0

-- the operation that a code, an address and a value stand for
abbrev pub op_of : ℕ → ℕ → ℕ → Option Op
op_of code a v =
    if code == 1 then Some (Alloc I a)
    else if code == 2 then Some (Alloc M a)
    else if code == 3 then Some (Release a)
    else if code == 4 then Some (Fetch a)
    else if code == 5 then Some (Store a v)
    else if code == 6 then Some (Take a)
    else if code == 7 then Some (Put a v)
    else if code == 9 then Some (Reset a)
    else None

-- the command that the fields of a slot stand for, whatever its other bytes are
abbrev pub command_of : ℕ → ℕ → ℕ → Option Op → Option Command
command_of code element number (Some op) = Some (Asks (record { element = element; number = number; op = op }))
command_of code element number None = if code == 8 then Some (Confirm element number) else None

-- whether the gate of a slot, its first byte, is open
abbrev pub is_open : List ℕ → Bool
is_open slot = slice_index slot 0 == open_gate

-- the sequence number in a slot
unfoldable pub sequence_of : List ℕ → ℕ
sequence_of slot = number_at 8 8 slot

-- the command that the fields of a slot stand for
unfoldable pub command_in : List ℕ → Option Command
command_in slot =
    command_of (slice_index slot 2) (number_at 2 4 slot) (number_at 8 16 slot)
    (op_of (slice_index slot 2) (number_at 4 24 slot) (number_at 8 32 slot))

-- the group count in a slot: the number of its group's commands in the slot that leads the group, and 0 in a slot that
-- follows
abbrev pub group_of : List ℕ → ℕ
group_of slot = slice_index slot 1

-- the command of a slot, if the bytes after its gate spell it with this group count
abbrev pub if_spelled_in : ℕ → List ℕ → Command → Option Command
if_spelled_in group slot command =
    if same_bytes (drop 1 slot) (slot_body group (sequence_of slot) command) then Some command else None

-- the command of a slot, if it spells one with this group count
unfoldable pub read_in : ℕ → List ℕ → Option Command
read_in group slot = option_and_then (if_spelled_in group slot) (command_in slot)

-- the command of a slot, if it spells one as the only one of its group
abbrev pub read_slot : List ℕ → Option Command
read_slot slot = read_in 1 slot

-- a command's numbers fit their fields
abbrev pub FitsCommand : Command → Type 0
FitsCommand (Asks r) = (r.element < 2 ^ 16) × (r.number < 2 ^ 64) × FitsOp r.op
FitsCommand (Confirm element upto) = (element < 2 ^ 16) × (upto < 2 ^ 64)
