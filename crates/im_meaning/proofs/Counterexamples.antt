-- No law of images and journals says more than it does: each one with a premise less fails at bytes that are written out here.
-- And a reading that may stop early, or tell any fault, would give one file two meanings.
use Rattle.std.proofs.Common.{◌≡◌, ℕ, zero, suc, ◌+◌, ◌-◌, ◌<◌, ◌≤◌, false, ◌⊎◌, List, [], ◌∷◌, ◌++◌, length, take}
use Rattle.std.proofs.Common.{drop, nat_lt, ◌==◌, Some, None, Ok, Err, Option, Result, refl, ap, inl, inr, arith}
use Rattle.std.proofs.lemmas.Bool.Decides.{nat_tests}
use Rattle.im_types.specs.Types.{I, Alloc, Command, Asks, Refusal, WrongLength, NoHeader, number_of, LAST, Contents}
use Rattle.im_types.specs.Types.{empty_contents, layout_2, image_length, zeros, header_place, is_open_header, header_of}
use Rattle.im_types.specs.Types.{slot_body, sequence_of, command_in, read_in, Ring, room_of, Tail, slot, continues}
use Rattle.im_types.specs.Types.{tail, Reached, reached_after, Reads}
use Rattle.im_types.proofs.Tests.{differ}

-- a number that isn't below another one
reaches : (a b : ℕ) → nat_lt a b ≡ false → a < b → ⊥
reaches a b from below = grind (arith, nat_tests)

-- a ring of two slots, and slots: one that is open for a command with this sequence number, a closed one of that number, and one that is empty
abbrev two_slots : Ring
two_slots = record { base = 0; slots = 2 }

abbrev alloc : Command
alloc = Asks (record { element = 0; number = 1; op = Alloc I 1 })

abbrev open_slot : ℕ → List ℕ
open_slot sequence = 0xA5 ∷ slot_body 1 sequence alloc

abbrev closed_slot : ℕ → List ℕ
closed_slot sequence = 0 ∷ slot_body 1 sequence alloc

-- a journal of one command, with room for another one
abbrev one_command : List ℕ
one_command = open_slot 0 ++ zeros 64

-- and of two
abbrev two_commands : List ℕ
two_commands = open_slot 0 ++ open_slot 1

abbrev room_in : Option Tail → ℕ
room_in None = 99
room_in (Some end) = end.room

abbrev many_in : Option Tail → ℕ
many_in None = 99
many_in (Some end) = length end.commands

-- `tails_may_begin_later`: one command behind the run's end the room is another one, as the slot there is open.
a_tail_begins_not_behind_the_run :
    ((r : Ring) (first k : ℕ) (c : List ℕ) (commands : List Command) (room : ℕ) → tail r first c
    ≡ Some (record { commands = commands; room = room })
    → k ≤ length commands + 1 → tail r (first + k) c ≡ Some (record { commands = drop k commands; room = room })) → ⊥
unfolding tail slot continues read_in command_in sequence_of
a_tail_begins_not_behind_the_run law = differ 0 1 refl
    (ap room_in (law two_slots 0 2 one_command (alloc ∷ []) 1 refl (omega arith)))

-- `stale_gates_may_be_closed`: where the gate behind the run is opened for the next command, the run is longer.
not_each_gate_may_be_written :
    ((r : Ring) (first : ℕ) (c d : List ℕ) (commands : List Command) (room : ℕ) → tail r first c
    ≡ Some (record { commands = commands; room = room })
    → ((i : ℕ) → i < length commands → slot r (first + i) d ≡ slot r (first + i) c)
    → tail r first d ≡ Some (record { commands = commands; room = room_of r first (length commands) d })) → ⊥
unfolding tail slot continues read_in command_in sequence_of
not_each_gate_may_be_written law = differ 2 1 refl
    (ap many_in (law two_slots 0 one_command two_commands (alloc ∷ []) 1 refl same))
  where
    same : (i : ℕ) → i < 1 → slot two_slots (0 + i) two_commands ≡ slot two_slots (0 + i) one_command
    same zero below = refl
    same (suc i) below = absurd (omega (arith, below))

-- `slots_behind_the_room_are_stale`: in the room a closed slot may have the number of a command that is in the run.
slots_in_the_room_need_not_be_stale :
    ((r : Ring) (first : ℕ) (c : List ℕ) (commands : List Command) (room : ℕ) → tail r first c
    ≡ Some (record { commands = commands; room = room })
    → first + length commands < LAST → (k : ℕ) → k < r.slots - length commands
    → sequence_of (slot r (first + length commands + k) c) < first) → ⊥
unfolding tail slot continues read_in command_in sequence_of
slots_in_the_room_need_not_be_stale law =
    reaches 16 16 refl (law two_slots 16 (open_slot 16 ++ closed_slot 16) (alloc ∷ []) 1 refl (omega arith) 0
    (omega arith))

-- ---- readings that give one file two meanings

-- what a journal comes to, if its run may be stopped at any command
abbrev MayReach : Ring → Contents → List ℕ → Result Reached Refusal → Type 0
MayReach r m file outcome =
    (k : ℕ) × (end : Tail) × (tail r 0 file ≡ Some end)
    × (outcome ≡ reached_after layout_2 0 m (Some (record { commands = take k end.commands; room = end.room })))

abbrev count_in : Result Reached Refusal → ℕ
count_in (Ok reached) = reached.count
count_in (Err refusal) = 99

-- A run that may be stopped at any command gives a journal of one command two meanings: no command, and one. The right reading is a
-- function of the journal, `reached_after`, and goes on to the run's end.
a_run_that_may_stop_early_has_two_meanings :
    ((r : Ring) (m : Contents) (file : List ℕ) (one other : Result Reached Refusal)
    → MayReach r m file one → MayReach r m file other → one ≡ other) → ⊥
unfolding empty_contents tail slot continues read_in command_in sequence_of
a_run_that_may_stop_early_has_two_meanings law =
    differ 0 1 refl (ap count_in (law two_slots (empty_contents 1 1) one_command _ _
    (0, record { commands = alloc ∷ []; room = 1 }, refl, refl)
    (1, record { commands = alloc ∷ []; room = 1 }, refl, refl)))

the_whole_run_is_read : count_in (reached_after layout_2 0 (empty_contents 1 1) (tail two_slots 0 one_command)) ≡ 1
unfolding empty_contents tail slot continues read_in command_in sequence_of
the_whole_run_is_read = refl

-- a fault of a file's length or of its headers, whichever is looked for first
abbrev HasFault : List ℕ → Refusal → Type 0
HasFault file fault =
    (((length file == image_length layout_2 (header_of file).sizes) ≡ false) × (fault ≡ WrongLength))
    ⊎ ((is_open_header (header_place 0 file) ≡ false) × (is_open_header (header_place 1 file) ≡ false)
    × (fault ≡ NoHeader))

-- A reading that tells any fault, and not the first one, gives an empty file two: its length is wrong, and it has no header.
any_fault_is_two_meanings :
    ((file : List ℕ) (one other : Refusal) → HasFault file one → HasFault file other → one ≡ other) → ⊥
any_fault_is_two_meanings law =
    differ 12 13 refl (ap number_of (law [] WrongLength NoHeader (inl (refl, refl)) (inr (refl, refl, refl))))

-- The right reading tells the first: the length.
the_first_fault_is_the_length : (outcome : Result Reached Refusal) → Reads layout_2 [] outcome → outcome
    ≡ Err WrongLength
the_first_fault_is_the_length outcome reads = reads
