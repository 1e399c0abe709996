-- Worked bytes, computed by the definitions alone.
use Rattle.std.proofs.Common.{◌≡◌, ℕ, ◌-◌, true, false, List, [], ◌∷◌, ◌++◌, Some, None, refl}
use Rattle.im_types.specs.Types.{I, Alloc, Reset, Store, Command, Asks, Confirm, layout_1, layout_2, Sizes, area_pages}
use Rattle.im_types.specs.Types.{journal_at, image_length, zeros, header_body, slot_body, read_slot, sequence_of}
use Rattle.im_types.specs.Types.{command_in, read_in, Ring, run, is_boundary, slot, continues, tail}

abbrev sizes : ℕ → ℕ → ℕ → Sizes
sizes cells elements slots = record { cells = cells; elements = elements; slots = slots }

-- the least image, the default elements with few and with the default slots, and the largest image
pages : area_pages layout_1 (sizes 1 1 16) ∷ area_pages layout_1 (sizes 4096 16 16) ∷ area_pages layout_1
    (sizes 65536 64 4096) ∷ [] ≡ 3 ∷ 37 ∷ 532 ∷ []
pages = refl

journals : journal_at layout_1 (sizes 1 1 16) ∷ journal_at layout_1 (sizes 4096 16 256) ∷ journal_at layout_1
    (sizes 65536 64 4096) ∷ [] ≡ 32768 ∷ 311296 ∷ 4366336 ∷ []
journals = refl

lengths : image_length layout_1 (sizes 1 1 16) ∷ image_length layout_1 (sizes 4096 16 16) ∷ image_length layout_1
    (sizes 4096 16 256) ∷ image_length layout_1 (sizes 65536 64 4096) ∷ [] ≡ 33792 ∷ 312320 ∷ 327680 ∷ 4628480 ∷ []
lengths = refl

-- in the second version: the default image, that of 65,536 cells, and the largest
pages_of_two : area_pages layout_2 (sizes 4096 16 256) ∷ area_pages layout_2
    (sizes 65536 64 4096) ∷ area_pages layout_2 (sizes 1048576 64 4096) ∷ [] ≡ 52 ∷ 592 ∷ 8272 ∷ []
pages_of_two = refl

journals_of_two : journal_at layout_2 (sizes 4096 16 256) ∷ journal_at layout_2 (sizes 4096 16 16) ∷ []
    ≡ 434176 ∷ 434176 ∷ []
journals_of_two = refl

lengths_of_two : image_length layout_2 (sizes 4096 16 256) ∷ image_length layout_2 (sizes 65536 64 4096) ∷ []
    ≡ 450560 ∷ 5120000 ∷ []
lengths_of_two = refl

-- the header of a new default image
new_header : 0xA5 ∷ header_body (record { version = 2; area = 0; generation = 1; count = 0; sizes = sizes 4096 16 256 })
    ≡ 0xA5 ∷ 0 ∷ 2 ∷ 0 ∷ 0x49 ∷ 0x4D ∷ 0x45 ∷ 0x4D ∷ 1 ∷ zeros 7 ++ zeros 8 ++ 0 ∷ 0x10 ∷ 0 ∷ 0 ∷ 0x10 ∷ 0 ∷ 0 ∷ 0 ∷ 0 ∷ 1 ∷ zeros 6 ++ zeros 24
new_header = refl

abbrev alloc_two : Command
alloc_two = Asks (record { element = 0; number = 1; op = Alloc I 2 })

abbrev store_42 : Command
store_42 = Asks (record { element = 2; number = 1; op = Store 0 42 })

slot_of_alloc : 0xA5 ∷ slot_body 1 0 alloc_two
    ≡ 0xA5 ∷ 1 ∷ 1 ∷ 0 ∷ 0 ∷ 0 ∷ 0 ∷ 0 ∷ zeros 8 ++ 1 ∷ zeros 7 ++ 2 ∷ zeros 7 ++ zeros 32
slot_of_alloc = refl

slot_of_store : 0xA5 ∷ slot_body 1 2 store_42
    ≡ 0xA5 ∷ 1 ∷ 5 ∷ 0 ∷ 2 ∷ 0 ∷ 0 ∷ 0 ∷ 2 ∷ zeros 7 ++ 1 ∷ zeros 7 ++ zeros 8 ++ 0x2A ∷ zeros 7 ++ zeros 24
slot_of_store = refl

-- a confirmation has code 8, and neither address nor value
slot_of_confirmation : slot_body 1 16 (Confirm 1 17)
    ≡ 1 ∷ 8 ∷ 0 ∷ 1 ∷ 0 ∷ 0 ∷ 0 ∷ 16 ∷ zeros 7 ++ 17 ∷ zeros 7 ++ zeros 40
slot_of_confirmation = refl

-- a reset has code 9
slot_of_reset : 0xA5 ∷ slot_body 1 3 (Asks (record { element = 0; number = 2; op = Reset 0 }))
    ≡ 0xA5 ∷ 1 ∷ 9 ∷ zeros 5 ++ 3 ∷ zeros 7 ++ 2 ∷ zeros 7 ++ zeros 40
slot_of_reset = refl

store_reads_back : read_slot (0xA5 ∷ slot_body 1 2 store_42) ≡ Some store_42
unfolding read_in command_in sequence_of
store_reads_back = refl

-- a value behind an operation that has none
stray_value : read_slot (0xA5 ∷ 1 ∷ 4 ∷ 0 ∷ 2 ∷ zeros 3 ++ zeros 8 ++ 1 ∷ zeros 7 ++ zeros 8 ++ 7 ∷ zeros 31) ≡ None
unfolding read_in command_in sequence_of
stray_value = refl

-- a code past the last
stray_code : read_slot (0xA5 ∷ 1 ∷ 10 ∷ 0 ∷ 2 ∷ zeros 3 ++ zeros 8 ++ 1 ∷ zeros 47) ≡ None
unfolding read_in command_in sequence_of
stray_code = refl

abbrev small : Ring
small = record { base = 0; slots = 2 }

-- two slots from sequence number 16 on: the run is the first, and behind it is a stale one
run_of_one : tail small 16 ((0xA5 ∷ slot_body 1 16 alloc_two) ++ (0xA5 ∷ slot_body 1 15 store_42))
    ≡ Some (record { commands = alloc_two ∷ []; room = 0 })
unfolding tail slot continues read_in command_in sequence_of
run_of_one = refl

-- a slot behind the run that is of no earlier command
late_slot : tail small 16 ((0xA5 ∷ slot_body 1 16 alloc_two) ++ (0 ∷ slot_body 1 16 store_42))
    ≡ Some (record { commands = alloc_two ∷ []; room = 1 })
unfolding tail slot continues read_in command_in sequence_of
late_slot = refl

-- of three commands in a group the first slot counts all, and each other one counts none
slot_of_leader : slot_body 3 0 alloc_two ≡ 3 ∷ 1 ∷ 0 ∷ 0 ∷ 0 ∷ 0 ∷ 0 ∷ zeros 8 ++ 1 ∷ zeros 7 ++ 2 ∷ zeros 7 ++ zeros 32
slot_of_leader = refl

slot_of_follower : slot_body 0 2 store_42
    ≡ 0 ∷ 5 ∷ 0 ∷ 2 ∷ 0 ∷ 0 ∷ 0 ∷ 2 ∷ zeros 7 ++ 1 ∷ zeros 7 ++ zeros 8 ++ 0x2A ∷ zeros 7 ++ zeros 24
slot_of_follower = refl

-- a slot that counts so many commands, and one behind it that has this gate and counts so many under that number
abbrev two : ℕ → ℕ → ℕ → ℕ → List ℕ
two count gate follower number = (0xA5 ∷ slot_body count 0 alloc_two) ++ (gate ∷ slot_body follower number store_42)

-- a follower is read by its leader's gate, whatever its own is
run_of_two : tail small 0 (two 2 0 0 1) ≡ Some (record { commands = alloc_two ∷ store_42 ∷ []; room = 0 })
unfolding tail slot continues read_in command_in sequence_of
run_of_two = refl

any_gate : tail small 0 (two 2 0xA5 0 1) ≡ tail small 0 (two 2 0 0 1)
unfolding tail slot continues read_in command_in sequence_of
any_gate = refl

-- the run may begin anew before both or behind both, and not between them
boundaries_of_two : is_boundary 0 0 (run small 0 (two 2 0 0 1)) ∷ is_boundary 0 1
    (run small 0 (two 2 0 0 1)) ∷ is_boundary 0 2 (run small 0 (two 2 0 0 1)) ∷ is_boundary 0 3
    (run small 0 (two 2 0 0 1)) ∷ []
    ≡ true ∷ false ∷ true ∷ false ∷ []
unfolding slot continues sequence_of
boundaries_of_two = refl

-- a follower without its leader is no command, but a closed gate
follower_alone : tail small 1 (two 2 0 0 1) ≡ Some (record { commands = []; room = 1 })
unfolding tail slot continues read_in command_in sequence_of
follower_alone = refl

-- a follower that leads a group itself, or has another number
leader_in_a_group : tail small 0 (two 2 0 1 1) ≡ None
unfolding tail slot continues read_in command_in sequence_of
leader_in_a_group = refl

late_follower : tail small 0 (two 2 0 0 3) ≡ None
unfolding tail slot continues read_in command_in sequence_of
late_follower = refl

-- a group that goes more than once round the ring, one of none, and one of too many
group_past_the_ring : tail small 0 (two 3 0 0 1) ≡ None
unfolding tail slot continues read_in command_in sequence_of
group_past_the_ring = refl

group_of_none : tail small 0 (two 0 0 0 1) ≡ None
unfolding tail slot continues read_in command_in sequence_of
group_of_none = refl

abbrev ring_of_18 : Ring
ring_of_18 = record { base = 0; slots = 18 }

-- seventeen slots that would be one group
group_of_17 : tail ring_of_18 0 ((0xA5 ∷ slot_body 17 0 alloc_two) ++ zeros 1088) ≡ None
unfolding tail slot continues read_in command_in sequence_of
group_of_17 = refl

-- the last number there is
abbrev last : ℕ
last = 4611686018427387904

-- a group that goes on to the last number, and one that goes past it
group_to_the_last : tail small (last - 2)
    ((0xA5 ∷ slot_body 2 (last - 2) alloc_two) ++ (0 ∷ slot_body 0 (last - 1) store_42))
    ≡ Some (record { commands = alloc_two ∷ store_42 ∷ []; room = 0 })
unfolding tail slot continues read_in command_in sequence_of
group_to_the_last = refl

group_past_the_last : tail small (last - 1)
    ((0 ∷ slot_body 0 last store_42) ++ (0xA5 ∷ slot_body 2 (last - 1) alloc_two)) ≡ None
unfolding tail slot continues read_in command_in sequence_of
group_past_the_last = refl
