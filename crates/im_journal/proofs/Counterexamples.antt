-- A run begins anew behind a whole group alone: the law without that premise fails at a ring that is written out here.
use Rattle.std.proofs.Common.{◌≡◌, ℕ, ◌+◌, ◌≤◌, List, [], ◌∷◌, ◌++◌, length, drop, Some, None, Option, sym, refl, ap}
use Rattle.std.proofs.Common.{◌∙◌, arith}
use Rattle.im_types.specs.Types.{Command, Confirm, slot_body, sequence_of, command_in, read_in, Ring, Tail, slot}
use Rattle.im_types.specs.Types.{continues, tail}
use Rattle.im_types.proofs.Tests.{differ}

abbrev small : Ring
small = record { base = 0; slots = 2 }

-- a group of two
abbrev group : List ℕ
group = (0xA5 ∷ slot_body 2 0 (Confirm 0 1)) ++ (0 ∷ slot_body 0 1 (Confirm 1 1))

-- how many commands a tail has
abbrev count : Option Tail → ℕ
count None = 0
count (Some t) = length t.commands

reads_both : tail small 0 group ≡ Some (record { commands = Confirm 0 1 ∷ Confirm 1 1 ∷ []; room = 0 })
unfolding tail slot continues read_in command_in sequence_of
reads_both = refl

reads_none : count (tail small 1 group) ≡ 0
unfolding tail slot continues read_in command_in sequence_of
reads_none = refl

-- `begin_later`, its clause `tail`: begun at its follower a group of two would be lost, since only its leader has a gate.
a_run_begins_at_no_follower :
    ((ring : Ring) (first k : ℕ) (file : List ℕ) (commands : List Command) (room : ℕ) → tail ring first file
    ≡ Some (record { commands = commands; room = room })
    → k ≤ length commands → tail ring (first + k) file ≡ Some (record { commands = drop k commands; room = room })) → ⊥
a_run_begins_at_no_follower law = differ 0 1 refl
    (sym reads_none ∙ ap count (law small 0 1 group (Confirm 0 1 ∷ Confirm 1 1 ∷ []) 0 reads_both (omega arith)))
