-- The laws of rows say no more than they do: with a premise less each fails at a journal that is written out here. And
-- a journal meets their premises. So do those of lines.
use Rattle.std.proofs.Common.{◌≡◌, ℕ, zero, suc, ◌+◌, ◌*◌, ◌^◌, ◌<◌, ◌≤◌, true, List, [], ◌∷◌, ◌++◌, length, slice_get}
use Rattle.std.proofs.Common.{Some, None, codes, decimal, Option, refl, ap, inr, arith}
use Rattle.std.specs.Fmt.{digits}
use Rattle.im_types.specs.Types.{Answered, I, Alloc, Value, Command, Asks, zeros, slot_body, is_open, sequence_of}
use Rattle.im_types.specs.Types.{command_in, read_in, Ring, run, commands_in, Tail, slot, continues, tail}
use Rattle.im_types.proofs.Tests.{differ}
use Rattle.im_text.specs.declared.OutputLine.{OutputLine, TheVariants.Done, TheVariants.Reply}
use Rattle.im_text.specs.declared.Style.TheVariants.{Json, Quiet, Text}
use Rattle.im_text.specs.{Said.said_all, Said.said_in, Texts.line_feed}
use Rattle.im_readings.specs.{Lines.FitsLine, Rows.commands_of_groups, Rows.count_in, Rows.HoldsRow, Rows.IsLongestRow}

-- a ring of two slots; an open slot of a command by itself, under this number
abbrev ring_of_two : Ring
ring_of_two = record { base = 0; slots = 2 }

abbrev making : Command
making = Asks (record { element = 0; number = 1; op = Alloc I 1 })

abbrev made_under : ℕ → List ℕ
made_under number = 0xA5 ∷ slot_body 1 number making

-- one command, and a slot that was never written; or a slot of another number
abbrev made_once : List ℕ
made_once = made_under 0 ++ zeros 64

abbrev made_beside : List ℕ
made_beside = made_under 0 ++ made_under 5

abbrev count_of : Option (List Command) → ℕ
count_of None = 99
count_of (Some commands) = length commands

abbrev room_or : Option Tail → ℕ
room_or None = 99
room_or (Some end) = end.room

-- One command is a row of one group, and no group begins behind it.
one_command_is_the_longest : IsLongestRow ring_of_two 0 ((making ∷ []) ∷ []) made_once
unfolding slot continues read_in command_in sequence_of
one_command_is_the_longest = record {
  row = (
    record {
      some = omega arith;
      few = omega arith;
      low = omega arith;
      opened = refl;
      counted = refl;
      numbered = numbered;
      spelled = spelled;
    },
    tt,
  );
  round = omega arith;
  ends = inr refl;
}
  where
    numbered : (i : ℕ) → i < 1 → sequence_of (slot ring_of_two (0 + i) made_once) ≡ 0 + i
    numbered zero low = refl
    numbered (suc i) low = absurd (omega (arith, low))

    spelled : (i : ℕ) → i < 1 → read_in (count_in (making ∷ []) i) (slot ring_of_two (0 + i) made_once)
        ≡ slice_get (making ∷ []) i
    spelled zero low = refl
    spelled (suc i) low = absurd (omega (arith, low))

-- A row that isn't the longest isn't the run: no group at all is a row, too.
not_each_row_is_the_run :
    ((ring : Ring) (first : ℕ) (file : List ℕ) (groups : List (List Command)) → HoldsRow ring first groups file
    → length (commands_of_groups groups) ≤ ring.slots
    → commands_in 0 first (run ring first file) ≡ Some (commands_of_groups groups)) → ⊥
unfolding slot continues read_in command_in sequence_of
not_each_row_is_the_run law = differ 1 0 refl (ap count_of (law ring_of_two 0 made_once [] tt (omega arith)))

-- Where a slot behind the room has a number that isn't below the first one, there is no tail.
not_each_row_has_a_tail :
    ((ring : Ring) (first : ℕ) (file : List ℕ) (commands : List Command) (room : ℕ)
    → commands_in 0 first (run ring first file) ≡ Some commands
    → is_open (slot ring (first + length commands + room) file) ≡ true
    → tail ring first file ≡ Some (record { commands = commands; room = room })) → ⊥
unfolding tail slot continues read_in command_in sequence_of
not_each_row_has_a_tail law = differ 99 0 refl (ap room_or (law ring_of_two 0 made_beside (making ∷ []) 0 refl refl))

-- ---- lines

-- a line whose numbers fit, in words and as an object
abbrev a_line : OutputLine
a_line = Reply (record { element = 3; number = 14; entry = Answered (Value 7) })

a_line_fits : FitsLine a_line
a_line_fits = (omega arith, omega arith, omega arith)

its_words : said_in Text a_line ≡ codes "3.14 value 7\n"
unfolding digits
its_words = refl

its_object : said_in Json a_line
    ≡ codes "{\"element\":3,\"number\":\"14\",\"now\":false,\"reply\":\"value\",\"value\":\"7\"}\n"
unfolding digits
its_object = refl

-- Where only refusals are told, other lines aren't read back.
not_each_line_is_told : ((a b : List OutputLine) → said_all Quiet a ≡ said_all Quiet b → a ≡ b) → ⊥
unfolding said_all
not_each_line_is_told law = differ 1 0 refl (ap length (law (Done 0 1 ∷ []) [] refl))

-- Of a number of more than 64 digits the last 64 are said: two lines that don't fit are said alike.
same_digits : decimal (10 ^ 64) ≡ decimal (2 * 10 ^ 64)
unfolding digits
same_digits = refl

number_done : OutputLine → ℕ
number_done (Done element number) = number
number_done line = 0

not_any_number_is_read_back : ((a b : OutputLine) → said_in Text a ≡ said_in Text b → a ≡ b) → ⊥
unfolding number_done
not_any_number_is_read_back law =
    differ (10 ^ 64) (2 * 10 ^ 64) refl (ap number_done (law (Done 0 (10 ^ 64)) (Done 0 (2 * 10 ^ 64))
    (ap (λ n. decimal 0 ++ codes "." ++ n ++ codes " done" ++ line_feed) same_digits)))
