-- A journal whose run begins at a later command.
use Rattle.std.proofs.Common.{◌≡◌, ℕ, ◌+◌, ◌-◌, ◌<◌, ◌≤◌, List, drop, Some, sym, subst, ⊎_elim, arith, length-drop}
use Rattle.std.proofs.lemmas.Bool.{cases_lt}
use Rattle.im_types.specs.Types.{sequence_of, IsBoundary, slot, tail}
use Rattle.im_journal.proofs.{Later.tail_later, Rings.nth_sequence, Rings.slot_round, Tails.Parts, Tails.parts_of}
use Rattle.im_journal.specs.Holding.{Holds, IsJournal, JournalState}

module _ (j : JournalState) (known : IsJournal j) (first : ℕ) (later : j.first ≤ first) (counted : first ≤ j.count)
    (file : List ℕ) (held : Holds j file) (boundary : IsBoundary j.ring j.first (first - j.first) file) where
  abbrev passed : ℕ
  passed = first - j.first

  begins : j.first + passed ≡ first
  begins = omega (arith, later)

  pub tail_begins_later : tail j.ring first file
      ≡ Some (record { commands = drop passed held.commands; room = held.there })
  tail_begins_later = subst
      (λ (s : ℕ). tail j.ring s file ≡ Some (record { commands = drop passed held.commands; room = held.there })) begins
      (tail_later j.ring j.first passed file held.commands held.there held.reads boundary)

  parts : Parts j.ring j.first file (record { commands = held.commands; room = held.there })
  parts = parts_of j.ring j.first file (record { commands = held.commands; room = held.there }) held.reads

  -- the slot of a command that was passed has its sequence number
  passed_slot : (i : ℕ) → i < passed → sequence_of (slot j.ring (j.first + i) file) ≡ j.first + i
  passed_slot i low =
      nth_sequence j.ring file j.ring.slots 0 j.first i held.commands parts.read
      (omega (arith, low, parts.size, held.count, later, counted))

  -- once round the ring from it
  passed_behind : (i : ℕ) → j.ring.slots - (j.count - j.first) ≤ i → i < j.ring.slots - (j.count - first)
      → sequence_of (slot j.ring (j.count + i) file) < first
  passed_behind i low high =
      let one : ℕ = i - (j.ring.slots - (j.count - j.first)) in
      let at : j.first + one + j.ring.slots ≡ j.count + i = omega (arith, low, known.once_round, known.begun) in
      let few : one < passed = omega (arith, low, high, known.once_round, known.begun, later, counted) in
      let is : sequence_of (slot j.ring (j.first + one) file) ≡ j.first + one = passed_slot one few in
      subst (λ (s : ℕ). sequence_of (slot j.ring s file) < first) at
      (subst (λ (bytes : List ℕ). sequence_of bytes < first) (sym (slot_round j.ring (j.first + one) file))
      (omega (arith, is, few, later)))

  pub holds_later : (next : JournalState) → next ≡ record j { first = first } → Holds next file
  holds_later next is = subst (λ (x : JournalState). Holds x file) (sym is) (record {
    size = held.size;
    commands = drop passed held.commands;
    there = held.there;
    reads = tail_begins_later;
    count = omega (arith, held.count, later, counted, length-drop passed held.commands);
    enough = held.enough;
    behind = λ low i from to. ⊎_elim
        (λ near. let was = held.behind low i from near in omega (arith, was, later))
        (λ far. passed_behind i far to)
        (cases_lt i (j.ring.slots - (j.count - j.first)));
    laid = held.laid;
  })
