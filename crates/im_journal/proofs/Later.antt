-- The tail of a journal from a later command on.
use Rattle.std.proofs.Common.{◌≡◌, ℕ, zero, suc, ◌+◌, ◌-◌, ◌<◌, ◌≤◌, Bool, true, false, List, length, drop}
use Rattle.std.proofs.Common.{if◌then◌else◌, ◌==◌, Some, sym, ap, ◌∙◌, subst, arith, length-drop}
use Rattle.im_types.specs.Types.{Command, LAST, is_open, group_of, sequence_of, Ring, next_if, run_from, run}
use Rattle.im_types.specs.Types.{commands_in, IsBoundary, closed_from, are_stale, ends_stale, room_of, slot, continues}
use Rattle.im_types.specs.Types.{tail}
use Rattle.im_journal.proofs.Rings.{closed_more, continues_is, continues_not, first_continues, nth_sequence}
use Rattle.im_journal.proofs.Rings.{run_dropped, run_more, slot_round, stale_at, stale_each, stale_joined}
use Rattle.im_journal.proofs.Runs.{behind_boundary, boundary-low, closed_at_most, whole-commands}
use Rattle.im_journal.proofs.Tails.{Parts, parts_of, tail_of}

pub at_most : (r : Ring) (c : List ℕ) (fuel due s : ℕ) → length (run_from r fuel due s c) ≤ fuel
at_most r c zero due s = omega arith
at_most r c (suc fuel) (suc due) s = omega (arith, at_most r c fuel due (s + 1))
at_most r c (suc fuel) zero s = by_test (continues (slot r s c) s)
    (run_from r fuel (group_of (slot r s c) - 1) (s + 1) c) (at_most r c fuel (group_of (slot r s c) - 1) (s + 1))
  where
    by_test : (b : Bool) (rest : List (List ℕ)) → length rest ≤ fuel → length (next_if b (slot r s c) rest) ≤ suc fuel
    by_test true rest le = omega (arith, le)
    by_test false rest le = omega arith

-- the tail from the k-th command of a run on
module _ (r : Ring) (first k : ℕ) (c : List ℕ) (commands : List Command) (room : ℕ)
    (e : tail r first c ≡ Some (record { commands = commands; room = room })) (boundary : IsBoundary r first k c) where
  abbrev n : ℕ
  n = length commands

  abbrev slots : ℕ
  slots = r.slots

  abbrev closed : ℕ
  closed = closed_from r (slots - n) (first + n) c

  it : Parts r first c (record { commands = commands; room = room })
  it = parts_of r first c (record { commands = commands; room = room }) e

  size : length (run_from r slots 0 first c) ≡ n
  size = it.size

  low : k ≤ length commands
  low = omega (arith, size, boundary-low 0 k (run r first c) boundary)

  few : n ≤ slots
  few = omega (arith, size, at_most r c slots 0 first)

  numbered : (i : ℕ) → i < n → sequence_of (slot r (first + i) c) ≡ first + i
  numbered i less = nth_sequence r c slots 0 first i commands it.read (omega (arith, size, less))

  begins : 0 < n → continues (slot r first c) first ≡ true
  begins some = first_continues r c slots first (omega (arith, size, some))

  -- the first command's slot, once round the ring, is of no later command
  round_ends : 0 < n → continues (slot r (first + slots) c) (first + slots) ≡ false
  round_ends some =
      let same : slot r (first + slots) c ≡ slot r first c = slot_round r first c in
      let here = continues_is (slot r first c) first (begins some) in
      continues_not (slot r (first + slots) c) (first + slots)
      (λ is. absurd (omega (arith, ap sequence_of same, here.1, is, few, some)))

  round_open : 0 < n → is_open (slot r (first + slots) c) ≡ true
  round_open some =
      let same : slot r (first + slots) c ≡ slot r first c = slot_round r first c in
      ap is_open same ∙ (continues_is (slot r first c) first (begins some)).0

  rest : drop k (run_from r slots 0 first c) ≡ run_from r (slots - k) 0 (first + k) c
  rest = run_dropped r c k slots 0 first boundary

  rest_size : length (run_from r (slots - k) 0 (first + k) c) ≡ n - k
  rest_size = sym (ap length rest) ∙ length-drop k (run_from r slots 0 first c) ∙ ap (λ (m : ℕ). m - k) size

  rest_read : commands_in 0 (first + k) (run_from r (slots - k) 0 (first + k) c) ≡ Some (drop k commands)
  rest_read = ap (λ (l : List (List ℕ)). commands_in 0 (first + k) l) (sym rest)
      ∙ behind_boundary 0 first k (run r first c) commands it.read boundary

  later_run : run r (first + k) c ≡ run_from r (slots - k) 0 (first + k) c
  later_run =
      let fuel : slots ≡ (slots - k) + k = omega (arith, low, few) in
      ap (λ (m : ℕ). run_from r m 0 (first + k) c) fuel
      ∙ run_more r c (slots - k) k 0 (first + k)
      (whole-commands 0 (first + k) (run_from r (slots - k) 0 (first + k) c) (drop k commands) rest_read)
      (λ whole some.
      let at : (first + k) + (slots - k) ≡ first + slots = omega (arith, low, few) in
      subst (λ (m : ℕ). continues (slot r m c) m ≡ false) (sym at) (round_ends (omega (arith, low, some))))

  later_read : commands_in 0 (first + k) (run r (first + k) c) ≡ Some (drop k commands)
  later_read = ap (λ (l : List (List ℕ)). commands_in 0 (first + k) l) later_run ∙ rest_read

  later_size : length (run r (first + k) c) ≡ length (drop k commands)
  later_size = ap length later_run ∙ rest_size ∙ sym (length-drop k commands)

  count_is : length (drop k commands) ≡ n - k
  count_is = length-drop k commands

  next_is : (first + k) + (n - k) ≡ first + n
  next_is = omega (arith, low)

  later_closed : closed_from r (slots - (n - k)) ((first + k) + (n - k)) c ≡ closed
  later_closed =
      let fuel : slots - (n - k) ≡ (slots - n) + k = omega (arith, low, few) in
      ap (λ (m : ℕ). closed_from r (slots - (n - k)) m c) next_is
      ∙ ap (λ (m : ℕ). closed_from r m (first + n) c) fuel
      ∙ closed_more r c (slots - n) k (first + n) (λ whole some.
      let at : (first + n) + (slots - n) ≡ first + slots = omega (arith, few) in
      subst (λ (m : ℕ). is_open (slot r m c) ≡ true) (sym at) (round_open (omega (arith, low, some))))

  later_room : room_of r (first + k) (n - k) c ≡ room
  later_room =
      ap (λ (m : ℕ). if m == LAST then 0 else closed_from r (slots - (n - k)) ((first + k) + (n - k)) c) next_is
      ∙ ap (λ (m : ℕ). if first + n == LAST then 0 else m) later_closed
      ∙ it.room

  closed_few : closed ≤ slots - n
  closed_few = closed_at_most r (slots - n) (first + n) c

  was_stale : are_stale r (slots - n - closed) (first + n + closed) first c ≡ true
  was_stale = it.stale

  passed : (i : ℕ) → i < k → sequence_of (slot r ((first + n + closed) + (slots - n - closed) + i) c) < first + k
  passed i less =
      let at : (first + n + closed) + (slots - n - closed) + i ≡ (first + i) + slots = omega (arith, few, closed_few) in
      let is : sequence_of (slot r (first + i) c) ≡ first + i = numbered i (omega (arith, low, less)) in
      subst (λ (m : ℕ). sequence_of (slot r m c) < first + k) (sym at)
      (subst (λ (bytes : List ℕ). sequence_of bytes < first + k) (sym (slot_round r (first + i) c))
      (omega (arith, is, less)))

  later_stale : ends_stale r (first + k) (n - k) c ≡ true
  later_stale =
      let front : are_stale r (slots - n - closed) (first + n + closed) (first + k) c ≡ true =
      stale_each r c (slots - n - closed) (first + n + closed) (first + k)
      (λ i less. let was = stale_at r c (slots - n - closed) (first + n + closed) first i was_stale less in omega
      (arith, was)) in
      let back : are_stale r k ((first + n + closed) + (slots - n - closed)) (first + k) c ≡ true =
      stale_each r c k ((first + n + closed) + (slots - n - closed)) (first + k) passed in
      let whole : are_stale r ((slots - n - closed) + k) (first + n + closed) (first + k) c
      ≡ true = stale_joined r c (slots - n - closed) k (first + n + closed) (first + k) front back in
      let many : (slots - n - closed) + k ≡ slots - (n - k) - closed = omega (arith, low, few, closed_few) in
      let start : first + n + closed ≡ ((first + k) + (n - k)) + closed = ap (λ (m : ℕ). m + closed) (sym next_is) in
      let back_many : slots - (n - k) - closed ≡ (slots - n - closed) + k = sym many in
      let back_start : ((first + k) + (n - k)) + closed ≡ first + n + closed = sym start in
      let there : are_stale r (slots - (n - k) - closed) (((first + k) + (n - k)) + closed) (first + k) c ≡ true =
      (λ i. are_stale r (back_many i) (back_start i) (first + k) c) ∙ whole in
      ap (λ (m : ℕ). are_stale r (slots - (n - k) - m) (((first + k) + (n - k)) + m) (first + k) c) later_closed ∙ there

  pub tail_later : tail r (first + k) c ≡ Some (record { commands = drop k commands; room = room })
  tail_later = tail_of r (first + k) c (record { commands = drop k commands; room = room }) (record {
    read = later_read;
    size = later_size;
    stale = ap (λ (m : ℕ). ends_stale r (first + k) m c) count_is ∙ later_stale;
    room = ap (λ (m : ℕ). room_of r (first + k) m c) count_is ∙ later_room;
  })
