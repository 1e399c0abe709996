-- The tail of a journal some of whose stale slots had their gates written.
use Rattle.std.proofs.Common.{◌≡◌, ℕ, zero, suc, ◌+◌, ◌-◌, ◌<◌, ◌≤◌, Bool, true, false, List, length, if◌then◌else◌}
use Rattle.std.proofs.Common.{Some, sym, refl, ap, ◌∙◌, subst, arith}
use Rattle.im_types.specs.Types.{Command, LAST, is_open, sequence_of, Ring, run_from, run, commands_in, is_boundary}
use Rattle.im_types.specs.Types.{closed_from, ends_stale, room_of, slot, continues, tail}
use Rattle.im_journal.{proofs.Rings.closed_at_least, proofs.Rings.continues_closed, proofs.Rings.continues_not}
use Rattle.im_journal.{proofs.Rings.other_number, proofs.Rings.stale_at, proofs.Rings.stale_each, proofs.Runs.same_run}
use Rattle.im_journal.{proofs.Tails.Parts, proofs.Tails.parts_of, proofs.Tails.tail_of, specs.Holding.KeepsBoundaries}

module _ (r : Ring) (first : ℕ) (c d : List ℕ) (commands : List Command) (room : ℕ)
    (e : tail r first c ≡ Some (record { commands = commands; room = room })) where
  abbrev n : ℕ
  n = length commands

  abbrev slots : ℕ
  slots = r.slots

  it : Parts r first c (record { commands = commands; room = room })
  it = parts_of r first c (record { commands = commands; room = room }) e

  size : length (run_from r slots 0 first c) ≡ n
  size = it.size

  -- the run's slots stay, so many gates behind it are closed, and each slot behind those is stale
  module _ (known : ℕ) (same : (i : ℕ) → i < n → slot r (first + i) d ≡ slot r (first + i) c)
      (room_there : known ≤ slots - n)
      (shut : (j : ℕ) → j < known → is_open (slot r (first + n + j) d) ≡ false)
      (stale : (j : ℕ) → known ≤ j → j < slots - n → sequence_of (slot r (first + n + j) d) < first) where
    ends : n < slots → continues (slot r (first + n) d) (first + n) ≡ false
    ends some = by_room known refl
      where
        zeroth : first + n + 0 ≡ first + n
        zeroth = omega arith

        by_room : (m : ℕ) → known ≡ m → continues (slot r (first + n) d) (first + n) ≡ false
        by_room zero none =
            let low : sequence_of (slot r (first + n) d) < first = subst
            (λ (m : ℕ). sequence_of (slot r m d) < first) zeroth
            (stale 0 (omega (arith, none)) (omega (arith, some))) in
            continues_not (slot r (first + n) d) (first + n) (λ here. absurd (omega (arith, low, here)))
        by_room (suc m) is = continues_closed (slot r (first + n) d) (first + n)
            (subst (λ (k : ℕ). is_open (slot r k d) ≡ false) zeroth (shut 0 (omega (arith, is))))

    same_slots : run r first d ≡ run r first c
    same_slots = same_run r slots 0 first d c
        (λ i low high. let at : first + (i - first)
        ≡ i = omega (arith, low) in subst (λ (m : ℕ). slot r m d ≡ slot r m c) at
        (same (i - first) (omega (arith, low, high, size))))
        (λ less m is. let at : first + n
        ≡ m = omega (arith, is, size) in subst (λ (m : ℕ). continues (slot r m d) m ≡ false) at
        (ends (omega (arith, less, size))))

    abbrev now : ℕ
    now = closed_from r (slots - n) (first + n) d

    pub no_less : known ≤ now
    no_less = closed_at_least r d (slots - n) (first + n) known room_there shut

    still_stale : ends_stale r first n d ≡ true
    still_stale = stale_each r d (slots - n - now) (first + n + now) first (λ i less.
        let at : first + n + (now + i) ≡ first + n + now + i = omega arith in
        subst (λ (m : ℕ). sequence_of (slot r m d) < first) at
        (stale (now + i) (omega (arith, no_less)) (omega (arith, less))))

    pub tail_swept : tail r first d ≡ Some (record { commands = commands; room = room_of r first n d })
    tail_swept = tail_of r first d (record { commands = commands; room = room_of r first n d }) (record {
      read = ap (λ (l : List (List ℕ)). commands_in 0 first l) same_slots ∙ it.read;
      size = ap length same_slots ∙ it.size;
      stale = still_stale;
      room = refl;
    })

    pub boundaries_swept : KeepsBoundaries r first c d
    boundaries_swept k e = ap (λ (l : List (List ℕ)). is_boundary 0 k l) same_slots ∙ e

-- behind its room a tail has stale slots alone
pub behind_of : (r : Ring) (first : ℕ) (c : List ℕ) (commands : List Command) (room : ℕ) → tail r first c
    ≡ Some (record { commands = commands; room = room })
    → first + length commands < LAST → (k : ℕ) → room ≤ k → k < r.slots - length commands
    → sequence_of (slot r (first + length commands + k) c) < first
behind_of r first c commands room e low k from to =
    let it : Parts r first c (record { commands = commands; room = room }) = parts_of r first c
    (record { commands = commands; room = room }) e in
    let n : ℕ = length commands in
    let closed : ℕ = closed_from r (r.slots - n) (first + n) c in
    let room_is : closed ≡ room = sym
    (ap (λ (b : Bool). if b then 0 else closed)
    (other_number (first + n) LAST (λ last. absurd (omega (arith, low, last))))) ∙ it.room in
    let at : first + n + closed + (k - closed) ≡ first + n + k = omega (arith, from, room_is) in
    subst (λ (m : ℕ). sequence_of (slot r m c) < first) at
    (stale_at r c (r.slots - n - closed) (first + n + closed) first (k - closed) it.stale
    (omega (arith, from, to, room_is)))

-- the same, with the count of commands as it was counted
pub behind_read : (r : Ring) (first : ℕ) (c : List ℕ) (commands : List Command) (room : ℕ) → tail r first c
    ≡ Some (record { commands = commands; room = room }) → (count : ℕ) → count ≡ length commands
    → first + count < LAST → (k : ℕ) → room ≤ k → k < r.slots - ((first + count) - first)
    → sequence_of (slot r (first + count + k) c) < first
behind_read r first c commands room e count is low k from to =
    subst (λ (m : ℕ). sequence_of (slot r (first + m + k) c) < first) (sym is)
    (behind_of r first c commands room e (subst (λ (m : ℕ). first + m < LAST) is low) k from (omega (arith, is, to)))
