-- How a tail depends on the file's bytes.
use Rattle.std.proofs.Common.{◌≡◌, ℕ, zero, suc, ◌+◌, ◌-◌, ◌*◌, ◌%◌, ◌<◌, ◌≤◌, Bool, true, false, ◌≢◌, ◌⊎◌, List, []}
use Rattle.std.proofs.Common.{◌++◌, length, get_or, take, drop, if◌then◌else◌, ◌==◌, Some, None, Option}
use Rattle.std.proofs.Common.{option_and_then, sym, refl, ap, ◌∙◌, subst, inl, inr, ⊎_elim, arith, length-append}
use Rattle.std.proofs.Common.{take-take, drop-drop}
use Rattle.std.proofs.lemmas.{Bool.cases_eq, Bool.cases_lt, List.drop-take}
use Rattle.std.proofs.Math.Nat.{mod-eq_of_lt, mod-lt}
use Rattle.im_types.specs.Types.{Command, MAX_GROUP, LAST, open_gate, is_open, Ring, slot_offset, run_from, run}
use Rattle.im_types.specs.Types.{commands_in, is_boundary, IsBoundary, closed_from, are_stale, behind, ends_stale}
use Rattle.im_types.specs.Types.{room_of, Tail, tail_if, slot, continues, tail}
use Rattle.im_disk.specs.Since.{SameBut}
use Rattle.im_journal.proofs.{Groups.beside_group, Groups.led_by, Groups.LedBy, Rings.closed_at}
use Rattle.im_journal.proofs.Runs.{added_group, all_closed, boundary-append, boundary-low, closed_at_most}
use Rattle.im_journal.proofs.Runs.{closed_behind, closed_first, closed_moved, commands_joined, length-commands}
use Rattle.im_journal.proofs.Runs.{length-slots_at, run_moved, same_closed, same_run, same_stale, slots_at, stale_first}
use Rattle.im_journal.proofs.Runs.{stale_moved, stops, whole-commands}
use Rattle.im_journal.proofs.Slots.{away, away_after, closed_gate, gate_closed, no_gate_behind, not_in, same_gate}
use Rattle.im_journal.proofs.Slots.{same_slot, slot_inside, stops_closed, stops_other}
use Rattle.im_journal.specs.Groups.{AllFit, HasBodies, SameButGroup}
use Rattle.im_journal.specs.Holding.{AreClosed, KeepsBoundaries, longer_tail, room_after}

-- the tail, by the run and by what is behind it
abbrev finished : ℕ → List (List ℕ) → (ℕ → Bool) → (ℕ → ℕ) → Option Tail
finished first slots stale room = option_and_then (tail_if (stale (length slots)) (room (length slots)))
    (commands_in 0 first slots)

pub tail_is : (r : Ring) (first : ℕ) (file : List ℕ) → tail r first file
    ≡ finished first (run r first file) (λ n. ends_stale r first n file) (λ n. room_of r first n file)
unfolding tail
tail_is r first file = refl

finished_same : (first : ℕ) (a b : List (List ℕ)) (stale_a stale_b : ℕ → Bool) (room_a room_b : ℕ → ℕ) → a ≡ b
    → stale_a (length b) ≡ stale_b (length b) → room_a (length b) ≡ room_b (length b)
    → finished first a stale_a room_a ≡ finished first b stale_b room_b
finished_same first a b stale_a stale_b room_a room_b run stale room =
    ap (λ (l : List (List ℕ)). finished first l stale_a room_a) run
    ∙ ap (λ (t : Bool). option_and_then (tail_if t (room_a (length b))) (commands_in 0 first b)) stale
    ∙ ap (λ (n : ℕ). option_and_then (tail_if (stale_b (length b)) n) (commands_in 0 first b)) room

abbrev if_room : Bool → ℕ → ℕ
if_room b n = if b then 0 else n

-- what a tail says, part by part
pub record Parts (r : Ring) (first : ℕ) (file : List ℕ) (t : Tail) : Type 0 where
  pub read : commands_in 0 first (run r first file) ≡ Some t.commands
  pub size : length (run r first file) ≡ length t.commands
  pub stale : ends_stale r first (length t.commands) file ≡ true
  pub room : room_of r first (length t.commands) file ≡ t.room

module _ (r : Ring) (first : ℕ) (file : List ℕ) (t : Tail) where
  found : (cs : List Command) (stale : Bool) (room : ℕ) → tail_if stale room cs ≡ Some t → (stale ≡ true)
      × (cs ≡ t.commands) × (room ≡ t.room)
  found cs true room e = (refl, ap_commands e, ap_room e)
    where
      ap_commands : Some (record { commands = cs; room = room }) ≡ Some t → cs ≡ t.commands
      ap_commands h = let same : ◌≡◌ {A = Tail} (record { commands = cs; room = room }) t = cc in ap
          (λ (x : Tail). x.commands) same

      ap_room : Some (record { commands = cs; room = room }) ≡ Some t → room ≡ t.room
      ap_room h = let same : ◌≡◌ {A = Tail} (record { commands = cs; room = room }) t = cc in ap
          (λ (x : Tail). x.room) same
  found cs false room e = absurd (cc)

  parts : (o : Option (List Command)) → commands_in 0 first (run r first file) ≡ o
      → option_and_then (tail_if (ends_stale r first (length (run r first file)) file)
      (room_of r first (length (run r first file)) file)) o ≡ Some t → Parts r first file t
  parts None is e = absurd (cc)
  parts (Some cs) is e =
      let both = found cs (ends_stale r first (length (run r first file)) file)
      (room_of r first (length (run r first file)) file) e in
      let size : length (run r first file)
      ≡ length t.commands = sym (length-commands 0 first (run r first file) cs is) ∙ ap length both.1 in
      record {
        read = is ∙ ap (λ (l : List Command). Some l) both.1;
        size = size;
        stale = ap (λ (n : ℕ). ends_stale r first n file) (sym size) ∙ both.0;
        room = ap (λ (n : ℕ). room_of r first n file) (sym size) ∙ both.2;
      }

  pub parts_of : tail r first file ≡ Some t → Parts r first file t
  parts_of e = parts (commands_in 0 first (run r first file)) refl (sym (tail_is r first file) ∙ e)

  pub tail_of : Parts r first file t → tail r first file ≡ Some t
  tail_of p =
      tail_is r first file
      ∙ ap (λ (o : Option (List Command)). option_and_then
      (tail_if (ends_stale r first (length (run r first file)) file)
      (room_of r first (length (run r first file)) file)) o) p.read
      ∙ ap (λ (n : ℕ). tail_if (ends_stale r first n file) (room_of r first n file) t.commands) p.size
      ∙ ap (λ (b : Bool). tail_if b (room_of r first (length t.commands) file) t.commands) p.stale
      ∙ ap (λ (n : ℕ). tail_if true n t.commands) p.room

-- where there is room, it is the closed gates
room_is : (b : Bool) (n : ℕ) → 0 < if_room b n → (b ≡ false) × (if_room b n ≡ n)
room_is true n some = absurd (omega arith)
room_is false n some = (refl, refl)

-- a group of g commands is written, or may be, behind the run: there is room for it
module _ (r : Ring) (some : 0 < r.slots) (first n g : ℕ) (d c : List ℕ) (t : Tail) (p : Parts r first d t)
    (is_n : n ≡ first + length t.commands) (more : 0 < g) (room : g ≤ t.room) (same : SameButGroup r n g d c) where
  abbrev k : ℕ
  k = length t.commands

  abbrev closed : ℕ
  closed = closed_from r (r.slots - k) (first + k) d

  closed_is : t.room ≡ closed
  closed_is = sym p.room ∙
      (room_is (first + k == LAST) closed (subst (λ (m : ℕ). 0 < m) (sym p.room) (omega (arith, more, room)))).1

  few : closed ≤ r.slots - k
  few = closed_at_most r (r.slots - k) (first + k) d

  fits : k + g ≤ r.slots
  fits = omega (arith, closed_is, few, room, more)

  -- the gates of the next slots are closed
  closed_there : (i : ℕ) → i < g → is_open (slot r (n + i) d) ≡ false
  closed_there i less = ap (λ (x : ℕ). is_open (slot r (x + i) d)) is_n
      ∙ closed_at r d (r.slots - k) (first + k) i (omega (arith, closed_is, room, less))

  closed_here : is_open (slot r n d) ≡ false
  closed_here = let zeroth : n + 0
      ≡ n = omega arith in subst (λ (x : ℕ). is_open (slot r x d) ≡ false) zeroth (closed_there 0 more)

  pub next_closed : get_or d (slot_offset r n) 0 ≢ open_gate
  next_closed = gate_closed r n d closed_here

  -- the slots before the group and behind it stay
  before : (i : ℕ) → first ≤ i → i < n → slot r i c ≡ slot r i d
  before i low high = beside_group r n g i d c more same
      (λ m j less lo hi. away r some i (n + m) j (omega (arith, high)) (omega (arith, low, fits, is_n, less)) lo hi)

  after : (i : ℕ) → n + g ≤ i → i < first + r.slots → slot r i c ≡ slot r i d
  after i low high = beside_group r n g i d c more same
      (λ m j less lo hi. away_after r some i (n + m) j (omega (arith, low, less)) (omega (arith, high, is_n)) lo hi)

  -- and so do the gates of followers
  follower_gate : (i : ℕ) → 0 < i → i < g → is_open (slot r (n + i) c) ≡ is_open (slot r (n + i) d)
  follower_gate i low high = same_gate r (n + i) c d (same.same (slot_offset r (n + i)) other (λ m less. no_body m))
    where
      other : slot_offset r (n + i) ≢ slot_offset r n
      other is = not_in (slot_offset r (n + i)) (slot_offset r n)
          (away_after r some (n + i) n (slot_offset r (n + i)) (omega (arith, low)) (omega (arith, high, fits))
          (omega arith) (omega arith)) is

      no_body : (m : ℕ) → (slot_offset r (n + i) ≤ slot_offset r (n + m))
          ⊎ (slot_offset r (n + m) + 64 ≤ slot_offset r (n + i))
      no_body m = no_gate_behind r (n + i) (n + m)

  -- the slots behind the group
  stale_same : (m s : ℕ) → n + g ≤ s → s + m ≤ first + r.slots → are_stale r m s first c ≡ are_stale r m s first d
  stale_same m s low high = same_stale r m s first c d
      (λ i lo hi. after i (omega (arith, low, lo)) (omega (arith, high, hi)))

  module _ (shut : get_or c (slot_offset r n) 0 ≢ open_gate) where
    shut_n : is_open (slot r n c) ≡ false
    shut_n = closed_gate r n c shut

    kept_run : run r first c ≡ run r first d
    kept_run = same_run r r.slots 0 first c d (λ i low high. before i low (omega (arith, p.size, is_n, high)))
        (λ lt e is_e.
        let here : e ≡ n = is_e ∙ ap (λ (m : ℕ). first + m) p.size ∙ sym is_n in
        subst (λ (x : ℕ). continues (slot r x c) x ≡ false) (sym here) (stops_closed (slot r n c) n shut_n))

    gates_same : (i : ℕ) → first + k ≤ i → i < first + k + (r.slots - k) → is_open (slot r i c) ≡ is_open (slot r i d)
    gates_same i low high = ⊎_elim in_group
        (λ (behind_it : n + g ≤ i). ap is_open (after i behind_it (omega (arith, high, fits)))) (cases_lt i (n + g))
      where
        in_group : i < n + g → is_open (slot r i c) ≡ is_open (slot r i d)
        in_group less = ⊎_elim
            (λ (here : i ≡ n). ap (λ (x : ℕ). is_open (slot r x c)) here ∙ shut_n
            ∙ sym (ap (λ (x : ℕ). is_open (slot r x d)) here ∙ closed_here))
            (λ (other : i ≢ n).
            let at : n + (i - n) ≡ i = omega (arith, low, is_n) in
            subst (λ (x : ℕ). is_open (slot r x c) ≡ is_open (slot r x d)) at
            (follower_gate (i - n) (omega (arith, low, is_n, other)) (omega (arith, low, is_n, less))))
            (cases_eq i n)

    kept_closed : closed_from r (r.slots - k) (first + k) c ≡ closed
    kept_closed = same_closed r (r.slots - k) (first + k) c d gates_same

    kept_stale : ends_stale r first k c ≡ ends_stale r first k d
    kept_stale =
        ap (λ (m : ℕ). are_stale r (r.slots - k - m) (first + k + m) first c) kept_closed
        ∙ stale_same (r.slots - k - closed) (first + k + closed) (omega (arith, is_n, closed_is, room))
        (omega (arith, few, fits))

    -- a closed gate keeps the boundaries
    pub boundaries_kept : KeepsBoundaries r first d c
    boundaries_kept m e = ap (λ (l : List (List ℕ)). is_boundary 0 m l) kept_run ∙ e

    -- and the tail
    pub tail_kept : tail r first c ≡ Some t
    tail_kept = tail_of r first c t (record {
      read = ap (λ (l : List (List ℕ)). commands_in 0 first l) kept_run ∙ p.read;
      size = ap length kept_run ∙ p.size;
      stale = kept_stale ∙ p.stale;
      room = ap (λ (m : ℕ). if_room (first + k == LAST) m) kept_closed ∙ p.room;
    })

  module _ (commands : List Command) (long : length commands ≡ g) (few_commands : g ≤ MAX_GROUP)
      (all_fit : AllFit commands) (begun : first ≤ n) (low : n + g ≤ LAST)
      (opened : is_open (slot r n c) ≡ true) (bodies : HasBodies r g n commands c) where
    led : LedBy r g n commands c
    led = led_by r c g n commands more long few_commands all_fit low opened bodies

    abbrev closed_after : ℕ
    closed_after = closed_from r (r.slots - (k + g)) (first + (k + g)) d

    closed_split : closed ≡ g + closed_after
    closed_split =
        let fuel : r.slots - k ≡ g + (r.slots - (k + g)) = omega (arith, fits) in
        let next : first + k + g ≡ first + (k + g) = omega arith in
        ap (λ (m : ℕ). closed_from r m (first + k) d) fuel
        ∙ closed_behind r g (r.slots - (k + g)) (first + k) d
        (subst (λ (m : ℕ). g ≤ closed_from r m (first + k) d) fuel (omega (arith, closed_is, room)))
        ∙ ap (λ (m : ℕ). g + closed_from r (r.slots - (k + g)) m d) next

    -- the slot behind it is closed, or stale
    ends_there : n + g < first + r.slots → continues (slot r (n + g) c) (n + g) ≡ false
    ends_there beyond = ap (λ (l : List ℕ). continues l (n + g)) (after (n + g) (omega arith) beyond)
        ∙ subst (λ (x : ℕ). continues (slot r x d) x ≡ false) (sym here) (stops_d closed_after refl)
      where
        here : n + g ≡ first + (k + g)
        here = omega (arith, is_n)

        left : r.slots - (k + g) ≡ suc (r.slots - (k + g + 1))
        left = omega (arith, beyond, is_n)

        one_after : closed_after ≡ closed_from r (suc (r.slots - (k + g + 1))) (first + (k + g)) d
        one_after = ap (λ (m : ℕ). closed_from r m (first + (k + g)) d) left

        stops_d : (m : ℕ) → closed_after ≡ m → continues (slot r (first + (k + g)) d) (first + (k + g)) ≡ false
        stops_d (suc m) e = stops_closed (slot r (first + (k + g)) d) (first + (k + g))
            (closed_first r (r.slots - (k + g + 1)) (first + (k + g)) d (omega (arith, one_after, e))).0
        stops_d zero e =
            let many : r.slots - k - closed ≡ suc (r.slots - (k + g + 1)) = omega (arith, closed_split, e, left) in
            let place : first + k + closed ≡ first + (k + g) = omega (arith, closed_split, e) in
            let stale : are_stale r (suc (r.slots - (k + g + 1))) (first + (k + g)) first d
            ≡ true = ap (λ (m : ℕ). are_stale r m (first + (k + g)) first d) (sym many)
            ∙ ap (λ (m : ℕ). are_stale r (r.slots - k - closed) m first d) (sym place) ∙ p.stale in
            stops_other (slot r (first + (k + g)) d) (first + (k + g))
            (omega (arith, stale_first r (r.slots - (k + g + 1)) (first + (k + g)) first d stale))

    n_is : n ≡ first + length (run r first d)
    n_is = is_n ∙ ap (λ (m : ℕ). first + m) (sym p.size)

    added : run r first c ≡ run r first d ++ slots_at r g n c
    added = added_group r r.slots 0 first n g c d n_is
        (whole-commands 0 first (run r first d) t.commands p.read) more
        (omega (arith, fits, is_n)) before led.continues led.group ends_there

    abbrev longer_commands : List Command
    longer_commands = t.commands ++ commands

    size_longer : length longer_commands ≡ k + g
    size_longer = length-append t.commands commands ∙ ap (λ (m : ℕ). k + m) long

    size_added : length (run r first d ++ slots_at r g n c) ≡ k + g
    size_added = omega (arith, length-append (run r first d) (slots_at r g n c), p.size, length-slots_at r g n c)

    added_closed : closed_from r (r.slots - (k + g)) (first + (k + g)) c ≡ closed_after
    added_closed = same_closed r (r.slots - (k + g)) (first + (k + g)) c d
        (λ i lo hi. ap is_open (after i (omega (arith, is_n, lo)) (omega (arith, fits, hi))))

    added_stale : ends_stale r first (k + g) c ≡ ends_stale r first k d
    added_stale =
        let left : r.slots - (k + g) - closed_after ≡ r.slots - k - closed = omega (arith, closed_split) in
        let place : first + (k + g) + closed_after ≡ first + k + closed = omega (arith, closed_split) in
        ap (λ (m : ℕ). are_stale r (r.slots - (k + g) - m) (first + (k + g) + m) first c) added_closed
        ∙ ap (λ (m : ℕ). are_stale r m (first + (k + g) + closed_after) first c) left
        ∙ ap (λ (m : ℕ). are_stale r (r.slots - k - closed) m first c) place
        ∙ stale_same (r.slots - k - closed) (first + k + closed) (omega (arith, is_n, closed_split))
        (omega (arith, few, fits))

    added_room : room_of r first (k + g) c ≡ room_after n (length commands) t.room
    added_room =
        let here : first + (k + g) ≡ n + g = omega (arith, is_n) in
        let less : closed_after ≡ t.room - g = omega (arith, closed_split, closed_is) in
        ap (λ (m : ℕ). if_room (first + (k + g) == LAST) m) (added_closed ∙ less)
        ∙ ap (λ (m : ℕ). if_room (m == LAST) (t.room - g)) here
        ∙ ap (λ (m : ℕ). room_after n m t.room) (sym long)

    -- slots behind the run that are spelled so make it longer
    pub tail_added : tail r first c ≡ Some (longer_tail n commands t)
    tail_added = tail_of r first c (longer_tail n commands t) (record {
      read = ap (λ (l : List (List ℕ)). commands_in 0 first l) added
          ∙ commands_joined 0 first (run r first d) (slots_at r g n c) t.commands commands p.read
          (ap (λ (m : ℕ). commands_in 0 m (slots_at r g n c)) (sym n_is) ∙ led.read);
      size = ap length added ∙ size_added ∙ sym size_longer;
      stale = ap (λ (m : ℕ). ends_stale r first m c) size_longer ∙ added_stale ∙ p.stale;
      room = ap (λ (m : ℕ). room_of r first m c) size_longer ∙ added_room;
    })

    -- and leave its boundaries
    pub boundaries_added : KeepsBoundaries r first d c
    boundaries_added m e = ap (λ (l : List (List ℕ)). is_boundary 0 m l) added
        ∙ boundary-append 0 m (run r first d) (slots_at r g n c) e

-- the end of a run is a boundary
pub boundary_end : (r : Ring) (first : ℕ) (file : List ℕ) (t : Tail) → tail r first file ≡ Some t
    → IsBoundary r first (length t.commands) file
boundary_end r first file t e =
    let p : Parts r first file t = parts_of r first file t e in
    ap (λ (m : ℕ). is_boundary 0 m (run r first file)) (sym p.size)
    ∙ whole-commands 0 first (run r first file) t.commands p.read

-- and no boundary is behind it
pub boundary_few : (r : Ring) (first k : ℕ) (file : List ℕ) (t : Tail) → tail r first file ≡ Some t
    → IsBoundary r first k file → k ≤ length t.commands
boundary_few r first k file t e boundary =
    let p : Parts r first file t = parts_of r first file t e in
    omega (arith, p.size, boundary-low 0 k (run r first file) boundary)

-- rings with the same slots have the same tail
pub tail_moved : (q r : Ring) (first : ℕ) (c d : List ℕ) → q.slots ≡ r.slots → ((i : ℕ) → slot q i c ≡ slot r i d)
    → tail q first c ≡ tail r first d
tail_moved q r first c d slots same =
    let runs : run q first c ≡ run r first d = ap (λ (m : ℕ). run_from q m 0 first c) slots
    ∙ run_moved q r c d same r.slots 0 first in
    tail_is q first c
    ∙ finished_same first (run q first c) (run r first d) (λ n. ends_stale q first n c) (λ n. ends_stale r first n d)
    (λ n. room_of q first n c) (λ n. room_of r first n d)
    runs (stale (length (run r first d)))
    (ap (λ (m : ℕ). if_room (first + length (run r first d) == LAST) m) (gates (length (run r first d))))
    ∙ sym (tail_is r first d)
  where
    gates : (n : ℕ) → behind q first n c ≡ behind r first n d
    gates n = ap (λ (m : ℕ). closed_from q (m - n) (first + n) c) slots
        ∙ closed_moved q r c d same (r.slots - n) (first + n)

    stale : (n : ℕ) → ends_stale q first n c ≡ ends_stale r first n d
    stale n =
        ap (λ (m : ℕ). are_stale q (q.slots - n - m) (first + n + m) first c) (gates n)
        ∙ ap (λ (m : ℕ). are_stale q (m - n - behind r first n d) (first + n + behind r first n d) first c) slots
        ∙ stale_moved q r c d same (r.slots - n - behind r first n d) (first + n + behind r first n d) first

-- files that agree on the ring's bytes have the same tail
pub same_tail : (r : Ring) (first : ℕ) (c d : List ℕ) → 0 < r.slots → length c ≡ length d
    → ((i : ℕ) → r.base ≤ i → i < r.base + 64 * r.slots → get_or c i 0 ≡ get_or d i 0) → tail r first c ≡ tail r first d
same_tail r first c d some size same = tail_moved r r first c d refl
    (λ s. same_slot r s c d size (λ i low high. same i (omega arith) (omega (arith, slot_inside r some s))))

-- and the same boundaries
pub same_boundaries : (r : Ring) (first : ℕ) (c d : List ℕ) → ((s : ℕ) → slot r s c ≡ slot r s d)
    → KeepsBoundaries r first d c
same_boundaries r first c d same m e = ap (λ (l : List (List ℕ)). is_boundary 0 m l)
    (run_moved r r c d same r.slots 0 first) ∙ e

-- what is written before or behind the ring leaves the tail
pub tail_elsewhere : (r : Ring) (first at n : ℕ) (d c : List ℕ) → 0 < r.slots → (at + n ≤ r.base)
    ⊎ (r.base + 64 * r.slots ≤ at) → SameBut at n d c → tail r first c ≡ tail r first d
tail_elsewhere r first at n d c some beside same = same_tail r first c d some same.size
    (λ i low high. same.same i
    (⊎_elim (λ (before : at + n ≤ r.base). inr (omega arith))
    (λ (behind : r.base + 64 * r.slots ≤ at). inl (omega arith)) beside))

-- and the boundaries
pub boundaries_elsewhere : (r : Ring) (first at n : ℕ) (d c : List ℕ) → 0 < r.slots → (at + n ≤ r.base)
    ⊎ (r.base + 64 * r.slots ≤ at) → SameBut at n d c → KeepsBoundaries r first d c
boundaries_elsewhere r first at n d c some beside same = same_boundaries r first c d
    (λ s. same_slot r s c d same.size (λ i low high. same.same i (⊎_elim
    (λ (before : at + n ≤ r.base). inr (omega (arith, before, low)))
    (λ (behind : r.base + 64 * r.slots ≤ at). inl (omega (arith, behind, high, slot_inside r some s)))
    beside)))

none_more : (m : ℕ) → 0 + m ≡ m
none_more m = omega arith

split : (a b : ℕ) → a ≤ b → b ≡ a + (b - a)
split a b le = omega arith

slot_alone : (r : Ring) (file bytes : List ℕ) → 0 < r.slots → bytes ≡ take (64 * r.slots) (drop r.base file)
    → (s : ℕ) → slot (record { base = 0; slots = r.slots }) s bytes ≡ slot r s file
unfolding slot
slot_alone r file bytes some is s =
    let low : s % r.slots < r.slots = mod-lt s some in
    ap (λ (l : List ℕ). take 64 (drop (0 + 64 * (s % r.slots)) l)) is
    ∙ ap (λ (m : ℕ). take 64 (drop m (take (64 * r.slots) (drop r.base file)))) (none_more (64 * (s % r.slots)))
    ∙ ap (λ (m : ℕ). take 64 (drop (64 * (s % r.slots)) (take m (drop r.base file))))
    (split (64 * (s % r.slots)) (64 * r.slots) (omega arith))
    ∙ ap (λ (l : List ℕ). take 64 l)
    (drop-take (64 * (s % r.slots)) (64 * r.slots - 64 * (s % r.slots)) (drop r.base file))
    ∙ take-take 64 (64 * r.slots - 64 * (s % r.slots)) (drop (64 * (s % r.slots)) (drop r.base file)) (omega arith)
    ∙ ap (λ (l : List ℕ). take 64 l) (drop-drop (64 * (s % r.slots)) r.base file)

-- the ring's bytes alone have the tail
pub tail_alone : (r : Ring) (first : ℕ) (file bytes : List ℕ) → 0 < r.slots → bytes
    ≡ take (64 * r.slots) (drop r.base file) → tail (record { base = 0; slots = r.slots }) first bytes
    ≡ tail r first file
tail_alone r first file bytes some is = tail_moved (record { base = 0; slots = r.slots }) r first bytes file refl
    (slot_alone r file bytes some is)

-- closed gates all round are no commands, and room in each slot
pub tail_closed : (r : Ring) (file : List ℕ) → 0 < r.slots → AreClosed r file → tail r 0 file
    ≡ Some (record { commands = []; room = r.slots })
tail_closed r file some closed = tail_of r 0 file (record { commands = []; room = r.slots }) (record {
  read = ap (λ (l : List (List ℕ)). commands_in 0 0 l) none;
  size = ap length none;
  stale = ap (λ (m : ℕ). are_stale r (r.slots - 0 - m) (0 + 0 + m) 0 file) all
      ∙ ap (λ (m : ℕ). are_stale r m (0 + 0 + r.slots) 0 file) over;
  room = all;
})
  where
    over : r.slots - 0 - r.slots ≡ 0
    over = omega arith

    shut : (i : ℕ) → i < r.slots → is_open (slot r i file) ≡ false
    shut i lt = closed_gate r i file
        (λ e. closed i lt (ap (λ (m : ℕ). get_or file (r.base + 64 * m) 0) (sym (mod-eq_of_lt lt)) ∙ e))

    none : run r 0 file ≡ []
    none = stops r r.slots 0 file (λ more. stops_closed (slot r 0 file) 0 (shut 0 some))

    all : closed_from r (r.slots - 0) (0 + 0) file ≡ r.slots
    all = ap (λ (m : ℕ). closed_from r m 0 file) whole
        ∙ all_closed r r.slots 0 file (λ i low high. shut i (omega arith))
      where
        whole : r.slots - 0 ≡ r.slots
        whole = omega arith
