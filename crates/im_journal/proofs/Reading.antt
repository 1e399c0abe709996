-- How the run and what is behind it are read slot by slot.
use Rattle.std.proofs.Common.{◌≡◌, ℕ, zero, suc, ◌+◌, ◌-◌, ◌<◌, ◌≤◌, Bool, true, false, ◌&&◌, List, [], ◌∷◌, ◌++◌}
use Rattle.std.proofs.Common.{length, if◌then◌else◌, nat_lt, nat_le, ◌==◌, Some, None, Option, option_map}
use Rattle.std.proofs.Common.{option_and_then, sym, refl, ap, ◌∙◌, append_assoc, arith, ltb-true, leb-true}
use Rattle.im_types.specs.Types.{Command, MAX_GROUP, LAST, is_open, group_of, sequence_of, read_in, Ring, run_from, run}
use Rattle.im_types.specs.Types.{with_first, leads, member, due_after, commands_in, closed_from, are_stale, behind}
use Rattle.im_types.specs.Types.{ends_stale, room_of, tail_if, slot, continues, tail}
use Rattle.im_types.proofs.Tests.{and_both}
use Rattle.im_journal.proofs.{Runs.goes, Runs.length-commands, Runs.stops, Runs.test_true, Tails.tail_is}

-- commands, and those behind them
abbrev pub behind_these : List Command → Option (List Command) → Option (List Command)
behind_these cs o = option_map (λ rest. cs ++ rest) o

pub behind-first : (cs : List Command) (c : Command) (o : Option (List Command))
    → behind_these cs (with_first (Some c) o) ≡ behind_these (cs ++ c ∷ []) o
behind-first cs c None = refl
behind-first cs c (Some ds) = ap (λ (l : List Command). Some l) (sym (append_assoc cs (c ∷ []) ds))

-- a group ends at the last number there is, or before it
pub last_after : (due s : ℕ) (bytes : List ℕ) (c : Command) → member due s bytes ≡ Some c → s + due ≤ LAST
    → s + 1 + due_after due bytes ≤ LAST
last_after zero s bytes c is low =
    let both = and_both (nat_lt 0 (group_of bytes) && nat_le (group_of bytes) MAX_GROUP)
    (nat_le (s + group_of bytes) LAST) (test_true (leads s bytes) (read_in (group_of bytes) bytes) c is) in
    let some = and_both (nat_lt 0 (group_of bytes)) (nat_le (group_of bytes) MAX_GROUP) both.0 in
    omega (arith, ltb-true 0 (group_of bytes) some.0, leb-true (s + group_of bytes) LAST both.1)
last_after (suc due) s bytes c is low = omega (arith, low)

module _ (r : Ring) (file : List ℕ) (n i s : ℕ) (lt : i < n) where
  left : n - i ≡ suc (n - (i + 1))
  left = omega arith

  further : s + i + 1 ≡ s + (i + 1)
  further = omega arith

  abbrev here : List ℕ
  here = slot r (s + i) file

  abbrev rest : ℕ → Option (List Command)
  rest due = commands_in due (s + i) (run_from r (n - i) due (s + i) file)

  abbrev after_from : ℕ → ℕ → Option (List Command)
  after_from due t = commands_in due t (run_from r (n - (i + 1)) due t file)

  abbrev after : ℕ → Option (List Command)
  after due = after_from due (s + (i + 1))

  run_here : (due : ℕ) → run_from r (n - i) due (s + i) file ≡ run_from r (suc (n - (i + 1))) due (s + i) file
  run_here due = ap (λ (k : ℕ). run_from r k due (s + i) file) left

  -- the run stops here
  pub commands_end : (due : ℕ) → due ≡ 0 → continues (slot r (s + i) file) (s + i) ≡ false → rest due ≡ Some []
  commands_end due none shut =
      ap (λ (d : ℕ). rest d) none
      ∙ ap (λ (l : List (List ℕ)). commands_in 0 (s + i) l)
      (run_here 0 ∙ stops r (suc (n - (i + 1))) (s + i) file (λ some. shut))

  -- it goes on with a leader, or with a follower that is due
  opened : (due : ℕ) → (due ≡ 0 → continues (slot r (s + i) file) (s + i) ≡ true) → rest due
      ≡ with_first (member due (s + i) here) (after_from (due_after due here) (s + i + 1))
  opened zero goes_on = ap (λ (l : List (List ℕ)). commands_in 0 (s + i) l)
      (run_here 0 ∙ goes r (n - (i + 1)) (s + i) file (goes_on refl))
  opened (suc due) goes_on = ap (λ (l : List (List ℕ)). commands_in (suc due) (s + i) l) (run_here (suc due))

  -- its slot is ill spelled
  pub commands_bad : (due : ℕ) → (due ≡ 0 → continues (slot r (s + i) file) (s + i) ≡ true)
      → member due (s + i) (slot r (s + i) file) ≡ None → rest due ≡ None
  commands_bad due goes_on bad = opened due goes_on
      ∙ ap (λ (o : Option Command). with_first o (after_from (due_after due here) (s + i + 1))) bad

  -- it is spelled as it should be
  pub commands_more : (due : ℕ) (c : Command) (cs : List Command)
      → (due ≡ 0 → continues (slot r (s + i) file) (s + i) ≡ true) → member due (s + i) (slot r (s + i) file) ≡ Some c
      → behind_these cs (rest due) ≡ behind_these (cs ++ c ∷ []) (after (due_after due (slot r (s + i) file)))
  commands_more due c cs goes_on good =
      ap (λ (o : Option (List Command)). behind_these cs o)
      (opened due goes_on
      ∙ ap (λ (o : Option Command). with_first o (after_from (due_after due here) (s + i + 1))) good
      ∙ ap (λ (t : ℕ). with_first (Some c) (after_from (due_after due here) t)) further)
      ∙ behind-first cs c (after (due_after due here))

  abbrev counted : Bool → ℕ → ℕ
  counted b m = if b then 0 else suc m

  closed_here : closed_from r (n - i) (s + i) file
      ≡ counted (is_open (slot r (s + i) file)) (closed_from r (n - (i + 1)) (s + (i + 1)) file)
  closed_here =
      ap (λ (k : ℕ). closed_from r k (s + i) file) left
      ∙ ap (λ (t : ℕ). counted (is_open (slot r (s + i) file)) (closed_from r (n - (i + 1)) t file)) further

  pub closed_more : is_open (slot r (s + i) file) ≡ false → closed_from r (n - i) (s + i) file
      ≡ suc (closed_from r (n - (i + 1)) (s + (i + 1)) file)
  closed_more shut = closed_here ∙ ap (λ (b : Bool). counted b (closed_from r (n - (i + 1)) (s + (i + 1)) file)) shut

  stale_here : (first : ℕ) → are_stale r (n - i) (s + i) first file
      ≡ (nat_lt (sequence_of (slot r (s + i) file)) first && are_stale r (n - (i + 1)) (s + (i + 1)) first file)
  stale_here first =
      ap (λ (k : ℕ). are_stale r k (s + i) first file) left
      ∙ ap (λ (t : ℕ). nat_lt (sequence_of (slot r (s + i) file)) first && are_stale r
      (n - (i + 1)) t first file) further

  pub stale_more : (first : ℕ) → nat_lt (sequence_of (slot r (s + i) file)) first ≡ true
      → are_stale r (n - i) (s + i) first file ≡ are_stale r (n - (i + 1)) (s + (i + 1)) first file
  stale_more first test = stale_here first
      ∙ ap (λ (b : Bool). b && are_stale r (n - (i + 1)) (s + (i + 1)) first file) test

abbrev room_if : Bool → ℕ → ℕ
room_if b k = if b then 0 else k

-- the tail, of the run's commands
module _ (r : Ring) (first : ℕ) (file : List ℕ) where
  pub tail_unread : commands_in 0 first (run r first file) ≡ None → tail r first file ≡ None
  tail_unread none = tail_is r first file
      ∙ ap (λ (o : Option (List Command)). option_and_then
      (tail_if (ends_stale r first (length (run r first file)) file)
      (room_of r first (length (run r first file)) file)) o) none

  module _ (cs : List Command) (reads : commands_in 0 first (run r first file) ≡ Some cs) where
    same_size : length (run r first file) ≡ length cs
    same_size = sym (length-commands 0 first (run r first file) cs reads)

    pub tail_read : tail r first file
        ≡ tail_if (ends_stale r first (length cs) file) (room_of r first (length cs) file) cs
    tail_read =
        tail_is r first file
        ∙ ap (λ (o : Option (List Command)). option_and_then
        (tail_if (ends_stale r first (length (run r first file)) file)
        (room_of r first (length (run r first file)) file)) o) reads
        ∙ ap (λ (n : ℕ). tail_if (ends_stale r first n file) (room_of r first n file) cs) same_size

    -- by how many gates are closed, and whether what is behind them is stale
    pub tail_found : (n m closed room : ℕ) (stale : Bool) → n ≡ length cs → m ≡ length cs → closed
        ≡ closed_from r (r.slots - m) (first + n) file → stale
        ≡ are_stale r (r.slots - m - closed) (first + n + closed) first file
        → room ≡ (if first + n == LAST then 0 else closed) → tail r first file ≡ tail_if stale room cs
    tail_found n m closed room stale is_n is_m is_closed is_stale is_room =
        let gates : closed ≡ behind r first (length cs) file = is_closed
        ∙ (λ i. closed_from r (r.slots - is_m i) (first + is_n i) file) in
        let tested : stale ≡ ends_stale r first (length cs) file = is_stale
        ∙ (λ i. are_stale r (r.slots - is_m i - gates i) (first + is_n i + gates i) first file) in
        let left_room : room ≡ room_of r first (length cs) file = is_room
        ∙ (λ i. room_if (first + is_n i == LAST) (gates i)) in
        tail_read ∙ (λ i. tail_if (sym tested i) (sym left_room i) cs)
