-- How a run, and what is behind it, depend on the slots.
use Rattle.std.proofs.Common.{◌≡◌, ℕ, zero, suc, ◌+◌, ◌-◌, ◌<◌, ◌≤◌, Bool, true, false, ◌&&◌, ◌⊎◌, List, [], ◌∷◌, ◌++◌}
use Rattle.std.proofs.Common.{length, drop, if◌then◌else◌, nat_lt, ◌==◌, Some, None, Option, sym, refl, ap, ◌∙◌, subst}
use Rattle.std.proofs.Common.{inl, inr, arith, ltb-true}
use Rattle.im_types.specs.Types.{Command, is_open, group_of, sequence_of, read_in, Ring, next_if, run_from, with_first}
use Rattle.im_types.specs.Types.{if_true, leads, commands_in, is_boundary, closed_from, are_stale, slot, continues}
use Rattle.im_types.proofs.Tests.{and_both}

pub bool_cases : (b : Bool) → (b ≡ true) ⊎ (b ≡ false)
bool_cases true = inl refl
bool_cases false = inr refl

module _ (r : Ring) where
  pub stops : (k s : ℕ) (c : List ℕ) → (0 < k → continues (slot r s c) s ≡ false) → run_from r k 0 s c ≡ []
  stops zero s c shut = refl
  stops (suc k) s c shut = ap
      (λ (b : Bool). next_if b (slot r s c) (run_from r k (group_of (slot r s c) - 1) (s + 1) c)) (shut (omega arith))

  pub goes : (k s : ℕ) (c : List ℕ) → continues (slot r s c) s ≡ true → run_from r (suc k) 0 s c
      ≡ slot r s c ∷ run_from r k (group_of (slot r s c) - 1) (s + 1) c
  goes k s c open_gate = ap
      (λ (b : Bool). next_if b (slot r s c) (run_from r k (group_of (slot r s c) - 1) (s + 1) c)) open_gate

  -- the same slots, and no more of them
  pub same_run : (k due s : ℕ) (c d : List ℕ)
      → ((i : ℕ) → s ≤ i → i < s + length (run_from r k due s d) → slot r i c ≡ slot r i d)
      → (length (run_from r k due s d) < k → (e : ℕ) → e ≡ s + length (run_from r k due s d)
      → continues (slot r e c) e ≡ false)
      → run_from r k due s c ≡ run_from r k due s d
  same_run zero due s c d same ends = refl
  same_run (suc k) (suc due) s c d same ends =
      let here : slot r s c ≡ slot r s d = same s (omega arith) (omega arith) in
      ap (λ (l : List ℕ). l ∷ run_from r k due (s + 1) c) here
      ∙ ap (λ (l : List (List ℕ)). slot r s d ∷ l)
      (same_run k due (s + 1) c d (λ i low high. same i (omega (arith, low)) (omega (arith, high)))
      (λ lt e is_e. ends (omega (arith, lt)) e (omega (arith, is_e))))
  same_run (suc k) zero s c d same ends = elim (bool_cases (continues (slot r s d) s)) [
    | inl is ↦
        let run_d : run_from r (suc k) 0 s d
        ≡ slot r s d ∷ run_from r k (group_of (slot r s d) - 1) (s + 1) d = goes k s d is in
        let long : length (run_from r (suc k) 0 s d)
        ≡ suc (length (run_from r k (group_of (slot r s d) - 1) (s + 1) d)) = ap length run_d in
        let here : slot r s c ≡ slot r s d = same s (omega arith) (omega (arith, long)) in
        let rest : run_from r k (group_of (slot r s d) - 1) (s + 1) c
        ≡ run_from r k (group_of (slot r s d) - 1) (s + 1) d =
        same_run k (group_of (slot r s d) - 1) (s + 1) c d
        (λ i low high. same i (omega (arith, low)) (omega (arith, long, high)))
        (λ lt e is_e. ends (omega (arith, long, lt)) e (omega (arith, long, is_e))) in
        goes k s c (ap (λ (l : List ℕ). continues l s) here ∙ is)
        ∙ ap (λ (l : List ℕ). l ∷ run_from r k (group_of l - 1) (s + 1) c) here
        ∙ ap (λ (l : List (List ℕ)). slot r s d ∷ l) rest ∙ sym run_d
    | inr is ↦
        let run_d : run_from r (suc k) 0 s d ≡ [] = stops (suc k) s d (λ some. is) in
        let none : length (run_from r (suc k) 0 s d) ≡ 0 = ap length run_d in
        stops (suc k) s c (λ some. ends (omega (arith, none)) s (omega (arith, none))) ∙ sym run_d
  ]

  -- so many slots from a sequence number on
  abbrev pub slots_at : ℕ → ℕ → List ℕ → List (List ℕ)
  slots_at zero s c = []
  slots_at (suc g) s c = slot r s c ∷ slots_at g (s + 1) c

  pub length-slots_at : (g s : ℕ) (c : List ℕ) → length (slots_at g s c) ≡ g
  length-slots_at zero s c = refl
  length-slots_at (suc g) s c = ap (λ (n : ℕ). suc n) (length-slots_at g (s + 1) c)

  -- the followers of a group, behind which the run ends
  followers : (g k s : ℕ) (c : List ℕ) → g ≤ k → (g < k → continues (slot r (s + g) c) (s + g) ≡ false)
      → run_from r k g s c ≡ slots_at g s c
  followers zero k s c few ends =
      let here : s ≡ s + 0 = omega arith in
      stops k s c (λ some. subst (λ (m : ℕ). continues (slot r m c) m ≡ false) (sym here) (ends some))
  followers (suc g) zero s c few ends = absurd (omega (arith, few))
  followers (suc g) (suc k) s c few ends =
      let next : s + suc g ≡ s + 1 + g = omega arith in
      ap (λ l. slot r s c ∷ l)
      (followers g k (s + 1) c (omega (arith, few))
      (λ less. subst (λ (m : ℕ). continues (slot r m c) m ≡ false) next (ends (omega arith))))

  -- a whole group, behind which the run ends
  pub group_runs : (g k n : ℕ) (c : List ℕ) → 0 < g → g ≤ k → continues (slot r n c) n ≡ true → group_of (slot r n c)
      ≡ g
      → (g < k → continues (slot r (n + g) c) (n + g) ≡ false) → run_from r k 0 n c ≡ slots_at g n c
  group_runs zero k n c some few leads counts ends = absurd (omega arith)
  group_runs (suc g) zero n c some few leads counts ends = absurd (omega (arith, few))
  group_runs (suc g) (suc k) n c some few leads counts ends =
      let due : group_of (slot r n c) - 1 ≡ g = omega (arith, counts) in
      let next : n + suc g ≡ n + 1 + g = omega arith in
      goes k n c leads
      ∙ ap (λ d. slot r n c ∷ run_from r k d (n + 1) c) due
      ∙ ap (λ l. slot r n c ∷ l)
      (followers g k (n + 1) c (omega (arith, few))
      (λ less. subst (λ (m : ℕ). continues (slot r m c) m ≡ false) next (ends (omega arith))))

  -- A group more. The run d is whole: none of its followers is missing.
  pub added_group : (k due s n g : ℕ) (c d : List ℕ) → n ≡ s + length (run_from r k due s d)
      → is_boundary due (length (run_from r k due s d)) (run_from r k due s d) ≡ true
      → 0 < g → n + g ≤ s + k → ((i : ℕ) → s ≤ i → i < n → slot r i c ≡ slot r i d)
      → continues (slot r n c) n ≡ true → group_of (slot r n c) ≡ g
      → (n + g < s + k → continues (slot r (n + g) c) (n + g) ≡ false)
      → run_from r k due s c ≡ run_from r k due s d ++ slots_at g n c
  added_group zero due s n g c d count whole some room same leads counts ends = absurd
      (omega (arith, count, some, room))
  added_group (suc k) (suc due) s n g c d count whole some room same leads counts ends =
      let here : slot r s c ≡ slot r s d = same s (omega arith) (omega (arith, count)) in
      ap (λ l. l ∷ run_from r k due (s + 1) c) here
      ∙ ap (λ l. slot r s d ∷ l)
      (added_group k due (s + 1) n g c d (omega (arith, count)) whole some (omega (arith, room))
      (λ i low high. same i (omega (arith, low)) high) leads counts (λ less. ends (omega (arith, less))))
  added_group (suc k) zero s n g c d count whole some room same leads counts ends = elim
      (bool_cases (continues (slot r s d) s)) [
        | inl is ↦
            let run_d : run_from r (suc k) 0 s d
            ≡ slot r s d ∷ run_from r k (group_of (slot r s d) - 1) (s + 1) d = goes k s d is in
            let long : length (run_from r (suc k) 0 s d)
            ≡ suc (length (run_from r k (group_of (slot r s d) - 1) (s + 1) d)) = ap length run_d in
            let here : slot r s c ≡ slot r s d = same s (omega arith) (omega (arith, count, long)) in
            let due_is : group_of (slot r s c) - 1 ≡ group_of (slot r s d) - 1 = ap (λ l. group_of l - 1) here in
            let whole_rest : is_boundary (group_of (slot r s d) - 1)
            (length (run_from r k (group_of (slot r s d) - 1) (s + 1) d))
            (run_from r k (group_of (slot r s d) - 1) (s + 1) d) ≡ true
            = subst (λ (l : List (List ℕ)). is_boundary 0 (length l) l ≡ true) run_d whole in
            let rest = added_group k (group_of (slot r s d) - 1) (s + 1) n g c d
            (omega (arith, count, long)) whole_rest some (omega (arith, room))
            (λ i low high. same i (omega (arith, low)) high) leads counts (λ less. ends (omega (arith, less))) in
            goes k s c (ap (λ (l : List ℕ). continues l s) here ∙ is)
            ∙ ap (λ d0. slot r s c ∷ run_from r k d0 (s + 1) c) due_is
            ∙ ap (λ l. l ∷ run_from r k (group_of (slot r s d) - 1) (s + 1) c) here
            ∙ ap (λ l. slot r s d ∷ l) rest
            ∙ ap (λ (l : List (List ℕ)). l ++ slots_at g n c) (sym run_d)
        | inr is ↦
            let run_d : run_from r (suc k) 0 s d ≡ [] = stops (suc k) s d (λ more. is) in
            let none : length (run_from r (suc k) 0 s d) ≡ 0 = ap length run_d in
            let first : n ≡ s = omega (arith, count, none) in
            let lead : continues (slot r s c) s
            ≡ true = subst (λ (m : ℕ). continues (slot r m c) m ≡ true) first leads in
            group_runs g (suc k) s c some (omega (arith, room, first)) lead
            (subst (λ (m : ℕ). group_of (slot r m c) ≡ g) first counts)
            (λ less. subst (λ (m : ℕ). continues (slot r (m + g) c) (m + g) ≡ false) first
            (ends (omega (arith, less, first))))
            ∙ ap (λ (m : ℕ). slots_at g m c) (sym first) ∙ ap (λ (l : List (List ℕ)). l ++ slots_at g n c) (sym run_d)
      ]

  -- closed gates behind a run
  abbrev counted : Bool → ℕ → ℕ
  counted b n = if b then 0 else suc n

  pub same_closed : (n s : ℕ) (c d : List ℕ)
      → ((i : ℕ) → s ≤ i → i < s + n → is_open (slot r i c) ≡ is_open (slot r i d)) → closed_from r n s c
      ≡ closed_from r n s d
  same_closed zero s c d same = refl
  same_closed (suc n) s c d same =
      ap (λ (b : Bool). counted b (closed_from r n (s + 1) c)) (same s (omega arith) (omega arith))
      ∙ ap (λ (m : ℕ). counted (is_open (slot r s d)) m)
      (same_closed n (s + 1) c d (λ i low high. same i (omega arith) (omega arith)))

  pub all_closed : (n s : ℕ) (c : List ℕ) → ((i : ℕ) → s ≤ i → i < s + n → is_open (slot r i c) ≡ false)
      → closed_from r n s c ≡ n
  all_closed zero s c shut = refl
  all_closed (suc n) s c shut =
      ap (λ (b : Bool). counted b (closed_from r n (s + 1) c)) (shut s (omega arith) (omega arith))
      ∙ ap (λ (m : ℕ). suc m) (all_closed n (s + 1) c (λ i low high. shut i (omega arith) (omega arith)))

  pub closed_at_most : (n s : ℕ) (c : List ℕ) → closed_from r n s c ≤ n
  closed_at_most zero s c = omega arith
  closed_at_most (suc n) s c = counted_at_most (is_open (slot r s c)) (closed_from r n (s + 1) c) n
      (closed_at_most n (s + 1) c)
    where
      counted_at_most : (b : Bool) (m k : ℕ) → m ≤ k → counted b m ≤ suc k
      counted_at_most true m k le = omega arith
      counted_at_most false m k le = omega arith

  open_or : (b : Bool) (m : ℕ) → 0 < counted b m → (b ≡ false) × (counted b m ≡ suc m)
  open_or true m some = absurd (omega arith)
  open_or false m some = (refl, refl)

  -- the first of some closed gates
  pub closed_first : (n s : ℕ) (c : List ℕ) → 0 < closed_from r (suc n) s c → (is_open (slot r s c) ≡ false)
      × (closed_from r (suc n) s c ≡ suc (closed_from r n (s + 1) c))
  closed_first n s c some = open_or (is_open (slot r s c)) (closed_from r n (s + 1) c) some

  -- behind the first of some closed gates come the others
  pub closed_behind : (g m s : ℕ) (c : List ℕ) → g ≤ closed_from r (g + m) s c → closed_from r (g + m) s c
      ≡ g + closed_from r m (s + g) c
  closed_behind zero m s c some =
      let none : 0 + m ≡ m = omega arith in
      let here : s ≡ s + 0 = omega arith in
      (λ i. closed_from r (none i) (here i) c) ∙ sym (none_more (closed_from r m (s + 0) c))
    where
      none_more : (n : ℕ) → 0 + n ≡ n
      none_more n = omega arith
  closed_behind (suc g) m s c some =
      let fuel : suc g + m ≡ suc (g + m) = omega arith in
      let next : s + 1 + g ≡ s + suc g = omega arith in
      let one = closed_first (g + m) s c (subst (λ (n : ℕ). 0 < closed_from r n s c) fuel (omega (arith, some))) in
      let whole : closed_from r (suc g + m) s c
      ≡ suc (closed_from r (g + m) (s + 1) c) = ap (λ (n : ℕ). closed_from r n s c) fuel ∙ one.1 in
      let rest : closed_from r (g + m) (s + 1) c
      ≡ g + closed_from r m (s + 1 + g) c = closed_behind g m (s + 1) c (omega (arith, some, whole)) in
      let after : closed_from r m (s + 1 + g) c
      ≡ closed_from r m (s + suc g) c = ap (λ (n : ℕ). closed_from r m n c) next in
      omega (arith, whole, rest, after)

  pub same_stale : (n s first : ℕ) (c d : List ℕ) → ((i : ℕ) → s ≤ i → i < s + n → slot r i c ≡ slot r i d)
      → are_stale r n s first c ≡ are_stale r n s first d
  same_stale zero s first c d same = refl
  same_stale (suc n) s first c d same =
      ap (λ (l : List ℕ). nat_lt (sequence_of l) first && are_stale r n (s + 1) first c)
      (same s (omega arith) (omega arith))
      ∙ ap (λ (b : Bool). nat_lt (sequence_of (slot r s d)) first && b)
      (same_stale n (s + 1) first c d (λ i low high. same i (omega arith) (omega arith)))

  pub stale_first : (n s first : ℕ) (c : List ℕ) → are_stale r (suc n) s first c ≡ true
      → sequence_of (slot r s c) < first
  stale_first n s first c stale = ltb-true (sequence_of (slot r s c)) first
      (and_both (nat_lt (sequence_of (slot r s c)) first) (are_stale r n (s + 1) first c) stale).0

-- rings with the same slots
module _ (q r : Ring) (c d : List ℕ) (same : (i : ℕ) → slot q i c ≡ slot r i d) where
  pub run_moved : (k due s : ℕ) → run_from q k due s c ≡ run_from r k due s d
  run_moved zero due s = refl
  run_moved (suc k) zero s =
      ap (λ (l : List ℕ). next_if (continues l s) l (run_from q k (group_of l - 1) (s + 1) c)) (same s)
      ∙ ap (λ (rest : List (List ℕ)). next_if (continues (slot r s d) s) (slot r s d) rest)
      (run_moved k (group_of (slot r s d) - 1) (s + 1))
  run_moved (suc k) (suc due) s =
      ap (λ (l : List ℕ). l ∷ run_from q k due (s + 1) c) (same s)
      ∙ ap (λ (rest : List (List ℕ)). slot r s d ∷ rest) (run_moved k due (s + 1))

  pub closed_moved : (n s : ℕ) → closed_from q n s c ≡ closed_from r n s d
  closed_moved zero s = refl
  closed_moved (suc n) s =
      ap (λ (l : List ℕ). counted q (is_open l) (closed_from q n (s + 1) c)) (same s)
      ∙ ap (λ (m : ℕ). counted q (is_open (slot r s d)) m) (closed_moved n (s + 1))

  pub stale_moved : (n s first : ℕ) → are_stale q n s first c ≡ are_stale r n s first d
  stale_moved zero s first = refl
  stale_moved (suc n) s first =
      ap (λ (l : List ℕ). nat_lt (sequence_of l) first && are_stale q n (s + 1) first c) (same s)
      ∙ ap (λ (b : Bool). nat_lt (sequence_of (slot r s d)) first && b) (stale_moved n (s + 1) first)

-- the commands of slots
pub firsts : (o : Option Command) (rest : Option (List Command)) (cs : List Command) → with_first o rest ≡ Some cs
    → (c : Command) × (ds : List Command) × (o ≡ Some c) × (rest ≡ Some ds) × (cs ≡ c ∷ ds)
firsts None rest cs e = absurd (cc)
firsts (Some c) None cs e = absurd (cc)
firsts (Some c) (Some ds) cs e = (c, ds, refl, refl, cc)

-- a slot is read where its test holds
pub test_true : (b : Bool) (o : Option Command) (c : Command) → if_true b o ≡ Some c → b ≡ true
test_true true o c e = refl
test_true false o c e = absurd (cc)

pub length-commands : (due s : ℕ) (slots : List (List ℕ)) (cs : List Command) → commands_in due s slots ≡ Some cs
    → length cs ≡ length slots
length-commands zero s [] cs e = let same : [] ≡ cs = cc in ap length (sym same)
length-commands (suc due) s [] cs e = absurd (cc)
length-commands zero s (slot ∷ slots) cs e =
    let parts = firsts (if_true (leads s slot) (read_in (group_of slot) slot))
    (commands_in (group_of slot - 1) (s + 1) slots) cs e in
    let size : length parts.1 ≡ length slots = length-commands (group_of slot - 1) (s + 1) slots parts.1 parts.3 in
    let whole : length cs ≡ suc (length parts.1) = ap length parts.4 in
    omega arith
length-commands (suc due) s (slot ∷ slots) cs e =
    let parts = firsts (if_true (sequence_of slot == s) (read_in 0 slot)) (commands_in due (s + 1) slots) cs e in
    let size : length parts.1 ≡ length slots = length-commands due (s + 1) slots parts.1 parts.3 in
    let whole : length cs ≡ suc (length parts.1) = ap length parts.4 in
    omega arith

-- what is spelled is whole groups
pub whole-commands : (due s : ℕ) (slots : List (List ℕ)) (cs : List Command) → commands_in due s slots ≡ Some cs
    → is_boundary due (length slots) slots ≡ true
whole-commands zero s [] cs e = refl
whole-commands (suc due) s [] cs e = absurd (cc)
whole-commands zero s (slot ∷ slots) cs e =
    let parts = firsts (if_true (leads s slot) (read_in (group_of slot) slot))
    (commands_in (group_of slot - 1) (s + 1) slots) cs e in
    whole-commands (group_of slot - 1) (s + 1) slots parts.1 parts.3
whole-commands (suc due) s (slot ∷ slots) cs e =
    let parts = firsts (if_true (sequence_of slot == s) (read_in 0 slot)) (commands_in due (s + 1) slots) cs e in
    whole-commands due (s + 1) slots parts.1 parts.3

-- a boundary stays where slots come behind
pub boundary-append : (due k : ℕ) (slots more : List (List ℕ)) → is_boundary due k slots ≡ true
    → is_boundary due k (slots ++ more) ≡ true
boundary-append zero zero slots more e = refl
boundary-append (suc due) zero slots more e = absurd (cc)
boundary-append zero (suc k) [] more e = absurd (cc)
boundary-append (suc due) (suc k) [] more e = absurd (cc)
boundary-append zero (suc k) (slot ∷ slots) more e = boundary-append (group_of slot - 1) k slots more e
boundary-append (suc due) (suc k) (slot ∷ slots) more e = boundary-append due k slots more e

-- no boundary is behind the last slot
pub boundary-low : (due k : ℕ) (slots : List (List ℕ)) → is_boundary due k slots ≡ true → k ≤ length slots
boundary-low due zero slots e = omega arith
boundary-low zero (suc k) [] e = absurd (cc)
boundary-low (suc due) (suc k) [] e = absurd (cc)
boundary-low zero (suc k) (slot ∷ slots) e = omega (arith, boundary-low (group_of slot - 1) k slots e)
boundary-low (suc due) (suc k) (slot ∷ slots) e = omega (arith, boundary-low due k slots e)

-- a part of the commands, behind a boundary, is what the slots there spell
pub behind_boundary : (due s k : ℕ) (slots : List (List ℕ)) (cs : List Command) → commands_in due s slots ≡ Some cs
    → is_boundary due k slots ≡ true → commands_in 0 (s + k) (drop k slots) ≡ Some (drop k cs)
behind_boundary zero s zero slots cs e b = ap (λ n. commands_in 0 n slots) (omega arith) ∙ e
behind_boundary (suc due) s zero slots cs e b = absurd (cc)
behind_boundary zero s (suc k) [] cs e b = absurd (cc)
behind_boundary (suc due) s (suc k) [] cs e b = absurd (cc)
behind_boundary zero s (suc k) (slot ∷ slots) cs e b =
    let p = firsts (if_true (leads s slot) (read_in (group_of slot) slot))
    (commands_in (group_of slot - 1) (s + 1) slots) cs e in
    let n : s + suc k ≡ s + 1 + k = omega arith in
    ap (λ m. commands_in 0 m (drop k slots)) n ∙ behind_boundary (group_of slot - 1) (s + 1) k slots p.1 p.3 b
    ∙ ap (λ l. Some (drop (suc k) l)) (sym p.4)
behind_boundary (suc due) s (suc k) (slot ∷ slots) cs e b =
    let p = firsts (if_true (sequence_of slot == s) (read_in 0 slot)) (commands_in due (s + 1) slots) cs e in
    let n : s + suc k ≡ s + 1 + k = omega arith in
    ap (λ m. commands_in 0 m (drop k slots)) n ∙ behind_boundary due (s + 1) k slots p.1 p.3 b
    ∙ ap (λ l. Some (drop (suc k) l)) (sym p.4)

-- a whole group behind a run: its commands come behind the run's
pub commands_joined : (due s : ℕ) (slots more : List (List ℕ)) (cs ds : List Command) → commands_in due s slots
    ≡ Some cs → commands_in 0 (s + length slots) more ≡ Some ds → commands_in due s (slots ++ more) ≡ Some (cs ++ ds)
commands_joined zero s [] more cs ds e f =
    let none : ◌≡◌ {A = List Command} [] cs = cc in
    let n : s ≡ s + 0 = omega arith in
    ap (λ m. commands_in 0 m more) n ∙ f ∙ ap (λ l. Some (l ++ ds)) none
commands_joined (suc due) s [] more cs ds e f = absurd (cc)
commands_joined zero s (slot ∷ slots) more cs ds e f =
    let p = firsts (if_true (leads s slot) (read_in (group_of slot) slot))
    (commands_in (group_of slot - 1) (s + 1) slots) cs e in
    let n : s + 1 + length slots ≡ s + suc (length slots) = omega arith in
    let rest = commands_joined (group_of slot - 1) (s + 1) slots more p.1 ds p.3
    (ap (λ m. commands_in 0 m more) n ∙ f) in
    ap (λ o. with_first o (commands_in (group_of slot - 1) (s + 1) (slots ++ more))) p.2
    ∙ ap (λ o. with_first (Some p.0) o) rest ∙ ap (λ l. Some (l ++ ds)) (sym p.4)
commands_joined (suc due) s (slot ∷ slots) more cs ds e f =
    let p = firsts (if_true (sequence_of slot == s) (read_in 0 slot)) (commands_in due (s + 1) slots) cs e in
    let n : s + 1 + length slots ≡ s + suc (length slots) = omega arith in
    let rest = commands_joined due (s + 1) slots more p.1 ds p.3 (ap (λ m. commands_in 0 m more) n ∙ f) in
    ap (λ o. with_first o (commands_in due (s + 1) (slots ++ more))) p.2 ∙ ap (λ o. with_first (Some p.0) o) rest
    ∙ ap (λ l. Some (l ++ ds)) (sym p.4)
