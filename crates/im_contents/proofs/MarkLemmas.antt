-- Marks, counted.
use Rattle.std.proofs.Common.{◌≡◌, ℕ, zero, suc, ◌+◌, ◌<◌, ◌≤◌, Bool, true, false, cond, not, ◌&&◌, ◌⊎◌, List, [], ◌∷◌}
use Rattle.std.proofs.Common.{length, get_or, set, replicate, if◌then◌else◌, ◌==◌, Some, None, count_by, sym, refl, ap}
use Rattle.std.proofs.Common.{◌∙◌, inl, inr, ⊎_elim, true≢false, arith, get_or-set_other, get_or-set_same, eq-eqb}
use Rattle.std.proofs.Common.{ne_eqb}
use Rattle.std.proofs.lemmas.Bool.{and_parts, cases_eq, cases_lt}
use Rattle.std.proofs.lemmas.List.{get_or-replicate, get_or_default, get_or_past, length-replicate, Sums.sum_by-set}
use Rattle.im_types.specs.Types.{Waiter, NONE, NodeRecord, ListNode, FreeNode, bit, is_listed}
use Rattle.im_contents.specs.Walk.{are_reached, same_mark, unvisited_node}

module _ {X : Type 0} where
  pub none_some : (x : X) → None ≡ Some x → ⊥
  none_some x e = cc

  pub some_same : (x y : X) → Some x ≡ Some y → x ≡ y
  some_same x y e = cc

  pub when : (b : Bool) (x y : X) → b ≡ true → (if b then x else y) ≡ x
  when true x y e = refl
  when false x y e = absurd (true≢false (sym e))

  pub unless : (b : Bool) (x y : X) → b ≡ false → (if b then x else y) ≡ y
  unless true x y e = absurd (true≢false e)
  unless false x y e = refl

-- a test and what follows for it
pub bool_cases : (b : Bool) → (b ≡ true) ⊎ (b ≡ false)
bool_cases true = inl refl
bool_cases false = inr refl

pub bit_same : (n m : ℕ) → n ≡ m → bit (n == m) ≡ 1
bit_same n m e = ap bit (eq-eqb n m e)

pub bit_other : (n m : ℕ) → (n ≡ m → ⊥) → bit (n == m) ≡ 0
bit_other n m e = ap bit (ne_eqb n m e)

pub bit_zero : (b : Bool) → bit b ≡ 0 → b ≡ false
bit_zero true e = let k : bit true ≡ 0 = e in absurd (one_zero k)
  where
    one_zero : bit true ≡ 0 → ⊥
    one_zero h = omega arith
bit_zero false e = refl

pub bit_one : (b : Bool) → bit b ≡ 1 → b ≡ true
bit_one true e = refl
bit_one false e = let k : bit false ≡ 1 = e in absurd (zero_one k)
  where
    zero_one : bit false ≡ 1 → ⊥
    zero_one h = omega arith

pub bit_few : (b : Bool) → bit b ≤ 1
bit_few true = let k : 1 ≤ 1 = omega arith in k
bit_few false = let k : 0 ≤ 1 = omega arith in k

-- 1 where a place is marked
abbrev pub marked : List Bool → ℕ → ℕ
marked marks n = bit (get_or marks n false)

-- how many places aren't
abbrev pub unmarked : List Bool → ℕ
unmarked marks = count_by not marks

pub in_marks : (marks : List Bool) (at : ℕ) → get_or marks at true ≡ false → at < length marks
in_marks marks at e = ⊎_elim (λ (lt : at < length marks). lt)
    (λ (past : length marks ≤ at). absurd (true≢false (sym (get_or_past marks at true past) ∙ e)))
    (cases_lt at (length marks))

pub marked-set : (marks : List Bool) (at : ℕ) → get_or marks at true ≡ false → (n : ℕ) → marked (set marks at true) n
    ≡ bit (n == at) + marked marks n
marked-set marks at e n =
    let lt : at < length marks = in_marks marks at e in
    ⊎_elim
    (λ (same : n ≡ at).
    let new_is : marked (set marks at true) n
    ≡ 1 = ap bit (ap (λ (k : ℕ). get_or (set marks at true) k false) same
    ∙ get_or-set_same marks at true false lt) in
    let old_is : marked marks n
    ≡ 0 = ap bit (ap (λ (k : ℕ). get_or marks k false) same ∙ get_or_default marks at false true lt ∙ e) in
    let one = bit_same n at same in
    omega arith)
    (λ (other : n ≡ at → ⊥).
    let new_is : marked (set marks at true) n
    ≡ marked marks n = ap bit (get_or-set_other marks at n true false other) in
    let zero_more = bit_other n at other in
    omega arith)
    (cases_eq n at)

pub unmarked-set : (marks : List Bool) (at : ℕ) → get_or marks at true ≡ false → unmarked (set marks at true) + 1
    ≡ unmarked marks
unmarked-set marks at e =
    let step : Bool → ℕ = (λ (b : Bool). cond (not b) 1 0) in
    let counted : unmarked (set marks at true) + step (get_or marks at true)
    ≡ unmarked marks + step true = sum_by-set (λ b. cond (not b) 1 0) marks at true true (in_marks marks at e) in
    plus_one (unmarked (set marks at true)) (unmarked marks) (step (get_or marks at true)) (step true) counted
    (ap step e) refl
  where
    plus_one : (a b c d : ℕ) → a + c ≡ b + d → c ≡ 1 → d ≡ 0 → a + 1 ≡ b
    plus_one a b c d sums one none = omega arith

pub not_marked : (marks : List Bool) (at : ℕ) → at < length marks → marked marks at ≡ 0 → get_or marks at true ≡ false
not_marked marks at lt e = get_or_default marks at true false lt ∙ bit_zero (get_or marks at false) e

pub marked-none : (size n : ℕ) → marked (replicate size false) n ≡ 0
marked-none size n = ap bit (⊎_elim
    (λ (lt : n < size). get_or-replicate size n false false lt)
    (λ (past : size ≤ n). get_or_past (replicate size false) n false (omega (arith, length-replicate size false)))
    (cases_lt n size))

-- a node of a list, and how such nodes are counted
abbrev pub node_at : List NodeRecord → ℕ → NodeRecord
node_at nodes at = get_or nodes at (FreeNode NONE)

abbrev pub listed : List NodeRecord → ℕ → ℕ
listed nodes n = bit (is_listed (node_at nodes n))

pub free_listed : (next link : ℕ) (who : Waiter) → FreeNode next ≡ ListNode link who → ⊥
free_listed next link who e = true≢false (sym (ap is_listed e))

pub in_nodes : (nodes : List NodeRecord) (at next : ℕ) (who : Waiter) → node_at nodes at ≡ ListNode next who
    → at < length nodes
in_nodes nodes at next who e = ⊎_elim
    (λ (lt : at < length nodes). lt)
    (λ (past : length nodes ≤ at). absurd
    (free_listed NONE next who (sym (get_or_past nodes at (FreeNode NONE) past) ∙ e)))
    (cases_lt at (length nodes))

-- a node of a list that no walk has visited
pub record IsFresh (marks : List Bool) (nodes : List NodeRecord) (at next : ℕ) (who : Waiter) : Type 0 where
  pub mark : get_or marks at true ≡ false
  pub node : node_at nodes at ≡ ListNode next who

pub fresh_node : (marks : List Bool) (nodes : List NodeRecord) (at next : ℕ) (who : Waiter)
    → unvisited_node marks nodes at
    ≡ ListNode next who → IsFresh marks nodes at next who
fresh_node marks nodes at next who e = by_mark (get_or marks at true) refl e
  where
    by_mark : (b : Bool) → get_or marks at true ≡ b → (if b then FreeNode NONE else node_at nodes at)
        ≡ ListNode next who → IsFresh marks nodes at next who
    by_mark true is f = absurd (free_listed NONE next who f)
    by_mark false is f = record { mark = is; node = f }

same_bits : (m b : Bool) → same_mark m b ≡ true → bit m ≡ bit b
same_bits true true e = refl
same_bits true false e = absurd (true≢false (sym e))
same_bits false true e = absurd (true≢false (sym e))
same_bits false false e = refl

bits_same : (m b : Bool) → bit m ≡ bit b → same_mark m b ≡ true
bits_same true true e = refl
bits_same true false e = absurd (true≢false (bit_zero true e))
bits_same false true e = absurd (true≢false (sym (bit_one false e)))
bits_same false false e = refl

pub reached_marks : (marks : List Bool) (nodes : List NodeRecord) → length marks ≡ length nodes
    → are_reached marks nodes ≡ true → (n : ℕ) → marked marks n ≡ listed nodes n
reached_marks [] [] size e n = refl
reached_marks [] (x ∷ nodes) size e n = absurd (omega arith)
reached_marks (m ∷ marks) [] size e n = absurd (omega arith)
reached_marks (m ∷ marks) (x ∷ nodes) size e zero = same_bits m (is_listed x)
    (and_parts (same_mark m (is_listed x)) (are_reached marks nodes) e).0
reached_marks (m ∷ marks) (x ∷ nodes) size e (suc n) = reached_marks marks nodes (omega arith)
    (and_parts (same_mark m (is_listed x)) (are_reached marks nodes) e).1 n

pub marks_reached : (marks : List Bool) (nodes : List NodeRecord) → length marks ≡ length nodes
    → ((n : ℕ) → marked marks n ≡ listed nodes n) → are_reached marks nodes ≡ true
marks_reached [] nodes size same = refl
marks_reached (m ∷ marks) [] size same = refl
marks_reached (m ∷ marks) (x ∷ nodes) size same =
    ap (λ (b : Bool). b && are_reached marks nodes) (bits_same m (is_listed x) (same zero))
    ∙ marks_reached marks nodes (omega arith) (λ n. same (suc n))
