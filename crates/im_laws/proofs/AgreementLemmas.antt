-- The waiting agreement, after one cell is written, entries are answered, and a block is made or released.
use Rattle.std.proofs.Common.{◌≡◌, ℕ, zero, suc, ◌+◌, ◌<◌, ◌≤◌, Bool, true, false, cond, ◌&&◌, ◌≢◌, ◌⊎◌, List, [], ◌∷◌}
use Rattle.std.proofs.Common.{◌++◌, length, set, ◌==◌, Some, None, Option, sym, refl, ap, ◌∙◌, subst, inl, inr, ⊎_elim}
use Rattle.std.proofs.Common.{arith, get_or-set_other, get_or-set_same}
use Rattle.std.proofs.lemmas.Bool.{cases_eq, Decides.nat_tests}
use Rattle.im_types.specs.Types.{Kind, Op, Waiter, Block, Kept, Waiting, I, M, CellState, Empty, Held, held_at}
use Rattle.im_types.specs.Types.{waiters_of, waiters_in, waiters_at, same_waiter, times, awaiting, waits_for, waits_in}
use Rattle.im_types.specs.Types.{address_of, WaitersAgree, fill, change_each, emptied, same_op, is_waiting}
use Rattle.im_laws.proofs.OpLemmas.{same_op-equal, same_op-self}
use Rattle.im_laws.proofs.PlaceLemmas.{get_or-change_each, get_or-fill}
use Rattle.im_laws.proofs.Tests.{and_both, and_false, eq_by_test, test-self, true_false, true_or_false}

-- one, if the test is passed
abbrev pub one_if : Bool → ℕ
one_if b = cond b 1 0

pub same_waiter-equal : (who other : Waiter) → same_waiter who other ≡ true → who ≡ other
same_waiter-equal who other e =
    let parts = and_both (who.element == other.element) (who.number == other.number) e in
    let one : who.element ≡ other.element = eq_by_test who.element other.element parts.0 in
    let two : who.number ≡ other.number = eq_by_test who.number other.number parts.1 in
    λ i. record { element = one i; number = two i }

pub same_waiter-self : (who : Waiter) → same_waiter who who ≡ true
same_waiter-self who = ap (λ b. b && (who.number == who.number)) (test-self who.element) ∙ test-self who.number

-- one more that waits
pub times-push : (who other : Waiter) (waiters : List Waiter) → times who (waiters ++ other ∷ [])
    ≡ times who waiters + one_if (same_waiter who other)
times-push who other [] = by_test (same_waiter who other)
  where
    by_test : (b : Bool) → cond b 1 0 ≡ 0 + one_if b
    by_test true = refl
    by_test false = refl
times-push who other (w ∷ waiters) = by_test (same_waiter who w) (times-push who other waiters)
  where
    by_test : (b : Bool) → times who (waiters ++ other ∷ []) ≡ times who waiters + one_if (same_waiter who other)
        → cond b (suc (times who (waiters ++ other ∷ []))) (times who (waiters ++ other ∷ []))
        ≡ cond b (suc (times who waiters)) (times who waiters) + one_if (same_waiter who other)
    by_test true e = omega arith
    by_test false e = e

-- a cell after a write
pub held_at-set : (cells : List (Option Held)) (a b : ℕ) (held : Option Held) → a < length cells
    → (b ≡ a) × (held_at (set cells a held) b ≡ held) ⊎ (b ≢ a) × (held_at (set cells a held) b ≡ held_at cells b)
held_at-set cells a b held h =
    ⊎_elim
    (λ (e : b ≡ a). inl (e, ap (λ k. held_at (set cells a held) k) e ∙ get_or-set_same cells a held None h))
    (λ (n : b ≡ a → ⊥). inr (n, get_or-set_other cells a b held None n))
    (cases_eq b a)

pub held_at-within : (cells : List (Option Held)) (a : ℕ) (held : Held) → held_at cells a ≡ Some held → a < length cells
held_at-within [] a held e = absurd (cc)
held_at-within (c ∷ cells) zero held e = omega arith
held_at-within (c ∷ cells) (suc a) held e = let h = held_at-within cells a held e in omega arith

-- an operation waited for at one cell is not waited for at another
awaiting_apart : (kind other : Kind) (a b : ℕ) → b ≢ a → same_op (awaiting other b) (awaiting kind a) ≡ false
awaiting_apart I I a b n = grind (arith, nat_tests)
awaiting_apart I M a b n = refl
awaiting_apart M I a b n = refl
awaiting_apart M M a b n = grind (arith, nat_tests)

pub awaiting_self : (kind : Kind) (a : ℕ) → same_op (awaiting kind a) (awaiting kind a) ≡ true
awaiting_self kind a = same_op-self (awaiting kind a)

pub address_of-awaiting : (kind : Kind) (a : ℕ) → address_of (awaiting kind a) ≡ a
address_of-awaiting I a = refl
address_of-awaiting M a = refl

-- an operation that equals what is waited for at a cell
pub same_op-awaiting : (kind : Kind) (a : ℕ) (op : Op) → same_op (awaiting kind a) op ≡ true → op ≡ awaiting kind a
same_op-awaiting kind a op e = sym (same_op-equal (awaiting kind a) op e)

-- nothing that is waited for is kept
abbrev pub IsQuiet : Option Kept → Type 0
IsQuiet kept = (k : Kept) → kept ≡ Some k → is_waiting k ≡ false

waits_for-quiet : (op : Op) (kept : Option Kept) → IsQuiet kept → waits_for op kept ≡ false
waits_for-quiet op None quiet = refl
waits_for-quiet op (Some k) quiet = ap (λ b. same_op op k.op && b) (quiet k refl) ∙ and_false (same_op op k.op)

pub waits_in-quiet : (a : ℕ) (held : Option Held) (kept : Option Kept) → IsQuiet kept → waits_in a held kept ≡ false
waits_in-quiet a None kept quiet = refl
waits_in-quiet a (Some held) kept quiet = waits_for-quiet (awaiting held.block.kind a) kept quiet

-- who waits at a cell waits at no other
pub waits_in-other : (kind : Kind) (a b : ℕ) (held : Option Held) (kept : Option Kept) → b ≢ a
    → waits_for (awaiting kind a) kept ≡ true
    → waits_in b held kept ≡ false
waits_in-other kind a b None kept n e = refl
waits_in-other kind a b (Some held) None n e = refl
waits_in-other kind a b (Some held) (Some k) n e =
    let same = same_op-awaiting kind a k.op (and_both (same_op (awaiting kind a) k.op) (is_waiting k) e).0 in
    ap (λ b. b && is_waiting k)
    (ap (same_op (awaiting held.block.kind b)) same ∙ awaiting_apart kind held.block.kind a b n)

-- one cell is written, and what is kept changes for some requests
module _ (cells : List (Option Held)) (kept now : Waiter → Option Kept) (a : ℕ) (held : Held) (new : CellState) where
  abbrev written : List (Option Held)
  written = set cells a (Some (record { block = held.block; state = new }))

  pub write-agrees : held_at cells a ≡ Some held → WaitersAgree cells kept
      → ((who : Waiter) → times who (waiters_of new) ≡ one_if (waits_for (awaiting held.block.kind a) (now who)))
      → ((who : Waiter) (b : ℕ) → b ≢ a → waits_in b (held_at cells b) (now who)
      ≡ waits_in b (held_at cells b) (kept who))
      → ((who : Waiter) (k : Kept) → now who ≡ Some k → is_waiting k ≡ true → (kept who ≡ Some k)
      ⊎ (k.op ≡ awaiting held.block.kind a))
      → WaitersAgree written now
  write-agrees at agrees here elsewhere known = record {
    listed = λ who b. ⊎_elim
        (λ h. subst (λ c. times who (waiters_in c) ≡ one_if (waits_in b c (now who))) (sym h.1)
        (subst (λ k. times who (waiters_of new) ≡ one_if (waits_for (awaiting held.block.kind k) (now who)))
        (sym h.0) (here who)))
        (λ h. subst (λ c. times who (waiters_in c) ≡ one_if (waits_in b c (now who))) (sym h.1)
        (agrees.listed who b ∙ ap one_if (sym (elsewhere who b h.0))))
        (at_each b);
    somewhere = λ who k is waiting. ⊎_elim (λ was. moved k (agrees.somewhere who k was waiting))
        (λ op. new_one k op waiting) (known who k is waiting);
  }
    where
      at_each : (b : ℕ)
          → (b ≡ a) × (held_at written b ≡ Some (record { block = held.block; state = new })) ⊎ (b ≢ a)
          × (held_at written b ≡ held_at cells b)
      at_each b = held_at-set cells a b (Some (record { block = held.block; state = new }))
          (held_at-within cells a held at)

      moved : (k : Kept) → waits_in (address_of k.op) (held_at cells (address_of k.op)) (Some k) ≡ true
          → waits_in (address_of k.op) (held_at written (address_of k.op)) (Some k) ≡ true
      moved k e = ⊎_elim
          (λ h. ap (λ c. waits_in (address_of k.op) c (Some k)) h.1
          ∙ ap (λ c. waits_in (address_of k.op) c (Some k)) (sym at ∙ ap (held_at cells) (sym h.0)) ∙ e)
          (λ h. ap (λ c. waits_in (address_of k.op) c (Some k)) h.1 ∙ e)
          (at_each (address_of k.op))

      new_one : (k : Kept) → k.op ≡ awaiting held.block.kind a → is_waiting k ≡ true
          → waits_in (address_of k.op) (held_at written (address_of k.op)) (Some k) ≡ true
      new_one k op waiting =
          let there : address_of k.op ≡ a = ap address_of op ∙ address_of-awaiting held.block.kind a in
          let same : same_op (awaiting held.block.kind (address_of k.op)) k.op
          ≡ true = ap (λ b. same_op (awaiting held.block.kind b) k.op) there
          ∙ ap (same_op (awaiting held.block.kind a)) op ∙ awaiting_self held.block.kind a in
          ⊎_elim
          (λ h. ap (λ c. waits_in (address_of k.op) c (Some k)) h.1 ∙ ap (λ b. b && is_waiting k) same ∙ waiting)
          (λ h. absurd (h.0 there))
          (at_each (address_of k.op))

-- the list of a cell, by what is kept
pub listed_at : (cells : List (Option Held)) (kept : Waiter → Option Kept) → WaitersAgree cells kept
    → (a : ℕ) (held : Held)
    → held_at cells a ≡ Some held
    → (who : Waiter) → times who (waiters_of held.state) ≡ one_if (waits_for (awaiting held.block.kind a) (kept who))
listed_at cells kept agrees a held at who = subst
    (λ c. times who (waiters_in c) ≡ one_if (waits_in a c (kept who))) at (agrees.listed who a)

pub no_quiet : IsQuiet None
no_quiet k e = absurd (cc)

-- a new request waits behind the others
module _ (cells : List (Option Held)) (kept : Waiter → Option Kept) (a : ℕ) (held : Held) (asker : Waiter) where
  -- what is kept then
  abbrev pub with_waiting : Waiter → Option Kept
  with_waiting who = cond (same_waiter who asker)
      (Some (record { op = awaiting held.block.kind a; entry = Waiting })) (kept who)

  pub defer-agrees : held_at cells a ≡ Some held → WaitersAgree cells kept → kept asker ≡ None
      → WaitersAgree (set cells a
      (Some (record { block = held.block; state = Empty (waiters_of held.state ++ asker ∷ []) }))) with_waiting
  defer-agrees at agrees fresh =
      write-agrees cells kept with_waiting a held (Empty (waiters_of held.state ++ asker ∷ [])) at agrees
      (λ who. times-push who asker (waiters_of held.state) ∙ here who (same_waiter who asker) refl)
      (λ who b n. elsewhere who b n (same_waiter who asker) refl)
      (λ who k is waiting. known who k (same_waiter who asker) is)
    where
      mine : Option Kept
      mine = Some (record { op = awaiting held.block.kind a; entry = Waiting })

      is_asker : (who : Waiter) → same_waiter who asker ≡ true → kept who ≡ None
      is_asker who e = ap kept (same_waiter-equal who asker e) ∙ fresh

      here : (who : Waiter) (t : Bool) → same_waiter who asker ≡ t
          → times who (waiters_of held.state) + one_if t
          ≡ one_if (waits_for (awaiting held.block.kind a)
          (cond t (Some (record { op = awaiting held.block.kind a; entry = Waiting })) (kept who)))
      here who true e =
          let none : times who (waiters_of held.state) ≡ 0 = listed_at cells kept agrees a held at who
          ∙ ap (λ k. one_if (waits_for (awaiting held.block.kind a) k)) (is_asker who e) in
          let one : one_if (same_op (awaiting held.block.kind a) (awaiting held.block.kind a) && true)
          ≡ 1 = ap (λ b. one_if (b && true)) (awaiting_self held.block.kind a) in
          omega (arith, none, one)
      here who false e = let was = listed_at cells kept agrees a held at who in omega (arith, was)

      elsewhere : (who : Waiter) (b : ℕ) → b ≢ a → (t : Bool) → same_waiter who asker ≡ t
          → waits_in b (held_at cells b)
          (cond t (Some (record { op = awaiting held.block.kind a; entry = Waiting })) (kept who))
          ≡ waits_in b (held_at cells b) (kept who)
      elsewhere who b n true e =
          waits_in-other held.block.kind a b (held_at cells b)
          (Some (record { op = awaiting held.block.kind a; entry = Waiting })) n
          (ap (λ b. b && true) (awaiting_self held.block.kind a))
          ∙ sym (ap (waits_in b (held_at cells b)) (is_asker who e) ∙ waits_in-quiet b (held_at cells b) None no_quiet)
      elsewhere who b n false e = refl

      known : (who : Waiter) (k : Kept) (t : Bool)
          → cond t (Some (record { op = awaiting held.block.kind a; entry = Waiting })) (kept who) ≡ Some k
          → (kept who ≡ Some k) ⊎ (k.op ≡ awaiting held.block.kind a)
      known who k true is = let same : record { op = awaiting held.block.kind a; entry = Waiting }
          ≡ k = cc in inr (sym (ap (λ (k : Kept). k.op) same))
      known who k false is = inl is

-- a request is left as it was, or it was and is answered
module _ (cells : List (Option Held)) (kept now : Waiter → Option Kept) where
  pub answer-agrees : WaitersAgree cells kept
      → ((who : Waiter) → (now who ≡ kept who) ⊎ (IsQuiet (now who) × IsQuiet (kept who)))
      → WaitersAgree cells now
  answer-agrees agrees change = record {
    listed = λ who a. agrees.listed who a ∙ ap one_if (sym (⊎_elim
        (λ same. ap (waits_in a (held_at cells a)) same)
        (λ quiet. waits_in-quiet a (held_at cells a) (now who) quiet.0
        ∙ sym (waits_in-quiet a (held_at cells a) (kept who) quiet.1))
        (change who)));
    somewhere = λ who k is waiting. ⊎_elim
        (λ same. agrees.somewhere who k (sym same ∙ is) waiting)
        (λ quiet. absurd (true_false (sym waiting ∙ quiet.0 k is)))
        (change who);
  }

-- Some that wait at a cell are answered, and the cell keeps the rest. For each request: it and its place in the list stay; or it is answered and
-- doesn't stand in the list, and it waited at no other cell.
module _ (cells : List (Option Held)) (kept now : Waiter → Option Kept) (a : ℕ) (held : Held) (new : CellState) where
  abbrev pub Stays : Waiter → Type 0
  Stays who = (now who ≡ kept who) × (times who (waiters_of new) ≡ times who (waiters_of held.state))

  abbrev pub IsAnswered : Waiter → Type 0
  IsAnswered who = IsQuiet (now who) × (times who (waiters_of new) ≡ 0)
      × ((b : ℕ) → b ≢ a → waits_in b (held_at cells b) (kept who) ≡ false)

  pub serve-agrees : held_at cells a ≡ Some held → WaitersAgree cells kept
      → ((who : Waiter) → Stays who ⊎ IsAnswered who)
      → WaitersAgree (set cells a (Some (record { block = held.block; state = new }))) now
  serve-agrees at agrees change =
      write-agrees cells kept now a held new at agrees
      (λ who. ⊎_elim
      (λ stays. stays.1 ∙ listed_at cells kept agrees a held at who
      ∙ ap (λ k. one_if (waits_for (awaiting held.block.kind a) k)) (sym stays.0))
      (λ answered. answered.1 ∙ ap one_if (sym (waits_for-quiet (awaiting held.block.kind a) (now who) answered.0)))
      (change who))
      (λ who b n. ⊎_elim
      (λ stays. ap (waits_in b (held_at cells b)) stays.0)
      (λ answered. waits_in-quiet b (held_at cells b) (now who) answered.0 ∙ sym (answered.2 b n))
      (change who))
      (λ who k is waiting. ⊎_elim
      (λ stays. inl (sym stays.0 ∙ is))
      (λ answered. absurd (true_false (sym waiting ∙ answered.0 k is)))
      (change who))

-- what waits for a cell, waits for an operation of that address
pub waits_for-kept : (kind : Kind) (a : ℕ) (kept : Option Kept) → waits_for (awaiting kind a) kept ≡ true
    → (k : Kept) × (kept ≡ Some k) × (is_waiting k ≡ true) × (address_of k.op ≡ a)
waits_for-kept kind a None e = absurd (cc)
waits_for-kept kind a (Some k) e =
    let both = and_both (same_op (awaiting kind a) k.op) (is_waiting k) e in
    (k, refl, both.1, ap address_of (same_op-awaiting kind a k.op both.0) ∙ address_of-awaiting kind a)

-- nobody's entry waits for a cell in no block
nobody_waits_for : (cells : List (Option Held)) (kept : Waiter → Option Kept) → WaitersAgree cells kept
    → (kind : Kind) (a : ℕ)
    → held_at cells a ≡ None → (who : Waiter) → waits_for (awaiting kind a) (kept who) ≡ false
nobody_waits_for cells kept agrees kind a none who = ⊎_elim
    (λ e. let w = waits_for-kept kind a (kept who) e in
    absurd (true_false (sym (agrees.somewhere who w.0 w.1 w.2)
    ∙ ap (λ c. waits_in (address_of w.0.op) c (Some w.0)) (ap (held_at cells) w.3 ∙ none))))
    (λ e. e)
    (true_or_false (waits_for (awaiting kind a) (kept who)))

-- a new block, where there was none
pub allocate-agrees : (cells : List (Option Held)) (kept : Waiter → Option Kept) → WaitersAgree cells kept
    → (base n : ℕ) (block : Block)
    → ((a : ℕ) → base ≤ a → a < base + n → held_at cells a ≡ None)
    → WaitersAgree (fill cells base n (Some (record { block = block; state = Empty [] }))) kept
allocate-agrees cells kept agrees base n block free = record {
  listed = λ who a. ⊎_elim
      (λ same. subst (λ c. times who (waiters_in c) ≡ one_if (waits_in a c (kept who))) (sym same)
      (agrees.listed who a))
      (λ h. subst (λ c. times who (waiters_in c) ≡ one_if (waits_in a c (kept who))) (sym h.2)
      (ap one_if (sym (nobody_waits_for cells kept agrees block.kind a (free a h.0 h.1) who))))
      (get_or-fill cells base n new a);
  somewhere = λ who k is waiting. ⊎_elim
      (λ same. ap (λ c. waits_in (address_of k.op) c (Some k)) same ∙ agrees.somewhere who k is waiting)
      (λ h. absurd (true_false
      (sym (agrees.somewhere who k is waiting)
      ∙ ap (λ c. waits_in (address_of k.op) c (Some k)) (free (address_of k.op) h.0 h.1))))
      (get_or-fill cells base n new (address_of k.op));
}
  where
    new : Option Held
    new = Some (record { block = block; state = Empty [] })

-- a block is gone, at whose cells nobody waited
pub release-agrees : (cells : List (Option Held)) (kept : Waiter → Option Kept) → WaitersAgree cells kept → (base n : ℕ)
    → ((a : ℕ) → base ≤ a → a < base + n → waiters_at cells a ≡ [])
    → WaitersAgree (fill cells base n None) kept
release-agrees cells kept agrees base n nobody = record {
  listed = λ who a. ⊎_elim
      (λ same. subst (λ c. times who (waiters_in c) ≡ one_if (waits_in a c (kept who))) (sym same)
      (agrees.listed who a))
      (λ h. subst (λ c. times who (waiters_in c) ≡ one_if (waits_in a c (kept who))) (sym h.2) refl)
      (get_or-fill cells base n None a);
  somewhere = λ who k is waiting. ⊎_elim
      (λ same. ap (λ c. waits_in (address_of k.op) c (Some k)) same ∙ agrees.somewhere who k is waiting)
      (λ h. absurd (one_zero (
      ap one_if (sym (ap (waits_in (address_of k.op) (held_at cells (address_of k.op))) is
      ∙ agrees.somewhere who k is waiting))
      ∙ sym (agrees.listed who (address_of k.op)) ∙ ap (times who) (nobody (address_of k.op) h.0 h.1))))
      (get_or-fill cells base n None (address_of k.op));
}
  where
    one_zero : one_if true ≡ zero → ⊥
    one_zero e = let h : one_if true ≡ zero = e in omega arith

-- the cells of a block are empty, at which nobody waited
pub reset-agrees : (cells : List (Option Held)) (kept : Waiter → Option Kept) → WaitersAgree cells kept → (base n : ℕ)
    → ((a : ℕ) → base ≤ a → a < base + n → waiters_at cells a ≡ [])
    → WaitersAgree (change_each emptied cells base n) kept
reset-agrees cells kept agrees base n nobody = record {
  listed = λ who a. ⊎_elim
      (λ same. subst (λ c. times who (waiters_in c) ≡ one_if (waits_in a c (kept who))) (sym same)
      (agrees.listed who a))
      (λ h. subst (λ c. times who (waiters_in c) ≡ one_if (waits_in a c (kept who))) (sym h.2)
      (ap (times who) (none_left (held_at cells a)) ∙ sym (ap (times who) (nobody a h.0 h.1)) ∙ agrees.listed who a
      ∙ ap one_if (sym (same_wait a (held_at cells a) (kept who)))))
      (get_or-change_each emptied cells base n a);
  somewhere = λ who k is waiting. ⊎_elim
      (λ same. ap (λ c. waits_in (address_of k.op) c (Some k)) same ∙ agrees.somewhere who k is waiting)
      (λ h. ap (λ c. waits_in (address_of k.op) c (Some k)) h.2
      ∙ same_wait (address_of k.op) (held_at cells (address_of k.op)) (Some k) ∙ agrees.somewhere who k is waiting)
      (get_or-change_each emptied cells base n (address_of k.op));
}
  where
    none_left : (o : Option Held) → waiters_in (emptied o) ≡ []
    none_left None = refl
    none_left (Some held) = refl

    same_wait : (a : ℕ) (o : Option Held) (k : Option Kept) → waits_in a (emptied o) k ≡ waits_in a o k
    same_wait a None k = refl
    same_wait a (Some held) k = refl
