-- Each operation changes the full cells as its change says.
use Rattle.std.proofs.Common.{◌≡◌, ℕ, zero, suc, ◌+◌, ◌<◌, ◌≤◌, Bool, true, false, cond, ◌≢◌, ◌⊎◌, List, [], ◌∷◌, ◌++◌}
use Rattle.std.proofs.Common.{length, get_or, take, drop, set, nat_lt, ◌==◌, Some, None, Option, sym, refl, ap, ◌∙◌}
use Rattle.std.proofs.Common.{inl, inr, ⊎_elim, arith}
use Rattle.std.{proofs.lemmas.Bool.cases_eq, proofs.lemmas.Bool.Decides.nat_tests, specs.List.list_any}
use Rattle.im_types.specs.Types.{Kind, Op, Reply, Waiter, Block, Answered, I, M, Alloc, Release, Reset, Fetch, Store}
use Rattle.im_types.specs.Types.{Take, Put, BadLength, WrongKind, Released, StillWaiting, Cleared, Command, Call, Line}
use Rattle.im_types.specs.Types.{Asks, Confirm, Commands, Collect, CellState, Empty, Full, Clashed, Held, Contents}
use Rattle.im_types.specs.Types.{held_at, full_value, full_in, full_at, place, fill, change_each, ServedCell as Served}
use Rattle.im_types.specs.Types.{fetch, store, take_from, put, only_tells, same_kind, serve_cell, at_cell, new_cell}
use Rattle.im_types.specs.Types.{allocate_at, allocate, block_with_base, is_waiting_cell, unless_waited_for, emptied}
use Rattle.im_types.specs.Types.{act, Stepped, asker, step_request, step, is_accepted, accepted, contents_after, end_of}
use Rattle.im_types.specs.Types.{is_among, changed, value_after, store_change, store_change_in, emptying_change}
use Rattle.im_types.specs.Types.{change_of, change_by, changes_at, changes_in, changes_of, fill_at, fills_from, opening}
use Rattle.im_types.specs.Types.{shown_by, Change, Same, Gone}
use Rattle.{im_types.proofs.Tests.false_true, im_laws.specs.Traces.commands_of, im_laws.specs.Traces.commands_of_call}
use Rattle.im_laws.proofs.{AcceptLemmas.accepted-fresh, AcceptLemmas.unaccepted-leaves, AgreementLemmas.held_at-set}
use Rattle.im_laws.proofs.{AgreementLemmas.held_at-within, JudgeLemmas.confirm-cells, OpLemmas.same_kind-equal}
use Rattle.im_laws.proofs.PlaceLemmas.{get_or-change_each, get_or-fill, place-free}

-- the value at an address of these cells
abbrev pub value_at : List (Option Held) → ℕ → Option ℕ
value_at cells a = full_in (held_at cells a)

module _ (cells : List (Option Held)) (b : ℕ) where
  -- a change at one address leaves the others
  module _ (a : ℕ) (held : Held) (at : held_at cells a ≡ Some held) (new : CellState) where
    written : b ≡ a → value_at (set cells a (Some (record { block = held.block; state = new }))) b
        ≡ full_value held.block.kind new
    written same = ⊎_elim
        (λ h. ap full_in h.1)
        (λ h. absurd (h.0 same))
        (held_at-set cells a b (Some (record { block = held.block; state = new })) (held_at-within cells a held at))

    unwritten : b ≢ a → value_at (set cells a (Some (record { block = held.block; state = new }))) b ≡ value_at cells b
    unwritten other = ⊎_elim
        (λ h. absurd (other h.0))
        (λ h. ap full_in h.1)
        (held_at-set cells a b (Some (record { block = held.block; state = new })) (held_at-within cells a held at))

  same-value : (a : ℕ) (held : Held) → held_at cells a ≡ Some held → b ≡ a → value_at cells b
      ≡ full_value held.block.kind held.state
  same-value a held at same = ap (value_at cells) same ∙ ap full_in at

  -- an operation that fills and empties no I cell
  leaves-cell : (kind : Kind) (f : CellState → Served)
      → ((s : CellState) → full_value kind (f s).state ≡ full_value kind s) → (a : ℕ)
      → value_at (at_cell kind f cells a (held_at cells a)).cells b ≡ value_at cells b
  leaves-cell kind f same a = by_held (held_at cells a) refl
    where
      by_kind : (held : Held) → held_at cells a ≡ Some held → (t : Bool) → same_kind kind held.block.kind ≡ t
          → value_at (cond t (serve_cell cells a held.block (f held.state)) (only_tells cells WrongKind)).cells b
          ≡ value_at cells b
      by_kind held at false k = refl
      by_kind held at true k = ⊎_elim
          (λ e. written a held at (f held.state).state e
          ∙ ap (λ k. full_value k (f held.state).state) (sym (same_kind-equal kind held.block.kind k))
          ∙ same held.state ∙ ap (λ k. full_value k held.state) (same_kind-equal kind held.block.kind k)
          ∙ sym (same-value a held at e))
          (λ n. unwritten a held at (f held.state).state n)
          (cases_eq b a)

      by_held : (o : Option Held) → held_at cells a ≡ o → value_at (at_cell kind f cells a o).cells b ≡ value_at cells b
      by_held None at = refl
      by_held (Some held) at = by_kind held at (same_kind kind held.block.kind) refl

  -- a store
  changed-other : (a v : ℕ) (s : CellState) → b ≢ a → changed b (value_at cells b) (store_change a v s)
      ≡ value_at cells b
  changed-other a v (Empty readers) n = let t : (b == a)
      ≡ false = grind (arith, nat_tests) in ap (λ t. cond t (Some v) (value_at cells b)) t
  changed-other a v (Full w) n = ap (λ t. cond t None (value_at cells b)) (not_among (nat_lt b a) refl)
    where
      not_among : (t : Bool) → nat_lt b a ≡ t → cond t false (nat_lt b (a + 1)) ≡ false
      not_among true t = refl
      not_among false t = grind (arith, nat_tests)
  changed-other a v (Clashed w) n = refl

  changed-same : (a v : ℕ) (held : Held) → held_at cells a ≡ Some held → held.block.kind ≡ I → b ≡ a
      → (s : CellState) → held.state ≡ s
      → full_value I (store v s).state ≡ changed b (value_at cells b) (store_change a v s)
  changed-same a v held at kind e (Empty readers) s = let t : (b == a)
      ≡ true = grind (arith, nat_tests) in sym (ap (λ t. cond t (Some v) (value_at cells b)) t)
  changed-same a v held at kind e (Full w) s = sym (ap (λ t. cond t None (value_at cells b)) (among (nat_lt b a) refl))
    where
      among : (t : Bool) → nat_lt b a ≡ t → cond t false (nat_lt b (a + 1)) ≡ true
      among true t = absurd (false_true (let f : nat_lt b a ≡ false = grind (arith, nat_tests) in sym f ∙ t))
      among false t = grind (arith, nat_tests)
  changed-same a v held at kind e (Clashed w) s = sym
      (same-value a held at e ∙ ap (λ k. full_value k held.state) kind ∙ ap (full_value I) s)

  stores-cell : (a v : ℕ)
      → value_at (at_cell I (store v) cells a (held_at cells a)).cells b
      ≡ changed b (value_at cells b) (store_change_in a v (held_at cells a))
  stores-cell a v = by_held (held_at cells a) refl
    where
      by_kind : (held : Held) → held_at cells a ≡ Some held → (t : Bool) → same_kind I held.block.kind ≡ t
          → value_at (cond t (serve_cell cells a held.block (store v held.state)) (only_tells cells WrongKind)).cells b
          ≡ changed b (value_at cells b) (cond t (store_change a v held.state) Same)
      by_kind held at false k = refl
      by_kind held at true k =
          let kind = sym (same_kind-equal I held.block.kind k) in
          ⊎_elim
          (λ e. written a held at (store v held.state).state e
          ∙ ap (λ k. full_value k (store v held.state).state) kind
          ∙ changed-same a v held at kind e held.state refl)
          (λ n. unwritten a held at (store v held.state).state n ∙ sym (changed-other a v held.state n))
          (cases_eq b a)

      by_held : (o : Option Held) → held_at cells a ≡ o
          → value_at (at_cell I (store v) cells a o).cells b ≡ changed b (value_at cells b) (store_change_in a v o)
      by_held None at = refl
      by_held (Some held) at = by_kind held at (same_kind I held.block.kind) refl

  -- a new block's cells are empty, as they were
  allocates : (kind : Kind) (n : ℕ) → value_at (allocate cells kind n).cells b ≡ value_at cells b
  allocates kind n = by_test (n == 0)
    where
      new_none : (k : Kind) → full_value k (Empty []) ≡ None
      new_none I = refl
      new_none M = refl

      by_place : (o : Option ℕ) → place n cells ≡ o → value_at (allocate_at cells kind n o).cells b ≡ value_at cells b
      by_place None e = refl
      by_place (Some base) e = ⊎_elim
          (λ same. ap full_in same)
          (λ h. ap full_in h.2 ∙ new_none kind ∙ sym (ap full_in (place-free n cells base e b h.0 h.1)))
          (get_or-fill cells base n (new_cell base n kind) b)

      by_test : (t : Bool)
          → value_at (cond t (only_tells cells BadLength) (allocate_at cells kind n (place n cells))).cells b
          ≡ value_at cells b
      by_test true = refl
      by_test false = by_place (place n cells) refl

-- what is one thing among n addresses from a base on, and as it was elsewhere
among-cases : {X : Type 0} (now was there : X) (base n a : ℕ) → (base ≤ a → a < base + n → now ≡ there)
    → ((a < base) ⊎ (base + n ≤ a) → now ≡ was)
    → now ≡ cond (is_among base n a) there was
among-cases now was there base n a inside outside = by_low (nat_lt a base) refl
  where
    by_high : base ≤ a → (t : Bool) → nat_lt a (base + n) ≡ t → now ≡ cond t there was
    by_high low true t = inside low (grind (arith, nat_tests))
    by_high low false t = outside (inr (grind (arith, nat_tests)))

    by_low : (t : Bool) → nat_lt a base ≡ t → now ≡ cond (cond t false (nat_lt a (base + n))) there was
    by_low true t = outside (inl (grind (arith, nat_tests)))
    by_low false t = by_high (grind (arith, nat_tests)) (nat_lt a (base + n)) refl

outside-is_not_within : (base n a : ℕ) → base ≤ a → a < base + n → (a < base) ⊎ (base + n ≤ a) → ⊥
outside-is_not_within base n a low high = ⊎_elim (λ (x : a < base). omega arith) (λ (x : base + n ≤ a). omega arith)

-- what is freed from a base on, place by place
freed : {X : Type 0} (xs : List (Option X)) (base n a : ℕ) → base ≤ a → a < base + n
    → get_or (fill xs base n None) a None ≡ None
freed [] base n a lo hi = refl
freed (x ∷ xs) zero zero a lo hi = absurd (omega arith)
freed (x ∷ xs) zero (suc n) zero lo hi = refl
freed (x ∷ xs) zero (suc n) (suc a) lo hi = freed xs zero n a (omega arith) (omega arith)
freed (x ∷ xs) (suc base) n zero lo hi = absurd (omega arith)
freed (x ∷ xs) (suc base) n (suc a) lo hi = freed xs base n a (omega arith) (omega arith)

pub get_or-emptied : {X : Type 0} (xs : List (Option X)) (base n a : ℕ) → get_or (fill xs base n None) a None
    ≡ cond (is_among base n a) None (get_or xs a None)
get_or-emptied xs base n a = among-cases (get_or (fill xs base n None) a None) (get_or xs a None) None base n a
    (λ low high. freed xs base n a low high)
    (λ out. ⊎_elim (λ same. same) (λ h. absurd (outside-is_not_within base n a h.0 h.1 out))
    (get_or-fill xs base n None a))

-- cells that are freed
frees : (cells : List (Option Held)) (base n b : ℕ) → value_at (fill cells base n None) b
    ≡ cond (is_among base n b) None (value_at cells b)
frees cells base n b = ap full_in (get_or-emptied cells base n b) ∙ by_test (is_among base n b)
  where
    by_test : (t : Bool) → full_in (cond t None (held_at cells b)) ≡ cond t None (value_at cells b)
    by_test true = refl
    by_test false = refl

-- cells that are emptied
empties : (cells : List (Option Held)) (base n b : ℕ) → value_at (change_each emptied cells base n) b
    ≡ cond (is_among base n b) None (value_at cells b)
empties cells base n b = among-cases (value_at (change_each emptied cells base n) b) (value_at cells b) None base n b
    (λ low high. ap full_in (emptied_from cells base n b low high) ∙ no_value (held_at cells b))
    (λ out. ⊎_elim (λ same. ap full_in same) (λ h. absurd (outside-is_not_within base n b h.0 h.1 out))
    (get_or-change_each emptied cells base n b))
  where
    by_kind : (k : Kind) → full_value k (Empty []) ≡ None
    by_kind I = refl
    by_kind M = refl

    no_value : (o : Option Held) → full_in (emptied o) ≡ None
    no_value None = refl
    no_value (Some held) = by_kind held.block.kind

    emptied_from : (cells : List (Option Held)) (base n a : ℕ) → base ≤ a → a < base + n
        → get_or (change_each emptied cells base n) a None ≡ emptied (get_or cells a None)
    emptied_from [] base n a lo hi = refl
    emptied_from (x ∷ xs) zero zero a lo hi = absurd (omega arith)
    emptied_from (x ∷ xs) zero (suc n) zero lo hi = refl
    emptied_from (x ∷ xs) zero (suc n) (suc a) lo hi = emptied_from xs zero n a (omega arith) (omega arith)
    emptied_from (x ∷ xs) (suc base) n zero lo hi = absurd (omega arith)
    emptied_from (x ∷ xs) (suc base) n (suc a) lo hi = emptied_from xs base n a (omega arith) (omega arith)

module _ (cells : List (Option Held)) (a b : ℕ) (after : Block → List (Option Held)) (reply : Reply)
    (none : (block : Block) → value_at (after block) b ≡ cond (is_among a block.length b) None (value_at cells b)) where
  empties-block : (o : Option Block) → value_at (unless_waited_for after reply cells a o).cells b
      ≡ changed b (value_at cells b) (emptying_change cells a o)
  empties-block None = refl
  empties-block (Some block) = by_test (list_any is_waiting_cell (take block.length (drop a cells)))
    where
      by_test : (t : Bool)
          → value_at (cond t (only_tells cells StillWaiting)
          (record { cells = after block; entry = Answered reply; resumed = [] })).cells b
          ≡ changed b (value_at cells b) (cond t Same (Gone a block.length))
      by_test true = refl
      by_test false = none block

fetch-leaves : (who : Waiter) (s : CellState) → full_value I (fetch who s).state ≡ full_value I s
fetch-leaves who (Empty waiters) = refl
fetch-leaves who (Full v) = refl
fetch-leaves who (Clashed v) = refl

-- each operation
pub act-changes : (cells : List (Option Held)) (who : Waiter) (op : Op) (b : ℕ)
    → value_at (act cells who op).cells b ≡ changed b (value_at cells b) (change_of cells op)
act-changes cells who (Alloc kind n) b = allocates cells b kind n
act-changes cells who (Release a) b =
    empties-block cells a b (λ block. fill cells a block.length None) Released
    (λ block. frees cells a block.length b) (block_with_base a (held_at cells a))
act-changes cells who (Reset a) b =
    empties-block cells a b (λ block. change_each emptied cells a block.length) Cleared
    (λ block. empties cells a block.length b) (block_with_base a (held_at cells a))
act-changes cells who (Fetch a) b = leaves-cell cells b I (fetch who) (fetch-leaves who) a
act-changes cells who (Store a v) b = stores-cell cells b a v
act-changes cells who (Take a) b = leaves-cell cells b M (take_from who) (λ s. refl) a
act-changes cells who (Put a v) b = leaves-cell cells b M (put v) (λ s. refl) a

-- each command
pub step-changes : (m : Contents) (command : Command) (a : ℕ)
    → full_at (step m command).contents a ≡ value_after a (full_at m a) (changes_at m command)
step-changes m command a = by_test (is_accepted m command) refl
  where
    by_command : (command : Command) → is_accepted m command ≡ true → full_at (step m command).contents a
        ≡ changed a (full_at m a) (change_by m command)
    by_command (Asks r) e = ap (λ (s : Stepped). full_at s.contents a) (ap (step_request m r) (accepted-fresh m r e))
        ∙ act-changes m.cells (asker r) r.op a
    by_command (Confirm element upto) e = ap (λ cells. full_in (held_at cells a)) (confirm-cells m element upto)

    by_test : (t : Bool) → is_accepted m command ≡ t
        → full_at (step m command).contents a ≡ value_after a (full_at m a) (cond t (change_by m command ∷ []) [])
    by_test true e = by_command command e
    by_test false e = ap (λ m. full_at m a) (unaccepted-leaves m command e)

-- changes one after another
value_after-append : (a : ℕ) (value : Option ℕ) (earlier later : List Change)
    → value_after a value (earlier ++ later) ≡ value_after a (value_after a value earlier) later
value_after-append a value [] later = refl
value_after-append a value (change ∷ earlier) later = value_after-append a (changed a value change) earlier later

pub run-changes : (m : Contents) (trace : List Line) (a : ℕ) → full_at (end_of m trace) a
    ≡ value_after a (full_at m a) (changes_of m trace)
run-changes m [] a = refl
run-changes m (line ∷ trace) a =
    run-changes (contents_after m line.call) trace a
    ∙ ap (λ value. value_after a value (changes_of (contents_after m line.call) trace)) (by_call line.call)
    ∙ sym (value_after-append a (full_at m a) (changes_in m line.call) (changes_of (contents_after m line.call) trace))
  where
    by_call : (call : Call) → full_at (contents_after m call) a ≡ value_after a (full_at m a) (changes_in m call)
    by_call (Commands command) = step-changes m command a
    by_call (Collect element number) = refl

append-nil : (xs : List Change) → xs ++ [] ≡ xs
append-nil [] = refl
append-nil (x ∷ xs) = ap (λ xs. x ∷ xs) (append-nil xs)

append-append : (xs ys zs : List Change) → (xs ++ ys) ++ zs ≡ xs ++ (ys ++ zs)
append-append [] ys zs = refl
append-append (x ∷ xs) ys zs = ap (λ xs. x ∷ xs) (append-append xs ys zs)

pub changes_of-push : (m : Contents) (trace : List Line) (line : Line)
    → changes_of m (trace ++ line ∷ []) ≡ changes_of m trace ++ changes_in (end_of m trace) line.call
changes_of-push m [] line = append-nil (changes_in m line.call)
changes_of-push m (first ∷ trace) line =
    ap (λ changes. changes_in m first.call ++ changes) (changes_of-push (contents_after m first.call) trace line)
    ∙ sym (append-append (changes_in m first.call) (changes_of (contents_after m first.call) trace)
    (changes_in (end_of (contents_after m first.call) trace) line.call))

-- one for each accepted command
pub length-changes_of : (m : Contents) (trace : List Line) → length (changes_of m trace)
    ≡ length (accepted m (commands_of trace))
length-changes_of m [] = refl
length-changes_of m (line ∷ trace) = by_call line.call (length-changes_of (contents_after m line.call) trace)
  where
    by_test : (t : Bool) (command : Command) (changes : List Change) (others : List Command)
        → length changes ≡ length others
        → length (cond t (change_by m command ∷ []) [] ++ changes) ≡ length (cond t (command ∷ others) others)
    by_test true command changes others e = ap suc e
    by_test false command changes others e = e

    by_call : (call : Call) → length (changes_of (contents_after m call) trace)
        ≡ length (accepted (contents_after m call) (commands_of trace))
        → length (changes_in m call ++ changes_of (contents_after m call) trace)
        ≡ length (accepted m (commands_of_call call ++ commands_of trace))
    by_call (Commands command) e = by_test (is_accepted m command) command
        (changes_of (step m command).contents trace) (accepted (step m command).contents (commands_of trace)) e
    by_call (Collect element number) e = e

-- cells that are filled
later-fills : (a base : ℕ) (value : Option ℕ) (cells : List (Option Held)) → a < base
    → value_after a value (fills_from base cells) ≡ value
later-fills a base value [] h = refl
later-fills a base value (cell ∷ cells) h =
    value_after-append a value (fill_at base (full_in cell)) (fills_from (suc base) cells)
    ∙ later-fills a (suc base) (value_after a value (fill_at base (full_in cell))) cells (omega arith)
    ∙ other (full_in cell)
  where
    other : (o : Option ℕ) → value_after a value (fill_at base o) ≡ value
    other None = refl
    other (Some v) = let t : (a == base) ≡ false = grind (arith, nat_tests) in ap (λ t. cond t (Some v) value) t

fills : (base i : ℕ) (cells : List (Option Held)) → value_after (base + i) None (fills_from base cells)
    ≡ value_at cells i
fills base i [] = refl
fills base zero (cell ∷ cells) =
    value_after-append (base + 0) None (fill_at base (full_in cell)) (fills_from (suc base) cells)
    ∙ later-fills (base + 0) (suc base) (value_after (base + 0) None (fill_at base (full_in cell))) cells (omega arith)
    ∙ here-filled (full_in cell)
  where
    here-filled : (o : Option ℕ) → value_after (base + 0) None (fill_at base o) ≡ o
    here-filled None = refl
    here-filled (Some v) = let t : (base + 0 == base)
        ≡ true = grind (arith, nat_tests) in ap (λ t. cond t (Some v) None) t
fills base (suc i) (cell ∷ cells) =
    value_after-append (base + suc i) None (fill_at base (full_in cell)) (fills_from (suc base) cells)
    ∙ ap (λ value. value_after (base + suc i) value (fills_from (suc base) cells)) (not_here (full_in cell))
    ∙ ap (λ a. value_after a None (fills_from (suc base) cells))
    (let e : base + suc i ≡ suc base + i = omega arith in e)
    ∙ fills (suc base) i cells
  where
    not_here : (o : Option ℕ) → value_after (base + suc i) None (fill_at base o) ≡ None
    not_here None = refl
    not_here (Some v) = let t : (base + suc i == base)
        ≡ false = grind (arith, nat_tests) in ap (λ t. cond t (Some v) None) t

pub opening-fills : (m : Contents) (a : ℕ) → value_after a None (opening m) ≡ full_at m a
opening-fills m a = ap (λ a. value_after a None (opening m)) (let e : a ≡ 0 + a = omega arith in e) ∙ fills 0 a m.cells

pub shown-fills : (m : Contents) (trace : List Line) (a : ℕ) → value_after a None (shown_by m trace)
    ≡ full_at (end_of m trace) a
shown-fills m trace a =
    value_after-append a None (opening m) (changes_of m trace)
    ∙ ap (λ value. value_after a value (changes_of m trace)) (opening-fills m a)
    ∙ sym (run-changes m trace a)
