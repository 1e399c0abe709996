-- What is known of a command before those ahead of it act.
use Rattle.std.proofs.Common.{◌≡◌, ℕ, ◌+◌, ◌<◌, ◌≤◌, Bool, true, false, ◌&&◌, ◌||◌, ◌≢◌, ◌⊎◌, List, [], ◌∷◌, take, drop}
use Rattle.std.proofs.Common.{if◌then◌else◌, nat_lt, ◌==◌, slice_index_or, Some, None, Ok, Err, Option, Result, sym}
use Rattle.std.proofs.Common.{refl, ap, ◌∙◌, inl, inr, ⊎_elim, arith}
use Rattle.std.{proofs.lemmas.Bool.Decides.nat_tests, specs.List.list_any}
use Rattle.im_types.specs.Types.{Entry, Kind, Op, Reply, Waiter, Block, Kept, Answered, I, M, Alloc, Release, Reset}
use Rattle.im_types.specs.Types.{Fetch, Store, Take, Put, BadLength, WrongKind, StillWaiting, Request, Command, Asks}
use Rattle.im_types.specs.Types.{Confirm, Tells, Refusal, Forgotten, WINDOW, LAST, CellState, Empty, Full, Clashed}
use Rattle.im_types.specs.Types.{Held, Window, Contents, new_window, held_at, kept_for, IsWindow, IsMemory}
use Rattle.im_types.specs.Types.{WaitingAgrees, place, ServedCell as Served, store, put, only_tells, same_kind}
use Rattle.im_types.specs.Types.{serve_cell, at_cell, allocate_at, block_with_base, is_waiting_cell, unless_waited_for}
use Rattle.im_types.specs.Types.{act, is_waiting_entry, is_waiting, bounds, asker, step_request, step, moves_base}
use Rattle.im_types.specs.Types.{is_accepted, after, accept_each}
use Rattle.im_laws.proofs.AcceptLemmas.{accepted-fresh, accepted-moves_base, accepted-takes_next, same_bounds}
use Rattle.im_laws.proofs.BoundsLemmas.{BoundsMove, Grows, Rises, Stays, step-moves}
use Rattle.im_laws.proofs.EntryLemmas.{answered-lasts, ask-kept, told-kept}
use Rattle.im_laws.proofs.ForgetLemmas.{ask-forgotten, bounds-forgotten}
use Rattle.im_laws.proofs.{GroupLemmas.same_test, RunAgrees.step-agrees, WindowLemmas.window_at}
use Rattle.im_laws.proofs.JudgeLemmas.{accepted-next, confirmable-confirms, next-accepted}
use Rattle.im_laws.proofs.MemoryLemmas.{after-memory, bounds-window}
use Rattle.im_laws.proofs.Tests.{and_both, below_or_from, eq_by_test, some_same, test-self, true_false, true_or_false}
use Rattle.im_laws.specs.Windows.{IsForgotten, MovesBase, TakesNextNumber}
use Rattle.im_groups.specs.Ahead.{AreAccepted, asks_at_once, bounds_behind, bounds_behind_all, is_answered_or}
use Rattle.im_groups.specs.Ahead.{is_at_once, is_next, is_sure, moved_by}

-- commands that are accepted in turn, taken apart
pub accepted_first : (m : Contents) (c : Command) (cs : List Command) → AreAccepted m (c ∷ cs)
    → (is_accepted m c ≡ true) × AreAccepted (step m c).contents cs
accepted_first m c cs e = by_test (is_accepted m c) e
  where
    by_test : (b : Bool)
        → (if b then accept_each (step m c).contents cs else None) ≡ Some (after (step m c).contents cs)
        → (b ≡ true) × AreAccepted (step m c).contents cs
    by_test true e = (refl, e)
    by_test false e = absurd (cc)

-- ---- bounds

bounds-behind : (m : Contents) (c : Command) (e : ℕ) (b : ℕ × ℕ) → is_accepted m c ≡ true → bounds m.windows e ≡ Ok b
    → bounds (step m c).contents.windows e ≡ Ok (bounds_behind e c b)
bounds-behind m (Asks r) e b accepted are = by_test (r.element == e) refl (accepted-takes_next m r accepted)
  where
    by_test : (t : Bool) → (r.element == e) ≡ t → TakesNextNumber m r
        → bounds (step m (Asks r)).contents.windows e ≡ Ok (if t then (b.0, b.1 + 1) else b)
    by_test true is t =
        let same : r.element ≡ e = eq_by_test r.element e is in
        let both = same_bounds t.base r.number b.0 b.1
        (sym t.before ∙ ap (λ (n : ℕ). bounds m.windows n) same ∙ are) in
        ap (λ (n : ℕ). bounds (step m (Asks r)).contents.windows n) (sym same) ∙ t.after
        ∙ (λ i. Ok (both.0 i, both.1 i + 1))
    by_test false is t =
        let other : e ≢ r.element = λ x. true_false
        (sym (ap (λ (n : ℕ). r.element == n) x ∙ test-self r.element) ∙ is) in
        t.others e other ∙ are
bounds-behind m (Confirm element upto) e b accepted are = by_test (element == e) refl
    (accepted-moves_base m element upto accepted)
  where
    by_test : (t : Bool) → (element == e) ≡ t → MovesBase m element upto
        → bounds (step m (Confirm element upto)).contents.windows e ≡ Ok (if t then (upto, b.1) else b)
    by_test true is t =
        let same : element ≡ e = eq_by_test element e is in
        let both = same_bounds t.base t.next b.0 b.1
        (sym t.before ∙ ap (λ (n : ℕ). bounds m.windows n) same ∙ are) in
        ap (λ (n : ℕ). bounds (step m (Confirm element upto)).contents.windows n) (sym same) ∙ t.after
        ∙ (λ i. Ok (upto, both.1 i))
    by_test false is t =
        let other : e ≢ element = λ x. true_false
        (sym (ap (λ (n : ℕ). element == n) x ∙ test-self element) ∙ is) in
        t.others e other ∙ are

some-behind_all : (m : Contents) (cs : List Command) (e : ℕ) (b : ℕ × ℕ) → AreAccepted m cs
    → bounds m.windows e ≡ Ok b → bounds (after m cs).windows e ≡ Ok (bounds_behind_all e cs b)
some-behind_all m [] e b accepted are = are
some-behind_all m (c ∷ cs) e b accepted are =
    let first = accepted_first m c cs accepted in
    some-behind_all (step m c).contents cs e (bounds_behind e c b) first.1 (bounds-behind m c e b first.0 are)

none-behind : (before after : Result (ℕ × ℕ) Refusal) (x : Refusal) → BoundsMove before after → before ≡ Err x
    → after ≡ Err x
none-behind before after x (Stays same) is = same ∙ is
none-behind before after x (Grows base next was now low last) is =
    let both : ◌≡◌ {A = Result (ℕ × ℕ) Refusal} (Ok (base, next)) (Err x) = sym was ∙ is in absurd (cc)
none-behind before after x (Rises base next upto was now reached) is =
    let both : ◌≡◌ {A = Result (ℕ × ℕ) Refusal} (Ok (base, next)) (Err x) = sym was ∙ is in absurd (cc)

none-behind_all : (m : Contents) (cs : List Command) (e : ℕ) (x : Refusal) → bounds m.windows e ≡ Err x
    → bounds (after m cs).windows e ≡ Err x
none-behind_all m [] e x is = is
none-behind_all m (c ∷ cs) e x is = none-behind_all (step m c).contents cs e x
    (none-behind (bounds m.windows e) (bounds (step m c).contents.windows e) x (step-moves m c e) is)

-- the bounds behind commands are those of the memory after them
pub bounds-moved : (m : Contents) (cs : List Command) (e : ℕ) → AreAccepted m cs
    → bounds (after m cs).windows e ≡ moved_by e cs (bounds m.windows e)
bounds-moved m cs e accepted = by_bounds (bounds m.windows e) refl
  where
    by_bounds : (b : Result (ℕ × ℕ) Refusal) → bounds m.windows e ≡ b → bounds (after m cs).windows e ≡ moved_by e cs b
    by_bounds (Ok b) are = some-behind_all m cs e b accepted are
    by_bounds (Err x) are = none-behind_all m cs e x are

-- neither bound of a memory's window is past the last number by more than one
pub bounds-low : (cells elements : ℕ) (m : Contents) (e base next : ℕ) → IsMemory cells elements m
    → bounds m.windows e ≡ Ok (base, next) → (base ≤ next) × (next ≤ LAST + 1)
bounds-low cells elements m e base next it are =
    let w = bounds-window m.windows e base next are in
    let is : IsWindow w.window = it.windows e w.window w.there in
    (omega (arith, w.base_is, w.next_is), omega (arith, w.next_is, is.to_last))

-- and so behind commands
pub moved-low : (cells elements : ℕ) (m : Contents) (cs : List Command) (e base next : ℕ) → AreAccepted m cs
    → IsMemory cells elements m → moved_by e cs (bounds m.windows e) ≡ Ok (base, next)
    → (base ≤ next) × (next ≤ LAST + 1)
moved-low cells elements m cs e base next accepted it are =
    bounds-low cells elements (after m cs) e base next (after-memory cells elements m cs it)
    (bounds-moved m cs e accepted ∙ are)

-- ---- a request

is_below : (x y : ℕ) → nat_lt x y ≡ true → x < y
is_below x y e = grind (arith, nat_tests)

pub request-judged : (m : Contents) (r : Request) (b : ℕ × ℕ) → bounds m.windows r.element ≡ Ok b
    → is_next b r ≡ is_accepted m (Asks r)
request-judged m r b are = same_test (is_next b r) (is_accepted m (Asks r)) on back
  where
    on : is_next b r ≡ true → is_accepted m (Asks r) ≡ true
    on e =
        let parts = and_both (r.number == b.1) (nat_lt r.number (b.0 + WINDOW) && nat_lt r.number (LAST + 1)) e in
        let bounded = and_both (nat_lt r.number (b.0 + WINDOW)) (nat_lt r.number (LAST + 1)) parts.1 in
        let next : r.number ≡ b.1 = eq_by_test r.number b.1 parts.0 in
        let room : r.number < b.0 + WINDOW = is_below r.number (b.0 + WINDOW) bounded.0 in
        let low : r.number < LAST + 1 = is_below r.number (LAST + 1) bounded.1 in
        next-accepted m r (record {
          base = b.0;
          are = are ∙ (λ i. Ok (b.0, sym next i));
          room = room;
          to_last = omega (arith, low);
        })

    over : (x y : ℕ) → x < y → nat_lt x y ≡ true
    over x y e = grind (arith, nat_tests)

    back : is_accepted m (Asks r) ≡ true → is_next b r ≡ true
    back e =
        let n = accepted-next m r e in
        let both = same_bounds n.base r.number b.0 b.1 (sym n.are ∙ are) in
        let room : nat_lt r.number (b.0 + WINDOW) ≡ true = over r.number (b.0 + WINDOW) (omega (
          arith,
          n.room,
          both.0,
        )) in
        ap (λ (x : Bool). x && (nat_lt r.number (b.0 + WINDOW) && nat_lt r.number (LAST + 1)))
        (ap (λ (x : ℕ). r.number == x) (sym both.1) ∙ test-self r.number)
        ∙ ap (λ (x : Bool). x && nat_lt r.number (LAST + 1)) room
        ∙ over r.number (LAST + 1) (omega (arith, n.to_last))

no_bounds : (x : Refusal) (b : ℕ × ℕ) → ◌≡◌ {A = Result (ℕ × ℕ) Refusal} (Ok b) (Err x) → ⊥
no_bounds x b e = cc

pub request-nowhere : (m : Contents) (r : Request) (x : Refusal) → bounds m.windows r.element ≡ Err x
    → is_accepted m (Asks r) ≡ false
request-nowhere m r x are = ⊎_elim
    (λ e. absurd (no_bounds x ((accepted-next m r e).base, r.number) (sym (accepted-next m r e).are ∙ are)))
    (λ e. e)
    (true_or_false (is_accepted m (Asks r)))

-- ---- a confirmation

pub confirm-nowhere : (m : Contents) (element upto : ℕ) (x : Refusal) → bounds m.windows element ≡ Err x
    → is_accepted m (Confirm element upto) ≡ false
confirm-nowhere m element upto x are = ⊎_elim
    (λ e. let t = accepted-moves_base m element upto e in absurd (no_bounds x (t.base, t.next) (sym t.before ∙ are)))
    (λ e. e)
    (true_or_false (is_accepted m (Confirm element upto)))

pub confirm-outside : (m : Contents) (element upto base next : ℕ) → bounds m.windows element ≡ Ok (base, next)
    → (upto ≤ base) ⊎ (next < upto) → is_accepted m (Confirm element upto) ≡ false
confirm-outside m element upto base next are out = ⊎_elim
    (λ e. absurd (within (accepted-moves_base m element upto e) out))
    (λ e. e)
    (true_or_false (is_accepted m (Confirm element upto)))
  where
    within : MovesBase m element upto → (upto ≤ base) ⊎ (next < upto) → ⊥
    within t (inl low) =
        let both = same_bounds t.base t.next base next (sym t.before ∙ are) in omega (arith, low, t.rises, both.0)
    within t (inr high) =
        let both = same_bounds t.base t.next base next (sym t.before ∙ are) in omega (arith, high, t.reached, both.1)

-- what is kept for a continuation, if anything is, is answered
abbrev pub DoesNotWait : Contents → Waiter → Type 0
DoesNotWait m who = (k : Kept) → kept_for m.windows who ≡ Some k → is_waiting k ≡ false

forgotten_waits : (m : Contents) (who : Waiter) → IsForgotten m.windows who → DoesNotWait m who
forgotten_waits m who f k is =
    let told : ◌≡◌ {A = Result Entry Refusal} (Err Forgotten) (Ok k.entry)
    = sym (ask-forgotten m.windows who f) ∙ ask-kept m.windows who k is in absurd (cc)

lasts_waits : (m : Contents) (who : Waiter) (k : Kept) → is_waiting k ≡ false
    → IsForgotten m.windows who ⊎ (kept_for m.windows who ≡ Some k) → DoesNotWait m who
lasts_waits m who k answered (inl forgotten) = forgotten_waits m who forgotten
lasts_waits m who k answered (inr is) = λ j at. ap is_waiting (some_same j k (sym at ∙ is)) ∙ answered

pub confirm-accepted : (m : Contents) (element upto base next : ℕ) → bounds m.windows element ≡ Ok (base, next)
    → base < upto → upto ≤ next
    → ((number : ℕ) → base ≤ number → number < upto → DoesNotWait m (record { element = element; number = number }))
    → is_accepted m (Confirm element upto) ≡ true
confirm-accepted m element upto base next are above reached answered =
    let w = bounds-window m.windows element base next are in
    let now = confirmable-confirms m.windows element upto (record {
      base = base;
      next = next;
      are = are;
      reached = reached;
      answered = λ number k below is. ⊎_elim
          (λ (low : number < base). forgotten_waits m (record { element = element; number = number })
          (bounds-forgotten m.windows (record { element = element; number = number }) base next are low) k is)
          (λ (from : base ≤ number). answered number from below k is)
          (below_or_from number base);
    }) in
    ap (moves_base upto (slice_index_or m.windows element new_window)) now.1
    ∙ ap (λ (w : Window). nat_lt w.base upto) (window_at m.windows element w.window w.there)
    ∙ ap (λ (n : ℕ). nat_lt n upto) w.base_is
    ∙ over base upto above
  where
    over : (x y : ℕ) → x < y → nat_lt x y ≡ true
    over x y e = grind (arith, nat_tests)

-- ---- what is answered at once

cell_at_once : (kind : Kind) (serve : CellState → Served) (cells : List (Option Held)) (a : ℕ) (held : Option Held)
    → ((state : CellState) → is_waiting_entry (serve state).entry ≡ false)
    → is_waiting_entry (at_cell kind serve cells a held).entry ≡ false
cell_at_once kind serve cells a None once = refl
cell_at_once kind serve cells a (Some held) once = by_kind (same_kind kind held.block.kind)
  where
    by_kind : (b : Bool)
        → is_waiting_entry (if b then serve_cell cells a held.block (serve held.state) else only_tells cells
        WrongKind).entry
        ≡ false
    by_kind true = once held.state
    by_kind false = refl

stored_at_once : (v : ℕ) (state : CellState) → is_waiting_entry (store v state).entry ≡ false
stored_at_once v (Empty readers) = refl
stored_at_once v (Full w) = refl
stored_at_once v (Clashed w) = refl

put_at_once : (v : ℕ) (state : CellState) → is_waiting_entry (put v state).entry ≡ false
put_at_once v (Empty []) = refl
put_at_once v (Empty (taker ∷ takers)) = refl
put_at_once v (Full w) = refl
put_at_once v (Clashed w) = refl

placed_at_once : (cells : List (Option Held)) (kind : Kind) (n : ℕ) (o : Option ℕ)
    → is_waiting_entry (allocate_at cells kind n o).entry ≡ false
placed_at_once cells kind n None = refl
placed_at_once cells kind n (Some base) = refl

block_at_once : (becomes : Block → List (Option Held)) (reply : Reply) (cells : List (Option Held)) (a : ℕ)
    (block : Option Block) → is_waiting_entry (unless_waited_for becomes reply cells a block).entry ≡ false
block_at_once becomes reply cells a None = refl
block_at_once becomes reply cells a (Some block) = by_test (list_any is_waiting_cell (take block.length (drop a cells)))
  where
    by_test : (b : Bool)
        → is_waiting_entry (if b then only_tells cells StillWaiting else
        record { cells = becomes block; entry = Answered reply; resumed = [] }).entry ≡ false
    by_test true = refl
    by_test false = refl

acts_at_once : (cells : List (Option Held)) (who : Waiter) (op : Op) → is_at_once op ≡ true
    → is_waiting_entry (act cells who op).entry ≡ false
acts_at_once cells who (Alloc kind n) once = by_test (n == 0)
  where
    by_test : (b : Bool)
        → is_waiting_entry (if b then only_tells cells BadLength else allocate_at cells kind n (place n cells)).entry
        ≡ false
    by_test true = refl
    by_test false = placed_at_once cells kind n (place n cells)
acts_at_once cells who (Release a) once = block_at_once _ _ cells a (block_with_base a (held_at cells a))
acts_at_once cells who (Reset a) once = block_at_once _ _ cells a (block_with_base a (held_at cells a))
acts_at_once cells who (Fetch a) once = absurd (true_false (sym once))
acts_at_once cells who (Store a v) once = cell_at_once I (store v) cells a (held_at cells a) (stored_at_once v)
acts_at_once cells who (Take a) once = absurd (true_false (sym once))
acts_at_once cells who (Put a v) once = cell_at_once M (put v) cells a (held_at cells a) (put_at_once v)

-- what a command that is accepted keeps, where it is the request under a number and is answered at once
pub record KeepsAnswer (m : Contents) (who : Waiter) : Type 0 where
  pub kept : Kept
  pub is : kept_for m.windows who ≡ Some kept
  pub answered : is_waiting kept ≡ false

asked_at_once : (m : Contents) (who : Waiter) (c : Command) → WaitingAgrees m → is_accepted m c ≡ true
    → asks_at_once who c ≡ true → KeepsAnswer (step m c).contents who
asked_at_once m who (Confirm element upto) agrees accepted asks = absurd (true_false (sym asks))
asked_at_once m who (Asks r) agrees accepted asks =
    let parts = and_both (r.element == who.element) ((r.number == who.number) && is_at_once r.op) asks in
    let rest = and_both (r.number == who.number) (is_at_once r.op) parts.1 in
    let element : r.element ≡ who.element = eq_by_test r.element who.element parts.0 in
    let number : r.number ≡ who.number = eq_by_test r.number who.number rest.0 in
    let same : asker r ≡ who = (λ i. record { element = element i; number = number i }) in
    let entry = (act m.cells (asker r) r.op).entry in
    let told : (step m (Asks r)).answer ≡ Ok (Tells entry)
    = ap (λ j. (step_request m r j).answer) (accepted-fresh m r accepted) in
    record {
      kept = record { op = r.op; entry = entry };
      is = ap (λ (w : Waiter). kept_for (step m (Asks r)).contents.windows w) (sym same)
          ∙ told-kept m r entry agrees told;
      answered = acts_at_once m.cells (asker r) r.op rest.1;
    }

asked-answered : (m : Contents) (cs : List Command) (who : Waiter) → AreAccepted m cs → WaitingAgrees m
    → list_any (asks_at_once who) cs ≡ true → DoesNotWait (after m cs) who
asked-answered m [] who accepted agrees asked = absurd (true_false (sym asked))
asked-answered m (c ∷ cs) who accepted agrees asked = by_test (asks_at_once who c) refl
    (accepted_first m c cs accepted) asked (asked-answered (step m c).contents cs who)
  where
    by_test : (b : Bool) → asks_at_once who c ≡ b → (is_accepted m c ≡ true) × AreAccepted (step m c).contents cs
        → (b || list_any (asks_at_once who) cs) ≡ true
        → (AreAccepted (step m c).contents cs → WaitingAgrees (step m c).contents
        → list_any (asks_at_once who) cs ≡ true → DoesNotWait (after (step m c).contents cs) who)
        → DoesNotWait (after m (c ∷ cs)) who
    by_test true asks first any later =
        let now = asked_at_once m who c agrees first.0 asks in
        lasts_waits (after m (c ∷ cs)) who now.kept now.answered
        (answered-lasts (step m c).contents cs (step-agrees m c agrees) who now.kept now.is now.answered)
    by_test false asks first any later = later first.1 (step-agrees m c agrees) any

-- where it is sure that an entry is answered, it is
pub sure-answered : (m : Contents) (ahead : List Command) (who : Waiter) → AreAccepted m ahead → WaitingAgrees m
    → is_sure m ahead who ≡ true → DoesNotWait (after m ahead) who
sure-answered m ahead who accepted agrees sure = by_kept (kept_for m.windows who) refl sure
  where
    answered : (b : Bool) → (if b then false else true) ≡ true → b ≡ false
    answered true e = absurd (true_false (sym e))
    answered false e = refl

    by_kept : (o : Option Kept) → kept_for m.windows who ≡ o
        → is_answered_or (list_any (asks_at_once who) ahead) o ≡ true → DoesNotWait (after m ahead) who
    by_kept (Some k) is e = lasts_waits (after m ahead) who k (answered (is_waiting k) e)
        (answered-lasts m ahead agrees who k is (answered (is_waiting k) e))
    by_kept None is e = asked-answered m ahead who accepted agrees e

-- ---- judged behind commands

pub request-behind : (m : Contents) (cs : List Command) (r : Request) (b : ℕ × ℕ) → AreAccepted m cs
    → moved_by r.element cs (bounds m.windows r.element) ≡ Ok b → is_next b r ≡ is_accepted (after m cs) (Asks r)
request-behind m cs r b accepted are = request-judged (after m cs) r b (bounds-moved m cs r.element accepted ∙ are)

pub request-lost : (m : Contents) (cs : List Command) (r : Request) (x : Refusal) → AreAccepted m cs
    → moved_by r.element cs (bounds m.windows r.element) ≡ Err x → false ≡ is_accepted (after m cs) (Asks r)
request-lost m cs r x accepted are = sym
    (request-nowhere (after m cs) r x (bounds-moved m cs r.element accepted ∙ are))

pub confirm-lost : (m : Contents) (cs : List Command) (element upto : ℕ) (x : Refusal) → AreAccepted m cs
    → moved_by element cs (bounds m.windows element) ≡ Err x → false ≡ is_accepted (after m cs) (Confirm element upto)
confirm-lost m cs element upto x accepted are = sym
    (confirm-nowhere (after m cs) element upto x (bounds-moved m cs element accepted ∙ are))

pub confirm-out : (m : Contents) (cs : List Command) (element upto base next : ℕ) → AreAccepted m cs
    → moved_by element cs (bounds m.windows element) ≡ Ok (base, next) → (upto ≤ base) ⊎ (next < upto)
    → false ≡ is_accepted (after m cs) (Confirm element upto)
confirm-out m cs element upto base next accepted are out = sym
    (confirm-outside (after m cs) element upto base next (bounds-moved m cs element accepted ∙ are) out)

pub confirm-in : (m : Contents) (cs : List Command) (element upto base next : ℕ) → AreAccepted m cs
    → WaitingAgrees m → moved_by element cs (bounds m.windows element) ≡ Ok (base, next) → base < upto → upto ≤ next
    → ((number : ℕ) → base ≤ number → number < upto
    → is_sure m cs (record { element = element; number = number }) ≡ true)
    → true ≡ is_accepted (after m cs) (Confirm element upto)
confirm-in m cs element upto base next accepted agrees are above reached sure = sym
    (confirm-accepted (after m cs) element upto base next (bounds-moved m cs element accepted ∙ are) above reached
    (λ number from below. sure-answered m cs (record { element = element; number = number }) accepted agrees
    (sure number from below)))
