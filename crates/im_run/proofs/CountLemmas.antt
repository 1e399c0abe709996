-- Commands that were accepted one after another: their numbers, and what blocks they made. (Own.)
use Rattle.std.proofs.Common.{◌≡◌, ℕ, zero, suc, ◌+◌, ◌-◌, ◌<◌, Bool, true, false, ◌⊎◌, List, [], ◌∷◌, ◌++◌, length}
use Rattle.std.proofs.Common.{replicate, if◌then◌else◌, ◌==◌, slice_get, Some, None, Ok, Err, Option, Result, sym, refl}
use Rattle.std.proofs.Common.{ap, ◌∙◌, inl, inr, ⊎_elim, arith, length-append}
use Rattle.std.{proofs.lemmas.Bool.cases_eq, proofs.lemmas.Bool.Decides.nat_tests, specs.Option.option_map_or}
use Rattle.im_types.specs.Types.{Reply, Waiting, Answered, Base, NoSpace, BadLength, Value, Stored, Clash, NoCell}
use Rattle.im_types.specs.Types.{WrongKind, Released, NoBlock, StillWaiting, Cleared, Request, Command, Outcome, Asks}
use Rattle.im_types.specs.Types.{Confirm, Tells, Confirmed, Refusal, Limits, Held, Window, Contents, new_window}
use Rattle.im_types.specs.Types.{empty_contents, IsMemory, allocate, next_number, bounds_of, bounds, step, is_accepted}
use Rattle.im_types.specs.Types.{after, accept_each}
use Rattle.im_laws.proofs.AcceptLemmas.{accepted-moves_base, accepted-takes_next}
use Rattle.im_laws.proofs.{JudgeLemmas.confirm-cells, MemoryLemmas.after-memory, Tests.eq_by_test, Tests.some_same}
use Rattle.im_script.specs.declared.Action.{Action, TheVariants.Alloc}
use Rattle.im_serial.proofs.BegunLemmas.{accepted_next, asked_by, block_asked, cells_then, had_confirmed, had_here}
use Rattle.im_serial.proofs.BegunLemmas.{had_there, next_bounds, none_left, nothing_had}
use Rattle.im_serial.proofs.LeftLemmas.{had_at}
use Rattle.im_serial.specs.{Asked.base_told, Asked.bases_after, Asked.Leads, Asked.Wanted, Begun.new_memory}
use Rattle.im_serial.specs.Had.{end_with, left_of, next_had, numbers_had, sums_of}
use Rattle.im_run.{proofs.SplitLemmas.AreBlocks, specs.Stops.numbers_from, specs.Stops.numbers_of}

-- ---- a list in two parts

pub accept_split : (xs ys : List Command) (m n : Contents) → accept_each m (xs ++ ys) ≡ Some n
    → (accept_each m xs ≡ Some (after m xs)) × (accept_each (after m xs) ys ≡ Some n)
accept_split [] ys m n e = (refl, e)
accept_split (c ∷ xs) ys m n e =
    let one = accepted_next m c (xs ++ ys) n e in
    let rest = accept_split xs ys (step m c).contents n one.1 in (
      ap (λ (b : Bool). if b then accept_each (step m c).contents xs else None) one.0 ∙ rest.0,
      rest.1,
    )

-- ---- one request

asks_here : (e : ℕ) (r : Request) (rest : List ℕ) → e ≡ r.element
    → (if e == r.element then r.number ∷ [] else []) ++ rest ≡ r.number ∷ rest
asks_here e r rest same =
    let test : (e == r.element) ≡ true = grind (arith, nat_tests, same) in
    ap (λ (b : Bool). (if b then r.number ∷ [] else []) ++ rest) test

asks_there : (e : ℕ) (r : Request) (rest : List ℕ) → (e ≡ r.element → ⊥)
    → (if e == r.element then r.number ∷ [] else []) ++ rest ≡ rest
asks_there e r rest other = by_test (e == r.element) refl
  where
    by_test : (b : Bool) → (e == r.element) ≡ b → (if b then r.number ∷ [] else []) ++ rest ≡ rest
    by_test true is = absurd (other (eq_by_test e r.element is))
    by_test false is = refl

-- ---- their numbers follow each other

abbrev next_by : Result (ℕ × ℕ) Refusal → ℕ
next_by (Ok ends) = ends.1
next_by (Err refusal) = 0

next_is : (m : Contents) (e : ℕ) → next_had m e ≡ next_by (bounds m.windows e)
next_is m e = by_window (slice_get m.windows e)
  where
    by_window : (o : Option Window) → option_map_or next_number o 0 ≡ next_by (bounds_of o)
    by_window None = refl
    by_window (Some w) = refl

next_confirmed : (m : Contents) (element upto e : ℕ) → is_accepted m (Confirm element upto) ≡ true
    → next_had (step m (Confirm element upto)).contents e ≡ next_had m e
next_confirmed m element upto e accepted =
    let it = accepted-moves_base m element upto accepted in
    let now = (step m (Confirm element upto)).contents in
    next_is now e ∙ ⊎_elim
    (λ (same : e ≡ element). ap (λ (x : ℕ). next_by (bounds now.windows x)) same ∙ ap next_by it.after
    ∙ sym (ap next_by it.before) ∙ sym (ap (λ (x : ℕ). next_by (bounds m.windows x)) same))
    (λ other. ap next_by (it.others e other))
    (cases_eq e element)
    ∙ sym (next_is m e)

-- the requests of an element have the numbers from its next one on
record Numbered (e : ℕ) (m n : Contents) (put : List Command) : Type 0 where
  many : ℕ
  numbers : numbers_of e put ≡ numbers_from (next_had m e) many
  next : next_had n e ≡ next_had m e + many

numbered : (e : ℕ) (put : List Command) (m n : Contents) → accept_each m put ≡ Some n → Numbered e m n put
numbered e [] m n accepted =
    let same : next_had n e ≡ next_had m e = ap (λ (x : Contents). next_had x e) (sym (some_same m n accepted)) in
    record { many = 0; numbers = refl; next = omega (arith, same) }
numbered e (Confirm element upto ∷ put) m n accepted =
    let one = accepted_next m (Confirm element upto) put n accepted in
    let same = next_confirmed m element upto e one.0 in
    let rest = numbered e put (step m (Confirm element upto)).contents n one.1 in
    record {
      many = rest.many;
      numbers = rest.numbers ∙ ap (λ (x : ℕ). numbers_from x rest.many) same;
      next = omega (arith, same, rest.next);
    }
numbered e (Asks r ∷ put) m n accepted =
    let one = accepted_next m (Asks r) put n accepted in
    by_element one (numbered e put (step m (Asks r)).contents n one.1) (cases_eq e r.element)
  where
    now : Contents
    now = (step m (Asks r)).contents

    by_element : (is_accepted m (Asks r) ≡ true) × (accept_each now put ≡ Some n) → Numbered e now n put
        → (e ≡ r.element) ⊎ (e ≡ r.element → ⊥) → Numbered e m n (Asks r ∷ put)
    by_element one rest (inl same) =
        let t = accepted-takes_next m r one.0 in
        let was : next_had m e ≡ r.number = ap (next_had m) same ∙ next_bounds m r.element t.base r.number t.before in
        let is : next_had now e ≡ r.number + 1 = ap (next_had now) same
        ∙ next_bounds now r.element t.base (r.number + 1) t.after in
        let more : next_had now e ≡ suc r.number = omega (arith, is) in
        record {
          many = suc rest.many;
          numbers = asks_here e r (numbers_of e put) same
              ∙ ap (λ (l : List ℕ). r.number ∷ l) (rest.numbers ∙ ap (λ (x : ℕ). numbers_from x rest.many) more)
              ∙ ap (λ (x : ℕ). numbers_from x (suc rest.many)) (sym was);
          next = omega (arith, was, is, rest.next);
        }
    by_element one rest (inr other) =
        let t = accepted-takes_next m r one.0 in
        let same : next_had now e ≡ next_had m e = next_is now e ∙ ap next_by (t.others e other) ∙ sym (next_is m e) in
        record {
          many = rest.many;
          numbers = asks_there e r (numbers_of e put) other ∙ rest.numbers
              ∙ ap (λ (x : ℕ). numbers_from x rest.many) same;
          next = omega (arith, same, rest.next);
        }

next_new : (elements e : ℕ) → e < elements → let new : List Window = replicate elements new_window in
    option_map_or next_number (slice_get new e) 0 ≡ 1
next_new zero e inside = absurd (omega arith)
next_new (suc n) zero inside = refl
next_new (suc n) (suc e) inside = next_new n e (omega arith)

first_number : (limits : Limits) (e : ℕ) → e < limits.elements → next_had (new_memory limits) e ≡ 1
unfolding empty_contents
first_number limits e inside = next_new limits.elements e inside

had_next : (m : Contents) (e : ℕ) → left_of (numbers_had m) e ≡ next_had m e - 1
had_next m e = had_at m.windows e ∙ by_window (slice_get m.windows e)
  where
    by_window : (o : Option Window) → option_map_or (λ (w : Window). next_number w - 1) o 0
        ≡ option_map_or next_number o 0 - 1
    by_window None = refl
    by_window (Some w) = refl

-- from a new image on: 1, 2, 3 and so on, each once
pub numbers_in_order : (limits : Limits) (put : List Command) (m : Contents) (e : ℕ)
    → accept_each (new_memory limits) put ≡ Some m → e < limits.elements
    → numbers_of e put ≡ numbers_from 1 (left_of (numbers_had m) e)
numbers_in_order limits put m e accepted inside =
    let it = numbered e put (new_memory limits) m accepted in
    let first = first_number limits e inside in
    let had = had_next m e in
    let many : it.many ≡ left_of (numbers_had m) e = omega (arith, first, had, it.next) in
    it.numbers ∙ ap (λ (x : ℕ). numbers_from x it.many) first ∙ ap (numbers_from 1) many

-- ---- how many an element made

pub had_more : (cells elements e : ℕ) (put : List Command) (m n : Contents) → IsMemory cells elements m
    → accept_each m put ≡ Some n → left_of (numbers_had n) e ≡ left_of (numbers_had m) e + length (numbers_of e put)
had_more cells elements e [] m n is accepted =
    let same : left_of (numbers_had n) e ≡ left_of (numbers_had m) e =
    ap (λ (x : Contents). left_of (numbers_had x) e) (sym (some_same m n accepted)) in
    omega (arith, same)
had_more cells elements e (Confirm element upto ∷ put) m n is accepted =
    let one = accepted_next m (Confirm element upto) put n accepted in
    let same = had_confirmed m element upto e one.0 in
    let rest = had_more cells elements e put (step m (Confirm element upto)).contents n
    (after-memory cells elements m (Confirm element upto ∷ []) is) one.1 in
    omega (arith, same, rest)
had_more cells elements e (Asks r ∷ put) m n is accepted =
    let one = accepted_next m (Asks r) put n accepted in
    let rest = had_more cells elements e put (step m (Asks r)).contents n
    (after-memory cells elements m (Asks r ∷ []) is) one.1 in
    ⊎_elim
    (λ (same : e ≡ r.element).
    let here = had_here cells elements m is r one.0 e same in
    let count = ap length (asks_here e r (numbers_of e put) same) in
    omega (arith, here, rest, count))
    (λ (other : e ≡ r.element → ⊥).
    let there = had_there cells elements m is r one.0 e other in
    let count = ap length (asks_there e r (numbers_of e put) other) in
    omega (arith, there, rest, count))
    (cases_eq e r.element)

pub nothing_made : (limits : Limits) (e : ℕ) → left_of (numbers_had (new_memory limits)) e ≡ 0
unfolding empty_contents
nothing_made limits e = had_at (new_memory limits).windows e ∙ nothing_had limits.elements e

-- ---- blocks that were all asked for

empty_or : (w : Wanted) (left : List Wanted) → ◌≡◌ {A = List Wanted} (w ∷ left) [] → ⊥
empty_or w left e = cc

-- each has a number of element 0
pub blocks_asked_all : (put : List Command) (wanted : List Wanted) (m : Contents) (bases : List ℕ) → AreBlocks wanted
    → Leads m bases wanted put [] → length (numbers_of 0 put) ≡ length wanted
blocks_asked_all [] [] m bases are leads = refl
blocks_asked_all [] (w ∷ wanted) m bases are leads = absurd (empty_or w wanted leads)
blocks_asked_all (Confirm element upto ∷ put) wanted m bases are leads =
    blocks_asked_all put wanted (step m (Confirm element upto)).contents bases are leads
blocks_asked_all (Asks r ∷ put) [] m bases are leads = absurd leads
blocks_asked_all (Asks r ∷ put) (w ∷ wanted) m bases are (is, inl (more, (made, leads))) =
    let element : 0 ≡ r.element = sym are.0.element ∙ (asked_by m bases w r is).0 in
    let count = ap length (asks_here 0 r (numbers_of 0 put) element) in
    let rest = blocks_asked_all put wanted (step m (Asks r)).contents (bases ++ more) are.1 leads in
    omega (arith, count, rest)
blocks_asked_all (Asks r ∷ put) (w ∷ wanted) m bases are (is, inr (none, (nothing, same))) =
    absurd (none_left w wanted same)

-- one base is told
one_base : (a : Result Outcome Refusal) (more : List ℕ) → base_told a ≡ Some more → length more ≡ 1
one_base (Ok (Tells (Answered reply))) more e = by_reply reply e
  where
    by_reply : (reply : Reply) → base_told (Ok (Tells (Answered reply))) ≡ Some more → length more ≡ 1
    by_reply (Base base) e = ap length (sym (some_same (base ∷ []) more e))
    by_reply NoSpace e = absurd (cc)
    by_reply BadLength e = absurd (cc)
    by_reply (Value v) e = absurd (cc)
    by_reply Stored e = absurd (cc)
    by_reply Clash e = absurd (cc)
    by_reply NoCell e = absurd (cc)
    by_reply WrongKind e = absurd (cc)
    by_reply Released e = absurd (cc)
    by_reply NoBlock e = absurd (cc)
    by_reply StillWaiting e = absurd (cc)
    by_reply Cleared e = absurd (cc)
one_base (Ok (Tells Waiting)) more e = absurd (cc)
one_base (Ok Confirmed) more e = absurd (cc)
one_base (Err refusal) more e = absurd (cc)

-- and a name stands for it
pub names_count : (put : List Command) (wanted : List Wanted) (m : Contents) (bases : List ℕ) → AreBlocks wanted
    → Leads m bases wanted put [] → length (bases_after m bases wanted put) ≡ length bases + length wanted
names_count [] [] m bases are leads = omega arith
names_count [] (w ∷ wanted) m bases are leads = absurd (empty_or w wanted leads)
names_count (Confirm element upto ∷ put) wanted m bases are leads =
    names_count put wanted (step m (Confirm element upto)).contents bases are leads
names_count (Asks r ∷ put) [] m bases are leads = absurd leads
names_count (Asks r ∷ put) (w ∷ wanted) m bases are (is, inl (more, (made, leads))) =
    let told : base_told (step m (Asks r)).answer ≡ Some more =
    sym (ap (λ (b : Bool). if b then base_told (step m (Asks r)).answer else Some []) are.0.named) ∙ made in
    let one = one_base (step m (Asks r)).answer more told in
    let rest = names_count put wanted (step m (Asks r)).contents (bases ++ more) are.1 leads in
    let same = ap (λ (o : Option (List ℕ)). length (bases_after (step m (Asks r)).contents
    (bases ++ option_map_or (λ (x : List ℕ). x) o []) wanted put)) made in
    omega (arith, same, rest, one, length-append bases more)
names_count (Asks r ∷ put) (w ∷ wanted) m bases are (is, inr (none, (nothing, same))) = absurd (none_left w wanted same)

-- the bases of blocks
pub sums_count : (end : ℕ) (blocks : List Wanted) → AreBlocks blocks → length (sums_of end blocks) ≡ length blocks
sums_count end [] are = refl
sums_count end (w ∷ blocks) are =
    let rest = sums_count (end_with end w) blocks are.1 in
    let here : length (sums_of end (w ∷ blocks)) ≡ suc (length (sums_of (end_with end w) blocks)) =
    ap (λ (b : Bool). length ((if b then end ∷ [] else []) ++ sums_of (end_with end w) blocks)) are.0.named in
    omega (arith, here, rest)

-- ---- the cells behind a setup

made_by : List (Option Held) → Action → List (Option Held)
made_by cells (Alloc kind n) = (allocate cells kind n).cells
made_by cells action = cells

-- those after these blocks
pub cells_behind : List (Option Held) → List Wanted → List (Option Held)
cells_behind cells [] = cells
cells_behind cells (w ∷ wanted) = cells_behind (made_by cells w.action) wanted

pub cells_led : (cells elements : ℕ) (put : List Command) (wanted : List Wanted) (m n : Contents) (bases : List ℕ)
    → IsMemory cells elements m → AreBlocks wanted → Leads m bases wanted put [] → accept_each m put ≡ Some n
    → (after m put).cells ≡ cells_behind m.cells wanted
unfolding cells_behind made_by
cells_led cells elements [] [] m n bases is are leads accepted = refl
cells_led cells elements [] (w ∷ wanted) m n bases is are leads accepted = absurd (empty_or w wanted leads)
cells_led cells elements (Confirm element upto ∷ put) wanted m n bases is are leads accepted =
    let one = accepted_next m (Confirm element upto) put n accepted in
    cells_led cells elements put wanted (step m (Confirm element upto)).contents n bases
    (after-memory cells elements m (Confirm element upto ∷ []) is) are leads one.1
    ∙ ap (λ (x : List (Option Held)). cells_behind x wanted) (confirm-cells m element upto)
cells_led cells elements (Asks r ∷ put) [] m n bases is are leads accepted = absurd leads
cells_led cells elements (Asks r ∷ put) (w ∷ wanted) m n bases is are (asked, inl (more, (made, leads))) accepted =
    let one = accepted_next m (Asks r) put n accepted in
    cells_led cells elements put wanted (step m (Asks r)).contents n (bases ++ more)
    (after-memory cells elements m (Asks r ∷ []) is) are.1 leads one.1
    ∙ ap (λ (x : List (Option Held)). cells_behind x wanted)
    (cells_then cells elements m is r one.0 are.0.kind are.0.length (block_asked m bases w r asked are.0)
    ∙ ap (made_by m.cells) (sym are.0.action))
cells_led cells elements (Asks r ∷ put) (w ∷ wanted) m n bases is are (asked, inr (none, (nothing, same))) accepted =
    absurd (none_left w wanted same)
