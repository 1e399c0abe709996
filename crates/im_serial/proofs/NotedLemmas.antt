-- What is noted of the requests that had to wait. (Own.)
use Rattle.std.proofs.Common.{◌≡◌, ℕ, zero, suc, ◌+◌, ◌-◌, ◌*◌, ◌%◌, ◌<◌, ◌≤◌, Bool, true, false, cond, ◌&&◌, ◌⊎◌, List}
use Rattle.std.proofs.Common.{[], ◌∷◌, ◌++◌, map, length, get_or, take, drop, set, if◌then◌else◌, nat_lt, ◌==◌}
use Rattle.std.proofs.Common.{slice_get, Some, None, Ok, Option, option_map, sym, refl, ap, ◌∙◌, subst, ap₂, inl, inr}
use Rattle.std.proofs.Common.{⊎_elim, arith, eq-eqb, ne_eqb}
use Rattle.std.proofs.lemmas.{Bool.Decides.nat_tests, List.length-map, List.map-append}
use Rattle.std.proofs.lemmas.Option.{same_Some, slice_get-get_or, slice_get_past, slice_get_within}
use Rattle.im_types.specs.Types.{Entry, Waiter, Kept, Waiting, Answered, Request, Command, Asks, Confirm, Tells}
use Rattle.im_types.specs.Types.{Confirmed, Window, Contents, kept_for, IsWindow, WaitingAgrees, StaysOrIsAnswered}
use Rattle.im_types.specs.Types.{drops, bounds, asker, step, after, latest, last_kept, last_entry}
use Rattle.im_laws.{proofs.EntryLemmas.step-lasts, proofs.EntryLemmas.told-kept, specs.Windows.IsForgotten}
use Rattle.im_laws.proofs.{ForgetLemmas.after-forgotten, JudgeLemmas.kept_for-confirmed, RunAgrees.step-keeps}
use Rattle.im_laws.proofs.{RunLemmas.after-append, StepLemmas.slice_get-end, Tests.and_both, Tests.eq_by_test}
use Rattle.im_laws.proofs.WindowLemmas.{kept_for-here, kept_for-window, kept_under-below, kept_under-from}
use Rattle.im_text.proofs.{PrintingLemmas.take-prefix, PrintingLemmas.true_false, WindowLemmas.bounds_found}
use Rattle.im_text.specs.{declared.Waited.Waited, Said.waits_if, Said.who_of}
use Rattle.im_serial.specs.declared.waits.Mark.{Mark, TheVariants.Earlier, TheVariants.Here, TheVariants.Nobody}
use Rattle.im_serial.specs.Noted.{AreKnown, AreNoted, entered, IsLearnt, IsMarked, IsToDrop, mark_place, noted_by}
use Rattle.im_serial.specs.Noted.{noted_if, with_entry}

-- ---- the last entry

kept_last : (m : Contents) (put : List Command) (who : Waiter) (k : Kept) (before : Option Kept)
    → kept_for (after m put).windows who ≡ Some k → last_kept m put who before ≡ Some k
kept_last m [] who k before is = ap (λ (o : Option Kept). latest o before) is
kept_last m (c ∷ put) who k before is = kept_last (step m c).contents put who k (latest (kept_for m.windows who)
    before) is

-- what is kept is the last entry
pub entry_last : (m : Contents) (put : List Command) (who : Waiter) (k : Kept) → kept_for (after m put).windows who
    ≡ Some k → last_entry m put who ≡ Some k.entry
entry_last m put who k is = ap (option_map (λ (kept : Kept). kept.entry)) (kept_last m put who k None is)

dropped_last : (m : Contents) (put : List Command) (c : Command) (who : Waiter) (before : Option Kept)
    → kept_for (step (after m put) c).contents.windows who ≡ None → last_kept m (put ++ c ∷ []) who before
    ≡ last_kept m put who before
dropped_last m [] c who before none = ap (λ (o : Option Kept). latest o (latest (kept_for m.windows who) before)) none
dropped_last m (d ∷ put) c who before none = dropped_last (step m d).contents put c who (latest (kept_for m.windows
    who) before) none

-- what isn't kept any more has the last entry that it had
entry_dropped : (m : Contents) (put : List Command) (c : Command) (who : Waiter)
    → kept_for (step (after m put) c).contents.windows who ≡ None → last_entry m (put ++ c ∷ []) who
    ≡ last_entry m put who
entry_dropped m put c who none = ap (option_map (λ (kept : Kept). kept.entry)) (dropped_last m put c who None none)

forgotten_none : (windows : List Window) (who : Waiter) → IsForgotten windows who → kept_for windows who ≡ None
forgotten_none windows who f = kept_for-here windows who.element f.window who f.there refl
    ∙ kept_under-below f.window who.number f.below

pub none_some : (o : Option Kept) (k : Kept) → o ≡ None → o ≡ Some k → ⊥
none_some o k none some = cc

-- ---- places

element_same : (e f n o : ℕ) → e * 64 + n % 64 ≡ f * 64 + o % 64 → e ≡ f
element_same e f n o is = omega arith

number_same : (n o base len : ℕ) → base ≤ n → n < base + len → base ≤ o → o < base + len → len ≤ 64 → n % 64
    ≡ o % 64 → n ≡ o
number_same n o base len a b c d few is = omega arith

kept_within : (windows : List Window) (who : Waiter) (k : Kept) (w : Window) → slice_get windows who.element
    ≡ Some w → kept_for windows who ≡ Some k → (w.base ≤ who.number) × (who.number < w.base + length w.kept)
kept_within windows who k w at is =
    let there = kept_for-window windows who k is in
    let found : slice_get windows who.element ≡ Some there.0 = there.1 in
    let same : there.0 ≡ w = cc in
    let from : w.base ≤ who.number = subst (λ (v : Window). v.base ≤ who.number) same there.2 in
    let under : slice_get w.kept (who.number - w.base) ≡ Some k = sym (kept_under-from w who.number from)
    ∙ sym (kept_for-here windows who.element w who at refl) ∙ is in
    let low : who.number - w.base < length w.kept = slice_get_within w.kept (who.number - w.base) k under in
    (from, omega arith)

-- two kept requests have one place only if they are the same
pub apart : (windows : List Window) (a b : Waiter) (i j : Kept) → ((element : ℕ) (w : Window)
    → slice_get windows element ≡ Some w → IsWindow w) → kept_for windows a ≡ Some i → kept_for windows b ≡ Some j
    → mark_place a ≡ mark_place b → (a.element ≡ b.element) × (a.number ≡ b.number)
apart windows a b i j few is js same =
    let e : a.element ≡ b.element = element_same a.element b.element a.number b.number same in
    let there = kept_for-window windows a i is in
    let w = there.0 in
    let found : slice_get windows b.element ≡ Some w = subst (λ (x : ℕ). slice_get windows x ≡ Some w) e there.1 in
    let ra = kept_within windows a i w there.1 is in
    let rb = kept_within windows b j w found js in
    let rem : a.number % 64 ≡ b.number % 64 = by_element a.element b.element (a.number % 64) (b.number % 64) e same in
    (e, number_same a.number b.number w.base (length w.kept) ra.0 ra.1 rb.0 rb.1 (few a.element w there.1).few rem)
  where
    by_element : (e f n o : ℕ) → e ≡ f → e * 64 + n ≡ f * 64 + o → n ≡ o
    by_element e f n o same is = omega arith

next_unkept : (windows : List Window) (who : Waiter) (base : ℕ) → bounds windows who.element ≡ Ok (base, who.number)
    → kept_for windows who ≡ None
next_unkept windows who base is =
    let it = bounds_found (slice_get windows who.element) base who.number is in
    let next = it.next_is in
    kept_for-here windows who.element it.window who it.found_is refl
    ∙ kept_under-from it.window who.number (omega arith) ∙ slice_get-end it.window.kept (who.number -
    it.window.base) (omega arith)

-- ---- one entry is noted

settled_none : (mark : Mark) (who : Waiter) (entry : Entry) (i : ℕ) → noted_by mark who entry i None ≡ None
settled_none Nobody who entry i = refl
settled_none Earlier who entry i = refl
settled_none (Here at) who entry i = by_test (i == at)
  where
    by_test : (b : Bool) → (if b then option_map (with_entry who entry) None else None) ≡ None
    by_test true = refl
    by_test false = refl

settled_other : (mark : Mark) (who : Waiter) (entry : Entry) (i : ℕ) (w : Waited)
    → ((w.element == who.element) && (w.number == who.number)) ≡ false → noted_by mark who entry i (Some w) ≡ Some w
settled_other Nobody who entry i w other = refl
settled_other Earlier who entry i w other = refl
settled_other (Here at) who entry i w other = by_test (i == at)
  where
    by_test : (b : Bool) → (if b then Some (with_entry who entry w) else Some w) ≡ Some w
    by_test true = ap (λ (b : Bool). Some (if b then record { element = w.element; number = w.number; entry = entry }
        else w)) other
    by_test false = refl

settled_here : (who : Waiter) (entry : Entry) (i : ℕ) (w : Waited)
    → ((w.element == who.element) && (w.number == who.number)) ≡ true → noted_by (Here i) who entry i (Some w)
    ≡ Some (record { element = w.element; number = w.number; entry = entry })
settled_here who entry i w same =
    ap (λ (b : Bool). if b then Some (with_entry who entry w) else Some w) (eq-eqb i i refl)
    ∙ ap (λ (b : Bool). Some (if b then record { element = w.element; number = w.number; entry = entry } else w)) same

who_tests : (a b c d : ℕ) → a ≡ c → b ≡ d → ((a == c) && (b == d)) ≡ true
who_tests a b c d first second = ap (λ (t : Bool). t && (b == d)) (eq-eqb a c first) ∙ eq-eqb b d second

-- ---- one place more

pub get_set_here : {A : Type 0} (xs : List A) (at : ℕ) (v : A) → at < length xs → slice_get (set xs at v) at ≡ Some v
get_set_here [] at v h = absurd (omega arith)
get_set_here (x ∷ xs) zero v h = refl
get_set_here (x ∷ xs) (suc at) v h = get_set_here xs at v (omega arith)

pub get_set_other : {A : Type 0} (xs : List A) (at : ℕ) (v : A) (i : ℕ) → (i ≡ at → ⊥) → slice_get (set xs at v) i
    ≡ slice_get xs i
get_set_other [] at v i h = refl
get_set_other (x ∷ xs) zero v zero h = absurd (h refl)
get_set_other (x ∷ xs) zero v (suc i) h = refl
get_set_other (x ∷ xs) (suc at) v zero h = refl
get_set_other (x ∷ xs) (suc at) v (suc i) h = get_set_other xs at v i (λ e. h (ap suc e))

-- an entry was set at an index
pub entered_set : (waited : List Waited) (at : ℕ) (who : Waiter) (entry : Entry) (d v : Waited) → at < length waited
    → v ≡ with_entry who entry (get_or waited at d)
    → (i : ℕ) → slice_get (set waited at v) i ≡ entered at who entry i (slice_get waited i)
entered_set waited at who entry d v within is i = by_test (i == at) refl
  where
    by_test : (b : Bool) → (i == at) ≡ b → slice_get (set waited at v) i
        ≡ (if b then option_map (with_entry who entry) (slice_get waited i) else slice_get waited i)
    by_test true t =
        let same : i ≡ at = eq_by_test i at t in
        ap (slice_get (set waited at v)) same ∙ get_set_here waited at v within ∙ ap Some is
        ∙ ap (option_map (with_entry who entry)) (sym (slice_get-get_or waited at d within))
        ∙ ap (λ (j : ℕ). option_map (with_entry who entry) (slice_get waited j)) (sym same)
    by_test false t = get_set_other waited at v i (λ same. true_false _ (eq-eqb i at same) t)

-- there is none at the index
pub entered_past : (waited : List Waited) (at : ℕ) (who : Waiter) (entry : Entry) → length waited ≤ at → (i : ℕ)
    → slice_get waited i ≡ entered at who entry i (slice_get waited i)
entered_past waited at who entry past i = by_test (i == at) refl
  where
    by_test : (b : Bool) → (i == at) ≡ b → slice_get waited i
        ≡ (if b then option_map (with_entry who entry) (slice_get waited i) else slice_get waited i)
    by_test true t =
        let same : i ≡ at = eq_by_test i at t in
        let none : slice_get waited i ≡ None = slice_get_past waited i (omega arith) in
        none ∙ ap (option_map (with_entry who entry)) (sym none)
    by_test false t = refl

pub entered_who : (who : Waiter) (entry : Entry) (w v : Waited) → v ≡ with_entry who entry w → who_of v ≡ who_of w
entered_who who entry w v is = ap who_of is ∙ by_test ((w.element == who.element) && (w.number == who.number))
  where
    by_test : (b : Bool) → who_of (if b then record { element = w.element; number = w.number; entry = entry } else w) ≡
        who_of w
    by_test true = refl
    by_test false = refl

pub noted_names : (r : Request) (entry : Entry) (waited noted : List Waited) → noted
    ≡ waited ++ noted_if (asker r) entry → map who_of noted ≡ map who_of waited ++ waits_if (asker r) entry
noted_names r entry waited noted pushed = ap (map who_of) pushed
    ∙ map-append who_of waited (noted_if (asker r) entry) ∙ ap (λ (l : List Waiter). map who_of waited ++ l) (by_entry
    entry)
  where
    by_entry : (entry : Entry) → map who_of (noted_if (asker r) entry) ≡ waits_if (asker r) entry
    by_entry Waiting = refl
    by_entry (Answered reply) = refl

-- a list that a slice was changed to is what it was changed to
pub written_back : (len : ℕ) (new old : List Waited) → map who_of new ≡ map who_of old → length old ≡ len
    → take len (new ++ drop (length new) old) ≡ new
written_back len new old names fits =
    let same : length new ≡ length old = sym (length-map new who_of) ∙ ap length names ∙ length-map old who_of in
    ap (λ (n : ℕ). take n (new ++ drop (length new) old)) (sym fits ∙ sym same)
    ∙ take-prefix new (drop (length new) old)

-- ---- before a confirmation

nothing : (who : Waiter) → IsToDrop 0 0 who → ⊥
nothing who below = let b = below.1 in omega arith

below_next : (k n : ℕ) → k < n + 1 → (k < n) ⊎ (k ≡ n)
below_next k n less = by_test (nat_lt k n) refl
  where
    by_test : (b : Bool) → nat_lt k n ≡ b → (k < n) ⊎ (k ≡ n)
    by_test true t = inl (grind (arith, nat_tests))
    by_test false t = inr (let from : n ≤ k = grind (arith, nat_tests) in omega arith)

more : (k n : ℕ) → k < n → k < n + 1
more k n less = omega arith

less_next : (k n : ℕ) → k ≡ n → k < n + 1
less_next k n same = omega arith

not_less : (k n : ℕ) → k ≡ n → k < n → ⊥
not_less k n same less = omega arith

not_here : (k n : ℕ) → k < n → (k == n) ≡ false
not_here k n less = ne_eqb k n (λ same. not_less k n same less)

same_kept : (windows : List Window) (w : Waited) (who : Waiter) → w.element ≡ who.element → w.number ≡ who.number
    → kept_for windows (who_of w) ≡ kept_for windows who
same_kept windows w who first second = ap₂ (λ (e n : ℕ). kept_for windows (record { element = e; number = n })) first
    second

same_place : (w : Waited) (who : Waiter) → w.element ≡ who.element → w.number ≡ who.number → mark_place (who_of w)
    ≡ mark_place who
same_place w who first second = ap₂ (λ (e n : ℕ). mark_place (record { element = e; number = n })) first second

no_waited : (o : Option Waited) (w : Waited) → o ≡ None → o ≡ Some w → ⊥
no_waited o w none some = cc

stays_kept : (k : Kept) (o : Option Kept) → StaysOrIsAnswered k o → (j : Kept) × (o ≡ Some j)
stays_kept k o (inl same) = (k, same)
stays_kept k o (inr h) = (record { op = k.op; entry = Answered h.0 }, h.2)

is_below : (element upto : ℕ) (who : Waiter) → drops (Confirm element upto) who ≡ true → IsToDrop element upto who
is_below element upto who d =
    let tests = and_both (who.element == element) (nat_lt who.number upto) d in
    let less : nat_lt who.number upto ≡ true = tests.1 in
    (eq_by_test who.element element tests.0, grind (arith, nat_tests))

drops_below : (element upto : ℕ) (who : Waiter) → IsToDrop element upto who → drops (Confirm element upto) who ≡ true
drops_below element upto who below =
    let less : who.number < upto = below.1 in
    let test : nat_lt who.number upto ≡ true = grind (arith, nat_tests) in
    ap (λ (t : Bool). t && nat_lt who.number upto) (eq-eqb who.element element below.0) ∙ test

-- the last one, or one before it
pub last_or_before : (waited : List Waited) (last : Waited) (at : ℕ) (w : Waited) → slice_get (waited ++ last ∷ []) at
    ≡ Some w → (slice_get waited at ≡ Some w) ⊎ ((at ≡ length waited) × (w ≡ last))
last_or_before [] last zero w is = inr (refl, same_Some w last (sym is))
last_or_before [] last (suc at) w is = absurd (cc)
last_or_before (v ∷ waited) last zero w is = inl is
last_or_before (v ∷ waited) last (suc at) w is = ⊎_elim inl (λ new. inr (ap suc new.0, new.1)) (last_or_before waited
    last at w is)

module _ (m : Contents) (put : List Command) where
  -- nothing below the base is kept
  pub noted_from : (element base next : ℕ) (marks : List Mark) (waited : List Waited)
      → bounds (after m put).windows element ≡ Ok (base, next) → AreNoted m put 0 0 marks waited
      → AreNoted m put element base marks waited
  noted_from element base next marks waited found noted = λ at w is. ⊎_elim inl (λ marked. inr (record {
    kept = marked.kept;
    kept_is = marked.kept_is;
    learnt = λ below. absurd (low w marked.kept marked.kept_is below);
    marked = λ above. marked.marked (λ none. nothing _ none);
  })) (noted at w is)
    where
      low : (w : Waited) (k : Kept) → kept_for (after m put).windows (who_of w) ≡ Some k
          → IsToDrop element base (who_of w) → ⊥
      low w k is below =
          let it = bounds_found (slice_get (after m put).windows element) base next found in
          let here : slice_get (after m put).windows w.element
          ≡ Some it.window = subst (λ (e : ℕ). slice_get (after m put).windows e
          ≡ Some it.window) (sym below.0) it.found_is in
          let within = (kept_within (after m put).windows (who_of w) k it.window here is).0 in
          let base_is = it.base_is in
          let less = below.1 in
          absurd (omega arith)

  -- nothing is kept under a number
  pub noted_none : (who : Waiter) (marks : List Mark) (waited : List Waited) → kept_for (after m put).windows who
      ≡ None → AreNoted m put who.element who.number marks waited
      → AreNoted m put who.element (who.number + 1) marks waited
  noted_none who marks waited none noted = λ at w is. ⊎_elim inl (λ marked. inr (record {
    kept = marked.kept;
    kept_is = marked.kept_is;
    learnt = λ below. ⊎_elim (λ low. marked.learnt (below.0, low))
        (λ same. absurd (none_some (kept_for (after m put).windows who) marked.kept none (sym (same_kept (after m
        put).windows w who below.0 same) ∙ marked.kept_is)))
        (below_next w.number who.number below.1);
    marked = λ above. marked.marked (λ low. above (low.0, more w.number who.number low.1));
  })) (noted at w is)

  -- an entry is learnt, by the mark at its place
  module _ (who : Waiter) (k : Kept) (mark : Mark) (marks later : List Mark) (waited learned : List Waited) (few :
      (element : ℕ) (w : Window) → slice_get (after m put).windows element ≡ Some w → IsWindow w)
      (is : kept_for (after m put).windows who ≡ Some k) (taken : (there : Mark) → slice_get marks (mark_place who)
      ≡ Some there → mark ≡ there)
      (others : (i : ℕ) → (i ≡ mark_place who → ⊥) → slice_get later i ≡ slice_get marks i) (sets : (i : ℕ)
      → slice_get learned i ≡ noted_by mark who k.entry i (slice_get waited i))
      (noted : AreNoted m put who.element who.number marks waited) where
    pub noted_learnt : AreNoted m put who.element (who.number + 1) later learned
    noted_learnt = λ at w found. by_old at w found (slice_get waited at) refl
      where
        by_old : (at : ℕ) (w : Waited) → slice_get learned at ≡ Some w → (old : Option Waited) → slice_get waited at
            ≡ old
            → (IsForgotten (after m put).windows (who_of w) × (last_entry m put (who_of w)
            ≡ Some w.entry)) ⊎ IsMarked (after m put) who.element (who.number + 1) later at w
        by_old at w found None e =
            let none : slice_get learned at ≡ None = sets at ∙ ap (noted_by mark who k.entry at) e
            ∙ settled_none mark who k.entry at in
            absurd (no_waited (slice_get learned at) w none found)
        by_old at w found (Some v) e = by_same ((v.element == who.element) && (v.number == who.number)) refl
          where
            by_same : (t : Bool) → ((v.element == who.element) && (v.number == who.number)) ≡ t
                → (IsForgotten (after m put).windows (who_of w) × (last_entry m put (who_of w)
                ≡ Some w.entry)) ⊎ IsMarked (after m put) who.element (who.number + 1) later at w
            by_same true t =
                let tests = and_both (v.element == who.element) (v.number == who.number) t in
                let first : v.element ≡ who.element = eq_by_test v.element who.element tests.0 in
                let second : v.number ≡ who.number = eq_by_test v.number who.number tests.1 in
                let kept_is : kept_for (after m put).windows (who_of v)
                ≡ Some k = same_kept (after m put).windows v who first second ∙ is in
                ⊎_elim (λ forgotten. absurd (none_some (kept_for (after m put).windows (who_of v)) k (forgotten_none
                (after m put).windows (who_of v) forgotten.0) kept_is)) (λ marked.
                let here : slice_get marks (mark_place who) ≡ Some (Here at) = ap (slice_get marks) (sym (same_place v
                who first second)) ∙ marked.marked (λ low. absurd (not_less v.number who.number second low.1)) in
                let mark_is : mark ≡ Here at = taken (Here at) here in
                let entry_is : slice_get learned at ≡ Some (record {
                  element = v.element;
                  number = v.number;
                  entry =
                      k.entry;
                }) =
                sets at ∙ ap (noted_by mark who k.entry at) e
                ∙ ap (λ (x : Mark). noted_by x who k.entry at (Some v)) mark_is
                ∙ settled_here who k.entry at v t in
                let w_is : w ≡ record { element = v.element; number = v.number; entry = k.entry } = same_Some w _ (sym
                found ∙ entry_is) in
                subst (λ (x : Waited). (IsForgotten (after m put).windows (who_of x) × (last_entry m put (who_of x)
                ≡ Some x.entry)) ⊎ IsMarked (after m put) who.element (who.number + 1) later at x) (sym w_is)
                (inr (record {
                  kept = k;
                  kept_is = kept_is;
                  learnt = λ below. refl;
                  marked = λ above. absurd (above
                      (first, less_next v.number who.number second));
                })))
                (noted at v e)
            by_same false t =
                let w_is : w ≡ v = same_Some w v (sym found ∙ sets at ∙ ap (noted_by mark who k.entry at) e
                ∙ settled_other mark who k.entry at v t) in
                subst (λ (x : Waited). (IsForgotten (after m put).windows (who_of x) × (last_entry m put (who_of x)
                ≡ Some x.entry)) ⊎ IsMarked (after m put) who.element (who.number + 1) later at x) (sym w_is)
                (⊎_elim inl (λ marked. inr (record {
                  kept = marked.kept;
                  kept_is = marked.kept_is;
                  learnt = λ below. ⊎_elim (λ low. marked.learnt (below.0, low)) (λ same. absurd (true_false _
                      (who_tests v.element v.number who.element who.number below.0 same) t)) (below_next v.number
                      who.number below.1);
                  marked = λ above. others (mark_place (who_of v)) (λ same. let a = apart (after m put).windows (who_of
                      v) who marked.kept k few marked.kept_is is same in true_false _ (who_tests v.element v.number
                      who.element who.number a.0 a.1) t)
                      ∙ marked.marked (λ low. above (low.0, more v.number who.number low.1));
                })) (noted at v e))

  -- ---- a command more

  forgotten_on : (c : Command) (who : Waiter) (entry : Entry)
      → IsForgotten (after m put).windows who × (last_entry m put who ≡ Some entry)
      → IsForgotten (after m (put ++ c ∷ [])).windows who × (last_entry m (put ++ c ∷ []) who ≡ Some entry)
  forgotten_on c who entry f =
      let there : IsForgotten (step (after m put) c).contents.windows who = after-forgotten (after m put) (c ∷ []) who
      f.0 in (
        subst (λ (n : Contents). IsForgotten n.windows who) (sym (after-append m put (c ∷ []))) there,
        entry_dropped m
            put c who (forgotten_none (step (after m put) c).contents.windows who there) ∙ f.1,
      )

  kept_on : (c : Command) (who : Waiter) (k : Kept) → kept_for (step (after m put) c).contents.windows who ≡ Some k
      → kept_for (after m (put ++ c ∷ [])).windows who ≡ Some k
  kept_on c who k is = subst (λ (n : Contents). kept_for n.windows who ≡ Some k) (sym (after-append m put (c ∷ []))) is

  -- what was learnt is dropped
  module _ (element upto : ℕ) (marks : List Mark) (waited : List Waited) (agrees : WaitingAgrees (after m put)) (ok :
      (step (after m put) (Confirm element upto)).answer ≡ Ok Confirmed) (noted : AreNoted m put element upto marks
      waited) where
    pub noted_confirmed : AreNoted m (put ++ Confirm element upto ∷ []) 0 0 marks waited
    noted_confirmed = λ at w is. ⊎_elim (λ f. inl (forgotten_on (Confirm element upto) (who_of w) w.entry f)) (λ
        marked. by_drops at w marked (drops (Confirm element upto) (who_of w)) refl) (noted at w is)
      where
        by_lasts : (w : Waited) (k : Kept) → kept_for (step (after m put) (Confirm element upto)).contents.windows
            (who_of w) ≡ None → last_entry m put (who_of w) ≡ Some w.entry
            → IsForgotten (step (after m put) (Confirm element upto)).contents.windows (who_of w) ⊎ StaysOrIsAnswered k
            (kept_for (step (after m put) (Confirm element upto)).contents.windows (who_of w))
            → IsForgotten (after m (put ++ Confirm element upto ∷ [])).windows (who_of w) × (last_entry m (put ++
            Confirm element upto ∷ []) (who_of w) ≡ Some w.entry)
        by_lasts w k none last (inl f) = (
          subst (λ (n : Contents). IsForgotten n.windows (who_of w)) (sym (after-append
              m put (Confirm element upto ∷ []))) f,
          entry_dropped m put (Confirm element upto) (who_of w) none ∙ last,
        )
        by_lasts w k none last (inr stays) = let j = stays_kept k (kept_for (step (after m put) (Confirm element
            upto)).contents.windows (who_of w)) stays in absurd (none_some (kept_for (step (after m put) (Confirm
            element upto)).contents.windows (who_of w)) j.0 none j.1)

        by_drops : (at : ℕ) (w : Waited) → IsMarked (after m put) element upto marks at w → (b : Bool)
            → drops (Confirm element upto) (who_of w) ≡ b
            → (IsForgotten (after m (put ++ Confirm element upto ∷ [])).windows (who_of w) × (last_entry m (put ++
            Confirm element upto ∷ []) (who_of w) ≡ Some w.entry)) ⊎ IsMarked (after m (put ++ Confirm element upto
            ∷ [])) 0 0 marks at w
        by_drops at w marked true d =
            let below = is_below element upto (who_of w) d in
            let none : kept_for (step (after m put) (Confirm element upto)).contents.windows (who_of w) ≡ None =
            kept_for-confirmed (after m put) element upto (who_of w) ok
            ∙ ap (λ (b : Bool). cond b None (kept_for (after m put).windows (who_of w))) d in
            inl (by_lasts w marked.kept none (entry_last m put (who_of w) marked.kept marked.kept_is
            ∙ ap Some (sym (marked.learnt below))) (step-lasts (after m put) (Confirm element upto) agrees (who_of
            w) marked.kept marked.kept_is))
        by_drops at w marked false d = inr (record {
          kept = marked.kept;
          kept_is = kept_on (Confirm element upto) (who_of w) marked.kept (kept_for-confirmed (after m put) element
              upto (who_of w) ok ∙ ap (λ (b : Bool). cond b None (kept_for (after m put).windows (who_of w))) d
              ∙ marked.kept_is);
          learnt = λ none. absurd (nothing _ none);
          marked = λ above. marked.marked (λ low. absurd (true_false _ (drops_below element upto (who_of w) low) d));
        })

    -- nothing was dropped
    pub noted_same : (step (after m put) (Confirm element upto)).contents ≡ after m put
        → AreNoted m put 0 0 marks waited
    noted_same same = λ at w is. ⊎_elim inl (λ marked. by_drops at w marked (drops (Confirm element upto) (who_of w))
        refl) (noted at w is)
      where
        by_drops : (at : ℕ) (w : Waited) → IsMarked (after m put) element upto marks at w → (b : Bool)
            → drops (Confirm element upto) (who_of w) ≡ b
            → (IsForgotten (after m put).windows (who_of w) × (last_entry m put (who_of w)
            ≡ Some w.entry)) ⊎ IsMarked (after m put) 0 0 marks at w
        by_drops at w marked true d =
            let none : kept_for (after m put).windows (who_of w)
            ≡ None = subst (λ (n : Contents). kept_for n.windows (who_of w) ≡ None) same
            (kept_for-confirmed (after m put) element upto (who_of w) ok
            ∙ ap (λ (b : Bool). cond b None (kept_for (after m put).windows (who_of w))) d) in
            absurd (none_some (kept_for (after m put).windows (who_of w)) marked.kept none marked.kept_is)
        by_drops at w marked false d = inr (record {
          kept = marked.kept;
          kept_is = marked.kept_is;
          learnt = λ none. absurd (nothing _ none);
          marked = λ above. marked.marked (λ low. absurd (true_false _ (drops_below element upto (who_of w) low) d));
        })

  -- a request is answered, or has to wait
  module _ (r : Request) (base : ℕ) (entry : Entry) (agrees : WaitingAgrees (after m put)) (next : bounds (after m
      put).windows r.element ≡ Ok (base, r.number)) (ok : (step (after m put) (Asks r)).answer ≡ Ok (Tells entry)) where
    stays : (who : Waiter) (k : Kept) → kept_for (after m put).windows who ≡ Some k
        → (j : Kept) × (kept_for (step (after m put) (Asks r)).contents.windows who ≡ Some j)
    stays who k is = ⊎_elim (λ no. absurd (true_false true refl (sym no))) (λ s. stays_kept k (kept_for (step (after m
        put) (Asks r)).contents.windows who) s) (step-keeps (after m put) (Asks r) agrees who k is)

    own : kept_for (after m (put ++ Asks r ∷ [])).windows (asker r) ≡ Some (record { op = r.op; entry = entry })
    own = kept_on (Asks r) (asker r) (record { op = r.op; entry = entry }) (told-kept (after m put) r entry agrees ok)

    -- of those that waited before
    pub known_asked : (waited : List Waited) → AreKnown m put waited → AreKnown m (put ++ Asks r ∷ []) waited
    known_asked waited known = λ at w is. ⊎_elim (λ f. inl (forgotten_on (Asks r) (who_of w) w.entry f)) (λ kept. let j
        = stays (who_of w) kept.0 kept.1 in inr (j.0, kept_on (Asks r) (who_of w) j.0 j.1)) (known at w is)

    module _ (marks later : List Mark) (waited : List Waited) (few : (element : ℕ) (w : Window)
        → slice_get (after m (put ++ Asks r ∷ [])).windows element ≡ Some w → IsWindow w)
        (others : (i : ℕ) → (i ≡ mark_place (asker r) → ⊥) → slice_get later i
        ≡ slice_get marks i) (noted : AreNoted m put 0 0 marks waited) where
      pub noted_asked : AreNoted m (put ++ Asks r ∷ []) 0 0 later waited
      noted_asked = λ at w is. ⊎_elim (λ f. inl (forgotten_on (Asks r) (who_of w) w.entry f)) (λ marked.
          let j = stays (who_of w) marked.kept marked.kept_is in
          let now = kept_on (Asks r) (who_of w) j.0 j.1 in
          inr (record {
            kept = j.0;
            kept_is = now;
            learnt = λ none. absurd (nothing _ none);
            marked = λ above. others (mark_place (who_of w)) (λ same.
                let a = apart (after m (put ++ Asks r ∷ [])).windows (who_of w) (asker r) j.0 (record {
                  op = r.op;
                  entry = entry;
                }) few now own same in
                none_some (kept_for (after m put).windows (asker r)) marked.kept (next_unkept (after m put).windows
                (asker r) base next) (sym (same_kept (after m put).windows w (asker r) a.0 a.1)
                ∙ marked.kept_is)) ∙ marked.marked (λ none. nothing _ none);
          })) (noted at w is)

      -- and the request itself, if it has to wait
      pub noted_waits : (last : Waited) → who_of last ≡ asker r → slice_get later (mark_place (asker r))
          ≡ Some (Here (length waited)) → AreNoted m (put ++ Asks r ∷ []) 0 0 later (waited ++ last ∷ [])
      noted_waits last who_is here = λ at w is. ⊎_elim (λ old. noted_asked at w old) (λ new. inr (record {
        kept = record { op = r.op; entry = entry };
        kept_is = ap (kept_for (after m (put ++ Asks r ∷ [])).windows) (ap who_of new.1 ∙ who_is) ∙ own;
        learnt = λ none. absurd (nothing _ none);
        marked = λ above. ap (λ (who : Waiter). slice_get later (mark_place who)) (ap who_of new.1 ∙ who_is) ∙ here
            ∙ ap (λ (i : ℕ). Some (Here i)) (sym new.0);
      })) (last_or_before waited last at w is)

  -- ---- the end

  pub noted_known : (element upto : ℕ) (marks : List Mark) (waited : List Waited)
      → AreNoted m put element upto marks waited → AreKnown m put waited
  noted_known element upto marks waited noted = λ at w is. ⊎_elim inl (λ marked. inr (marked.kept, marked.kept_is))
      (noted at w is)

  -- one that isn't kept any more
  pub learnt_dropped : (waited : List Waited) (i : ℕ) (w : Waited) → slice_get waited i ≡ Some w
      → kept_for (after m put).windows (who_of w) ≡ None → IsLearnt m put i waited → IsLearnt m put (i + 1) waited
  learnt_dropped waited i w here none learnt = record {
    known = learnt.known;
    last = λ at v below is. ⊎_elim (λ low. learnt.last at v low is) (λ same.
        let v_is : v ≡ w = same_Some v w (sym is ∙ ap (slice_get waited) same ∙ here) in
        subst (λ (x : Waited). last_entry m put (who_of x) ≡ Some x.entry) (sym v_is)
        (⊎_elim (λ f. f.1) (λ kept. absurd (none_some (kept_for (after m put).windows (who_of w)) kept.0 none kept.1))
        (learnt.known i w here))) (below_next at i below);
  }

  -- one that is kept: its entry is noted
  pub learnt_kept : (waited learned : List Waited) (i : ℕ) (w : Waited) (k : Kept) → slice_get waited i ≡ Some w
      → kept_for (after m put).windows (who_of w) ≡ Some k → ((j : ℕ) → slice_get learned j
      ≡ entered i (who_of w) k.entry j (slice_get waited j)) → IsLearnt m put i waited
      → IsLearnt m put (i + 1) learned
  learnt_kept waited learned i w k here is sets learnt = record {
    known = λ at v found. by_place at v found (at == i) refl;
    last = λ at v below found. ⊎_elim (λ low. learnt.last at v low (before at v (not_here at i low) found)) (λ same.
        last_here at v same found) (below_next at i below);
  }
    where
      before : (at : ℕ) (v : Waited) → (at == i) ≡ false → slice_get learned at ≡ Some v → slice_get waited at ≡ Some v
      before at v other found = sym (sets at ∙ ap (λ (b : Bool). if b then option_map (with_entry (who_of w) k.entry)
          (slice_get waited at) else slice_get waited at) other) ∙ found

      now : (at : ℕ) (v : Waited) → at ≡ i → slice_get learned at ≡ Some v → v
          ≡ record { element = w.element; number = w.number; entry = k.entry }
      now at v same found = same_Some v _ (sym found ∙ sets at
          ∙ ap (λ (j : ℕ). entered i (who_of w) k.entry j (slice_get waited j)) same
          ∙ ap (entered i (who_of w) k.entry i) here ∙ settled_here (who_of w) k.entry i w (who_tests w.element
          w.number w.element w.number refl refl))

      last_here : (at : ℕ) (v : Waited) → at ≡ i → slice_get learned at ≡ Some v → last_entry m put (who_of v)
          ≡ Some v.entry
      last_here at v same found = subst (λ (x : Waited). last_entry m put (who_of x)
          ≡ Some x.entry) (sym (now at v same found)) (entry_last m put (who_of w) k is)

      by_place : (at : ℕ) (v : Waited) → slice_get learned at ≡ Some v → (b : Bool) → (at == i) ≡ b
          → (IsForgotten (after m put).windows (who_of v) × (last_entry m put (who_of v)
          ≡ Some v.entry)) ⊎ ((k : Kept) × (kept_for (after m put).windows (who_of v) ≡ Some k))
      by_place at v found true t = subst (λ (x : Waited). (IsForgotten (after m put).windows (who_of x) × (last_entry m
          put (who_of x) ≡ Some x.entry)) ⊎ ((k : Kept) × (kept_for (after m put).windows (who_of x) ≡ Some k)))
          (sym (now at v (eq_by_test at i t) found)) (inr (k, is))
      by_place at v found false t = learnt.known at v (before at v t found)

  pub learnt_past : (waited : List Waited) (i : ℕ) → slice_get waited i ≡ None → IsLearnt m put i waited
      → IsLearnt m put (i + 1) waited
  learnt_past waited i none learnt = record {
    known = learnt.known;
    last = λ at v below is. ⊎_elim (λ low. learnt.last at v low is) (λ same. absurd (no_waited (slice_get waited i) v
        none (ap (slice_get waited) (sym same) ∙ is))) (below_next at i below);
  }
