-- Where a window stands once what is asked has acted.
use Rattle.std.proofs.Common.{◌≡◌, ℕ, ◌+◌, ◌-◌, ◌<◌, ◌≤◌, max, Bool, true, false, cond, ◌&&◌, ◌≢◌, List, [], ◌∷◌, take}
use Rattle.std.proofs.Common.{drop, if◌then◌else◌, nat_lt, ◌==◌, slice_get, slice_index_or, Some, None, Ok, Err, Result}
use Rattle.std.proofs.Common.{sym, refl, ap, ◌∙◌, arith}
use Rattle.std.{proofs.lemmas.Bool.Decides.nat_tests, specs.List.list_any}
use Rattle.im_types.specs.Types.{Request, Command, Asks, Confirm, Refusal, Gap, NotAnswered, JournalFull, WINDOW, LAST}
use Rattle.im_types.specs.Types.{Window, Contents, new_window, next_number, is_waiting, confirm_window, bounds}
use Rattle.im_types.specs.Types.{step_confirm, step, moves_base, is_accepted}
use Rattle.im_laws.proofs.{AcceptLemmas.accepted-moves_base, AcceptLemmas.same_bounds, GroupLemmas.same_test}
use Rattle.im_laws.proofs.{MemoryLemmas.bounds-window, MemoryLemmas.HasWindow, WindowLemmas.window_at}
use Rattle.im_laws.{proofs.Tests.and_both, proofs.Tests.eq_by_test, proofs.Tests.true_false, specs.Windows.MovesBase}
use Rattle.im_groups.proofs.AheadLemmas.{bounds-moved, request-judged}
use Rattle.im_groups.specs.Ahead.{AreAccepted, bounds_behind, is_next, moved_by}
use Rattle.im_groups.specs.Commands.{answer_with, answers_with, contents_after_all, contents_with, places_behind}
use Rattle.im_asks.specs.Behind.{bounds_asked, bounds_reckoned, NoneIsMissed, takes_next}

-- ---- a request

-- two ways to say that a window has a place
room_is : (base next : ℕ) → nat_lt (next - base) WINDOW ≡ nat_lt next (base + WINDOW)
room_is base next = same_test (nat_lt (next - base) WINDOW) (nat_lt next (base + WINDOW))
    (λ e. grind (arith, nat_tests)) (λ e. grind (arith, nat_tests))

next_is : (b : ℕ × ℕ) (r : Request) → takes_next b r ≡ is_next b r
next_is b r = by_test (r.number == b.1) refl
  where
    by_test : (t : Bool) → (r.number == b.1) ≡ t
        → (t && (nat_lt (b.1 - b.0) WINDOW && nat_lt r.number (LAST + 1)))
        ≡ (t && (nat_lt r.number (b.0 + WINDOW) && nat_lt r.number (LAST + 1)))
    by_test false is = refl
    by_test true is =
        let same : r.number ≡ b.1 = eq_by_test r.number b.1 is in
        ap (λ (x : Bool). x && nat_lt r.number (LAST + 1))
        (room_is b.0 b.1 ∙ ap (λ (n : ℕ). nat_lt n (b.0 + WINDOW)) (sym same))

request_moves : (m : Contents) (r : Request) (e : ℕ) (b : ℕ × ℕ) (accepted : Bool) → is_accepted m (Asks r) ≡ accepted
    → bounds m.windows e ≡ Ok b → (if accepted then bounds_behind e (Asks r) b else b) ≡ bounds_asked e (Asks r) b
request_moves m r e b accepted is are = by_test (r.element == e) refl
  where
    stays : (t : Bool) → (if t then b else b) ≡ b
    stays true = refl
    stays false = refl

    by_test : (here : Bool) → (r.element == e) ≡ here
        → (if accepted then (if here then (b.0, b.1 + 1) else b) else b)
        ≡ (if here && takes_next b r then (b.0, b.1 + 1) else b)
    by_test false at = stays accepted
    by_test true at =
        let same : r.element ≡ e = eq_by_test r.element e at in
        let taken : takes_next b r ≡ accepted =
        next_is b r ∙ request-judged m r b (ap (λ (n : ℕ). bounds m.windows n) same ∙ are) ∙ is in
        ap (λ (t : Bool). if t then (b.0, b.1 + 1) else b) (sym taken)

-- ---- a confirmation

-- one that isn't accepted, within the window, would drop an entry that waits
confirm_waits : (m : Contents) (element upto : ℕ) (b : ℕ × ℕ) → bounds m.windows element ≡ Ok b → b.0 < upto
    → upto ≤ b.1 → is_accepted m (Confirm element upto) ≡ false
    → (step m (Confirm element upto)).answer ≡ Err NotAnswered
confirm_waits m element upto b are above reached is =
    by_test (list_any is_waiting (take (upto - w.window.base) w.window.kept)) refl
  where
    w : HasWindow m.windows element b.0 b.1
    w = bounds-window m.windows element b.0 b.1 are

    now : Window
    now = record { base = max w.window.base upto; kept = drop (upto - w.window.base) w.window.kept }

    made : (t : Bool) → list_any is_waiting (take (upto - w.window.base) w.window.kept) ≡ t
        → confirm_window upto (slice_get m.windows element) ≡ cond t (Err NotAnswered) (Ok now)
    made t waits =
        let next = w.next_is in
        let near : nat_lt (next_number w.window) upto ≡ false = grind (arith, nat_tests) in
        ap (confirm_window upto) w.there
        ∙ ap (λ b. cond b (Err Gap)
        (cond (list_any is_waiting (take (upto - w.window.base) w.window.kept)) (Err NotAnswered) (Ok now))) near
        ∙ ap (λ b. cond b (Err NotAnswered) (Ok now)) waits

    by_test : (t : Bool) → list_any is_waiting (take (upto - w.window.base) w.window.kept) ≡ t
        → (step m (Confirm element upto)).answer ≡ Err NotAnswered
    by_test true waits = ap (λ (k : Result Window Refusal). (step_confirm m element k).answer) (made true waits)
    by_test false waits =
        let rises : nat_lt b.0 upto ≡ true = grind (arith, nat_tests) in
        let moves : is_accepted m (Confirm element upto) ≡ true =
        ap (moves_base upto (slice_index_or m.windows element new_window)) (made false waits)
        ∙ ap (λ (v : Window). nat_lt v.base upto) (window_at m.windows element w.window w.there)
        ∙ ap (λ (n : ℕ). nat_lt n upto) w.base_is ∙ rises in
        absurd (true_false (sym moves ∙ is))

-- the confirmed number lies within the window
abbrev is_within : ℕ × ℕ → ℕ → Bool
is_within b upto = nat_lt b.0 upto && nat_lt upto (b.1 + 1)

within : (m : Contents) (element upto : ℕ) (b : ℕ × ℕ) → bounds m.windows element ≡ Ok b
    → MovesBase m element upto → is_within b upto ≡ true
within m element upto b are t =
    let both = same_bounds t.base t.next b.0 b.1 (sym t.before ∙ are) in
    is (ap (λ (n : ℕ). n) both.0) (ap (λ (n : ℕ). n) both.1) t.rises t.reached
  where
    is : t.base ≡ b.0 → t.next ≡ b.1 → t.base < upto → upto ≤ t.next → is_within b upto ≡ true
    is base next rises reached =
        let low : nat_lt b.0 upto ≡ true = grind (arith, nat_tests) in
        let high : nat_lt upto (b.1 + 1) ≡ true = grind (arith, nat_tests) in
        ap (λ (x : Bool). x && nat_lt upto (b.1 + 1)) low ∙ high

confirm_moves : (m : Contents) (element upto e : ℕ) (b : ℕ × ℕ) (accepted : Bool)
    → is_accepted m (Confirm element upto) ≡ accepted → bounds m.windows e ≡ Ok b
    → (step m (Confirm element upto)).answer ≢ Err NotAnswered
    → (if accepted then bounds_behind e (Confirm element upto) b else b) ≡ bounds_asked e (Confirm element upto) b
confirm_moves m element upto e b accepted is are told = by_test (element == e) refl accepted is
  where
    stays : (t : Bool) → (if t then b else b) ≡ b
    stays true = refl
    stays false = refl

    outside : (t : Bool) → is_within b upto ≡ t → is_accepted m (Confirm element upto) ≡ false
        → bounds m.windows element ≡ Ok b → b ≡ (if t then (upto, b.1) else b)
    outside false beyond left at = refl
    outside true inside left at =
        let parts = and_both (nat_lt b.0 upto) (nat_lt upto (b.1 + 1)) inside in
        let above = parts.0 in
        let under = parts.1 in
        let low : b.0 < upto = grind (arith, nat_tests) in
        let high : upto ≤ b.1 = grind (arith, nat_tests) in
        absurd (told (confirm_waits m element upto b at low high left))

    by_test : (here : Bool) → (element == e) ≡ here → (t : Bool) → is_accepted m (Confirm element upto) ≡ t
        → (if t then (if here then (upto, b.1) else b) else b)
        ≡ (if here && is_within b upto then (upto, b.1) else b)
    by_test false at t accepts = stays t
    by_test true at true accepts =
        let same : element ≡ e = eq_by_test element e at in
        let there = ap (λ (n : ℕ). bounds m.windows n) same ∙ are in
        let inside = within m element upto b there (accepted-moves_base m element upto accepts) in
        ap (λ (t : Bool). if t then (upto, b.1) else b) (sym inside)
    by_test true at false left =
        let same : element ≡ e = eq_by_test element e at in
        outside (is_within b upto) refl left (ap (λ (n : ℕ). bounds m.windows n) same ∙ are)

-- ---- any commands

moves : (m : Contents) (c : Command) (e : ℕ) (b : ℕ × ℕ) (accepted : Bool) → is_accepted m c ≡ accepted
    → bounds m.windows e ≡ Ok b → (step m c).answer ≢ Err NotAnswered
    → (if accepted then bounds_behind e c b else b) ≡ bounds_asked e c b
moves m (Asks r) e b accepted is are told = request_moves m r e b accepted is are
moves m (Confirm element upto) e b accepted is are told = confirm_moves m element upto e b accepted is are told

one_accepted : (m : Contents) (c : Command) → is_accepted m c ≡ true → AreAccepted m (c ∷ [])
one_accepted m c is = by_test (is_accepted m c) is
  where
    by_test : (t : Bool) → t ≡ true → (if t then Some (step m c).contents else None) ≡ Some (step m c).contents
    by_test true e = refl
    by_test false e = absurd (true_false (sym e))

-- what is asked next, of a window that may not exist
stands_one : (m : Contents) (left e : ℕ) (c : Command) (o : Result (ℕ × ℕ) Refusal) → bounds m.windows e ≡ o
    → (answer_with m left c ≢ Err NotAnswered) × (answer_with m left c ≢ Err JournalFull)
    → bounds (contents_with m left c).windows e ≡ bounds_reckoned e (c ∷ []) o
stands_one m left e c o are told = by_tests (is_accepted m c) (left == 0) (nat_lt 0 left) refl (some left) told
  where
    some : (n : ℕ) → (n == 0) ≡ false → nat_lt 0 n ≡ true
    some n e = grind (arith, nat_tests)

    moved : (t : Bool) (o : Result (ℕ × ℕ) Refusal) → is_accepted m c ≡ t → bounds m.windows e ≡ o
        → (step m c).answer ≢ Err NotAnswered
        → (if t then moved_by e (c ∷ []) o else o) ≡ bounds_reckoned e (c ∷ []) o
    moved true (Ok b) is are told = ap Ok (moves m c e b true is are told)
    moved false (Ok b) is are told = ap Ok (moves m c e b false is are told)
    moved true (Err x) is are told = refl
    moved false (Err x) is are told = refl

    by_tests : (t none more : Bool) → is_accepted m c ≡ t → (none ≡ false → more ≡ true)
        → ((if t && none then Err JournalFull else (step m c).answer) ≢ Err NotAnswered)
        × ((if t && none then Err JournalFull else (step m c).answer) ≢ Err JournalFull)
        → bounds (if t && more then (step m c).contents else m).windows e ≡ bounds_reckoned e (c ∷ []) o
    by_tests false none more is some told = are ∙ moved false o is are told.0
    by_tests true true more is some told = absurd (told.1 refl)
    by_tests true false false is some told = absurd (true_false (sym (some refl)))
    by_tests true false true is some told =
        bounds-moved m (c ∷ []) e (one_accepted m c is) ∙ ap (λ w. moved_by e (c ∷ []) w) are
        ∙ moved true o is are told.0

reckoned_on : (e : ℕ) (c : Command) (cs : List Command) (o : Result (ℕ × ℕ) Refusal)
    → bounds_reckoned e cs (bounds_reckoned e (c ∷ []) o) ≡ bounds_reckoned e (c ∷ cs) o
reckoned_on e c cs (Ok b) = refl
reckoned_on e c cs (Err x) = refl

pub stands : (m : Contents) (left e : ℕ) (commands : List Command) → NoneIsMissed (answers_with m left commands)
    → bounds (contents_after_all m left commands).windows e
    ≡ bounds_reckoned e commands (bounds m.windows e)
stands m left e [] none = as_it_is (bounds m.windows e)
  where
    as_it_is : (o : Result (ℕ × ℕ) Refusal) → o ≡ bounds_reckoned e [] o
    as_it_is (Ok b) = refl
    as_it_is (Err x) = refl
stands m left e (c ∷ cs) none =
    stands (contents_with m left c) (places_behind m left c) e cs none.1
    ∙ ap (λ o. bounds_reckoned e cs o) (stands_one m left e c (bounds m.windows e) refl none.0)
    ∙ reckoned_on e c cs (bounds m.windows e)
