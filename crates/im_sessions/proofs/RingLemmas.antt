-- What a ring shows, after its places or its bounds change.
use Rattle.std.proofs.Common.{◌≡◌, ℕ, zero, suc, ◌+◌, ◌-◌, ◌<◌, ◌≤◌, true, false, ◌||◌, ◌≢◌, List, [], ◌∷◌, ◌++◌}
use Rattle.std.proofs.Common.{length, get_or, take, drop, set, slice_get, Some, sym, refl, ap, ◌∙◌, add-one, arith}
use Rattle.std.proofs.Common.{length-take-le, get_or-set_other, get_or-take, get_or-set_same}
use Rattle.std.proofs.lemmas.List.{Folds.list_any_at, Folds.list_any_more, get_or_default}
use Rattle.std.{proofs.lemmas.Option.get_or_from_slice_get, specs.List.list_any}
use Rattle.im_types.specs.Types.{Entry, Op, Reply, Kept, Answered, WINDOW, Window, IsWindow, next_number, note_in}
use Rattle.im_types.specs.Types.{answer_at, answer_in, is_waiting}
use Rattle.im_sessions.specs.Places.{AreBounds, blank, entries_from, ring_place}

-- the window that a ring shows
abbrev pub window_of : List Kept → ℕ → ℕ → Window
window_of places base count = record { base = base; kept = entries_from places base count }

place_of-within : (n : ℕ) → ring_place n < WINDOW
place_of-within n = omega arith

pub length-entries_from : (places : List Kept) (n count : ℕ) → length (entries_from places n count) ≡ count
length-entries_from places n zero = refl
length-entries_from places n (suc count) = ap suc (length-entries_from places (suc n) count)

slice_get-entries_from : (places : List Kept) (n count i : ℕ) → i < count → slice_get (entries_from places n count) i
    ≡ Some (get_or places (ring_place (n + i)) blank)
slice_get-entries_from places n zero i h = absurd (omega arith)
slice_get-entries_from places n (suc count) zero h = let e : n
    ≡ n + 0 = omega arith in ap (λ m. Some (get_or places (ring_place m) blank)) e
slice_get-entries_from places n (suc count) (suc i) h =
    let e : suc n + i ≡ n + suc i = omega arith in
    slice_get-entries_from places (suc n) count i (omega arith) ∙ ap (λ m. Some (get_or places (ring_place m) blank)) e

-- the entry under a number
slice_get-shown : (places : List Kept) (base count number : ℕ) (d : Kept) → length places ≡ WINDOW → base ≤ number
    → number < base + count
    → slice_get (entries_from places base count) (number - base) ≡ Some (get_or places (ring_place number) d)
slice_get-shown places base count number d size from below =
    let e : base + (number - base) ≡ number = omega arith in
    slice_get-entries_from places base count (number - base) (omega arith)
    ∙ ap (λ m. Some (get_or places (ring_place m) blank)) e
    ∙ ap Some (get_or_default places (ring_place number) blank d (rw size (place_of-within number)))

-- a write to a place that none of these entries has leaves them
entries_from-set_other : (places : List Kept) (place n count : ℕ) (k : Kept)
    → ((m : ℕ) → n ≤ m → m < n + count → ring_place m ≢ place) → entries_from (set places place k) n count
    ≡ entries_from places n count
entries_from-set_other places place n zero k apart = refl
entries_from-set_other places place n (suc count) k apart =
    ap (λ x. x ∷ entries_from (set places place k) (suc n) count)
    (get_or-set_other places place (ring_place n) k blank (apart n (omega arith) (omega arith)))
    ∙ ap (λ xs. get_or places (ring_place n) blank ∷ xs)
    (entries_from-set_other places place (suc n) count k (λ m from below. apart m (omega arith) (omega arith)))

entries_from-last : (places : List Kept) (n count : ℕ) → entries_from places n (suc count)
    ≡ entries_from places n count ++ get_or places (ring_place (n + count)) blank ∷ []
entries_from-last places n zero = let e : n ≡ n + 0 = omega arith in ap (λ m. get_or places (ring_place m) blank ∷ []) e
entries_from-last places n (suc count) =
    let e : suc n + count ≡ n + suc count = omega arith in
    ap (λ xs. get_or places (ring_place n) blank ∷ xs)
    (entries_from-last places (suc n) count
    ∙ ap (λ m. entries_from places (suc n) count ++ get_or places (ring_place m) blank ∷ []) e)

-- a write to the place behind the last entry adds it there
entries_from-push : (places : List Kept) (n count : ℕ) (k : Kept) → length places ≡ WINDOW → count < WINDOW
    → entries_from (set places (ring_place (n + count)) k) n (suc count) ≡ entries_from places n count ++ k ∷ []
entries_from-push places n count k size room =
    entries_from-last (set places (ring_place (n + count)) k) n count
    ∙ ap (λ x. entries_from (set places (ring_place (n + count)) k) n count ++ x ∷ [])
    (get_or-set_same places (ring_place (n + count)) k blank (rw size (place_of-within (n + count))))
    ∙ ap (λ xs. xs ++ k ∷ [])
    (entries_from-set_other places (ring_place (n + count)) n count k (λ m from below. λ same. omega arith))

-- an operation with its answer
abbrev answered_op : Op → Reply → Kept
answered_op op reply = record { op = op; entry = Answered reply }

-- a write to the place of an entry answers it, and the places of the others are apart
entries_from-answer : (places : List Kept) (n count i place : ℕ) (reply : Reply) (k : Kept) → length places ≡ WINDOW
    → count ≤ WINDOW → i < count → place ≡ ring_place (n + i) → get_or places place blank ≡ k
    → entries_from (set places place (record { op = k.op; entry = Answered reply })) n count
    ≡ answer_at i reply (entries_from places n count)
entries_from-answer places n zero i place reply k size few below at was = absurd (omega arith)
entries_from-answer places n (suc count) zero place reply k size few below at was =
    let answered : Kept = record { op = k.op; entry = Answered reply } in
    let here : ring_place n ≡ place = omega arith in
    let first : get_or (set places place answered) (ring_place n) blank
    ≡ answered = ap (λ m. get_or (set places place answered) m blank) here
    ∙ get_or-set_same places place answered blank (rw (size, at) (place_of-within (n + 0))) in
    let rest : entries_from (set places place answered) (suc n) count
    ≡ entries_from places (suc n) count = entries_from-set_other places place (suc n) count answered
    (λ m from to. λ same. omega arith) in
    let same_op : k.op ≡ (get_or places (ring_place n) blank).op = ap (λ (k : Kept). k.op)
    (sym was ∙ ap (λ m. get_or places m blank) (sym here)) in
    ap (λ x. x ∷ entries_from (set places place answered) (suc n) count)
    (first ∙ ap (λ op. answered_op op reply) same_op)
    ∙ ap (λ xs. answered_op (get_or places (ring_place n) blank).op reply ∷ xs) rest
entries_from-answer places n (suc count) (suc i) place reply k size few below at was =
    let answered : Kept = record { op = k.op; entry = Answered reply } in
    let first : get_or (set places place answered) (ring_place n) blank
    ≡ get_or places (ring_place n) blank = get_or-set_other places place (ring_place n) answered blank
    (λ same. omega arith) in
    let moved : place ≡ ring_place (suc n + i) = omega arith in
    ap (λ x. x ∷ entries_from (set places place answered) (suc n) count) first
    ∙ ap (λ xs. get_or places (ring_place n) blank ∷ xs)
    (entries_from-answer places (suc n) count i place reply k size (omega arith) (omega arith) moved was)

-- without the first entries
drop-entries_from : (places : List Kept) (n count past : ℕ) → past ≤ count → drop past (entries_from places n count)
    ≡ entries_from places (n + past) (count - past)
drop-entries_from places n count zero h = let e : n ≡ n + 0 = omega arith in let f : count
    ≡ count - 0 = omega arith in ap (λ m. entries_from places m count) e ∙ ap (entries_from places (n + 0)) f
drop-entries_from places n zero (suc past) h = absurd (omega arith)
drop-entries_from places n (suc count) (suc past) h =
    let e : suc n + past ≡ n + suc past = omega arith in
    let f : count - past ≡ suc count - suc past = omega arith in
    drop-entries_from places (suc n) count past (omega arith) ∙ ap (λ m. entries_from places m (count - past)) e
    ∙ ap (entries_from places (n + suc past)) f

-- what is known of a window that a ring shows
pub record IsShown (base count : ℕ) (w : Window) : Type 0 where
  pub base_is : base ≡ w.base
  pub count_is : count ≡ length w.kept

pub IsShown-window_of : (places : List Kept) (base count : ℕ) (w : Window) → window_of places base count ≡ w
    → IsShown base count w
IsShown-window_of places base count w is = record {
  base_is = ap (λ (w : Window). w.base) is;
  count_is = sym (length-entries_from places base count) ∙ ap (λ (w : Window). length w.kept) is;
}

pub IsWindow-window_of : (places : List Kept) (base count : ℕ) → AreBounds base count
    → IsWindow (window_of places base count)
IsWindow-window_of places base count bounds =
    let size = length-entries_from places base count in
    record { from_one = bounds.from_one; few = rw size bounds.few; to_last = rw size bounds.to_last }

-- what stands at the place of a number is the entry under it
pub slice_get-window : (places : List Kept) (base count number place : ℕ) (d : Kept) (w : Window) → length places
    ≡ WINDOW → window_of places base count ≡ w → place ≡ ring_place number
    → w.base ≤ number → number < next_number w → slice_get w.kept (number - w.base) ≡ Some (get_or places place d)
slice_get-window places base count number place d w size is at from below =
    let shown = IsShown-window_of places base count w is in
    ap (λ (w : Window). slice_get w.kept (number - w.base)) (sym is)
    ∙ slice_get-shown places base count number d size (omega arith) (omega arith)
    ∙ ap (λ m. Some (get_or places m d)) (sym at)

pub window_of-note : (places : List Kept) (base count place : ℕ) (op : Op) (entry : Entry) (w : Window)
    → length places ≡ WINDOW → window_of places base count ≡ w → place ≡ ring_place (base + count)
    → length w.kept < WINDOW → window_of (set places place (record { op = op; entry = entry })) base (count + 1)
    ≡ note_in op entry w
window_of-note places base count place op entry w size is at room =
    let shown = IsShown-window_of places base count w is in
    rw (at, add-one) (ap (λ (kept : List Kept). let w : Window = record { base = base; kept = kept } in w)
    (entries_from-push places base count (record { op = op; entry = entry }) size (omega arith)))
    ∙ ap (note_in op entry) is

pub window_of-answer : (places : List Kept) (base count number place : ℕ) (reply : Reply) (d : Kept) (w : Window)
    → length places ≡ WINDOW → count ≤ WINDOW → window_of places base count ≡ w → place ≡ ring_place number
    → w.base ≤ number → number < next_number w
    → window_of (set places place
    (record { op = (get_or places place d).op; entry = Answered reply })) base count ≡ answer_in number reply w
window_of-answer places base count number place reply d w size few is at from below =
    let shown = IsShown-window_of places base count w is in
    let back : base + (number - base) ≡ number = omega arith in
    ap (λ (kept : List Kept). let w : Window = record { base = base; kept = kept } in w)
    (entries_from-answer places base count (number - base) place reply (get_or places place d) size few (omega arith)
    (at ∙ ap ring_place (sym back)) (get_or_default places place blank d (rw (size, at) (place_of-within number))))
    ∙ ap (answer_in number reply) is

pub window_of-drop : (places : List Kept) (base count some : ℕ) (w : Window) → window_of places base count ≡ w
    → some ≤ length w.kept
    → window_of places (base + some) (count - some) ≡ record { base = w.base + some; kept = drop some w.kept }
window_of-drop places base count some w is few =
    let shown = IsShown-window_of places base count w is in
    ap (λ (kept : List Kept). let w : Window = record { base = base + some; kept = kept } in w)
    (sym (drop-entries_from places base count some (omega arith)))
    ∙ ap (λ (w : Window). let w' : Window = record { base = w.base + some; kept = drop some w.kept } in w') is

-- one more entry is looked at
pub list_any-next : (kept : List Kept) (i at : ℕ) (k : Kept) → i < length kept → at ≡ i → slice_get kept at ≡ Some k
    → list_any is_waiting (take i kept) ≡ false → list_any is_waiting (take (i + 1) kept) ≡ is_waiting k
list_any-next kept i at k within same is none =
    list_any_more is_waiting kept i blank within ∙ ap (λ b. b || is_waiting (get_or kept i blank)) none
    ∙ ap is_waiting (get_or_from_slice_get kept i k blank (ap (slice_get kept) (sym same) ∙ is))

-- one of the first entries is waiting
pub list_any-some : (kept : List Kept) (i at count : ℕ) (k : Kept) → i < count → count ≤ length kept → at ≡ i
    → slice_get kept at ≡ Some k → is_waiting k ≡ true → list_any is_waiting (take count kept) ≡ true
list_any-some kept i at count k below within same is waits =
    list_any_at is_waiting (take count kept) i blank (rw (length-take-le count kept within) below)
    (ap is_waiting (get_or-take count kept i blank below
    ∙ get_or_from_slice_get kept i k blank (ap (slice_get kept) (sym same) ∙ is)) ∙ waits)
