-- The places of entries' marks: those of entries that wait are apart. And who waits agrees with what waits exactly
-- where
-- all can be marked, and all that wait are.
use Rattle.std.proofs.Common.{◌≡◌, ℕ, zero, suc, ◌+◌, ◌-◌, ◌*◌, ◌<◌, ◌≤◌, Bool, true, false, ◌↔◌, List, [], ◌∷◌, length}
use Rattle.std.proofs.Common.{get_or, drop, replicate, if◌then◌else◌, nat_lt, slice_get, Some, None, sum_by, Option}
use Rattle.std.proofs.Common.{option_and_then, sym, refl, ap, ◌∙◌, subst, arith, ltb-false, le-ltb}
use Rattle.std.proofs.lemmas.{List.at_drop_more, Option.get_or_from_slice_get, Option.slice_get_within}
use Rattle.im_types.specs.Types.{Waiter, Kept, WINDOW, Held, Window, new_window, kept_under, kept_for, WaitersAgree}
use Rattle.im_types.specs.Types.{is_waiting, CellRecord, TagEmpty, TagWaiting, TagFull, TagClashed, FreeCell, BlockCell}
use Rattle.im_types.specs.Types.{bit, cell_shown, cells_shown}
use Rattle.im_contents.proofs.{MarkingLemmas.agree_of_marks, MarkingLemmas.marks_of_agree, RowLemmas.none-behind}
use Rattle.im_contents.proofs.MarkLemmas.{bit_one, none_some, some_same, unless}
use Rattle.im_contents.specs.Counting.{waiting}
use Rattle.im_contents.specs.Marking.{AreFew, AreMarked, HavePlaces, mark_all, mark_held, place_of_mark}

-- the cell that a record and a list show
pub held_at-shown : (cells : List CellRecord) (lists : List (List Waiter)) (a : ℕ) (d : CellRecord) → length lists
    ≡ length cells → a < length cells
    → get_or (cells_shown cells lists) a None ≡ cell_shown (get_or cells a d) (get_or lists a [])
held_at-shown [] lists a d count lt = absurd (omega arith)
held_at-shown (cell ∷ cells) [] a d count lt = absurd (omega arith)
held_at-shown (cell ∷ cells) (waiters ∷ lists) zero d count lt = refl
held_at-shown (cell ∷ cells) (waiters ∷ lists) (suc a) d count lt = held_at-shown cells lists a d (omega arith)
    (omega arith)

-- nothing is marked of a cell where nobody waits
mark-nobody : (kept : Waiter → Option Kept) (place : Waiter → ℕ) (a : ℕ) (marks : List Bool) (cell : CellRecord)
    → mark_held kept place a marks (cell_shown cell []) ≡ Some marks
mark-nobody kept place a marks (FreeCell hole next) = refl
mark-nobody kept place a marks (BlockCell block TagEmpty) = refl
mark-nobody kept place a marks (BlockCell block (TagWaiting first last)) = refl
mark-nobody kept place a marks (BlockCell block (TagFull v)) = refl
mark-nobody kept place a marks (BlockCell block (TagClashed v)) = refl

pub mark_all-nobody : (kept : Waiter → Option Kept) (place : Waiter → ℕ) (a : ℕ) (marks : List Bool)
    (cells : List CellRecord) (lists : List (List Waiter)) → sum_by length lists ≡ 0
    → mark_all kept place a marks (cells_shown cells lists) ≡ Some marks
mark_all-nobody kept place a marks [] lists none = refl
mark_all-nobody kept place a marks (cell ∷ cells) [] none =
    ap (option_and_then (λ (m : List Bool). mark_all kept place (a + 1) m (cells_shown cells [])))
    (mark-nobody kept place a marks cell)
    ∙ mark_all-nobody kept place (a + 1) marks cells [] none
mark_all-nobody kept place a marks (cell ∷ cells) ([] ∷ lists) none =
    ap (option_and_then (λ (m : List Bool). mark_all kept place (a + 1) m (cells_shown cells lists)))
    (mark-nobody kept place a marks cell)
    ∙ mark_all-nobody kept place (a + 1) marks cells lists (none-behind [] lists none).1
mark_all-nobody kept place a marks (cell ∷ cells) ((w ∷ waiters) ∷ lists) none =
    let some : suc (length waiters) ≡ 0 = (none-behind (w ∷ waiters) lists none).0 in
    absurd (omega (arith, some))

-- the marking has come to a cell
pub mark_all-step : (kept : Waiter → Option Kept) (place : Waiter → ℕ) (cells : List (Option Held)) (a : ℕ)
    (marks : List Bool) (whole : Option (List Bool)) → a < length cells
    → whole ≡ mark_all kept place a marks (drop a cells) → (held : Option Held) → get_or cells a None ≡ held
    → (now : Option (List Bool)) → mark_held kept place a marks held ≡ now
    → whole ≡ option_and_then (λ m. mark_all kept place (a + 1) m (drop (a + 1) cells)) now
mark_all-step kept place cells a marks whole lt inv held is now marked =
    inv
    ∙ at_drop_more (λ (hs : List (Option Held)). mark_all kept place a marks hs) cells a None lt
    ∙ ap (λ (h : Option Held). option_and_then (λ m. mark_all kept place (a + 1) m (drop (a + 1) cells))
    (mark_held kept place a marks h)) is
    ∙ ap (λ (o : Option (List Bool)). option_and_then
    (λ m. mark_all kept place (a + 1) m (drop (a + 1) cells)) o) marked

-- where a request's entry stands
record Stands (windows : List Window) (who : Waiter) (k : Kept) : Type 0 where
  pub window : Window
  pub there : slice_get windows who.element ≡ Some window
  pub base : window.base ≤ who.number
  pub entry : slice_get window.kept (who.number - window.base) ≡ Some k

stands : (windows : List Window) (who : Waiter) (k : Kept) → kept_for windows who ≡ Some k → Stands windows who k
stands windows who k e = by_window (slice_get windows who.element) refl e
  where
    by_base : (w : Window) → slice_get windows who.element ≡ Some w → (b : Bool) → nat_lt who.number w.base ≡ b
        → (if b then None else slice_get w.kept (who.number - w.base)) ≡ Some k → Stands windows who k
    by_base w there true is f = absurd (none_some k f)
    by_base w there false is f = record { window = w; there = there; base = ltb-false who.number w.base is; entry = f }

    by_window : (o : Option Window) → slice_get windows who.element ≡ o
        → option_and_then (λ w. kept_under w who.number) o ≡ Some k → Stands windows who k
    by_window None there f = absurd (none_some k f)
    by_window (Some w) there f = by_base w there (nat_lt who.number w.base) refl f

-- a request whose entry waits
record IsWaiting (windows : List Window) (who : Waiter) : Type 0 where
  pub kept : Kept
  pub stands : Stands windows who kept
  pub waits : is_waiting kept ≡ true

is_one : (windows : List Window) (who : Waiter) → waiting (kept_for windows who) ≡ 1 → IsWaiting windows who
is_one windows who one = by_entry (kept_for windows who) refl one
  where
    zero_one : waiting None ≡ 1 → ⊥
    zero_one e = let h : waiting None ≡ 1 = e in omega arith

    by_entry : (o : Option Kept) → kept_for windows who ≡ o → waiting o ≡ 1 → IsWaiting windows who
    by_entry None is h = absurd (zero_one h)
    by_entry (Some k) is h = record { kept = k; stands = stands windows who k is; waits = bit_one (is_waiting k) h }

place_is : (windows : List Window) (who : Waiter) (w : Window) → slice_get windows who.element ≡ Some w
    → place_of_mark windows who ≡ WINDOW * who.element + (who.number - w.base)
place_is windows who w there = ap (λ (v : Window). WINDOW * who.element + (who.number - v.base))
    (get_or_from_slice_get windows who.element w new_window there)

pub same_place : (a b i j : ℕ) → i < WINDOW → j < WINDOW → WINDOW * a + i ≡ WINDOW * b + j → (a ≡ b) × (i ≡ j)
same_place a b i j lt also e = (omega arith, omega arith)

module _ (windows : List Window) (few : AreFew windows) where
  -- how far an entry that waits is from its window's base
  past_of : (who : Waiter) (one : IsWaiting windows who) → who.number - one.stands.window.base < WINDOW
  past_of who one =
      let s = one.stands in
      let within = slice_get_within s.window.kept (who.number - s.window.base) one.kept s.entry in
      let at_most = few who.element s.window s.there in
      omega (arith, within, at_most)

  have_places : HavePlaces (kept_for windows) (place_of_mark windows) (WINDOW * length windows)
  have_places = record {
    apart = λ v w vw ww same. apart v w (is_one windows v vw) (is_one windows w ww) same;
    within = λ w ww. let one = is_one windows w ww in
        let at = place_is windows w one.stands.window one.stands.there in
        let past = past_of w one in
        let element = slice_get_within windows w.element one.stands.window one.stands.there in
        omega (arith, at, past, element);
  }
    where
      numbers : (a b m n : ℕ) → a ≤ m → b ≤ n → a ≡ b → m - a ≡ n - b → m ≡ n
      numbers a b m n le also same e = omega arith

      apart : (v w : Waiter) → IsWaiting windows v → IsWaiting windows w
          → place_of_mark windows v ≡ place_of_mark windows w
          → v ≡ w
      apart v w one two same =
          let places = same_place v.element w.element (v.number - one.stands.window.base)
          (w.number - two.stands.window.base) (past_of v one) (past_of w two)
          (sym (place_is windows v one.stands.window one.stands.there) ∙ same
          ∙ place_is windows w two.stands.window two.stands.there) in
          let windows_same : one.stands.window ≡ two.stands.window = some_same one.stands.window two.stands.window
          (sym one.stands.there ∙ ap (slice_get windows) places.0 ∙ two.stands.there) in
          let elements : v.element ≡ w.element = places.0 in
          let same_number : v.number
          ≡ w.number =
          numbers one.stands.window.base two.stands.window.base v.number w.number one.stands.base two.stands.base
          (ap (λ (x : Window). x.base) windows_same) places.1 in
          λ i. record { element = elements i; number = same_number i }

  all_of_marked : (marks : List Bool) → AreMarked windows marks → (who : Waiter) → waiting (kept_for windows who) ≡ 1
      → get_or marks (place_of_mark windows who) false ≡ true
  all_of_marked marks marked who ww =
      let one = is_one windows who ww in
      ap (λ (n : ℕ). get_or marks n false) (place_is windows who one.stands.window one.stands.there)
      ∙ marked who.element one.stands.window one.stands.there
      (who.number - one.stands.window.base) one.kept one.stands.entry one.waits

  marked_of_all : (marks : List Bool)
      → ((who : Waiter) → waiting (kept_for windows who) ≡ 1 → get_or marks (place_of_mark windows who) false ≡ true)
      → AreMarked windows marks
  marked_of_all marks all = λ element w there i k is waits.
      let who : Waiter = record { element = element; number = w.base + i } in
      let past : w.base + i - w.base ≡ i = omega arith in
      let kept : kept_for windows who ≡ Some k =
      ap (λ (o : Option Window). option_and_then (λ v. kept_under v (w.base + i)) o) there
      ∙ unless (nat_lt (w.base + i) w.base) None (slice_get w.kept (w.base + i - w.base))
      (le-ltb (w.base + i) w.base (omega arith))
      ∙ ap (slice_get w.kept) past
      ∙ is in
      ap (λ (n : ℕ). get_or marks n false)
      (sym (place_is windows who w there ∙ ap (λ (n : ℕ). WINDOW * element + n) past))
      ∙ all who (ap waiting kept ∙ ap bit waits)

  module _ (cells : List (Option Held)) (none : List Bool)
      (none_is : none ≡ replicate (WINDOW * length windows) false) where
    abbrev marking : Option (List Bool)
    marking = mark_all (kept_for windows) (place_of_mark windows) 0 none cells

    begun : (now : Option (List Bool)) → marking ≡ now
        → mark_all (kept_for windows) (place_of_mark windows) 0 (replicate (WINDOW * length windows) false) cells ≡ now
    begun now e =
        ap (λ (m : List Bool). mark_all (kept_for windows) (place_of_mark windows) 0 m cells) (sym none_is) ∙ e

    -- all could be marked
    pub agrees_where_marked : (after : List Bool) → marking ≡ Some after
        → (AreMarked windows after) ↔ (WaitersAgree cells (kept_for windows))
    agrees_where_marked after e = (
      λ marked. agree_of_marks (kept_for windows) (place_of_mark windows) (WINDOW * length windows) have_places cells
          (record { after = after; is = begun (Some after) e; all = all_of_marked after marked }),
      λ agree.
          let by = marks_of_agree (kept_for windows) (place_of_mark windows)
          (WINDOW * length windows) have_places cells agree in
          let same : by.after ≡ after = some_same by.after after (sym by.is ∙ begun (Some after) e) in
          subst (λ (m : List Bool). AreMarked windows m) same (marked_of_all by.after by.all),
    )

    -- one couldn't
    pub disagrees : marking ≡ None → WaitersAgree cells (kept_for windows) → ⊥
    disagrees e agree =
        let by = marks_of_agree (kept_for windows) (place_of_mark windows)
        (WINDOW * length windows) have_places cells agree in
        none_some by.after (sym (begun None e) ∙ by.is)
