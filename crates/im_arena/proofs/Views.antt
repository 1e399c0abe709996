-- What callers see of a table.
use Rattle.std.proofs.Common.{◌≡◌, ℕ, zero, suc, ◌+◌, ◌<◌, ◌≤◌, ◌≢◌, List, [], ◌∷◌, ◌++◌, map, length, get_or, take}
use Rattle.std.proofs.Common.{drop, set, slice_get, Some, None, sum_by, sym, refl, ap, ◌∙◌, subst, inl, inr, arith}
use Rattle.std.proofs.Common.{length-append, length-set, length-take-le, take_all, get_or-set_other, get_or-take}
use Rattle.std.proofs.Common.{get_or-set_same, ext_get_or}
use Rattle.std.proofs.lemmas.{Bool.cases_eq, Option.slice_get-get_or, Option.slice_get_past}
use Rattle.std.proofs.lemmas.List.{get_or-map, get_or_read, length-map, Sums.sum_by-cons, Sums.sum_by_more, take-map}
use Rattle.im_types.specs.Types.{Waiter, NONE}
use Rattle.im_arena.proofs.Moves.{place_from-last}
use Rattle.im_arena.proofs.Tables.{count_within, end_of, span_at, two_counts}
use Rattle.im_arena.specs.{Chain.along, Chain.place_from, declared.table.Node.Node, declared.table.Row.Row}
use Rattle.im_arena.specs.Lists.{free, list_at, Lists, with_list}
use Rattle.im_arena.specs.Table.{blank_node, blank_row, blank_span, count_of, ends_of, held, IsArena, list_first}
use Rattle.im_arena.specs.Table.{next_of, row_at, Sound, Span, span_of, spans_of, steps_from, Transferred, waiter_in}
use Rattle.im_arena.specs.Table.{waiter_of, waiters_on}

pub length-along : {X : Type 0} (item : ℕ → X) (next : ℕ → ℕ) (at n : ℕ) → length (along item next at n) ≡ n
length-along item next at zero = refl
length-along item next at (suc n) = ap suc (length-along item next (next at) n)

pub length-row : (nodes : List Node) (spans : List Span) (a : ℕ) → length (row_at nodes spans a) ≡ count_of spans a
length-row nodes spans a = length-along (waiter_of nodes) (next_of nodes) (list_first spans a) (count_of spans a)

-- a list by its number
pub list_at-held : (nodes : List Node) (spans : List Span) (n b : ℕ) → b < n → n ≤ length spans
    → list_at (held nodes spans n) b ≡ row_at nodes spans b
list_at-held nodes spans n b lt le =
    get_or-take n (map (waiters_on nodes) spans) b [] lt
    ∙ get_or-map (waiters_on nodes) spans b blank_span [] (omega arith)

pub length-held : (nodes : List Node) (spans : List Span) (n : ℕ) → n ≤ length spans
    → length (take n (map (waiters_on nodes) spans)) ≡ n
length-held nodes spans n le = length-take-le n (map (waiters_on nodes) spans)
    (omega (arith, length-map spans (waiters_on nodes)))

-- one list is changed
pub held-changed : (nodes nodes2 : List Node) (spans spans2 : List Span) (n list : ℕ) (waiters : List Waiter)
    → n ≤ length spans → length spans2 ≡ length spans → length nodes2 ≡ length nodes → list < n
    → row_at nodes2 spans2 list ≡ waiters
    → ((b : ℕ) → b < n → b ≢ list → row_at nodes2 spans2 b ≡ row_at nodes spans b)
    → held nodes2 spans2 n ≡ with_list (held nodes spans n) list waiters
held-changed nodes nodes2 spans spans2 n list waiters le size table inside changed others =
    let one = length-held nodes2 spans2 n (omega arith) in
    let two = length-held nodes spans n le in
    let old : List (List Waiter) = take n (map (waiters_on nodes) spans) in
    let lists : take n (map (waiters_on nodes2) spans2) ≡ set (take n (map (waiters_on nodes) spans)) list waiters =
    ext_get_or [] _ _ (omega (arith, length-set (take n (map (waiters_on nodes) spans)) list waiters)) (λ b lt.
    list_at-held nodes2 spans2 n b (omega arith) (omega arith) ∙ elim (cases_eq b list) [
      | inl is ↦ ap (row_at nodes2 spans2) is ∙ changed
          ∙ sym (ap (λ x. get_or (set (take n (map (waiters_on nodes) spans)) list waiters) x []) is
          ∙ get_or-set_same (take n (map (waiters_on nodes) spans)) list waiters [] (omega arith))
      | inr other ↦ others b (omega arith) other ∙ sym (list_at-held nodes spans n b (omega arith) le)
          ∙ sym (get_or-set_other (take n (map (waiters_on nodes) spans)) list b waiters [] other)
    ]) in
    ap (λ k. let s : Lists = record { nodes = k; lists = take n (map (waiters_on nodes2) spans2) } in s) table
    ∙ ap (λ ls. let s : Lists = record { nodes = length nodes; lists = ls } in s) lists

-- the table of an arena, by its spans
pub record IsTable (nodes : List Node) (spans : List Span) (lists : ℕ) : Type 0 where
  pub sound : Sound nodes spans
  pub size : length spans ≡ lists + 1

module _ (nodes : List Node) (spans : List Span) (lists : ℕ) (arena : IsTable nodes spans lists) where
  -- the last span has the nodes that are on no list
  pub free_count : sum_by length (held nodes spans lists).lists + count_of spans lists ≡ length nodes
  free_count =
      let counts : sum_by length (take lists (map (waiters_on nodes) spans))
      ≡ sum_by (λ (s : Span). s.count) (take lists spans) =
      ap (sum_by length) (take-map (waiters_on nodes) lists spans) ∙ by_list (take lists spans) in
      let more = sum_by_more (λ (s : Span). s.count) spans lists blank_span (omega (arith, arena.size)) in
      let all : take (lists + 1) spans ≡ spans = take_all (lists + 1) spans (omega (arith, arena.size)) in
      let total : sum_by (λ (s : Span). s.count) (take (lists + 1) spans)
      ≡ sum_by (λ (s : Span). s.count) spans = ap (sum_by (λ (s : Span). s.count)) all in
      omega (arith, arena.sound.total)
    where
      by_list : (rs : List Span) → sum_by length (map (waiters_on nodes) rs) ≡ sum_by (λ (s : Span). s.count) rs
      by_list [] = refl
      by_list (r ∷ rs) =
          let one = sum_by-cons length (waiters_on nodes r) (map (waiters_on nodes) rs) in
          let two = sum_by-cons (λ (s : Span). s.count) r rs in
          omega (arith, by_list rs, one, two, length-along (waiter_of nodes) (next_of nodes) r.first r.count)

  pub free-is : free (held nodes spans lists) ≡ count_of spans lists
  free-is = omega (arith, free_count)

module _ (nodes : List Node) (rows : List Row) (lists free_nodes : ℕ)
    (arena : IsArena nodes rows lists free_nodes) where
  abbrev spans : List Span
  spans = spans_of nodes rows

  pub span_count : length spans ≡ lists + 1
  span_count = length-map rows (span_of nodes) ∙ arena.size

  pub table_of : IsTable nodes spans lists
  table_of = record { sound = arena.sound; size = span_count }

  pub free-count : free (held nodes spans lists) ≡ free_nodes
  free-count = free-is nodes spans lists table_of ∙ sym arena.count

  pub sum-count : free_nodes + sum_by length (held nodes spans lists).lists ≡ length nodes
  sum-count = omega (arith, free_count nodes spans lists table_of, arena.count)

  pub some-free : free (held nodes spans lists) ≢ 0 → 0 < count_of spans lists
  some-free some = omega (arith, free-count, arena.count)

  pub inside-held : (list : ℕ) → list < length (held nodes spans lists).lists → list < lists
  inside-held list lt = omega (arith, length-held nodes spans lists (omega (arith, span_count)))

  -- one node is moved, from the free ones or to them
  module _ (nodes2 : List Node) (rows2 : List Row) (list : ℕ) (content : Node) (result : Waiter)
      (inside : list < lists) where
    pub held-pushed : Transferred nodes nodes2 rows rows2 lists list content result
        → held nodes2 (spans_of nodes2 rows2) lists
        ≡ with_list (held nodes spans lists) list (list_at (held nodes spans lists) list ++ waiter_in content ∷ [])
    held-pushed t =
        held-changed nodes nodes2 spans (spans_of nodes2 rows2) lists list _ (omega (arith, span_count))
        (length-map rows2 (span_of nodes2) ∙ t.size ∙ sym (length-map rows (span_of nodes))) t.table inside
        (t.back ∙ ap (λ ws. ws ++ waiter_in content ∷ [])
        (sym (list_at-held nodes spans lists list inside (omega (arith, span_count)))))
        (λ b lt ne. t.others b (omega (arith, arena.size)) (λ e. omega arith) ne)

    pub held-popped : Transferred nodes nodes2 rows rows2 list lists content result
        → held nodes2 (spans_of nodes2 rows2) lists
        ≡ with_list (held nodes spans lists) list (drop 1 (list_at (held nodes spans lists) list))
    held-popped t =
        held-changed nodes nodes2 spans (spans_of nodes2 rows2) lists list _ (omega (arith, span_count))
        (length-map rows2 (span_of nodes2) ∙ t.size ∙ sym (length-map rows (span_of nodes))) t.table inside
        (sym (ap (drop 1) (list_at-held nodes spans lists list inside (omega (arith, span_count)) ∙ t.front)))
        (λ b lt ne. t.others b (omega (arith, arena.size)) ne (λ e. omega arith))

    pub first-popped : Transferred nodes nodes2 rows rows2 list lists content result
        → Some result ≡ slice_get (list_at (held nodes spans lists) list) 0
    first-popped t =
        sym (ap (λ ws. slice_get ws 0)
        (list_at-held nodes spans lists list inside (omega (arith, span_count)) ∙ t.front))

    -- the count of free nodes after the move
    pub count-pushed : Transferred nodes nodes2 rows rows2 lists list content result → free_nodes
        ≡ suc (count_of (spans_of nodes2 rows2) lists)
    count-pushed t =
        arena.count ∙ sym (length-row nodes spans lists) ∙ ap length t.front
        ∙ ap suc (length-row nodes2 (spans_of nodes2 rows2) lists)

    pub count-popped : Transferred nodes nodes2 rows rows2 list lists content result
        → count_of (spans_of nodes2 rows2) lists ≡ free_nodes + 1
    count-popped t =
        sym (length-row nodes2 (spans_of nodes2 rows2) lists) ∙ ap length t.back
        ∙ length-append (row_at nodes spans lists) (waiter_in content ∷ [])
        ∙ ap (λ n. n + 1) (length-row nodes spans lists ∙ sym arena.count)

  -- a list that isn't empty leaves this many free
  pub free-less : (list : ℕ) → list < lists → 0 < count_of spans list → free_nodes < length nodes
  free-less list inside some =
      let both = two_counts nodes spans arena.sound list lists (omega (arith, span_count))
      (omega (arith, span_count)) (λ e. omega arith) in
      omega (arith, arena.count)

  -- what the read of a row tells
  module _ (list : ℕ) (r : Row) (inside : list < lists) (read : r ≡ get_or rows list r) where
    span-read : get_or spans list blank_span ≡ span_of nodes r
    span-read =
        span_at nodes rows list (omega (arith, arena.size))
        ∙ ap (span_of nodes) (sym (get_or_read rows list r (omega (arith, arena.size)) read blank_row))

    pub list_at-read : list_at (held nodes spans lists) list ≡ waiters_on nodes (span_of nodes r)
    list_at-read =
        list_at-held nodes spans lists list inside (omega (arith, span_count)) ∙ ap (waiters_on nodes) span-read

    -- how many nodes the row has
    abbrev pub steps : ℕ
    steps = steps_from (next_of nodes) r.first (length nodes)

    steps-is : steps ≡ count_of spans list
    steps-is = ap (λ (s : Span). s.count) (sym span-read)

    pub few_steps : steps ≤ length nodes
    few_steps = omega (arith, steps-is, count_within nodes spans arena.sound list (omega (arith, span_count)))

    -- the node at a place of the row
    pub place-read : (i : ℕ) → i < steps → place_from (next_of nodes) r.first i < length nodes
    place-read i lt =
        subst (λ (s : Span). place_from (next_of nodes) s.first i < length nodes) span-read
        (arena.sound.chains.within list i (omega (arith, span_count)) (omega (arith, steps-is)))

    pub place-end : place_from (next_of nodes) r.first steps ≡ NONE
    place-end =
        subst (λ (s : Span). place_from (next_of nodes) s.first s.count ≡ NONE) span-read
        (end_of nodes spans arena.sound list (omega (arith, span_count)) (count_of spans list) refl)

    -- a walk is at none where it is past the last node, and there alone
    pub at_end : (i : ℕ) → i ≤ steps → place_from (next_of nodes) r.first i ≡ NONE → i ≡ steps
    at_end i le none = elim (cases_eq i steps) [
      | inl is ↦ is
      | inr before ↦ absurd (omega (arith, place-read i (omega arith), arena.sound.chains.few))
    ]

    pub not_end : (i : ℕ) → i ≤ steps → place_from (next_of nodes) r.first i ≢ NONE → i < steps
    not_end i le some = elim (cases_eq i steps) [
      | inl is ↦ absurd (some (ap (place_from (next_of nodes) r.first) is ∙ place-end))
      | inr before ↦ omega arith
    ]

    pub list-steps : length (list_at (held nodes spans lists) list) ≡ steps
    list-steps = ap length list_at-read ∙ length-along (waiter_of nodes) (next_of nodes) r.first steps

    -- a row that begins at no node is empty
    pub some-first : r.first ≢ NONE → 0 < count_of spans list
    some-first some = omega (arith, steps-is, not_end 0 (omega arith) some)

    pub none-first : r.first ≡ NONE → list_at (held nodes spans lists) list ≡ []
    none-first none = list_at-read
        ∙ ap (along (waiter_of nodes) (next_of nodes) r.first) (sym (at_end 0 (omega arith) none))

    pub first-none : list_at (held nodes spans lists) list ≡ [] → r.first ≡ NONE
    first-none empty =
        let none : 0 ≡ steps = omega (arith, list-steps, ap length empty) in
        ap (place_from (next_of nodes) r.first) none ∙ place-end

    pub held-none : r.first ≡ NONE → held nodes spans lists
        ≡ with_list (held nodes spans lists) list (drop 1 (list_at (held nodes spans lists) list))
    held-none none =
        held-changed nodes nodes spans spans lists list _ (omega (arith, span_count)) refl refl inside
        (sym (list_at-held nodes spans lists list inside (omega (arith, span_count))) ∙ none-first none
        ∙ sym (ap (drop 1) (none-first none)))
        (λ b lt ne. refl)

    pub past-read : (place : ℕ) → steps ≤ place → slice_get (list_at (held nodes spans lists) list) place ≡ None
    past-read place le = slice_get_past (list_at (held nodes spans lists) list) place (omega (arith, list-steps))

    -- the ends of the row, as they are shown
    pub ends-read : Some (ends_of r) ≡ slice_get (take lists (map ends_of rows)) list
    ends-read = sym (
        slice_get-get_or (take lists (map ends_of rows)) list None
        (omega (
          arith,
          length-take-le lists (map ends_of rows)
              (omega (arith, arena.size, length-map rows ends_of)),
        ))
        ∙ ap Some (get_or-take lists (map ends_of rows) list None inside
        ∙ get_or-map ends_of rows list blank_row None (omega (arith, arena.size))
        ∙ ap ends_of (sym (get_or_read rows list r (omega (arith, arena.size)) read blank_row))))

    -- a step of a walk
    pub step-read : (i at : ℕ) (n : Node) → i < steps → at ≡ place_from (next_of nodes) r.first i → n
        ≡ get_or nodes at n → n.next ≡ place_from (next_of nodes) r.first (i + 1)
    step-read i at n lt is read_node =
        let there : n ≡ get_or nodes at blank_node = get_or_read nodes at n
        (omega (arith, place-read i lt)) read_node blank_node in
        ap (λ (x : Node). x.next) there ∙ ap (next_of nodes) is ∙ sym (place_from-last (next_of nodes) r.first i)
        ∙ ap (place_from (next_of nodes) r.first) (let e : suc i ≡ i + 1 = omega arith in e)

get_or-along : {X : Type 0} (item : ℕ → X) (next : ℕ → ℕ) (at n k : ℕ) (d : X) → k < n
    → get_or (along item next at n) k d ≡ item (place_from next at k)
get_or-along item next at zero k d lt = absurd (omega arith)
get_or-along item next at (suc n) zero d lt = refl
get_or-along item next at (suc n) (suc k) d lt = get_or-along item next (next at) n k d (omega arith)

pub slice_get-along : {X : Type 0} (item : ℕ → X) (next : ℕ → ℕ) (at n k : ℕ) → k < n
    → slice_get (along item next at n) k ≡ Some (item (place_from next at k))
slice_get-along item next at n k lt =
    slice_get-get_or (along item next at n) k (item 0) (omega (arith, length-along item next at n))
    ∙ ap Some (get_or-along item next at n k (item 0) lt)

-- what the read of a node tells
pub waiter-read : (nodes : List Node) (at : ℕ) (n : Node) → at < length nodes → n ≡ get_or nodes at n → waiter_in n
    ≡ waiter_of nodes at
waiter-read nodes at n lt read = ap waiter_in (get_or_read nodes at n lt read blank_node)
