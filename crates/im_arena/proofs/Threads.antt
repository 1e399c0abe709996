-- What is shown of the nodes of an arena.
use Rattle.std.proofs.Common.{◌≡◌, ℕ, zero, suc, ◌+◌, ◌<◌, Bool, true, false, ◌≢◌, ◌↔◌, List, [], map, length, get_or}
use Rattle.std.proofs.Common.{slice_get, Some, None, sym, refl, ap, ◌∙◌, inl, inr, true≢false, arith, length-take-le}
use Rattle.std.proofs.Common.{get_or-take, le-ltb, lt-ltb, eq-eqb}
use Rattle.std.proofs.lemmas.{Bool.cases_eq, List.get_or-map, List.length-map, Option.slice_get-get_or}
use Rattle.im_types.specs.Types.{Waiter, NONE, NodeRecord, ListNode}
use Rattle.im_arena.proofs.{Moves.place_from-same, Tables.end_of, Tables.eqb-no, Tables.first_within, Tables.span_at}
use Rattle.im_arena.proofs.Views.{length-along, length-held, list_at-held, span_count}
use Rattle.im_arena.specs.Chain.{along, place_from}
use Rattle.im_arena.specs.declared.table.{Ends.Ends, Node.Node, Row.Row}
use Rattle.im_arena.specs.Lists.{ends_at, first_in, free_record, IsThreaded, last_in, link_of, Links, list_at, next_in}
use Rattle.im_arena.specs.Lists.{node_at, Threads}
use Rattle.im_arena.specs.Table.{blank_node, blank_row, blank_span, count_of, ends_of, IsArena, list_first, list_last}
use Rattle.im_arena.specs.Table.{next_of, record_if, record_of, row_at, shown_table, Span, span_of, spans_of, used_of}
use Rattle.im_arena.specs.Table.{waiter_of}

ends_of-none : (r : Row) → r.first ≡ NONE → ends_of r ≡ None
ends_of-none r e = rw (eq-eqb r.first NONE e) refl

ends_of-some : (r : Row) → r.first ≢ NONE → ends_of r ≡ Some (record { first = r.first; last = r.last })
ends_of-some r ne = rw (eqb-no r.first NONE ne) refl

pub first_in-ends_of : (r : Row) → first_in (ends_of r) ≡ r.first
first_in-ends_of r = elim (cases_eq r.first NONE) [
  | inl e ↦ ap first_in (ends_of-none r e) ∙ sym e
  | inr ne ↦ ap first_in (ends_of-some r ne)
]

pub last_in-ends_of : (r : Row) → (r.first ≡ NONE → r.last ≡ NONE) → last_in (ends_of r) ≡ r.last
last_in-ends_of r none = elim (cases_eq r.first NONE) [
  | inl e ↦ ap last_in (ends_of-none r e) ∙ sym (none e)
  | inr ne ↦ ap last_in (ends_of-some r ne)
]

-- the links lead along a chain
Threads-along : (records : List NodeRecord) (item : ℕ → Waiter) (next : ℕ → ℕ) (before at last n : ℕ)
    → ((i : ℕ) → i < n → slice_get records (place_from next at i)
    ≡ Some (ListNode (next (place_from next at i)) (item (place_from next at i))))
    → place_from next at n ≡ NONE
    → (n ≡ 0 → before ≡ last)
    → ((k : ℕ) → n ≡ k + 1 → place_from next at k ≡ last)
    → Threads records before at last (along item next at n)
Threads-along records item next before at last zero reads end none some = (end, none refl)
Threads-along records item next before at last (suc n) reads end none some = (
  next at,
  reads 0 (omega arith),
  Threads-along records item next at (next at) last n
      (λ i lt. reads (suc i) (omega arith)) end (λ e. some 0 (omega arith)) (λ k e. some (suc k) (omega arith)),
)

module _ (nodes : List Node) (rows : List Row) (lists free_nodes : ℕ)
    (arena : IsArena nodes rows lists free_nodes) where
  abbrev spans : List Span
  spans = spans_of nodes rows

  size : length spans ≡ lists + 1
  size = span_count nodes rows lists free_nodes arena

  abbrev links : Links
  links = (shown_table nodes rows lists).links

  abbrev next : ℕ → ℕ
  next = next_of nodes

  record_at : (n : ℕ) → n < length nodes → slice_get (map record_of nodes) n
      ≡ Some (record_of (get_or nodes n blank_node))
  record_at n lt =
      slice_get-get_or (map record_of nodes) n free_record (omega (arith, length-map nodes record_of))
      ∙ ap Some (get_or-map record_of nodes n blank_node free_record lt)

  used_record : (n : ℕ) → n < length nodes → used_of nodes n ≡ true → slice_get (map record_of nodes) n
      ≡ Some (ListNode (next_of nodes n) (waiter_of nodes n))
  used_record n lt used = record_at n lt ∙ ap (λ u. Some (record_if u (get_or nodes n blank_node))) used

  pub used_next : (n : ℕ) → n < length nodes → used_of nodes n ≡ true → next_in links n ≡ next_of nodes n
  used_next n lt used =
      ap link_of (get_or-map record_of nodes n blank_node free_record lt
      ∙ ap (λ u. record_if u (get_or nodes n blank_node)) used)

  pub row_span : (a : ℕ) → a < lists → get_or spans a blank_span ≡ span_of nodes (get_or rows a blank_row)
  row_span a lt = span_at nodes rows a (omega (arith, arena.size))

  -- a list has no first node where it is empty, and there alone
  pub empty_first : (a : ℕ) → a < lists → (get_or rows a blank_row).first ≡ NONE → count_of spans a ≡ 0
  empty_first a lt none = elim (cases_eq (count_of spans a) 0) [
    | inl empty ↦ empty
    | inr some ↦ absurd (omega (
      arith,
      ap (λ (s : Span). s.first) (row_span a lt),
      first_within nodes spans arena.sound a
          (omega (arith, size)) (omega arith),
      arena.sound.chains.few,
    ))
  ]

  first_empty : (a : ℕ) → a < lists → count_of spans a ≡ 0 → (get_or rows a blank_row).first ≡ NONE
  first_empty a lt empty = ap (λ (s : Span). s.first) (sym (row_span a lt))
      ∙ arena.sound.chains.no_first a (omega (arith, size)) empty

  pub ends_is : (a : ℕ) → a < lists → ends_at links a ≡ ends_of (get_or rows a blank_row)
  ends_is a lt = get_or-take lists (map ends_of rows) a None lt
      ∙ get_or-map ends_of rows a blank_row None (omega (arith, arena.size))

  pub first_is : (a : ℕ) → a < lists → first_in (ends_at links a) ≡ list_first spans a
  first_is a lt = ap first_in (ends_is a lt) ∙ first_in-ends_of (get_or rows a blank_row)
      ∙ ap (λ (s : Span). s.first) (sym (row_span a lt))

  pub last_is : (a : ℕ) → a < lists → last_in (ends_at links a) ≡ list_last spans a
  last_is a lt =
      let last : list_last spans a ≡ (get_or rows a blank_row).last = ap (λ (s : Span). s.last) (row_span a lt) in
      ap last_in (ends_is a lt)
      ∙ last_in-ends_of (get_or rows a blank_row)
      (λ none. sym last ∙ arena.sound.chains.no_last a (omega (arith, size)) (empty_first a lt none)) ∙ sym last

  list_is : (a : ℕ) → a < lists → list_at (shown_table nodes rows lists).held a ≡ row_at nodes spans a
  list_is a lt = list_at-held nodes spans lists a lt (omega (arith, size))

  pub length_is : (a : ℕ) → a < lists → length (list_at (shown_table nodes rows lists).held a) ≡ count_of spans a
  length_is a lt =
      ap length (list_is a lt) ∙ length-along (waiter_of nodes) next (list_first spans a) (count_of spans a)

  -- each node of a list is in use
  pub used_at : (a i : ℕ) → a < lists → i < count_of spans a → used_of nodes (place_from next (list_first spans a) i)
      ≡ true
  used_at a i al il = arena.sound.chains.marked a i (omega (arith, size)) il
      ∙ lt-ltb (a + 1) (length spans) (omega (arith, size))

  pub within : (a i : ℕ) → a < lists → i < count_of spans a → place_from next (list_first spans a) i < length nodes
  within a i al il = arena.sound.chains.within a i (omega (arith, size)) il

  node_is : (a i : ℕ) → a < lists → i < count_of spans a → node_at links a i ≡ place_from next (list_first spans a) i
  node_is a i al il =
      ap (λ p. place_from (next_in links) p i) (first_is a al)
      ∙ place_from-same next (next_in links) (list_first spans a) i
      (λ j lt. used_next _ (within a j al (omega arith)) (used_at a j al (omega arith)))

  threads_row : (a : ℕ) → a < lists
      → Threads (map record_of nodes) NONE (list_first spans a) (list_last spans a) (row_at nodes spans a)
  threads_row a al =
      Threads-along (map record_of nodes) (waiter_of nodes) next NONE (list_first spans a) (list_last spans a)
      (count_of spans a)
      (λ i lt. used_record _ (within a i al lt) (used_at a i al lt))
      (end_of nodes spans arena.sound a (omega (arith, size)) (count_of spans a) refl)
      (λ e. sym (arena.sound.chains.no_last a (omega (arith, size)) e))
      (λ k e. sym (arena.sound.chains.ends a k (omega (arith, size)) e))

  is_empty : (a : ℕ) → a < lists → (ends_at links a ≡ None) ↔ (list_at (shown_table nodes rows lists).held a ≡ [])
  is_empty a al = (
    λ e. elim (cases_eq (count_of spans a) 0) [
      | inl none ↦ list_is a al ∙ ap (λ n. along (waiter_of nodes) next (list_first spans a) n) none
      | inr some ↦ absurd
          (not_none (sym (ends_of-some (get_or rows a blank_row) (λ none. some (empty_first a al none)))
          ∙ sym (ends_is a al) ∙ e))
    ],
    λ e. ends_is a al ∙ ends_of-none (get_or rows a blank_row) (first_empty a al (sym (length_is a al) ∙ ap length e)),
  )
    where
      not_none : {e : Ends} → Some e ≡ None → ⊥
      not_none h = cc

  -- a node that is reached from no list is free
  unused : (n : ℕ) → n < length nodes
      → ((a i : ℕ) → a < lists → i < count_of spans a → place_from next (list_first spans a) i ≢ n) → used_of nodes n
      ≡ false
  unused n lt unreached = by_mark (used_of nodes n) refl
    where
      on_no_row : used_of nodes n ≡ true → (a i : ℕ) → a < length spans → i < count_of spans a
          → place_from next (list_first spans a) i ≢ n
      on_no_row used a i al il same = elim (cases_eq a lists) [
        | inl is ↦
            let free = arena.sound.chains.marked a i al il ∙ le-ltb (a + 1) (length spans) (omega (arith, size)) in
            true≢false (sym used ∙ ap (used_of nodes) (sym same) ∙ free)
        | inr other ↦ unreached a i (omega (arith, size)) il same
      ]

      by_mark : (v : Bool) → used_of nodes n ≡ v → used_of nodes n ≡ false
      by_mark true used = absurd (arena.sound.chains.covered n lt (on_no_row used))
      by_mark false e = e

  inside : (a : ℕ) → a < length (shown_table nodes rows lists).held.lists → a < lists
  inside a lt = omega (arith, length-held nodes spans lists (omega (arith, size)))

  pub IsThreaded-shown : IsThreaded (shown_table nodes rows lists)
  IsThreaded-shown = record {
    node_count = length-map nodes record_of;
    list_count = length-take-le lists (map ends_of rows) (omega (arith, arena.size, length-map rows ends_of))
        ∙ sym (length-held nodes spans lists (omega (arith, size)));
    empty = λ a lt. is_empty a (inside a lt);
    threads = λ a lt. let al = inside a lt in rw (first_is a al, last_is a al, list_is a al) (threads_row a al);
    once = λ a b i j al bl il jl same.
        let ai = inside a al in
        let bi = inside b bl in
        let ic : i < count_of spans a = omega (arith, length_is a ai) in
        let jc : j < count_of spans b = omega (arith, length_is b bi) in
        arena.sound.chains.apart a b i j (omega (arith, size)) (omega (arith, size)) ic jc
        (sym (node_is a i ai ic) ∙ same ∙ node_is b j bi jc);
    unreached = λ n lt none.
        let free = unused n lt
        (λ a i al il same. none a i (omega (arith, length-held nodes spans lists (omega (arith, size))))
        (omega (arith, length_is a al)) (node_is a i al il ∙ same)) in
        record_at n lt ∙ ap (λ u. Some (record_if u (get_or nodes n blank_node))) free;
  }
