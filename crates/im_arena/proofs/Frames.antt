-- Which records a move of a node changes.
use Rattle.std.proofs.Common.{◌≡◌, ℕ, zero, suc, ◌+◌, ◌-◌, ◌<◌, ◌≤◌, false, ◌≢◌, List, [], ◌∷◌, map, length, get_or}
use Rattle.std.proofs.Common.{take, set, slice_get, Some, None, Option, option_map, unwrap_or, sym, refl, ap, ◌∙◌, inl}
use Rattle.std.proofs.Common.{inr, arith, length-set, get_or-set_other, get_or-take, get_or-set_same, le-ltb}
use Rattle.std.proofs.lemmas.{Bool.cases_eq, Bool.cases_lt, List.get_or-map}
use Rattle.std.proofs.lemmas.Option.{slice_get-get_or, slice_get-map, unwrap_or-slice_get}
use Rattle.im_types.specs.Types.{Waiter, NONE, NodeRecord}
use Rattle.im_arena.proofs.{Moves.place_from-same, Tables.last-some, Tables.last_within, Tables.span_at}
use Rattle.im_arena.proofs.Threads.{first_in-ends_of, first_is, IsThreaded-shown, last_is, length_is, row_span, used_at}
use Rattle.im_arena.proofs.Threads.{used_next, within}
use Rattle.im_arena.proofs.Views.{length-held, length-row, span_count}
use Rattle.im_arena.specs.{Chain.place_from, declared.table.Node.Node, declared.table.Row.Row}
use Rattle.im_arena.specs.Lists.{ends_at, first_in, free_record, IsPopped, IsPushed, last_in, link_of, Links, list_at}
use Rattle.im_arena.specs.Lists.{next_in, node_at}
use Rattle.im_arena.specs.Table.{blank_node, blank_row, count_of, ends_of, IsArena, list_first, list_last, next_of}
use Rattle.im_arena.specs.Table.{record_if, record_of, shown_table, Span, spans_of, Transferred, used_of}

-- what stands at another place stays
pub slice_get-set_other : {X : Type 0} (xs : List X) (i j : ℕ) (x : X) → j ≢ i → slice_get (set xs i x) j
    ≡ slice_get xs j
slice_get-set_other [] i j x other = refl
slice_get-set_other (y ∷ ys) zero zero x other = absurd (other refl)
slice_get-set_other (y ∷ ys) zero (suc j) x other = refl
slice_get-set_other (y ∷ ys) (suc i) zero x other = refl
slice_get-set_other (y ∷ ys) (suc i) (suc j) x other = slice_get-set_other ys i j x (λ e. other (ap suc e))

slice_get-take_within : {X : Type 0} (xs : List X) (n i : ℕ) → i < n → slice_get (take n xs) i ≡ slice_get xs i
slice_get-take_within xs zero i lt = absurd (omega arith)
slice_get-take_within [] (suc n) i lt = refl
slice_get-take_within (x ∷ xs) (suc n) zero lt = refl
slice_get-take_within (x ∷ xs) (suc n) (suc i) lt = slice_get-take_within xs n i (omega arith)

slice_get-take_past : {X : Type 0} (xs : List X) (n i : ℕ) → n ≤ i → slice_get (take n xs) i ≡ None
slice_get-take_past xs zero i le = refl
slice_get-take_past [] (suc n) i le = refl
slice_get-take_past (x ∷ xs) (suc n) zero le = absurd (omega arith)
slice_get-take_past (x ∷ xs) (suc n) (suc i) le = slice_get-take_past xs n i (omega arith)

-- beginnings of lists agree where the lists do
slice_get-take_same : {X : Type 0} (xs ys : List X) (n i : ℕ) → slice_get xs i ≡ slice_get ys i
    → slice_get (take n xs) i ≡ slice_get (take n ys) i
slice_get-take_same xs ys n i same = elim (cases_lt i n) [
  | inl lt ↦ slice_get-take_within xs n i lt ∙ same ∙ sym (slice_get-take_within ys n i lt)
  | inr le ↦ slice_get-take_past xs n i le ∙ sym (slice_get-take_past ys n i le)
]

-- what a function makes of lists that agree at a place
slice_get-map_same : {X Y : Type 0} (f : X → Y) (xs ys : List X) (i : ℕ) → slice_get xs i ≡ slice_get ys i
    → slice_get (map f xs) i ≡ slice_get (map f ys) i
slice_get-map_same f xs ys i same = slice_get-map f xs i ∙ ap (option_map f) same ∙ sym (slice_get-map f ys i)

-- two rows of a list of rows are changed
two_set : {X : Type 0} (xs : List X) (i j k : ℕ) (x y : X) → k ≢ i → k ≢ j → slice_get (set (set xs i x) j y) k
    ≡ slice_get xs k
two_set xs i j k x y ni nj = slice_get-set_other (set xs i x) j k y nj ∙ slice_get-set_other xs i k x ni

module _ (nodes : List Node) (rows : List Row) (lists free_nodes : ℕ) (arena : IsArena nodes rows lists free_nodes)
    (nodes2 : List Node) (rows2 : List Row) (list : ℕ) (content : Node) (result : Waiter) (inside : list < lists) where
  abbrev spans : List Span
  spans = spans_of nodes rows

  abbrev old : Links
  old = (shown_table nodes rows lists).links

  abbrev new : Links
  new = (shown_table nodes2 rows2 lists).links

  row_last : last_in (ends_at old list) ≡ (get_or rows list blank_row).last
  row_last = last_is nodes rows lists free_nodes arena list inside
      ∙ ap (λ (s : Span). s.last) (row_span nodes rows lists free_nodes arena list inside)

  row_first : first_in (ends_at old list) ≡ (get_or rows list blank_row).first
  row_first = first_is nodes rows lists free_nodes arena list inside
      ∙ ap (λ (s : Span). s.first) (row_span nodes rows lists free_nodes arena list inside)

  pub IsPushed-transferred : Transferred nodes nodes2 rows rows2 lists list content result
      → IsPushed list (shown_table nodes rows lists) (shown_table nodes2 rows2 lists)
  IsPushed-transferred t = record {
    records = λ n nf nl. slice_get-map_same record_of nodes2 nodes n
        (elim (cases_eq (get_or rows list blank_row).last NONE) [
          | inl none ↦ ap (λ ns. slice_get ns n) (t.attached.empty none).1 ∙ slice_get-set_other nodes _ n content nf
          | inr some ↦ ap (λ ns. slice_get ns n) (t.attached.longer some).1
              ∙ two_set nodes _ _ n content _ nf (λ e. nl (some_there some) (e ∙ sym row_last))
        ]);
    ends = λ b nb. ends_other t.giver t.taker t.rows_are b nb;
  }
    where
      -- somebody is on a list whose last node isn't none
      some_there : (get_or rows list blank_row).last ≢ NONE → list_at (shown_table nodes rows lists).held list ≢ []
      some_there some empty =
          let within : list < length spans = omega (arith, span_count nodes rows lists free_nodes arena) in
          let is : list_last spans list
          ≡ (get_or rows list blank_row).last = ap (λ (s : Span). s.last)
          (row_span nodes rows lists free_nodes arena list inside) in
          let any = last-some nodes spans arena.sound list within (λ e. some (sym is ∙ e)) in
          let many = length_is nodes rows lists free_nodes arena list inside in
          let none = ap length empty in
          omega arith

      ends_other : (giver taker : Row) → rows2 ≡ set (set rows lists giver) list taker → (b : ℕ) → b ≢ list
          → slice_get new.ends b ≡ slice_get old.ends b
      ends_other giver taker e b nb = elim (cases_eq b lists) [
        | inl is ↦ slice_get-take_past (map ends_of rows2) lists b (omega arith)
            ∙ sym (slice_get-take_past (map ends_of rows) lists b (omega arith))
        | inr nl ↦ slice_get-take_same (map ends_of rows2) (map ends_of rows) lists b
            (slice_get-map_same ends_of rows2 rows b
            (ap (λ rs. slice_get rs b) e ∙ two_set rows lists list b giver taker nl nb))
      ]

  -- a node that is marked as free reads as a free one, wherever it links to
  free_reads : (m n : Node) → m.used ≡ n.used → n.used ≡ false → record_of m ≡ record_of n
  free_reads m n same free = ap (λ u. record_if u m) (same ∙ free) ∙ sym (ap (λ u. record_if u n) free)

  module _ (t : Transferred nodes nodes2 rows rows2 list lists content result) where
    some_there : 0 < count_of spans list
    some_there = omega (arith, length-row nodes spans list, ap length t.front)

    -- the last free node, if there is one
    abbrev tail : ℕ
    tail = (get_or rows lists blank_row).last

    abbrev gone : ℕ
    gone = (get_or rows list blank_row).first

    tail_free : tail ≢ NONE → used_of nodes tail ≡ false
    tail_free some =
        let within : lists < length spans = omega (arith, span_count nodes rows lists free_nodes arena) in
        let is : list_last spans lists
        ≡ tail = ap (λ (s : Span). s.last) (span_at nodes rows lists (omega (arith, arena.size))) in
        let any = last-some nodes spans arena.sound lists within (λ e. some (sym is ∙ e)) in
        ap (used_of nodes) (sym is ∙ arena.sound.chains.ends lists (count_of spans lists - 1) within (omega arith))
        ∙ arena.sound.chains.marked lists (count_of spans lists - 1) within (omega arith)
        ∙ le-ltb (lists + 1) (length spans) (omega (arith, span_count nodes rows lists free_nodes arena))

    record_kept : (n : ℕ) → n ≢ gone → slice_get (map record_of nodes2) n ≡ slice_get (map record_of nodes) n
    record_kept n ng = elim (cases_eq tail NONE) [
      | inl none ↦ slice_get-map_same record_of nodes2 nodes n
          (ap (λ ns. slice_get ns n) (t.attached.empty none).1 ∙ slice_get-set_other nodes gone n content ng)
      | inr some ↦ elim (cases_eq n tail) [
        | inl is ↦ at_tail n is ng some
        | inr other ↦ slice_get-map_same record_of nodes2 nodes n
            (ap (λ ns. slice_get ns n) (t.attached.longer some).1 ∙ two_set nodes gone tail n content _ ng other)
      ]
    ]
      where
        at_tail : (n : ℕ) → n ≡ tail → n ≢ gone → tail ≢ NONE → slice_get (map record_of nodes2) n
            ≡ slice_get (map record_of nodes) n
        at_tail n is ng some =
            let within : lists < length spans = omega (arith, span_count nodes rows lists free_nodes arena) in
            let last : list_last spans lists
            ≡ tail = ap (λ (s : Span). s.last) (span_at nodes rows lists (omega (arith, arena.size))) in
            let lt : n < length nodes = omega (
              arith,
              last_within nodes spans arena.sound lists within
                  (last-some nodes spans arena.sound lists within (λ e. some (sym last ∙ e))),
            ) in
            let nodes1 : List Node = set nodes gone content in
            let size1 : length nodes1 ≡ length nodes = length-set nodes gone content in
            let old_node : get_or nodes1 tail blank_node
            ≡ get_or nodes tail blank_node = get_or-set_other nodes gone tail content blank_node
            (λ e. ng (is ∙ e)) in
            let new_node = get_or-set_same nodes1 tail
            (record (get_or nodes1 tail blank_node) { next = gone }) blank_node (omega (arith, size1)) in
            let now : get_or nodes2 n blank_node ≡ record (get_or nodes1 tail blank_node) { next = gone } =
            ap (λ i. get_or nodes2 i blank_node) is ∙ ap (λ ns. get_or ns tail blank_node) (t.attached.longer some).1
            ∙ new_node in
            slice_get-map record_of nodes2 n
            ∙ ap (option_map record_of) (slice_get-get_or nodes2 n blank_node (omega (arith, t.table)))
            ∙ ap Some (free_reads (get_or nodes2 n blank_node) (get_or nodes n blank_node)
            (ap (λ (x : Node). x.used) now ∙ ap (λ (x : Node). x.used) old_node ∙ ap (used_of nodes) (sym is))
            (ap (used_of nodes) is ∙ tail_free some))
            ∙ sym (ap (option_map record_of) (slice_get-get_or nodes n blank_node lt))
            ∙ sym (slice_get-map record_of nodes n)

    first_now : first_in (ends_at new list) ≡ next_in old (first_in (ends_at old list))
    first_now =
        let size2 : length rows2 ≡ lists + 1 = t.size ∙ arena.size in
        let first : list_first spans list
        ≡ gone = ap (λ (s : Span). s.first) (row_span nodes rows lists free_nodes arena list inside) in
        ap first_in (get_or-take lists (map ends_of rows2) list None inside
        ∙ get_or-map ends_of rows2 list blank_row None (omega (arith, size2)))
        ∙ first_in-ends_of (get_or rows2 list blank_row)
        ∙ ap (λ (r : Row). r.first) (ap (λ rs. get_or rs list blank_row) t.rows_are
        ∙ get_or-set_other (set rows list t.giver) lists list t.taker blank_row (λ e. omega arith)
        ∙ get_or-set_same rows list t.giver blank_row (omega (arith, arena.size)))
        ∙ t.detached.first
        ∙ sym (ap (next_in old) (row_first ∙ sym first)
        ∙ used_next nodes rows lists free_nodes arena (list_first spans list)
        (within nodes rows lists free_nodes arena list 0 inside some_there)
        (used_at nodes rows lists free_nodes arena list 0 inside some_there)
        ∙ ap (next_of nodes) first)

    -- the nodes behind the first one are linked as before
    rest_now : (i : ℕ) → i + 1 < length (list_at (shown_table nodes rows lists).held list) → node_at new list i
        ≡ node_at old list (i + 1)
    rest_now i lt =
        let threaded = IsThreaded-shown nodes rows lists free_nodes arena in
        let here : list < length (shown_table nodes rows lists).held.lists = omega
        (arith, length-held nodes spans lists (omega (arith, span_count nodes rows lists free_nodes arena))) in
        ap (λ p. place_from (next_in new) p i) first_now
        ∙ place_from-same (next_in old) (next_in new) (next_in old (first_in (ends_at old list))) i (λ j below.
        next_same (node_at old list (suc j)) (record_kept (node_at old list (suc j)) (λ e.
        let both = threaded.once list list (suc j) 0 here here (omega arith) (omega arith) (e ∙ sym row_first) in
        let zero = both.1 in
        absurd (omega arith))))
        ∙ ap (place_from (next_in old) (first_in (ends_at old list))) (let e : suc i ≡ i + 1 = omega arith in e)
      where
        next_same : (n : ℕ) → slice_get new.records n ≡ slice_get old.records n → next_in new n ≡ next_in old n
        next_same n e =
            ap link_of (sym (unwrap_or-slice_get new.records n free_record)
            ∙ ap (λ (o : Option NodeRecord). unwrap_or o free_record) e
            ∙ unwrap_or-slice_get old.records n free_record)

    pub IsPopped-transferred : IsPopped list (shown_table nodes rows lists) (shown_table nodes2 rows2 lists)
    IsPopped-transferred = record {
      records = λ n ng. record_kept n (λ e. ng (e ∙ sym row_first));
      ends = λ b nb. ends_other b nb;
      rest = rest_now;
    }
      where
        ends_other : (b : ℕ) → b ≢ list → slice_get new.ends b ≡ slice_get old.ends b
        ends_other b nb = elim (cases_eq b lists) [
          | inl is ↦ slice_get-take_past (map ends_of rows2) lists b (omega arith)
              ∙ sym (slice_get-take_past (map ends_of rows) lists b (omega arith))
          | inr nl ↦ slice_get-take_same (map ends_of rows2) (map ends_of rows) lists b
              (slice_get-map_same ends_of rows2 rows b
              (ap (λ rs. slice_get rs b) t.rows_are ∙ two_set rows list lists b t.giver t.taker nb nl))
        ]
