-- The table of a new arena: one row with all nodes in turn.
use Rattle.std.proofs.Common.{◌≡◌, ℕ, zero, suc, ◌+◌, ◌-◌, ◌*◌, ◌<◌, ◌≤◌, ◌≢◌, List, [], length, get_or, take}
use Rattle.std.proofs.Common.{replicate, nat_lt, sum_by, sym, refl, ap, ◌∙◌, inl, inr, arith, length-set}
use Rattle.std.proofs.Common.{length-take-le, take_all, get_or-set_other, get_or-take, get_or-set_same, ext_get_or}
use Rattle.std.proofs.Common.{le-ltb, eq-eqb}
use Rattle.std.proofs.lemmas.{Bool.cases_eq, List.Folds.sum_by-replicate}
use Rattle.std.proofs.lemmas.List.{get_or-replicate, length-map, length-replicate, Sums.sum_by_more}
use Rattle.im_types.specs.Types.{NONE}
use Rattle.im_arena.proofs.{Moves.place_from-last, Views.length-held, Views.list_at-held}
use Rattle.im_arena.proofs.Tables.{eqb-no, span_at, steps-are}
use Rattle.im_arena.specs.{Chain.place_from, declared.table.Node.Node, declared.table.Row.Row}
use Rattle.im_arena.specs.Table.{AreFree, blank_row, blank_span, count_of, empty_row, full_row, held, IsArena}
use Rattle.im_arena.specs.Table.{list_first, list_last, next_of, Span, span_of, spans_of, start_rows, used_of}
use Rattle.im_arena.specs.Table.{waiters_on}

place_from-counts : (next : ℕ → ℕ) (n i : ℕ) → ((k : ℕ) → k + 1 < n → next k ≡ k + 1) → i < n → place_from next 0 i ≡ i
place_from-counts next n zero h lt = refl
place_from-counts next n (suc i) h lt =
    place_from-last next 0 i ∙ ap next (place_from-counts next n i h (omega arith)) ∙ h i (omega arith) ∙ omega arith

full_row-none : (n : ℕ) → n ≡ 0 → full_row n ≡ empty_row
full_row-none n e = rw (eq-eqb n 0 e) refl

full_row-some : (n : ℕ) → 0 < n → full_row n ≡ record { first = 0; last = n - 1 }
full_row-some n lt = rw (eqb-no n 0 (λ e. omega arith)) refl

-- a span without nodes
abbrev empty_span : Span
empty_span = record { first = NONE; last = NONE; count = 0 }

-- a span of all nodes in turn
abbrev full_span : ℕ → Span
full_span n = record { first = 0; last = n - 1; count = n }

abbrev with_count : ℕ → ℕ → ℕ → Span
with_count first last n = record { first = first; last = last; count = n }

module _ (table : List Node) (lists nodes : ℕ) (start : AreFree table nodes) (small : nodes ≤ NONE) where
  abbrev rows : List Row
  rows = start_rows nodes lists

  abbrev spans : List Span
  spans = spans_of table rows

  row_count : length rows ≡ lists + 1
  row_count = length-set (replicate (lists + 1) empty_row) lists (full_row nodes)
      ∙ length-replicate (lists + 1) empty_row

  size : length spans ≡ lists + 1
  size = length-map rows (span_of table) ∙ row_count

  -- the spans of the two rows
  span_empty : span_of table empty_row ≡ empty_span
  span_empty = ap (with_count NONE NONE)
      (steps-are (next_of table) NONE 0 (length table) (λ i lt. absurd (omega arith)) refl (omega arith))

  past_last : 0 < nodes → place_from (next_of table) 0 nodes ≡ NONE
  past_last some =
      ap (place_from (next_of table) 0) (let e : nodes ≡ suc (nodes - 1) = omega arith in e)
      ∙ place_from-last (next_of table) 0 (nodes - 1)
      ∙ ap (next_of table) (place_from-counts (next_of table) nodes (nodes - 1) start.chained (omega arith))
      ∙ start.tail (nodes - 1) (omega arith)

  span_full : 0 < nodes → span_of table (full_row nodes) ≡ full_span nodes
  span_full some =
      ap (span_of table) (full_row-some nodes some)
      ∙ ap (with_count 0 (nodes - 1)) (steps-are (next_of table) 0 nodes (length table)
      (λ i lt none. omega (arith, place_from-counts (next_of table) nodes i start.chained lt))
      (past_last some) (omega (arith, start.size)))

  at_lists : get_or spans lists blank_span ≡ span_of table (full_row nodes)
  at_lists =
      span_at table rows lists (omega (arith, row_count))
      ∙ ap (span_of table)
      (get_or-set_same (replicate (lists + 1) empty_row) lists (full_row nodes) blank_row
      (omega (arith, length-replicate (lists + 1) empty_row)))

  at_other : (a : ℕ) → a < lists + 1 → a ≢ lists → get_or spans a blank_span ≡ empty_span
  at_other a lt ne =
      span_at table rows a (omega (arith, row_count))
      ∙ ap (span_of table)
      (get_or-set_other (replicate (lists + 1) empty_row) lists a (full_row nodes) blank_row ne
      ∙ get_or-replicate (lists + 1) a empty_row blank_row lt)
      ∙ span_empty

  -- the last row has all nodes
  at_full : 0 < nodes → get_or spans lists blank_span ≡ full_span nodes
  at_full some = at_lists ∙ span_full some

  at_none : nodes ≡ 0 → get_or spans lists blank_span ≡ empty_span
  at_none none = at_lists ∙ ap (span_of table) (full_row-none nodes none) ∙ span_empty

  full_count : count_of spans lists ≡ nodes
  full_count = elim (cases_eq nodes 0) [
    | inl none ↦ ap (λ (s : Span). s.count) (at_none none) ∙ sym none
    | inr some ↦ ap (λ (s : Span). s.count) (at_full (omega arith))
  ]

  count_is : (a : ℕ) → a ≡ lists → count_of spans a ≡ nodes
  count_is a is = ap (count_of spans) is ∙ full_count

  is_last : (a i : ℕ) → a < length spans → i < count_of spans a → a ≡ lists
  is_last a i al il = elim (cases_eq a lists) [
    | inl is ↦ is
    | inr other ↦ absurd (omega (arith, size, ap (λ (x : Span). x.count) (at_other a (omega (arith, size)) other)))
  ]

  -- a span without nodes has no ends
  is_bare : (a : ℕ) → a < length spans → count_of spans a ≡ 0 → get_or spans a blank_span ≡ empty_span
  is_bare a al none = elim (cases_eq a lists) [
    | inl is ↦ ap (λ x. get_or spans x blank_span) is ∙ at_none (sym (count_is a is) ∙ none)
    | inr other ↦ at_other a (omega (arith, size)) other
  ]

  place_is : (a i : ℕ) → a ≡ lists → i < nodes → place_from (next_of table) (list_first spans a) i ≡ i
  place_is a i is lt =
      ap (λ x. place_from (next_of table) (list_first spans x) i) is
      ∙ ap (λ (x : Span). place_from (next_of table) x.first i) (at_full (omega arith))
      ∙ place_from-counts (next_of table) nodes i start.chained lt

  last_is : (a : ℕ) → a ≡ lists → 0 < nodes → list_last spans a ≡ nodes - 1
  last_is a is some = ap (list_last spans) is ∙ ap (λ (x : Span). x.last) (at_full some)

  -- the counts of the spans: nothing but the last one's
  total : sum_by (λ (s : Span). s.count) spans ≡ nodes
  total =
      let f : Span → ℕ = λ s. s.count in
      let more = sum_by_more f spans lists blank_span (omega (arith, size)) in
      let all : take (lists + 1) spans ≡ spans = take_all (lists + 1) spans (omega (arith, size)) in
      let sum : sum_by f (take (lists + 1) spans) ≡ sum_by f spans = ap (sum_by f) all in
      let empty : take lists spans ≡ replicate lists empty_span =
      ext_get_or blank_span _ _
      (length-take-le lists spans (omega (arith, size)) ∙ sym (length-replicate lists empty_span)) (λ b lt.
      let within : b < lists = omega (arith, length-take-le lists spans (omega (arith, size))) in
      get_or-take lists spans b blank_span within ∙ at_other b (omega arith) (λ e. omega arith)
      ∙ sym (get_or-replicate lists b empty_span blank_span within)) in
      let none : sum_by f (take lists spans) ≡ lists * 0 = ap (sum_by f) empty ∙ sum_by-replicate f lists empty_span in
      omega (arith, full_count)

  pub IsArena-start : IsArena table rows lists nodes
  IsArena-start = record {
    sound = record {
      chains = record {
        within = λ a i al il.
            let is = is_last a i al il in
            let lt : i < nodes = omega (arith, count_is a is) in
            rw (place_is a i is lt) (omega (arith, start.size));
        apart = λ a b i j al bl il jl same.
            let xs = is_last a i al il in
            let ys = is_last b j bl jl in (
              omega arith,
              sym (place_is a i xs (omega (arith, count_is a xs))) ∙ same
                  ∙ place_is b j ys (omega (arith, count_is b ys)),
            );
        covered = λ n lt none.
            let inside : n < nodes = omega (arith, start.size) in
            none lists n (omega (arith, size)) (omega (arith, count_is lists refl)) (place_is lists n refl inside);
        marked = λ a i al il.
            let is = is_last a i al il in
            let lt : i < nodes = omega (arith, count_is a is) in
            let ends : a + 1 ≡ length spans = omega (arith, size) in
            ap (used_of table) (place_is a i is lt) ∙ start.unused i (omega (arith, start.size))
            ∙ sym (ap (λ x. nat_lt x (length spans)) ends ∙ le-ltb (length spans) (length spans) (omega arith));
        ends = λ a i al counted.
            let is = is_last a i al (omega arith) in
            let all : i + 1 ≡ nodes = omega (arith, count_is a is) in
            last_is a is (omega arith) ∙ sym (place_is a i is (omega arith) ∙ omega arith);
        tail = λ a al some.
            let is = is_last a 0 al some in
            let all : 0 < nodes = omega (arith, count_is a is) in
            ap (next_of table) (last_is a is all) ∙ start.tail (nodes - 1) (omega arith);
        no_first = λ a al none. ap (λ (x : Span). x.first) (is_bare a al none);
        no_last = λ a al none. ap (λ (x : Span). x.last) (is_bare a al none);
        few = omega (arith, start.size);
      };
      total = total ∙ sym start.size;
    };
    size = row_count;
    count = sym full_count;
  }

  pub held-start : (held table spans lists).lists ≡ replicate lists []
  held-start = ext_get_or [] _ _
      (length-held table spans lists (omega (arith, size)) ∙ sym (length-replicate lists [])) (λ b lt.
      let within : b < lists = omega (arith, length-held table spans lists (omega (arith, size))) in
      list_at-held table spans lists b within (omega (arith, size))
      ∙ ap (λ (x : Span). waiters_on table x) (at_other b (omega arith) (λ e. omega arith))
      ∙ sym (get_or-replicate lists b [] [] within))
