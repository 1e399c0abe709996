-- A node moved between the rows of a table.
use Rattle.std.proofs.Common.{◌≡◌, ℕ, zero, suc, ◌+◌, ◌-◌, ◌<◌, ◌≤◌, Bool, true, false, eqb, ◌≢◌, List, [], ◌∷◌, ◌++◌}
use Rattle.std.proofs.Common.{length, get_or, set, nat_lt, sum_by, sym, refl, ap, ◌∙◌, subst, inl, inr, arith}
use Rattle.std.proofs.Common.{length-set, get_or-set_other, get_or-set_same, ext_get_or, eq-eqb, eqb-true}
use Rattle.std.proofs.lemmas.Bool.{cases_eq}
use Rattle.std.proofs.lemmas.List.{get_or-map, length-map, Sums.get_or-le-sum_by, Sums.sum_by-set}
use Rattle.im_types.specs.Types.{Waiter, NONE}
use Rattle.im_arena.proofs.Moves.{along_from, along_other, along_to, Chains-moved, Moves, place_from-last}
use Rattle.im_arena.specs.{Chain.place_from, declared.table.Node.Node, declared.table.Row.Row}
use Rattle.im_arena.specs.Table.{Attached, blank_node, blank_row, blank_span, count_of, Detached, list_first, list_last}
use Rattle.im_arena.specs.Table.{next_of, row_at, Sound, Span, span_of, spans_of, steps_from, Transferred, used_of}
use Rattle.im_arena.specs.Table.{waiter_in, waiter_of}

pub eqb-no : (a b : ℕ) → a ≢ b → eqb a b ≡ false
eqb-no a b apart = by_value (eqb a b) refl
  where
    by_value : (v : Bool) → eqb a b ≡ v → eqb a b ≡ false
    by_value true e = absurd (apart (eqb-true a b e))
    by_value false e = e

-- the first node of one span is now the last of another, and holds something else
pub record Moved (nodes nodes2 : List Node) (spans spans2 : List Span) (from to : ℕ) (content : Node)
    (result : Waiter) : Type 0 where
  pub sound : Sound nodes2 spans2
  pub size : length spans2 ≡ length spans
  pub table : length nodes2 ≡ length nodes
  pub front : row_at nodes spans from ≡ result ∷ row_at nodes2 spans2 from
  pub back : row_at nodes2 spans2 to ≡ row_at nodes spans to ++ waiter_in content ∷ []
  pub others : (b : ℕ) → b < length spans → b ≢ from → b ≢ to → row_at nodes2 spans2 b ≡ row_at nodes spans b

pub steps-are : (next : ℕ → ℕ) (at k fuel : ℕ) → ((i : ℕ) → i < k → place_from next at i ≢ NONE)
    → place_from next at k ≡ NONE → k ≤ fuel → steps_from next at fuel ≡ k
steps-are next at zero zero some end le = refl
steps-are next at zero (suc fuel) some end le = rw (eq-eqb at NONE end) refl
steps-are next at (suc k) zero some end le = absurd (omega arith)
steps-are next at (suc k) (suc fuel) some end le =
    rw (eqb-no at NONE (some 0 (omega arith)))
    (ap suc (steps-are next (next at) k fuel (λ i lt. some (suc i) (omega arith)) end (omega arith)))

module _ (nodes : List Node) (spans : List Span) (sound : Sound nodes spans) where
  -- the ends of a row that isn't empty are nodes
  pub first_within : (a : ℕ) → a < length spans → 0 < count_of spans a → list_first spans a < length nodes
  first_within a within some = sound.chains.within a 0 within some

  pub last_within : (a : ℕ) → a < length spans → 0 < count_of spans a → list_last spans a < length nodes
  last_within a within some =
      let there = sound.chains.ends a (count_of spans a - 1) within (omega arith) in
      let inside = sound.chains.within a (count_of spans a - 1) within (omega arith) in
      omega arith

  -- behind the last node of a span is none
  pub end_of : (a : ℕ) → a < length spans → (k : ℕ) → count_of spans a ≡ k
      → place_from (next_of nodes) (list_first spans a) k ≡ NONE
  end_of a al zero e = sound.chains.no_first a al e
  end_of a al (suc k) e =
      let last = sound.chains.ends a k al (omega arith) in
      place_from-last (next_of nodes) (list_first spans a) k ∙ ap (next_of nodes) (sym last)
      ∙ sound.chains.tail a al (omega arith)

  pub count_within : (a : ℕ) → a < length spans → count_of spans a ≤ length nodes
  count_within a al =
      let bound = get_or-le-sum_by (λ (s : Span). s.count) spans a blank_span al in
      omega (arith, sound.total)

  -- the links tell how many nodes a span has
  pub count-is : (a : ℕ) → a < length spans → steps_from (next_of nodes) (list_first spans a) (length nodes)
      ≡ count_of spans a
  count-is a al =
      steps-are (next_of nodes) (list_first spans a) (count_of spans a) (length nodes)
      (λ i lt none. let inside = sound.chains.within a i al lt in let few = sound.chains.few in omega arith)
      (end_of a al (count_of spans a) refl) (count_within a al)

  -- rows with these ends have these spans
  pub spans-are : (rows : List Row) → length rows ≡ length spans
      → ((a : ℕ) → a < length spans → ((get_or rows a blank_row).first ≡ list_first spans a)
      × ((get_or rows a blank_row).last ≡ list_last spans a))
      → spans_of nodes rows ≡ spans
  spans-are rows size ends = ext_get_or blank_span _ _ (length-map rows (span_of nodes) ∙ size) (λ a lt.
      let al : a < length spans = omega (arith, length-map rows (span_of nodes)) in
      let both = ends a al in
      get_or-map (span_of nodes) rows a blank_row blank_span (omega arith)
      ∙ ap (λ f. let s : Span = record {
        first = f;
        last = (get_or rows a blank_row).last;
        count = steps_from
            (next_of nodes) f (length nodes);
      } in s) both.0
      ∙ ap (λ l. let s : Span = record {
        first = list_first spans a;
        last = l;
        count = steps_from (next_of nodes)
            (list_first spans a) (length nodes);
      } in s) both.1
      ∙ ap (λ n. let s : Span = record { first = list_first spans a; last = list_last spans a; count = n } in s)
      (count-is a al))

  -- a span is empty where its last node is none
  pub last-some : (a : ℕ) → a < length spans → list_last spans a ≢ NONE → 0 < count_of spans a
  last-some a within some = elim (cases_eq (count_of spans a) 0) [
    | inl empty ↦ absurd (some (sound.chains.no_last a within empty))
    | inr not_empty ↦ omega arith
  ]

  pub some-last : (a : ℕ) → a < length spans → 0 < count_of spans a → list_last spans a ≢ NONE
  some-last a within some = λ none.
      let inside = last_within a within some in
      let few = sound.chains.few in
      omega arith

  -- two spans have no more nodes than there are
  pub two_counts : (a b : ℕ) → a < length spans → b < length spans → a ≢ b
      → count_of spans a + count_of spans b ≤ length nodes
  two_counts a b in_a in_b apart =
      let f : Span → ℕ = λ s. s.count in
      let without = sum_by-set f spans a blank_span blank_span in_a in
      let other : get_or (set spans a blank_span) b blank_span
      ≡ get_or spans b blank_span = get_or-set_other spans a b blank_span blank_span (λ e. apart (sym e)) in
      let bound = get_or-le-sum_by f (set spans a blank_span) b blank_span
      (omega (arith, length-set spans a blank_span)) in
      let counts : (get_or (set spans a blank_span) b blank_span).count
      ≡ (get_or spans b blank_span).count = ap f other in
      omega (arith, sound.total)

  module _ (from to : ℕ) (content : Node) (in_from : from < length spans) (in_to : to < length spans)
      (apart : from ≢ to) (some : 0 < count_of spans from) (link : content.next ≡ NONE)
      (mark : content.used ≡ nat_lt (to + 1) (length spans)) where
    abbrev nodes1 : List Node
    nodes1 = set nodes (list_first spans from) content

    inside1 : list_first spans from < length nodes
    inside1 = first_within from in_from some

    size1 : length nodes1 ≡ length nodes
    size1 = length-set nodes (list_first spans from) content

    -- the moved node, and each other one
    moved1 : get_or nodes1 (list_first spans from) blank_node ≡ content
    moved1 = get_or-set_same nodes (list_first spans from) content blank_node inside1

    other1 : (m : ℕ) → m ≢ list_first spans from → get_or nodes1 m blank_node ≡ get_or nodes m blank_node
    other1 m other = get_or-set_other nodes (list_first spans from) m content blank_node other

    first_not_last : 0 < count_of spans to → list_first spans from ≢ list_last spans to
    first_not_last any same =
        let there = sound.chains.ends to (count_of spans to - 1) in_to (omega arith) in
        apart (sound.chains.apart from to 0 (count_of spans to - 1) in_from in_to some (omega arith) (same ∙ there)).0

    module _ (nodes2 : List Node) (giver taker : Row)
        (detached : Detached (list_last spans from) (next_of nodes (list_first spans from)) giver)
        (attached : Attached nodes1 nodes2 (list_first spans to) (list_last spans to) (list_first spans from) taker)
      where
        -- what the link behind the last node of `to` leaves
        record Kept : Type 0 where
          size : length nodes2 ≡ length nodes
          waiters : (m : ℕ) → waiter_of nodes2 m ≡ waiter_of nodes1 m
          marks : (m : ℕ) → used_of nodes2 m ≡ used_of nodes1 m
          last : 0 < count_of spans to → next_of nodes2 (list_last spans to) ≡ list_first spans from
          others : (m : ℕ) → (0 < count_of spans to → m ≢ list_last spans to) → next_of nodes2 m ≡ next_of nodes1 m

        kept_at : (k : ℕ) → count_of spans to ≡ k → Kept
        kept_at zero e =
            let same = (attached.empty (sound.chains.no_last to in_to e)).1 in
            record {
              size = ap length same ∙ size1;
              waiters = λ m. ap (λ ns. waiter_of ns m) same;
              marks = λ m. ap (λ ns. used_of ns m) same;
              last = λ lt. absurd (omega arith);
              others = λ m _. ap (λ ns. next_of ns m) same;
            }
        kept_at (suc k) e =
            let new : Node = record (get_or nodes1 (list_last spans to) blank_node) { next = list_first spans from } in
            let same = (attached.longer (some-last to in_to (omega arith))).1 in
            let inside_l : list_last spans to < length nodes1 =
            omega (arith, size1, last_within to in_to (omega arith)) in
            let at_last : get_or (set nodes1 (list_last spans to) new) (list_last spans to) blank_node
            ≡ new = get_or-set_same nodes1 (list_last spans to) new blank_node inside_l in
            record {
              size = ap length same ∙ length-set nodes1 (list_last spans to) new ∙ size1;
              waiters = λ m. ap (λ ns. waiter_of ns m) same ∙ elim (cases_eq m (list_last spans to)) [
                | inl is ↦ ap (waiter_of (set nodes1 (list_last spans to) new)) is ∙ ap waiter_in at_last
                    ∙ ap (waiter_of nodes1) (sym is)
                | inr other ↦ ap waiter_in (get_or-set_other nodes1 (list_last spans to) m new blank_node other)
              ];
              marks = λ m. ap (λ ns. used_of ns m) same ∙ elim (cases_eq m (list_last spans to)) [
                | inl is ↦ ap (used_of (set nodes1 (list_last spans to) new)) is ∙ ap (λ (x : Node). x.used) at_last
                    ∙ ap (used_of nodes1) (sym is)
                | inr other ↦ ap (λ (x : Node). x.used)
                    (get_or-set_other nodes1 (list_last spans to) m new blank_node other)
              ];
              last = λ lt. ap (λ ns. next_of ns (list_last spans to)) same ∙ ap (λ (x : Node). x.next) at_last;
              others = λ m ne. ap (λ ns. next_of ns m) same
                  ∙ ap (λ (x : Node). x.next)
                  (get_or-set_other nodes1 (list_last spans to) m new blank_node (ne (omega arith)));
            }

        abbrev giver_span : Span
        giver_span = record { first = giver.first; last = giver.last; count = count_of spans from - 1 }

        abbrev taker_span : Span
        taker_span = record { first = taker.first; last = taker.last; count = count_of spans to + 1 }

        kept : Kept
        kept = kept_at (count_of spans to) refl

        abbrev pub spans2 : List Span
        spans2 = set (set spans from giver_span) to taker_span

        at_from : get_or spans2 from blank_span ≡ giver_span
        at_from = get_or-set_other (set spans from giver_span) to from taker_span blank_span apart
            ∙ get_or-set_same spans from giver_span blank_span in_from

        at_to : get_or spans2 to blank_span ≡ taker_span
        at_to = get_or-set_same (set spans from giver_span) to taker_span blank_span
            (omega (arith, length-set spans from giver_span))

        at_other : (b : ℕ) → b ≢ from → b ≢ to → get_or spans2 b blank_span ≡ get_or spans b blank_span
        at_other b nf nt = get_or-set_other (set spans from giver_span) to b taker_span blank_span nt
            ∙ get_or-set_other spans from b giver_span blank_span nf

        size2 : length spans2 ≡ length spans
        size2 = length-set (set spans from giver_span) to taker_span ∙ length-set spans from giver_span

        moves : Moves (length spans) NONE from to (next_of nodes) (used_of nodes) (list_first spans) (list_last spans)
            (count_of spans) (next_of nodes2) (used_of nodes2) (list_first spans2) (list_last spans2) (count_of spans2)
        moves = record {
          some = some;
          apart = apart;
          first_from = ap (λ (x : Span). x.first) at_from ∙ detached.first;
          last_from = λ more. ap (λ (x : Span). x.last) at_from
              ∙ detached.more
              (λ none. let second = sound.chains.within from 1 in_from more in let few = sound.chains.few
              in omega arith);
          last_from_one = λ one. ap (λ (x : Span). x.last) at_from ∙ detached.one (end_of from in_from 1 one);
          count_from = omega (arith, ap (λ (x : Span). x.count) at_from);
          first_to = λ lt. ap (λ (x : Span). x.first) at_to ∙ (attached.longer (some-last to in_to lt)).0;
          first_to_empty = λ e. ap (λ (x : Span). x.first) at_to ∙ (attached.empty (sound.chains.no_last to in_to e)).0;
          last_to = ap (λ (x : Span). x.last) at_to ∙ attached.end;
          count_to = ap (λ (x : Span). x.count) at_to;
          first_other = λ b nf nt. ap (λ (x : Span). x.first) (at_other b nf nt);
          last_other = λ b nf nt. ap (λ (x : Span). x.last) (at_other b nf nt);
          count_other = λ b nf nt. ap (λ (x : Span). x.count) (at_other b nf nt);
          next_moved = kept.others (list_first spans from) first_not_last ∙ ap (λ (x : Node). x.next) moved1 ∙ link;
          next_last = kept.last;
          next_other = λ m nf nl. kept.others m nl ∙ ap (λ (x : Node). x.next) (other1 m nf);
          used_moved = kept.marks (list_first spans from) ∙ ap (λ (x : Node). x.used) moved1 ∙ mark;
          used_other = λ m nf. kept.marks m ∙ ap (λ (x : Node). x.used) (other1 m nf);
        }

        total2 : sum_by (λ (s : Span). s.count) spans2 ≡ length nodes
        total2 =
            let f : Span → ℕ = λ s. s.count in
            let one = sum_by-set f spans from giver_span blank_span in_from in
            let two = sum_by-set f (set spans from giver_span) to taker_span blank_span
            (omega (arith, length-set spans from giver_span)) in
            let read : count_of (set spans from giver_span) to
            ≡ count_of spans to = ap (λ (x : Span). x.count)
            (get_or-set_other spans from to giver_span blank_span (λ e. apart (sym e))) in
            omega (arith, sound.total)

        pub Moved-attached : Moved nodes nodes2 spans spans2 from to content (waiter_of nodes (list_first spans from))
        Moved-attached =
            let chains = Chains-moved _ _ _ from to _ _ _ _ _ _ _ _ _ _ sound.chains moves in_from in_to in
            let items : (m : ℕ) → m ≢ list_first spans from → waiter_of nodes2 m
            ≡ waiter_of nodes m = λ m ne. kept.waiters m ∙ ap waiter_in (other1 m ne) in
            record {
              sound = record {
                chains = rw (kept.size, size2) chains;
                total = total2 ∙ sym kept.size;
              };
              size = size2;
              table = kept.size;
              front = along_from _ _ _ from to _ _ _ _ _ _ _ _ _ _ sound.chains moves in_from in_to _ _ items;
              back = along_to _ _ _ from to _ _ _ _ _ _ _ _ _ _ sound.chains moves in_from in_to _ _ items
                  ∙ ap (λ (x : Waiter). row_at nodes spans to ++ x ∷ [])
                  (kept.waiters (list_first spans from) ∙ ap waiter_in moved1);
              others = along_other _ _ _ from to _ _ _ _ _ _ _ _ _ _ sound.chains moves in_from in_to _ _ items;
            }

-- a row and a span that are these have the same ends
same_ends : (x r : Row) (y s : Span) → x ≡ r → y ≡ s → r.first ≡ s.first → r.last ≡ s.last → (x.first ≡ y.first)
    × (x.last ≡ y.last)
same_ends x r y s xr ys firsts lasts = (
  ap (λ (q : Row). q.first) xr ∙ firsts ∙ sym (ap (λ (q : Span). q.first) ys),
  ap (λ (q : Row). q.last) xr ∙ lasts ∙ sym (ap (λ (q : Span). q.last) ys),
)

-- the span of a row
pub span_at : (nodes : List Node) (rows : List Row) (a : ℕ) → a < length rows
    → get_or (spans_of nodes rows) a blank_span ≡ span_of nodes (get_or rows a blank_row)
span_at nodes rows a lt = get_or-map (span_of nodes) rows a blank_row blank_span lt

-- the ends of a row that isn't empty are nodes
pub first_inside : (nodes : List Node) (rows : List Row) (a : ℕ) → Sound nodes (spans_of nodes rows)
    → a < length rows → 0 < count_of (spans_of nodes rows) a → (get_or rows a blank_row).first < length nodes
first_inside nodes rows a sound within some =
    subst (λ (s : Span). s.first < length nodes) (span_at nodes rows a within)
    (first_within nodes (spans_of nodes rows) sound a (omega (arith, length-map rows (span_of nodes))) some)

pub last_inside : (nodes : List Node) (rows : List Row) (a : ℕ) → Sound nodes (spans_of nodes rows) → a < length rows
    → (get_or rows a blank_row).last ≢ NONE → (get_or rows a blank_row).last < length nodes
last_inside nodes rows a sound within some =
    let spans = spans_of nodes rows in
    let inside : a < length spans = omega (arith, length-map rows (span_of nodes)) in
    let is : list_last spans a
    ≡ (get_or rows a blank_row).last = ap (λ (s : Span). s.last) (span_at nodes rows a within) in
    subst (λ n. n < length nodes) is
    (last_within nodes spans sound a inside (last-some nodes spans sound a inside (λ e. some (sym is ∙ e))))

-- the next node, spelled otherwise
pub Detached-same : (last next other : ℕ) (result : Row) → next ≡ other → Detached last next result
    → Detached last other result
Detached-same last next other result same detached = subst (λ n. Detached last n result) same detached

module _ (nodes : List Node) (rows : List Row) (sound : Sound nodes (spans_of nodes rows)) (from to : ℕ)
    (content : Node) (in_from : from < length rows) (in_to : to < length rows) (apart : from ≢ to)
    (some : 0 < count_of (spans_of nodes rows) from) (link : content.next ≡ NONE)
    (mark : content.used ≡ nat_lt (to + 1) (length rows))
    (nodes2 : List Node) (giver taker : Row)
    (detached : Detached (get_or rows from blank_row).last (next_of nodes (get_or rows from blank_row).first) giver)
    (attached : Attached (set nodes (get_or rows from blank_row).first content) nodes2
    (get_or rows to blank_row).first (get_or rows to blank_row).last (get_or rows from blank_row).first taker) where
  abbrev spans : List Span
  spans = spans_of nodes rows

  size : length spans ≡ length rows
  size = length-map rows (span_of nodes)

  detached_span : Detached (list_last spans from) (next_of nodes (list_first spans from)) giver
  detached_span = subst (λ (s : Span). Detached s.last (next_of nodes s.first) giver)
      (sym (span_at nodes rows from in_from)) detached

  attached_span : Attached (set nodes (list_first spans from) content) nodes2 (list_first spans to) (list_last spans to)
      (list_first spans from) taker
  attached_span =
      subst (λ (s : Span). Attached (set nodes s.first content) nodes2 (list_first spans to)
      (list_last spans to) s.first taker) (sym (span_at nodes rows from in_from))
      (subst (λ (s : Span). Attached (set nodes (get_or rows from blank_row).first content) nodes2 s.first s.last
      (get_or rows from blank_row).first taker) (sym (span_at nodes rows to in_to)) attached)

  abbrev rows2 : List Row
  rows2 = set (set rows from giver) to taker

  abbrev left : Span
  left = record { first = giver.first; last = giver.last; count = count_of spans from - 1 }

  abbrev longer : Span
  longer = record { first = taker.first; last = taker.last; count = count_of spans to + 1 }

  abbrev moved_spans : List Span
  moved_spans = set (set spans from left) to longer

  moved : Moved nodes nodes2 spans moved_spans from to content (waiter_of nodes (list_first spans from))
  moved = Moved-attached nodes spans sound from to content (omega (arith, size))
      (omega (arith, size)) apart some link
      (mark ∙ ap (nat_lt (to + 1)) (sym size)) nodes2 giver taker detached_span attached_span

  rows_size : length rows2 ≡ length rows
  rows_size = length-set (set rows from giver) to taker ∙ length-set rows from giver

  ends : (a : ℕ) → a < length moved_spans → ((get_or rows2 a blank_row).first ≡ list_first moved_spans a)
      × ((get_or rows2 a blank_row).last ≡ list_last moved_spans a)
  ends a lt = elim (cases_eq a to) [
    | inl is ↦ same_ends _ taker _ longer
        (ap (λ x. get_or rows2 x blank_row) is
        ∙ get_or-set_same (set rows from giver) to taker blank_row (omega (arith, length-set rows from giver)))
        (ap (λ x. get_or moved_spans x blank_span) is
        ∙ get_or-set_same (set spans from left) to longer blank_span
        (omega (arith, length-set spans from left, size)))
        refl refl
    | inr not_to ↦ elim (cases_eq a from) [
      | inl is ↦ same_ends _ giver _ left
          (get_or-set_other (set rows from giver) to a taker blank_row not_to
          ∙ ap (λ x. get_or (set rows from giver) x blank_row) is
          ∙ get_or-set_same rows from giver blank_row in_from)
          (get_or-set_other (set spans from left) to a longer blank_span not_to
          ∙ ap (λ x. get_or (set spans from left) x blank_span) is
          ∙ get_or-set_same spans from left blank_span (omega (arith, size)))
          refl refl
      | inr not_from ↦ same_ends _ (get_or rows a blank_row) _ (span_of nodes (get_or rows a blank_row))
          (get_or-set_other (set rows from giver) to a taker blank_row not_to
          ∙ get_or-set_other rows from a giver blank_row not_from)
          (get_or-set_other (set spans from left) to a longer blank_span not_to
          ∙ get_or-set_other spans from a left blank_span not_from
          ∙ span_at nodes rows a (omega (arith, moved.size, size)))
          refl refl
    ]
  ]

  spans2-are : spans_of nodes2 rows2 ≡ moved_spans
  spans2-are = spans-are nodes2 moved_spans moved.sound rows2 (rows_size ∙ sym size ∙ sym moved.size) ends

  pub Transferred-attached : Transferred nodes nodes2 rows rows2 from to content
      (waiter_of nodes (get_or rows from blank_row).first)
  Transferred-attached = record {
    sound = subst (λ ss. Sound nodes2 ss) (sym spans2-are) moved.sound;
    size = rows_size;
    table = moved.table;
    front = subst (λ ss. row_at nodes spans from
        ≡ waiter_of nodes (get_or rows from blank_row).first ∷ row_at nodes2 ss from) (sym spans2-are)
        (moved.front ∙ ap (λ (s : Span). waiter_of nodes s.first ∷ row_at nodes2 moved_spans from)
        (span_at nodes rows from in_from));
    back = ap (λ ss. row_at nodes2 ss to) spans2-are ∙ moved.back;
    others = λ b lt nf nt. ap (λ ss. row_at nodes2 ss b) spans2-are ∙ moved.others b (omega (arith, size)) nf nt;
    giver = giver;
    taker = taker;
    detached = detached;
    attached = attached;
    rows_are = refl;
  }
