-- One step of a walk, and of the walks over all cells, for their loops.
use Rattle.std.proofs.Common.{◌≡◌, ℕ, suc, ◌+◌, ◌-◌, ◌<◌, ◌≤◌, Bool, true, false, List, [], ◌∷◌, ◌++◌, length, drop}
use Rattle.std.proofs.Common.{set, replicate, if◌then◌else◌, ◌==◌, Some, None, Option, option_and_then, sym, refl, ap}
use Rattle.std.proofs.Common.{◌∙◌, subst, append_assoc, append-nil, arith}
use Rattle.std.proofs.lemmas.List.{drop_all}
use Rattle.im_types.specs.Types.{Waiter, NONE, CellRecord, NodeRecord, ListNode, FreeNode}
use Rattle.im_contents.proofs.MarkLemmas.{none_some, some_same, unless, when}
use Rattle.im_contents.{proofs.RowLemmas.IsEndKept, proofs.RowLemmas.spread-push, specs.Row.Rise, specs.Row.spread}
use Rattle.im_contents.specs.Walk.{after_list, after_lists, AllWalked, are_reached, lists_if_reached, lists_in}
use Rattle.im_contents.specs.Walk.{met_after, node_behind, unvisited_node, visit, walk, walk_all, walk_cell, Walked}

behind-behind : (front : List Waiter) (who : Waiter) (rest : Option Walked)
    → met_after front (met_after (who ∷ []) rest)
    ≡ met_after (front ++ who ∷ []) rest
behind-behind front who None = refl
behind-behind front who (Some w) = ap (λ (l : List Waiter). Some (record { waiters = l; marks = w.marks }))
    (sym (append_assoc front (who ∷ []) w.waiters))

-- a walk has come to a node
module _ (nodes : List NodeRecord) (last n i : ℕ) (lt : i < n) (marks : List Bool) (at : ℕ) (front : List Waiter)
    (whole : Option Walked) (inv : whole ≡ met_after front (walk nodes last (n - i) marks at)) where
  seen : (f : NodeRecord) → unvisited_node marks nodes at ≡ f → whole
      ≡ met_after front (visit last at (set marks at true) f
      (walk nodes last (n - (i + 1)) (set marks at true) (node_behind f)))
  seen f is =
      let left : n - i ≡ suc (n - (i + 1)) = omega arith in
      inv
      ∙ ap (λ (k : ℕ). met_after front (walk nodes last k marks at)) left
      ∙ ap (λ (r : NodeRecord). met_after front
      (visit last at (set marks at true) r (walk nodes last (n - (i + 1)) (set marks at true) (node_behind r)))) is

  pub lost : (next : ℕ) → unvisited_node marks nodes at ≡ FreeNode next → whole ≡ None
  lost next is = seen (FreeNode next) is

  module _ (next : ℕ) (who : Waiter) (is : unvisited_node marks nodes at ≡ ListNode next who) where
    abbrev further : Option Walked
    further = walk nodes last (n - (i + 1)) (set marks at true) next

    abbrev alone : Walked
    alone = record { waiters = who ∷ []; marks = set marks at true }

    abbrev at_end : Option Walked
    at_end = if at == last then Some alone else None

    behind_if : (b : Bool) → met_after front (if b then Some alone else None)
        ≡ (if b then Some (record { waiters = front ++ who ∷ []; marks = set marks at true }) else None)
    behind_if true = refl
    behind_if false = refl

    pub ended : (next == NONE) ≡ true → whole
        ≡ (if at == last then Some (record { waiters = front ++ who ∷ []; marks = set marks at true }) else None)
    ended e = seen (ListNode next who) is
        ∙ ap (λ (o : Option Walked). met_after front o)
        (when (next == NONE) at_end (met_after (who ∷ []) further) e)
        ∙ behind_if (at == last)

    pub went : (next == NONE) ≡ false → whole
        ≡ met_after (front ++ who ∷ []) (walk nodes last (n - (i + 1)) (set marks at true) next)
    went ne =
        seen (ListNode next who) is
        ∙ ap (λ (o : Option Walked). met_after front o)
        (unless (next == NONE) at_end (met_after (who ∷ []) further) ne)
        ∙ behind-behind front who further

after_after : (front : List (List Waiter)) (waiters : List Waiter) (rest : Option AllWalked)
    → after_lists front (after_list waiters rest) ≡ after_lists (front ++ waiters ∷ []) rest
after_after front waiters None = refl
after_after front waiters (Some r) = ap (λ (l : List (List Waiter)). Some (record { lists = l; marks = r.marks }))
    (sym (append_assoc front (waiters ∷ []) r.lists))

-- the walks have come to a cell
module _ (nodes : List NodeRecord) (cell : CellRecord) (cells : List CellRecord) (marks : List Bool)
    (waiters : List Waiter) (ends : List ℕ) (at : ℕ) (whole : Option AllWalked)
    (inv : whole ≡ after_lists (spread waiters ends at) (walk_all nodes (cell ∷ cells) marks)) where
  -- there is no list for it
  pub cell_lost : met_after waiters (walk_cell nodes cell marks) ≡ None → whole ≡ None
  cell_lost e = inv ∙ ap (λ (o : Option Walked). after_lists (spread waiters ends at)
      (option_and_then (λ w. after_list w.waiters (walk_all nodes cells w.marks)) o))
      (none_behind (walk_cell nodes cell marks) e)
    where
      none_behind : (o : Option Walked) → met_after waiters o ≡ None → o ≡ None
      none_behind None e = refl
      none_behind (Some w) e = absurd (none_some (record { waiters = waiters ++ w.waiters; marks = w.marks }) (sym e))

  -- its list was found
  pub record IsFurther (kept : List ℕ) (now : List Waiter) (marked : List Bool) : Type 0 where
    pub rise : Rise 0 kept (length now)
    pub few : length kept ≤ at + 1
    pub is : whole ≡ after_lists (spread now kept (at + 1)) (walk_all nodes cells marked)

  pub cell_found : Rise 0 ends (length waiters) → length ends ≤ at → (kept : List ℕ) (now : List Waiter)
      (marked : List Bool) → met_after waiters (walk_cell nodes cell marks)
      ≡ Some (record { waiters = now; marks = marked })
      → IsEndKept ends kept at (length waiters) (length now)
      → IsFurther kept now marked
  cell_found rise few kept now marked e keeps = by_walk (walk_cell nodes cell marks) refl e
    where
      found : (w : Walked) → walk_cell nodes cell marks ≡ Some w
          → IsEndKept ends kept at (length waiters) (length (waiters ++ w.waiters))
          → IsFurther kept (waiters ++ w.waiters) w.marks
      found w is keeps =
          let s = spread-push waiters w.waiters ends kept at rise few keeps in
          record {
            rise = s.rise;
            few = s.few;
            is = inv
                ∙ ap (λ (o : Option Walked). after_lists (spread waiters ends at)
                (option_and_then (λ v. after_list v.waiters (walk_all nodes cells v.marks)) o)) is
                ∙ after_after (spread waiters ends at) w.waiters (walk_all nodes cells w.marks)
                ∙ ap (λ (l : List (List Waiter)). after_lists l (walk_all nodes cells w.marks)) (sym s.is);
          }

      by_walk : (o : Option Walked) → walk_cell nodes cell marks ≡ o → met_after waiters o
          ≡ Some (record { waiters = now; marks = marked }) → IsFurther kept now marked
      by_walk None is f = absurd (none_some (record { waiters = now; marks = marked }) f)
      by_walk (Some w) is f = subst
          (λ (x : Walked). IsEndKept ends kept at (length waiters) (length x.waiters)
          → IsFurther kept x.waiters x.marks)
          (some_same (record { waiters = waiters ++ w.waiters; marks = w.marks })
          (record { waiters = now; marks = marked }) f) (found w is) keeps

-- the walks are at their end
module _ (nodes : List NodeRecord) (cells : List CellRecord) where
  abbrev pub whole : Option AllWalked
  whole = walk_all nodes cells (replicate (length nodes) false)

  pub none_in : whole ≡ None → lists_in nodes cells ≡ None
  unfolding lists_in
  none_in e = ap (λ (o : Option AllWalked). option_and_then (lists_if_reached nodes) o) e

  pub all_walked : (front : List (List Waiter)) (marks : List Bool) (i : ℕ) → whole
      ≡ after_lists front (walk_all nodes (drop i cells) marks) → length cells ≤ i
      → lists_in nodes cells ≡ (if are_reached marks nodes then Some front else None)
  unfolding lists_in
  all_walked front marks i inv past = ap (λ (o : Option AllWalked). option_and_then (lists_if_reached nodes) o)
      (inv ∙ ap (λ (cs : List CellRecord). after_lists front (walk_all nodes cs marks)) (drop_all i cells past)
      ∙ ap (λ (l : List (List Waiter)). Some (record { lists = l; marks = marks })) (append-nil front))
