-- A walk follows a chain, and each chain is walked.
use Rattle.std.proofs.Common.{◌≡◌, ℕ, zero, suc, ◌+◌, ◌<◌, ◌≤◌, Bool, true, false, List, [], ◌∷◌, ◌++◌, length, get_or}
use Rattle.std.proofs.Common.{set, if◌then◌else◌, ◌==◌, Some, None, Option, sym, refl, ap, ◌∙◌, subst, ⊎_elim, arith}
use Rattle.std.proofs.Common.{length-set, eq-eqb, ne_eqb, eqb-true}
use Rattle.im_types.specs.Types.{Waiter, NONE, NodeRecord, ListNode, FreeNode, first_of, last_of, ChainHolds, IsChain}
use Rattle.im_types.specs.Types.{uses}
use Rattle.im_contents.proofs.MarkLemmas.{bit_same, bool_cases, fresh_node, in_nodes, IsFresh, marked, marked-set}
use Rattle.im_contents.proofs.MarkLemmas.{node_at, none_some, not_marked, some_same, unless, unmarked, unmarked-set}
use Rattle.im_contents.proofs.MarkLemmas.{when}
use Rattle.im_contents.specs.Walk.{met_after, node_behind, unvisited_node, visit, walk, Walked}

-- the chain that a walk has followed: none of its nodes was marked, and all are now
pub record Trail (nodes : List NodeRecord) (marks : List Bool) (at last : ℕ) (w : Walked) : Type 0 where
  pub chain : List ℕ
  pub is : IsChain nodes at last chain w.waiters
  pub size : length w.marks ≡ length marks
  pub counts : (n : ℕ) → uses n chain + marked marks n ≡ marked w.marks n

last_of-cons : (node : ℕ) (chain : List ℕ) → 1 ≤ length chain → last_of (node ∷ chain) ≡ last_of chain
last_of-cons node [] some = absurd (none some)
  where
    none : 1 ≤ 0 → ⊥
    none h = omega arith
last_of-cons node (next ∷ chain) some = refl

record Behind (front : List Waiter) (rest : Option Walked) (w : Walked) : Type 0 where
  pub walked : Walked
  pub rest_is : rest ≡ Some walked
  pub is : record { waiters = front ++ walked.waiters; marks = walked.marks } ≡ w

behind_some : (front : List Waiter) (rest : Option Walked) (w : Walked) → met_after front rest ≡ Some w
    → Behind front rest w
behind_some front None w e = absurd (none_some w e)
behind_some front (Some v) w e = record {
  walked = v;
  rest_is = refl;
  is = some_same
      (record { waiters = front ++ v.waiters; marks = v.marks }) w e;
}

module _ (nodes : List NodeRecord) (last : ℕ) where
  -- at the last node
  ended : (marks : List Bool) (at next : ℕ) (who : Waiter) → length marks ≡ length nodes
      → IsFresh marks nodes at next who → next ≡ NONE → at ≡ last
      → Trail nodes marks at last (record { waiters = who ∷ []; marks = set marks at true })
  ended marks at next who size here ends at_last = record {
    chain = at ∷ [];
    is = record {
      some = omega arith;
      first_is = refl;
      last_is = at_last;
      holds =
          (here.node ∙ ap (λ (k : ℕ). ListNode k who) ends, tt);
    };
    size = length-set marks at true;
    counts = λ n. let more = marked-set marks at here.mark n in omega arith;
  }

  -- at a node before others
  went_on : (marks : List Bool) (at next : ℕ) (who : Waiter) (v : Walked) → length marks ≡ length nodes
      → IsFresh marks nodes at next who → Trail nodes (set marks at true) next last v
      → Trail nodes marks at last (record { waiters = who ∷ v.waiters; marks = v.marks })
  went_on marks at next who v size here t = record {
    chain = at ∷ t.chain;
    is = record {
      some = one_more t.chain;
      first_is = refl;
      last_is = last_of-cons at t.chain t.is.some ∙ t.is.last_is;
      holds = (here.node ∙ ap (λ (k : ℕ). ListNode k who) (sym t.is.first_is), t.is.holds);
    };
    size = t.size ∙ length-set marks at true;
    counts = λ n. let more = marked-set marks at here.mark n in let rest = t.counts n in omega arith;
  }
    where
      one_more : (c : List ℕ) → 1 ≤ length (at ∷ c)
      one_more c = omega arith

  module _ (most : ℕ) (ih : (m : List Bool) (a : ℕ) (v : Walked) → length m ≡ length nodes → walk nodes last most m a
      ≡ Some v → Trail nodes m a last v) where
    visited : (marks : List Bool) (at : ℕ) (w : Walked) → length marks ≡ length nodes → (f : NodeRecord)
        → unvisited_node marks nodes at ≡ f
        → visit last at (set marks at true) f (walk nodes last most (set marks at true) (node_behind f)) ≡ Some w
        → Trail nodes marks at last w
    visited marks at w size (FreeNode next) is e = absurd (none_some w e)
    visited marks at w size (ListNode next who) is e =
        let here = fresh_node marks nodes at next who is in
        let alone : Walked = record { waiters = who ∷ []; marks = set marks at true } in
        let rest : Option Walked = walk nodes last most (set marks at true) next in
        let at_end : Option Walked = if at == last then Some alone else None in
        ⊎_elim
        (λ (ends : (next == NONE) ≡ true).
        let e1 : at_end ≡ Some w = sym (when (next == NONE) at_end (met_after (who ∷ []) rest) ends) ∙ e in
        ⊎_elim
        (λ (good : (at == last) ≡ true).
        let same : alone ≡ w = some_same alone w (sym (when (at == last) (Some alone) None good) ∙ e1) in
        subst (λ (x : Walked). Trail nodes marks at last x) same
        (ended marks at next who size here (eqb-true next NONE ends) (eqb-true at last good)))
        (λ (bad : (at == last) ≡ false). absurd (none_some w (sym (unless (at == last) (Some alone) None bad) ∙ e1)))
        (bool_cases (at == last)))
        (λ (goes : (next == NONE) ≡ false).
        let e2 : met_after (who ∷ []) rest ≡ Some w =
        sym (unless (next == NONE) at_end (met_after (who ∷ []) rest) goes)
        ∙ e in
        let b = behind_some (who ∷ []) rest w e2 in
        subst (λ (x : Walked). Trail nodes marks at last x) b.is
        (went_on marks at next who b.walked size here
        (ih (set marks at true) next b.walked (length-set marks at true ∙ size) b.rest_is)))
        (bool_cases (next == NONE))

pub walk_sound : (nodes : List NodeRecord) (last most : ℕ) (marks : List Bool) (at : ℕ) (w : Walked) → length marks
    ≡ length nodes → walk nodes last most marks at ≡ Some w → Trail nodes marks at last w
walk_sound nodes last zero marks at w size e = absurd (none_some w e)
walk_sound nodes last (suc most) marks at w size e = visited nodes last most
    (λ m a v s h. walk_sound nodes last most m a v s h) marks at w size (unvisited_node marks nodes at) refl e

-- the walk over a chain
pub record Done (nodes : List NodeRecord) (last most : ℕ) (marks : List Bool) (at : ℕ) (chain : List ℕ)
    (waiters : List Waiter) : Type 0 where
  pub walked : Walked
  pub is : walk nodes last most marks at ≡ Some walked
  pub waiters_are : walked.waiters ≡ waiters
  pub size : length walked.marks ≡ length marks
  pub counts : (n : ℕ) → uses n chain + marked marks n ≡ marked walked.marks n

holds_nil : (nodes : List NodeRecord) (waiters : List Waiter) → ChainHolds nodes [] waiters → [] ≡ waiters
holds_nil nodes [] h = refl
holds_nil nodes (who ∷ waiters) h = absurd h

module _ (nodes : List NodeRecord) (few : length nodes ≤ NONE) where
  -- a node of the chain isn't marked yet
  unvisited : (marks : List Bool) (at : ℕ) (chain : List ℕ) (next : ℕ) (who : Waiter) → length marks ≡ length nodes
      → node_at nodes at ≡ ListNode next who
      → uses at (at ∷ chain) + marked marks at ≤ 1 → get_or marks at true ≡ false
  unvisited marks at chain next who size is once =
      let lt = in_nodes nodes at next who is in
      let one = bit_same at at refl in
      let none : marked marks at ≡ 0 = omega arith in
      not_marked marks at (omega arith) none

  -- the walk takes the node
  takes : (last most : ℕ) (marks : List Bool) (at next : ℕ) (who : Waiter) → get_or marks at true ≡ false
      → node_at nodes at ≡ ListNode next who
      → walk nodes last (suc most) marks at
      ≡ visit last at (set marks at true) (ListNode next who) (walk nodes last most (set marks at true) next)
  takes last most marks at next who open_mark is =
      let f : unvisited_node marks nodes at
      ≡ ListNode next who = unless (get_or marks at true) (FreeNode NONE) (node_at nodes at) open_mark ∙ is in
      ap (λ (r : NodeRecord). visit last at (set marks at true) r
      (walk nodes last most (set marks at true) (node_behind r))) f

  pub walk_complete : (most : ℕ) (marks : List Bool) (at : ℕ) (chain : List ℕ) (waiters : List Waiter) → length marks
      ≡ length nodes
      → ChainHolds nodes (at ∷ chain) waiters → ((n : ℕ) → uses n (at ∷ chain) + marked marks n ≤ 1)
      → unmarked marks ≤ most
      → Done nodes (last_of (at ∷ chain)) most marks at (at ∷ chain) waiters
  walk_complete most marks at chain [] size holds once room = absurd holds
  walk_complete zero marks at chain (who ∷ waiters) size holds once room =
      let mark = unvisited marks at chain (first_of chain) who size holds.0 (once at) in
      let less = unmarked-set marks at mark in
      absurd (omega arith)
  walk_complete (suc most) marks at [] (who ∷ waiters) size holds once room =
      let mark = unvisited marks at [] NONE who size holds.0 (once at) in
      let alone : Walked = record { waiters = who ∷ []; marks = set marks at true } in
      record {
        walked = alone;
        is = takes at most marks at NONE who mark holds.0
            ∙ when (NONE == NONE) (if at == at then Some alone else None)
            (met_after (who ∷ []) (walk nodes at most (set marks at true) NONE)) (eq-eqb NONE NONE refl)
            ∙ when (at == at) (Some alone) None (eq-eqb at at refl);
        waiters_are = ap (λ (l : List Waiter). who ∷ l) (holds_nil nodes waiters holds.1);
        size = length-set marks at true;
        counts = λ n. let more = marked-set marks at mark n in omega arith;
      }
  walk_complete (suc most) marks at (next ∷ chain) (who ∷ waiters) size holds once room =
      let mark = unvisited marks at (next ∷ chain) next who size holds.0 (once at) in
      let less = unmarked-set marks at mark in
      let done = walk_complete most (set marks at true) next chain waiters (length-set marks at true ∙ size) holds.1
      (λ n. let more = marked-set marks at mark n in let o = once n in omega arith) (omega arith) in
      let linked : next < length nodes = next_in chain waiters holds.1 in
      let last : ℕ = last_of (next ∷ chain) in
      let rest : Option Walked = walk nodes last most (set marks at true) next in
      record {
        walked = record { waiters = who ∷ done.walked.waiters; marks = done.walked.marks };
        is = takes last most marks at next who mark holds.0
            ∙ unless (next == NONE)
            (if at == last then Some (record { waiters = who ∷ []; marks = set marks at true }) else None)
            (met_after (who ∷ []) rest) (ne_eqb next NONE (λ e. omega arith))
            ∙ ap (λ (o : Option Walked). met_after (who ∷ []) o) done.is;
        waiters_are = ap (λ (l : List Waiter). who ∷ l) done.waiters_are;
        size = done.size ∙ length-set marks at true;
        counts = λ n. let more = marked-set marks at mark n in let d = done.counts n in omega arith;
      }
    where
      next_in : (c : List ℕ) (ws : List Waiter) → ChainHolds nodes (next ∷ c) ws → next < length nodes
      next_in c [] h = absurd h
      next_in c (w ∷ ws) h = in_nodes nodes next (first_of c) w h.0
