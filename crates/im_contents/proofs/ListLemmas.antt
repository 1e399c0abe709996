-- The walks over the lists of all cells, and the marks at their end.
use Rattle.std.proofs.Common.{◌≡◌, ℕ, suc, ◌+◌, ◌≤◌, Bool, true, false, not, List, [], ◌∷◌, length, replicate, Some}
use Rattle.std.proofs.Common.{None, Option, option_and_then, sym, refl, ap, ◌∙◌, subst, ⊎_elim, arith}
use Rattle.std.proofs.lemmas.List.{length-replicate, Sums.count_by-le-length}
use Rattle.im_types.specs.Types.{Waiter, NONE, CellRecord, NodeRecord, TagEmpty, TagWaiting, TagFull, TagClashed}
use Rattle.im_types.specs.Types.{FreeCell, BlockCell, HasNoChain, HasChain, HaveChains, uses, all_uses, is_listed}
use Rattle.im_types.specs.Types.{ShowLists}
use Rattle.im_contents.proofs.MarkLemmas.{bit_few, bool_cases, marked, marked-none, marks_reached, node_at, none_some}
use Rattle.im_contents.proofs.MarkLemmas.{reached_marks, some_same, unless, unmarked, when}
use Rattle.im_contents.proofs.WalkLemmas.{walk_complete, walk_sound}
use Rattle.im_contents.specs.Walk.{after_list, AllWalked, are_reached, lists_if_reached, lists_in, walk, walk_all}
use Rattle.im_contents.specs.Walk.{walk_cell, Walked}

module _ {A B : Type 0} where
  pub record Then (f : A → Option B) (o : Option A) (y : B) : Type 0 where
    pub value : A
    pub is : o ≡ Some value
    pub gives : f value ≡ Some y

  pub then_some : (f : A → Option B) (o : Option A) (y : B) → option_and_then f o ≡ Some y → Then f o y
  then_some f None y e = absurd (none_some y e)
  then_some f (Some x) y e = record { value = x; is = refl; gives = e }

record CellTrail (nodes : List NodeRecord) (cell : CellRecord) (marks : List Bool) (w : Walked) : Type 0 where
  pub chain : List ℕ
  pub has : HasChain nodes cell chain w.waiters
  pub size : length w.marks ≡ length marks
  pub counts : (n : ℕ) → uses n chain + marked marks n ≡ marked w.marks n

module _ (nodes : List NodeRecord) where
  -- where nobody waits
  record NoTrail (marks : List Bool) (w : Walked) : Type 0 where
    pub none : w.waiters ≡ []
    pub same : w.marks ≡ marks

  no_trail : (marks : List Bool) (w : Walked) → Some (record { waiters = []; marks = marks }) ≡ Some w → NoTrail marks w
  no_trail marks w e =
      let same : record { waiters = []; marks = marks } ≡ w = some_same (record { waiters = []; marks = marks }) w e in
      subst (λ (x : Walked). NoTrail marks x) same (record { none = refl; same = refl })

  module _ (cell : CellRecord) (marks : List Bool) (w : Walked)
      (nobody : HasNoChain [] w.waiters → HasChain nodes cell [] w.waiters) (t : NoTrail marks w) where
    empty_trail : CellTrail nodes cell marks w
    empty_trail = record {
      chain = [];
      has = nobody (refl, t.none);
      size = ap length t.same;
      counts = λ n. let same : marked w.marks n
          ≡ marked marks n = ap (λ (m : List Bool). marked m n) t.same in omega arith;
    }

  cell_sound : (cell : CellRecord) (marks : List Bool) (w : Walked) → length marks ≡ length nodes
      → walk_cell nodes cell marks ≡ Some w → CellTrail nodes cell marks w
  unfolding walk_cell
  cell_sound (FreeCell hole next) marks w size e = empty_trail (FreeCell hole next) marks w (λ h. h)
      (no_trail marks w e)
  cell_sound (BlockCell block TagEmpty) marks w size e = empty_trail (BlockCell block TagEmpty) marks w (λ h. h)
      (no_trail marks w e)
  cell_sound (BlockCell block (TagWaiting first last)) marks w size e =
      let t = walk_sound nodes last (length nodes) marks first w size e in
      record { chain = t.chain; has = t.is; size = t.size; counts = t.counts }
  cell_sound (BlockCell block (TagFull v)) marks w size e = empty_trail (BlockCell block (TagFull v)) marks w
      (λ h. h) (no_trail marks w e)
  cell_sound (BlockCell block (TagClashed v)) marks w size e = empty_trail (BlockCell block (TagClashed v)) marks w
      (λ h. h) (no_trail marks w e)

record CellDone (nodes : List NodeRecord) (cell : CellRecord) (marks : List Bool) (chain : List ℕ)
    (waiters : List Waiter) : Type 0 where
  pub walked : Walked
  pub is : walk_cell nodes cell marks ≡ Some walked
  pub waiters_are : walked.waiters ≡ waiters
  pub size : length walked.marks ≡ length marks
  pub counts : (n : ℕ) → uses n chain + marked marks n ≡ marked walked.marks n

nothing : 1 ≤ 0 → ⊥
nothing h = omega arith

module _ (nodes : List NodeRecord) (few : length nodes ≤ NONE) where
  nobody_waits : (cell : CellRecord) (marks : List Bool) (chain : List ℕ) (waiters : List Waiter)
      → walk_cell nodes cell marks ≡ Some (record { waiters = []; marks = marks })
      → HasNoChain chain waiters → CellDone nodes cell marks chain waiters
  nobody_waits cell marks chain waiters is has = record {
    walked = record { waiters = []; marks = marks };
    is = is;
    waiters_are = sym has.1;
    size = refl;
    counts = λ n. ap (λ (c : List ℕ). uses n c + marked marks n) has.0 ∙ zero_more (marked marks n);
  }
    where
      zero_more : (k : ℕ) → 0 + k ≡ k
      zero_more k = omega arith

  cell_complete : (cell : CellRecord) (marks : List Bool) (chain : List ℕ) (waiters : List Waiter) → length marks
      ≡ length nodes
      → HasChain nodes cell chain waiters → ((n : ℕ) → uses n chain + marked marks n ≤ 1)
      → CellDone nodes cell marks chain waiters
  unfolding walk_cell
  cell_complete (FreeCell hole next) marks chain waiters size has once = nobody_waits
      (FreeCell hole next) marks chain waiters refl has
  cell_complete (BlockCell block TagEmpty) marks chain waiters size has once = nobody_waits
      (BlockCell block TagEmpty) marks chain waiters refl has
  cell_complete (BlockCell block (TagWaiting first last)) marks [] waiters size has once = absurd (nothing has.some)
  cell_complete (BlockCell block (TagWaiting first last)) marks (at ∷ chain) waiters size has once =
      let room : unmarked marks ≤ length nodes = le_of (count_by-le-length not marks) size in
      let done = walk_complete nodes few (length nodes) marks at chain waiters size has.holds once room in
      record {
        walked = done.walked;
        is = ap (λ (a : ℕ). walk nodes last (length nodes) marks a) (sym has.first_is)
            ∙ ap (λ (l : ℕ). walk nodes l (length nodes) marks at) (sym has.last_is) ∙ done.is;
        waiters_are = done.waiters_are;
        size = done.size;
        counts = done.counts;
      }
    where
      le_of : {a b c : ℕ} → a ≤ b → b ≡ c → a ≤ c
      le_of h e = omega arith
  cell_complete (BlockCell block (TagFull v)) marks chain waiters size has once = nobody_waits
      (BlockCell block (TagFull v)) marks chain waiters refl has
  cell_complete (BlockCell block (TagClashed v)) marks chain waiters size has once = nobody_waits
      (BlockCell block (TagClashed v)) marks chain waiters refl has

record Trails (nodes : List NodeRecord) (cells : List CellRecord) (marks : List Bool) (r : AllWalked) : Type 0 where
  pub chains : List (List ℕ)
  pub have : HaveChains nodes cells chains r.lists
  pub size : length r.marks ≡ length marks
  pub counts : (n : ℕ) → all_uses n chains + marked marks n ≡ marked r.marks n

record WithList (waiters : List Waiter) (o : Option AllWalked) (r : AllWalked) : Type 0 where
  pub rest : AllWalked
  pub is : o ≡ Some rest
  pub whole : record { lists = waiters ∷ rest.lists; marks = rest.marks } ≡ r

with_list_some : (waiters : List Waiter) (o : Option AllWalked) (r : AllWalked) → after_list waiters o ≡ Some r
    → WithList waiters o r
with_list_some waiters None r e = absurd (none_some r e)
with_list_some waiters (Some x) r e = record {
  rest = x;
  is = refl;
  whole = some_same
      (record { lists = waiters ∷ x.lists; marks = x.marks }) r e;
}

walk_all_sound : (nodes : List NodeRecord) (cells : List CellRecord) (marks : List Bool) (r : AllWalked)
    → length marks ≡ length nodes → walk_all nodes cells marks ≡ Some r → Trails nodes cells marks r
walk_all_sound nodes [] marks r size e =
    subst (λ (x : AllWalked). Trails nodes [] marks x) (some_same (record { lists = []; marks = marks }) r e)
    (record { chains = []; have = tt; size = refl; counts = λ n. omega arith })
walk_all_sound nodes (cell ∷ cells) marks r size e =
    let first = then_some (λ w. after_list w.waiters (walk_all nodes cells w.marks)) (walk_cell nodes cell marks) r e in
    let w : Walked = first.value in
    let t = cell_sound nodes cell marks w size first.is in
    let more = with_list_some w.waiters (walk_all nodes cells w.marks) r first.gives in
    let rest = walk_all_sound nodes cells w.marks more.rest (t.size ∙ size) more.is in
    subst (λ (x : AllWalked). Trails nodes (cell ∷ cells) marks x) more.whole
    (record {
      chains = t.chain ∷ rest.chains;
      have = (t.has, rest.have);
      size = rest.size ∙ t.size;
      counts = λ n. let here = t.counts n in let later = rest.counts n in omega arith;
    })

record AllDone (nodes : List NodeRecord) (cells : List CellRecord) (marks : List Bool) (chains : List (List ℕ))
    (lists : List (List Waiter)) : Type 0 where
  pub walked : AllWalked
  pub is : walk_all nodes cells marks ≡ Some walked
  pub lists_are : walked.lists ≡ lists
  pub size : length walked.marks ≡ length marks
  pub counts : (n : ℕ) → all_uses n chains + marked marks n ≡ marked walked.marks n

module _ (nodes : List NodeRecord) (few : length nodes ≤ NONE) where
  walk_all_complete : (cells : List CellRecord) (marks : List Bool) (chains : List (List ℕ))
      (lists : List (List Waiter)) → length marks ≡ length nodes
      → HaveChains nodes cells chains lists → ((n : ℕ) → all_uses n chains + marked marks n ≤ 1)
      → AllDone nodes cells marks chains lists
  walk_all_complete [] marks [] [] size have once =
      record {
        walked = record { lists = []; marks = marks };
        is = refl;
        lists_are = refl;
        size = refl;
        counts = λ n. omega arith;
      }
  walk_all_complete [] marks [] (waiters ∷ lists) size have once = absurd have
  walk_all_complete [] marks (chain ∷ chains) [] size have once = absurd have
  walk_all_complete [] marks (chain ∷ chains) (waiters ∷ lists) size have once = absurd have
  walk_all_complete (cell ∷ cells) marks [] [] size have once = absurd have
  walk_all_complete (cell ∷ cells) marks [] (waiters ∷ lists) size have once = absurd have
  walk_all_complete (cell ∷ cells) marks (chain ∷ chains) [] size have once = absurd have
  walk_all_complete (cell ∷ cells) marks (chain ∷ chains) (waiters ∷ lists) size have once =
      let here = cell_complete nodes few cell marks chain waiters size have.0 (λ n. let o = once n in omega arith) in
      let w : Walked = here.walked in
      let later = walk_all_complete cells w.marks chains lists (here.size ∙ size) have.1
      (λ n. let o = once n in let h = here.counts n in omega arith) in
      record {
        walked = record { lists = w.waiters ∷ later.walked.lists; marks = later.walked.marks };
        is = ap (λ (o : Option Walked). option_and_then
            (λ v. after_list v.waiters (walk_all nodes cells v.marks)) o) here.is
            ∙ ap (λ (o : Option AllWalked). after_list w.waiters o) later.is;
        lists_are = ap (λ (l : List Waiter). l ∷ later.walked.lists) here.waiters_are
            ∙ ap (λ (l : List (List Waiter)). waiters ∷ l) later.lists_are;
        size = later.size ∙ here.size;
        counts = λ n. let h = here.counts n in let l = later.counts n in omega arith;
      }

module _ (nodes : List NodeRecord) (cells : List CellRecord) (lists : List (List Waiter)) where
  abbrev no_marks : List Bool
  no_marks = replicate (length nodes) false

  -- the lists that the walks find are shown
  pub lists_in_sound : lists_in nodes cells ≡ Some lists → ShowLists nodes cells lists
  unfolding lists_in
  lists_in_sound e =
      let a = then_some (lists_if_reached nodes) (walk_all nodes cells no_marks) lists e in
      let r : AllWalked = a.value in
      let size = length-replicate (length nodes) false in
      let t = walk_all_sound nodes cells no_marks r size a.is in
      ⊎_elim
      (λ (good : are_reached r.marks nodes ≡ true).
      let same : r.lists ≡ lists = some_same r.lists lists
      (sym (when (are_reached r.marks nodes) (Some r.lists) None good) ∙ a.gives) in
      record {
        chains = t.chains;
        have = subst (λ (l : List (List Waiter)). HaveChains nodes cells t.chains l) same t.have;
        once = λ n. let counts = t.counts n in let none = marked-none
            (length nodes) n in let reached = reached_marks r.marks nodes (t.size ∙ size) good n in omega arith;
      })
      (λ (bad : are_reached r.marks nodes ≡ false). absurd
      (none_some lists (sym (unless (are_reached r.marks nodes) (Some r.lists) None bad) ∙ a.gives)))
      (bool_cases (are_reached r.marks nodes))

  -- lists that are shown are found
  pub lists_in_complete : length nodes ≤ NONE → ShowLists nodes cells lists → lists_in nodes cells ≡ Some lists
  unfolding lists_in
  lists_in_complete few shows =
      let size = length-replicate (length nodes) false in
      let done = walk_all_complete nodes few cells no_marks shows.chains lists size shows.have
      (λ n. let none = marked-none (length nodes) n in let o = shows.once n in let l = bit_few
      (is_listed (node_at nodes n)) in omega arith) in
      let r : AllWalked = done.walked in
      let reached = marks_reached r.marks nodes (done.size ∙ size)
      (λ n. let none = marked-none
      (length nodes) n in let o = shows.once n in let c = done.counts n in omega arith) in
      ap (λ (o : Option AllWalked). option_and_then (lists_if_reached nodes) o) done.is
      ∙ when (are_reached r.marks nodes) (Some r.lists) None reached
      ∙ ap (λ (l : List (List Waiter)). Some l) done.lists_are

-- lists that are shown are the only ones
pub lists_unique : (nodes : List NodeRecord) (cells : List CellRecord) (lists others : List (List Waiter))
    → length nodes ≤ NONE
    → ShowLists nodes cells lists → ShowLists nodes cells others → lists ≡ others
lists_unique nodes cells lists others few shown also =
    some_same lists others
    (sym (lists_in_complete nodes cells lists few shown) ∙ lists_in_complete nodes cells others few also)

-- where the walks find no lists, none are shown
pub no_lists : (nodes : List NodeRecord) (cells : List CellRecord) → length nodes ≤ NONE → lists_in nodes cells ≡ None
    → (lists : List (List Waiter)) → ShowLists nodes cells lists → ⊥
no_lists nodes cells few none lists shown = none_some lists (sym none ∙ lists_in_complete nodes cells lists few shown)

-- each cell has a list
pub length-lists : (nodes : List NodeRecord) (cells : List CellRecord) (chains : List (List ℕ))
    (lists : List (List Waiter)) → HaveChains nodes cells chains lists → length lists ≡ length cells
length-lists nodes [] [] [] have = refl
length-lists nodes [] [] (waiters ∷ lists) have = absurd have
length-lists nodes [] (chain ∷ chains) [] have = absurd have
length-lists nodes [] (chain ∷ chains) (waiters ∷ lists) have = absurd have
length-lists nodes (cell ∷ cells) [] [] have = absurd have
length-lists nodes (cell ∷ cells) [] (waiters ∷ lists) have = absurd have
length-lists nodes (cell ∷ cells) (chain ∷ chains) [] have = absurd have
length-lists nodes (cell ∷ cells) (chain ∷ chains) (waiters ∷ lists) have = ap suc
    (length-lists nodes cells chains lists have.1)
