-- The records of a table and an arena show their memory.
use Rattle.std.proofs.Common.{◌≡◌, ℕ, zero, suc, ◌<◌, ◌≤◌, ◌↔◌, List, [], ◌∷◌, length, get_or, slice_get}
use Rattle.std.proofs.Common.{slice_index_or, Some, None, Option, sym, refl, ap, ◌∙◌, subst, ⊎_elim, arith}
use Rattle.im_types.specs.Types.{Waiter, NONE, CellState, Window, IsMemory, Cell, CellEmpty as Empty}
use Rattle.im_types.specs.Types.{CellWaiting as Waiting, CellFull as Full, CellClashed as Clashed, Sizes, NodeRecord}
use Rattle.im_types.specs.Types.{FreeNode, HasChain, HaveChains, bit, all_uses, is_listed, ShowLists, state_shown}
use Rattle.im_types.specs.Types.{cell_shown, cells_shown, ShowsRecords}
use Rattle.im_laws.proofs.Tests.{below_or_from, zero_or_more}
use Rattle.{im_arena.specs.declared.Ends.Ends, im_istore.proofs.Cells.list_of}
use Rattle.im_arena.specs.Lists.{ends_at, first_in, free_record, IsThreaded, last_in, link_of, list_at, next_in}
use Rattle.im_arena.specs.Lists.{node_at, Shown, Threads}
use Rattle.im_cell.specs.{declared.Slot.Slot, Slots.cell_waits, Slots.is_waiting_slot, Slots.slot_at}
use Rattle.im_istore.specs.{Agreement.has_some, Joined.cells_of, Joined.held_of, Joined.joined_cells, Joined.state_of}
use Rattle.im_memory.proofs.CellsLemmas.{length-cells, no_list}
use Rattle.im_memory.proofs.ThreadLemmas.{chain_from, holds-chain, last-chain, length-chain, Listed, listed-at}
use Rattle.im_memory.proofs.ThreadLemmas.{place-chain, record-read, record_past}
use Rattle.im_memory.proofs.UseLemmas.{all_uses-at, all_uses-from, all_uses-once, IsAt, IsOnce}
use Rattle.im_memory.specs.MakesMemory.{contents_of, MakesMemory}
use Rattle.im_memory.specs.Shown.{cell_record, cell_records, records_of, tag_shown}

-- a list has ends exactly where somebody is on it
abbrev HasEnds : Option Ends → List Waiter → Type 0
HasEnds ends waiters = (ends ≡ None) ↔ (waiters ≡ [])

-- one cell
state-shown : (cell : Cell) (ends : Option Ends) (waiters : List Waiter) → cell_waits cell ≡ has_some waiters
    → HasEnds ends waiters → state_shown (tag_shown cell ends) waiters ≡ state_of cell waiters
state-shown Empty ends waiters agree has = let none = no_list waiters (sym agree) in ap
    (λ waiters. state_of Empty waiters) (sym none)
state-shown Waiting None waiters agree has = let none = has.0 refl in ap (λ waiters. state_of Waiting waiters)
    (sym none)
state-shown Waiting (Some ends) waiters agree has = refl
state-shown (Full v) ends waiters agree has = refl
state-shown (Clashed v) ends waiters agree has = refl

cell-shown : (slot : Option Slot) (ends : Option Ends) (waiters : List Waiter) → is_waiting_slot slot ≡ has_some waiters
    → HasEnds ends waiters → cell_shown (cell_record slot ends) waiters ≡ held_of slot waiters
cell-shown None ends waiters agree has = refl
cell-shown (Some slot) ends waiters agree has = ap
    (λ (state : CellState). Some (record { block = slot.block; state = state }))
    (state-shown slot.cell ends waiters agree has)

module _ (records : List NodeRecord) where
  abbrev next : ℕ → ℕ
  next n = link_of (slice_index_or records n free_record)

  abbrev chain_of : Option Ends → List Waiter → List ℕ
  chain_of ends waiters = chain_from next (first_in ends) waiters

  state-chain : (cell : Cell) (ends : Option Ends) (waiters : List Waiter) (slot : Slot) → cell_waits cell
      ≡ has_some waiters → HasEnds ends waiters
      → Threads records NONE (first_in ends) (last_in ends) waiters
      → HasChain records (cell_record (Some (record { block = slot.block; cell = cell })) ends)
      (chain_of ends waiters) waiters
  state-chain Empty ends waiters slot agree has t = let none = no_list waiters (sym agree) in
      (ap (chain_of ends) none, none)
  state-chain Waiting None waiters slot agree has t = let none = has.0 refl in (ap (chain_of None) none, none)
  state-chain Waiting (Some ends) [] slot agree has t = absurd (cc)
  state-chain Waiting (Some ends) (w ∷ ws) slot agree has t = record {
    some = omega arith;
    first_is = refl;
    last_is = last-chain records w ws NONE ends.first ends.last t;
    holds = holds-chain records (w ∷ ws) NONE ends.first ends.last t;
  }
  state-chain (Full v) ends waiters slot agree has t = let none = no_list waiters (sym agree) in
      (ap (chain_of ends) none, none)
  state-chain (Clashed v) ends waiters slot agree has t = let none = no_list waiters (sym agree) in
      (ap (chain_of ends) none, none)

  cell-chain : (slot : Option Slot) (ends : Option Ends) (waiters : List Waiter)
      → is_waiting_slot slot ≡ has_some waiters
      → HasEnds ends waiters
      → Threads records NONE (first_in ends) (last_in ends) waiters
      → HasChain records (cell_record slot ends) (chain_of ends waiters) waiters
  cell-chain None ends waiters agree has t = let none = no_list waiters (sym agree) in (ap (chain_of ends) none, none)
  cell-chain (Some slot) ends waiters agree has t = state-chain slot.cell ends waiters slot agree has t

  pub chains_of : List (Option Ends) → List (List Waiter) → List (List ℕ)
  chains_of [] lists = []
  chains_of (e ∷ ends) [] = []
  chains_of (e ∷ ends) (waiters ∷ lists) = chain_of e waiters ∷ chains_of ends lists

  -- what is known of each cell, its ends and its list
  record AreEach (slots : List (Option Slot)) (ends : List (Option Ends)) (lists : List (List Waiter)) : Type 0 where
    pub ends_count : length ends ≡ length lists
    pub lists_count : length lists ≡ length slots
    pub agree : (a : ℕ) → is_waiting_slot (slot_at slots a) ≡ has_some (list_of lists a)
    pub has : (a : ℕ) → a < length lists → HasEnds (slice_index_or ends a None) (list_of lists a)
    pub threads : (a : ℕ) → a < length lists
        → Threads records NONE (first_in (slice_index_or ends a None)) (last_in (slice_index_or ends a None))
        (list_of lists a)

  rest : (slot : Option Slot) (slots : List (Option Slot)) (e : Option Ends) (ends : List (Option Ends))
      (waiters : List Waiter) (lists : List (List Waiter))
      → AreEach (slot ∷ slots) (e ∷ ends) (waiters ∷ lists) → AreEach slots ends lists
  rest slot slots e ends waiters lists each = record {
    ends_count = omega (arith, each.ends_count);
    lists_count = omega (arith, each.lists_count);
    agree = λ a. each.agree (suc a);
    has = λ a lt. each.has (suc a) (omega arith);
    threads = λ a lt. each.threads (suc a) (omega arith);
  }

  cells-shown : (slots : List (Option Slot)) (ends : List (Option Ends)) (lists : List (List Waiter))
      → AreEach slots ends lists → joined_cells slots lists ≡ cells_shown (cell_records slots ends) lists
  cells-shown [] ends lists each = refl
  cells-shown (slot ∷ slots) ends [] each = absurd (omega (arith, each.lists_count))
  cells-shown (slot ∷ slots) [] (waiters ∷ lists) each = absurd (omega (arith, each.ends_count))
  cells-shown (slot ∷ slots) (e ∷ ends) (waiters ∷ lists) each =
      ap (λ held. held ∷ joined_cells slots lists)
      (sym (cell-shown slot e waiters (each.agree 0) (each.has 0 (omega arith))))
      ∙ ap (λ cells. cell_shown (cell_record slot e) waiters ∷ cells)
      (cells-shown slots ends lists (rest slot slots e ends waiters lists each))

  have-chains : (slots : List (Option Slot)) (ends : List (Option Ends)) (lists : List (List Waiter))
      → AreEach slots ends lists → HaveChains records (cell_records slots ends) (chains_of ends lists) lists
  unfolding chains_of
  have-chains [] [] [] each = tt
  have-chains [] [] (waiters ∷ lists) each = absurd (omega (arith, each.lists_count))
  have-chains [] (e ∷ ends) [] each = absurd (omega (arith, each.ends_count))
  have-chains [] (e ∷ ends) (waiters ∷ lists) each = absurd (omega (arith, each.lists_count))
  have-chains (slot ∷ slots) ends [] each = absurd (omega (arith, each.lists_count))
  have-chains (slot ∷ slots) [] (waiters ∷ lists) each = absurd (omega (arith, each.ends_count))
  have-chains (slot ∷ slots) (e ∷ ends) (waiters ∷ lists) each = (
    cell-chain slot e waiters (each.agree 0) (each.has 0 (omega arith))
        (each.threads 0 (omega arith)),
    have-chains slots ends lists (rest slot slots e ends waiters lists each),
  )

  length-chains : (ends : List (Option Ends)) (lists : List (List Waiter)) → length ends ≡ length lists
      → length (chains_of ends lists) ≡ length lists
  unfolding chains_of
  length-chains [] [] e = refl
  length-chains [] (waiters ∷ lists) e = absurd (omega arith)
  length-chains (x ∷ ends) [] e = refl
  length-chains (x ∷ ends) (waiters ∷ lists) e = ap suc (length-chains ends lists (omega arith))

  chain-at : (ends : List (Option Ends)) (lists : List (List Waiter)) → length ends ≡ length lists → (a : ℕ)
      → a < length lists → get_or (chains_of ends lists) a [] ≡ chain_of (slice_index_or ends a None) (list_of lists a)
  unfolding chains_of
  chain-at ends [] e a lt = absurd (omega arith)
  chain-at [] (waiters ∷ lists) e a lt = absurd (omega arith)
  chain-at (x ∷ ends) (waiters ∷ lists) e zero lt = refl
  chain-at (x ∷ ends) (waiters ∷ lists) e (suc a) lt = chain-at ends lists (omega arith) a (omega arith)

-- the chains of an arena
module _ (arena : Shown) (threaded : IsThreaded arena) where
  abbrev records_in : List NodeRecord
  records_in = arena.links.records

  abbrev pub all_chains : List (List ℕ)
  all_chains = chains_of records_in arena.links.ends arena.held.lists

  -- a place in the chains is a place on the lists
  record IsOn (n : ℕ) (a i : ℕ) : Type 0 where
    pub within : a < length arena.held.lists
    pub inside : i < length (list_at arena.held a)
    pub is : node_at arena.links a i ≡ n

  on-list : (n a i : ℕ) → a < length all_chains → i < length (get_or all_chains a [])
      → get_or (get_or all_chains a []) i 0 ≡ n → IsOn n a i
  on-list n a i la li e =
      let lt : a < length arena.held.lists = omega
      (arith, la, length-chains records_in arena.links.ends arena.held.lists threaded.list_count) in
      let same = chain-at records_in arena.links.ends arena.held.lists threaded.list_count a lt in
      let inside : i < length (list_at arena.held a) = omega (
        arith,
        li,
        ap length same,
        length-chain (next_in arena.links) (first_in (ends_at arena.links a))
            (list_at arena.held a),
      ) in
      record {
        within = lt;
        inside = inside;
        is = sym (ap (λ chain. get_or chain i 0) same
            ∙ place-chain (next_in arena.links) (first_in (ends_at arena.links a)) (list_at arena.held a) i inside) ∙ e;
      }

  in-chain : (n a i : ℕ) → a < length arena.held.lists → i < length (list_at arena.held a) → node_at arena.links a i
      ≡ n → IsAt n all_chains
  in-chain n a i la li e =
      let same = chain-at records_in arena.links.ends arena.held.lists threaded.list_count a la in
      record {
        chain = a;
        place = i;
        within = omega (arith, la, length-chains records_in arena.links.ends arena.held.lists threaded.list_count);
        inside = omega (
          arith,
          li,
          ap length same,
          length-chain (next_in arena.links)
              (first_in (ends_at arena.links a)) (list_at arena.held a),
        );
        is = ap (λ chain. get_or chain i 0) same
            ∙ place-chain (next_in arena.links) (first_in (ends_at arena.links a)) (list_at arena.held a) i li ∙ e;
      }

  once : (n : ℕ) → IsOnce n all_chains
  once n a b i j la lb li lj ea eb =
      let x = on-list n a i la li ea in
      let y = on-list n b j lb lj eb in
      threaded.once a b i j x.within y.within x.inside y.inside (x.is ∙ sym y.is)

  -- a node is on a list, or it is free
  pub data IsNode (n : ℕ) : Type 0 where
    On : Listed records_in n → all_uses n all_chains ≡ 1 → IsNode n
    Off : slice_get records_in n ≡ Some free_record → all_uses n all_chains ≡ 0 → IsNode n
    Past : length records_in ≤ n → all_uses n all_chains ≡ 0 → IsNode n

  pub each-node : (n : ℕ) → IsNode n
  each-node n = ⊎_elim
      (λ none. ⊎_elim
      (λ lt. Off (threaded.unreached n (omega (arith, lt, threaded.node_count))
      (λ a i la li e. let some = all_uses-from n all_chains (in-chain n a i la li e) in omega
      (arith, none, some))) none)
      (λ past. Past past none)
      (below_or_from n (length records_in)))
      (λ some.
      let at = all_uses-at n all_chains some in
      let on = on-list n at.chain at.place at.within at.inside at.is in
      let listed = listed-at records_in (list_at arena.held at.chain) NONE (first_in (ends_at arena.links at.chain))
      (last_in (ends_at arena.links at.chain)) (threaded.threads at.chain on.within) at.place on.inside in
      On (subst (Listed records_in) on.is listed) (omega (arith, some, all_uses-once n all_chains (once n))))
      (zero_or_more (all_uses n all_chains))

  uses-listed : (n : ℕ) → all_uses n all_chains ≡ bit (is_listed (slice_index_or records_in n (FreeNode NONE)))
  uses-listed n = by_node (each-node n)
    where
      by_node : IsNode n → all_uses n all_chains ≡ bit (is_listed (slice_index_or records_in n (FreeNode NONE)))
      by_node (On listed one) = one ∙ sym (ap (λ r. bit (is_listed r)) (record-read records_in n _ listed.there))
      by_node (Off free none) = none ∙ sym (ap (λ r. bit (is_listed r)) (record-read records_in n free_record free))
      by_node (Past past none) = none ∙ sym (ap (λ r. bit (is_listed r)) (record_past records_in n past))

-- a memory
module _ (slots : List (Option Slot)) (arena : Shown) (windows : List Window)
    (makes : MakesMemory slots arena windows) (threaded : IsThreaded arena) where
  each : AreEach arena.links.records slots arena.links.ends arena.held.lists
  each = record {
    ends_count = threaded.list_count;
    lists_count = makes.agree.lists;
    agree = makes.agree.each;
    has = threaded.empty;
    threads = threaded.threads;
  }

  show-lists : ShowLists (records_of slots arena windows).nodes (records_of slots arena windows).cells arena.held.lists
  show-lists = record {
    chains = all_chains arena threaded;
    have = have-chains arena.links.records slots arena.links.ends arena.held.lists each;
    once = uses-listed arena threaded;
  }

  pub shows-records : (s : Sizes) → s.cells ≡ length (cells_of slots arena) → s.elements ≡ length windows
      → ShowsRecords s (records_of slots arena windows) (contents_of slots arena windows)
  shows-records s cells elements = record {
    lists = arena.held.lists;
    chained = show-lists;
    cells = cells-shown arena.links.records slots arena.links.ends arena.held.lists each;
    windows = refl;
    memory = subst (λ n. IsMemory s.cells n (contents_of slots arena windows)) (sym elements)
        (subst (λ n. IsMemory n (length windows) (contents_of slots arena windows))
        (sym (cells ∙ length-cells slots arena)) makes.memory);
  }
