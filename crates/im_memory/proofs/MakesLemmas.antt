-- A table, an arena and windows go on making a memory.
use Rattle.std.proofs.Common.{◌≡◌, ℕ, zero, suc, ◌*◌, ◌≤◌, List, [], ◌∷◌, length, set, replicate, IfErr, OnOk}
use Rattle.std.proofs.Common.{slice_get, None, Ok, Err, Option, Result, sym, refl, ap, ◌∙◌, subst, arith}
use Rattle.std.proofs.lemmas.List.{length-replicate}
use Rattle.im_types.specs.Types.{Waiter, Request, Asks, Confirm, Fresh, Refusal, MAX_CELLS, MAX_ELEMENTS, WINDOW, Held}
use Rattle.im_types.specs.Types.{Window, Contents, new_window, empty_contents, IsMemory, Acted as ActedCells, act}
use Rattle.im_types.specs.Types.{judge, note, answer_each, confirm_window, asker, serve, step_request, step_confirm}
use Rattle.im_types.specs.Types.{step}
use Rattle.im_laws.proofs.{MemoryLemmas.empty-memory, MemoryLemmas.step-memory, StepLemmas.judge-fresh}
use Rattle.{im_arena.specs.Lists.Shown, im_cell.specs.declared.Slot.Slot, im_istore.proofs.Blocks.Agree-start}
use Rattle.im_istore.specs.{Agreement.Agree, Joined.cells_of, Joined.joined_cells}
use Rattle.im_memory.proofs.{AnswerLemmas.act-ready, CellsLemmas.length-cells}
use Rattle.im_memory.specs.{declared.acts.Acted.Acted, MakesMemory.contents_of, MakesMemory.MakesMemory}
use Rattle.im_memory.specs.Resuming.{AreAwaited, HasActed, replies_of}

-- the counts of a memory are those of its table and windows
own-IsMemory : (cells elements : ℕ) (slots : List (Option Slot)) (arena : Shown) (windows : List Window)
    → IsMemory cells elements (contents_of slots arena windows)
    → IsMemory (length slots) (length windows) (contents_of slots arena windows)
own-IsMemory cells elements slots arena windows is = record {
  cell_count = length-cells slots arena;
  window_count = refl;
  blocks = is.blocks;
  windows = is.windows;
  agrees = is.agrees;
}

module _ (slots : List (Option Slot)) (arena : Shown) (windows : List Window)
    (makes : MakesMemory slots arena windows) where
  abbrev was : Contents
  was = contents_of slots arena windows

  -- a step keeps the memory one
  stays : (slots' : List (Option Slot)) (arena' : Shown) (windows' : List Window) → Agree slots' arena'
      → IsMemory (length slots) (length windows) (contents_of slots' arena' windows')
      → arena'.held.nodes ≡ arena.held.nodes → MakesMemory slots' arena' windows'
  stays slots' arena' windows' agree is nodes =
      let cells = sym (length-cells slots' arena') ∙ is.cell_count in
      let elements = is.window_count in
      record {
        agree = agree;
        memory = own-IsMemory (length slots) (length windows) slots' arena' windows' is;
        some_cell = omega (arith, makes.some_cell);
        few_cells = omega (arith, makes.few_cells);
        few_elements = omega (arith, makes.few_elements);
        nodes = nodes ∙ makes.nodes ∙ ap (λ n. WINDOW * n) (sym elements);
      }

  -- after a new request
  module _ (r : Request) (fresh : judge windows r ≡ Ok Fresh) (acted : Acted) (slots' : List (Option Slot))
      (arena' : Shown) (has : HasActed slots' arena' acted (act (cells_of slots arena) (asker r) r.op)) where
    abbrev done : ActedCells
    done = act (cells_of slots arena) (asker r) r.op

    -- those that it resumes wait
    pub resumed-awaited : AreAwaited (note windows r acted.entry) (replies_of acted.resumed arena')
    resumed-awaited =
        subst (λ replies. AreAwaited (note windows r acted.entry) replies) (sym has.replies)
        (subst (λ entry. AreAwaited (note windows r entry) done.resumed) (sym has.told)
        (act-ready windows (cells_of slots arena) r (judge-fresh windows r fresh) makes.memory.agrees))

    module _ (arena'' : Shown) (windows' : List Window) (left : cells_of slots' arena'' ≡ cells_of slots' arena')
        (answered : windows' ≡ answer_each (note windows r acted.entry) (replies_of acted.resumed arena')) where
      pub served-contents : contents_of slots' arena'' windows' ≡ (serve was r done).contents
      served-contents =
          let cells = left ∙ has.cells in
          let kept = answered
          ∙ ap (λ entry. answer_each (note windows r entry) (replies_of acted.resumed arena')) has.told
          ∙ ap (answer_each (note windows r done.entry)) has.replies in
          λ i. record { cells = cells i; windows = kept i }

      pub makes-served : Agree slots' arena'' → arena''.held.nodes ≡ arena.held.nodes
          → MakesMemory slots' arena'' windows'
      makes-served agree nodes =
          stays slots' arena'' windows' agree
          (subst (IsMemory (length slots) (length windows))
          (ap (λ j. (step_request was r j).contents) fresh ∙ sym served-contents)
          (step-memory (length slots) (length windows) was (Asks r) makes.memory))
          nodes

  -- after a confirmation, or one that was refused
  module _ (element upto : ℕ) (result : Result (Unit {0}) Refusal) (windows' : List Window)
      (ok : OnOk result ((w : Window) × (confirm_window upto (slice_get windows element) ≡ Ok w)
      × (windows' ≡ set windows element w)))
      (err : IfErr result
      (λ refusal. (confirm_window upto (slice_get windows element) ≡ Err refusal) × (windows' ≡ windows))) where
    confirmed-contents : contents_of slots arena windows' ≡ (step was (Confirm element upto)).contents
    confirmed-contents = by_result result ok err
      where
        by_result : (result : Result (Unit {0}) Refusal)
            → OnOk result
            ((w : Window) × (confirm_window upto (slice_get windows element) ≡ Ok w)
            × (windows' ≡ set windows element w))
            → IfErr result
            (λ refusal. (confirm_window upto (slice_get windows element) ≡ Err refusal) × (windows' ≡ windows))
            → contents_of slots arena windows' ≡ (step was (Confirm element upto)).contents
        by_result (Ok u) ok err = ap (contents_of slots arena) ok.2
            ∙ sym (ap (λ c. (step_confirm was element c).contents) ok.1)
        by_result (Err refusal) ok err = ap (contents_of slots arena) err.1
            ∙ sym (ap (λ c. (step_confirm was element c).contents) err.0)

    pub makes-confirmed : MakesMemory slots arena windows'
    makes-confirmed =
        stays slots arena windows' makes.agree
        (subst (IsMemory (length slots) (length windows)) (sym confirmed-contents)
        (step-memory (length slots) (length windows) was (Confirm element upto) makes.memory))
        refl

-- nothing in any block, and nobody waits
joined-replicate : (n : ℕ) → joined_cells (replicate n None) (replicate n []) ≡ replicate n None
joined-replicate zero = refl
joined-replicate (suc n) = ap (λ cells. None ∷ cells) (joined-replicate n)

module _ (cells elements : ℕ) (arena : Shown) (lists : arena.held.lists ≡ replicate cells []) where
  pub contents_of-empty : contents_of (replicate cells None) arena (replicate elements new_window)
      ≡ empty_contents cells elements
  unfolding empty_contents
  contents_of-empty =
      ap (λ (cells : List
      (Option Held)). let m : Contents = record { cells = cells; windows = replicate elements new_window } in m)
      (ap (λ (lists : List (List Waiter)). joined_cells (replicate cells None) lists) lists ∙ joined-replicate cells)

  pub makes-empty : 1 ≤ cells → cells ≤ MAX_CELLS → elements ≤ MAX_ELEMENTS → arena.held.nodes ≡ WINDOW * elements
      → MakesMemory (replicate cells None) arena (replicate elements new_window)
  makes-empty some_cell few_cells few_elements nodes =
      let c = length-replicate cells (none_of Slot) in
      let e = length-replicate elements new_window in
      record {
        agree = Agree-start cells arena lists;
        memory = own-IsMemory cells elements (replicate cells None) arena (replicate elements new_window)
            (subst (IsMemory cells elements) (sym contents_of-empty) (empty-memory cells elements));
        some_cell = omega arith;
        few_cells = omega arith;
        few_elements = omega arith;
        nodes = nodes ∙ ap (λ n. WINDOW * n) (sym e);
      }
    where
      none_of : (X : Type 0) → Option X
      none_of X = None
