-- A step keeps a memory a memory.
use Rattle.std.proofs.Common.{◌≡◌, ℕ, zero, suc, ◌+◌, ◌≤◌, max, List, [], ◌∷◌, length, replicate, slice_get, Some, None}
use Rattle.std.proofs.Common.{Ok, Err, Option, Result, option_map, sym, refl, ap, ◌∙◌, subst, arith, length-set}
use Rattle.std.proofs.lemmas.List.{length-replicate}
use Rattle.im_types.specs.Types.{Reply, Waiter, Block, Command, Judged, Asks, Confirm, Fresh, Repeat, Refusal, WINDOW}
use Rattle.im_types.specs.Types.{LAST, Held, Window, Contents, new_window, block_at, HasBlocks, empty_contents}
use Rattle.im_types.specs.Types.{IsWindow, IsMemory, act, judge, note, answer, answer_each, confirm_window, bounds_of}
use Rattle.im_types.specs.Types.{bounds, asker, step_request, step_confirm, step, after}
use Rattle.im_laws.proofs.{AcceptLemmas.same_bounds, Tests.some_none, Tests.some_same}
use Rattle.im_laws.proofs.BlockLemmas.{act-blocks, length-act}
use Rattle.im_laws.proofs.BoundsLemmas.{BoundsMove, Grows, Rises, Stays, step-moves}
use Rattle.im_laws.proofs.RunAgrees.{empty-agrees, no_cell, step-agrees}

-- cells
pub step-blocks : (m : Contents) (command : Command) → HasBlocks m.cells → HasBlocks (step m command).contents.cells
step-blocks m (Asks r) blocks = by_judged (judge m.windows r)
  where
    by_judged : (j : Result Judged Refusal) → HasBlocks (step_request m r j).contents.cells
    by_judged (Err refusal) = blocks
    by_judged (Ok (Repeat entry)) = blocks
    by_judged (Ok Fresh) = act-blocks m.cells blocks (asker r) r.op
step-blocks m (Confirm element upto) blocks = by_result (confirm_window upto (slice_get m.windows element))
  where
    by_result : (c : Result Window Refusal) → HasBlocks (step_confirm m element c).contents.cells
    by_result (Err refusal) = blocks
    by_result (Ok window) = blocks

pub after-blocks : (m : Contents) (commands : List Command) → HasBlocks m.cells → HasBlocks (after m commands).cells
after-blocks m [] blocks = blocks
after-blocks m (command ∷ commands) blocks = after-blocks (step m command).contents commands
    (step-blocks m command blocks)

pub step-cell_count : (m : Contents) (command : Command) → length (step m command).contents.cells ≡ length m.cells
step-cell_count m (Asks r) = by_judged (judge m.windows r)
  where
    by_judged : (j : Result Judged Refusal) → length (step_request m r j).contents.cells ≡ length m.cells
    by_judged (Err refusal) = refl
    by_judged (Ok (Repeat entry)) = refl
    by_judged (Ok Fresh) = length-act m.cells (asker r) r.op
step-cell_count m (Confirm element upto) = by_result (confirm_window upto (slice_get m.windows element))
  where
    by_result : (c : Result Window Refusal) → length (step_confirm m element c).contents.cells ≡ length m.cells
    by_result (Err refusal) = refl
    by_result (Ok window) = refl

-- windows
length-answer_each : (windows : List Window) (replies : List (Waiter × Reply)) → length (answer_each windows replies)
    ≡ length windows
length-answer_each windows [] = refl
length-answer_each windows (r ∷ replies) = length-answer_each (answer windows r.0 r.1) replies
    ∙ length-set windows r.0.element _

pub step-window_count : (m : Contents) (command : Command) → length (step m command).contents.windows ≡ length m.windows
step-window_count m (Asks r) = by_judged (judge m.windows r)
  where
    by_judged : (j : Result Judged Refusal) → length (step_request m r j).contents.windows ≡ length m.windows
    by_judged (Err refusal) = refl
    by_judged (Ok (Repeat entry)) = refl
    by_judged (Ok Fresh) =
        let acted = act m.cells (asker r) r.op in
        length-answer_each (note m.windows r acted.entry) acted.resumed ∙ length-set m.windows r.element _
step-window_count m (Confirm element upto) = by_result (confirm_window upto (slice_get m.windows element))
  where
    by_result : (c : Result Window Refusal) → length (step_confirm m element c).contents.windows ≡ length m.windows
    by_result (Err refusal) = refl
    by_result (Ok window) = length-set m.windows element window

-- the window that has these bounds
pub record HasWindow (windows : List Window) (element base next : ℕ) : Type 0 where
  pub window : Window
  pub there : slice_get windows element ≡ Some window
  pub base_is : window.base ≡ base
  pub next_is : window.base + length window.kept ≡ next

pub bounds-window : (windows : List Window) (element base next : ℕ) → bounds windows element ≡ Ok (base, next)
    → HasWindow windows element base next
bounds-window windows element base next e = by_window (slice_get windows element) refl e
  where
    by_window : (o : Option Window) → slice_get windows element ≡ o → bounds_of o ≡ Ok (base, next)
        → HasWindow windows element base next
    by_window None at b = absurd (cc)
    by_window (Some w) at b = let are = same_bounds w.base
        (w.base + length w.kept) base next b in record { window = w; there = at; base_is = are.0; next_is = are.1 }

-- a window is one by its bounds alone
bounds-IsWindow : (v w : Window) → v.base ≡ w.base → v.base + length v.kept ≡ w.base + length w.kept → IsWindow v
    → IsWindow w
bounds-IsWindow v w base next is =
    let one = is.from_one in
    let few = is.few in
    let last = is.to_last in
    record { from_one = omega arith; few = omega arith; to_last = omega arith }

pub step-windows : (m : Contents) (command : Command)
    → ((element : ℕ) (w : Window) → slice_get m.windows element ≡ Some w → IsWindow w)
    → (element : ℕ) (w : Window) → slice_get (step m command).contents.windows element ≡ Some w → IsWindow w
step-windows m command are element w at = by_move (step-moves m command element)
  where
    now : bounds (step m command).contents.windows element ≡ Ok (w.base, w.base + length w.kept)
    now = ap bounds_of at

    by_move : BoundsMove (bounds m.windows element) (bounds (step m command).contents.windows element) → IsWindow w
    by_move (Stays same) =
        let was = bounds-window m.windows element w.base (w.base + length w.kept) (sym same ∙ now) in
        bounds-IsWindow was.window w was.base_is was.next_is (are element was.window was.there)
    by_move (Grows base next before after room last) =
        let was = bounds-window m.windows element base next before in
        let is = are element was.window was.there in
        let one = is.from_one in
        let base_was = was.base_is in
        let now_is = same_bounds w.base (w.base + length w.kept) base (next + 1) (sym now ∙ after) in
        let base_now = now_is.0 in
        let next_now = now_is.1 in
        record { from_one = omega arith; few = omega arith; to_last = omega arith }
    by_move (Rises base next upto before after reached) =
        let was = bounds-window m.windows element base next before in
        let is = are element was.window was.there in
        let one = is.from_one in
        let few = is.few in
        let last = is.to_last in
        let base_was = was.base_is in
        let next_was = was.next_is in
        let now_is = same_bounds w.base (w.base + length w.kept) (max base upto) next (sym now ∙ after) in
        let base_now = now_is.0 in
        let next_now = now_is.1 in
        record { from_one = omega arith; few = omega arith; to_last = omega arith }

-- memories
pub step-memory : (cells elements : ℕ) (m : Contents) (command : Command) → IsMemory cells elements m
    → IsMemory cells elements (step m command).contents
step-memory cells elements m command is = record {
  cell_count = step-cell_count m command ∙ is.cell_count;
  window_count = step-window_count m command ∙ is.window_count;
  blocks = step-blocks m command is.blocks;
  windows = step-windows m command is.windows;
  agrees = step-agrees m command is.agrees;
}

pub after-memory : (cells elements : ℕ) (m : Contents) (commands : List Command) → IsMemory cells elements m
    → IsMemory cells elements (after m commands)
after-memory cells elements m [] is = is
after-memory cells elements m (command ∷ commands) is = after-memory cells elements
    (step m command).contents commands (step-memory cells elements m command is)

only_new : (n element : ℕ) (w : Window) → slice_get (replicate n new_window) element ≡ Some w → new_window ≡ w
only_new zero element w e = absurd (cc)
only_new (suc n) zero w e = some_same new_window w e
only_new (suc n) (suc element) w e = only_new n element w e

new-IsWindow : IsWindow new_window
new-IsWindow = record { from_one = let h : 1 ≤ 1 = omega arith in h; few = let h : 0 ≤ WINDOW = omega arith in h; to_last = let h : 1 + 0 ≤ LAST + 1 = omega arith in h }

pub empty-memory : (cells elements : ℕ) → IsMemory cells elements (empty_contents cells elements)
unfolding empty_contents
empty-memory cells elements = record {
  cell_count = length-replicate cells None;
  window_count = length-replicate elements new_window;
  blocks = record {
    within = λ a block is. absurd (no_block a block is);
    whole = λ a block is. absurd (no_block a block is);
  };
  windows = λ element w at. subst IsWindow (only_new elements element w at) new-IsWindow;
  agrees = empty-agrees cells elements;
}
  where
    no_block : (a : ℕ) (block : Block) → block_at (replicate cells None) a ≡ Some block → ⊥
    no_block a block is = some_none block
        (sym is ∙ ap (λ (o : Option Held). option_map (λ (held : Held). held.block) o) (no_cell cells a))
