-- Which cells an operation leaves.
use Rattle.std.proofs.Common.{◌≡◌, ℕ, ◌+◌, ◌<◌, ◌≤◌, Bool, true, false, cond, ◌≢◌, ◌⊎◌, List, [], take, drop, ◌==◌}
use Rattle.std.proofs.Common.{Some, None, Ok, Err, Option, Result, option_map, refl, ap, inl, inr, ⊎_elim, arith}
use Rattle.std.{proofs.lemmas.Bool.Decides.nat_tests, specs.List.list_any}
use Rattle.im_types.specs.Types.{Kind, Op, Reply, Waiter, Block, Answered, I, M, Alloc, Release, Reset, Fetch, Store}
use Rattle.im_types.specs.Types.{Take, Put, BadLength, WrongKind, Released, StillWaiting, Cleared, Request, Judged}
use Rattle.im_types.specs.Types.{Asks, Fresh, Repeat, Refusal, CellState, Held, Contents, held_at, block_at, HasBlocks}
use Rattle.im_types.specs.Types.{place, fill, change_each, ServedCell as Served, fetch, store, take_from, put}
use Rattle.im_types.specs.Types.{only_tells, same_kind, serve_cell, at_cell, new_cell, allocate_at, allocate}
use Rattle.im_types.specs.Types.{block_with_base, is_waiting_cell, unless_waited_for, release_block, emptied}
use Rattle.im_types.specs.Types.{reset_block, act, judge, asker, step_request, step}
use Rattle.im_laws.{proofs.AgreementLemmas.held_at-set, proofs.AgreementLemmas.held_at-within, specs.Cells.MayChange}
use Rattle.im_laws.proofs.PlaceLemmas.{get_or-change_each, get_or-fill, place-free}

module _ (cells : List (Option Held)) (b : ℕ) where
  at_cell-other : (kind : Kind) (f : CellState → Served) (a : ℕ) → b ≢ a
      → held_at (at_cell kind f cells a (held_at cells a)).cells b ≡ held_at cells b
  at_cell-other kind f a other = by_held (held_at cells a) refl
    where
      by_kind : (held : Held) → held_at cells a ≡ Some held → (t : Bool)
          → held_at (cond t (serve_cell cells a held.block (f held.state)) (only_tells cells WrongKind)).cells b
          ≡ held_at cells b
      by_kind held at true = ⊎_elim (λ h. absurd (other h.0)) (λ h. h.1)
          (held_at-set cells a b (Some (record { block = held.block; state = (f held.state).state }))
          (held_at-within cells a held at))
      by_kind held at false = refl

      by_held : (o : Option Held) → held_at cells a ≡ o → held_at (at_cell kind f cells a o).cells b ≡ held_at cells b
      by_held None at = refl
      by_held (Some held) at = by_kind held at (same_kind kind held.block.kind)

  allocate-other : (kind : Kind) (n : ℕ) → (held_at cells b ≡ None → ⊥) → held_at (allocate cells kind n).cells b
      ≡ held_at cells b
  allocate-other kind n other = by_test (n == 0)
    where
      by_place : (o : Option ℕ) → place n cells ≡ o → held_at (allocate_at cells kind n o).cells b ≡ held_at cells b
      by_place None e = refl
      by_place (Some base) e = ⊎_elim (λ same. same) (λ h. absurd (other (place-free n cells base e b h.0 h.1)))
          (get_or-fill cells base n (new_cell base n kind) b)

      by_test : (t : Bool)
          → held_at (cond t (only_tells cells BadLength) (allocate_at cells kind n (place n cells))).cells b
          ≡ held_at cells b
      by_test true = refl
      by_test false = by_place (place n cells) refl

  module _ (after : ℕ → Block → List (Option Held)) (reply : Reply)
      (left : (a : ℕ) (block : Block) → (held_at (after a block) b ≡ held_at cells b) ⊎ (a ≤ b)
      × (b < a + block.length)) where
    whole-other : HasBlocks cells → (a : ℕ) → ((block : Block) × (block_at cells b ≡ Some block) × (block.base ≡ a) → ⊥)
        → held_at (unless_waited_for (after a) reply cells a (block_with_base a (held_at cells a))).cells b
        ≡ held_at cells b
    whole-other blocks a other = by_held (held_at cells a) refl
      where
        by_waiting : (held : Held) → held_at cells a ≡ Some held → held.block.base ≡ a → (t : Bool)
            → held_at (cond t (only_tells cells StillWaiting)
            (record { cells = after a held.block; entry = Answered reply; resumed = [] })).cells b ≡ held_at cells b
        by_waiting held at base true = refl
        by_waiting held at base false = ⊎_elim
            (λ same. same)
            (λ h.
            let here : block_at cells a ≡ Some held.block = ap (option_map (λ (held : Held). held.block)) at in
            absurd (other (
              held.block,
              blocks.whole a held.block here b (let low = h.0 in omega arith)
                  (let high = h.1 in omega arith),
              base,
            )))
            (left a held.block)

        by_base : (held : Held) → held_at cells a ≡ Some held → (t : Bool) → (held.block.base == a) ≡ t
            → held_at (unless_waited_for (after a) reply cells a (cond t (Some held.block) None)).cells b
            ≡ held_at cells b
        by_base held at true e = let base : held.block.base
            ≡ a = grind (arith, nat_tests) in by_waiting held at base
            (list_any is_waiting_cell (take held.block.length (drop a cells)))
        by_base held at false e = refl

        by_held : (o : Option Held) → held_at cells a ≡ o
            → held_at (unless_waited_for (after a) reply cells a (block_with_base a o)).cells b ≡ held_at cells b
        by_held None at = refl
        by_held (Some held) at = by_base held at (held.block.base == a) refl

  release-other : HasBlocks cells → (a : ℕ) → ((block : Block) × (block_at cells b ≡ Some block) × (block.base ≡ a) → ⊥)
      → held_at (release_block cells a (block_with_base a (held_at cells a))).cells b ≡ held_at cells b
  release-other = whole-other (λ a block. fill cells a block.length None) Released
      (λ a block. ⊎_elim inl (λ h. inr (h.0, h.1)) (get_or-fill cells a block.length None b))

  reset-other : HasBlocks cells → (a : ℕ) → ((block : Block) × (block_at cells b ≡ Some block) × (block.base ≡ a) → ⊥)
      → held_at (reset_block cells a (block_with_base a (held_at cells a))).cells b ≡ held_at cells b
  reset-other = whole-other (λ a block. change_each emptied cells a block.length) Cleared
      (λ a block. ⊎_elim inl (λ h. inr (h.0, h.1)) (get_or-change_each emptied cells a block.length b))

  pub act-other : HasBlocks cells → (who : Waiter) (op : Op) → (MayChange op cells b → ⊥)
      → held_at (act cells who op).cells b ≡ held_at cells b
  act-other blocks who (Alloc kind n) other = allocate-other kind n other
  act-other blocks who (Release a) other = release-other blocks a other
  act-other blocks who (Reset a) other = reset-other blocks a other
  act-other blocks who (Fetch a) other = at_cell-other I (fetch who) a other
  act-other blocks who (Store a v) other = at_cell-other I (store v) a other
  act-other blocks who (Take a) other = at_cell-other M (take_from who) a other
  act-other blocks who (Put a v) other = at_cell-other M (put v) a other

pub step-other : (m : Contents) (r : Request) (b : ℕ) → HasBlocks m.cells → (MayChange r.op m.cells b → ⊥)
    → held_at (step m (Asks r)).contents.cells b ≡ held_at m.cells b
step-other m r b blocks other = by_judged (judge m.windows r)
  where
    by_judged : (j : Result Judged Refusal) → held_at (step_request m r j).contents.cells b ≡ held_at m.cells b
    by_judged (Err refusal) = refl
    by_judged (Ok (Repeat entry)) = refl
    by_judged (Ok Fresh) = act-other m.cells b blocks (asker r) r.op other
