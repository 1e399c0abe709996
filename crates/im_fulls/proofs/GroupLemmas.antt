-- What stands before a request in a group leaves its change.
use Rattle.std.proofs.Common.{◌≡◌, ℕ, Bool, true, false, cond, ◌≢◌, List, [], ◌∷◌, Some, None, Option, sym, refl, ap}
use Rattle.std.proofs.Common.{◌∙◌, subst, ⊎_elim}
use Rattle.std.proofs.lemmas.Bool.{cases_eq}
use Rattle.im_types.specs.Types.{Kind, Op, Waiter, I, M, Alloc, Release, Reset, Fetch, Store, Take, Put, WrongKind}
use Rattle.im_types.specs.Types.{Request, Asks, CellState, Empty, Full, Clashed, Held, Contents, held_at}
use Rattle.im_types.specs.Types.{ServedCell as Served, fetch, store, take_from, put, only_tells, same_kind, serve_cell}
use Rattle.im_types.specs.Types.{at_cell, act, bounds, Stepped, asker, step_request, step, is_accepted, store_change}
use Rattle.im_types.specs.Types.{store_change_in, change_of, changes_at, Same}
use Rattle.im_laws.proofs.AcceptLemmas.{accepted-fresh, accepted-takes_next, unaccepted-leaves}
use Rattle.im_laws.proofs.{AgreementLemmas.held_at-set, AgreementLemmas.held_at-within, JudgeLemmas.accepted-next}
use Rattle.im_laws.proofs.{JudgeLemmas.next-accepted, OpLemmas.same_kind-equal, Tests.true_or_false}
use Rattle.im_fulls.specs.Groups.{after_requests, AreBefore, LeavesStores, MayPrecede}

-- what a store to an address would change, after an operation on a cell
module _ (cells : List (Option Held)) (a v : ℕ) where
  abbrev Keeps : List (Option Held) → Type 0
  Keeps now = store_change_in a v (held_at now a) ≡ store_change_in a v (held_at cells a)

  elsewhere : (kind : Kind) (f : CellState → Served) (b : ℕ) → b ≢ a
      → Keeps (at_cell kind f cells b (held_at cells b)).cells
  elsewhere kind f b other = by_held (held_at cells b) refl
    where
      by_kind : (held : Held) → held_at cells b ≡ Some held → (t : Bool)
          → Keeps (cond t (serve_cell cells b held.block (f held.state)) (only_tells cells WrongKind)).cells
      by_kind held at false = refl
      by_kind held at true = ⊎_elim
          (λ h. absurd (other (sym h.0)))
          (λ h. ap (store_change_in a v) h.1)
          (held_at-set cells b a (Some (record { block = held.block; state = (f held.state).state }))
          (held_at-within cells b held at))

      by_held : (o : Option Held) → held_at cells b ≡ o → Keeps (at_cell kind f cells b o).cells
      by_held None at = refl
      by_held (Some held) at = by_kind held at (same_kind kind held.block.kind)

  -- a cell that is served keeps what a store would change there
  here : (kind : Kind) (f : CellState → Served)
      → ((s : CellState) → cond (same_kind I kind) (store_change a v (f s).state) Same
      ≡ cond (same_kind I kind) (store_change a v s) Same)
      → Keeps (at_cell kind f cells a (held_at cells a)).cells
  here kind f same = by_held (held_at cells a) refl
    where
      by_kind : (held : Held) → held_at cells a ≡ Some held → (t : Bool) → same_kind kind held.block.kind ≡ t
          → store_change_in a v
          (held_at (cond t (serve_cell cells a held.block (f held.state)) (only_tells cells WrongKind)).cells a)
          ≡ store_change_in a v (Some held)
      by_kind held at false k = ap (store_change_in a v) at
      by_kind held at true k = ⊎_elim
          (λ h. ap (store_change_in a v) h.1
          ∙ subst (λ k. cond (same_kind I k) (store_change a v (f held.state).state) Same
          ≡ cond (same_kind I k) (store_change a v held.state) Same)
          (same_kind-equal kind held.block.kind k) (same held.state))
          (λ h. absurd (h.0 refl))
          (held_at-set cells a a (Some (record { block = held.block; state = (f held.state).state }))
          (held_at-within cells a held at))

      by_held : (o : Option Held) → held_at cells a ≡ o
          → store_change_in a v (held_at (at_cell kind f cells a o).cells a) ≡ store_change_in a v o
      by_held None at = ap (store_change_in a v) at
      by_held (Some held) at = by_kind held at (same_kind kind held.block.kind) refl

  fetch-keeps : (who : Waiter) (s : CellState) → store_change a v (fetch who s).state ≡ store_change a v s
  fetch-keeps who (Empty waiters) = refl
  fetch-keeps who (Full w) = refl
  fetch-keeps who (Clashed w) = refl

  by_place : (kind : Kind) (f : CellState → Served)
      → ((s : CellState) → cond (same_kind I kind) (store_change a v (f s).state) Same
      ≡ cond (same_kind I kind) (store_change a v s) Same)
      → (b : ℕ) → Keeps (at_cell kind f cells b (held_at cells b)).cells
  by_place kind f same b = ⊎_elim
      (λ e. subst (λ b. Keeps (at_cell kind f cells b (held_at cells b)).cells) (sym e) (here kind f same))
      (λ n. elsewhere kind f b n)
      (cases_eq b a)

  act-keeps : (who : Waiter) (op : Op) → LeavesStores a op → Keeps (act cells who op).cells
  act-keeps who (Alloc kind n) leaves = absurd leaves
  act-keeps who (Release b) leaves = absurd leaves
  act-keeps who (Reset b) leaves = absurd leaves
  act-keeps who (Fetch b) leaves = by_place I (fetch who) (fetch-keeps who) b
  act-keeps who (Store b w) leaves = elsewhere I (store w) b leaves
  act-keeps who (Take b) leaves = by_place M (take_from who) (λ s. refl) b
  act-keeps who (Put b w) leaves = by_place M (put w) (λ s. refl) b

-- so a later operation changes the same
change-kept : (cells : List (Option Held)) (who : Waiter) (earlier later : Op) → MayPrecede earlier later
    → change_of (act cells who earlier).cells later ≡ change_of cells later
change-kept cells who earlier (Alloc kind n) before = refl
change-kept cells who earlier (Release a) before = absurd before
change-kept cells who earlier (Reset a) before = absurd before
change-kept cells who earlier (Fetch a) before = refl
change-kept cells who earlier (Store a v) before = act-keeps cells a v who earlier before
change-kept cells who earlier (Take a) before = refl
change-kept cells who earlier (Put a v) before = refl

module _ (m : Contents) (e r : Request) (other : r.element ≢ e.element) where
  -- the bounds of other windows stay
  bounds-kept : bounds (step m (Asks e)).contents.windows r.element ≡ bounds m.windows r.element
  bounds-kept = ⊎_elim
      (λ accepted. (accepted-takes_next m e accepted).others r.element other)
      (λ refused. ap (λ (m : Contents). bounds m.windows r.element) (unaccepted-leaves m (Asks e) refused))
      (true_or_false (is_accepted m (Asks e)))

  accepted-kept : is_accepted (step m (Asks e)).contents (Asks r) ≡ is_accepted m (Asks r)
  accepted-kept = ⊎_elim
      (λ yes. let n = accepted-next m r yes in
      next-accepted (step m (Asks e)).contents r
      (record { base = n.base; are = bounds-kept ∙ n.are; room = n.room; to_last = n.to_last }) ∙ sym yes)
      (λ no. ⊎_elim
      (λ yes. let n = accepted-next (step m (Asks e)).contents r yes in
      yes ∙ sym (next-accepted m r
      (record { base = n.base; are = sym bounds-kept ∙ n.are; room = n.room; to_last = n.to_last })))
      (λ also. also ∙ sym no)
      (true_or_false (is_accepted (step m (Asks e)).contents (Asks r))))
      (true_or_false (is_accepted m (Asks r)))

  step-keeps_change : MayPrecede e.op r.op → changes_at (step m (Asks e)).contents (Asks r) ≡ changes_at m (Asks r)
  step-keeps_change before =
      ap (λ t. cond t (change_of (step m (Asks e)).contents.cells r.op ∷ []) []) accepted-kept
      ∙ ap (λ change. cond (is_accepted m (Asks r)) (change ∷ []) []) change
    where
      change : change_of (step m (Asks e)).contents.cells r.op ≡ change_of m.cells r.op
      change = ⊎_elim
          (λ accepted. ap (λ (s : Stepped). change_of s.contents.cells r.op)
          (ap (step_request m e) (accepted-fresh m e accepted)) ∙ change-kept m.cells (asker e) e.op r.op before)
          (λ refused. ap (λ (m : Contents). change_of m.cells r.op) (unaccepted-leaves m (Asks e) refused))
          (true_or_false (is_accepted m (Asks e)))

pub group-changes : (m : Contents) (earlier : List Request) (r : Request) → AreBefore earlier r
    → changes_at (after_requests m earlier) (Asks r) ≡ changes_at m (Asks r)
group-changes m [] r before = refl
group-changes m (e ∷ earlier) r before = group-changes (step m (Asks e)).contents earlier r before.1
    ∙ step-keeps_change m e r before.0.0 before.0.1
