-- What the members of a group leave of a cell, and of a request that nobody asked yet.
use Rattle.std.proofs.Common.{◌≡◌, ℕ, Bool, true, false, ◌&&◌, List, [], ◌∷◌, ◌++◌, if◌then◌else◌, ◌==◌, Some, None, Ok}
use Rattle.std.proofs.Common.{Err, Option, Result, sym, refl, ap, ◌∙◌, ⊎_elim}
use Rattle.std.specs.List.{list_any}
use Rattle.im_types.specs.Types.{Kind, Op, Waiter, Alloc, Release, Reset, Fetch, Store, Take, Put, WrongKind, Request}
use Rattle.im_types.specs.Types.{Command, Outcome, Judged, Asks, Confirm, Fresh, Repeat, Refusal, JournalFull}
use Rattle.im_types.specs.Types.{CellState, Held, Window, Contents, held_at, kept_for, IsMemory, ServedCell as Served}
use Rattle.im_types.specs.Types.{only_tells, same_kind, serve_cell, at_cell, act, judge, note, confirm_window, asker}
use Rattle.im_types.specs.Types.{step_request, step_confirm, step, is_fresh, is_accepted}
use Rattle.im_laws.{proofs.AcceptLemmas.accepted-fresh, specs.Cells.MayChange}
use Rattle.im_laws.proofs.{CellLemmas.step-other, EntryLemmas.judge-repeat, StepLemmas.judge-fresh}
use Rattle.im_laws.proofs.Tests.{or_left, or_right, some_none, test-self, true_false}
use Rattle.im_groups.specs.Commands.{answer_with, contents_after_all, contents_with, left_after, places_behind}
use Rattle.im_dialogue.proofs.StepLemmas.{confirm_leaves, none_answers, noted, with_either, with_memory}
use Rattle.im_dialogue.specs.Firsts.{asks_for, may_reach, reaches}

-- ---- a member more behind others

pub contents_behind : (m : Contents) (left : ℕ) (cs : List Command) (c : Command)
    → contents_after_all m left (cs ++ c ∷ []) ≡ contents_with (contents_after_all m left cs) (left_after m left cs) c
contents_behind m left [] c = refl
contents_behind m left (d ∷ cs) c = contents_behind (contents_with m left d) (places_behind m left d) cs c

-- ---- a request that nobody asked yet

none_step : (cells elements : ℕ) (m : Contents) (c : Command) (who : Waiter) → IsMemory cells elements m
    → is_accepted m c ≡ true → asks_for who c ≡ false → kept_for m.windows who ≡ None
    → kept_for (step m c).contents.windows who ≡ None
none_step cells elements m (Confirm element upto) who is accepted asks none =
    ⊎_elim (λ same. same ∙ none) (λ e. e) (confirm_leaves m element upto who)
none_step cells elements m (Asks r) who is accepted asks none =
    let fresh = accepted-fresh m r accepted in
    let entry = (act m.cells (asker r) r.op).entry in
    ap (λ j. kept_for (step_request m r j).contents.windows who) fresh
    ∙ none_answers (note m.windows r entry) (act m.cells (asker r) r.op).resumed who
    (noted cells elements m is r (judge-fresh m.windows r fresh) who asks entry ∙ none)

pub none_after : (cells elements : ℕ) (m : Contents) (left : ℕ) (cs : List Command) (who : Waiter)
    → IsMemory cells elements m
    → list_any (asks_for who) cs ≡ false → kept_for m.windows who ≡ None
    → kept_for (contents_after_all m left cs).windows who ≡ None
none_after cells elements m left [] who is asks none = none
none_after cells elements m left (c ∷ cs) who is asks none =
    none_after cells elements (contents_with m left c) (places_behind m left c) cs who
    (with_memory m left c cells elements is)
    (or_right (asks_for who c) (list_any (asks_for who) cs) asks)
    (⊎_elim
    (λ same. ap (λ (n : Contents). kept_for n.windows who) same ∙ none)
    (λ on. ap (λ (n : Contents). kept_for n.windows who) on.1
    ∙ none_step cells elements m c who is on.0 (or_left (asks_for who c) (list_any (asks_for who) cs) asks) none)
    (with_either m left c))

-- where nothing is kept for a request, it is accepted if it is served
served_accepted : (m : Contents) (r : Request) (o : Outcome) → kept_for m.windows (asker r) ≡ None
    → (step m (Asks r)).answer ≡ Ok o → is_accepted m (Asks r) ≡ true
served_accepted m r o none is = by_judged (judge m.windows r) refl is
  where
    by_judged : (j : Result Judged Refusal) → judge m.windows r ≡ j → (step_request m r j).answer ≡ Ok o
        → is_fresh j ≡ true
    by_judged (Ok Fresh) e is = refl
    by_judged (Ok (Repeat entry)) e is = absurd (some_none _ (sym (judge-repeat m.windows r entry e) ∙ none))
    by_judged (Err refusal) e is = absurd (cc)

pub told_accepted : (m : Contents) (left : ℕ) (r : Request) (o : Outcome) → kept_for m.windows (asker r) ≡ None
    → answer_with m left (Asks r) ≡ Ok o → is_accepted m (Asks r) ≡ true
told_accepted m left r o none is = by_test (is_accepted m (Asks r)) refl is
  where
    by_test : (b : Bool) → is_accepted m (Asks r) ≡ b
        → (if b && (left == 0) then Err JournalFull else (step m (Asks r)).answer) ≡ Ok o
        → is_accepted m (Asks r) ≡ true
    by_test true e is = e
    by_test false e is = served_accepted m r o none is

-- ---- a cell that no member reaches

unreached : (op : Op) (a : ℕ) (cells : List (Option Held)) → reaches a op ≡ false → MayChange op cells a → ⊥
unreached (Alloc kind n) a cells e may = true_false e
unreached (Release b) a cells e may = true_false e
unreached (Reset b) a cells e may = true_false e
unreached (Fetch b) a cells e may = true_false (sym (ap (λ n. b == n) may ∙ test-self b) ∙ e)
unreached (Store b v) a cells e may = true_false (sym (ap (λ n. b == n) may ∙ test-self b) ∙ e)
unreached (Take b) a cells e may = true_false (sym (ap (λ n. b == n) may ∙ test-self b) ∙ e)
unreached (Put b v) a cells e may = true_false (sym (ap (λ n. b == n) may ∙ test-self b) ∙ e)

cell_step : (cells elements : ℕ) (m : Contents) (c : Command) (a : ℕ) → IsMemory cells elements m
    → may_reach a c ≡ false → held_at (step m c).contents.cells a ≡ held_at m.cells a
cell_step cells elements m (Asks r) a is away = step-other m r a is.blocks (unreached r.op a m.cells away)
cell_step cells elements m (Confirm element upto) a is away = by_result (confirm_window upto _)
  where
    by_result : (o : Result Window Refusal) → held_at (step_confirm m element o).contents.cells a ≡ held_at m.cells a
    by_result (Err refusal) = refl
    by_result (Ok now) = refl

pub cell_after : (cells elements : ℕ) (m : Contents) (left : ℕ) (cs : List Command) (a : ℕ) → IsMemory cells elements m
    → list_any (may_reach a) cs ≡ false → held_at (contents_after_all m left cs).cells a ≡ held_at m.cells a
cell_after cells elements m left [] a is away = refl
cell_after cells elements m left (c ∷ cs) a is away =
    cell_after cells elements (contents_with m left c) (places_behind m left c) cs a
    (with_memory m left c cells elements is)
    (or_right (may_reach a c) (list_any (may_reach a) cs) away)
    ∙ ⊎_elim
    (λ same. ap (λ (n : Contents). held_at n.cells a) same)
    (λ on. ap (λ (n : Contents). held_at n.cells a) on.1
    ∙ cell_step cells elements m c a is (or_left (may_reach a c) (list_any (may_reach a) cs) away))
    (with_either m left c)

-- who is resumed at a cell, is told by that cell
resumed_alike : (kind : Kind) (serve : CellState → Served) (cells now : List (Option Held)) (a : ℕ) (o : Option Held)
    → (at_cell kind serve cells a o).resumed ≡ (at_cell kind serve now a o).resumed
resumed_alike kind serve cells now a None = refl
resumed_alike kind serve cells now a (Some held) = by_kind (same_kind kind held.block.kind)
  where
    by_kind : (b : Bool) →
        (if b then serve_cell cells a held.block (serve held.state) else only_tells cells WrongKind).resumed
        ≡ (if b then serve_cell now a held.block (serve held.state) else only_tells now WrongKind).resumed
    by_kind true = refl
    by_kind false = refl

pub resumed_here : (kind : Kind) (serve : CellState → Served) (cells now : List (Option Held)) (a : ℕ)
    → held_at now a ≡ held_at cells a
    → (at_cell kind serve now a (held_at now a)).resumed ≡ (at_cell kind serve cells a (held_at cells a)).resumed
resumed_here kind serve cells now a same = ap (λ o. (at_cell kind serve now a o).resumed) same
    ∙ resumed_alike kind serve now cells a (held_at cells a)
