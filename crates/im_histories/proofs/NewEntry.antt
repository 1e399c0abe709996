-- What is kept after a new request: its own entry, and the replies of those that it resumes.
use Rattle.std.proofs.Common.{◌≡◌, ℕ, zero, suc, ◌≤◌, Bool, true, false, cond, List, [], map, take, drop, ◌==◌, Some}
use Rattle.std.proofs.Common.{None, Option, option_map, sym, refl, ap, ◌∙◌, arith}
use Rattle.std.{proofs.lemmas.Option.none-some, specs.List.list_any}
use Rattle.im_types.specs.Types.{Entry, Kind, Op, Reply, Waiter, Block, Kept, Answered, I, M, Alloc, Release, Reset}
use Rattle.im_types.specs.Types.{Fetch, Store, Take, Put, BadLength, NoCell, WrongKind, Released, StillWaiting, Cleared}
use Rattle.im_types.specs.Types.{Request, Held, Window, Contents, held_at, kept_for, same_waiter, times, WaitingAgrees}
use Rattle.im_types.specs.Types.{place, fill, change_each, Acted, only_tells, same_kind, serve_cell, at_cell}
use Rattle.im_types.specs.Types.{allocate_at, allocate, block_with_base, is_waiting_cell, unless_waited_for, emptied}
use Rattle.im_types.specs.Types.{act, note, answer_each, asker}
use Rattle.im_histories.proofs.CellStep.{answered_by, answered_have_waited, given_by, resumed_by_serve, serve_op}
use Rattle.im_histories.proofs.Given.{AfterAnswers, answer_each-AfterAnswers, answered_kept, AreKept, IsNext}
use Rattle.im_histories.proofs.Given.{kept_for-next, kept_for-note, same_waiter-equal, same_waiter-self}
use Rattle.im_histories.proofs.OneStep.{contents_of, waiting_kept}

-- what is kept after a new request with an entry, which resumes some requests
module _ (windows : List Window) (r : Request) (fresh : IsNext windows r) (entry : Entry) (given : Reply)
    (answered : List Waiter) (were : AreKept windows answered) where
  abbrev windows_after : List Window
  windows_after = answer_each (note windows r entry) (map (λ w. (w, given)) answered)

  noted : (who : Waiter) → kept_for (note windows r entry) who
      ≡ cond (same_waiter who (asker r)) (Some (record { op = r.op; entry = entry })) (kept_for windows who)
  noted who = kept_for-note windows r entry fresh.window who fresh.there fresh.next

  noted-other : (who : Waiter) (k : Kept) → kept_for windows who ≡ Some k → kept_for (note windows r entry) who ≡ Some k
  noted-other who k is = noted who ∙ by_test (same_waiter who (asker r)) refl
    where
      by_test : (t : Bool) → same_waiter who (asker r) ≡ t
          → cond t (Some (record { op = r.op; entry = entry })) (kept_for windows who) ≡ Some k
      by_test true e = absurd
          (none-some k (sym (kept_for-next windows r fresh)
          ∙ ap (kept_for windows) (sym (same_waiter-equal who (asker r) e)) ∙ is))
      by_test false e = is

  still : AreKept (note windows r entry) answered
  still who some = let k = were who some in (k.0, noted-other who k.0 k.1)

  later : (who : Waiter) → AfterAnswers (note windows r entry) windows_after given answered who
  later who = answer_each-AfterAnswers (note windows r entry) given answered still who

  not_resumed : (n : ℕ) → times (asker r) answered ≡ n → times (asker r) answered ≡ 0
  not_resumed zero e = e
  not_resumed (suc n) e = let k = were (asker r) (omega arith) in absurd
      (none-some k.0 (sym (kept_for-next windows r fresh) ∙ k.1))

  -- its own entry
  own_kept : kept_for windows_after (asker r) ≡ Some (record { op = r.op; entry = entry })
  own_kept = (later (asker r)).stays (not_resumed (times (asker r) answered) refl) ∙ noted (asker r)
      ∙ ap (λ t. cond t (Some (record { op = r.op; entry = entry })) (kept_for windows (asker r)))
      (same_waiter-self (asker r))

  -- and the reply of each that it resumes
  resumed_kept : (who : Waiter) → 1 ≤ times who answered → (k : Kept) × (kept_for windows_after who ≡ Some k)
      × (k.entry ≡ Answered given)
  resumed_kept who some = let k = still who some in
      (answered_kept given k.0, (later who).given some ∙ ap (option_map (answered_kept given)) k.1, refl)

-- those that an operation resumes have waited
pub record Resumes (m : Contents) (acted : Acted) : Type 0 where
  pub given : Reply
  pub answered : List Waiter
  pub resumed : acted.resumed ≡ map (λ w. (w, given)) answered
  pub were : AreKept m.windows answered

module _ (m : Contents) (agrees : WaitingAgrees m) where
  nobody : (acted : Acted) → acted.resumed ≡ [] → Resumes m acted
  nobody acted none = record { given = NoCell; answered = []; resumed = none; were = λ who some. absurd (omega arith) }

  were_waiting : (op : Op) (a : ℕ) (held : Held) → held_at m.cells a ≡ Some held
      → AreKept m.windows (answered_by op held.state)
  were_waiting op a held at who some = let k = waiting_kept m agrees a held at who
      (answered_have_waited op held.state who some) in (k.0, k.1)

  at_served : (who : Waiter) (op : Op) (a : ℕ) (held : Held) → held_at m.cells a ≡ Some held
      → Resumes m (serve_cell m.cells a held.block (serve_op who op held.state))
  at_served who op a held at = record {
    given = given_by op;
    answered = answered_by op held.state;
    resumed = resumed_by_serve who op held.state;
    were = were_waiting op a held at;
  }

  resumes_at : (kind : Kind) (who : Waiter) (op : Op) (a : ℕ)
      → Resumes m (at_cell kind (serve_op who op) m.cells a (held_at m.cells a))
  resumes_at kind who op a = by_held (held_at m.cells a) refl
    where
      by_kind : (held : Held) → held_at m.cells a ≡ Some held → (t : Bool)
          → Resumes m (cond t (serve_cell m.cells a held.block (serve_op who op held.state))
          (only_tells m.cells WrongKind))
      by_kind held at true = at_served who op a held at
      by_kind held at false = nobody _ refl

      by_held : (o : Option Held) → held_at m.cells a ≡ o → Resumes m (at_cell kind (serve_op who op) m.cells a o)
      by_held None at = nobody _ refl
      by_held (Some held) at = by_kind held at (same_kind kind held.block.kind)

  resumes_allocate : (kind : Kind) (n : ℕ) → Resumes m (allocate m.cells kind n)
  resumes_allocate kind n = by_test (n == 0)
    where
      by_place : (o : Option ℕ) → Resumes m (allocate_at m.cells kind n o)
      by_place None = nobody _ refl
      by_place (Some base) = nobody _ refl

      by_test : (t : Bool)
          → Resumes m (cond t (only_tells m.cells BadLength) (allocate_at m.cells kind n (place n m.cells)))
      by_test true = nobody _ refl
      by_test false = by_place (place n m.cells)

  resumes_whole : (after : Block → List (Option Held)) (reply : Reply) (a : ℕ) (o : Option Block)
      → Resumes m (unless_waited_for after reply m.cells a o)
  resumes_whole after reply a None = nobody _ refl
  resumes_whole after reply a (Some block) = by_test (list_any is_waiting_cell (take block.length (drop a m.cells)))
    where
      by_test : (t : Bool)
          → Resumes m (cond t (only_tells m.cells StillWaiting)
          (record { cells = after block; entry = Answered reply; resumed = [] }))
      by_test true = nobody _ refl
      by_test false = nobody _ refl

  resumes : (who : Waiter) (op : Op) → Resumes m (act m.cells who op)
  resumes who (Alloc kind n) = resumes_allocate kind n
  resumes who (Release a) = resumes_whole (λ block. fill m.cells a block.length None) Released a
      (block_with_base a (held_at m.cells a))
  resumes who (Reset a) = resumes_whole (λ block. change_each emptied m.cells a block.length) Cleared a
      (block_with_base a (held_at m.cells a))
  resumes who (Fetch a) = resumes_at I who (Fetch a) a
  resumes who (Store a v) = resumes_at I who (Store a v) a
  resumes who (Take a) = resumes_at M who (Take a) a
  resumes who (Put a v) = resumes_at M who (Put a v) a

  -- the request's own entry is kept
  pub own_entry : (r : Request) → IsNext m.windows r → let acted = act m.cells (asker r) r.op in
      kept_for (contents_of m r acted).windows (asker r) ≡ Some (record { op = r.op; entry = acted.entry })
  own_entry r new =
      let some = resumes (asker r) r.op in
      ap (λ replies. kept_for (answer_each (note m.windows r (act m.cells (asker r) r.op).entry) replies)
      (asker r)) some.resumed
      ∙ own_kept m.windows r new (act m.cells (asker r) r.op).entry some.given some.answered some.were

  -- those that it resumes at a cell have its reply
  pub resumed_entry : (r : Request) → IsNext m.windows r → (a : ℕ) (held : Held) → held_at m.cells a ≡ Some held
      → act m.cells (asker r) r.op ≡ serve_cell m.cells a held.block (serve_op (asker r) r.op held.state)
      → (who : Waiter) → 1 ≤ times who (answered_by r.op held.state)
      → (k : Kept) × (kept_for (contents_of m r (act m.cells (asker r) r.op)).windows who ≡ Some k)
      × (k.entry ≡ Answered (given_by r.op))
  resumed_entry r new a held at acts who some =
      let served = serve_cell m.cells a held.block (serve_op (asker r) r.op held.state) in
      let k = resumed_kept m.windows r new served.entry (given_by r.op) (answered_by r.op held.state)
      (were_waiting r.op a held at) who some in (
        k.0,
        ap (λ (acted : Acted). kept_for (contents_of m r acted).windows who) acts
            ∙ ap (λ replies. kept_for (answer_each (note m.windows r served.entry) replies) who)
            (resumed_by_serve (asker r) r.op held.state)
            ∙ k.1,
        k.2,
      )
