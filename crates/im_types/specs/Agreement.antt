-- The requests that wait at a cell are those with a waiting entry for it. (Own.)
use Rattle.std.specs.Prelude.{◌≡◌, ℕ, suc, Bool, true, false, ◌&&◌, ◌⊎◌, List, [], ◌∷◌, if◌then◌else◌, nat_lt, ◌==◌}
use Rattle.std.specs.Prelude.{Some, None, Option}
use Rattle.im_types.specs.Contents.{Contents, Held, held_at, kept_for, waiters_at}
use Rattle.im_types.specs.declared.commands.Command.{Command, TheVariants.Confirm, TheVariants.Request as Asks}
use Rattle.im_types.specs.declared.operations.{Entry.TheVariants.Answered, Kept.Kept, Op.Op, Reply.Reply, Waiter.Waiter}
use Rattle.im_types.specs.declared.operations.Kind.{Kind, TheVariants.I, TheVariants.M}
use Rattle.im_types.specs.declared.operations.Op.TheVariants.{Alloc, Fetch, Put, Release, Reset, Store, Take}
use Rattle.im_types.specs.Window.{is_waiting, same_op}

-- whether two continuations are the same
abbrev pub same_waiter : Waiter → Waiter → Bool
same_waiter who other = (who.element == other.element) && (who.number == other.number)

-- how often a request stands in a list
abbrev pub times : Waiter → List Waiter → ℕ
times who [] = 0
times who (other ∷ others) = if same_waiter who other then suc (times who others) else times who others

-- the operation that a request at a cell of this kind waits with
abbrev pub awaiting : Kind → ℕ → Op
awaiting I a = Fetch a
awaiting M a = Take a

-- the entry is Waiting, for this operation
abbrev pub waits_for : Op → Option Kept → Bool
waits_for op None = false
waits_for op (Some kept) = same_op op kept.op && is_waiting kept

-- the entry is Waiting, for this cell
abbrev pub waits_in : ℕ → Option Held → Option Kept → Bool
waits_in a None kept = false
waits_in a (Some held) kept = waits_for (awaiting held.block.kind a) kept

-- an operation's address, or an allocation's length
abbrev pub address_of : Op → ℕ
address_of (Alloc kind n) = n
address_of (Release a) = a
address_of (Reset a) = a
address_of (Fetch a) = a
address_of (Store a v) = a
address_of (Take a) = a
address_of (Put a v) = a

-- the lists of waiters agree with the entries; `kept` gives the operation and the entry of each request
pub record WaitersAgree (cells : List (Option Held)) (kept : Waiter → Option Kept) : Type 0 where
  -- a request stands once in the list of the cell that its entry waits for, and in no other list
  pub listed : (who : Waiter) (a : ℕ)
      → times who (waiters_at cells a) ≡ (if waits_in a (held_at cells a) (kept who) then 1 else 0)
  -- each Waiting entry waits for the cell that it names
  pub somewhere : (who : Waiter) (k : Kept) → kept who ≡ Some k → is_waiting k ≡ true
      → waits_in (address_of k.op) (held_at cells (address_of k.op)) (Some k) ≡ true

-- the requests that wait at the cells of a memory are those with a waiting entry in its windows
abbrev pub WaitingAgrees : Contents → Type 0
WaitingAgrees m = WaitersAgree m.cells (kept_for m.windows)

-- an entry stays as it is, or one that was waiting is answered
abbrev pub StaysOrIsAnswered : Kept → Option Kept → Type 0
StaysOrIsAnswered k after =
    (after ≡ Some k) ⊎ ((reply : Reply) × (is_waiting k ≡ true)
    × (after ≡ Some (record { op = k.op; entry = Answered reply })))

-- a confirmation drops this entry
abbrev pub drops : Command → Waiter → Bool
drops (Asks r) who = false
drops (Confirm element upto) who = (who.element == element) && nat_lt who.number upto

-- each entry stays kept until it is confirmed
abbrev pub KeepsEntries : Contents → Command → Contents → Type 0
KeepsEntries m command next =
    (who : Waiter) (k : Kept) → kept_for m.windows who ≡ Some k
    → (drops command who ≡ true) ⊎ StaysOrIsAnswered k (kept_for next.windows who)
