-- Windows: whether a request is new, a repeat or refused, and the entries that are kept. (Own.)
use Rattle.std.specs.Prelude.{ℕ, zero, suc, ◌+◌, ◌-◌, max, Bool, true, false, ◌&&◌, ◌||◌, List, [], ◌∷◌, ◌++◌, length}
use Rattle.std.specs.Prelude.{take, drop, if◌then◌else◌, nat_lt, ◌==◌, slice_get, slice_index_or, slice_set, Some, None}
use Rattle.std.specs.Prelude.{Ok, Err, Option, Result}
use Rattle.std.specs.List.{list_any}
use Rattle.im_types.specs.{Act.same_kind, declared.TheConstants.LAST, declared.TheConstants.WINDOW}
use Rattle.im_types.specs.Contents.{new_window, Window}
use Rattle.im_types.specs.declared.commands.Judged.{Judged, TheVariants.Fresh, TheVariants.Repeat}
use Rattle.im_types.specs.declared.{commands.Request.Request, refusals.Refusal.Refusal}
use Rattle.im_types.specs.declared.operations.Entry.{Entry, TheVariants.Answered, TheVariants.Waiting}
use Rattle.im_types.specs.declared.operations.{Kept.Kept, Op.Op, Reply.Reply, Waiter.Waiter}
use Rattle.im_types.specs.declared.operations.Op.TheVariants.{Alloc, Fetch, Put, Release, Reset, Store, Take}
use Rattle.im_types.specs.declared.refusals.Refusal.TheVariants.{Forgotten, Gap, Mismatch, NoElement, NotAnswered}
use Rattle.im_types.specs.declared.refusals.Refusal.TheVariants.{WindowFull}

-- the number of the next new request
abbrev pub next_number : Window → ℕ
next_number w = w.base + length w.kept

-- whether two operations are the same
abbrev pub same_op : Op → Op → Bool
same_op (Alloc kind n) (Alloc kind' n') = same_kind kind kind' && (n == n')
same_op (Release a) (Release a') = a == a'
same_op (Reset a) (Reset a') = a == a'
same_op (Fetch a) (Fetch a') = a == a'
same_op (Store a v) (Store a' v') = (a == a') && (v == v')
same_op (Take a) (Take a') = a == a'
same_op (Put a v) (Put a' v') = (a == a') && (v == v')
same_op op op' = false

-- a number at or above the base: it is kept, or new, or too far ahead, or one too many for the window
abbrev pub judge_number : Window → Request → Option Kept → Result Judged Refusal
judge_number w r (Some kept) = if same_op kept.op r.op then Ok (Repeat kept.entry) else Err Mismatch
judge_number w r None =
    if nat_lt (next_number w) r.number || nat_lt LAST r.number then Err Gap
    else if nat_lt (length w.kept) WINDOW then Ok Fresh else Err WindowFull

-- a number below the base is forgotten; without a window there is no such element
abbrev pub judge_window : Request → Option Window → Result Judged Refusal
judge_window r None = Err NoElement
judge_window r (Some w) =
    if nat_lt r.number w.base then Err Forgotten else judge_number w r (slice_get w.kept (r.number - w.base))

-- whether a request is new or a repeat, or why it is refused
abbrev pub judge : List Window → Request → Result Judged Refusal
judge windows r = judge_window r (slice_get windows r.element)

-- the windows after one of them changes
abbrev pub with_window : List Window → ℕ → (Window → Window) → List Window
with_window windows element change = slice_set windows element (change (slice_index_or windows element new_window))

-- an operation is kept after the others, with its entry
abbrev pub note_in : Op → Entry → Window → Window
note_in op entry w = record { base = w.base; kept = w.kept ++ record { op = op; entry = entry } ∷ [] }

-- a request is kept in the window of its element
abbrev pub note : List Window → Request → Entry → List Window
note windows r entry = with_window windows r.element (note_in r.op entry)

-- the entry at this place is answered
abbrev pub answer_at : ℕ → Reply → List Kept → List Kept
answer_at place reply [] = []
answer_at zero reply (k ∷ kept) = record { op = k.op; entry = Answered reply } ∷ kept
answer_at (suc place) reply (k ∷ kept) = k ∷ answer_at place reply kept

-- the entry under a number is answered
abbrev pub answer_in : ℕ → Reply → Window → Window
answer_in number reply w = record { base = w.base; kept = answer_at (number - w.base) reply w.kept }

-- the entry of a continuation is answered
abbrev pub answer : List Window → Waiter → Reply → List Window
answer windows who reply = with_window windows who.element (answer_in who.number reply)

-- each of these replies is kept as an answer
abbrev pub answer_each : List Window → List (Waiter × Reply) → List Window
answer_each windows [] = windows
answer_each windows (r ∷ replies) = answer_each (answer windows r.0 r.1) replies

-- whether an entry waits
abbrev pub is_waiting_entry : Entry → Bool
is_waiting_entry Waiting = true
is_waiting_entry (Answered reply) = false

-- whether the entry of a request waits
abbrev pub is_waiting : Kept → Bool
is_waiting k = is_waiting_entry k.entry

-- the window without the entries below a number, or why they can't be forgotten
abbrev pub confirm_window : ℕ → Option Window → Result Window Refusal
confirm_window upto None = Err NoElement
confirm_window upto (Some w) =
    if nat_lt (next_number w) upto then Err Gap
    else if list_any is_waiting (take (upto - w.base) w.kept) then Err NotAnswered
    else Ok (record { base = max w.base upto; kept = drop (upto - w.base) w.kept })

-- the entry that is kept under a number, or why there is none
abbrev pub ask_number : Option Kept → Result Entry Refusal
ask_number None = Err Gap
ask_number (Some kept) = Ok kept.entry

-- the entry that a window keeps under a number, or why there is none
abbrev pub ask_window : ℕ → Option Window → Result Entry Refusal
ask_window number None = Err NoElement
ask_window number (Some w) =
    if nat_lt number w.base then Err Forgotten else ask_number (slice_get w.kept (number - w.base))

-- the entry that is kept for a continuation, or why there is none
abbrev pub ask : List Window → Waiter → Result Entry Refusal
ask windows who = ask_window who.number (slice_get windows who.element)

-- the base of a window, and the number of its next new request
abbrev pub bounds_of : Option Window → Result (ℕ × ℕ) Refusal
bounds_of None = Err NoElement
bounds_of (Some w) = Ok (w.base, next_number w)

-- the base of an element's window and the number of its next new request, or why there is no window
abbrev pub bounds : List Window → ℕ → Result (ℕ × ℕ) Refusal
bounds windows element = bounds_of (slice_get windows element)
