-- The outcome of a request that is sent again. (Own.)
use Rattle.std.specs.Prelude.{◌≡◌, ◌⊎◌, List, IsFalse, Some, Ok, Err}
use Rattle.std.specs.List.{list_any}
use Rattle.im_types.specs.Types.{Entry, Reply, Waiter, Kept, Waiting, Answered, Request, Command, Asks, Tells, Refusal}
use Rattle.im_types.specs.Types.{Contents, kept_for, WaitingAgrees, StaysOrIsAnswered, drops, asker, step, accepted}
use Rattle.im_laws.specs.Windows.{IsForgotten}

-- the same entry, or an answer to what was waiting
abbrev pub IsSameOrAnswer : Entry → Entry → Type 0
IsSameOrAnswer before now = (now ≡ before) ⊎ ((reply : Reply) × (before ≡ Waiting) × (now ≡ Answered reply))

-- what was kept for a request is still kept, or is answered, or was confirmed
abbrev pub LastsOrIsForgotten : Contents → Waiter → Kept → Type 0
LastsOrIsForgotten m who k = IsForgotten m.windows who ⊎ StaysOrIsAnswered k (kept_for m.windows who)

-- what was kept for a request is still kept as it was, or was confirmed
abbrev pub IsKeptOrForgotten : Contents → Waiter → Kept → Type 0
IsKeptOrForgotten m who k = IsForgotten m.windows who ⊎ (kept_for m.windows who ≡ Some k)

-- this is kept for the request, in a memory whose waiters and entries agree
pub record IsKeptFor (m : Contents) (who : Waiter) (k : Kept) : Type 0 where
  pub agrees : WaitingAgrees m
  pub is : kept_for m.windows who ≡ Some k

-- none of these commands is accepted and drops what is kept for the request
abbrev pub NoneDrops : Contents → List Command → Waiter → Type 0
NoneDrops m commands who = IsFalse (list_any (λ command. drops command who) (accepted m commands))

-- the request is answered with this entry, and the memory stays as it is
abbrev pub IsTold : Contents → Request → Entry → Type 0
IsTold m r entry = step m (Asks r) ≡ record { answer = Ok (Tells entry); contents = m }

-- the request is refused, and the memory stays as it is
abbrev pub IsRefused : Contents → Request → Refusal → Type 0
IsRefused m r refusal = step m (Asks r) ≡ record { answer = Err refusal; contents = m }

-- the request is answered with its earlier entry, or with the answer that has come since, and the memory stays as it is
pub record IsToldAgain (m : Contents) (r : Request) (before : Entry) : Type 0 where
  pub entry : Entry
  pub since : IsSameOrAnswer before entry
  pub told : IsTold m r entry

-- a request that is sent again is answered again, unless it was confirmed
abbrev pub IsToldAgainOrForgotten : Contents → Request → Entry → Type 0
IsToldAgainOrForgotten m r before = IsForgotten m.windows (asker r) ⊎ IsToldAgain m r before
