-- A receipt, or an entry that was found, and the files that a crash may leave from its time on. (Own.)
use Rattle.std.specs.Prelude.{◌≡◌, ℕ, ◌≤◌, ◌⊎◌, List, ◌∷◌, ◌++◌, length, Ok}
use Rattle.im_types.specs.Types.{Entry, Waiter, Request, Command, Line, Contents, ask, after}
use Rattle.im_laws.specs.{Entries.IsSameOrAnswer, Entries.IsToldAgainOrForgotten, Windows.IsForgotten}
use Rattle.im_disk.specs.{declared.Disk.Ghosts, Moment.LeftSince}
use Rattle.{im_session.specs.Kept.MeansPut, im_session.specs.Kept.SessionState, im_trace.specs.Origin.Origin}
use Rattle.im_controller.specs.{Kept.accepted_in, Log.FoundState, Log.ReceiptState}
use Rattle.im_receipts.specs.Alike.{GivesEntry}
use mathlib.Core.List.{IsPrefix}

-- what was put before a trace began, the accepted commands of this history of it, and others that were accepted later
abbrev pub commands_through : Origin → List Line → List Command → List Command
commands_through origin history later = origin.first ++ (accepted_in origin.memory history ++ later)

-- The file means the memory after the accepted commands of a receipt's history, and after others that were accepted
-- later. What the receipt told a request is told again there, or the answer since, or its element confirmed it.
pub record HasReceipt {D : Type 0} (origin : Origin) (s : SessionState D) (receipt : ReceiptState)
    (file : List ℕ) : Type 0 where
  pub later : List Command
  pub means : MeansPut s.start (commands_through origin receipt.history later) file
  pub again : (r : Request) (entry : Entry) → GivesEntry receipt r entry
      → IsToldAgainOrForgotten (after s.start.memory (commands_through origin receipt.history later)) r entry

-- a receipt of this trace: each file that a crash may leave at its time or later has it
pub record IsDurable {D : Type 0} (disk : Ghosts D) (origin : Origin) (trace : List Line) (receipt : ReceiptState)
    (s : SessionState D) : Type 0 where
  pub begins : IsPrefix receipt.history trace
  pub by : receipt.time ≤ length (disk.past s.engine.disk)
  pub since : (file : List ℕ) → LeftSince (disk.now s.engine.disk ∷ disk.past s.engine.disk) receipt.time file
      → HasReceipt origin s receipt file

-- the same of a disk that is honest
abbrev pub StaysDurable : {D : Type 0} → Ghosts D → Origin → List Line → ReceiptState → SessionState D → Type 0
StaysDurable disk origin trace receipt s = disk.honest s.engine.disk → IsDurable disk origin trace receipt s

-- under this number the entry is kept that was found before, or the answer that has come since
pub record IsFoundAgain (m : Contents) (who : Waiter) (before : Entry) : Type 0 where
  pub entry : Entry
  pub since : IsSameOrAnswer before entry
  pub found : ask m.windows who ≡ Ok entry

-- the same, or the number was confirmed
abbrev pub IsFoundAgainOrForgotten : Contents → Waiter → Entry → Type 0
IsFoundAgainOrForgotten m who before = IsForgotten m.windows who ⊎ IsFoundAgain m who before

-- The file means the memory after the accepted commands up to a collect's line, and after others that were accepted
-- later. The entry that was found is found there again, or the answer since, or its element confirmed it.
pub record HasFound {D : Type 0} (origin : Origin) (s : SessionState D) (found : FoundState)
    (file : List ℕ) : Type 0 where
  pub later : List Command
  pub means : MeansPut s.start (commands_through origin found.history later) file
  pub again : IsFoundAgainOrForgotten (after s.start.memory (commands_through origin found.history later))
      (record { element = found.element; number = found.number }) found.entry

-- an entry that was found, of this trace: each file that a crash may leave at its time or later has it
pub record IsFoundDurable {D : Type 0} (disk : Ghosts D) (origin : Origin) (trace : List Line) (found : FoundState)
    (s : SessionState D) : Type 0 where
  pub begins : IsPrefix found.history trace
  pub by : found.time ≤ length (disk.past s.engine.disk)
  pub since : (file : List ℕ) → LeftSince (disk.now s.engine.disk ∷ disk.past s.engine.disk) found.time file
      → HasFound origin s found file

-- the same of a disk that is honest
abbrev pub StaysFound : {D : Type 0} → Ghosts D → Origin → List Line → FoundState → SessionState D → Type 0
StaysFound disk origin trace found s = disk.honest s.engine.disk → IsFoundDurable disk origin trace found s
