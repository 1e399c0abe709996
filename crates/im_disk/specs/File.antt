-- A file of the operating system, by the account of its calls.
use Rattle.std.specs.Prelude.{◌≡◌, ℕ, Bool, not, List}
use Rattle.im_disk.specs.Account.{Account, is_usable, IsHonest, replay}
use Rattle.im_disk.specs.declared.{file.FileDisk.FileDisk, start.Start.Ghosts}
use Rattle.im_disk.specs.Moment.{MayTick, Ticks, Torn, written}

module _ {S : Type 0} where
  -- what an honest file with this start would have come to, after the calls so far
  abbrev pub account_of : (start : Ghosts S) → FileDisk S start → Account
  account_of start f = replay start.path start.first start.outcomes f.ledger.events

  -- a sync of the file has failed since it was opened: what was written may be lost
  abbrev pub has_failed_sync : (start : Ghosts S) → FileDisk S start → Bool
  has_failed_sync start f = not (is_usable f.ledger.events)

  -- If the file is honest, it was honest before, and it is as it was.
  abbrev pub IsAsBefore : (start : Ghosts S) → FileDisk S start → FileDisk S start → Type 0
  IsAsBefore start old new = IsHonest (account_of start new) → IsHonest (account_of start old)
      × (((account_of start new).now ≡ (account_of start old).now)
      × ((account_of start new).past ≡ (account_of start old).past))

  -- These bytes were written.
  abbrev pub HasWritten : (start : Ghosts S) → ℕ → List ℕ → FileDisk S start → FileDisk S start → Type 0
  HasWritten start at bytes old new = IsHonest (account_of start new)
      → Ticks (λ m n. n ≡ written at bytes m) (account_of start old).now (account_of start new).now
      (account_of start old).past (account_of start new).past

  -- If the file is honest, it was honest before, and a range of this length may hold anything.
  abbrev pub HasTorn : (start : Ghosts S) → ℕ → ℕ → FileDisk S start → FileDisk S start → Type 0
  HasTorn start at n old new = IsHonest (account_of start new) → IsHonest (account_of start old)
      × MayTick (Torn at n) (account_of start old).now (account_of start new).now
      (account_of start old).past (account_of start new).past
