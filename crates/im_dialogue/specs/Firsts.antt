-- Which commands reach a cell, and whether a request is the first that does. (Own.)
use Rattle.std.specs.Prelude.{ℕ, Bool, true, false, not, ◌&&◌, List, is_none, ◌==◌}
use Rattle.std.specs.List.{list_any}
use Rattle.im_types.specs.Types.{Op, Waiter, Alloc, Release, Reset, Fetch, Store, Take, Put, Request, Command, Asks}
use Rattle.im_types.specs.Types.{Confirm, Contents, kept_for, same_waiter, address_of, asker}

-- the command is this request
abbrev pub asks_for : Waiter → Command → Bool
asks_for who (Asks r) = same_waiter who (asker r)
asks_for who (Confirm element upto) = false

-- the operation may change the cell at this address
abbrev pub reaches : ℕ → Op → Bool
reaches a (Alloc kind n) = true
reaches a (Release b) = true
reaches a (Reset b) = true
reaches a (Fetch b) = b == a
reaches a (Store b v) = b == a
reaches a (Take b) = b == a
reaches a (Put b v) = b == a

-- the command may change the cell at this address
abbrev pub may_reach : ℕ → Command → Bool
may_reach a (Asks r) = reaches a r.op
may_reach a (Confirm element upto) = false

-- nothing is kept for the request, it isn't among these commands, and none of them may change the cell at its address
abbrev pub is_first : Contents → List Command → Request → Bool
is_first m ahead r = (is_none (kept_for m.windows (asker r)) && not (list_any (asks_for (asker r)) ahead))
    && not (list_any (may_reach (address_of r.op)) ahead)
