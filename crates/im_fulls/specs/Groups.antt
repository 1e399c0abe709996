-- Requests that are served together, and their order: which of them may stand before another, so that it has the same
-- change as at the memory before all of them. (Own.)
use Rattle.std.specs.{Prelude.ℕ, Prelude.◌≢◌, Prelude.List, Prelude.map, List.AllByRecursion}
use Rattle.im_types.specs.Types.{Op, Alloc, Release, Reset, Fetch, Store, Take, Put, Request, Asks, Contents, after}

-- an operation that may stand before a store to an address: no other store there, and no allocation, release or reset
abbrev pub LeavesStores : ℕ → Op → Type 0
LeavesStores a (Alloc kind n) = ⊥
LeavesStores a (Release b) = ⊥
LeavesStores a (Reset b) = ⊥
LeavesStores a (Fetch b) = Unit {0}
LeavesStores a (Store b v) = b ≢ a
LeavesStores a (Take b) = Unit {0}
LeavesStores a (Put b v) = Unit {0}

-- an earlier operation may stand before a later one; nothing may stand before a release or a reset
abbrev pub MayPrecede : Op → Op → Type 0
MayPrecede earlier (Alloc kind n) = Unit {0}
MayPrecede earlier (Release a) = ⊥
MayPrecede earlier (Reset a) = ⊥
MayPrecede earlier (Fetch a) = Unit {0}
MayPrecede earlier (Store a v) = LeavesStores a earlier
MayPrecede earlier (Take a) = Unit {0}
MayPrecede earlier (Put a v) = Unit {0}

-- these requests are of other elements, and each of them may stand before this one
abbrev pub AreBefore : List Request → Request → Type 0
AreBefore earlier r = AllByRecursion (λ e. (r.element ≢ e.element) × MayPrecede e.op r.op) earlier

-- the memory after requests
abbrev pub after_requests : Contents → List Request → Contents
after_requests m requests = after m (map Asks requests)
