-- Servers that wait, and when all of them do. (Own.)
use Rattle.std.specs.Prelude.{◌≡◌, ℕ, suc, Bool, true, false, ◌&&◌, ◌||◌, ◌≢◌, List, [], ◌∷◌, if◌then◌else◌, ◌==◌}
use Rattle.std.specs.Prelude.{slice_get, slice_set, Some, None, Ok, Err, Option, Result}
use Rattle.im_types.specs.Types.{Entry, Reply, Waiting, Answered, Refusal, Contents, ask}
use Rattle.im_queue.specs.declared.servers.ServerState.{ServerState}
use Rattle.im_queue.specs.declared.servers.ServerState.TheVariants.{Active, Retired, Unmade, Waits}

-- what is kept under an element's number
abbrev pub entry_under : Contents → ℕ → ℕ → Result Entry Refusal
entry_under m element number = ask m.windows (record { element = element; number = number })

-- whether the entry is there and answered
abbrev pub is_answered : Result Entry Refusal → Bool
is_answered (Ok (Answered reply)) = true
is_answered (Ok Waiting) = false
is_answered (Err refusal) = false

-- whether a server serves, or will once its entry is answered
abbrev pub is_active : Option ServerState → Bool
is_active (Some Active) = true
is_active (Some (Waits number)) = true
is_active (Some Unmade) = false
is_active (Some Retired) = false
is_active None = false

-- whether a server waits for an entry
abbrev pub is_waiting_server : ServerState → Bool
is_waiting_server Unmade = false
is_waiting_server Active = false
is_waiting_server (Waits number) = true
is_waiting_server Retired = false

-- whether a server has no port yet
abbrev pub is_unmade : ServerState → Bool
is_unmade Unmade = true
is_unmade Active = false
is_unmade (Waits number) = false
is_unmade Retired = false

-- whether a server isn't active, or waits for an entry that isn't answered
abbrev pub is_stuck : Contents → ℕ → ServerState → Bool
is_stuck m element Unmade = true
is_stuck m element Active = false
is_stuck m element (Waits number) = if is_answered (entry_under m element number) then false else true
is_stuck m element Retired = true

-- the same of each server but the caller's, from this element on
abbrev pub are_stuck : Contents → ℕ → ℕ → List ServerState → Bool
are_stuck m caller element [] = true
are_stuck m caller element (server ∷ servers) =
    ((element == caller) || is_stuck m element server) && are_stuck m caller (suc element) servers

-- a server isn't active, or waits for an entry that isn't answered
abbrev pub IsStuck : Contents → ℕ → ServerState → Type 0
IsStuck m element Unmade = Unit {0}
IsStuck m element Active = ⊥
IsStuck m element (Waits number) = (reply : Reply) → entry_under m element number ≢ Ok (Answered reply)
IsStuck m element Retired = Unit {0}

-- the same of each server but the caller's
abbrev pub AllStuckBut : Contents → ℕ → List ServerState → Type 0
AllStuckBut m caller servers =
    (element : ℕ) (server : ServerState) → slice_get servers element ≡ Some server → element ≢ caller
    → IsStuck m element server

-- the servers after an element's server, if it is active or waits, does something else
abbrev pub with_server : List ServerState → ℕ → ServerState → List ServerState
with_server servers element server =
    if is_active (slice_get servers element) then slice_set servers element server else servers

-- the servers after an element's server is made; it is made if there is one that wasn't made before
abbrev pub Makes : List ServerState → ℕ → Bool → List ServerState → Type 0
Makes servers element true servers' =
    (slice_get servers element ≡ Some Unmade) × (servers' ≡ slice_set servers element Active)
Makes servers element false servers' = (slice_get servers element ≢ Some Unmade) × (servers' ≡ servers)
