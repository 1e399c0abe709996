-- What each file left has, if the commands of a session keep it.
use Rattle.std.specs.Prelude.{◌≡◌, ℕ, ◌≤◌, List, ◌++◌, length, take}
use Rattle.im_types.specs.Types.{Command, Contents, after, Means}
use Rattle.im_disk.specs.{declared.Disk.Ghosts, Since.LeavesNow, Since.LeavesOnly}
use Rattle.im_session.specs.Kept.{Kept, SessionState}

-- the file means a memory to which commands led that have this property with it
abbrev pub LedBy : (List Command → Contents → Type 0) → List ℕ → Type 0
LedBy P file = (earlier : List Command) × ((m : Contents) × (P earlier m × Means m (length earlier) 0 file))

-- if the session began with such a memory, the property holds after each prefix of its commands too
abbrev pub PrefixesKeep : {D : Type 0} → (List Command → Contents → Type 0) → SessionState D → Type 0
PrefixesKeep P s = (earlier : List Command) → P earlier s.start.memory → s.start.count ≡ length earlier → (many : ℕ)
    → many ≤ length (s.put ++ s.doubt)
    → P (earlier ++ take many (s.put ++ s.doubt)) (after s.start.memory (take many (s.put ++ s.doubt)))

-- What is known of each file that could be left before a session holds of each that is left since, and at its end, if
-- the prefixes keep it.
abbrev pub PrefixesCarry : {D : Type 0} → Ghosts D → (List Command → Contents → Type 0) → SessionState D → Type 0
PrefixesCarry disk P s = Kept disk s → disk.honest s.engine.disk → LeavesNow (disk.now s.start.disk) (LedBy P)
    → PrefixesKeep P s → LeavesOnly disk.now disk.past s.start.disk s.engine.disk (LedBy P)
