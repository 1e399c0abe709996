-- The texts that lines are made of: numbers below a bound, kinds, operations, answers. (Own.)
use Rattle.std.specs.Prelude.{ℕ, zero, suc, Bool, true, false, List, [], ◌∷◌, ◌++◌, codes, decimal}
use Rattle.im_types.specs.Types.{Entry, Kind, Op, Reply, Waiting, Answered, I, M, Alloc, Release, Reset, Fetch, Store}
use Rattle.im_types.specs.Types.{Take, Put, Base, NoSpace, BadLength, Value, Stored, Clash, NoCell, WrongKind, Released}
use Rattle.im_types.specs.Types.{NoBlock, StillWaiting, Cleared}

-- the end of a line
abbrev pub line_feed : List ℕ
line_feed = 10 ∷ []

-- the texts, or the lists, of 0, of 1, and so on below n, one after another
unfoldable pub texts_below : {A : Type 0} → (ℕ → List A) → ℕ → List A
texts_below text zero = []
texts_below text (suc n) = texts_below text n ++ text n

-- a kind
abbrev pub kind_text : Kind → List ℕ
kind_text I = codes "i"
kind_text M = codes "m"

-- an operation
abbrev pub op_text : Op → List ℕ
op_text (Alloc kind n) = codes "alloc " ++ kind_text kind ++ codes " " ++ decimal n
op_text (Release a) = codes "release " ++ decimal a
op_text (Reset a) = codes "reset " ++ decimal a
op_text (Fetch a) = codes "fetch " ++ decimal a
op_text (Store a v) = codes "store " ++ decimal a ++ codes " " ++ decimal v
op_text (Take a) = codes "take " ++ decimal a
op_text (Put a v) = codes "put " ++ decimal a ++ codes " " ++ decimal v

-- an answer
abbrev pub reply_text : Reply → List ℕ
reply_text (Base a) = codes "base " ++ decimal a
reply_text NoSpace = codes "nospace"
reply_text BadLength = codes "badlength"
reply_text (Value v) = codes "value " ++ decimal v
reply_text Stored = codes "stored"
reply_text Clash = codes "clash"
reply_text NoCell = codes "nocell"
reply_text WrongKind = codes "wrongkind"
reply_text Released = codes "released"
reply_text NoBlock = codes "noblock"
reply_text StillWaiting = codes "stillwaiting"
reply_text Cleared = codes "cleared"

-- the entry that is kept for a request
abbrev pub entry_text : Entry → List ℕ
entry_text Waiting = codes "waiting"
entry_text (Answered reply) = reply_text reply

-- whether an answer tells an error of the program that asked
abbrev pub is_fault_reply : Reply → Bool
is_fault_reply (Base a) = false
is_fault_reply NoSpace = true
is_fault_reply BadLength = true
is_fault_reply (Value v) = false
is_fault_reply Stored = false
is_fault_reply Clash = true
is_fault_reply NoCell = true
is_fault_reply WrongKind = true
is_fault_reply Released = false
is_fault_reply NoBlock = true
is_fault_reply StillWaiting = true
is_fault_reply Cleared = false

-- the same of an entry
abbrev pub is_fault_entry : Entry → Bool
is_fault_entry Waiting = false
is_fault_entry (Answered reply) = is_fault_reply reply
