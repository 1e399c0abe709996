-- The parts of objects of JSON: the words of operations and entries, and numbers under words. A number that may pass
-- 2^53 is a string. (Own.)
use Rattle.std.specs.Prelude.{ℕ, List, [], ◌++◌, Some, None, codes, decimal, Option}
use Rattle.im_types.specs.Types.{Entry, Op, Reply, Waiting, Answered, Alloc, Release, Reset, Fetch, Store, Take, Put}
use Rattle.im_types.specs.Types.{Base, NoSpace, BadLength, Value, Stored, Clash, NoCell, WrongKind, Released, NoBlock}
use Rattle.im_types.specs.Types.{StillWaiting, Cleared}
use Rattle.im_text.specs.Texts.{kind_text}

-- ---- entries

-- the word of a reply
abbrev pub word_of_reply : Reply → List ℕ
word_of_reply (Base a) = codes "base"
word_of_reply NoSpace = codes "nospace"
word_of_reply BadLength = codes "badlength"
word_of_reply (Value v) = codes "value"
word_of_reply Stored = codes "stored"
word_of_reply Clash = codes "clash"
word_of_reply NoCell = codes "nocell"
word_of_reply WrongKind = codes "wrongkind"
word_of_reply Released = codes "released"
word_of_reply NoBlock = codes "noblock"
word_of_reply StillWaiting = codes "stillwaiting"
word_of_reply Cleared = codes "cleared"

-- the number of a reply, if it has one
abbrev pub number_of_reply : Reply → Option ℕ
number_of_reply (Base a) = Some a
number_of_reply NoSpace = None
number_of_reply BadLength = None
number_of_reply (Value v) = Some v
number_of_reply Stored = None
number_of_reply Clash = None
number_of_reply NoCell = None
number_of_reply WrongKind = None
number_of_reply Released = None
number_of_reply NoBlock = None
number_of_reply StillWaiting = None
number_of_reply Cleared = None

-- the word of an entry
abbrev pub word_of_entry : Entry → List ℕ
word_of_entry Waiting = codes "waiting"
word_of_entry (Answered reply) = word_of_reply reply

-- the number of an entry, if it has one
abbrev pub number_of_entry : Entry → Option ℕ
number_of_entry Waiting = None
number_of_entry (Answered reply) = number_of_reply reply

-- the number of what was answered, under its word, if it has one
abbrev pub number_member : List ℕ → Option ℕ → List ℕ
number_member word None = []
number_member word (Some n) = codes ",\"" ++ word ++ codes "\":\"" ++ decimal n ++ codes "\""

-- an element; here an object begins
abbrev pub element_start : ℕ → List ℕ
element_start element = codes "{\"element\":" ++ decimal element

-- the same, and a number
abbrev pub object_start : ℕ → ℕ → List ℕ
object_start element number = element_start element ++ number_member (codes "number") (Some number)

-- ---- operations

-- the word of an operation
abbrev pub op_word : Op → List ℕ
op_word (Alloc kind n) = codes "alloc"
op_word (Release a) = codes "release"
op_word (Reset a) = codes "reset"
op_word (Fetch a) = codes "fetch"
op_word (Store a v) = codes "store"
op_word (Take a) = codes "take"
op_word (Put a v) = codes "put"

-- an address that an operation asks for
abbrev pub address_member : ℕ → List ℕ
address_member a = codes ",\"address\":" ++ decimal a

-- the same, and the value that is written there
abbrev pub written_members : ℕ → ℕ → List ℕ
written_members a v = address_member a ++ number_member (codes "value") (Some v)

-- what an operation asks for
abbrev pub op_members : Op → List ℕ
op_members (Alloc kind n) = codes ",\"kind\":\"" ++ kind_text kind ++ codes "\",\"length\":" ++ decimal n
op_members (Release a) = address_member a
op_members (Reset a) = address_member a
op_members (Fetch a) = address_member a
op_members (Store a v) = written_members a v
op_members (Take a) = address_member a
op_members (Put a v) = written_members a v
