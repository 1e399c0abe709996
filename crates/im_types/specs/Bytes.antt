-- Numbers and codes as bytes. All numbers are little endian. (Own.)
use Rattle.std.specs.Prelude.{ℕ, ◌+◌, ◌^◌, ◌<◌, Bool, List, replicate, nat_eq, slice_range}
use Rattle.byteorder.specs.Endian.{little_number}
use Rattle.std.specs.Cmp.Lexicographic.{pointwise}
use Rattle.im_types.specs.Agreement.{address_of}
use Rattle.im_types.specs.declared.operations.Entry.{Entry, TheVariants.Answered, TheVariants.Waiting}
use Rattle.im_types.specs.declared.operations.{Kind.Kind, Kind.TheVariants.I, Kind.TheVariants.M, Op.Op, Reply.Reply}
use Rattle.im_types.specs.declared.operations.Op.TheVariants.{Alloc, Fetch, Put, Release, Reset, Store, Take}
use Rattle.im_types.specs.declared.operations.Reply.TheVariants.{BadLength, Base, Clash, Cleared, NoBlock, NoCell}
use Rattle.im_types.specs.declared.operations.Reply.TheVariants.{NoSpace, Released, StillWaiting, Stored, Value}
use Rattle.im_types.specs.declared.operations.Reply.TheVariants.{WrongKind}

-- the byte of an open gate; a gate with any other byte is closed
abbrev pub open_gate : ℕ
open_gate = 0xA5

-- bytes that must be zero
abbrev pub zeros : ℕ → List ℕ
zeros n = replicate n 0

-- whether two lists of bytes are the same
abbrev pub same_bytes : List ℕ → List ℕ → Bool
same_bytes = pointwise nat_eq

-- the number in n bytes at an offset
abbrev pub number_at : ℕ → ℕ → List ℕ → ℕ
number_at n at bytes = little_number n (slice_range bytes at (at + n))

-- the code of an operation; its address or length is `address_of`
abbrev pub op_code : Op → ℕ
op_code (Alloc I n) = 1
op_code (Alloc M n) = 2
op_code (Release a) = 3
op_code (Fetch a) = 4
op_code (Store a v) = 5
op_code (Take a) = 6
op_code (Put a v) = 7
op_code (Reset a) = 9

-- the value that an operation writes, or 0
abbrev pub op_value : Op → ℕ
op_value (Store a v) = v
op_value (Put a v) = v
op_value op = 0

-- the code of a reply
abbrev pub reply_code : Reply → ℕ
reply_code (Base a) = 1
reply_code NoSpace = 2
reply_code BadLength = 3
reply_code (Value v) = 4
reply_code Stored = 5
reply_code Clash = 6
reply_code NoCell = 7
reply_code WrongKind = 8
reply_code Released = 9
reply_code NoBlock = 10
reply_code StillWaiting = 11
reply_code Cleared = 12

-- the number that a reply carries, or 0
abbrev pub reply_number : Reply → ℕ
reply_number (Base a) = a
reply_number (Value v) = v
reply_number reply = 0

-- the code of an entry; 0 is Waiting
abbrev pub entry_code : Entry → ℕ
entry_code Waiting = 0
entry_code (Answered reply) = reply_code reply

-- the number that an entry carries, or 0
abbrev pub entry_number : Entry → ℕ
entry_number Waiting = 0
entry_number (Answered reply) = reply_number reply

-- the code of a kind; a free cell has the code 0
abbrev pub kind_code : Kind → ℕ
kind_code I = 1
kind_code M = 2

-- the numbers of an operation fit their fields
pub record FitsOp (op : Op) : Type 0 where
  pub address : address_of op < 2 ^ 32
  pub value : op_value op < 2 ^ 64

-- the number of a reply fits its field
abbrev pub FitsReply : Reply → Type 0
FitsReply (Base a) = a < 2 ^ 32
FitsReply (Value v) = v < 2 ^ 64
FitsReply reply = Unit {0}

-- the number of an entry fits its field
abbrev pub FitsEntry : Entry → Type 0
FitsEntry Waiting = Unit {0}
FitsEntry (Answered reply) = FitsReply reply
