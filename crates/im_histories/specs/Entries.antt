-- What becomes of the entry that a request was given at once. (Own.)
use Rattle.std.specs.{Prelude.◌≡◌, Prelude.List, Prelude.IsSomeAnd, List.AllByRecursion}
use Rattle.im_types.specs.Types.{Entry, Waiting, Answered, Command, Contents, asker, events, last_entry}

-- an answer stays; a request that waits may be answered, or wait on
abbrev pub MayBecome : Entry → Entry → Type 0
MayBecome Waiting last = Unit {0}
MayBecome (Answered reply) last = last ≡ Answered reply

-- each accepted request has an entry in the end, or had one when it was dropped; it is the entry that it was given at
-- once, or came from it
abbrev pub EntryLaw : Contents → List Command → Type 0
EntryLaw m commands =
    AllByRecursion (λ event. IsSomeAnd (last_entry m commands (asker event.request)) (MayBecome event.entry))
    (events m commands)
