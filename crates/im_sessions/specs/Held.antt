-- An entry as one flat variant, and the entry that it stands for.
use Rattle.std.specs.Prelude.{◌≡◌, Some, None, Option, refl}
use Rattle.im_types.specs.Types.{Entry, Reply, Waiting, Answered, Base, NoSpace, BadLength, Value, Stored, Clash}
use Rattle.im_types.specs.Types.{NoCell, WrongKind, Released, NoBlock, StillWaiting, Cleared}
use Rattle.im_sessions.specs.declared.place.Held.{Held}
use Rattle.im_sessions.specs.declared.place.Held.TheVariants.{BadLength as HeldBadLength, Base as HeldBase}
use Rattle.im_sessions.specs.declared.place.Held.TheVariants.{Clash as HeldClash, Cleared as HeldCleared}
use Rattle.im_sessions.specs.declared.place.Held.TheVariants.{NoBlock as HeldNoBlock, NoCell as HeldNoCell}
use Rattle.im_sessions.specs.declared.place.Held.TheVariants.{NoSpace as HeldNoSpace, Released as HeldReleased}
use Rattle.im_sessions.specs.declared.place.Held.TheVariants.{StillWaiting as HeldStillWaiting, Stored as HeldStored}
use Rattle.im_sessions.specs.declared.place.Held.TheVariants.{Value as HeldValue, Waiting as HeldWaiting}
use Rattle.im_sessions.specs.declared.place.Held.TheVariants.{WrongKind as HeldWrongKind}

-- a reply as a flat variant
abbrev pub held_by : Reply → Held
held_by (Base base) = HeldBase base
held_by NoSpace = HeldNoSpace
held_by BadLength = HeldBadLength
held_by (Value value) = HeldValue value
held_by Stored = HeldStored
held_by Clash = HeldClash
held_by NoCell = HeldNoCell
held_by WrongKind = HeldWrongKind
held_by Released = HeldReleased
held_by NoBlock = HeldNoBlock
held_by StillWaiting = HeldStillWaiting
held_by Cleared = HeldCleared

-- an entry as a flat variant
abbrev pub held_form : Entry → Held
held_form Waiting = HeldWaiting
held_form (Answered reply) = held_by reply

-- the reply of a flat variant, if it has one
abbrev pub reply_of : Held → Option Reply
reply_of HeldWaiting = None
reply_of (HeldBase base) = Some (Base base)
reply_of HeldNoSpace = Some NoSpace
reply_of HeldBadLength = Some BadLength
reply_of (HeldValue value) = Some (Value value)
reply_of HeldStored = Some Stored
reply_of HeldClash = Some Clash
reply_of HeldNoCell = Some NoCell
reply_of HeldWrongKind = Some WrongKind
reply_of HeldReleased = Some Released
reply_of HeldNoBlock = Some NoBlock
reply_of HeldStillWaiting = Some StillWaiting
reply_of HeldCleared = Some Cleared

-- an answered entry with this reply, or a waiting entry without one
abbrev pub entry_with : Option Reply → Entry
entry_with None = Waiting
entry_with (Some reply) = Answered reply

-- the entry that a flat variant stands for
abbrev pub held_entry : Held → Entry
held_entry held = entry_with (reply_of held)

-- flattening the entry of a flat variant gives that variant
pub held_of-entry_of : (held : Held) → held_form (held_entry held) ≡ held
held_of-entry_of HeldWaiting = refl
held_of-entry_of (HeldBase base) = refl
held_of-entry_of HeldNoSpace = refl
held_of-entry_of HeldBadLength = refl
held_of-entry_of (HeldValue value) = refl
held_of-entry_of HeldStored = refl
held_of-entry_of HeldClash = refl
held_of-entry_of HeldNoCell = refl
held_of-entry_of HeldWrongKind = refl
held_of-entry_of HeldReleased = refl
held_of-entry_of HeldNoBlock = refl
held_of-entry_of HeldStillWaiting = refl
held_of-entry_of HeldCleared = refl
