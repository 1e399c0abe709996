-- The address of a place and the operation of an action, once the setup's bases are known. (Own.)
use Rattle.std.specs.Prelude.{ℕ, ◌+◌, ◌^◌, List, if◌then◌else◌, nat_lt, slice_get, Some, None, Option, option_map}
use Rattle.std.specs.Prelude.{option_and_then}
use Rattle.im_types.specs.Types.{Op}
use Rattle.im_script.specs.declared.places.Action.{Action}
use Rattle.im_script.specs.declared.places.Action.TheVariants.{Alloc, Fetch, Put, Release, Reset, Store, Take}
use Rattle.im_script.specs.declared.places.Place.{Place, TheVariants.Address, TheVariants.Named}
use Rattle.im_types.specs.declared.operations.Op.TheVariants as op

-- n, if it fits in a u32
abbrev pub as_u32 : ℕ → Option ℕ
as_u32 n = if nat_lt n (2 ^ 32) then Some n else None

-- the address of a place, if the setup's allocations have these bases
abbrev pub place_address : List ℕ → Place → Option ℕ
place_address bases (Address a) = Some a
place_address bases (Named index offset) = option_and_then (λ base. as_u32 (base + offset)) (slice_get bases index)

-- the operation of an action, if they have these bases
abbrev pub action_op : List ℕ → Action → Option Op
action_op bases (Alloc kind length) = Some (op.Alloc kind length)
action_op bases (Release place) = option_map op.Release (place_address bases place)
action_op bases (Reset place) = option_map op.Reset (place_address bases place)
action_op bases (Fetch place) = option_map op.Fetch (place_address bases place)
action_op bases (Store place value) = option_map (λ a. op.Store a value) (place_address bases place)
action_op bases (Take place) = option_map op.Take (place_address bases place)
action_op bases (Put place value) = option_map (λ a. op.Put a value) (place_address bases place)
