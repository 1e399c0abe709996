-- What a plan is looked up by. (Own.)
use Rattle.std.specs.Prelude.{ℕ, Bool, false, ◌&&◌, List, [], ◌∷◌, if◌then◌else◌, ◌==◌, Some, None, Option}
use Rattle.std.specs.{declared.cmp.Ordering.Ordering, Ordering.nat_cmp, Ordering.ordering_then}
use Rattle.im_types.specs.Types.{Op, Request, same_op}

-- an element and a number
abbrev pub Key : Type 0
Key = ℕ × ℕ

-- by element, then by number
abbrev pub key_cmp : Key → Key → Ordering
key_cmp x y = ordering_then (nat_cmp x.0 y.0) (nat_cmp x.1 y.1)

-- the request has this element and number
abbrev pub has_key : Key → Request → Bool
has_key key r = (key.0 == r.element) && (key.1 == r.number)

-- the operation under an element's number: the first one
abbrev pub op_under : Key → List Request → Option Op
op_under key [] = None
op_under key (r ∷ plan) = if has_key key r then Some r.op else op_under key plan

-- this operation, and no other
abbrev pub is_op : Op → Option Op → Bool
is_op op None = false
is_op op (Some other) = same_op other op
