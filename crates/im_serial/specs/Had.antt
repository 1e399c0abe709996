-- What a memory has of a script, by the numbers of its requests. (Own.)
use Rattle.std.specs.Prelude.{ℕ, suc, ◌+◌, ◌-◌, Bool, true, false, ◌&&◌, List, [], ◌∷◌, ◌++◌, map, if◌then◌else◌}
use Rattle.std.specs.Prelude.{nat_lt, slice_get, slice_index_or, slice_set}
use Rattle.std.specs.Option.{option_map_or}
use Rattle.im_types.specs.Types.{Entry, Waiter, Kept, Waiting, Answered, Window, Contents, next_number}
use Rattle.im_script.specs.declared.Action.{Action, TheVariants.Alloc}
use Rattle.im_serial.specs.Asked.{Wanted}

-- ---- what a memory has of a script

-- how many requests each element made, by its next number
abbrev pub numbers_had : Contents → List ℕ
numbers_had m = map (λ w. next_number w - 1) m.windows

-- whether an entry waits
abbrev pub still_waits : Entry → Bool
still_waits Waiting = true
still_waits (Answered reply) = false

-- an entry more before the first that waits, if it is answered
abbrev pub settled_with : Entry → ℕ → ℕ
settled_with Waiting behind = 0
settled_with (Answered reply) behind = suc behind

-- how many of these entries stand before the first that waits
abbrev pub settled_in : List Kept → ℕ
settled_in [] = 0
settled_in (k ∷ kept) = settled_with k.entry (settled_in kept)

-- the number of the first request of a window that waits, or of its next one
abbrev pub first_open : Window → ℕ
first_open w = w.base + settled_in w.kept

-- how many requests each element made before that one
abbrev pub numbers_settled : Contents → List ℕ
numbers_settled m = map (λ w. first_open w - 1) m.windows

-- how many of an element's are left
abbrev pub left_of : List ℕ → ℕ → ℕ
left_of many element = slice_index_or many element 0

-- whether the memory has the next request of an element
abbrev pub has_next : List ℕ → ℕ → Bool
has_next many element = nat_lt 0 (left_of many element)

-- what is left when the next request of an element was met
abbrev pub met : List ℕ → ℕ → List ℕ
met many element = if has_next many element then slice_set many element (left_of many element - 1) else many

-- the same of several requests
abbrev pub met_all : List ℕ → List Wanted → List ℕ
met_all many [] = many
met_all many (w ∷ wanted) = met_all (met many w.element) wanted

-- a request, if the memory doesn't have it
abbrev pub if_new : List ℕ → Wanted → List Wanted
if_new many w = if has_next many w.element then [] else w ∷ []

-- those of the requests that the memory doesn't have: the n-th one of an element has number n
abbrev pub news : List ℕ → List Wanted → List Wanted
news many [] = []
news many (w ∷ wanted) = if_new many w ++ news (met many w.element) wanted

-- ---- the blocks of the setup that it has

-- the length of a block that is asked for
abbrev pub length_asked : Action → ℕ
length_asked (Alloc kind length) = length
length_asked action = 0

-- whether it has a block with a name
abbrev pub has_block : List ℕ → Wanted → Bool
has_block many w = has_next many w.element && w.named

-- where the next block of the setup begins in a new image: behind those before it
abbrev pub end_behind : List ℕ → ℕ → Wanted → ℕ
end_behind many end w = if has_block many w then end + length_asked w.action else end

-- the base of its block
abbrev pub base_had : List ℕ → ℕ → Wanted → List ℕ
base_had many end w = if has_block many w then end ∷ [] else []

-- the bases of those blocks, which stand one behind another
abbrev pub bases_had : List ℕ → ℕ → List Wanted → List ℕ
bases_had many end [] = []
bases_had many end (w ∷ wanted) = base_had many end w ++ bases_had (met many w.element) (end_behind many end w) wanted

-- where the next block of the setup begins, behind one that was made
abbrev pub end_with : ℕ → Wanted → ℕ
end_with end w = if w.named then end + length_asked w.action else end

-- the bases of all blocks of the setup in a new image, the first of which begins there: each stands behind those before
-- it
abbrev pub sums_of : ℕ → List Wanted → List ℕ
sums_of end [] = []
sums_of end (w ∷ wanted) = (if w.named then end ∷ [] else []) ++ sums_of (end_with end w) wanted

-- ---- their numbers

-- the number of an element's next request in a memory, or 0 if it has no such element
abbrev pub next_had : Contents → ℕ → ℕ
next_had m element = option_map_or next_number (slice_get m.windows element) 0

-- the next request of an element, if these are left
abbrev pub who_next : Contents → List ℕ → ℕ → Waiter
who_next m many element = record { element = element; number = next_had m element - left_of many element }
