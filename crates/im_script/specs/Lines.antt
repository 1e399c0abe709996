-- What a line of a script says, by its words. (Own.)
use Rattle.std.specs.Prelude.{ℕ, Bool, false, not, ◌&&◌, List, [], ◌∷◌, is_some, if◌then◌else◌, Some, None, codes}
use Rattle.std.specs.Prelude.{bytes_eq, position, Option, option_map, option_and_then}
use Rattle.im_script.specs.declared.{places.Action.Action, places.Place.Place, script.Allocation.Allocation}
use Rattle.im_script.specs.declared.places.Action.TheVariants.{Alloc, Fetch, Put, Release, Reset, Store, Take}
use Rattle.im_script.specs.Grammar.{is_name, number_up_to, word_kind, word_place}

-- KIND LEN
abbrev pub block_of : List ℕ → List ℕ → Option Allocation
block_of kind len =
    option_and_then (λ k. option_map (λ n. record { kind = k; length = n }) (number_up_to 4294967295 len))
    (word_kind kind)

-- what a word asks for at a place
abbrev pub plain_action : List ℕ → Place → Option Action
plain_action word place = if bytes_eq word (codes "fetch") then Some (Fetch place)
    else (if bytes_eq word (codes "take") then Some (Take place)
    else (if bytes_eq word (codes "release") then Some (Release place)
    else (if bytes_eq word (codes "reset") then Some (Reset place) else None)))

-- what a word asks for at a place, with a value
abbrev pub valued_action : List ℕ → Place → ℕ → Option Action
valued_action word place value = if bytes_eq word (codes "store") then Some (Store place value)
    else (if bytes_eq word (codes "put") then Some (Put place value) else None)

-- alloc KIND LEN, store PLACE VALUE or put PLACE VALUE
abbrev pub action_past : List (List ℕ) → List ℕ → List ℕ → List ℕ → Option Action
action_past names word first second =
    if bytes_eq word (codes "alloc") then option_map (λ b. Alloc b.kind b.length) (block_of first second)
    else option_and_then (λ place. option_and_then (valued_action word place)
    (number_up_to 18446744073709551615 second)) (word_place names first)

-- a line in a part; the setup gave these names
abbrev pub action_of : List (List ℕ) → List (List ℕ) → Option Action
action_of names (word ∷ place ∷ []) = option_and_then (plain_action word) (word_place names place)
action_of names (word ∷ first ∷ second ∷ []) = action_past names word first second
action_of names _ = None

-- glance PLACE, a line in a part that may have glances: the place
abbrev pub glanced : List (List ℕ) → List (List ℕ) → Option Place
glanced names (word ∷ place ∷ []) = if bytes_eq word (codes "glance") then word_place names place else None
glanced names _ = None

-- alloc NAME KIND LEN, a line in the setup: the name, which no earlier line gave, and the block
abbrev pub named_block : List (List ℕ) → List (List ℕ) → Option (List ℕ × Allocation)
named_block names (word ∷ name ∷ kind ∷ len ∷ []) =
    if bytes_eq word (codes "alloc") && (is_name name && not (is_some (position (bytes_eq name) names)))
    then option_map (λ b. (name, b)) (block_of kind len) else None
named_block names _ = None

-- element K: the number's word
abbrev pub part_number : List (List ℕ) → Option (List ℕ)
part_number (word ∷ number ∷ []) = if bytes_eq word (codes "element") then Some number else None
part_number _ = None

-- setup
abbrev pub starts_setup : List (List ℕ) → Bool
starts_setup (word ∷ []) = bytes_eq word (codes "setup")
starts_setup _ = false
