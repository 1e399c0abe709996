-- Whether a memory was left by runs of a script: what it keeps under the script's numbers, and where windows begin.
-- (Own.)
use Rattle.std.specs.Prelude.{◌≡◌, ℕ, ◌+◌, ◌^◌, ◌≤◌, Bool, true, false, ◌&&◌, List, [], ◌∷◌, ◌++◌, length}
use Rattle.std.specs.Prelude.{if◌then◌else◌, nat_lt, ◌==◌, slice_get, MatchResult, Some, None, Option, Result}
use Rattle.std.specs.Option.{option_map_or}
use Rattle.im_types.specs.Types.{Entry, Op, Kept, Answered, Base, Mismatch, BadScript, Window, Contents, kept_for}
use Rattle.im_types.specs.Types.{same_op}
use Rattle.im_script.specs.Places.{action_op}
use Rattle.im_text.specs.declared.Reason.{Reason, TheVariants.Request}
use Rattle.im_serial.specs.Asked.{Wanted}
use Rattle.im_serial.specs.Had.{has_next, left_of, length_asked, met, met_all, numbers_had, who_next}

-- ---- one request

-- the operation that is kept is this one, if there is one
abbrev pub keeps_op : Option Op → Op → Bool
keeps_op None kept = false
keeps_op (Some op) kept = same_op op kept

-- the base is this one, unless there is none to compare it with
abbrev pub is_base : ℕ → Option ℕ → Bool
is_base there None = true
is_base there (Some base) = there == base

-- the base that is told, if one is, is this one
abbrev pub keeps_base : Option ℕ → Entry → Bool
keeps_base base (Answered (Base there)) = is_base there base
keeps_base base entry = true

-- what is kept is of this operation, and tells no other base; or nothing is kept
abbrev pub keeps_as : Option Op → Option ℕ → Option Kept → Bool
keeps_as op base found = option_map_or (λ k. keeps_op op k.op && keeps_base base k.entry) found true

-- so is what a memory keeps of an element's next request, if it has it
abbrev pub fits_as : Contents → List ℕ → ℕ → Option Op → Option ℕ → Bool
fits_as m many element op base = if has_next many element
    then keeps_as op base (kept_for m.windows (who_next m many element))
    else true

-- ---- all of a script

-- the base of a block that is placed there, unless it ends past the last address
abbrev pub base_placed : ℕ → ℕ → Option ℕ
base_placed end n = if nat_lt (end + n) (2 ^ 32) then Some end else None

-- the base of the block of a request, if it makes one of the setup
abbrev pub base_for : ℕ → Wanted → Option ℕ
base_for end w = if w.named then base_placed end (length_asked w.action) else None

-- the bases with it
abbrev pub bases_with : List ℕ → Option ℕ → List ℕ
bases_with bases base = option_map_or (λ b. bases ++ b ∷ []) base bases

-- where the next one is placed
abbrev pub end_behind_base : ℕ → ℕ → Option ℕ → ℕ
end_behind_base end n base = option_map_or (λ b. b + n) base end

-- what the memory keeps of these requests is of their operations, and tells no other bases than a new image would
abbrev pub fits_from : Contents → List ℕ → List ℕ → ℕ → List Wanted → Bool
fits_from m many bases end [] = true
fits_from m many bases end (w ∷ wanted) = let base = base_for end w in
    fits_as m many w.element (action_op bases w.action) base && fits_from m (met many w.element) (bases_with bases base)
    (end_behind_base end (length_asked w.action) base) wanted

-- the same of a script
abbrev pub fits : Contents → List Wanted → Bool
fits m script = fits_from m (numbers_had m) [] 0 script

-- No window begins behind the script: so many requests of each element are behind it at most as are kept.
abbrev pub BeginsWithin : Contents → List ℕ → Type 0
BeginsWithin m behind = (element : ℕ) (w : Window) → slice_get m.windows element ≡ Some w → left_of behind element
    ≤ length w.kept

-- the requests behind a script
abbrev pub behind_script : Contents → List Wanted → List ℕ
behind_script m script = met_all (numbers_had m) script

-- a memory that runs of a script may have left
abbrev pub FitsScript : Contents → List Wanted → Type 0
FitsScript m script = (fits m script ≡ true) × BeginsWithin m (behind_script m script)

-- ---- while it is compared

-- From these requests it comes to those: what the rest fits, all fit, and what is behind the rest is behind all.
abbrev pub Compared : Contents → List ℕ → List ℕ → ℕ → List Wanted → List ℕ → List ℕ → ℕ → List Wanted → Type 0
Compared m many bases end wanted later with_them behind left = (rest : List Wanted)
    → (fits_from m many bases end (wanted ++ rest) ≡ fits_from m later with_them behind (left ++ rest))
    × (met_all many (wanted ++ rest) ≡ met_all later (left ++ rest))

-- These requests were compared: they fit. If they don't, it ends; only then the reason may be a mismatch, and it is
-- never
-- that a window begins behind the script.
abbrev pub Compares : {T : Type 0} → Contents → List ℕ → List ℕ → ℕ → List Wanted → Result T Reason → List ℕ → List ℕ
    → ℕ → Type 0
Compares m many bases end wanted result later with_them behind = MatchResult result
    (λ _. Compared m many bases end wanted later with_them behind [])
    (λ reason. ((rest : List Wanted) (e : ℕ) → reason ≡ Request e Mismatch → fits_from m many bases end (wanted ++ rest)
    ≡ false) × ((e : ℕ) → reason ≡ Request e BadScript → ⊥))
