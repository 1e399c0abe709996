-- A place of a session record reads back what it spells.
use Rattle.std.proofs.Common.{◌≡◌, ℕ, Bool, List, [], ◌++◌, if◌then◌else◌, Some, None, Option, option_and_then, refl}
use Rattle.std.proofs.Common.{ap, ◌∙◌}
use Rattle.byteorder.specs.{Endian.little_bytes, Endian.little_number, Numbers.little_number-reads_back}
use Rattle.im_types.specs.Types.{Entry, Op, Kept, address_of, op_code, op_value, entry_code, entry_number, FitsEntry}
use Rattle.im_types.specs.Types.{op_of, place_bytes, FitsPlace}
use Rattle.im_formats.proofs.Fields.{entry_of-spelled, number_fits, op_of-spelled, some_code}
use Rattle.im_formats.proofs.Same.{if_same, only_spelled}
use Rattle.im_formats.specs.Reading.{entry_of, kept_of, place_if, place_in, place_of, read_place}

place_of-spelled : (k : Kept) → FitsEntry k.entry
    → place_of (op_code k.op) (entry_code k.entry) (address_of k.op) (op_value k.op) (entry_number k.entry)
    ≡ Some (Some k)
place_of-spelled k fits =
    ap (λ (b : Bool). if b then Some None else kept_of (op_of (op_code k.op) (address_of k.op) (op_value k.op))
    (entry_of (entry_code k.entry) (entry_number k.entry))) (some_code k.op)
    ∙ ap (λ (o : Option Op). kept_of o (entry_of (entry_code k.entry) (entry_number k.entry))) (op_of-spelled k.op)
    ∙ ap (λ (e : Option Entry). kept_of (Some k.op) e) (entry_of-spelled k.entry fits)

pub place_in-spelled : (place : Option Kept) → FitsPlace place → place_in (place_bytes place) ≡ Some place
unfolding place_in
place_in-spelled None fits = refl
place_in-spelled (Some k) fits =
    let address : little_number 4 (little_bytes 4 (address_of k.op) ++ [])
    ≡ address_of k.op = little_number-reads_back 4 (address_of k.op) [] fits.0.address in
    let value : little_number 8 (little_bytes 8 (op_value k.op) ++ [])
    ≡ op_value k.op = little_number-reads_back 8 (op_value k.op) [] fits.0.value in
    let number : little_number 8 (little_bytes 8 (entry_number k.entry) ++ [])
    ≡ entry_number k.entry = little_number-reads_back 8 (entry_number k.entry) [] (number_fits k.entry fits.1) in
    ap (λ (a : ℕ). place_of (op_code k.op) (entry_code k.entry) a
    (little_number 8 (little_bytes 8 (op_value k.op) ++ []))
    (little_number 8 (little_bytes 8 (entry_number k.entry) ++ []))) address
    ∙ ap (λ (v : ℕ). place_of (op_code k.op) (entry_code k.entry) (address_of k.op) v
    (little_number 8 (little_bytes 8 (entry_number k.entry) ++ []))) value
    ∙ ap (λ (n : ℕ). place_of (op_code k.op) (entry_code k.entry) (address_of k.op) (op_value k.op) n) number
    ∙ place_of-spelled k fits.1

pub read_place-spelled : (place : Option Kept) → FitsPlace place → read_place (place_bytes place) ≡ Some place
unfolding read_place
read_place-spelled place fits = ap (λ (o : Option (Option Kept)). option_and_then (place_if (place_bytes place)) o)
    (place_in-spelled place fits) ∙ if_same (place_bytes place) place

pub read_place-only : (bytes : List ℕ) (place : Option Kept) → read_place bytes ≡ Some place → bytes ≡ place_bytes place
unfolding read_place
read_place-only bytes place e = only_spelled bytes place_bytes (place_in bytes) place e
