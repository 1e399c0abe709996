-- The codes of operations and entries read back.
use Rattle.std.proofs.Common.{◌≡◌, ℕ, ◌^◌, ◌<◌, Bool, true, false, if◌then◌else◌, nat_lt, ◌==◌, Some, None, refl, ap}
use Rattle.std.proofs.Common.{arith}
use Rattle.std.proofs.lemmas.Bool.Decides.{nat_tests}
use Rattle.im_types.specs.Types.{Entry, Op, Waiting, Answered, I, M, Alloc, Release, Reset, Fetch, Store, Take, Put}
use Rattle.im_types.specs.Types.{Base, NoSpace, BadLength, Value, Stored, Clash, NoCell, WrongKind, Released, NoBlock}
use Rattle.im_types.specs.Types.{StillWaiting, Cleared, address_of, op_code, op_value, entry_code, entry_number}
use Rattle.im_types.specs.Types.{FitsEntry, op_of}
use Rattle.im_formats.specs.Reading.{entry_of}

pub op_of-spelled : (op : Op) → op_of (op_code op) (address_of op) (op_value op) ≡ Some op
op_of-spelled (Alloc I n) = refl
op_of-spelled (Alloc M n) = refl
op_of-spelled (Release a) = refl
op_of-spelled (Reset a) = refl
op_of-spelled (Fetch a) = refl
op_of-spelled (Store a v) = refl
op_of-spelled (Take a) = refl
op_of-spelled (Put a v) = refl

pub some_code : (op : Op) → (op_code op == 0) ≡ false
some_code (Alloc I n) = refl
some_code (Alloc M n) = refl
some_code (Release a) = refl
some_code (Reset a) = refl
some_code (Fetch a) = refl
some_code (Store a v) = refl
some_code (Take a) = refl
some_code (Put a v) = refl

below : (n : ℕ) → n < 0x1_0000_0000 → nat_lt n 0x1_0000_0000 ≡ true
below n lt = grind (arith, nat_tests)

pub entry_of-spelled : (entry : Entry) → FitsEntry entry → entry_of (entry_code entry) (entry_number entry) ≡ Some entry
entry_of-spelled Waiting fits = refl
entry_of-spelled (Answered (Base a)) fits = ap (λ (b : Bool). if b then Some (Answered (Base a)) else None)
    (below a fits)
entry_of-spelled (Answered NoSpace) fits = refl
entry_of-spelled (Answered BadLength) fits = refl
entry_of-spelled (Answered (Value v)) fits = refl
entry_of-spelled (Answered Stored) fits = refl
entry_of-spelled (Answered Clash) fits = refl
entry_of-spelled (Answered NoCell) fits = refl
entry_of-spelled (Answered WrongKind) fits = refl
entry_of-spelled (Answered Released) fits = refl
entry_of-spelled (Answered NoBlock) fits = refl
entry_of-spelled (Answered StillWaiting) fits = refl
entry_of-spelled (Answered Cleared) fits = refl

pub number_fits : (entry : Entry) → FitsEntry entry → entry_number entry < 2 ^ 64
number_fits Waiting fits = omega arith
number_fits (Answered (Base a)) fits = let h : a < 2 ^ 32 = fits in omega arith
number_fits (Answered NoSpace) fits = omega arith
number_fits (Answered BadLength) fits = omega arith
number_fits (Answered (Value v)) fits = fits
number_fits (Answered Stored) fits = omega arith
number_fits (Answered Clash) fits = omega arith
number_fits (Answered NoCell) fits = omega arith
number_fits (Answered WrongKind) fits = omega arith
number_fits (Answered Released) fits = omega arith
number_fits (Answered NoBlock) fits = omega arith
number_fits (Answered StillWaiting) fits = omega arith
number_fits (Answered Cleared) fits = omega arith
