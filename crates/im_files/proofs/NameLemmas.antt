-- A note that begins with the name of a run isn't of an earlier one.
use Rattle.std.proofs.Common.{◌≡◌, ℕ, ◌<◌, Bool, true, false, not, ◌&&◌, List, [], ◌∷◌, ◌++◌, length, IfSome, ◌==◌}
use Rattle.std.proofs.Common.{Some, None, Option, bytes_eq, sym, refl, ap, subst, append-nil, arith, length-append}
use Rattle.std.proofs.Common.{eqb-true}
use Rattle.std.proofs.lemmas.{Bool.and_left, Bool.and_right, Bool.Decides.nat_tests, Slice.Eq.bytes_eq-Decides}
use Rattle.std.specs.Io.KnownBytes.{Appends, Consumes}
use Rattle.im_files.specs.Notes.{is_earlier, IsOfRun}

-- a note isn't of an earlier run than the one of its own text
self_name : (name : List ℕ) → is_earlier name name ≡ false
self_name name = and_right (length name == 37) ((length name == 37) && not (bytes_eq name name))
    (and_right (length name == 37) (not (bytes_eq name name)) (ap not ((bytes_eq-Decides name name).1 refl)))

other : (m n : ℕ) → m ≡ 37 → m < n → (n == 37) ≡ false
other m n is less = grind (arith, nat_tests, is, less)

-- of two texts of different lengths, none is of an earlier run
differ : (m n : ℕ) (a b : Bool) → (m == 37) ≡ a → m < n → (a && ((n == 37) && b)) ≡ false
differ m n false b is less = refl
differ m n true b is less = and_left (n == 37) b (other m n (eqb-true m 37 is) less)

longer : (name : List ℕ) (r : ℕ) (rs : List ℕ) → length name < length (name ++ r ∷ rs)
longer name r rs = grind (arith, length-append)

pub own_name : (name rest : List ℕ) → is_earlier name (name ++ rest) ≡ false
own_name name [] = subst (λ it. is_earlier name it ≡ false) (sym (append-nil name)) (self_name name)
own_name name (r ∷ rs) = differ (length name) (length (name ++ r ∷ rs)) (length name == 37)
    (not (bytes_eq name (name ++ r ∷ rs))) refl (longer name r rs)

named : (known rest : Option (List ℕ)) (name : List ℕ) → Consumes known rest name
    → IfSome known (λ text. is_earlier name text ≡ false)
named None rest name read = tt
named (Some text) None name read = absurd read
named (Some text) (Some rest) name read =
    subst (λ (it : List ℕ). is_earlier name it ≡ false) (sym read) (own_name name rest)

pub of_run : (known rest was is : Option (List ℕ)) (name : List ℕ) → Consumes known rest name → Appends was is name
    → IsOfRun known was is
of_run known rest was is name read written = (name, written, named known rest name read)
