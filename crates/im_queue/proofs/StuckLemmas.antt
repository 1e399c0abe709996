-- The test of all servers, one after another.
use Rattle.std.proofs.Common.{◌≡◌, ℕ, zero, suc, ◌+◌, ◌<◌, Bool, true, false, ◌&&◌, ◌||◌, ◌≢◌, ◌↔◌, List, [], ◌∷◌}
use Rattle.std.proofs.Common.{length, get_or, drop, if◌then◌else◌, ◌==◌, slice_get, Some, None, Ok, Err, Option, Result}
use Rattle.std.proofs.Common.{sym, refl, ap, ◌∙◌, subst, arith, eq-eqb, eqb-true}
use Rattle.std.proofs.Math.Seq.{drop-cons}
use Rattle.im_types.specs.Types.{Entry, Reply, Waiting, Answered, Refusal, Contents}
use Rattle.im_laws.proofs.Tests.{and_both}
use Rattle.im_queue.specs.declared.servers.ServerState.{ServerState}
use Rattle.im_queue.specs.declared.servers.ServerState.TheVariants.{Active, Retired, Unmade, Waits}
use Rattle.im_queue.specs.Servers.{AllStuckBut, are_stuck, entry_under, is_answered, is_stuck, IsStuck}

abbrev is_past : Contents → ℕ → ℕ → ServerState → Bool
is_past m k e x = (e == k) || is_stuck m e x

abbrev negated : Bool → Bool
negated b = if b then false else true

pub stuck_next : (m : Contents) (k : ℕ) (xs : List ServerState) (i : ℕ) (d : ServerState) → i < length xs
    → is_past m k i (get_or xs i d) ≡ true
    → are_stuck m k (i + 1) (drop (i + 1) xs) ≡ are_stuck m k i (drop i xs)
stuck_next m k xs i d within h =
    let next : i + 1 ≡ suc i = omega arith in
    ap (λ j. are_stuck m k j (drop j xs)) next
    ∙ sym (ap (λ b. b && are_stuck m k (suc i) (drop (suc i) xs)) h)
    ∙ sym (ap (λ l. are_stuck m k i l) (drop-cons xs i d within))

not_true : false ≢ true
not_true e = subst (λ (b : Bool). yes b) (sym e) tt
  where
    yes : Bool → Type 0
    yes true = Unit {0}
    yes false = ⊥

from_entry : (r : Result Entry Refusal) → ((v : Reply) → r ≢ Ok (Answered v)) → negated (is_answered r) ≡ true
from_entry (Ok (Answered v)) none = absurd (none v refl)
from_entry (Ok Waiting) none = refl
from_entry (Err r) none = refl

stuck_each : (m : Contents) (e : ℕ) (x : ServerState) → is_stuck m e x ≡ true → IsStuck m e x
stuck_each m e Unmade is = tt
stuck_each m e Active is = not_true is
stuck_each m e (Waits n) is = λ v answered. not_true (sym (ap (λ r. negated (is_answered r)) answered) ∙ is)
stuck_each m e Retired is = tt

each_stuck : (m : Contents) (e : ℕ) (x : ServerState) → IsStuck m e x → is_stuck m e x ≡ true
each_stuck m e Unmade is = refl
each_stuck m e Active is = absurd is
each_stuck m e (Waits n) is = from_entry (entry_under m e n) is
each_stuck m e Retired is = refl

past_stuck : (m : Contents) (k e : ℕ) (x : ServerState) → is_past m k e x ≡ true → e ≢ k → is_stuck m e x ≡ true
past_stuck m k e x is other = by_test (e == k) refl is
  where
    by_test : (t : Bool) → (e == k) ≡ t → (t || is_stuck m e x) ≡ true → is_stuck m e x ≡ true
    by_test true same is = absurd (other (eqb-true e k same))
    by_test false same is = is

stuck_past : (m : Contents) (k e : ℕ) (x : ServerState) → (e ≢ k → is_stuck m e x ≡ true) → is_past m k e x ≡ true
stuck_past m k e x is = by_test (e == k) refl
  where
    by_test : (t : Bool) → (e == k) ≡ t → (t || is_stuck m e x) ≡ true
    by_test true same = refl
    by_test false same = is (λ e_is. not_true (sym same ∙ eq-eqb e k e_is))

abbrev there : Option ServerState → Type 0
there None = ⊥
there (Some x) = Unit {0}

clash : {x : ServerState} → None ≡ Some x → ⊥
clash {x} e = subst (λ (o : Option ServerState). there o) (sym e) tt

abbrev or_else : Option ServerState → ServerState → ServerState
or_else None d = d
or_else (Some x) d = x

some-same : {y x : ServerState} → Some y ≡ Some x → y ≡ x
some-same {y} e = ap (λ o. or_else o y) e

later_ones : (m : Contents) (k e : ℕ) (xs : List ServerState) → are_stuck m k e xs ≡ true → (j : ℕ) (x : ServerState)
    → slice_get xs j ≡ Some x → e + j ≢ k → IsStuck m (e + j) x
later_ones m k e [] is j x at other = absurd (clash at)
later_ones m k e (y ∷ ys) is zero x at other =
    let here = past_stuck m k e y (and_both _ _ is).0 (λ same. other (omega (arith, same))) in
    let same : y ≡ x = some-same at in
    subst (λ (f : ℕ). IsStuck m f x) (omega arith)
    (subst (λ (z : ServerState). IsStuck m e z) same (stuck_each m e y here))
later_ones m k e (y ∷ ys) is (suc j) x at other =
    let next : suc e + j ≡ e + suc j = omega arith in
    subst (λ (f : ℕ). IsStuck m f x) next
    (later_ones m k (suc e) ys (and_both _ _ is).1 j x at (λ same. other (sym next ∙ same)))

all_ones : (m : Contents) (k e : ℕ) (xs : List ServerState)
    → ((j : ℕ) (x : ServerState) → slice_get xs j ≡ Some x → e + j ≢ k → IsStuck m (e + j) x)
    → are_stuck m k e xs ≡ true
all_ones m k e [] is = refl
all_ones m k e (y ∷ ys) is =
    let first : e + 0 ≡ e = omega arith in
    ap (λ a. a && are_stuck m k (suc e) ys)
    (stuck_past m k e y
    (λ other. each_stuck m e y
    (subst (λ (f : ℕ). IsStuck m f y) first (is 0 y refl (λ same. other (sym first ∙ same))))))
    ∙ (all_ones m k (suc e) ys
    (λ j x at other. let next : e + suc j
    ≡ suc e + j = omega arith in subst (λ (f : ℕ). IsStuck m f x) next
    (is (suc j) x at (λ same. other (sym next ∙ same)))))

pub stuck_is_each : (m : Contents) (k : ℕ) (xs : List ServerState) → (are_stuck m k 0 xs ≡ true) ↔ AllStuckBut m k xs
stuck_is_each m k xs = (
  (λ is e x at other. subst (λ (f : ℕ). IsStuck m f x) (zero_plus e)
      (later_ones m k 0 xs is e x at (λ same. other (sym (zero_plus e) ∙ same)))),
  (λ each. all_ones m k 0 xs
      (λ j x at other. subst (λ (f : ℕ). IsStuck m f x) (sym (zero_plus j))
      (each j x at (λ same. other (zero_plus j ∙ same))))),
)
  where
    zero_plus : (n : ℕ) → 0 + n ≡ n
    zero_plus n = omega arith
