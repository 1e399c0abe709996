-- Elements of lists, by place and each, and what tests come to.
use Rattle.std.proofs.Common.{◌≡◌, ℕ, zero, suc, Bool, true, cond, List, [], ◌∷◌, ◌++◌, length, IfSome, slice_get, Some}
use Rattle.std.proofs.Common.{None, Option, filter_map, sym, refl, ap, ◌∙◌, subst, append-nil, arith}
use Rattle.std.proofs.lemmas.{List.Elements.filter_map-append, Option.none-some}
use Rattle.std.specs.List.{AllByRecursion, cons_option}

pub get-left : {X : Type 0} (xs ys : List X) (k : ℕ) (x : X) → slice_get xs k ≡ Some x → slice_get (xs ++ ys) k ≡ Some x
get-left [] ys k x at = absurd (none-some x at)
get-left (y ∷ xs) ys zero x at = at
get-left (y ∷ xs) ys (suc k) x at = get-left xs ys k x at

pub get-end : {X : Type 0} (xs ys : List X) (k : ℕ) (x : X) → k ≡ length xs → slice_get (xs ++ x ∷ ys) k ≡ Some x
get-end [] ys zero x e = refl
get-end [] ys (suc k) x e = absurd (omega arith)
get-end (y ∷ xs) ys zero x e = absurd (omega arith)
get-end (y ∷ xs) ys (suc k) x e = get-end xs ys k x (omega arith)

-- an entry that is said under a test that holds
pub if_tested : {X : Type 0} (test : Bool) (x : X) (P : X → Type 0) → test ≡ true → P x
    → IfSome (cond test (Some x) None) P
if_tested test x P holds p = subst (λ t. IfSome (cond t (Some x) None) P) (sym holds) p

-- one more event
pub filter_map-skips : {X Y : Type 0} (f : X → Option Y) (xs : List X) (x : X) → f x ≡ None
    → filter_map f (xs ++ x ∷ []) ≡ filter_map f xs
filter_map-skips f xs x none = filter_map-append f xs (x ∷ []) ∙ ap (λ o. filter_map f xs ++ cons_option o []) none
    ∙ append-nil (filter_map f xs)

pub filter_map-adds : {X Y : Type 0} (f : X → Option Y) (xs later : List X) (x : X) (y : Y) → f x ≡ Some y
    → filter_map f (xs ++ x ∷ later) ≡ filter_map f xs ++ y ∷ filter_map f later
filter_map-adds f xs later x y some = filter_map-append f xs (x ∷ later)
    ∙ ap (λ o. filter_map f xs ++ cons_option o (filter_map f later)) some

-- what holds of each element
pub all_map : {X : Type 0} (P Q : X → Type 0) (xs : List X) → ((x : X) → P x → Q x) → AllByRecursion P xs
    → AllByRecursion Q xs
all_map P Q [] f all = tt
all_map P Q (x ∷ xs) f all = (f x all.0, all_map P Q xs f all.1)

pub all_append : {X : Type 0} (P : X → Type 0) (xs ys : List X) → AllByRecursion P xs → AllByRecursion P ys
    → AllByRecursion P (xs ++ ys)
all_append P [] ys none all = all
all_append P (x ∷ xs) ys some all = (some.0, all_append P xs ys some.1 all)
