-- Commands that stand in two lists, one behind the other.
use Rattle.std.proofs.Common.{◌≡◌, ℕ, Bool, true, false, ◌||◌, List, [], ◌∷◌, ◌++◌, refl}
use Rattle.std.specs.List.{list_any}
use Rattle.im_types.specs.Types.{Command}
use Rattle.im_groups.specs.Ahead.{bounds_behind, bounds_behind_all}

pub moved-append : (e : ℕ) (cs ds : List Command) (b : ℕ × ℕ) → bounds_behind_all e (cs ++ ds) b
    ≡ bounds_behind_all e ds (bounds_behind_all e cs b)
moved-append e [] ds b = refl
moved-append e (c ∷ cs) ds b = moved-append e cs ds (bounds_behind e c b)

pub any-append : {X : Type 0} (test : X → Bool) (xs ys : List X) → list_any test (xs ++ ys)
    ≡ (list_any test xs || list_any test ys)
any-append test [] ys = refl
any-append test (x ∷ xs) ys = by_test (test x) (any-append test xs ys)
  where
    by_test : (b : Bool) → list_any test (xs ++ ys) ≡ (list_any test xs || list_any test ys)
        → (b || list_any test (xs ++ ys)) ≡ ((b || list_any test xs) || list_any test ys)
    by_test true e = refl
    by_test false e = e
