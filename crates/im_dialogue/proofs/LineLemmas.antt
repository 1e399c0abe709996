-- Of a line no more than a bound is kept. (Own.)
use Rattle.std.proofs.Common.{◌≡◌, ℕ, ◌+◌, ◌-◌, ◌≤◌, List, ◌++◌, length, take, is_ok, if◌then◌else◌, OnOk, Ok, Err}
use Rattle.std.proofs.Common.{Result, sym, ap, ◌∙◌, arith, length-append, take_all}
use lib.Seq.{take-append-add}

-- what fits is kept whole
pub kept_all : (line part : List ℕ) (most : ℕ) → length line ≤ most → length part ≤ most - length line
    → line ++ part ≡ take most (line ++ part)
kept_all line part most few fits =
    sym (take_all most (line ++ part) (omega (arith, length-append line part, few, fits)))

-- and of what doesn't its beginning
pub kept_some : (line part : List ℕ) (most : ℕ) → length line ≤ most
    → line ++ take (most - length line) part ≡ take most (line ++ part)
kept_some line part most few =
    let whole : most ≡ length line + (most - length line) = omega (arith, few) in
    sym (take-append-add line part (most - length line)) ∙ ap (λ (n : ℕ). take n (line ++ part)) (sym whole)

-- what was added, where it could be
pub added : {A E : Type 0} (r : Result A E) (new old more want : List ℕ)
    → new ≡ (if is_ok r then old ++ more else old) → old ++ more ≡ want → OnOk r (new ≡ want)
added (Ok x) new old more want is same = is ∙ same
added (Err e) new old more want is same = tt
