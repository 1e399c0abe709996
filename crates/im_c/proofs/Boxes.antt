-- What holds of an image holds of it in a box.
use Rattle.std.proofs.Common.{◌≡◌, IfSome, IfOk, Some, Ok, Err, Option, Result, sym, subst}

pub in_box : {B V E : Type 0} (r : Result B E) (value : B → V) (i : V) (P : V → Type 0) → IfOk r (λ b. value b ≡ i)
    → P i → IfOk r (λ b. P (value b))
in_box (Ok b) value i P e p = subst P (sym e) p
in_box (Err x) value i P e p = tt

pub in_some : {V : Type 0} (o : Option V) (v : V) (P : V → Type 0) → o ≡ Some v → P v → IfSome o P
in_some o v P e p = subst (λ (x : Option _). IfSome x P) (sym e) p
