-- What holds of a result, if there is a value.
use Rattle.std.proofs.Common.{IfOk, Ok, Err, Result}

module _ {A E : Type 0} (P Q : A → Type 0) where
  pub ok_then : (r : Result A E) → ((a : A) → P a → Q a) → IfOk r P → IfOk r Q
  ok_then (Ok a) each it = each a it
  ok_then (Err e) each it = tt
