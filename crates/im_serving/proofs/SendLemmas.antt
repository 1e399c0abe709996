-- What was sent is a beginning of what was to be sent. (Own.)
use Rattle.std.proofs.Common.{◌≡◌, ℕ, List, ◌++◌, take, drop, ap, ◌∙◌, take-append-drop}
use Rattle.im_serving.specs.declared.intent.Intent.{Intent}
use mathlib.Core.List.{IsPrefix}

pub is_beginning : (k : ℕ) (xs ys : List Intent) → ys ≡ take k xs → IsPrefix ys xs
is_beginning k xs ys e = (drop k xs, ap (λ zs. zs ++ drop k xs) e ∙ take-append-drop k xs)
