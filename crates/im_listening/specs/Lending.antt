-- What a reader that comes and goes still gives. (Own.)
use Rattle.std.specs.Prelude.{◌≡◌, ℕ, ◌≢◌, List, [], ◌∷◌, ◌++◌, drop, IfSome, MatchResult, Some, Option, Result}
use Rattle.std.specs.Prelude.{option_map}
use Rattle.std.specs.Option.{ForSome}
use Rattle.im_listening.specs.declared.delivery.Delivery.{Delivery}
use Rattle.im_listening.specs.declared.delivery.Delivery.TheVariants as heard_as

-- an input has these bytes, where they are known
abbrev pub HasBytes : Option (List ℕ) → Option (List ℕ) → Type 0
HasBytes whole has = IfSome whole (λ all. has ≡ Some all)

-- what is left of these bytes once so many were given
abbrev pub not_given : Option (List ℕ) → ℕ → Option (List ℕ)
not_given whole given = option_map (λ all. drop given all) whole

-- the bytes that were heard
abbrev pub bytes_heard : Delivery → List ℕ
bytes_heard (heard_as.Byte byte) = byte ∷ []
bytes_heard _ = []

-- Of these bytes so many were given. What is left of them was heard, or is what the input has. It has nothing once its
-- end was heard.
abbrev pub StillHas : Option (List ℕ) → ℕ → Delivery → Option (List ℕ) → Type 0
StillHas whole given heard has = ForSome whole (λ all.
    (option_map (λ left. bytes_heard heard ++ left) has ≡ Some (drop given all))
    × (heard ≡ heard_as.End → has ≡ Some []))

-- A read of one byte lets this be heard: the byte, the end if it gave none, or its error.
abbrev pub HearsByte : {E : Type 0} → Result ℕ E → ℕ → Delivery → Type 0
HearsByte read byte heard = MatchResult read
    (λ n. (n ≡ 0 → heard ≡ heard_as.End) × (n ≢ 0 → heard ≡ heard_as.Byte byte))
    (λ _. (bytes_heard heard ≡ []) × (heard ≢ heard_as.End))
