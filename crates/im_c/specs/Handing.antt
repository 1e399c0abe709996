-- What a call does with the contents of a handle that it takes and hands out again.
use Rattle.std.specs.Prelude.{◌≡◌, IfSome, IsSome, Option}

-- The contents stay, and have this property.
pub record ShowsHeld {T : Type 0} (old new : Option T) (P : T → Type 0) : Type 0 where
  pub same : new ≡ old
  pub shown : IfSome old P

-- The contents become what they may become.
pub record Becomes {T : Type 0} (old new : Option T) (P : T → T → Type 0) : Type 0 where
  pub held : IsSome new
  pub became : IfSome old (λ was. IfSome new (P was))
