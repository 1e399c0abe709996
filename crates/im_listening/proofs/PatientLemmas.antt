-- What a read gives behind one that gave nothing. (Own.)
use Rattle.std.proofs.Common.{ℕ, List, Some, None, Ok, Err, Option, Result, subst}
use Rattle.std.specs.Io.KnownBytes.{Keeps, ReadConsumes}

pub reads_on : {E : Type 0} (a b c : Option (List ℕ)) (r : Result ℕ E) (buf : List ℕ) → Keeps a b → ReadConsumes b c r buf → ReadConsumes a c r buf
reads_on None b c (Ok n) buf k h = (tt, h.1)
reads_on None b c (Err e) buf k h = tt
reads_on (Some x) None c r buf k h = absurd k
reads_on (Some x) (Some y) c r buf k h = subst (λ (z : List ℕ). ReadConsumes (Some z) c r buf) k h
