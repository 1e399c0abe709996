-- A buffer that was just made over a prompter has the bytes of the reader below.
use Rattle.std.proofs.Common.{◌≡◌, ℕ, List, [], if◌then◌else◌, ◌==◌, Some, None, Option, refl, ap, ◌∙◌}
use Rattle.std.specs.{declared.io.buffered.BufReader.BufReader, Io.KnownBytes.prepend_known}
use Rattle.std.specs.Io.Buffered.{reader_buffer, reader_capacity, reader_inner, reader_remaining}
use Rattle.im_program.specs.{declared.Prompter.Prompter, Prompting.prompted}

prepended : (bytes : Option (List ℕ)) → prepend_known [] bytes ≡ bytes
prepended None = refl
prepended (Some bytes) = refl

with_room : (capacity : ℕ) (read : List ℕ) (left : Option (List ℕ)) → read ≡ [] → capacity ≡ 8192
    → (if capacity == 0 then None else prepend_known read left) ≡ left
with_room capacity read left empty room = rw room (rw empty (prepended left))

buffered : {T A : Type 0} (remaining : T → Option (List ℕ)) (r : BufReader T A) (inner : T) → reader_inner r ≡ inner
    → reader_buffer r ≡ [] → reader_capacity r ≡ 8192 → reader_remaining remaining r ≡ remaining inner
buffered remaining r inner is empty room =
    with_room (reader_capacity r) (reader_buffer r) (remaining r.inner) empty room ∙ ap remaining is

pub heard_as : {R I A : Type 0} (remaining : I → Option (List ℕ)) (r : BufReader (Prompter R I) A) (p : Prompter R I)
    (heard : I) → reader_inner r ≡ p → reader_buffer r ≡ [] → reader_capacity r ≡ 8192 → prompted p ≡ heard
    → reader_remaining (λ (q : Prompter R I). remaining (prompted q)) r ≡ remaining heard
heard_as {R} {I} remaining r p heard is empty room below =
    buffered (λ (q : Prompter R I). remaining (prompted q)) r p is empty room ∙ ap remaining below
