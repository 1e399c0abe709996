-- What a listener still gives. (Own.)
use Rattle.std.specs.{Prelude.ℕ, Prelude.List, Prelude.Option, declared.io.traits.Read.Ghosts as Reads}
use Rattle.im_listening.specs.declared.{input_bytes.InputBytes.Ghosts as Bytes, listener.Listener.Listener}
use Rattle.im_listening.specs.Lending.{not_given}

-- the bytes of its input that it hasn't given yet
abbrev pub still_in : {R I K : Type 0} {i : Reads I} {k : Bytes K} → Listener R I K i k → Option (List ℕ)
still_in {k = k} listener = not_given k.whole listener.given
