use Rattle.std.{proofs.Common.◌≡◌, proofs.Common.length, specs.Io.KnownBytes.Keeps}

abbrev pub invariant-loop : Rattle.im_listening.proofs.patient.read_waiting.Given.invariant-loop
invariant-loop g l = (length l.buf ≡ length l.fn.buf) × Keeps (g.I.Read.remaining l.fn.input) (g.I.Read.remaining l.input)
