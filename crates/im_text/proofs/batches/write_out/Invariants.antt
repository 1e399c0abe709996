use Rattle.std.{proofs.Common.◌≤◌, proofs.Common.length, proofs.Common.take, specs.Io.KnownBytes.Appends}

abbrev pub invariant-loop-turn : Rattle.im_text.proofs.batches.write_out.Given.invariant-loop-turn
invariant-loop-turn g l = (l.written ≤ length l.bytes) × Appends (g.W.Write.contents l.fn.out) (g.W.Write.contents l.out) (take l.written l.bytes)
