use Rattle.std.{proofs.Common.[], specs.Option.option_map_or}
use Rattle.im_script.specs.Script.{draft_of, lines_of}
use Rattle.im_serial.specs.{Asked.wanted_in, Asked.wanted_of, Serving.Passes, Serving.seen_by}

abbrev pub invariant-loop-number : Rattle.im_serial.proofs.server.Server.serve.Given.invariant-loop-number
invariant-loop-number g l = Passes (wanted_of l.script) l.fn.self.bases.items (option_map_or (λ text. wanted_in (draft_of l.reader) (lines_of text.now)) l.rest []) l.self.bases.items
    (seen_by l.fn.self (g.W.Write.contents l.fn.out))
    (seen_by l.self (g.W.Write.contents l.out))
