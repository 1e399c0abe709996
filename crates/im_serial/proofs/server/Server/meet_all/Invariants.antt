use Rattle.std.{proofs.Common.◌≡◌, proofs.Common.[], specs.Option.option_map_or}
use Rattle.im_script.specs.Script.{draft_of, lines_of}
use Rattle.im_serial.specs.{Asked.wanted_in, Asked.wanted_of, Once.MakesBlocks, Once.Meets, Once.Names, Serving.seen_by}

abbrev pub invariant-loop-number : Rattle.im_serial.proofs.server.Server.meet_all.Given.invariant-loop-number
invariant-loop-number g l = (l.self.session ≡ l.fn.self.session)
    × (Names l.fn.past.many.items l.fn.past.end (wanted_of l.script) l.past.many.items l.past.end
    (option_map_or (λ text. wanted_in (draft_of l.reader) (lines_of text.now)) l.rest [])
    l.fn.self.bases.items l.self.bases.items
    × (MakesBlocks l.fn.self.session.engine.memory l.fn.past.many.items (wanted_of l.script) l.past.many.items
    (option_map_or (λ text. wanted_in (draft_of l.reader) (lines_of text.now)) l.rest [])
    × Meets l.fn.past.many.items (wanted_of l.script) l.past.many.items
    (option_map_or (λ text. wanted_in (draft_of l.reader) (lines_of text.now)) l.rest [])
    (seen_by l.fn.self (g.W.Write.contents l.fn.out))
    (seen_by l.self (g.W.Write.contents l.out))))
