use Rattle.std.{proofs.Common.[], specs.Option.option_map_or}
use Rattle.im_script.specs.Script.{draft_of, lines_of}
use Rattle.im_serial.specs.{Asked.wanted_in, Asked.wanted_of, Fitting.Compared}

abbrev pub invariant-loop-number : Rattle.im_serial.proofs.comparing.compare_all.Given.invariant-loop-number
invariant-loop-number l = Compared l.memory.contents l.fn.past.many.items [] l.fn.past.end (wanted_of l.script)
    l.past.many.items l.bases.items l.past.end
    (option_map_or (λ text. wanted_in (draft_of l.reader) (lines_of text.now)) l.rest [])
