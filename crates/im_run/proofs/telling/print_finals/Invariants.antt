use Rattle.im_text.specs.Said.{PrintsMore}
use Rattle.im_run.specs.Running.{finals}

abbrev pub invariant-loop-at : Rattle.im_run.proofs.telling.print_finals.Given.invariant-loop-at
invariant-loop-at g l = PrintsMore (g.W.Write.contents l.fn.out) l.fn.lines (g.W.Write.contents l.out) l.lines (finals l.memory.contents l.did l.at)
