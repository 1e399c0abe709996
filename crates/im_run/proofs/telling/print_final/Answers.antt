use Rattle.std.proofs.Common.{Option, sym, subst}
use Rattle.im_text.{proofs.SaidLemmas.prints_same, specs.Said.PrintsMore}
use Rattle.im_run.specs.{declared.served.Did.Did, Running.final_line}

pub returns-in-None : Rattle.im_run.proofs.telling.print_final.Goals.returns-in-None
returns-in-None g c =
    let m = c.args.memory.now.contents in
    let was = g.W.Write.contents c.args.out.now in
    let lines = c.args.lines.now in record {
      more = subst (λ (d : Option Did). PrintsMore was lines was lines (final_line m d)) (sym c.in-None.is)
          (prints_same was lines);
    }
