use Rattle.std.proofs.Common.{Option, sym, subst}
use Rattle.im_text.proofs.SaidLemmas.{prints_same}
use Rattle.im_text.specs.{declared.Waited.Waited, Said.answered_now, Said.PrintsMore}

pub returns-in-None : Rattle.im_serial.proofs.server.push_now.Goals.returns-in-None
returns-in-None g c =
    let was = g.W.Write.contents c.args.out.now in
    let lines = c.args.lines.now in record {
      more = subst (λ (w : Option Waited). PrintsMore was lines was lines (answered_now w)) (sym c.in-None.is)
          (prints_same was lines);
    }
