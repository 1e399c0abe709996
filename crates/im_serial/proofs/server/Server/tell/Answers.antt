use Rattle.std.proofs.Common.{List, length, OnOk, subst}
use Rattle.im_text.specs.{declared.Waited.Waited, Said.nows, Said.PrintsMore, Said.PrintsNows}
use Rattle.im_serial.proofs.server.Server.tell.Goals as goal

pub returns-clause-all : goal.returns-clause-all
returns-clause-all g c =
    let was = g.W.Write.contents c.args.out.now in
    let is = g.W.Write.contents c.print_nows.new.out in
    subst (λ (w : List Waited). OnOk c.print_nows.result (PrintsMore was c.args.self.now.lines is c.print_nows.new.lines
    (nows w (length w)))) c.as_slice.ensures.value c.print_nows.ensures.all

pub returns-clause-some : goal.returns-clause-some
returns-clause-some g c =
    let was = g.W.Write.contents c.args.out.now in
    let is = g.W.Write.contents c.print_nows.new.out in
    subst (λ (w : List Waited). PrintsNows was c.args.self.now.lines is c.print_nows.new.lines w)
    c.as_slice.ensures.value c.print_nows.ensures.some
