use Rattle.std.proofs.Common.{◌∷◌, sym, subst}
use Rattle.im_text.specs.{declared.Lines.Lines, Said.Prints}
use Rattle.im_serial.{proofs.ScriptedLemmas.asked_then, proofs.ScriptedLemmas.prepared_goes, specs.Asked.standing}
use Rattle.im_serial.proofs.server.Server.request.Goals as goal

pub returns-in-Ok-clause-serves : goal.returns-in-Ok-clause-serves
returns-in-Ok-clause-serves g c =
    let old = c.args.self.now in
    let mid = c.number.new.self in
    asked_then c.ask.result c.args.element c.args.op _ _ _
    (prepared_goes old.session mid.session old.waited.items mid.waited.items old.places.marks.items
    mid.places.marks.items (g.W.Write.contents c.args.out.now) old.lines mid.lines c.in-Ok.ensures.goes
    c.number.ensures.lines)
    c.ask.ensures.serves

pub returns-in-Err-clause-serves : goal.returns-in-Err-clause-serves
returns-in-Err-clause-serves g c = record {
  serves = tt;
  ends = λ w before is asks start from script rest going. record {
    text = going.text;
    over = c.in-Err.ensures.goes start (standing script before (w ∷ rest)) going.text going.serving;
    printed = subst (λ (l : Lines). Prints from (g.W.Write.contents c.args.out.now) l going.text)
        (sym c.number.ensures.lines) going.printed;
  };
}
