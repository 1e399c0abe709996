use Rattle.std.proofs.Common.{List, sym, subst}
use Rattle.im_serial.{proofs.ScriptedLemmas.quiet, specs.Asked.Wanted, specs.Serving.HasServed, specs.Serving.seen_by}
use Rattle.im_serial.proofs.server.Server.serve_new.Goals as goal

pub returns-then-has-clause-served : goal.returns-then-has-clause-served
returns-then-has-clause-served g c =
    let was = c.args.self.now in
    let old = seen_by was (g.W.Write.contents c.args.out.now)
    in
    quiet _ _ was.bases.items old (c.has.ensures.had c.if-has.true)

pub returns-else-has-clause-served : goal.returns-else-has-clause-served
returns-else-has-clause-served g c =
    let was = c.args.self.now in
    let old = seen_by was (g.W.Write.contents c.args.out.now)
    in
    let s = c.serve_and_show.new.self in
    let new = seen_by s (g.W.Write.contents c.serve_and_show.new.out) in
    subst (λ (l : List Wanted). HasServed l was.bases.items s.bases.items c.serve_and_show.result old new)
    (sym (c.has.ensures.new c.if-has.false)) c.serve_and_show.ensures.served
