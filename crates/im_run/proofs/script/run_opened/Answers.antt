use Rattle.std.proofs.Common.{ℕ, List, subst}
use Rattle.im_serial.specs.{Once.HasServedNothing, Serving.seen_by}
use Rattle.im_run.proofs.script.run_opened.Goals as goal

pub run_server-requires-clause-ready : goal.run_server-requires-clause-ready
run_server-requires-clause-ready g c κs within =
    let it = c.requires.ready in
    let held = g.W.Write.contents c.args.out.now in
    subst (λ (b : List ℕ). HasServedNothing (seen_by c.args.server held) b) it.bases_is it

pub run_server-requires-clause-bases : goal.run_server-requires-clause-bases
run_server-requires-clause-bases g c κs within = c.requires.ready.bases_is

pub returns-then-asked-clause-ends : goal.returns-then-asked-clause-ends
returns-then-asked-clause-ends g c = rw c.if-asked.true c.run_rest.ensures.ends

pub returns-clause-ends : goal.returns-clause-ends
returns-clause-ends g c = rw c.if-asked.false c.run_server.ensures.run
