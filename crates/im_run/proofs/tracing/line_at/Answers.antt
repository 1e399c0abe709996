use Rattle.std.proofs.Common.{sym, ◌∙◌}
use Rattle.im_run.proofs.TracingLemmas.{get_second}

pub returns : Rattle.im_run.proofs.tracing.line_at.Goals.returns
returns c = c.served_at.ensures ∙ sym (get_second c.args.setup.now c.args.served.now c.args.at c.if-at-setup.false)
