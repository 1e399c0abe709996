use Rattle.std.proofs.Common.{◌++◌}
use Rattle.im_run.specs.Tracing.{PrintsTraced}

abbrev pub invariant-loop-at : Rattle.im_run.proofs.tracing.print_lines.Given.invariant-loop-at
invariant-loop-at g l = PrintsTraced l.both.objects l.both.setup.now (l.both.setup.now ++ l.both.served.now) l.at
    (g.W.Write.contents l.fn.out) l.fn.batch (g.W.Write.contents l.out) l.batch
