use Rattle.std.proofs.Common.{List, subst, arith, take_all}
use Rattle.im_types.specs.Types.{Command}
use Rattle.im_groups.{proofs.MarkLemmas.marked-all, specs.Marks.HaveMarks}
use Rattle.im_groups.proofs.marks.mark_all.Goals as goal

pub loop-command-preserved : goal.loop-command-preserved
loop-command-preserved c = marked-all c.loop-command.marks c.mark.new.marks c.args.commands.now
    c.loop-command.command-index _ c.loop-command-test.true c.loop-command.invariant c.mark.ensures

pub returns : goal.returns
returns c = subst (λ (l : List Command). HaveMarks c.loop-command.marks l)
    (take_all c.loop-command.command-index c.args.commands.now (omega (arith, c.loop-command-test.false)))
    c.loop-command.invariant
