use Rattle.std.proofs.Common.{◌++◌, Option, subst, arith}
use Rattle.{im_types.specs.Types.Line, im_text.specs.Printing.BatchesMore}
use Rattle.im_run.proofs.TracingLemmas.{all_printed, begins_on, begins_with, none_printed, one_printed}
use Rattle.im_run.specs.Tracing.{traced_text}
use Rattle.im_run.proofs.tracing.print_lines.Goals as goal

pub loop-at-init : goal.loop-at-init
loop-at-init g c =
    let p = c.args.both in
    none_printed p.objects p.setup.now (p.setup.now ++ p.served.now) (g.W.Write.contents c.args.out.now)
    c.args.batch.now

pub loop-at-preserved : goal.loop-at-preserved
loop-at-preserved g c =
    let both = c.args.both in
    let p = c.print_call in
    let mid = g.W.Write.contents c.loop-at.out in
    one_printed both.objects both.setup.now (both.setup.now ++ both.served.now) c.loop-at.at c.marks_at-since.result
    (g.W.Write.contents c.args.out.now) mid (g.W.Write.contents p.new.out) c.args.batch.now c.loop-at.batch p.new.batch
    c.loop-at.invariant c.marks_at-since.ensures
    (subst (λ (l : Option Line). BatchesMore mid c.loop-at.batch (g.W.Write.contents p.new.out) p.new.batch
    (traced_text both.objects c.marks_at-since.result l)) c.line_at-line.ensures c.in-Ok.ensures.more)

pub returns-in-Err-clause-some : goal.returns-in-Err-clause-some
returns-in-Err-clause-some g c =
    let both = c.args.both in
    let p = c.print_call in
    let was = g.W.Write.contents c.args.out.now in
    let mid = g.W.Write.contents c.loop-at.out in
    let before = c.args.batch.now in
    let all = both.setup.now ++ both.served.now in
    begins_on both.objects both.setup.now all was mid (g.W.Write.contents p.new.out) before c.loop-at.batch p.new.batch
    (begins_with both.objects both.setup.now all c.loop-at.at was mid before c.loop-at.batch
    (omega (arith, c.loop-at-test.true, c.count_of-at-end.ensures)) c.loop-at.invariant) c.in-Err.ensures.more

pub returns-clause-all : goal.returns-clause-all
returns-clause-all g c =
    let both = c.args.both in
    all_printed both.objects both.setup.now (both.setup.now ++ both.served.now) c.loop-at.at
    (g.W.Write.contents c.args.out.now) (g.W.Write.contents c.loop-at.out) c.args.batch.now c.loop-at.batch
    (omega (arith, c.loop-at.auto.at-end, c.count_of-at-end.ensures)) c.loop-at.invariant

pub returns-clause-some : goal.returns-clause-some
returns-clause-some g c =
    let both = c.args.both in
    begins_with both.objects both.setup.now (both.setup.now ++ both.served.now) c.loop-at.at
    (g.W.Write.contents c.args.out.now) (g.W.Write.contents c.loop-at.out) c.args.batch.now c.loop-at.batch
    (omega (arith, c.loop-at.auto.at-end, c.count_of-at-end.ensures)) c.loop-at.invariant
