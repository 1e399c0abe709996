use Rattle.std.proofs.Common.{[], if◌then◌else◌, ap, ◌∙◌}
use Rattle.im_run.proofs.TracingLemmas.{none_begun, on_ok_both, traced_all, traced_some}
use Rattle.im_run.specs.Tracing.{TraceState}
use Rattle.im_run.proofs.tracing.write_trace.Goals as goal

pub returns-in_default-clause-begins : goal.returns-in_default-clause-begins
returns-in_default-clause-begins g c =
    none_begun c.args.objects c.args.trace.now (g.W.Write.contents c.args.out.now)

pub returns-in-Ok-print_lines-clause-whole : goal.returns-in-Ok-print_lines-clause-whole
returns-in-Ok-print_lines-clause-whole g c =
    let a = c.as_slice in
    let b = c.as_slice-2 in
    let p = c.print_lines in
    let f = c.flush in
    on_ok_both f.result (λ works flushed. traced_all c.args.objects c.args.trace.now a.result.now b.result.now
    (a.ensures.value ∙ ap (λ (t : TraceState). t.setup) c.trace.view_is)
    (b.ensures ∙ ap (λ (t : TraceState). if t.recorded then t.served else []) c.trace.view_is)
    (g.W.Write.contents c.args.out.now) (g.W.Write.contents p.new.out) (g.W.Write.contents f.new.out) c.in-Ok.batch
    p.new.batch f.new.self c.in-Ok.ensures.pending c.in-Ok-print_lines.ensures.all f.ensures.on works flushed)
    f.ensures.works f.ensures.pending

pub returns-in-Ok-print_lines-clause-begins : goal.returns-in-Ok-print_lines-clause-begins
returns-in-Ok-print_lines-clause-begins g c =
    let a = c.as_slice in
    let b = c.as_slice-2 in
    let p = c.print_lines in
    let f = c.flush in
    traced_some c.args.objects c.args.trace.now a.result.now b.result.now
    (a.ensures.value ∙ ap (λ (t : TraceState). t.setup) c.trace.view_is)
    (b.ensures ∙ ap (λ (t : TraceState). if t.recorded then t.served else []) c.trace.view_is)
    (g.W.Write.contents c.args.out.now) (g.W.Write.contents p.new.out) (g.W.Write.contents f.new.out) c.in-Ok.batch
    p.new.batch f.new.self c.in-Ok.ensures.pending p.ensures.some f.ensures.on

pub returns-clause-begins : goal.returns-clause-begins
returns-clause-begins g c =
    let a = c.as_slice in
    let b = c.as_slice-2 in
    let p = c.print_lines in
    let f = c.flush-written in
    traced_some c.args.objects c.args.trace.now a.result.now b.result.now
    (a.ensures.value ∙ ap (λ (t : TraceState). t.setup) c.trace.view_is)
    (b.ensures ∙ ap (λ (t : TraceState). if t.recorded then t.served else []) c.trace.view_is)
    (g.W.Write.contents c.args.out.now) (g.W.Write.contents p.new.out) (g.W.Write.contents f.new.out) c.in-Ok.batch
    p.new.batch f.new.self c.in-Ok.ensures.pending p.ensures.some f.ensures.on
