use Rattle.std.proofs.Common.{◌-◌, ◌++◌, string_bytes, ap, ◌∙◌, arith}
use Rattle.im_text.proofs.TextLemmas.{written_more_at, written_none_at}
use Rattle.im_report.proofs.ReportLemmas.{entry_at}
use Rattle.im_report.proofs.report.add_entries.Goals as goal

pub loop-number-init : goal.loop-number-init
loop-number-init c = λ w at bounds. written_none_at _ _ _ (omega arith)

pub loop-number-preserved : goal.loop-number-preserved
loop-number-preserved c = λ w at bounds.
    written_more_at _ (c.loop-number.number - c.args.bounds.0) _ _ _ _ (omega arith) (c.loop-number.invariant w at bounds)
    (c.in_ok-add_kept.ensures ∙ ap (λ line. string_bytes c.loop-number.out ++ line) (entry_at c.args.notation c.args.memory.now.contents.windows c.args.element w c.args.bounds.0 c.loop-number.number c.kept.result at bounds.0 (omega arith) c.kept.ensures))
