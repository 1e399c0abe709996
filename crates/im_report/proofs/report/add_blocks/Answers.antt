use Rattle.std.proofs.Common.{◌++◌, string_bytes, ap, ◌∙◌}
use Rattle.im_text.proofs.TextLemmas.{written_more, written_none}
use Rattle.im_report.specs.Report.{block_line}
use Rattle.im_report.proofs.report.add_blocks.Goals as goal

pub loop-a-init : goal.loop-a-init
loop-a-init c = written_none _ _

pub loop-a-preserved : goal.loop-a-preserved
loop-a-preserved c = written_more _ _ _ _ _ c.loop-a.invariant (c.in_ok-add_block.ensures ∙ ap (λ b. string_bytes c.loop-a.out ++ block_line c.args.notation c.loop-a.a b) c.block.ensures)
