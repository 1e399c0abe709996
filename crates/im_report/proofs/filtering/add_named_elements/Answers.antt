use Rattle.std.proofs.Common.{◌++◌, slice_get, string_bytes, ap, ◌∙◌}
use Rattle.im_text.proofs.TextLemmas.{written_more, written_none}
use Rattle.im_report.specs.{Look.text_if, Report.window_text}
use Rattle.im_report.proofs.filtering.add_named_elements.Goals as goal

pub loop-element-init : goal.loop-element-init
loop-element-init c = written_none _ _

pub loop-element-preserved : goal.loop-element-preserved
loop-element-preserved c = written_more _ _ _ _ _ c.loop-element.invariant
    (c.in_ok-add_element_if.ensures ∙ ap (λ w. string_bytes c.loop-element.out ++ text_if w (window_text c.args.notation c.loop-element.element
    (slice_get c.args.memory.now.contents.windows c.loop-element.element))) c.names_element-wanted.ensures)
