use Rattle.std.proofs.Common.{option_and_then, sym, ap, ◌∙◌}
use Rattle.im_formats.specs.Reading.{cell_if, cell_in}
use Rattle.im_records.proofs.Reading.{cell_by, no_cell}
use Rattle.im_records.proofs.read.read_cell.Goals as goal

pub returns-in_default : goal.returns-in_default
returns-in_default c = no_cell c.args.bytes.now c.in_default.ensures.cases

pub returns-in_err-cell_in : goal.returns-in_err-cell_in
returns-in_err-cell_in c =
    c.from_residual.ensures ∙ ap (option_and_then (cell_if c.args.bytes.now)) (sym c.in_err-cell_in.was)
    ∙ sym (cell_by c.args.bytes.now c.cell_in.result (c.cell_in.ensures ∙ ap cell_in c.in-Some.ensures.cases.same))

pub returns : goal.returns
returns c =
    c.cell_if.ensures ∙ ap (λ bytes. cell_if bytes c.in_ok-cell_in.field-0) c.in-Some.ensures.cases.same
    ∙ ap (option_and_then (cell_if c.args.bytes.now)) (sym c.in_ok-cell_in.was)
    ∙ sym (cell_by c.args.bytes.now c.cell_in.result (c.cell_in.ensures ∙ ap cell_in c.in-Some.ensures.cases.same))
