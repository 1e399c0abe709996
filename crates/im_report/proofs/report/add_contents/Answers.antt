use Rattle.std.proofs.{Common.◌++◌, Common.string_bytes, lemmas.Result.on_ok_weaker}
use Rattle.im_report.proofs.ReportLemmas.{joined}
use Rattle.im_report.specs.Report.{blocks_text, cells_text, elements_text}

pub returns : Rattle.im_report.proofs.report.add_contents.Goals.returns
returns c =
    let m = c.args.memory.now.contents in
    let blocks = blocks_text c.args.notation m in
    let cells = cells_text c.args.notation m in
    let start = string_bytes c.args.out.now in
    let both = joined start blocks cells c.in_ok-add_blocks.ensures c.in_ok-add_cells.ensures in
    on_ok_weaker c.add_elements.result (joined start (blocks ++ cells) (elements_text c.args.notation m) both)
    c.add_elements.ensures
