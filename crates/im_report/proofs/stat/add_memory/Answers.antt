use Rattle.std.proofs.{Common.◌++◌, Common.string_bytes, lemmas.Result.on_ok_weaker}
use Rattle.im_types.specs.Types.{I, M}
use Rattle.im_report.proofs.ReportLemmas.{joined}
use Rattle.im_report.specs.{Figures.kind_figures, Stat.figures_lines, Stat.kind_line}

pub returns : Rattle.im_report.proofs.stat.add_memory.Goals.returns
returns c =
    let m = c.args.memory.now.contents in
    let one = kind_line I (kind_figures m I) in
    let other = kind_line M (kind_figures m M) in
    let start = string_bytes c.args.out.now in
    let both = joined start one other c.in_ok-add_kind.ensures c.in_ok-add_kind-2.ensures in
    on_ok_weaker c.add_figures.result (joined start (one ++ other) (figures_lines m) both) c.add_figures.ensures
