use Rattle.std.proofs.{Common.◌++◌, Common.string_bytes, lemmas.Result.on_ok_weaker}
use Rattle.im_image.specs.Headers.{seen}
use Rattle.im_report.proofs.ReportLemmas.{joined}
use Rattle.im_report.specs.Report.{header_line, limits_line, version_line}

pub returns : Rattle.im_report.proofs.report.add_opening.Goals.returns
returns c =
    let h = seen c.args.header.now in
    let start = string_bytes c.args.out.now in
    let two = joined start (version_line h) (limits_line h) c.in_ok-add_version.ensures c.in_ok-add_limits.ensures in
    on_ok_weaker c.add_header.result (joined start (version_line h ++ limits_line h) (header_line h) two)
    c.add_header.ensures
