use Rattle.std.proofs.{Common.◌++◌, Common.string_bytes, Common.codes, lemmas.Result.on_ok_weaker}
use Rattle.im_image.specs.Headers.{seen}
use Rattle.im_report.{proofs.ReportLemmas.joined, specs.Report.contents_text}
use Rattle.im_report.specs.{declared.notation.Notation.TheVariants.Json, ReportJson.dump_sizes, Stat.count_json}

pub returns : Rattle.im_report.proofs.report_json.add_dump.Goals.returns
returns c =
    let h = seen c.args.report.now.header in
    let sizes = dump_sizes h in
    let count = count_json h c.args.report.now.run in
    let close = codes "}\n" in
    let start = string_bytes c.args.out.now in
    let two = joined start sizes count c.in_ok-add_three.ensures c.in_ok-add_count.ensures in
    let three = joined start (sizes ++ count) close two c.in_ok-add_text.ensures in
    on_ok_weaker c.add_contents.result
    (joined start (sizes ++ count ++ close) (contents_text Json c.args.report.now.memory.contents) three)
    c.add_contents.ensures
