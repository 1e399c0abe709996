use Rattle.std.proofs.{Common.◌++◌, Common.string_bytes, Common.codes, lemmas.Result.on_ok_weaker}
use Rattle.im_report.{proofs.ReportLemmas.joined, specs.Report.numbered}

pub returns : Rattle.im_report.proofs.stat_json.add_pages.Goals.returns
returns c =
    let start = string_bytes c.args.out.now in
    let part0 = numbered (codes ",\"next\":{\"area\":") c.args.area in
    let part1 = numbered (codes ",\"pages\":") c.args.pages in
    let step1 = joined start (part0) part1 c.in_ok-add_member.ensures c.in_ok-add_member-2.ensures in
    on_ok_weaker c.add_text.result (λ whole. joined start (part0 ++ part1) (codes "}") step1 whole) c.add_text.ensures
