use Rattle.std.proofs.{Common.◌++◌, Common.string_bytes, Common.codes, lemmas.Result.on_ok_weaker}
use Rattle.im_report.{proofs.ReportLemmas.joined, specs.Report.numbered}

pub returns : Rattle.im_report.proofs.stat_json.add_sizes.Goals.returns
returns c =
    let start = string_bytes c.args.out.now in
    let part0 = numbered (codes "{\"version\":") c.args.header.now.version in
    let part1 = numbered (codes ",\"limits\":{\"cells\":") c.args.header.now.limits.cells in
    let part2 = numbered (codes ",\"elements\":") c.args.header.now.limits.elements in
    let part3 = numbered (codes ",\"slots\":") c.args.header.now.limits.slots in
    let step1 = joined start (part0) part1 c.in_ok-add_member.ensures c.in_ok-add_member-2.ensures in
    let step2 = joined start (part0 ++ part1) part2 step1 c.in_ok-add_member-3.ensures in
    let step3 = joined start (part0 ++ part1 ++ part2) part3 step2 c.in_ok-add_member-4.ensures in
    on_ok_weaker c.add_text.result (λ whole. joined start (part0 ++ part1 ++ part2 ++ part3) (codes "}") step3 whole)
    c.add_text.ensures
