use Rattle.std.proofs.{Common.◌++◌, Common.string_bytes, Common.codes, lemmas.Result.on_ok_weaker}
use Rattle.im_report.{proofs.ReportLemmas.joined, specs.Report.numbered}

pub returns : Rattle.im_report.proofs.told.add_waiter_object.Goals.returns
returns c =
    let start = string_bytes c.args.out.now in
    let part0 = numbered (codes "{\"element\":") c.args.waiter.element in
    let part1 = numbered (codes ",\"number\":\"") c.args.waiter.number in
    let both = joined start part0 part1 c.in_ok-add_member.ensures c.in_ok-add_member-2.ensures in
    on_ok_weaker c.add_text.result (λ whole. joined start (part0 ++ part1) (codes "\"}") both whole) c.add_text.ensures
