use Rattle.std.proofs.{Common.◌++◌, Common.string_bytes, Common.codes, lemmas.Result.on_ok_weaker}
use Rattle.im_text.specs.Texts.{entry_text, op_text}
use Rattle.im_report.{proofs.ReportLemmas.joined, specs.Report.entry_start}

pub returns : Rattle.im_report.proofs.told.add_kept_object.Goals.returns
returns c =
    let one = entry_start c.args.element c.args.number in
    let op = op_text c.args.kept.op in
    let middle = codes "\",\"reply\":\"" in
    let entry = entry_text c.args.kept.entry in
    let start = string_bytes c.args.out.now in
    let two = joined start one op c.in_ok-add_entry_start.ensures c.in_ok-add_op.ensures in
    let three = joined start (one ++ op) middle two c.in_ok-add_text.ensures in
    let four = joined start (one ++ op ++ middle) entry three c.in_ok-add_entry.ensures in
    on_ok_weaker c.add_text-2.result (joined start (one ++ op ++ middle ++ entry) (codes "\"}\n") four)
    c.add_text-2.ensures
