use Rattle.std.proofs.{Common.◌++◌, Common.string_bytes, Common.codes, lemmas.Result.on_ok_weaker}
use Rattle.im_types.specs.Types.{waiters_at}
use Rattle.im_report.{proofs.ReportLemmas.joined, specs.Report.waiter_objects, specs.Report.waiting_start}

pub returns : Rattle.im_report.proofs.told.add_waiting_object.Goals.returns
returns c =
    let one = waiting_start c.args.a in
    let all = waiter_objects (codes "[") (waiters_at c.args.memory.now.contents.cells c.args.a) in
    let start = string_bytes c.args.out.now in
    let both = joined start one all c.in_ok-add_waiting_start.ensures c.in_ok-add_waiter_objects.ensures in
    on_ok_weaker c.add_text.result (joined start (one ++ all) (codes "]}\n") both) c.add_text.ensures
