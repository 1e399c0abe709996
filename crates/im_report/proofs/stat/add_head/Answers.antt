use Rattle.std.proofs.{Common.◌++◌, Common.string_bytes, lemmas.Result.on_ok_weaker}
use Rattle.im_image.specs.Headers.{seen}
use Rattle.im_report.proofs.ReportLemmas.{joined}
use Rattle.im_report.specs.{Report.opening_lines, Stat.count_line, Stat.next_line, Stat.slots_line}

pub returns : Rattle.im_report.proofs.stat.add_head.Goals.returns
returns c =
    let h = seen c.args.header.now in
    let one = opening_lines h in
    let slots = slots_line h c.args.run c.args.room in
    let count = count_line h c.args.run in
    let start = string_bytes c.args.out.now in
    let two = joined start one slots c.in_ok-add_opening.ensures c.in_ok-add_slots.ensures in
    let three = joined start (one ++ slots) count two c.in_ok-add_count.ensures in
    on_ok_weaker c.add_next.result (joined start (one ++ slots ++ count) (next_line h) three) c.add_next.ensures
