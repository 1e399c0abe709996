use Rattle.std.proofs.{Common.◌++◌, Common.string_bytes, lemmas.Result.on_ok_weaker}
use Rattle.im_image.specs.Headers.{seen}
use Rattle.im_report.proofs.ReportLemmas.{joined}
use Rattle.im_report.specs.Stat.{count_json, header_json, next_json, sizes_json, slots_json}

pub returns : Rattle.im_report.proofs.stat_json.add_head.Goals.returns
returns c =
    let h = seen c.args.header.now in
    let slots = slots_json h c.args.run c.args.room in
    let count = count_json h c.args.run in
    let start = string_bytes c.args.out.now in
    let two = joined start (sizes_json h) (header_json h) c.in_ok-add_sizes.ensures c.in_ok-add_three.ensures in
    let three = joined start (sizes_json h ++ header_json h) slots two c.in_ok-add_slots.ensures in
    let four = joined start (sizes_json h ++ header_json h ++ slots) count three c.in_ok-add_count.ensures in
    on_ok_weaker c.add_next.result (joined start (sizes_json h ++ header_json h ++ slots ++ count) (next_json h) four)
    c.add_next.ensures
