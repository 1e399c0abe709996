use Rattle.std.proofs.{Common.string_bytes, Common.codes, lemmas.Result.on_ok_weaker}
use Rattle.im_image.specs.Headers.{seen}
use Rattle.im_report.{proofs.ReportLemmas.joined, specs.Stat.head_json}

pub returns : Rattle.im_report.proofs.report_json.add_report_head.Goals.returns
returns c = on_ok_weaker c.add_text.result (joined (string_bytes c.args.out.now)
    (head_json (seen c.args.header.now) c.args.run c.args.room) (codes "}\n") c.in_ok-add_head.ensures)
    c.add_text.ensures
