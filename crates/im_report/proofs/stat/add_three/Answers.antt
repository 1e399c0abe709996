use Rattle.std.proofs.{Common.◌++◌, Common.string_bytes, lemmas.Result.on_ok_weaker}
use Rattle.im_report.{proofs.ReportLemmas.joined, specs.Report.numbered, specs.Report.three_words}

pub returns : Rattle.im_report.proofs.stat.add_three.Goals.returns
unfolding three_words
returns c =
    let start = string_bytes c.args.out.now in
    let one = numbered c.args.first.0.now c.args.first.1 in
    let two = numbered c.args.second.0.now c.args.second.1 in
    let three = numbered c.args.third.0.now c.args.third.1 in
    let both = joined start one two c.in_ok-add_member.ensures c.in_ok-add_member-2.ensures in
    let all = joined start (one ++ two) three both c.in_ok-add_member-3.ensures in
    on_ok_weaker c.add_text.result (λ whole. joined start (one ++ two ++ three) c.args.end.now all whole)
    c.add_text.ensures
