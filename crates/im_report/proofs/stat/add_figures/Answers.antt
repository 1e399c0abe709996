use Rattle.std.proofs.{Common.◌++◌, Common.string_bytes, Common.ap, Common.◌∙◌, lemmas.Result.on_ok_weaker}
use Rattle.im_report.{proofs.ReportLemmas.joined, specs.Stat.free_line, specs.Stat.queue_line, specs.Stat.windows_line}
use Rattle.im_report.specs.Figures.{free_figures, queue_figures, window_figures}

pub returns : Rattle.im_report.proofs.stat.add_figures.Goals.returns
returns c =
    let m = c.args.memory.now.contents in
    let free = free_line (free_figures m) in
    let queue = queue_line (queue_figures m) in
    let start = string_bytes c.args.out.now in
    let first = c.in_ok-add_three.ensures ∙ ap (λ f. start ++ free_line f) c.count_free-free.ensures in
    let second = c.in_ok-add_three-2.ensures
    ∙ ap (λ f. string_bytes c.add_three.new.out ++ queue_line f) c.count_queues-queues.ensures in
    let both = joined start free queue first second in
    on_ok_weaker c.add_three-3.result (λ whole. joined start (free ++ queue) (windows_line (window_figures m)) both
    (whole ∙ ap (λ f. string_bytes c.add_three-2.new.out ++ windows_line f) c.count_windows-windows.ensures))
    c.add_three-3.ensures
