use Rattle.std.proofs.{Common.string_bytes, lemmas.Result.on_ok_weaker}
use Rattle.im_types.specs.Types.{sizes_of}
use Rattle.im_dump.proofs.WritingLemmas.{dump_written}

pub returns-clause-added : Rattle.im_dump.proofs.writing.add_dump.Goals.returns-clause-added
returns-clause-added c =
    on_ok_weaker c.add_last.result
    (dump_written (string_bytes c.args.out.now)
    (string_bytes c.add_first.new.out) (string_bytes c.add_head.new.out) (string_bytes c.add_cells.new.out)
    (string_bytes c.add_windows.new.out)
    (string_bytes c.add_last.new.out) (sizes_of c.args.limits) c.args.count c.args.memory.now.contents
    c.in_ok-add_first.ensures c.in_ok-add_head.ensures c.in_ok-add_cells.ensures.lines
    c.in_ok-add_windows.ensures.lines)
    c.add_last.ensures
