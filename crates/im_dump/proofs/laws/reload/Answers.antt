use Rattle.std.proofs.Common.{◌^◌, ◌<◌, ◌++◌, ap, ◌∙◌, arith}
use Rattle.im_types.specs.Types.{sizes_of}
use Rattle.im_dump.{proofs.DumpingLemmas.reloaded, specs.Dump.dump_text, specs.Fitting.FitsDump}

pub returns-in-Ok : Rattle.im_dump.proofs.laws.reload.Goals.returns-in-Ok
returns-in-Ok c =
    let s = sizes_of c.args.limits in
    let m = c.args.memory.now.contents in
    let low : c.args.count < 2 ^ 64 = omega arith in
    let fits : FitsDump s c.args.count m = record {
      limits = c.args.limits.in_range;
      counted = low;
      memory =
          c.requires;
      fits = c.in-Ok.ensures.fits;
    } in
    let text = c.as_bytes.ensures.value ∙ c.in-Ok.ensures.added
    ∙ ap (λ x. x ++ dump_text s c.args.count m) c.new-dump.ensures.bytes in
    record {
      same = reloaded c.read_dump.result c.as_bytes.result.now s c.args.count m
          (λ t d n p is. c.one_memory_has_a_dump.ensures t s d c.args.count n m p fits is) text
          c.read_dump.ensures.found;
    }
