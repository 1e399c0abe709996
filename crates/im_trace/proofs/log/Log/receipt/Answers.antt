use Rattle.std.proofs.Common.{ap}
use Rattle.im_types.specs.Types.{Commands}
use Rattle.im_trace.proofs.LogLemmas.{proof-at_end}

pub receipt_of-requires : Rattle.im_trace.proofs.log.Log.receipt.Goals.receipt_of-requires
receipt_of-requires g c =
    rw c.prefix.ensures.same (record {
      proof = proof-at_end g.K.Name.origin.memory c.args.self.now.state.trace
          (Commands c.args.command.now) c.args.answer
          c.prefix.ensures.legal c.requires.ends;
      told = c.requires.told;
      lines = ap (λ w. w.lines) c.last.ensures.last;
    })
