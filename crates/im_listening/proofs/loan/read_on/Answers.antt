use Rattle.std.proofs.Common.{arith}
use Rattle.im_listening.proofs.LendingLemmas.{reads_kept, stays_same}
use Rattle.im_listening.proofs.loan.read_on.Goals as goal

pub invariant_of-loan : goal.invariant_of-loan
invariant_of-loan g c =
    let same = c.read_waiting.auto.buf in
    record {
      kept = reads_kept g.K.InputBytes.whole c.args.loan.now.given c.in-Ok.count c.args.loan.now.heard
          c.heard_by-loan.result (g.I.Read.remaining c.args.loan.now.input) (g.I.Read.remaining c.read_waiting.new.input)
          c.read_waiting.new.buf c.args.loan.now.kept c.requires.none c.in-Ok.ensures.bytes c.in-Ok.ensures.bound.1
          c.heard_by-loan.ensures.none
          (λ end. let it = c.heard_by-loan.ensures.only end in let some = it.1 in (it.0, omega (arith, some, same)));
    }

pub invariant_of-loan-in-Err-1 : goal.invariant_of-loan-in-Err-1
invariant_of-loan-in-Err-1 g c = record {
  kept = stays_same g.K.InputBytes.whole c.args.loan.now.given c.args.loan.now.heard
      (g.I.Read.remaining c.args.loan.now.input) (g.I.Read.remaining c.read_waiting.new.input) c.args.loan.now.kept
      c.in-Err.ensures.bytes;
}
