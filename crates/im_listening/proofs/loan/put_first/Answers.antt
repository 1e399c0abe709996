use Rattle.std.proofs.Common.{arith}
use Rattle.im_listening.proofs.LendingLemmas.{first_kept, keeps_left, one_kept}
use Rattle.im_listening.proofs.loan.put_first.Goals as goal

pub invariant_of-loan : goal.invariant_of-loan
invariant_of-loan g c =
    let has = g.I.Read.remaining c.args.loan.now.input in
    record {
      kept = one_kept g.K.InputBytes.whole c.args.loan.now.given c.args.byte c.args.loan.now.heard has has
          c.args.loan.now.kept c.requires.heard (keeps_left has);
    }

pub invariant_of-loan-in-Ok : goal.invariant_of-loan-in-Ok
invariant_of-loan-in-Ok g c =
    let same = c.read.auto.buf in
    record {
      kept = first_kept g.K.InputBytes.whole c.args.loan.now.given c.in-Ok.more c.args.byte c.args.loan.now.heard
          c.heard_by-loan.result (g.I.Read.remaining c.args.loan.now.input) (g.I.Read.remaining c.read.new.self)
          c.read.new.buf c.args.loan.now.kept c.requires.heard c.in-Ok.ensures.bytes c.in-Ok.ensures.bound.1
          c.heard_by-loan.ensures.none
          (λ end. let it = c.heard_by-loan.ensures.only end in let some = it.1 in (it.0, omega (arith, some, same)));
    }

pub invariant_of-loan-in-Err : goal.invariant_of-loan-in-Err
invariant_of-loan-in-Err g c = record {
  kept = one_kept g.K.InputBytes.whole c.args.loan.now.given c.args.byte c.args.loan.now.heard
      (g.I.Read.remaining c.args.loan.now.input) (g.I.Read.remaining c.read.new.self) c.args.loan.now.kept
      c.requires.heard c.in-Err.ensures.bytes;
}
