use Rattle.std.proofs.Common.{◌≡◌, rules}
use Rattle.im_listening.proofs.LendingLemmas.{waited}
use Rattle.im_listening.specs.declared.delivery.Delivery.TheVariants as heard_as

pub invariant_of-loan : Rattle.im_listening.proofs.loan.hear.Goals.invariant_of-loan
invariant_of-loan g c =
    let nothing : c.args.loan.now.heard ≡ heard_as.Nothing = search rules in
    record {
      kept = waited g.K.InputBytes.whole c.args.loan.now.given c.args.loan.now.heard
          c.heard_of-loan.result (g.I.Read.remaining c.args.loan.now.input)
          (g.I.Read.remaining c.read_waiting-read.new.input) c.read_waiting-read.result c.read_waiting-read.new.buf
          c.args.loan.now.kept nothing c.read_waiting-read.ensures.bytes c.read_waiting-read.auto.buf
          c.heard_of-loan.ensures;
    }
