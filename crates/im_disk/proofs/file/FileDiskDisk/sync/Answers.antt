use Rattle.std.proofs.Common.{List, sym, ap, subst, inr}
use Rattle.im_disk.proofs.AccountLemmas.{shaken_by_outcome}
use Rattle.im_disk.specs.{Account.AccountedCall, Account.first_outcome, Account.replay, Moment.Shaken}

pub returns-in-Err-clause-moment : Rattle.im_disk.proofs.file.FileDiskDisk.sync.Goals.returns-in-Err-clause-moment
returns-in-Err-clause-moment g c = λ honest.
    let at = replay g.S.Start.path g.S.Start.first g.S.Start.outcomes in
    let before = at c.args.self.now.ledger.events in
    inr (record {
      past = ap (λ (l : List AccountedCall). (at l).past) c.note-in-Err.ensures;
      now = subst (Shaken before.now) (sym (ap (λ (l : List AccountedCall). (at l).now) c.note-in-Err.ensures))
          (shaken_by_outcome (first_outcome before.outcomes) before.now);
    })
