use Rattle.std.proofs.Common.{List, length, IsTrue, sym, ap, subst, inr}
use Rattle.im_disk.proofs.AccountLemmas.{torn_by_outcome}
use Rattle.im_disk.specs.{Account.AccountedCall, Account.first_outcome, Account.replay, Moment.Torn}

pub returns-in-Err-clause-moment : Rattle.im_disk.proofs.file.FileDisk.put.Goals.returns-in-Err-clause-moment
returns-in-Err-clause-moment g c = λ honest.
    let after = replay g.S.Start.path g.S.Start.first g.S.Start.outcomes in
    let before = after c.args.self.now.ledger.events in
    let was = subst (λ (l : List AccountedCall). IsTrue (after l).agrees) c.note_written-in-Err.ensures honest in (
      was,
      inr (record {
        past = ap (λ (l : List AccountedCall). (after l).past) c.note_written-in-Err.ensures;
        now = subst (Torn c.args.at (length c.args.bytes.now) before.now)
            (sym (ap (λ (l : List AccountedCall). (after l).now) c.note_written-in-Err.ensures))
            (torn_by_outcome c.args.at (length c.args.bytes.now) (first_outcome before.outcomes) before.now
            (c.requires.inside was));
      }),
    )
