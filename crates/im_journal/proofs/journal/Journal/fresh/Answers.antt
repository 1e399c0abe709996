use Rattle.std.proofs.Common.{◌<◌, [], refl, arith}
use Rattle.im_types.specs.Types.{Ring}
use Rattle.im_journal.proofs.{Groups.none_there, Tails.tail_closed}

pub returns-clause-holds : Rattle.im_journal.proofs.journal.Journal.fresh.Goals.returns-clause-holds
returns-clause-holds c = λ file size closed.
    let ring : Ring = record { base = c.journal_at.result; slots = c.args.limits.slots } in
    let some : 0 < c.args.limits.slots = omega (arith, c.args.limits.in_range.enough_slots) in
    record {
      size = size;
      commands = [];
      there = c.args.limits.slots;
      reads = tail_closed ring file some closed;
      count = refl;
      enough = omega arith;
      behind = λ low k from to. absurd (omega (arith, from, to));
      laid = none_there ring 0 c.none.result file c.none.ensures;
    }
