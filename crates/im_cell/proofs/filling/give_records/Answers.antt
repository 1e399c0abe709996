use Rattle.std.proofs.Common.{sym, ap, ◌∙◌}
use Rattle.im_cell.{proofs.Seen.own-each, specs.Units.is_own}

pub returns-then-is_own-clause-own : Rattle.im_cell.proofs.filling.give_records.Goals.returns-then-is_own-clause-own
returns-then-is_own-clause-own c = own-each _
    (ap is_own (sym c.unit_of-unit.ensures) ∙ sym c.is_own.ensures ∙ c.if-is_own.true)
