use Rattle.std.proofs.Common.{◌*◌, List, length, drop, sym, ap}
use Rattle.im_types.specs.Types.{CellRecord}

pub returns-in-Ok-clause-bad : Rattle.im_records.proofs.area.read_area.Goals.returns-in-Ok-clause-bad
returns-in-Ok-clause-bad c = λ e r spells.
    c.read_rest_of_area.ensures.bad e c.args.area.now r
    (ap (λ (row : List CellRecord). drop (32 * length row) c.args.area.now) (sym c.in-Ok.ensures)) spells
