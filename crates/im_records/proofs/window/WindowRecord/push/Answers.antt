use Rattle.std.proofs.Common.{◌<◌, Some, arith, rules}
use Rattle.im_types.specs.Types.{FitsPlace}
use Rattle.im_records.proofs.WindowLemmas.{fit_set}

pub invariant_of-self : Rattle.im_records.proofs.window.WindowRecord.push.Goals.invariant_of-self
invariant_of-self c =
    let fits : FitsPlace (Some c.args.kept) = search rules in
    let room : c.self.inside.count < 64 = search rules in
    record { few = omega arith; fit = fit_set c.self.inside.entries c.self.inside.count c.args.kept c.self.invariant.fit fits }
