use Rattle.std.proofs.Common.{subst}
use Rattle.im_types.specs.Types.{Window}
use Rattle.im_records.{proofs.WindowLemmas.fit_take, specs.Entries.FitEntries}

pub returns-clause-fit : Rattle.im_records.proofs.window.WindowRecord.kept.Goals.returns-clause-fit
returns-clause-fit c = subst (λ (w : Window). FitEntries w.kept) c.self.view_is
    (fit_take c.self.inside.count c.self.inside.entries c.self.invariant.fit)
