use Rattle.std.proofs.Common.{true, List, sym, subst}
use Rattle.im_listed.proofs.StepLemmas.{agrees_synced}
use Rattle.im_listed.specs.{declared.calls.ListedCall.ListedCall, History.history_of, Listing.Agrees}

pub invariant_of-self-2 : Rattle.im_listed.proofs.listed.ListedDisk.sync.Goals.invariant_of-self-2
invariant_of-self-2 c =
    subst (λ (es : List ListedCall). Agrees c.self.inside.bytes.items c.add_sync.new.steps.items true (history_of es))
    (sym c.note.ensures)
    (agrees_synced c.self.inside.bytes.items c.self.inside.steps.items c.add_sync.new.steps.items c.self.inside.calm
    (history_of c.self.inside.calls) c.self.invariant c.in_default.ensures.ok)
