use Rattle.std.proofs.Common.{◌≡◌, ℕ, slice_get, Some, subst}
use Rattle.im_types.specs.Types.{Window, IsWindow, Records}

pub returns-clause-within : Rattle.im_memory.proofs.records.MemoryRecords.window.Goals.returns-clause-within
returns-clause-within c =
    subst (λ (r : Records). (e : ℕ) (w : Window) → slice_get r.windows e ≡ Some w
    → IsWindow w) c.self.view_is c.self.invariant.makes.memory.windows
