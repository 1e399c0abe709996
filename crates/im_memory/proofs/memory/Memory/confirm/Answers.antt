use Rattle.std.proofs.Common.{◌≡◌, false, ap, ◌∙◌}
use Rattle.im_types.specs.Types.{Confirm, is_accepted}
use Rattle.im_memory.proofs.{MakesLemmas.makes-confirmed, Unaccepted.windows_stay}
use Rattle.im_memory.specs.State.{memory_state, MemoryState}
use Rattle.im_memory.proofs.memory.Memory.confirm.Goals as goal

pub invariant_of-self : goal.invariant_of-self
invariant_of-self c =
    let m = c.self.inside in
    makes-confirmed m.table m.arena m.sessions c.self.invariant c.args.element c.args.upto c.confirm.result c.confirm.new.self c.confirm.ensures.ok c.confirm.ensures.err

pub returns-clause-unaccepted : goal.returns-clause-unaccepted
returns-clause-unaccepted c = λ un.
    let m = c.self.inside in
    let was : MemoryState = memory_state m.table m.arena m.sessions in
    let still : is_accepted was.contents (Confirm c.args.element c.args.upto)
    ≡ false = ap (λ (s : MemoryState). is_accepted s.contents
    (Confirm c.args.element c.args.upto)) c.self.view_is ∙ un in
    ap (λ windows. memory_state m.table m.arena windows)
    (windows_stay was.contents c.args.element c.args.upto c.confirm.new.self c.confirm.result c.confirm.ensures.ok c.confirm.ensures.err still)
    ∙ c.self.view_is
