use Rattle.std.proofs.Common.{refl, ap, ◌∙◌}
use Rattle.im_memory.specs.State.{MemoryState}
use Rattle.im_session.proofs.KeptLemmas.{kept_begun}
use Rattle.im_session.proofs.session.Session.begin.Goals as goal

pub invariant_of-result : goal.invariant_of-result
invariant_of-result g c =
    let memory = ap (λ (m : MemoryState). m.contents) c.of.ensures ∙ c.memory.ensures in
    let count = c.of-2.ensures ∙ c.count-count.ensures in
    rw (c.new.ensures, memory, count)
    (kept_begun g.D.Disk c.args.before.value c.args.engine c.requires.works c.failed-failed.ensures.means)

pub returns : goal.returns
returns g c =
    let memory = ap (λ (m : MemoryState). m.contents) c.of.ensures ∙ c.memory.ensures in
    let count = c.of-2.ensures ∙ c.count-count.ensures in
    rw (c.new.ensures, memory, count) refl
