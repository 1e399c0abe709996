use Rattle.std.proofs.Common.{arith}
use Rattle.im_laws.proofs.MemoryLemmas.{empty-memory}
use Rattle.im_memory.proofs.{MakesLemmas.contents_of-empty, MakesLemmas.makes-empty, RecordLemmas.empty-records}
use Rattle.im_memory.proofs.memory.Memory.new.Goals as goal

pub invariant_of-result : goal.invariant_of-result
invariant_of-result c =
    let limits = c.args.limits in
    rw (c.in-Ok.ensures.free, c.in-Ok-new-2.ensures.ok)
    (makes-empty limits.cells limits.elements c.in-Ok-new.arena c.in-Ok-new.ensures.empty limits.in_range.some_cell limits.in_range.few_cells limits.in_range.few_elements (omega (arith, c.in-Ok-new.ensures.nodes)))

pub returns-clause-empty : goal.returns-clause-empty
returns-clause-empty c =
    rw (c.in-Ok.ensures.free, c.in-Ok-new-2.ensures.ok)
    (contents_of-empty c.args.limits.cells c.args.limits.elements c.in-Ok-new.arena c.in-Ok-new.ensures.empty)

pub returns-clause-memory : goal.returns-clause-memory
returns-clause-memory c =
    let limits = c.args.limits in
    rw (c.in-Ok.ensures.free, c.in-Ok-new-2.ensures.ok, contents_of-empty limits.cells limits.elements c.in-Ok-new.arena c.in-Ok-new.ensures.empty) (empty-memory limits.cells limits.elements)

pub returns-clause-records : goal.returns-clause-records
returns-clause-records c =
    let limits = c.args.limits in
    rw (c.in-Ok.ensures.free, c.in-Ok-new-2.ensures.ok)
    (empty-records limits.cells limits.elements c.in-Ok-new.arena c.are_threaded.ensures c.in-Ok-new.ensures.empty
    (omega (arith, c.in-Ok-new.ensures.nodes)))
