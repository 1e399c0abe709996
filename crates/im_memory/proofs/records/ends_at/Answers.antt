use Rattle.std.proofs.Common.{length, sym, subst, arith}
use Rattle.im_memory.proofs.RecordLemmas.{ends-past, ends-read, ends-within}
use Rattle.im_memory.specs.Shown.{AreWithin}
use Rattle.im_memory.proofs.records.ends_at.Goals as goal

pub returns-then-a-list_count-clause-ends : goal.returns-then-a-list_count-clause-ends
returns-then-a-list_count-clause-ends c = ends-past c.args.arena.now c.requires c.args.a
    (omega (arith, c.list_count.ensures, c.if-a-list_count.true))

pub returns-clause-ends : goal.returns-clause-ends
returns-clause-ends c = ends-read c.args.arena.now c.args.a c.ends.result c.ends.ensures.ends

pub returns-clause-within : goal.returns-clause-within
returns-clause-within c =
    subst (AreWithin (length c.args.arena.now.links.records))
    (sym (ends-read c.args.arena.now c.args.a c.ends.result c.ends.ensures.ends))
    (ends-within c.args.arena.now c.requires c.args.a)
