use Rattle.std.proofs.Common.{ℕ, sym, refl, ap, ◌∙◌, subst}
use Rattle.{im_memory.specs.State.MemoryState, im_image.specs.Reading.HasSizes}
use Rattle.im_checkpoint.specs.{Keeping.IsKept, Keeping.paged, Step.changed_in}
use Rattle.im_engine.proofs.{Adding.none_added, Members.contents_none, Members.left_none, Members.pages_none}
use Rattle.im_engine.specs.Groups.{StaysBut}
use Rattle.im_engine.proofs.groups.act_one.Goals as goal

pub act_taken-requires-clause-taken : goal.act_taken-requires-clause-taken
act_taken-requires-clause-taken c = sym c.requires.taken ∙ c.if-taken.true

pub answer_alone-requires : goal.answer_alone-requires
answer_alone-requires c = sym c.requires.taken ∙ c.if-taken.false

pub returns-else-taken-clause-contents : goal.returns-else-taken-clause-contents
returns-else-taken-clause-contents c = ap (λ (s : MemoryState). s.contents) c.answer_alone.ensures.same
    ∙ contents_none c.args.memory.now.contents c.args.left.now c.args.command.now
    (sym c.requires.taken ∙ c.if-taken.false)

pub returns-else-taken-clause-left : goal.returns-else-taken-clause-left
returns-else-taken-clause-left c = left_none c.args.memory.now.contents c.args.left.now c.args.command.now
    (sym c.requires.taken ∙ c.if-taken.false)

pub returns-else-taken-clause-sizes : goal.returns-else-taken-clause-sizes
returns-else-taken-clause-sizes c = subst (λ (s : MemoryState). HasSizes c.args.checkpoint.now.state.header.sizes
    s.contents) (sym c.answer_alone.ensures.same) c.requires.sizes

pub returns-else-taken-clause-stays : goal.returns-else-taken-clause-stays
returns-else-taken-clause-stays c = subst (λ (n : ℕ). StaysBut n c.args.checkpoint.now c.args.checkpoint.now)
    (pages_none c.args.memory.now.contents c.args.left.now c.args.command.now
    (sym c.requires.taken ∙ c.if-taken.false))
    (record { state = refl; pages = none_added (changed_in c.args.checkpoint.now) })

pub returns-else-taken-clause-kept : goal.returns-else-taken-clause-kept
returns-else-taken-clause-kept c = λ m j now kept.
    subst (λ (n : MemoryState). IsKept c.args.checkpoint.now.state (paged c.args.checkpoint.now n) m j now)
    (sym c.answer_alone.ensures.same) kept
