use Rattle.std.proofs.Common.{sym, ◌∙◌}
use Rattle.im_image.specs.Headers.{seen}
use Rattle.im_dump.proofs.SalvageLemmas.{first_chosen, second_chosen}
use Rattle.im_dump.proofs.salvaging.best_of.Goals as goal

pub returns-then-is_second_first-clause-found : goal.returns-then-is_second_first-clause-found
returns-then-is_second_first-clause-found c = second_chosen seen _ _ _ c.args.zero.now c.args.one.now
    c.spelled-first.ensures.found c.spelled-second.ensures.found c.or.ensures
    (sym c.is_second_first.ensures ∙ c.if-is_second_first.true)

pub returns-else-is_second_first-clause-found : goal.returns-else-is_second_first-clause-found
returns-else-is_second_first-clause-found c = first_chosen seen _ _ _ c.args.zero.now c.args.one.now
    c.spelled-first.ensures.found c.spelled-second.ensures.found c.or-else-is_second_first.ensures
    (sym c.is_second_first.ensures ∙ c.if-is_second_first.false)
