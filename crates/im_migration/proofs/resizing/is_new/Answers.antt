use Rattle.std.proofs.{Common.eqb-true, lemmas.Bool.eqb-false}
use Rattle.im_migration.proofs.OtherSizes.{bounds-of-new, new-by-bounds, new-by-none}
use Rattle.im_migration.proofs.resizing.is_new.Goals as goal

pub returns-then-base-eq1-clause-yes : goal.returns-then-base-eq1-clause-yes
returns-then-base-eq1-clause-yes c = λ yes.
    new-by-bounds c.args.memory.now.contents.windows c.args.element c.in-Ok.base c.in-Ok.next c.in-Ok.ensures
    c.if-base-eq1.true (eqb-true c.in-Ok.next 1 yes)

pub returns-then-base-eq1-clause-no : goal.returns-then-base-eq1-clause-no
returns-then-base-eq1-clause-no c = λ no new.
    eqb-false c.in-Ok.next 1 no
    (bounds-of-new c.args.memory.now.contents.windows c.args.element c.in-Ok.base c.in-Ok.next c.in-Ok.ensures new).1

pub returns-else-base-eq1-clause-no : goal.returns-else-base-eq1-clause-no
returns-else-base-eq1-clause-no c = λ no new.
    c.if-base-eq1.false
    (bounds-of-new c.args.memory.now.contents.windows c.args.element c.in-Ok.base c.in-Ok.next c.in-Ok.ensures new).0

pub returns-in-Err-clause-yes : goal.returns-in-Err-clause-yes
returns-in-Err-clause-yes c = λ yes.
    new-by-none c.args.memory.now.contents.windows c.args.element c.in-Err.field-0 c.in-Err.ensures
