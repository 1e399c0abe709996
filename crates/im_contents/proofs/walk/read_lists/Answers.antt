use Rattle.std.proofs.Common.{sym}
use Rattle.im_contents.proofs.ListLemmas.{length-lists, lists_in_sound, no_lists}
use Rattle.im_contents.proofs.walk.read_lists.Goals as goal

pub returns-in-Ok-Some-clause-found : goal.returns-in-Ok-Some-clause-found
returns-in-Ok-Some-clause-found c = lists_in_sound c.args.nodes.now c.args.cells.now c.in-Ok-Some.lists
    (sym (rw c.in-Ok-Some.field-0-is at c.in-Ok-Some.ensures))

pub returns-in-Ok-None-clause-bad : goal.returns-in-Ok-None-clause-bad
returns-in-Ok-None-clause-bad c = λ _. no_lists c.args.nodes.now c.args.cells.now c.requires
    (sym (rw c.in-Ok-None.field-0-is at c.in-Ok-None.ensures))

pub returns-in-Ok-Some-clause-count : goal.returns-in-Ok-Some-clause-count
returns-in-Ok-Some-clause-count c =
    let shown = lists_in_sound c.args.nodes.now c.args.cells.now c.in-Ok-Some.lists
    (sym (rw c.in-Ok-Some.field-0-is at c.in-Ok-Some.ensures)) in
    length-lists c.args.nodes.now c.args.cells.now shown.chains c.in-Ok-Some.lists shown.have
