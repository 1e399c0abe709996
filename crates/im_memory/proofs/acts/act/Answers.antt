use Rattle.im_memory.proofs.TouchLemmas.{fetch-change, take-change}
use Rattle.im_memory.proofs.acts.act.Goals as goal

pub returns-in-Fetch-clause-changes : goal.returns-in-Fetch-clause-changes
returns-in-Fetch-clause-changes c =
    rw c.in-Fetch.is (fetch-change c.args.table.now c.fetch.new.table c.args.arena.now c.fetch.new.arena c.requires.agree c.in-Fetch.a c.args.who c.fetch.result c.fetch.ensures.kept.cells.others c.fetch.ensures.kept.links c.fetch.ensures.same c.fetch.ensures.entry)

pub returns-in-Take-clause-changes : goal.returns-in-Take-clause-changes
returns-in-Take-clause-changes c =
    rw c.in-Take.is (take-change c.args.table.now c.take.new.table c.args.arena.now c.take.new.arena c.requires.agree c.in-Take.a c.args.who c.take.result c.take.ensures.kept.cells.others c.take.ensures.kept.links c.take.ensures.entry c.take.ensures.kept.cells.refused)

pub returns-in-Store-clause-acted : goal.returns-in-Store-clause-acted
returns-in-Store-clause-acted c = rw c.in-Store.is c.store-acted.ensures.acted

pub returns-in-Put-clause-acted : goal.returns-in-Put-clause-acted
returns-in-Put-clause-acted c = rw c.in-Put.is c.put-acted.ensures.acted
