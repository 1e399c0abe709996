use Rattle.im_memory.proofs.ShownLemmas.{shows-records}
use Rattle.im_memory.proofs.records.MemoryRecords.new.Goals as goal

pub returns-clause-nodes : goal.returns-clause-nodes
returns-clause-nodes c = c.are_threaded.ensures.node_count

pub returns-clause-shows : goal.returns-clause-shows
returns-clause-shows c = shows-records c.args.table.now c.args.arena.now c.args.sessions.now c.requires c.are_threaded.ensures
