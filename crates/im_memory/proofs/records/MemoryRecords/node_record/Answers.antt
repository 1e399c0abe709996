use Rattle.std.proofs.Common.{length, slice_index_or, sym, ap, ◌∙◌, subst}
use Rattle.im_types.specs.Types.{NONE, FreeNode, FitsNode, Records}
use Rattle.im_memory.proofs.{RecordLemmas.link-within, ThreadLemmas.record-read}
use Rattle.im_memory.proofs.records.MemoryRecords.node_record.Goals as goal

pub returns-clause-shown : goal.returns-clause-shown
returns-clause-shown c =
    let arena = c.self.inside.arena.now in
    sym (record-read arena.links.records c.args.n c.node.result (sym c.node.ensures.record_at))
    ∙ ap (λ (r : Records). slice_index_or r.nodes c.args.n (FreeNode NONE)) c.self.view_is

pub returns-clause-fits : goal.returns-clause-fits
returns-clause-fits c =
    let arena = c.self.inside.arena.now in
    let link = link-within arena c.node.ensures.threaded c.args.n c.node.result c.node.ensures.record_at in
    subst (λ n. FitsNode n c.node.result) (ap (λ (r : Records). length r.nodes) c.self.view_is)
    (c.node.ensures.fits (length arena.links.records) link)
