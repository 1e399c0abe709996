use Rattle.std.proofs.Common.{subst}
use Rattle.im_types.specs.Types.{sizes_of, Records, ShowsRecords}
use Rattle.im_image.proofs.Restored.{records-same}

pub returns-clause-bad : Rattle.im_image.proofs.area.lists_of.Goals.returns-clause-bad
returns-clause-bad c = λ e m shown.
    c.read_contents.ensures.bad e m
    (subst (λ (r : Records). ShowsRecords (sizes_of c.args.limits) r m)
    (records-same c.args.records.now c.cells-cells.result.now c.nodes-nodes.result.now c.windows-windows.result.now
    c.cells-cells.ensures c.nodes-nodes.ensures c.windows-windows.ensures) shown)
