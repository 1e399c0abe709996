use Rattle.std.proofs.{Common.◌*◌, lemmas.Result.IfOk-weaker}
use Rattle.im_types.specs.Types.{sizes_of, page_bytes, cell_pages}

pub returns-clause-found : Rattle.im_records.proofs.area.cells_of.Goals.returns-clause-found
returns-clause-found c =
    IfOk-weaker c.rest_of_cells.result _ _
    (λ row found area stands first. found
    (page_bytes * cell_pages (sizes_of c.args.limits)) area c.requires.part stands first)
    (rw c.node_count.ensures at c.rest_of_cells.ensures.found)
