use Rattle.std.proofs.Common.{subst}
use Rattle.im_types.specs.Types.{sizes_of, Records}
use Rattle.im_image.{proofs.Encoding.counted, specs.Encoding.IsAreaPage}
use Rattle.im_image.proofs.pages.encode_page.Goals as goal

pub encode_records-requires-clause-count : goal.encode_records-requires-clause-count
encode_records-requires-clause-count c =
    counted (sizes_of c.args.limits) c.args.memory.now.contents c.records.result c.requires.cells c.requires.elements
    c.records.ensures.cells c.records.ensures.nodes c.records.ensures.windows

pub returns : goal.returns
returns c = subst (λ (r : Records). IsAreaPage
    (sizes_of c.args.limits) r c.args.i c.encode_records.new.page) c.records.ensures.view c.encode_records.ensures
