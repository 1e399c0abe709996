use Rattle.std.proofs.Common.{◌≡◌, sym, ◌∙◌, subst}
use Rattle.{im_types.specs.Types.FitsNode, im_formats.proofs.Records.read_node-only}
use Rattle.im_records.proofs.Reading.{false_true, node_is_read, none_some, some_inj}
use Rattle.im_records.proofs.rows.node_within.Goals as goal

pub returns-in_err-node-clause-only : goal.returns-in_err-node-clause-only
returns-in_err-node-clause-only c = λ node spells. absurd
    (none_some node (sym c.in_err-node.was ∙ c.read_node.ensures
    ∙ node_is_read c.args.nodes c.args.bytes.now node (c.ranges.nodes.fits) spells))

pub returns-then-fits_node-clause-found : goal.returns-then-fits_node-clause-found
returns-then-fits_node-clause-found c = record {
  is = read_node-only c.args.bytes.now c.in_ok-node.node (sym c.read_node.ensures ∙ c.in_ok-node.was);
  fits = c.fits_node.ensures.0 c.if-fits_node.true;
}

pub returns-then-fits_node-clause-only : goal.returns-then-fits_node-clause-only
returns-then-fits_node-clause-only c = λ node spells. sym c.in_ok-node.was ∙ c.read_node.ensures
    ∙ node_is_read c.args.nodes c.args.bytes.now node (c.ranges.nodes.fits) spells

pub returns-else-fits_node-clause-only : goal.returns-else-fits_node-clause-only
returns-else-fits_node-clause-only c = λ node spells.
    let same : c.in_ok-node.node
    ≡ node = some_inj c.in_ok-node.node node
    (sym c.in_ok-node.was ∙ c.read_node.ensures
    ∙ node_is_read c.args.nodes c.args.bytes.now node (c.ranges.nodes.fits) spells) in
    absurd (false_true (sym c.if-fits_node.false
    ∙ c.fits_node.ensures.1 (subst (FitsNode c.args.nodes) (sym same) spells.fits)))
