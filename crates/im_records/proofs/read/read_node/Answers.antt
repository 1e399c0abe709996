use Rattle.std.proofs.Common.{if◌then◌else◌, Some, None, sym, ap, ◌∙◌}
use Rattle.{im_types.specs.Types.same_bytes, im_types.specs.Types.node_bytes, im_formats.specs.Reading.node_in}
use Rattle.im_records.proofs.Reading.{no_node, node_by}
use Rattle.im_records.proofs.read.read_node.Goals as goal

pub returns-in_default : goal.returns-in_default
returns-in_default c = no_node c.args.bytes.now c.in_default.ensures.cases

pub returns : goal.returns
returns c =
    c.node_if.ensures ∙ ap
    (λ bytes. if same_bytes bytes
    (node_bytes c.node_in.result) then Some c.node_in.result else None) c.in-Some.ensures.cases.same
    ∙ sym (node_by c.args.bytes.now c.node_in.result (c.node_in.ensures ∙ ap node_in c.in-Some.ensures.cases.same))
