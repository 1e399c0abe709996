use Rattle.std.proofs.Common.{◌≡◌, subst, arith}
use Rattle.im_types.specs.Types.{NONE, layout_in_use, sizes_of, node_count, FreeNode, node_bytes, FitsNode}
use Rattle.im_image.proofs.Encoding.{Spelled, spelled-all}

pub returns : Rattle.im_image.proofs.pages.encode_nodes.Goals.returns
returns c =
    let end : c.loop-place.place ≡ 256 = omega arith in
    spelled-all 16 256 node_bytes (FitsNode (node_count layout_in_use (sizes_of c.args.limits)))
    (FreeNode NONE) c.args.records.now.nodes c.args.i c.loop-place.page c.loop-place.invariant.0
    (subst (λ n. Spelled 16 256 node_bytes (FitsNode (node_count layout_in_use (sizes_of c.args.limits)))
    (FreeNode NONE) c.args.records.now.nodes c.args.i c.loop-place.page n) end c.loop-place.invariant.1)
