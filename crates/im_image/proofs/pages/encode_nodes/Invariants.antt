use Rattle.std.proofs.Common.{◌≡◌, length}
use Rattle.im_types.specs.Types.{NONE, layout_in_use, sizes_of, node_count, FreeNode, node_bytes, FitsNode}
use Rattle.im_image.proofs.Encoding.{Spelled}

abbrev pub invariant-loop-place : Rattle.im_image.proofs.pages.encode_nodes.Given.invariant-loop-place
invariant-loop-place l = (length l.page ≡ 4096)
    × Spelled 16 256 node_bytes (FitsNode (node_count layout_in_use (sizes_of l.limits)))
    (FreeNode NONE) l.records.nodes l.i l.page l.place
