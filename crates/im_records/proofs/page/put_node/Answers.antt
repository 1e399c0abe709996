use Rattle.std.proofs.Common.{◌≡◌, ◌+◌, ◌*◌, ◌≤◌, length, rules}
use Rattle.im_types.specs.Types.{node_record_bytes}
use Rattle.im_records.proofs.Places.{apart, others_are}

pub returns-clause-others : Rattle.im_records.proofs.page.put_node.Goals.returns-clause-others
returns-clause-others c = λ k lt other.
    let long : length c.node_or_zeros.result ≡ node_record_bytes = search rules in
    let room : node_record_bytes * c.args.place + node_record_bytes ≤ length c.args.page.now = search rules in
    others_are node_record_bytes c.args.place k c.node_or_zeros.result c.args.page.now c.put.new.bytes long room
    (apart node_record_bytes k c.args.place other) c.put.ensures
