use Rattle.im_records.specs.Rows.{BeginWithNodes}

abbrev pub invariant-loop-i : Rattle.im_records.proofs.rows.first_nodes.Given.invariant-loop-i
invariant-loop-i l = BeginWithNodes l.i l.nodes l.bytes l.row.items
