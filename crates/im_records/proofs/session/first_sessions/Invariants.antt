use Rattle.im_types.specs.Types.{layout_of}
use Rattle.im_records.specs.Rows.{BeginWithSessions}

abbrev pub invariant-loop-i : Rattle.im_records.proofs.session.first_sessions.Given.invariant-loop-i
invariant-loop-i l = BeginWithSessions (layout_of l.version) l.i l.bytes l.row.items
