use Rattle.im_types.specs.Types.{new_window, layout_of, session_record_bytes, session_bytes, FitsWindow}
use Rattle.im_records.proofs.RowLemmas.{begin_more}

pub loop-i-preserved : Rattle.im_records.proofs.session.first_sessions.Goals.loop-i-preserved
loop-i-preserved c = let l = layout_of c.args.version in begin_more (session_record_bytes l) (session_bytes l)
    (FitsWindow l) new_window c.args.bytes.now c.loop-i.i c.loop-i.row.items c.in-Some.window c.push.new.self.items c.loop-i.invariant (rw c.session_record-size.ensures.bytes at c.in-Some.ensures.found) c.in_default-push.ensures.items
