use Rattle.std.proofs.Common.{length, sym, ap, ◌∙◌}
use Rattle.im_types.specs.Types.{layout_of}
use Rattle.im_records.proofs.SessionLemmas.{has_place, length-session}
use Rattle.im_records.proofs.session.read_session.Goals as goal

pub returns-then-bytes-session_record-clause-only : goal.returns-then-bytes-session_record-clause-only
returns-then-bytes-session_record-clause-only c = λ w spells. absurd
    (c.if-bytes-session_record.true
    (ap length spells.is ∙ length-session (layout_of c.args.version) (has_place c.args.version) w
    ∙ sym c.session_record.ensures.bytes))
