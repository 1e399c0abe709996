use Rattle.std.proofs.Common.{◌≡◌, ℕ, ◌+◌, ◌*◌, ◌≤◌, length, ap, ◌∙◌, arith, rules}
use Rattle.im_types.specs.Types.{layout_in_use, session_record_bytes}
use Rattle.im_records.{proofs.Places.apart, proofs.Places.others_are, specs.Placed.placed}

pub returns-clause-others : Rattle.im_records.proofs.page.put_session.Goals.returns-clause-others
returns-clause-others c = λ k lt other.
    let long : length c.session_or_zeros.result ≡ (session_record_bytes layout_in_use) = search rules in
    let room : (session_record_bytes layout_in_use) * c.args.place +
    (session_record_bytes layout_in_use) ≤ length c.args.page.now = search rules in
    others_are (session_record_bytes layout_in_use) c.args.place k c.session_or_zeros.result c.args.page.now c.put.new.bytes long room (apart (session_record_bytes layout_in_use) k c.args.place other)
    (c.put.ensures ∙ ap (λ (at : ℕ). placed at c.session_or_zeros.result c.args.page.now) (omega arith))
