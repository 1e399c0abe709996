use Rattle.std.proofs.Common.{◌≡◌, ℕ, Bool, true, take, IsTrue, sym, ap, ◌∙◌}
use Rattle.im_types.specs.Types.{layout_of, same_bytes}
use Rattle.im_formats.proofs.Same.{same_bytes_self, same_bytes_true}
use Rattle.im_records.proofs.SessionLemmas.{first_bytes, has_place}

is_true : (b : Bool) → IsTrue b → b ≡ true
is_true b h = search

from_true : (b : Bool) → b ≡ true → IsTrue b
from_true b h = search

pub returns-then-fits_window : Rattle.im_records.proofs.session.is_spelled.Goals.returns-then-fits_window
returns-then-fits_window c =
    let begins = ap (λ (n : ℕ). take n c.spell_in.result) c.session_record.ensures.bytes
    ∙ first_bytes (layout_of c.args.version)
    (has_place c.args.version) c.args.window.now c.spell_in.result _ c.spell_in.ensures in
    let is_same : c.eq.result
    ≡ same_bytes c.args.bytes.now (take c.session_record.result c.spell_in.result) = c.eq.ensures in (
      (λ same. record {
        is = same_bytes_true c.args.bytes.now (take c.session_record.result c.spell_in.result)
            (sym is_same ∙ is_true _ same) ∙ begins;
        fits = c.fits_window.ensures.0 c.if-fits_window.true;
      }),
      (λ spells. from_true _
          (is_same ∙ ap (same_bytes c.args.bytes.now) (begins ∙ sym spells.is) ∙ same_bytes_self c.args.bytes.now)),
    )
