use Rattle.std.proofs.Common.{◌≡◌, ℕ, ◌^◌, ◌<◌, List, ◌∷◌, Some, sym, ap, ◌∙◌, subst, rules}
use Rattle.im_types.specs.Types.{Command, Asks, Confirm, address_of, open_gate, op_value, slot_body, FitsCommand}
use Rattle.im_types.specs.Types.{sequence_of, read_in}
use Rattle.im_journal.proofs.Spelling.{read_in-spelled, sequence_of-spelled}
use Rattle.im_journal.proofs.slot.spell_in.Goals as goal

pub returns-in-Request-clause-sequence : goal.returns-in-Request-clause-sequence
returns-in-Request-clause-sequence c =
    let bytes : c.spell_fields.new.slot
    ≡ open_gate ∷ slot_body c.args.group c.args.sequence (Asks c.in-Request.r) = search rules in
    ap sequence_of bytes ∙ sequence_of-spelled c.args.group open_gate c.args.sequence
    (Asks c.in-Request.r) c.spell_fields.ensures.fits.1

pub returns-in-Request-clause-reads_back : goal.returns-in-Request-clause-reads_back
returns-in-Request-clause-reads_back c =
    let bytes : c.spell_fields.new.slot
    ≡ open_gate ∷ slot_body c.args.group c.args.sequence (Asks c.in-Request.r) = search rules in
    let fits = c.spell_fields.ensures.fits in
    let address : address_of c.in-Request.r.op < 2 ^ 32 = subst (λ (n : ℕ). n < 2 ^ 32) c.address_of.ensures fits.3 in
    let value : op_value c.in-Request.r.op < 2 ^ 64 = subst (λ (n : ℕ). n < 2 ^ 64) c.op_value.ensures fits.4 in
    ap (λ (l : List ℕ). read_in c.args.group l) bytes
    ∙ read_in-spelled c.args.group open_gate c.args.sequence (Asks c.in-Request.r)
    (fits.0, fits.2, record { address = address; value = value }) fits.1
    ∙ ap (λ (x : Command). Some x) (sym c.in-Request.is)

pub returns-in-Request-clause-fits : goal.returns-in-Request-clause-fits
returns-in-Request-clause-fits c =
    let fits = c.spell_fields.ensures.fits in
    let address : address_of c.in-Request.r.op < 2 ^ 32 = subst (λ (n : ℕ). n < 2 ^ 32) c.address_of.ensures fits.3 in
    let value : op_value c.in-Request.r.op < 2 ^ 64 = subst (λ (n : ℕ). n < 2 ^ 64) c.op_value.ensures fits.4 in
    subst FitsCommand (sym c.in-Request.is) (fits.0, fits.2, record { address = address; value = value })

pub returns-in-Confirm-clause-fits : goal.returns-in-Confirm-clause-fits
returns-in-Confirm-clause-fits c = subst FitsCommand (sym c.in-Confirm.is)
    (c.spell_fields-in-Confirm.ensures.fits.0, c.spell_fields-in-Confirm.ensures.fits.2)

pub returns-in-Confirm-clause-sequence : goal.returns-in-Confirm-clause-sequence
returns-in-Confirm-clause-sequence c =
    let bytes : c.spell_fields-in-Confirm.new.slot
    ≡ open_gate ∷ slot_body c.args.group c.args.sequence
    (Confirm c.in-Confirm.element c.in-Confirm.upto) = search rules in
    ap sequence_of bytes ∙ sequence_of-spelled c.args.group open_gate c.args.sequence
    (Confirm c.in-Confirm.element c.in-Confirm.upto) c.spell_fields-in-Confirm.ensures.fits.1

pub returns-in-Confirm-clause-reads_back : goal.returns-in-Confirm-clause-reads_back
returns-in-Confirm-clause-reads_back c =
    let bytes : c.spell_fields-in-Confirm.new.slot
    ≡ open_gate ∷ slot_body c.args.group c.args.sequence
    (Confirm c.in-Confirm.element c.in-Confirm.upto) = search rules in
    let fits = c.spell_fields-in-Confirm.ensures.fits in
    ap (λ (l : List ℕ). read_in c.args.group l) bytes
    ∙ read_in-spelled c.args.group open_gate c.args.sequence (Confirm c.in-Confirm.element c.in-Confirm.upto)
    (fits.0, fits.2) fits.1
    ∙ ap (λ (x : Command). Some x) (sym c.in-Confirm.is)
