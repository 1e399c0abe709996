use Rattle.std.proofs.Common.{option_and_then, sym, ap, ◌∙◌}
use Rattle.im_formats.specs.Reading.{place_if, place_in}
use Rattle.im_records.proofs.Reading.{no_place, place_by}
use Rattle.im_records.proofs.read.read_place.Goals as goal

pub returns-in_default : goal.returns-in_default
returns-in_default c = no_place c.args.bytes.now c.in_default.ensures.cases

pub returns-in_err-place_in : goal.returns-in_err-place_in
returns-in_err-place_in c =
    c.from_residual.ensures ∙ ap (option_and_then (place_if c.args.bytes.now)) (sym c.in_err-place_in.was)
    ∙ sym (place_by c.args.bytes.now c.place_in.result (c.place_in.ensures ∙ ap place_in c.in-Some.ensures.cases.same))

pub returns : goal.returns
returns c =
    c.place_if.ensures ∙ ap (λ bytes. place_if bytes c.in_ok-place_in.field-0) c.in-Some.ensures.cases.same
    ∙ ap (option_and_then (place_if c.args.bytes.now)) (sym c.in_ok-place_in.was)
    ∙ sym (place_by c.args.bytes.now c.place_in.result (c.place_in.ensures ∙ ap place_in c.in-Some.ensures.cases.same))
