use Rattle.std.proofs.Common.{◌≡◌, ℕ, List, ◌∷◌, length, drop, sym, ap, ◌∙◌, rules}
use Rattle.im_types.specs.Types.{layout_in_use, sizes_of, image_length}
use Rattle.im_disk.specs.Moment.{Moment}
use Rattle.im_engine.proofs.Making.{length_new_image}
use Rattle.im_engine.proofs.format.lay_down.Goals as goal

pub write_image-requires-clause-size : goal.write_image-requires-clause-size
write_image-requires-clause-size g c = λ h.
    let size : length c.deref.result.now
    ≡ image_length layout_in_use (sizes_of c.args.limits) = ap (λ (l : List ℕ). length l)
    (c.deref.ensures.value ∙ c.in-Ok-new_image.ensures.image) ∙ length_new_image (sizes_of c.args.limits) in
    let tested : c.in-Ok.length ≡ c.image_length.result = search rules in
    size ∙ sym c.image_length.ensures.length ∙ sym tested ∙ c.in-Ok.ensures.len h
    ∙ sym (ap (λ (m : Moment). length m.bytes) (c.len.ensures.same h).0)

pub returns-clause-written : goal.returns-clause-written
returns-clause-written g c = λ h.
    c.in_default-write_image.ensures.written h
    ∙ ap (λ (l : List ℕ). 0xA5 ∷ drop 1 l) (c.deref.ensures.value ∙ c.in-Ok-new_image.ensures.image)

pub returns-clause-right : goal.returns-clause-right
returns-clause-right g c = λ h.
    let tested : c.in-Ok.length ≡ c.image_length.result = search rules in
    sym (c.in-Ok.ensures.len (c.write_image.ensures.honest h)) ∙ tested ∙ c.image_length.ensures.length

pub returns-clause-honest : goal.returns-clause-honest
returns-clause-honest g c = λ h. c.len.ensures.honest (c.write_image.ensures.honest h)

pub returns-in_default-idle-clause-right : goal.returns-in_default-idle-clause-right
returns-in_default-idle-clause-right g c = λ is h.
    let tested : c.in-Ok.length ≡ c.image_length.result = search rules in (
      sym (c.in-Ok.ensures.len h) ∙ tested
          ∙ c.image_length.ensures.length,
      (c.len.ensures.same h).0,
      (c.len.ensures.same h).1,
    )

pub returns-in-Err-clause-honest : goal.returns-in-Err-clause-honest
returns-in-Err-clause-honest g c = λ h. c.len.ensures.honest (c.write_image.ensures.honest h)
