use Rattle.std.proofs.Common.{ℕ, ◌+◌, ◌-◌, ◌*◌, List, ◌++◌, ap, ◌∙◌}
use Rattle.im_types.specs.Types.{layout_in_use, sizes_of, area_bytes, zeros}
use Rattle.im_image.specs.Fresh.{new_area}

pub returns-in-Ok-clause-image : Rattle.im_image.proofs.fresh.new_image.Goals.returns-in-Ok-clause-image
returns-in-Ok-clause-image c =
    c.in-Ok.ensures
    ∙ ap (λ (first : List ℕ). first ++ zeros (2 * 4096 - 64) ++ new_area (sizes_of c.args.limits) ++ zeros
    (area_bytes layout_in_use (sizes_of c.args.limits) + 64 * c.args.limits.slots)) c.new_header.ensures
