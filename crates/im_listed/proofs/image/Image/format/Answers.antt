use Rattle.std.proofs.Common.{◌≡◌, ℕ, List, length, replicate, ap, ◌∙◌, rules}
use Rattle.std.proofs.lemmas.List.{length-replicate}
use Rattle.im_types.specs.Types.{layout_in_use, sizes_of, image_length}
use Rattle.im_listed.proofs.ImageLemmas.{begun_with, right_length}
use Rattle.im_listed.specs.Listing.{Listing, over}
use Rattle.im_listed.proofs.image.Image.format.Goals as goal

pub returns-in-Ok-format-clause-carried : goal.returns-in-Ok-format-clause-carried
returns-in-Ok-format-clause-carried c =
    let zeros : c.in-Ok.bytes.items ≡ replicate c.image_length.result 0 = search rules in
    let is = c.new.ensures.over
    ∙ ap (λ (bytes : List ℕ). over bytes) (zeros ∙ ap (λ (n : ℕ). replicate n 0) c.image_length.ensures.length) in
    begun_with (replicate
    (image_length layout_in_use (sizes_of c.args.limits)) 0) c.in-Ok-format.engine.disk c.new.result
    (ap (λ (d : Listing). d.failed) is, ap (λ (d : Listing). d.begun) is)
    c.in-Ok-format.ensures.faults c.known.ensures.account

pub returns-in-Ok-format-clause-means : goal.returns-in-Ok-format-clause-means
returns-in-Ok-format-clause-means c = c.in-Ok-format.ensures.means tt

pub returns-clause-only : goal.returns-clause-only
returns-clause-only c =
    let n = image_length layout_in_use (sizes_of c.args.limits) in
    let zeros : c.in-Ok.bytes.items ≡ replicate c.image_length.result 0 = search rules in
    let size : length c.in-Ok.bytes.items ≡ n = ap length zeros ∙ length-replicate c.image_length.result 0
    ∙ c.image_length.ensures.length in
    right_length c.in-Ok.bytes.items n c.in-Err.refusal c.new.result c.new.ensures.over size c.in-Err.ensures.faults.0
    (λ is. (c.in-Err.ensures.wrong is tt).0)
