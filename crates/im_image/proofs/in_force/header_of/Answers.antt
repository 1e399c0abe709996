use Rattle.std.proofs.Common.{refl, inl}
use Rattle.im_types.specs.Types.{WrongLength}
use Rattle.im_image.proofs.VersionLemmas.{header_may}
use Rattle.im_image.proofs.in_force.header_of.Goals as goal

pub returns-in-Err-clause-only : goal.returns-in-Err-clause-only
returns-in-Err-clause-only c = header_may c.args.versions c.in-Err.refusal c.in-Err.ensures.only

pub returns-else-beginning-image_length-clause-only : goal.returns-else-beginning-image_length-clause-only
returns-else-beginning-image_length-clause-only c = header_may c.args.versions WrongLength (inl refl)
