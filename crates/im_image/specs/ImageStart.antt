-- The beginning of an image. (Own.)
use Rattle.std.specs.Prelude.{◌≡◌, ℕ, ◌≤◌, List, length}
use Rattle.im_types.specs.Types.{header_place}
use Rattle.im_image.specs.declared.in_force.ImageStart.{ImageStart}

-- this is the beginning of the file
pub record IsImageStart (b : ImageStart) (file : List ℕ) : Type 0 where
  pub length_is : b.length ≡ length file
  pub room : 8192 ≤ length file
  pub zero_is : b.zero ≡ header_place 0 file
  pub one_is : b.one ≡ header_place 1 file
