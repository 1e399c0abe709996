-- A header's numbers fit their fields. (Own.)
use Rattle.std.specs.Prelude.{◌^◌, ◌<◌}
use Rattle.im_types.specs.Types.{Header}

-- the numbers of a header fit their fields
pub record FitsHeader (h : Header) : Type 0 where
  pub version : h.version < 2 ^ 16
  pub generation : h.generation < 2 ^ 64
  pub count : h.count < 2 ^ 64
  pub cells : h.sizes.cells < 2 ^ 32
  pub elements : h.sizes.elements < 2 ^ 16
  pub slots : h.sizes.slots < 2 ^ 32
