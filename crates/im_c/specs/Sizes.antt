-- The sizes of an image, for C.
use Rattle.im_types.specs.Types.{Sizes}
use Rattle.im_c.specs.declared.plain.LtLimits.{LtLimits}

-- the sizes in C's form
abbrev pub sizes_told : LtLimits → Sizes
sizes_told limits = record { cells = limits.cells; elements = limits.elements; slots = limits.slots }
