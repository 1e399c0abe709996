use Rattle.std.proofs.Common.{◌≡◌, ℕ, ◌<◌, length}
use Rattle.im_types.specs.Types.{sizes_of, record_at}
use Rattle.im_image.specs.Encoding.{IsAreaPage}

abbrev pub invariant-loop-i : Rattle.im_image.proofs.pages.encode.Given.invariant-loop-i
invariant-loop-i l = (length l.area ≡ length l.initial.area)
    × ((k : ℕ) → k < l.i → IsAreaPage (sizes_of l.limits) l.memory.records k (record_at 4096 l.area k))
