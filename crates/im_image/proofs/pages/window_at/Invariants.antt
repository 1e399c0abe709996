use Rattle.std.proofs.Common.{◌≡◌, ◌-◌, take, slice_index_or}
use Rattle.im_types.specs.Types.{new_window}

abbrev pub invariant-loop-number : Rattle.im_image.proofs.pages.window_at.Given.invariant-loop-number
invariant-loop-number l = l.window
    ≡ record {
      base = l.base;
      kept = take (l.number - l.base)
          (slice_index_or l.records.windows l.element new_window).kept;
    }
