use Rattle.std.proofs.Common.{◌≡◌, length}
use Rattle.im_types.specs.Types.{new_window, layout_in_use, session_bytes, FitsWindow}
use Rattle.im_image.proofs.Encoding.{Spelled}

abbrev pub invariant-loop-place : Rattle.im_image.proofs.pages.encode_sessions.Given.invariant-loop-place
invariant-loop-place l = (length l.page ≡ 4096)
    × Spelled 4096 1 (session_bytes layout_in_use)
    (FitsWindow layout_in_use) new_window l.records.windows l.i l.page l.place
