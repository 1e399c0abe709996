use Rattle.std.proofs.Common.{◌≡◌, ◌-◌, ◌*◌, ◌∷◌, ◌++◌, length, replicate}
use Rattle.byteorder.specs.Endian.{little_bytes}
use Rattle.im_types.specs.Types.{layout_of, zeros, places_from}
use Rattle.im_records.proofs.SessionLemmas.{behind_head}

-- the head, the places so far, and zeros
abbrev pub invariant-loop-place : Rattle.im_records.proofs.session.spell_in.Given.invariant-loop-place
invariant-loop-place l = l.bytes
    ≡ (little_bytes 8 l.window.base ++ length l.window.kept ∷ zeros 23) ++ places_from
    (layout_of l.version).window l.window 0 (replicate l.place 0) ++ zeros (behind_head - 32 * l.place)
