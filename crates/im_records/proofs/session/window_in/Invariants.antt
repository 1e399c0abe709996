use Rattle.std.proofs.Common.{◌≡◌, length, take}
use Rattle.im_types.specs.Types.{Window, layout_of}
use Rattle.im_records.specs.Entries.{SpellsSession}

-- so far these are the entries of each window that the bytes spell
abbrev pub invariant-loop-past : Rattle.im_records.proofs.session.window_in.Given.invariant-loop-past
invariant-loop-past l = record {
  base : l.window.base ≡ l.base;
  many : length l.window.kept ≡ l.past;
  kept : (w : Window) → SpellsSession (layout_of l.version) l.bytes w → l.window.kept ≡ take l.past w.kept;
}
