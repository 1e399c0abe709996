use Rattle.std.proofs.Common.{◌≡◌, ℕ, List, ◌++◌, string_bytes}
use Rattle.im_types.specs.Types.{layout_of}
use Rattle.im_dump.specs.Salvage.{TellsWindows}

abbrev pub invariant-loop-element : Rattle.im_dump.proofs.windows.add_told_windows.Given.invariant-loop-element
invariant-loop-element l = (text : List ℕ) × TellsWindows (layout_of l.version) l.part l.element text
    × (string_bytes l.out ≡ string_bytes l.fn.out ++ text)
