use Rattle.std.proofs.Common.{ℕ, List, ◌++◌, map, drop, string_bytes}
use Rattle.im_dialogue.specs.Together.{AreLinesOf}

-- whatever comes of the rest, it is what comes of all
abbrev pub invariant-loop-one : Rattle.im_dialogue.proofs.saying.add_lines.Given.invariant-loop-one
invariant-loop-one l = (rest : List ℕ) → AreLinesOf (drop l.one-index l.told) (map string_bytes l.left) rest
    → AreLinesOf l.told (map string_bytes l.nows) (string_bytes l.lines ++ rest)
