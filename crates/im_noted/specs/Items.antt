-- The list behind a chain of snapshots.
use Rattle.std.specs.Prelude.{List, [], ◌∷◌}
use Rattle.im_noted.specs.declared.NoteChain.{NoteChain, TheVariants.Behind, TheVariants.Nothing}

-- what was noted, the last first
abbrev pub noted_items : {T : Type 0} → NoteChain T → List T
noted_items Nothing = []
noted_items (Behind before last) = last.value ∷ before.value
