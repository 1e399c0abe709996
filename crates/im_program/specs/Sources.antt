-- Where the program reads a text: from a file, or from standard input. (Own.)
use Rattle.std.specs.Prelude.{◌≡◌, ℕ, List, IfSome, if◌then◌else◌, None, codes, bytes_eq, Option}

-- The bytes at a path, where they are known: those that the input gives for the path "-". Of a file nothing is known.
abbrev pub bytes_at : List ℕ → Option (List ℕ) → Option (List ℕ)
bytes_at path input = if bytes_eq path (codes "-") then input else None

-- the text is these bytes, where they are known
abbrev pub IsTextOf : Option (List ℕ) → List ℕ → Type 0
IsTextOf known text = IfSome known (λ bytes. text ≡ bytes)
