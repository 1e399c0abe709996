-- Bytes at a place among others. (Own.)
use Rattle.std.specs.Prelude.{ℕ, ◌+◌, List, ◌++◌, length, take, drop}

-- bytes with a part of them replaced
abbrev pub placed : ℕ → List ℕ → List ℕ → List ℕ
placed at part bytes = take at bytes ++ part ++ drop (at + length part) bytes
