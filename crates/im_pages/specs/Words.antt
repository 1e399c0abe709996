-- Bits in words of 64. (Own.)
use Rattle.std.specs.Prelude.{◌≡◌, ℕ, zero, suc, ◌+◌, ◌/◌, ◌%◌, ◌^◌, ◌<◌, ◌≤◌, Bool, true, false, List, [], ◌∷◌, length}
use Rattle.std.specs.Prelude.{◌==◌, slice_index_or}
use Rattle.std.specs.Int.{bit_at}

-- whether a bit of words is set
unfoldable pub is_set : List ℕ → ℕ → Bool
is_set words at = bit_at (slice_index_or words (at / 64) 0) (at % 64) == 1

-- n bits of words, from this one on
unfoldable pub bits_from : List ℕ → ℕ → ℕ → List Bool
bits_from words at zero = []
bits_from words at (suc n) = is_set words at ∷ bits_from words (at + 1) n

-- the first bits of words
abbrev pub bits_of : List ℕ → ℕ → List Bool
bits_of words n = bits_from words 0 n

-- the bits lie in as few words as they need
pub record IsPacked (words : List ℕ) (bits : ℕ) : Type 0 where
  pub packed : length words ≡ (bits + 63) / 64
  pub few : bits < 2 ^ 32

-- no bit from one on, and below another, is set
abbrev pub AreClear : List ℕ → ℕ → ℕ → Type 0
AreClear words from to = (bit : ℕ) → from ≤ bit → bit < to → is_set words bit ≡ false

-- the first set bit from one on
pub record IsFirstSet (words : List ℕ) (from bit : ℕ) : Type 0 where
  pub behind : from ≤ bit
  pub set : is_set words bit ≡ true
  pub clear : AreClear words from bit
