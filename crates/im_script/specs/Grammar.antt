-- The words of a script, as functions from the bytes to what they say. (Own.)
use Rattle.std.specs.Prelude.{ℕ, ◌+◌, ◌-◌, ◌*◌, ◌^◌, Bool, not, ◌&&◌, ◌||◌, List, [], ◌∷◌, map, length, drop}
use Rattle.std.specs.Prelude.{if◌then◌else◌, nat_lt, nat_le, ◌==◌, slice_index_or, Some, None, codes, bytes_eq, filter}
use Rattle.std.specs.Prelude.{position, Option, option_map, option_and_then}
use Rattle.std.specs.{Borrow.Bor, Option.option_or, Str.all_ascii_digits, Str.Parse.digits_value}
use Rattle.std.specs.Char.{is_ascii, is_ascii_digit, is_ascii_lowercase}
use Rattle.std.specs.List.{before_first, list_all, position_or_len, slice_split}
use Rattle.im_types.specs.Types.{Kind, I, M}
use Rattle.im_script.specs.declared.places.Place.{Place, TheVariants.Address, TheVariants.Named}

-- ---- lines and words

-- a line has 4,096 bytes at most, without its line feed
abbrev pub is_short : List ℕ → Bool
is_short line = nat_le (length line) 4096

-- a line that may be read: it isn't too long, and is ASCII
abbrev pub is_line : List ℕ → Bool
is_line line = is_short line && list_all is_ascii line

-- the bytes of borrowed texts
abbrev pub texts : List (Bor (List ℕ)) → List (List ℕ)
texts borrowed = map (λ t. t.now) borrowed

-- the words of a line: its non-empty parts between spaces
abbrev pub words_of : List ℕ → List (List ℕ)
words_of line = filter (λ word. not (length word == 0)) (slice_split (λ byte. byte == 32) line)

-- ---- numbers

-- n with a digit appended, if the byte is a digit and the number fits in a u64
abbrev pub digit_after : ℕ → ℕ → Option ℕ
digit_after n digit =
    if is_ascii_digit digit && nat_lt (n * 10 + (digit - 48)) (2 ^ 64) then Some (n * 10 + (digit - 48)) else None

-- whether a text is decimal digits, one or more and nothing else
abbrev pub is_numeral : List ℕ → Bool
is_numeral text = nat_lt 0 (length text) && all_ascii_digits text

-- the number in a text of decimal digits, if it is at most `most`
abbrev pub number_up_to : ℕ → List ℕ → Option ℕ
number_up_to most text =
    if is_numeral text && nat_le (digits_value 10 text) most then Some (digits_value 10 text) else None

-- two addresses in order, by their texts
abbrev pub span_between : List ℕ → List ℕ → Option (ℕ × ℕ)
span_between first last = option_and_then (λ from. option_and_then
    (λ to. if nat_le from to then Some (from, to) else None)
    (number_up_to 4294967295 last)) (number_up_to 4294967295 first)

-- the same, by what stands before a dash, and by the dash and what stands behind it
abbrev pub span_past : List ℕ → List ℕ → Option (ℕ × ℕ)
span_past first [] = None
span_past first (dash ∷ last) = span_between first last

-- the first and the last of the addresses FROM-TO, which are in order
abbrev pub span_in : List ℕ → Option (ℕ × ℕ)
span_in word = span_past (before_first (λ byte. byte == 45) word)
    (drop (position_or_len (λ byte. byte == 45) word) word)

-- ---- kinds and names

-- the kind that a word names
abbrev pub word_kind : List ℕ → Option Kind
word_kind word = if bytes_eq word (codes "i") then Some I else (if bytes_eq word (codes "m") then Some M else None)

-- a to z, or 0 to 9
abbrev pub is_name_byte : ℕ → Bool
is_name_byte byte = is_ascii_lowercase byte || is_ascii_digit byte

-- a to z and 0 to 9, 1 to 16 of them, the first one a letter
abbrev pub is_name : List ℕ → Bool
is_name word = is_ascii_lowercase (slice_index_or word 0 0) && (nat_le (length word) 16 && list_all is_name_byte word)

-- ---- places

-- the offset after a name: nothing, or a plus and a number up to 1,048,575
abbrev pub offset_of : List ℕ → Option ℕ
offset_of [] = Some 0
offset_of (plus ∷ digits) = number_up_to 1048575 digits

-- a place that begins with one of the names: the name is what comes before the first plus, or all of it
abbrev pub place_past : List (List ℕ) → List ℕ → Option Place
place_past names word =
    option_and_then (λ index. option_map (Named index)
    (offset_of (drop (position_or_len (λ byte. byte == 43) word) word)))
    (position (bytes_eq (before_first (λ byte. byte == 43) word)) names)

-- a place: an address, or one of the names with its offset
abbrev pub word_place : List (List ℕ) → List ℕ → Option Place
word_place names word = option_or (option_map Address (number_up_to 4294967295 word)) (place_past names word)
