-- Pieces of an area, and its rest behind a place.
use Rattle.std.proofs.Common.{◌≡◌, ℕ, suc, ◌+◌, ◌-◌, ◌*◌, ◌/◌, ◌<◌, ◌≤◌, List, length, take, drop, sym, ap, ◌∙◌, subst}
use Rattle.std.proofs.Common.{arith, length-drop, length-take-le, take_all, take-take, drop-drop}
use Rattle.std.proofs.{lemmas.List.drop-take, Math.Nat.mul-le-mul_left, Math.Nat.mul-suc}
use Rattle.im_types.specs.Types.{record_at, zeros, IsRow}
use Rattle.im_records.{proofs.Pieces.record_behind, proofs.Pieces.record_is, specs.Rows.BeginWith, specs.Rows.StandsAt}

-- a record among the first bytes
pub record_of_first : (size i n : ℕ) (bytes : List ℕ) → size * i + size ≤ n → record_at size (take n bytes) i
    ≡ record_at size bytes i
record_of_first size i n bytes room =
    record_is size i (take n bytes)
    ∙ ap (λ (k : ℕ). take size (drop (size * i) (take k bytes))) (parted (size * i) size n room)
    ∙ ap (take size) (drop-take (size * i) (n - size * i) bytes)
    ∙ take-take size (n - size * i) (drop (size * i) bytes) (enough (size * i) size n room)
    ∙ sym (record_is size i bytes)
  where
    parted : (a b c : ℕ) → a + b ≤ c → c ≡ a + (c - a)
    parted a b c le = omega arith

    enough : (a b c : ℕ) → a + b ≤ c → b ≤ c - a
    enough a b c le = omega arith

-- a record of a piece that begins with a record
pub record_of_piece : (size m i : ℕ) (piece area : List ℕ) → StandsAt (size * m) piece area
    → size * i + size ≤ length piece → record_at size piece i ≡ record_at size area (m + i)
record_of_piece size m i piece area stands room =
    ap (λ (bytes : List ℕ). record_at size bytes i) stands
    ∙ record_of_first size i (length piece) (drop (size * m) area) room
    ∙ record_behind size m i area

-- what is left of a piece behind some bytes
pub rest_of_piece : (a b c n : ℕ) (piece area : List ℕ) → StandsAt a piece area → a + length piece ≡ n → a + b ≡ c
    → drop b piece ≡ drop c (take n area)
rest_of_piece a b c n piece area stands whole place =
    ap (drop b) (stands ∙ sym (drop-take a (length piece) area) ∙ ap (λ (k : ℕ). drop a (take k area)) whole)
    ∙ drop-drop b a (take n area)
    ∙ ap (λ (k : ℕ). drop k (take n area)) place

rest_is : (n : ℕ) (xs : List ℕ) → take (length xs - n) (drop n xs) ≡ drop n xs
rest_is n xs = take_all (length xs - n) (drop n xs) (omega (arith, length-drop n xs))

abbrev are_zeros : List ℕ → Type 0
are_zeros bytes = bytes ≡ zeros (length bytes)

-- that it is zeros, where the first n bytes of the area are so from there on, and back
pub zeros_of_piece : (a b c n : ℕ) (piece area : List ℕ) → are_zeros (take (length piece - b) (drop b piece))
    → StandsAt a piece area → a + length piece ≡ n → a + b ≡ c → are_zeros (drop c (take n area))
zeros_of_piece a b c n piece area are stands whole place = subst are_zeros
    (rest_is b piece ∙ rest_of_piece a b c n piece area stands whole place) are

pub zeros_in_piece : (a b c n : ℕ) (piece area : List ℕ) → are_zeros (drop c (take n area)) → StandsAt a piece area
    → a + length piece ≡ n → a + b ≡ c → are_zeros (take (length piece - b) (drop b piece))
zeros_in_piece a b c n piece area are stands whole place = subst are_zeros
    (sym (rest_is b piece ∙ rest_of_piece a b c n piece area stands whole place)) are

-- of a rest from place k on: its first bytes, those behind them, and what is left
pub first_of_rest : (k n : ℕ) (rest area : List ℕ) → n ≤ length rest → rest ≡ drop k area
    → StandsAt k (take n rest) area
first_of_rest k n rest area few is = ap (take n) is
    ∙ ap (λ (m : ℕ). take m (drop k area)) (sym (length-take-le n rest few))

pub middle_of_rest : (k n m place : ℕ) (rest area : List ℕ) → rest ≡ drop k area → k + n ≡ place
    → take m (take (length rest - n) (drop n rest)) ≡ take m (drop place area)
middle_of_rest k n m place rest area is at =
    ap (take m) (rest_is n rest ∙ ap (drop n) is ∙ drop-drop n k area ∙ ap (λ (p : ℕ). drop p area) at)

pub end_of_rest : (k n place : ℕ) (rest area : List ℕ) → rest ≡ drop k area → k + n ≡ place
    → take (length rest - n) (drop n rest) ≡ drop place area
end_of_rest k n place rest area is at = rest_is n rest ∙ ap (drop n) is ∙ drop-drop n k area
    ∙ ap (λ (p : ℕ). drop p area) at

-- a beginning and a row of the first bytes, with zeros behind the records
module _ {X : Type 0} (size : ℕ) (spelled : X → List ℕ) (Fits : X → Type 0) (none : X) (count n : ℕ) (area : List ℕ)
    (row : List X) (room : size * count ≤ n) where
  inside : (i : ℕ) → i < count → size * i + size ≤ n
  inside i lt = omega (arith, room, mul-suc size i, mul-le-mul_left {m = suc i} {n = count} size lt)

  pub row_of_beginning : BeginWith size spelled Fits none count area row → drop (size * count) (take n area)
      ≡ zeros (length (drop (size * count) (take n area))) → IsRow size spelled Fits none count (take n area) row
  row_of_beginning begin zero_behind = record {
    many = begin.many;
    each = λ i lt. record_of_first size i n area (inside i lt) ∙ (begin.each i lt).is;
    fits = λ i lt. (begin.each i lt).fits;
    rest = zero_behind;
  }

  pub beginning_of_row : IsRow size spelled Fits none count (take n area) row
      → BeginWith size spelled Fits none count area row
  beginning_of_row is = record {
    many = is.many;
    each = λ i lt. record {
      is = sym (record_of_first size i n area (inside i lt))
          ∙ is.each i lt;
      fits = is.fits i lt;
    };
  }

-- so many cells have room on their pages
pub cells_fit : (cells : ℕ) → 32 * cells ≤ 4096 * ((cells + 128 - 1) / 128)
cells_fit cells = omega arith
