-- Bytes that have the fields of a cell, and beside them what its spelling has there, are its spelling.
use Rattle.std.proofs.Common.{◌≡◌, ℕ, zero, suc, ◌+◌, ◌-◌, ◌/◌, ◌^◌, ◌<◌, Bool, true, false, List, [], ◌∷◌, ◌++◌}
use Rattle.std.proofs.Common.{length, get_or, take, drop, if◌then◌else◌, ◌==◌, slice_range, Some, None, Option, sym}
use Rattle.std.proofs.Common.{refl, ap, ◌∙◌, subst, arith, get_or-drop}
use Rattle.byteorder.specs.Endian.{little_bytes, little_number}
use Rattle.byteorder.specs.Numbers.{little_from-lt, little_number-reads_back}
use Rattle.std.proofs.{lemmas.Bool.Decides.nat_tests, Math.Nat.mod-lt}
use Rattle.std.specs.Int.{byte_at, bytes_low_first}
use Rattle.im_types.specs.Types.{Kind, Block, I, M, NONE, zeros, same_bytes, number_at, kind_code, PresenceTag}
use Rattle.im_types.specs.Types.{CellRecord, TagEmpty, TagWaiting, TagFull, TagClashed, FreeCell, BlockCell, tag_code}
use Rattle.im_types.specs.Types.{tag_first, tag_last, tag_value, cell_bytes}
use Rattle.im_formats.proofs.Same.{same_bytes_true}
use Rattle.im_formats.specs.Reading.{block_cell, cell_in, kind_of, tag_of}
use Rattle.im_records.proofs.Words.{all_same, same_both, same_byte, same_of_number}
use Rattle.im_records.specs.{Filled.FillCell, Filled.FillTag, Words.SameAt}

-- a tag has the numbers that it is read of
abbrev pub HasNumbers : PresenceTag → ℕ → ℕ → ℕ → Type 0
HasNumbers TagEmpty first last value = first ≡ first
HasNumbers (TagWaiting f l) first last value = (first ≡ f) × (last ≡ l)
HasNumbers (TagFull v) first last value = value ≡ v
HasNumbers (TagClashed v) first last value = value ≡ v

kind_told : (code : ℕ) (kind : Kind) → kind_of code ≡ Some kind → code ≡ kind_code kind
kind_told code I e = grind (arith, nat_tests)
kind_told code M e = grind (arith, nat_tests)

tag_told : (code first last value : ℕ) (tag : PresenceTag) → tag_of code first last value ≡ Some tag
    → (code ≡ tag_code tag) × HasNumbers tag first last value
tag_told code first last value TagEmpty e = (grind (arith, nat_tests), refl)
tag_told code first last value (TagWaiting f l) e =
    (grind (arith, nat_tests), (grind (arith, nat_tests), grind (arith, nat_tests)))
tag_told code first last value (TagFull v) e = (grind (arith, nat_tests), grind (arith, nat_tests))
tag_told code first last value (TagClashed v) e = (grind (arith, nat_tests), grind (arith, nat_tests))

-- what a cell's spelling has beside its fields
pub fill_own : (cell : CellRecord) → FillCell (cell_bytes cell) cell
fill_own (FreeCell hole next) = (refl, (refl, refl), (refl, refl))
fill_own (BlockCell block TagEmpty) = ((refl, refl), (refl, refl))
fill_own (BlockCell block (TagWaiting first last)) = ((refl, refl), refl)
fill_own (BlockCell block (TagFull v)) = ((refl, refl), refl)
fill_own (BlockCell block (TagClashed v)) = ((refl, refl), refl)

-- the bytes of numbers are bytes
abbrev pub Few : List ℕ → Type 0
Few bytes = (i : ℕ) → get_or bytes i 0 < 256

few_none : Few []
few_none i = omega arith

few_more : (b : ℕ) (bytes : List ℕ) → b < 256 → Few bytes → Few (b ∷ bytes)
few_more b bytes lt few zero = lt
few_more b bytes lt few (suc i) = few i

few_byte : (k x : ℕ) → byte_at k x < 256
few_byte zero x = mod-lt x (omega arith)
few_byte (suc k) x = mod-lt (x / 256 ^ suc k) (omega arith)

few_low : (n j x : ℕ) (bytes : List ℕ) → Few bytes → Few (bytes_low_first j n x ++ bytes)
few_low zero j x bytes few = few
few_low (suc n) j x bytes few =
    few_more (byte_at j x) (bytes_low_first (suc j) n x ++ bytes) (few_byte j x) (few_low n (suc j) x bytes few)

few_zeros : (n : ℕ) (bytes : List ℕ) → Few bytes → Few (zeros n ++ bytes)
few_zeros zero bytes few = few
few_zeros (suc n) bytes few = few_more 0 (zeros n ++ bytes) (omega arith) (few_zeros n bytes few)

few_tag : (tag : PresenceTag) → tag_code tag < 256
few_tag TagEmpty = omega arith
few_tag (TagWaiting first last) = omega arith
few_tag (TagFull v) = omega arith
few_tag (TagClashed v) = omega arith

few_kind : (kind : Kind) → kind_code kind < 256
few_kind I = omega arith
few_kind M = omega arith

pub few_cell : (cell : CellRecord) → Few (cell_bytes cell)
few_cell (FreeCell hole next) =
    let last = little_bytes 4 NONE ++ zeros 12 in
    let first = little_bytes 4 NONE ++ last in
    let long = little_bytes 4 next ++ first in
    few_zeros 4 (little_bytes 4 hole ++ long) (few_low 4 0 hole long (few_low 4 0 next first (few_low 4 0 NONE last
    (few_low 4 0 NONE (zeros 12) (few_zeros 12 [] few_none)))))
few_cell (BlockCell block tag) =
    let value = little_bytes 8 (tag_value tag) in
    let last = little_bytes 4 (tag_last tag) ++ zeros 4 ++ value in
    let first = little_bytes 4 (tag_first tag) ++ last in
    let long = little_bytes 4 block.length ++ first in
    let base = little_bytes 4 block.base ++ long in
    few_more (tag_code tag) (kind_code block.kind ∷ zeros 2 ++ base) (few_tag tag)
    (few_more (kind_code block.kind) (zeros 2 ++ base) (few_kind block.kind) (few_zeros 2 base
    (few_low 4 0 block.base long (few_low 4 0 block.length first (few_low 4 0 (tag_first tag) last
    (few_low 4 0 (tag_last tag) (zeros 4 ++ value) (few_zeros 4 value (few_low 8 0 (tag_value tag) [] few_none))))))))

-- bytes have the same fields, and the same beside them
pub record SameFields (xs ys : List ℕ) : Type 0 where
  pub tag : get_or xs 0 0 ≡ get_or ys 0 0
  pub kind : get_or xs 1 0 ≡ get_or ys 1 0
  pub gap : number_at 2 2 xs ≡ number_at 2 2 ys
  pub base : number_at 4 4 xs ≡ number_at 4 4 ys
  pub length : number_at 4 8 xs ≡ number_at 4 8 ys
  pub links : SameAt xs ys 12 8
  pub unused : number_at 4 20 xs ≡ number_at 4 20 ys
  pub value : number_at 8 24 xs ≡ number_at 8 24 ys

all_fields : (xs ys : List ℕ) → Few xs → Few ys → SameFields xs ys → SameAt xs ys 0 32
all_fields xs ys few less same =
    same_both xs ys 0 1 31 (same_byte xs ys 0 same.tag)
    (same_both xs ys 1 1 30 (same_byte xs ys 1 same.kind)
    (same_both xs ys 2 2 28 (same_of_number 2 xs ys 2 few less same.gap)
    (same_both xs ys 4 4 24 (same_of_number 4 xs ys 4 few less same.base)
    (same_both xs ys 8 4 20 (same_of_number 4 xs ys 8 few less same.length)
    (same_both xs ys 12 8 12 same.links
    (same_both xs ys 20 4 8 (same_of_number 4 xs ys 20 few less same.unused)
    (same_of_number 8 xs ys 24 few less same.value)))))))

few_first : (n : ℕ) (bytes : List ℕ) → Few bytes → Few (take n bytes)
few_first zero bytes few i = omega arith
few_first (suc n) [] few i = omega arith
few_first (suc n) (b ∷ bytes) few zero = few 0
few_first (suc n) (b ∷ bytes) few (suc i) = few_first n bytes (λ k. few (suc k)) i

few_range : (n at : ℕ) (bytes : List ℕ) → Few bytes → Few (slice_range bytes at (at + n))
few_range n at bytes few = few_first (at + n - at) (drop at bytes)
    (λ i. omega (arith, get_or-drop at bytes i 0, few (at + i)))

-- a number of so many bytes reads back of its spelling
back : (n at : ℕ) (bytes : List ℕ) (x : ℕ) → Few bytes → number_at n at bytes ≡ x → number_at n at bytes
    ≡ little_number n (little_bytes n x ++ [])
back n at bytes x few e = e ∙ sym (little_number-reads_back n x [] (subst (λ (m : ℕ). m < 256 ^ n) e
    (little_from-lt 0 n (slice_range bytes at (at + n)) (few_range n at bytes few))))

-- what a free cell was read of
free_by : (b : Bool) (kind : Option Kind) (tag : Option PresenceTag) (base long hole next : ℕ)
    → (if b then Some (FreeCell base long) else block_cell base long kind tag) ≡ Some (FreeCell hole next)
    → (b ≡ true) × (base ≡ hole) × (long ≡ next)
free_by true kind tag base long hole next e = (refl, cc, cc)
free_by false None tag base long hole next e = cc
free_by false (Some k) None base long hole next e = cc
free_by false (Some k) (Some t) base long hole next e = cc

-- what a cell of a block was read of
held_by : (b : Bool) (kind : Option Kind) (tag : Option PresenceTag) (base long : ℕ) (block : Block) (t : PresenceTag)
    → (if b then Some (FreeCell base long) else block_cell base long kind tag) ≡ Some (BlockCell block t)
    → (kind ≡ Some block.kind) × (tag ≡ Some t) × (base ≡ block.base) × (long ≡ block.length)
held_by true kind tag base long block t e = cc
held_by false None tag base long block t e = cc
held_by false (Some k) None base long block t e = cc
held_by false (Some k) (Some s) base long block t e =
    let same : (record { base = base; length = long; kind = k }) ≡ block = cc in
    let tags : s ≡ t = cc in (
      ap (λ (b : Block). Some b.kind) same,
      ap Some tags,
      ap (λ (b : Block). b.base) same,
      ap (λ (b : Block). b.length) same,
    )

zero_told : (n : ℕ) → (n == 0) ≡ true → n ≡ 0
zero_told n e = grind (arith, nat_tests)

-- the links and the value of a cell's record
links_and_value : (bytes : List ℕ) (block : Block) (tag : PresenceTag) → Few bytes
    → HasNumbers tag (number_at 4 12 bytes) (number_at 4 16 bytes) (number_at 8 24 bytes) → FillTag bytes tag
    → SameAt bytes (cell_bytes (BlockCell block tag)) 12 8
    × (number_at 8 24 bytes ≡ number_at 8 24 (cell_bytes (BlockCell block tag)))
links_and_value bytes block TagEmpty few told fill = (
  same_of_number 8 bytes (cell_bytes (BlockCell block TagEmpty)) 12 few (few_cell (BlockCell block TagEmpty)) fill.0,
  fill.1,
)
links_and_value bytes block (TagWaiting first last) few told fill =
    let cell = BlockCell block (TagWaiting first last) in (
      same_both bytes (cell_bytes cell) 12 4 4
          (same_of_number 4 bytes (cell_bytes cell) 12 few (few_cell cell) (back 4 12 bytes first few told.0))
          (same_of_number 4 bytes (cell_bytes cell) 16 few (few_cell cell) (back 4 16 bytes last few told.1)),
      fill,
    )
links_and_value bytes block (TagFull v) few told fill =
    let cell = BlockCell block (TagFull v) in
    (same_of_number 8 bytes (cell_bytes cell) 12 few (few_cell cell) fill, back 8 24 bytes v few told)
links_and_value bytes block (TagClashed v) few told fill =
    let cell = BlockCell block (TagClashed v) in
    (same_of_number 8 bytes (cell_bytes cell) 12 few (few_cell cell) fill, back 8 24 bytes v few told)

-- bytes that a cell was read of, and that have beside its fields what its spelling has there, are its spelling
pub filled : (bytes : List ℕ) (cell : CellRecord) → length bytes ≡ 32 → Few bytes → cell_in bytes ≡ Some cell
    → FillCell bytes cell → true ≡ same_bytes bytes (cell_bytes cell)
unfolding cell_in
filled bytes (FreeCell hole next) long few e fill =
    let cell = FreeCell hole next in
    let told = free_by (get_or bytes 1 0 == 0) (kind_of (get_or bytes 1 0)) (tag_of (get_or bytes 0 0)
    (number_at 4 12 bytes) (number_at 4 16 bytes) (number_at 8 24 bytes)) (number_at 4 4 bytes)
    (number_at 4 8 bytes) hole next e in
    all_same bytes (cell_bytes cell) 32 long refl (all_fields bytes (cell_bytes cell) few (few_cell cell) (record {
      tag = fill.0;
      kind = zero_told (get_or bytes 1 0) told.0;
      gap = fill.1.0;
      base = back 4 4 bytes hole few told.1;
      length = back 4 8 bytes next few told.2;
      links = same_of_number 8 bytes (cell_bytes cell) 12 few (few_cell cell) fill.2.0;
      unused = fill.1.1;
      value = fill.2.1;
    }))
filled bytes (BlockCell block tag) long few e fill =
    let cell = BlockCell block tag in
    let told = held_by (get_or bytes 1 0 == 0) (kind_of (get_or bytes 1 0)) (tag_of (get_or bytes 0 0)
    (number_at 4 12 bytes) (number_at 4 16 bytes) (number_at 8 24 bytes)) (number_at 4 4 bytes)
    (number_at 4 8 bytes) block tag e in
    let numbers = tag_told (get_or bytes 0 0) (number_at 4 12 bytes) (number_at 4 16 bytes) (number_at 8 24 bytes) tag
    told.1 in
    let both = links_and_value bytes block tag few numbers.1 fill.1 in
    all_same bytes (cell_bytes cell) 32 long refl (all_fields bytes (cell_bytes cell) few (few_cell cell) (record {
      tag = numbers.0;
      kind = kind_told (get_or bytes 1 0) block.kind told.0;
      gap = fill.0.0;
      base = back 4 4 bytes block.base few told.2;
      length = back 4 8 bytes block.length few told.3;
      links = both.0;
      unused = fill.0.1;
      value = both.1;
    }))

-- and bytes of which one is another there are not its spelling
pub not_filled : (bytes : List ℕ) (cell : CellRecord) → (FillCell bytes cell → ⊥) → false
    ≡ same_bytes bytes (cell_bytes cell)
not_filled bytes cell other = by_result (same_bytes bytes (cell_bytes cell)) refl
  where
    by_result : (b : Bool) → same_bytes bytes (cell_bytes cell) ≡ b → false ≡ b
    by_result false e = refl
    by_result true e = absurd (other (subst (λ (b : List ℕ). FillCell b cell)
        (sym (same_bytes_true bytes (cell_bytes cell) e)) (fill_own cell)))
