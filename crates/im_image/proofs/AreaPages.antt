-- The pages of an area that spells records.
use Rattle.std.proofs.Common.{◌≡◌, ℕ, suc, ◌+◌, ◌-◌, ◌*◌, ◌/◌, ◌<◌, ◌≤◌, ◌⊎◌, List, length, take, drop, slice_get, sym}
use Rattle.std.proofs.Common.{refl, ap, ◌∙◌, inl, inr, arith, length-drop, length-take-le}
use Rattle.std.proofs.lemmas.{Bool.cases_lt, List.drop-replicate, List.take-replicate}
use Rattle.std.proofs.lemmas.Option.{slice_get-get_or, slice_get_past}
use Rattle.std.proofs.Math.Nat.{mul-le-mul_left, mul-sub, mul-suc}
use Rattle.im_types.specs.Types.{layout_in_use, Sizes, page_bytes, node_count, cell_pages, node_pages, session_pages}
use Rattle.im_types.specs.Types.{area_pages, area_bytes, cell_part, node_part, session_part, record_at, zeros, Records}
use Rattle.im_types.specs.Types.{IsRow, SpellsArea}
use Rattle.im_records.proofs.Joining.{length_of_take, page_of_drop, page_of_take}
use Rattle.im_records.proofs.Pieces.{of_page, record_behind, record_is}
use Rattle.im_records.specs.Paging.{bytes_or_zeros}
use Rattle.im_image.specs.Encoding.{IsAreaPage, SpellsPage}

-- a record of zeros
zeros_at : (size n i : ℕ) → size * i + size ≤ n → record_at size (zeros n) i ≡ zeros size
zeros_at size n i inside =
    record_is size i (zeros n)
    ∙ ap (λ (b : List ℕ). take size b) (drop-replicate (size * i) n 0)
    ∙ take-replicate size (n - size * i) 0 (omega arith)

-- what stands at each place of a row, behind its records too
module _ {X : Type 0} (size : ℕ) (spelled : X → List ℕ) (Fits : X → Type 0) (none : X) (count all : ℕ)
    (bytes : List ℕ) (row : List X) (few : count ≤ all) (long : length bytes ≡ size * all)
    (is : IsRow size spelled Fits none count bytes row) where
  behind : (j : ℕ) → count ≤ j → j < all → record_at size bytes j ≡ zeros size
  behind j from lt =
      ap (λ (k : ℕ). record_at size bytes k) place
      ∙ sym (record_behind size count (j - count) bytes)
      ∙ ap (λ (b : List ℕ). record_at size b (j - count)) is.rest
      ∙ zeros_at size (length (drop (size * count) bytes)) (j - count) (omega (arith, left, inside))
    where
      place : j ≡ count + (j - count)
      place = omega arith

      left : length (drop (size * count) bytes) ≡ size * (all - count)
      left = length-drop (size * count) bytes ∙ ap (λ (k : ℕ). k - size * count) long ∙ sym (mul-sub size all count)

      inside : size * (j - count) + size ≤ size * (all - count)
      inside = omega (
        arith,
        mul-suc size (j - count),
        mul-le-mul_left {m = suc (j - count)} {n = all - count} size
            (omega arith),
      )

  at_place : (j : ℕ) → j < all → record_at size bytes j ≡ bytes_or_zeros size spelled (slice_get row j)
  at_place j lt = by (cases_lt j count)
    where
      by : (j < count) ⊎ (count ≤ j) → record_at size bytes j ≡ bytes_or_zeros size spelled (slice_get row j)
      by (inl below) = is.each j below
          ∙ sym (ap (bytes_or_zeros size spelled) (slice_get-get_or row j none (omega (arith, is.many))))
      by (inr from) = behind j from lt
          ∙ sym (ap (bytes_or_zeros size spelled) (slice_get_past row j (omega (arith, is.many))))

  -- so a page of it spells its records
  page_spells : (per pages i : ℕ) → all ≡ per * pages → per * i + per ≤ all → (page : List ℕ) → length page
      ≡ page_bytes → page ≡ record_at (size * per) bytes i → SpellsPage size per spelled Fits none row i page
  page_spells per pages i whole inside page size_is page_is = record {
    is_page = record {
      long = size_is;
      each = λ k lt. ap (λ (p : List ℕ). record_at size p k) page_is ∙ of_page size per i k bytes lt
          ∙ at_place (per * i + k) (omega arith);
    };
    fits = λ k lt there. is.fits (per * i + k) (omega (arith, is.many));
  }

cells_enough : (n : ℕ) → n ≤ 128 * ((n + 128 - 1) / 128)
cells_enough n = omega arith

nodes_enough : (n : ℕ) → n ≤ 256 * ((n + 256 - 1) / 256)
nodes_enough n = omega arith

sessions_enough : (n : ℕ) → n ≤ 1 * ((n + 1 - 1) / 1)
sessions_enough n = omega arith

by_record : (size per a b : ℕ) → size * per ≡ page_bytes → a ≡ page_bytes * b → a ≡ size * (per * b)
by_record size per a b is e = e ∙ ap (λ (p : ℕ). p * b) (sym is) ∙ assoc size per b
  where
    assoc : (x y z : ℕ) → x * y * z ≡ x * (y * z)
    assoc x y z = grind arith

-- where an area spells records, each of its pages is a page of them
module _ (s : Sizes) (r : Records) (area : List ℕ) (long : length area ≡ area_bytes layout_in_use s)
    (spells : SpellsArea layout_in_use s area r) where
  abbrev c : ℕ
  c = cell_pages s

  abbrev n : ℕ
  n = node_pages layout_in_use s

  abbrev e : ℕ
  e = session_pages layout_in_use s

  page_long : (i : ℕ) → i < area_pages layout_in_use s → length (record_at page_bytes area i) ≡ page_bytes
  page_long i lt =
      ap length (record_is page_bytes i area)
      ∙ length-take-le page_bytes (drop (page_bytes * i) area)
      (omega (arith, length-drop (page_bytes * i) area, long, lt))

  pub page_of_area : (i : ℕ) → i < area_pages layout_in_use s → IsAreaPage s r i (record_at page_bytes area i)
  page_of_area i lt = record {
    cells = λ below. page_spells 32 _ _ _ s.cells (128 * c) (cell_part s area) r.cells
        (cells_enough s.cells) cells_long spells.cells 128 c i refl (omega arith) (record_at page_bytes area i)
        (page_long i lt) (sym (page_of_take c i area below));
    nodes = λ k is below. page_spells 16 _ _ _ (node_count layout_in_use s) (256 * n)
        (node_part layout_in_use s area) r.nodes
        (nodes_enough (node_count layout_in_use s)) nodes_long spells.nodes 256 n k refl (omega arith)
        (record_at page_bytes area i) (page_long i lt)
        (ap (λ (j : ℕ). record_at page_bytes area j) is
        ∙ sym (page_of_take n k (drop (page_bytes * c) area) below ∙ page_of_drop c k area));
    sessions = λ k is below. page_spells 4096 _ _ _ s.elements (1 * e) (session_part layout_in_use s area) r.windows
        (sessions_enough s.elements) sessions_long spells.sessions 1 e k refl (omega arith)
        (record_at page_bytes area i) (page_long i lt)
        (ap (λ (j : ℕ). record_at page_bytes area j) is ∙ sym (page_of_drop (c + n) k area));
  }
    where
      cells_long : length (cell_part s area) ≡ 32 * (128 * c)
      cells_long = by_record 32 128 (length (cell_part s area)) c refl (length_of_take c area (omega (arith, long)))

      nodes_long : length (node_part layout_in_use s area) ≡ 16 * (256 * n)
      nodes_long = by_record 16 256 (length (node_part layout_in_use s area)) n refl
          (length_of_take n (drop (page_bytes * c) area) (omega (arith, length-drop (page_bytes * c) area, long)))

      sessions_long : length (session_part layout_in_use s area) ≡ 4096 * (1 * e)
      sessions_long = by_record 4096 1 (length (session_part layout_in_use s area)) e refl
          (length-drop (page_bytes * (c + n)) area ∙ omega (arith, long))
