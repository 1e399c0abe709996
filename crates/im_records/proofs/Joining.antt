-- Pages that have the records of an area, one behind the other, are an area of these records.
use Rattle.std.proofs.Common.{◌≡◌, ℕ, zero, suc, ◌+◌, ◌-◌, ◌*◌, ◌/◌, ◌<◌, ◌≤◌, ◌⊎◌, List, ◌++◌, length, take, drop}
use Rattle.std.proofs.Common.{slice_get, slice_index_or, sym, refl, ap, ◌∙◌, subst, inl, inr, arith, length-append}
use Rattle.std.proofs.Common.{length-drop, length-take-le, take_all, take-take, drop-drop, take_at, drop_at}
use Rattle.std.proofs.lemmas.{Bool.cases_lt, List.drop-take, Option.slice_get-get_or, Option.slice_get_past}
use Rattle.im_types.specs.Types.{NONE, new_window, layout_in_use, Sizes, page_bytes, cell_record_bytes}
use Rattle.im_types.specs.Types.{node_record_bytes, session_record_bytes, node_count, on_a_page, cell_pages, node_pages}
use Rattle.im_types.specs.Types.{session_pages, area_pages, area_bytes, cell_part, node_part, session_part, record_at}
use Rattle.im_types.specs.Types.{FreeCell, FreeNode, cell_bytes, node_bytes, FitsCell, FitsNode, session_bytes}
use Rattle.im_types.specs.Types.{FitsWindow, Records, IsRow, SpellsArea}
use Rattle.im_records.proofs.Pieces.{of_pages, record_is, zeros_behind}
use Rattle.im_records.specs.Paging.{ArePages, bytes_or_zeros, FitRecords, IsCellPage, IsNodePage, IsSessionPage, joined}

-- a row whose records, and zeros behind them, stand at all places of bytes
row_by_places : {X : Type 0} (size : ℕ) (spelled : X → List ℕ) (Fits : X → Type 0) (none : X) (count all : ℕ)
    (bytes : List ℕ) (row : List X) → count ≤ all → length bytes ≡ size * all → length row ≡ count
    → ((i : ℕ) → i < count → Fits (slice_index_or row i none))
    → ((j : ℕ) → j < all → record_at size bytes j ≡ bytes_or_zeros size spelled (slice_get row j))
    → IsRow size spelled Fits none count bytes row
row_by_places size spelled Fits none count all bytes row few long many fits places = record {
  many = many;
  each = λ i lt. places i (omega arith)
      ∙ ap (bytes_or_zeros size spelled) (slice_get-get_or row i none (omega (arith, many)));
  fits = fits;
  rest = zeros_behind size count all bytes few long
      (λ j from to. places j to ∙ ap (bytes_or_zeros size spelled) (slice_get_past row j (omega (arith, many))));
}

-- pages of the parts of an area
pub page_of_take : (n i : ℕ) (area : List ℕ) → i < n → record_at page_bytes (take (page_bytes * n) area) i
    ≡ record_at page_bytes area i
page_of_take n i area lt =
    record_is page_bytes i (take (page_bytes * n) area)
    ∙ ap (λ (k : ℕ). take page_bytes (drop (page_bytes * i) (take k area))) size
    ∙ ap (take page_bytes) (drop-take (page_bytes * i) (page_bytes * n - page_bytes * i) area)
    ∙ take-take page_bytes (page_bytes * n - page_bytes * i) (drop (page_bytes * i) area) (omega arith)
    ∙ sym (record_is page_bytes i area)
  where
    size : page_bytes * n ≡ page_bytes * i + (page_bytes * n - page_bytes * i)
    size = omega arith

pub page_of_drop : (n i : ℕ) (area : List ℕ) → record_at page_bytes (drop (page_bytes * n) area) i
    ≡ record_at page_bytes area (n + i)
page_of_drop n i area =
    record_is page_bytes i (drop (page_bytes * n) area)
    ∙ ap (take page_bytes) (drop-drop (page_bytes * i) (page_bytes * n) area)
    ∙ ap (λ (k : ℕ). take page_bytes (drop k area)) (sum n i)
    ∙ sym (record_is page_bytes (n + i) area)
  where
    sum : (a b : ℕ) → page_bytes * a + page_bytes * b ≡ page_bytes * (a + b)
    sum a b = omega arith

pub length_of_take : (n : ℕ) (area : List ℕ) → page_bytes * n ≤ length area → length (take (page_bytes * n) area)
    ≡ page_bytes * n
length_of_take n area le = length-take-le (page_bytes * n) area le

pub length_of_drop : (n rest : ℕ) (area : List ℕ) → length area ≡ page_bytes * (n + rest)
    → length (drop (page_bytes * n) area) ≡ page_bytes * rest
length_of_drop n rest area e = length-drop (page_bytes * n) area ∙ less (length area) e
  where
    less : (a : ℕ) → a ≡ page_bytes * (n + rest) → a - page_bytes * n ≡ page_bytes * rest
    less a f = omega arith

module _ (s : Sizes) (r : Records) (fit : FitRecords s r) (area : List ℕ)
    (long : length area ≡ area_bytes layout_in_use s) (pages : ArePages s r (λ i. record_at page_bytes area i)) where
  cells_row : IsRow cell_record_bytes cell_bytes (FitsCell s.cells (node_count layout_in_use s))
      (FreeCell 0 NONE) s.cells (cell_part s area) r.cells
  cells_row = row_by_places cell_record_bytes cell_bytes (FitsCell s.cells (node_count layout_in_use s))
      (FreeCell 0 NONE) s.cells (on_a_page cell_record_bytes * cell_pages s) (cell_part s area) r.cells
      (enough s.cells) size fit.many_cells fit.cells
      (of_pages cell_record_bytes (on_a_page cell_record_bytes) (cell_pages s) (cell_part s area)
      (λ j. bytes_or_zeros cell_record_bytes cell_bytes (slice_get r.cells j)) (omega arith)
      (λ i k lt below. ap (λ (p : List ℕ). record_at cell_record_bytes p k)
      (page_of_take (cell_pages s) i area lt) ∙ (pages.cells i lt).each k below))
    where
      enough : (n : ℕ) → n ≤ on_a_page cell_record_bytes *
          ((n + on_a_page cell_record_bytes - 1) / on_a_page cell_record_bytes)
      enough n = omega arith

      by_record : (a b : ℕ) → a ≡ page_bytes * b → a ≡ cell_record_bytes * (on_a_page cell_record_bytes * b)
      by_record a b e = omega arith

      within : (a b c d : ℕ) → d ≡ page_bytes * (a + b + c) → page_bytes * a ≤ d
      within a b c d e = omega arith

      size : length (cell_part s area) ≡ cell_record_bytes * (on_a_page cell_record_bytes * cell_pages s)
      size = by_record (length (cell_part s area)) (cell_pages s)
          (length_of_take (cell_pages s) area
          (within (cell_pages s) (node_pages layout_in_use s) (session_pages layout_in_use s) (length area) long))

  nodes_row : IsRow node_record_bytes node_bytes (FitsNode (node_count layout_in_use s)) (FreeNode NONE)
      (node_count layout_in_use s) (node_part layout_in_use s area) r.nodes
  nodes_row = row_by_places node_record_bytes node_bytes (FitsNode (node_count layout_in_use s)) (FreeNode NONE)
      (node_count layout_in_use s) (on_a_page node_record_bytes * node_pages layout_in_use s)
      (node_part layout_in_use s area) r.nodes (enough (node_count layout_in_use s)) size fit.many_nodes fit.nodes
      (of_pages node_record_bytes (on_a_page node_record_bytes) (node_pages layout_in_use s)
      (node_part layout_in_use s area) (λ j. bytes_or_zeros node_record_bytes node_bytes (slice_get r.nodes j))
      (omega arith)
      (λ i k lt below. ap (λ (p : List ℕ). record_at node_record_bytes p k)
      (page_of_take (node_pages layout_in_use s) i (drop (page_bytes * cell_pages s) area) lt
      ∙ page_of_drop (cell_pages s) i area) ∙ (pages.nodes i lt).each k below))
    where
      enough : (n : ℕ) → n ≤ on_a_page node_record_bytes *
          ((n + on_a_page node_record_bytes - 1) / on_a_page node_record_bytes)
      enough n = omega arith

      by_record : (a b : ℕ) → a ≡ page_bytes * b → a ≡ node_record_bytes * (on_a_page node_record_bytes * b)
      by_record a b e = omega arith

      sums : (a b c d : ℕ) → d ≡ page_bytes * (a + b + c) → d ≡ page_bytes * (a + (b + c))
      sums a b c d e = omega arith

      within : (b c d : ℕ) → d ≡ page_bytes * (b + c) → page_bytes * b ≤ d
      within b c d e = omega arith

      size : length (node_part layout_in_use s area)
          ≡ node_record_bytes * (on_a_page node_record_bytes * node_pages layout_in_use s)
      size = by_record (length (node_part layout_in_use s area)) (node_pages layout_in_use s)
          (length_of_take (node_pages layout_in_use s) (drop (page_bytes * cell_pages s) area)
          (within (node_pages layout_in_use s) (session_pages layout_in_use s)
          (length (drop (page_bytes * cell_pages s) area))
          (length_of_drop (cell_pages s) (node_pages layout_in_use s + session_pages layout_in_use s) area
          (sums (cell_pages s) (node_pages layout_in_use s) (session_pages layout_in_use s) (length area) long))))

  sessions_row : IsRow (session_record_bytes layout_in_use) (session_bytes layout_in_use)
      (FitsWindow layout_in_use) new_window s.elements (session_part layout_in_use s area) r.windows
  sessions_row = row_by_places (session_record_bytes layout_in_use) (session_bytes layout_in_use)
      (FitsWindow layout_in_use) new_window s.elements
      (on_a_page (session_record_bytes layout_in_use) * session_pages layout_in_use s)
      (session_part layout_in_use s area) r.windows (enough s.elements) size fit.many_windows fit.windows
      (of_pages (session_record_bytes layout_in_use) (on_a_page (session_record_bytes layout_in_use))
      (session_pages layout_in_use s) (session_part layout_in_use s area)
      (λ j. bytes_or_zeros (session_record_bytes layout_in_use) (session_bytes layout_in_use)
      (slice_get r.windows j)) (omega arith)
      (λ i k lt below. ap (λ (p : List ℕ). record_at (session_record_bytes layout_in_use) p k)
      (page_of_drop (cell_pages s + node_pages layout_in_use s) i area) ∙ (pages.sessions i lt).each k below))
    where
      enough : (n : ℕ) → n ≤ on_a_page (session_record_bytes layout_in_use) *
          ((n + on_a_page (session_record_bytes layout_in_use) - 1) / on_a_page (session_record_bytes layout_in_use))
      enough n = omega arith

      by_record : (a b : ℕ) → a ≡ page_bytes * b → a
          ≡ (session_record_bytes layout_in_use) * (on_a_page (session_record_bytes layout_in_use) * b)
      by_record a b e = omega arith

      size : length (session_part layout_in_use s area)
          ≡ (session_record_bytes layout_in_use) *
          (on_a_page (session_record_bytes layout_in_use) * session_pages layout_in_use s)
      size = by_record (length (session_part layout_in_use s area)) (session_pages layout_in_use s)
          (length_of_drop (cell_pages s + node_pages layout_in_use s) (session_pages layout_in_use s) area long)

  pub area_of_pages : SpellsArea layout_in_use s area r
  area_of_pages = record { cells = cells_row; nodes = nodes_row; sessions = sessions_row }

-- pages one behind the other
pub length-joined : (n : ℕ) (page : ℕ → List ℕ) → ((i : ℕ) → i < n → length (page i) ≡ page_bytes)
    → length (joined n page) ≡ page_bytes * n
length-joined zero page long = refl
length-joined (suc n) page long = length-append (joined n page) (page n)
    ∙ sums n (length-joined n page (λ i lt. long i (omega arith))) (long n (omega arith))
  where
    sums : {a b : ℕ} (m : ℕ) → a ≡ page_bytes * m → b ≡ page_bytes → a + b ≡ page_bytes * suc m
    sums m e f = omega arith

joined_at : (n : ℕ) (page : ℕ → List ℕ) → ((i : ℕ) → i < n → length (page i) ≡ page_bytes) → (i : ℕ) → i < n
    → record_at page_bytes (joined n page) i ≡ page i
joined_at zero page long i lt = absurd (omega arith)
joined_at (suc n) page long i lt = by (λ below. joined_at n page (λ j lt'. long j (omega arith)) i below) (cases_lt i n)
  where
    before : length (joined n page) ≡ page_bytes * n
    before = length-joined n page (λ j below. long j (omega arith))

    last : record_at page_bytes (joined n page ++ page n) n ≡ page n
    last = record_is page_bytes n (joined n page ++ page n)
        ∙ ap (take page_bytes) (drop_at (joined n page) (page n) (page_bytes * n) before)
        ∙ take_all page_bytes (page n) (omega (arith, long n (omega arith)))

    by : (i < n → record_at page_bytes (joined n page) i ≡ page i) → (i < n) ⊎ (n ≤ i)
        → record_at page_bytes (joined n page ++ page n) i ≡ page i
    by before_is (inl below) =
        sym (page_of_take n i (joined n page ++ page n) below)
        ∙ ap (λ (l : List ℕ). record_at page_bytes l i) (take_at (joined n page) (page n) (page_bytes * n) before)
        ∙ before_is below
    by before_is (inr above) =
        let same : n ≡ i = omega arith in
        ap (λ (k : ℕ). record_at page_bytes (joined n page ++ page n) k) (sym same) ∙ last ∙ ap page same

-- each page is as long as a page
page_long : (s : Sizes) (r : Records) (page : ℕ → List ℕ) → ArePages s r page → (i : ℕ)
    → i < area_pages layout_in_use s → length (page i) ≡ page_bytes
page_long s r page pages i lt = by (cases_lt i (cell_pages s)) (cases_lt i (cell_pages s + node_pages layout_in_use s))
  where
    back : (a b : ℕ) → a ≤ b → a + (b - a) ≡ b
    back a b le = omega arith

    left : (a b c : ℕ) → c < a + b → a ≤ c → c - a < b
    left a b c below above = omega arith

    by : (i < cell_pages s) ⊎ (cell_pages s ≤ i) → (i < cell_pages s + node_pages layout_in_use s)
        ⊎ (cell_pages s + node_pages layout_in_use s ≤ i) → length (page i) ≡ page_bytes
    by (inl cell) second = (pages.cells i cell).long
    by (inr above) (inl node) =
        ap (λ (k : ℕ). length (page k)) (sym (back (cell_pages s) i above))
        ∙ (pages.nodes (i - cell_pages s) (left (cell_pages s) (node_pages layout_in_use s) i node above)).long
    by (inr above) (inr session) =
        ap (λ (k : ℕ). length (page k)) (sym (back (cell_pages s + node_pages layout_in_use s) i session))
        ∙ (pages.sessions (i - (cell_pages s + node_pages layout_in_use s))
        (left (cell_pages s + node_pages layout_in_use s) (session_pages layout_in_use s) i lt session)).long

pub joined_is_area : (s : Sizes) (r : Records) (page : ℕ → List ℕ) → FitRecords s r → ArePages s r page
    → SpellsArea layout_in_use s (joined (area_pages layout_in_use s) page) r
joined_is_area s r page fit pages = area_of_pages s r fit (joined (area_pages layout_in_use s) page)
    (length-joined (area_pages layout_in_use s) page long) (record {
      cells = λ i lt. subst (IsCellPage r i)
          (sym (at i (one (cell_pages s) (node_pages layout_in_use s) (session_pages layout_in_use s) i lt)))
          (pages.cells i lt);
      nodes = λ i lt. subst (IsNodePage r i)
          (sym (at (cell_pages s + i)
          (two (cell_pages s) (node_pages layout_in_use s) (session_pages layout_in_use s) i lt))) (pages.nodes i lt);
      sessions = λ i lt. subst (IsSessionPage r i)
          (sym (at (cell_pages s + node_pages layout_in_use s + i)
          (three (cell_pages s + node_pages layout_in_use s) (session_pages layout_in_use s) i lt)))
          (pages.sessions i lt);
    })
  where
    long : (i : ℕ) → i < area_pages layout_in_use s → length (page i) ≡ page_bytes
    long = page_long s r page pages

    at : (i : ℕ) → i < area_pages layout_in_use s → record_at page_bytes (joined (area_pages layout_in_use s) page) i
        ≡ page i
    at i lt = joined_at (area_pages layout_in_use s) page long i lt

    one : (a b c i : ℕ) → i < a → i < a + b + c
    one a b c i lt = omega arith

    two : (a b c i : ℕ) → i < b → a + i < a + b + c
    two a b c i lt = omega arith

    three : (a b i : ℕ) → i < b → a + i < a + b
    three a b i lt = omega arith
