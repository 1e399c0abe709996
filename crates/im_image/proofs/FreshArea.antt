-- The area of a new image shows the empty memory.
use Rattle.std.proofs.Common.{◌≡◌, ℕ, zero, suc, ◌+◌, ◌-◌, ◌*◌, ◌/◌, ◌<◌, ◌≤◌, List, [], ◌∷◌, ◌++◌, length, take, drop}
use Rattle.std.proofs.Common.{replicate, slice_get, slice_index_or, slice_range, Some, None, Option, sym, refl, ap, ◌∙◌}
use Rattle.std.proofs.Common.{subst, inl, append_assoc, mul-zero, zero-add, arith, length-append, drop-drop, take_at}
use Rattle.std.proofs.Common.{drop_at}
use Rattle.std.proofs.{lemmas.List.length-replicate, Math.Nat.mul-suc}
use Rattle.im_types.specs.Types.{Kept, NONE, Held, Window, Contents, new_window, empty_contents, IsMemory}
use Rattle.im_types.specs.Types.{layout_in_use, Sizes, page_bytes, cell_record_bytes, node_record_bytes}
use Rattle.im_types.specs.Types.{session_record_bytes, node_count, cell_pages, node_pages, session_pages, area_bytes}
use Rattle.im_types.specs.Types.{cell_part, node_part, session_part, record_at, zeros, NodeRecord, FreeCell, FreeNode}
use Rattle.im_types.specs.Types.{cell_bytes, node_bytes, FitsCell, FitsNode, session_bytes, FitsWindow, HaveChains, bit}
use Rattle.im_types.specs.Types.{all_uses, is_listed, Records, IsRow, SpellsArea, cells_shown, ShowsRecords, Shows}
use Rattle.im_records.proofs.Parts.{cells_fit}
use Rattle.im_image.proofs.Rows.{length-repeated}
use Rattle.im_image.specs.Fresh.{new_area, new_cell_record, new_node_record, new_row, repeated}

less : (a b : ℕ) → (a + b) - a ≡ b
less a b = omega arith

slice_is : (size at : ℕ) (l : List ℕ) → slice_range l at (at + size) ≡ take size (drop at l)
slice_is size at l = ap (λ (m : ℕ). take m (drop at l)) (less at size)

nothing_before : (n : ℕ) → n * 0 ≡ 0
nothing_before n = mul-zero n

one_more : (size i : ℕ) → size * suc i ≡ size + size * i
one_more size i = mul-suc size i ∙ omega arith

-- record i of bytes that are a record so many times
piece : (n size i : ℕ) (bytes rest : List ℕ) → length bytes ≡ size → i < n
    → take size (drop (size * i) (repeated n bytes ++ rest)) ≡ bytes
piece zero size i bytes rest is lt = absurd (omega arith)
piece (suc n) size zero bytes rest is lt =
    ap (λ (k : ℕ). take size (drop k (bytes ++ repeated n bytes ++ rest))) (nothing_before size)
    ∙ ap (λ (l : List ℕ). take size l) (append_assoc bytes (repeated n bytes) rest)
    ∙ take_at bytes (repeated n bytes ++ rest) size is
piece (suc n) size (suc i) bytes rest is lt =
    ap (λ (k : ℕ). take size (drop k (bytes ++ repeated n bytes ++ rest))) (one_more size i ∙ comm size (size * i))
    ∙ ap (λ (l : List ℕ). take size l) (sym (drop-drop (size * i) size (bytes ++ repeated n bytes ++ rest)))
    ∙ ap (λ (l : List ℕ). take size (drop (size * i) (drop size l))) (append_assoc bytes (repeated n bytes) rest)
    ∙ ap (λ (l : List ℕ). take size (drop (size * i) l)) (drop_at bytes (repeated n bytes ++ rest) size is)
    ∙ piece n size i bytes rest is (omega arith)
  where
    comm : (a b : ℕ) → a + b ≡ a + b
    comm a b = refl

record-repeated : (n size i : ℕ) (bytes rest : List ℕ) → length bytes ≡ size → i < n
    → record_at size (repeated n bytes ++ rest) i ≡ bytes
record-repeated n size i bytes rest is lt = slice_is size (size * i) (repeated n bytes ++ rest)
    ∙ piece n size i bytes rest is lt

pub get-replicate : {X : Type 0} (n i : ℕ) (x none : X) → i < n → slice_index_or (replicate n x) i none ≡ x
get-replicate zero i x none lt = absurd (omega arith)
get-replicate (suc n) zero x none lt = refl
get-replicate (suc n) (suc i) x none lt = get-replicate n i x none (omega arith)

get-replicate_default : {X : Type 0} (n i : ℕ) (x : X) → slice_index_or (replicate n x) i x ≡ x
get-replicate_default zero i x = refl
get-replicate_default (suc n) zero x = refl
get-replicate_default (suc n) (suc i) x = get-replicate_default n i x

pub length-zeros : (n : ℕ) → length (zeros n) ≡ n
length-zeros n = length-replicate n 0

-- the bytes of a new row, and its records
is_new_row : {X : Type 0} (pages size count : ℕ) (spelled : X → List ℕ) (Fits : X → Type 0) (none x : X)
    → length (spelled x) ≡ size → Fits x
    → IsRow size spelled Fits none count (new_row pages size (spelled x) count) (replicate count x)
is_new_row pages size count spelled Fits none x is fits = record {
  many = length-replicate count x;
  each = λ i lt. record-repeated count size i (spelled x) (zeros (page_bytes * pages - size * count)) is lt
      ∙ ap spelled (sym (get-replicate count i x none lt));
  fits = λ i lt. subst Fits (sym (get-replicate count i x none lt)) fits;
  rest =
      let size_is : length (repeated count (spelled x)) ≡ size * count = length-repeated count (spelled x)
      ∙ ap (λ (k : ℕ). k * count) is in
      let dropped : drop (size * count) (new_row pages size (spelled x) count)
      ≡ zeros (page_bytes * pages - size * count) = drop_at (repeated count (spelled x))
      (zeros (page_bytes * pages - size * count)) (size * count) size_is in
      dropped ∙ ap (λ (k : ℕ). zeros k) (sym (ap length dropped ∙ length-zeros (page_bytes * pages - size * count)));
}

pub length-row : (pages size count : ℕ) (bytes : List ℕ) → length bytes ≡ size → size * count ≤ 4096 * pages
    → length (new_row pages size bytes count) ≡ 4096 * pages
length-row pages size count bytes is fits =
    length-append (repeated count bytes) (zeros (4096 * pages - size * count))
    ∙ both (length-repeated count bytes ∙ ap (λ (k : ℕ). k * count) is) (length-zeros (4096 * pages - size * count))
  where
    both : {a b : ℕ} → a ≡ size * count → b ≡ 4096 * pages - size * count → a + b ≡ 4096 * pages
    both ea eb = omega arith

nodes_fit : (n : ℕ) → 16 * n ≤ 4096 * ((n + 256 - 1) / 256)
nodes_fit n = omega arith

sessions_fit : (n : ℕ) → 4096 * n ≤ 4096 * ((n + 1 - 1) / 1)
sessions_fit n = omega arith

abbrev cell_row : Sizes → List ℕ
cell_row s = new_row (cell_pages s) cell_record_bytes (cell_bytes new_cell_record) s.cells

abbrev node_row : Sizes → List ℕ
node_row s =
    new_row (node_pages layout_in_use s) node_record_bytes (node_bytes new_node_record) (node_count layout_in_use s)

abbrev window_row : Window → Sizes → List ℕ
window_row w s = new_row (session_pages layout_in_use s) (session_record_bytes layout_in_use)
    (session_bytes layout_in_use w) s.elements

-- the pages of a new area, but that each element has this window
abbrev pub area_with : Window → Sizes → List ℕ
area_with w s = cell_row s ++ node_row s ++ window_row w s

length-cells : (s : Sizes) → length (cell_row s) ≡ 4096 * cell_pages s
length-cells s = length-row (cell_pages s) 32 s.cells (cell_bytes new_cell_record) refl (cells_fit s.cells)

length-nodes : (s : Sizes) → length (node_row s) ≡ 4096 * node_pages layout_in_use s
length-nodes s =
    length-row (node_pages layout_in_use s) 16 (node_count layout_in_use s) (node_bytes new_node_record) refl
    (nodes_fit (node_count layout_in_use s))

length-sessions : (s : Sizes) → length (window_row new_window s) ≡ 4096 * session_pages layout_in_use s
length-sessions s = length-row (session_pages layout_in_use s) 4096 s.elements
    (session_bytes layout_in_use new_window) refl (sessions_fit s.elements)

pub length-area : (s : Sizes) → length (new_area s) ≡ area_bytes layout_in_use s
length-area s = omega (
  arith,
  length-append (cell_row s ++ node_row s) (window_row new_window s),
  length-append
      (cell_row s) (node_row s),
  length-cells s,
  length-nodes s,
  length-sessions s,
)

-- the parts of such an area
cell_part-with : (w : Window) (s : Sizes) → cell_part s (area_with w s) ≡ cell_row s
cell_part-with w s =
    ap (λ (l : List ℕ). take (4096 * cell_pages s) l) (append_assoc (cell_row s) (node_row s) (window_row w s))
    ∙ take_at (cell_row s) (node_row s ++ window_row w s) (4096 * cell_pages s) (length-cells s)

node_part-with : (w : Window) (s : Sizes) → node_part layout_in_use s (area_with w s) ≡ node_row s
node_part-with w s =
    ap (λ (l : List ℕ). take (4096 * node_pages layout_in_use s) (drop (4096 * cell_pages s) l))
    (append_assoc (cell_row s) (node_row s) (window_row w s))
    ∙ ap (λ (l : List ℕ). take (4096 * node_pages layout_in_use s) l)
    (drop_at (cell_row s) (node_row s ++ window_row w s) (4096 * cell_pages s) (length-cells s))
    ∙ take_at (node_row s) (window_row w s) (4096 * node_pages layout_in_use s) (length-nodes s)

session_part-with : (w : Window) (s : Sizes) → session_part layout_in_use s (area_with w s) ≡ window_row w s
session_part-with w s =
    drop_at (cell_row s ++ node_row s) (window_row w s) (4096 * (cell_pages s + node_pages layout_in_use s))
    (omega (arith, length-append (cell_row s) (node_row s), length-cells s, length-nodes s))

unfoldable pub records_with : Window → Sizes → Records
records_with w s = record {
  cells = replicate s.cells new_cell_record;
  nodes = replicate
      (node_count layout_in_use s) new_node_record;
  windows = replicate s.elements w;
}

pub no_kept : (i : ℕ) (k : Kept) → slice_get [] i ≡ Some k → ⊥
no_kept i k e = none_some k e
  where
    none_some : (k : Kept) → None ≡ Some k → ⊥
    none_some k e = cc

pub new_window_fits : FitsWindow layout_in_use new_window
new_window_fits =
    record {
      base_from = omega arith;
      base_to = omega arith;
      few = omega arith;
      numbers = omega arith;
      known = refl;
      fields = λ i k e. absurd (no_kept i k e);
    }

pub area_spelled : (w : Window) (s : Sizes) → length (session_bytes layout_in_use w) ≡ 4096
    → FitsWindow layout_in_use w → SpellsArea layout_in_use s (area_with w s) (records_with w s)
unfolding records_with
area_spelled w s long fits = record {
  cells = subst (λ (l : List ℕ). IsRow cell_record_bytes cell_bytes (FitsCell s.cells (node_count layout_in_use s))
      (FreeCell 0 NONE) s.cells l (replicate s.cells new_cell_record)) (sym (cell_part-with w s))
      (is_new_row (cell_pages s) 32 s.cells cell_bytes (FitsCell s.cells (node_count layout_in_use s))
      (FreeCell 0 NONE) new_cell_record refl (none_yet s.cells, inl refl));
  nodes = subst (λ (l : List ℕ). IsRow node_record_bytes node_bytes (FitsNode (node_count layout_in_use s))
      (FreeNode NONE) (node_count layout_in_use s) l (replicate (node_count layout_in_use s) new_node_record))
      (sym (node_part-with w s))
      (is_new_row (node_pages layout_in_use s) 16 (node_count layout_in_use s) node_bytes
      (FitsNode (node_count layout_in_use s)) (FreeNode NONE) new_node_record refl (inl refl));
  sessions = subst (λ (l : List ℕ). IsRow (session_record_bytes layout_in_use) (session_bytes layout_in_use)
      (FitsWindow layout_in_use) new_window s.elements l (replicate s.elements w)) (sym (session_part-with w s))
      (is_new_row (session_pages layout_in_use s) 4096 s.elements (session_bytes layout_in_use)
      (FitsWindow layout_in_use) new_window w long fits);
}
  where
    none_yet : (n : ℕ) → 0 ≤ n
    none_yet n = omega arith

-- nobody waits
have_none : (nodes : List NodeRecord) (n : ℕ)
    → HaveChains nodes (replicate n new_cell_record) (replicate n []) (replicate n [])
have_none nodes zero = tt
have_none nodes (suc n) = ((refl, refl), have_none nodes n)

no_uses : (node n : ℕ) → all_uses node (replicate n []) ≡ 0
no_uses node zero = refl
no_uses node (suc n) = zero-add (all_uses node (replicate n [])) ∙ no_uses node n

no_cells : (n : ℕ) → replicate n None ≡ cells_shown (replicate n new_cell_record) (replicate n [])
no_cells zero = refl
no_cells (suc n) = ap (λ (l : List (Option Held)). None ∷ l) (no_cells n)

-- a memory with no block, in which each element has this window
unfoldable pub contents_with : Window → Sizes → Contents
contents_with w s = record { cells = replicate s.cells None; windows = replicate s.elements w }

pub records_show : (w : Window) (s : Sizes) → IsMemory s.cells s.elements (contents_with w s)
    → ShowsRecords s (records_with w s) (contents_with w s)
unfolding records_with contents_with
records_show w s memory = record {
  lists = replicate s.cells [];
  chained = record {
    chains = replicate s.cells [];
    have = have_none (replicate (node_count layout_in_use s) new_node_record) s.cells;
    once = λ n. no_uses n s.cells
        ∙ ap (λ (node : NodeRecord). bit (is_listed node))
        (sym (get-replicate_default (node_count layout_in_use s) n new_node_record));
  };
  cells = no_cells s.cells;
  windows = refl;
  memory = memory;
}

empty_is : (s : Sizes) → contents_with new_window s ≡ empty_contents s.cells s.elements
unfolding contents_with empty_contents
empty_is s = refl

pub new_area_shows : (s : Sizes) → IsMemory s.cells s.elements (empty_contents s.cells s.elements)
    → Shows layout_in_use s (new_area s) (empty_contents s.cells s.elements)
new_area_shows s memory =
    subst (λ (m : Contents). Shows layout_in_use s (new_area s) m) (empty_is s)
    (record {
      records = records_with new_window s;
      spelled = area_spelled new_window s refl new_window_fits;
      shown = records_show new_window s
          (subst (λ (m : Contents). IsMemory s.cells s.elements m) (sym (empty_is s)) memory);
    })
