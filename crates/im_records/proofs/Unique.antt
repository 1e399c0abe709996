-- An area spells one list of records.
use Rattle.std.proofs.Common.{◌≡◌, ℕ, ◌*◌, ◌^◌, ◌<◌, ◌≤◌, List, get_or, sym, ap, ◌∙◌, arith, ext_get_or}
use Rattle.im_types.specs.Types.{AreLimits, Version, One, Two, layout_of, Sizes, node_count, CellRecord, NodeRecord}
use Rattle.im_types.specs.Types.{cell_bytes, node_bytes, FitsCell, FitsNode, Records, IsRow, SpellsArea}
use Rattle.im_formats.proofs.Records.{read_cell-spelled, read_node-spelled}
use Rattle.im_formats.proofs.Sessions.{ring_of_version, session_bytes-one}
use Rattle.im_formats.specs.Reading.{read_cell, read_node}
use Rattle.im_records.proofs.Reading.{some_inj}

one_row : {X : Type 0} (size : ℕ) (spelled : X → List ℕ) (Fits : X → Type 0) (none : X) (count : ℕ) (bytes : List ℕ)
    (row other : List X) → ((x y : X) → Fits x → Fits y → spelled x ≡ spelled y → x ≡ y)
    → IsRow size spelled Fits none count bytes row → IsRow size spelled Fits none count bytes other → row ≡ other
one_row size spelled Fits none count bytes row other one is is' = ext_get_or none row other (is.many ∙ sym is'.many)
    (λ i lt. here i (omega (arith, is.many)))
  where
    here : (i : ℕ) → i < count → get_or row i none ≡ get_or other i none
    here i lt = one (get_or row i none) (get_or other i none) (is.fits i lt) (is'.fits i lt)
        (sym (is.each i lt) ∙ is'.each i lt)

one_cell : (cells nodes : ℕ) → cells < 2 ^ 32 → nodes ≤ 2 ^ 32 → (a b : CellRecord) → FitsCell cells nodes a
    → FitsCell cells nodes b → cell_bytes a ≡ cell_bytes b → a ≡ b
one_cell cells nodes few_cells few_nodes a b fa fb e = some_inj a b
    (sym (read_cell-spelled cells nodes a few_cells few_nodes fa) ∙ ap read_cell e
    ∙ read_cell-spelled cells nodes b few_cells few_nodes fb)

one_node : (nodes : ℕ) → nodes ≤ 2 ^ 32 → (a b : NodeRecord) → FitsNode nodes a → FitsNode nodes b → node_bytes a
    ≡ node_bytes b → a ≡ b
one_node nodes few a b fa fb e = some_inj a b
    (sym (read_node-spelled nodes a few fa) ∙ ap read_node e ∙ read_node-spelled nodes b few fb)

few_nodes : (version : Version) (n : ℕ) → n ≤ 64 → (layout_of version).window * n ≤ 2 ^ 32
few_nodes One n few = omega arith
few_nodes Two n few = omega arith

pub one_area : (version : Version) (s : Sizes) (area : List ℕ) (r q : Records) → AreLimits s.cells s.elements s.slots
    → SpellsArea (layout_of version) s area r → SpellsArea (layout_of version) s area q → r ≡ q
one_area version s area r q limits spells spells' =
    let l = layout_of version in
    let few = few_nodes version s.elements limits.few_elements in
    let cells : r.cells ≡ q.cells = one_row _ _ _ _ _ _ r.cells q.cells
    (one_cell s.cells (node_count l s) (omega (arith, limits.few_cells)) few) spells.cells spells'.cells in
    let nodes : r.nodes ≡ q.nodes = one_row _ _ _ _ _ _ r.nodes q.nodes
    (one_node (node_count l s) few) spells.nodes spells'.nodes in
    let windows : r.windows
    ≡ q.windows = one_row _ _ _ _ _ _ r.windows q.windows
    (session_bytes-one l (ring_of_version version)) spells.sessions spells'.sessions in
    (λ i. record { cells = cells i; nodes = nodes i; windows = windows i })
