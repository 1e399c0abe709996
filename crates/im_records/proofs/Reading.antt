-- Bytes of another length read as nothing, and what a reading comes to by its parts.
use Rattle.std.proofs.Common.{◌≡◌, ℕ, ◌^◌, ◌<◌, true, false, List, length, if◌then◌else◌, Some, None, Option}
use Rattle.std.proofs.Common.{option_and_then, sym, refl, ap, ◌∙◌, arith}
use Rattle.im_types.specs.Types.{Kept, same_bytes, CellRecord, NodeRecord, FreeCell, BlockCell, ListNode, FreeNode}
use Rattle.im_types.specs.Types.{cell_bytes, node_bytes, FitsCell, FitsNode, place_bytes}
use Rattle.im_formats.proofs.Places.{read_place-only}
use Rattle.im_formats.proofs.Records.{read_cell-only, read_cell-spelled, read_node-only, read_node-spelled}
use Rattle.im_formats.specs.Reading.{cell_if, cell_in, node_in, place_if, place_in, read_cell, read_node, read_place}
use Rattle.im_records.specs.Rows.{Spells}

pub length-cell : (cell : CellRecord) → length (cell_bytes cell) ≡ 32
length-cell (FreeCell hole next) = refl
length-cell (BlockCell block tag) = refl

pub length-node : (node : NodeRecord) → length (node_bytes node) ≡ 16
length-node (FreeNode next) = refl
length-node (ListNode next who) = refl

pub length-place : (place : Option Kept) → length (place_bytes place) ≡ 32
length-place None = refl
length-place (Some k) = refl

-- what only gives spellings of a length gives nothing of another
none_of_length : {X : Type 0} (n : ℕ) (bytes : List ℕ) (spelled : X → List ℕ) (read : Option X)
    → ((x : X) → read ≡ Some x → bytes ≡ spelled x) → ((x : X) → length (spelled x) ≡ n) → (length bytes ≡ n → ⊥)
    → None ≡ read
none_of_length n bytes spelled None only long other = refl
none_of_length n bytes spelled (Some x) only long other = absurd (other (ap length (only x refl) ∙ long x))

pub no_cell : (bytes : List ℕ) → (length bytes ≡ 32 → ⊥) → None ≡ read_cell bytes
no_cell bytes other = none_of_length 32 bytes cell_bytes (read_cell bytes) (read_cell-only bytes) length-cell other

pub no_node : (bytes : List ℕ) → (length bytes ≡ 16 → ⊥) → None ≡ read_node bytes
no_node bytes other = none_of_length 16 bytes node_bytes (read_node bytes) (read_node-only bytes) length-node other

pub no_place : (bytes : List ℕ) → (length bytes ≡ 32 → ⊥) → None ≡ read_place bytes
no_place bytes other = none_of_length 32 bytes place_bytes (read_place bytes) (read_place-only bytes) length-place other

-- what is read, by its candidate
pub cell_by : (bytes : List ℕ) (candidate : Option CellRecord) → candidate ≡ cell_in bytes → read_cell bytes
    ≡ option_and_then (cell_if bytes) candidate
unfolding read_cell
cell_by bytes candidate is = ap (option_and_then (cell_if bytes)) (sym is)

pub place_by : (bytes : List ℕ) (candidate : Option (Option Kept)) → candidate ≡ place_in bytes → read_place bytes
    ≡ option_and_then (place_if bytes) candidate
unfolding read_place
place_by bytes candidate is = ap (option_and_then (place_if bytes)) (sym is)

pub node_by : (bytes : List ℕ) (node : NodeRecord) → node ≡ node_in bytes → read_node bytes
    ≡ (if same_bytes bytes (node_bytes node) then Some node else None)
unfolding read_node
node_by bytes node is = ap (λ (n : NodeRecord). if same_bytes bytes (node_bytes n) then Some n else None) (sym is)

-- what bytes spell within bounds is read of them
pub cell_is_read : (cells nodes : ℕ) (bytes : List ℕ) (cell : CellRecord) → cells < 2 ^ 32 → nodes < 2 ^ 32
    → Spells cell_bytes (FitsCell cells nodes) bytes cell → read_cell bytes ≡ Some cell
cell_is_read cells nodes bytes cell few_cells few_nodes spells = ap read_cell spells.is
    ∙ read_cell-spelled cells nodes cell few_cells (omega arith) spells.fits

pub node_is_read : (nodes : ℕ) (bytes : List ℕ) (node : NodeRecord) → nodes < 2 ^ 32
    → Spells node_bytes (FitsNode nodes) bytes node → read_node bytes ≡ Some node
node_is_read nodes bytes node few spells = ap read_node spells.is
    ∙ read_node-spelled nodes node (omega arith) spells.fits

pub none_some : {X : Type 0} (x : X) → None ≡ Some x → ⊥
none_some x e = cc

pub some_inj : {X : Type 0} (x y : X) → Some x ≡ Some y → x ≡ y
some_inj x y e = cc

pub false_true : false ≡ true → ⊥
false_true e = cc
