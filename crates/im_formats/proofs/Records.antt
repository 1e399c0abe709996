-- A cell record and a node record read back what they spell.
use Rattle.std.proofs.Common.{◌≡◌, ℕ, ◌+◌, ◌^◌, ◌<◌, ◌≤◌, Bool, List, [], ◌++◌, if◌then◌else◌, Some, None, Option}
use Rattle.std.proofs.Common.{option_and_then, refl, ap, ◌∙◌, inl, inr, arith}
use Rattle.byteorder.specs.{Endian.little_bytes, Endian.little_number, Numbers.little_number-reads_back}
use Rattle.im_types.specs.Types.{Kind, Block, I, M, same_bytes, kind_code, PresenceTag, CellRecord, NodeRecord}
use Rattle.im_types.specs.Types.{TagEmpty, TagWaiting, TagFull, TagClashed, FreeCell, BlockCell, ListNode, FreeNode}
use Rattle.im_types.specs.Types.{tag_code, tag_first, tag_last, tag_value, cell_bytes, node_bytes, IsLink, FitsTag}
use Rattle.im_types.specs.Types.{FitsCell, FitsNode}
use Rattle.im_formats.proofs.Same.{if_same, only_spelled, spelled_if}
use Rattle.im_formats.specs.Reading.{block_cell, cell_if, cell_in, cell_of, node_in, read_cell, read_node, tag_of}

link_fits : (n link : ℕ) → n ≤ 2 ^ 32 → IsLink n link → link < 2 ^ 32
link_fits n link few (inl none) = omega (arith, none)
link_fits n link few (inr below) = omega arith

reads4 : (n : ℕ) → n < 2 ^ 32 → little_number 4 (little_bytes 4 n ++ []) ≡ n
reads4 n fits = little_number-reads_back 4 n [] fits

-- a tag of a record of fitting numbers
pub record FitsFields (base length first last value : ℕ) : Type 0 where
  pub base_fits : base < 2 ^ 32
  pub length_fits : length < 2 ^ 32
  pub first_fits : first < 2 ^ 32
  pub last_fits : last < 2 ^ 32
  pub value_fits : value < 2 ^ 64

tag_fits : (nodes base length : ℕ) (tag : PresenceTag) → nodes ≤ 2 ^ 32 → base < 2 ^ 32 → length < 2 ^ 32
    → FitsTag nodes tag → FitsFields base length (tag_first tag) (tag_last tag) (tag_value tag)
tag_fits nodes base length TagEmpty few b l fits = record { base_fits = b; length_fits = l; first_fits = omega arith; last_fits = omega arith; value_fits = omega arith }
tag_fits nodes base length (TagWaiting first last) few b l fits =
    let f : first < nodes = fits.0 in
    let g : last < nodes = fits.1 in
    record { base_fits = b; length_fits = l; first_fits = omega arith; last_fits = omega arith; value_fits = omega arith }
tag_fits nodes base length
    (TagFull v) few b l fits = record { base_fits = b; length_fits = l; first_fits = omega arith; last_fits = omega arith; value_fits = fits }
tag_fits nodes base length
    (TagClashed v) few b l fits = record { base_fits = b; length_fits = l; first_fits = omega arith; last_fits = omega arith; value_fits = fits }

tag_of-spelled : (tag : PresenceTag) → tag_of (tag_code tag) (tag_first tag) (tag_last tag) (tag_value tag) ≡ Some tag
tag_of-spelled TagEmpty = refl
tag_of-spelled (TagWaiting first last) = refl
tag_of-spelled (TagFull v) = refl
tag_of-spelled (TagClashed v) = refl

cell_of-spelled : (block : Block) (kind : Kind) (tag : PresenceTag)
    → cell_of (tag_code tag) (kind_code kind) block.base block.length (tag_first tag) (tag_last tag) (tag_value tag)
    ≡ Some (BlockCell (record { base = block.base; length = block.length; kind = kind }) tag)
cell_of-spelled block I tag = ap (λ (t : Option PresenceTag). block_cell block.base block.length (Some I) t)
    (tag_of-spelled tag)
cell_of-spelled block M tag = ap (λ (t : Option PresenceTag). block_cell block.base block.length (Some M) t)
    (tag_of-spelled tag)

-- the fields of a record read back, whatever is made of them
fields-read_back : {X : Type 0} (make : ℕ → ℕ → ℕ → ℕ → ℕ → X) (base length first last value : ℕ)
    → FitsFields base length first last value →
    make (little_number 4 (little_bytes 4 base ++ [])) (little_number 4 (little_bytes 4 length ++ []))
    (little_number 4 (little_bytes 4 first ++ [])) (little_number 4 (little_bytes 4 last ++ []))
    (little_number 8 (little_bytes 8 value ++ []))
    ≡ make base length first last value
fields-read_back make base length first last value fits =
    ap (λ (n : ℕ). make n (little_number 4 (little_bytes 4 length ++ []))
    (little_number 4 (little_bytes 4 first ++ [])) (little_number 4 (little_bytes 4 last ++ []))
    (little_number 8 (little_bytes 8 value ++ []))) (reads4 base fits.base_fits)
    ∙ ap (λ (n : ℕ). make base n (little_number 4 (little_bytes 4 first ++ []))
    (little_number 4 (little_bytes 4 last ++ [])) (little_number 8 (little_bytes 8 value ++ [])))
    (reads4 length fits.length_fits)
    ∙ ap (λ (n : ℕ). make base length n (little_number 4 (little_bytes 4 last ++ []))
    (little_number 8 (little_bytes 8 value ++ []))) (reads4 first fits.first_fits)
    ∙ ap (λ (n : ℕ). make base length first n (little_number 8 (little_bytes 8 value ++ [])))
    (reads4 last fits.last_fits)
    ∙ ap (λ (n : ℕ). make base length first last n) (little_number-reads_back 8 value [] fits.value_fits)

pub cell_in-spelled : (cells nodes : ℕ) (cell : CellRecord) → cells < 2 ^ 32 → nodes ≤ 2 ^ 32
    → FitsCell cells nodes cell → cell_in (cell_bytes cell) ≡ Some cell
unfolding cell_in
cell_in-spelled cells nodes (FreeCell hole next) few_cells few_nodes fits =
    let short : hole ≤ cells = fits.0 in
    let hole_is : little_number 4 (little_bytes 4 hole ++ []) ≡ hole = reads4 hole (omega arith) in
    let next_is : little_number 4 (little_bytes 4 next ++ [])
    ≡ next = reads4 next (link_fits cells next (omega arith) fits.1) in
    ap (λ (n : ℕ). Some (FreeCell n (little_number 4 (little_bytes 4 next ++ [])))) hole_is
    ∙ ap (λ (n : ℕ). Some (FreeCell hole n)) next_is
cell_in-spelled cells nodes (BlockCell block tag) few_cells few_nodes fits =
    let within : block.base + block.length ≤ cells = fits.0 in
    fields-read_back (λ b l f g v. cell_of (tag_code tag) (kind_code block.kind) b l f g v) block.base block.length
    (tag_first tag) (tag_last tag) (tag_value tag)
    (tag_fits nodes block.base block.length tag few_nodes (omega arith) (omega arith) fits.1)
    ∙ cell_of-spelled block block.kind tag

pub read_cell-spelled : (cells nodes : ℕ) (cell : CellRecord) → cells < 2 ^ 32 → nodes ≤ 2 ^ 32
    → FitsCell cells nodes cell → read_cell (cell_bytes cell) ≡ Some cell
unfolding read_cell
read_cell-spelled cells nodes cell few_cells few_nodes fits =
    ap (λ (o : Option CellRecord). option_and_then (cell_if (cell_bytes cell)) o)
    (cell_in-spelled cells nodes cell few_cells few_nodes fits) ∙ if_same (cell_bytes cell) cell

pub read_cell-only : (bytes : List ℕ) (cell : CellRecord) → read_cell bytes ≡ Some cell → bytes ≡ cell_bytes cell
unfolding read_cell
read_cell-only bytes cell e = only_spelled bytes cell_bytes (cell_in bytes) cell e

pub node_in-spelled : (nodes : ℕ) (node : NodeRecord) → nodes ≤ 2 ^ 32 → FitsNode nodes node
    → node_in (node_bytes node) ≡ node
unfolding node_in
node_in-spelled nodes (FreeNode next) few fits = ap (λ (n : ℕ). FreeNode n)
    (reads4 next (link_fits nodes next few fits))
node_in-spelled nodes (ListNode next who) few fits =
    ap (λ (n : ℕ). ListNode n
    (record {
      element = little_number 2 (little_bytes 2 who.element ++ []);
      number = little_number 8
          (little_bytes 8 who.number ++ []);
    })) (reads4 next (link_fits nodes next few fits.0))
    ∙ ap (λ (n : ℕ). ListNode next
    (record { element = n; number = little_number 8 (little_bytes 8 who.number ++ []) }))
    (little_number-reads_back 2 who.element [] fits.1)
    ∙ ap (λ (n : ℕ). ListNode next (record { element = who.element; number = n }))
    (little_number-reads_back 8 who.number [] fits.2)

node_again : (bytes : List ℕ) (node : NodeRecord) → node_in bytes ≡ node → bytes ≡ node_bytes node → read_node bytes
    ≡ Some node
unfolding read_node
node_again bytes node is same =
    ap (λ (n : NodeRecord). if same_of bytes n then Some n else None) is
    ∙ ap (λ (b : List ℕ). if same_of b node then Some node else None) same
    ∙ if_same (node_bytes node) node
  where
    same_of : List ℕ → NodeRecord → Bool
    same_of b n = same_bytes b (node_bytes n)

pub read_node-spelled : (nodes : ℕ) (node : NodeRecord) → nodes ≤ 2 ^ 32 → FitsNode nodes node
    → read_node (node_bytes node) ≡ Some node
read_node-spelled nodes node few fits = node_again (node_bytes node) node (node_in-spelled nodes node few fits) refl

pub read_node-only : (bytes : List ℕ) (node : NodeRecord) → read_node bytes ≡ Some node → bytes ≡ node_bytes node
unfolding read_node
read_node-only bytes node e =
    let both = spelled_if bytes (node_bytes (node_in bytes)) (node_in bytes) node e in
    both.1 ∙ ap node_bytes both.0
