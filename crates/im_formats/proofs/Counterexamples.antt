-- No law of bytes says more than it does: each one with a premise less, or with another value, fails at a value that is
-- written out here. The definitions compute its bytes, and what these read as.
use Rattle.std.proofs.Common.{◌≡◌, ℕ, ◌+◌, ◌^◌, ◌<◌, ◌≤◌, Bool, true, false, List, [], ◌∷◌, ◌++◌, slice_index}
use Rattle.std.proofs.Common.{slice_range, Some, None, Option, sym, refl, ap, inr, arith}
use Rattle.im_types.specs.Types.{Block, Kept, Waiting, I, Fetch, Window, address_of, Layout, layout_2, zeros, Header}
use Rattle.im_types.specs.Types.{header_body, header_in, spells_header, PresenceTag, CellRecord, NodeRecord, TagWaiting}
use Rattle.im_types.specs.Types.{TagFull, FreeCell, BlockCell, ListNode, FreeNode, cell_bytes, node_bytes, FitsCell}
use Rattle.im_types.specs.Types.{FitsNode, place_bytes, session_bytes, FitsWindow}
use Rattle.im_types.proofs.Tests.{differ, true_false}
use Rattle.im_formats.specs.Fitting.{FitsHeader}
use Rattle.im_formats.specs.Reading.{cell_in, node_in, place_in, read_cell, read_node, read_place}

-- a header of a small image, of this generation and with so many elements
abbrev header : ℕ → ℕ → Header
header generation elements = record { version = 2; area = 0; generation = generation; count = 0; sizes = record { cells = 1; elements = elements; slots = 16 } }

-- `headers_read_back`: a header of 65,536 elements, which don't fit their two bytes, reads back with none.
a_bit_too_many_does_not_read_back : ((gate : ℕ) (h : Header) → header_in (gate ∷ header_body h) ≡ h) → ⊥
a_bit_too_many_does_not_read_back law = differ 0 0x1_0000 refl
    (ap (λ (h : Header). h.sizes.elements) (law 0 (header 1 0x1_0000)))

-- `headers_are_taken`: a header whose numbers fit their fields, but of generation 0, spells none.
a_header_has_a_generation :
    ((l : Layout) (area gate : ℕ) (h : Header) → FitsHeader h → spells_header l area (gate ∷ header_body h) ≡ true) → ⊥
a_header_has_a_generation law =
    true_false (sym (law layout_2 0 0 (header 0 1)
    (record { version = omega arith; generation = omega arith; count = omega arith; cells = omega arith; elements = omega arith; slots = omega arith })))

-- `headers_read_nothing_else`: bytes that spell a header may have any gate.
a_header_may_be_closed : ((l : Layout) (area : ℕ) (bytes : List ℕ) → spells_header l area bytes ≡ true
    → slice_range bytes 0 64 ≡ 0xA5 ∷ header_body (header_in bytes)) → ⊥
a_header_may_be_closed law = differ 0 0xA5 refl
    (ap (λ (bytes : List ℕ). slice_index bytes 0) (law layout_2 0 (0 ∷ header_body (header 1 1)) refl))

-- the address of a place's operation
abbrev address_in : Option (Option Kept) → ℕ
address_in None = 0
address_in (Some None) = 0
address_in (Some (Some k)) = address_of k.op

-- `places_read_back`: an address of more than its four bytes doesn't read back.
a_long_address_does_not_read_back : ((place : Option Kept) → read_place (place_bytes place) ≡ Some place) → ⊥
unfolding read_place place_in
a_long_address_does_not_read_back law =
    differ 0 0x1_0000_0000 refl (ap address_in (law (Some (record { op = Fetch 0x1_0000_0000; entry = Waiting }))))

-- `places_read_nothing_else`: bytes whose fields are those of an empty place may be no spelling of it, as the last byte is 1.
fields_alone_are_no_place :
    ((bytes : List ℕ) (place : Option Kept) → place_in bytes ≡ Some place → bytes ≡ place_bytes place) → ⊥
unfolding place_in
fields_alone_are_no_place law = differ 1 0 refl
    (ap (λ (bytes : List ℕ). slice_index bytes 31) (law (zeros 31 ++ 1 ∷ []) None refl))

-- a cell of a block of one cell, with this tag
abbrev tagged : PresenceTag → CellRecord
tagged tag = BlockCell (record { base = 0; length = 1; kind = I }) tag

-- the value and the first waiter of a cell
abbrev value_of : PresenceTag → ℕ
value_of (TagFull v) = v
value_of other = 99

abbrev first_of : PresenceTag → ℕ
first_of (TagWaiting first last) = first
first_of other = 99

abbrev read_from : (PresenceTag → ℕ) → Option CellRecord → ℕ
read_from read None = 99
read_from read (Some (FreeCell hole next)) = 99
read_from read (Some (BlockCell block tag)) = read tag

-- `cells_read_back`: a value of more than its eight bytes doesn't read back.
a_long_value_does_not_read_back : ((cell : CellRecord) → read_cell (cell_bytes cell) ≡ Some cell) → ⊥
unfolding read_cell cell_in
a_long_value_does_not_read_back law =
    differ 0 (2 ^ 64) refl (ap (read_from value_of) (law (tagged (TagFull (2 ^ 64)))))

-- And a waiting cell whose first node is 1 and whose last one is 2 isn't read the other way round.
the_first_node_is_not_the_last :
    ((cells nodes first last : ℕ) (block : Block) → cells < 2 ^ 32 → nodes ≤ 2 ^ 32
    → FitsCell cells nodes (BlockCell block (TagWaiting first last))
    → read_cell (cell_bytes (BlockCell block (TagWaiting first last)))
    ≡ Some (BlockCell block (TagWaiting last first))) → ⊥
unfolding read_cell cell_in
the_first_node_is_not_the_last law =
    differ 1 2 refl (ap (read_from first_of)
    (law 1 16 1 2 (record { base = 0; length = 1; kind = I }) (omega arith) (omega arith)
    (omega arith, (omega arith, omega arith))))

-- `cells_read_nothing_else`: bytes whose fields are those of a free cell may be no spelling of it, as the third byte isn't 0.
fields_alone_are_no_cell :
    ((bytes : List ℕ) (cell : CellRecord) → cell_in bytes ≡ Some cell → bytes ≡ cell_bytes cell) → ⊥
unfolding cell_in
fields_alone_are_no_cell law = differ 7 0 refl
    (ap (λ (bytes : List ℕ). slice_index bytes 2) (law (0 ∷ 0 ∷ 7 ∷ zeros 29) (FreeCell 0 0) refl))

-- whether a node reads as a free one
abbrev reads_free : Option NodeRecord → Bool
reads_free (Some (FreeNode next)) = true
reads_free other = false

-- the link of a node
abbrev next_of : Option NodeRecord → ℕ
next_of None = 99
next_of (Some (FreeNode next)) = next
next_of (Some (ListNode next who)) = next

-- `nodes_read_back`: a node of a list doesn't read as a free one.
a_listed_node_is_not_free :
    ((nodes next element number : ℕ) → nodes ≤ 2 ^ 32
    → FitsNode nodes (ListNode next (record { element = element; number = number }))
    → read_node (node_bytes (ListNode next (record { element = element; number = number }))) ≡ Some (FreeNode next)) → ⊥
unfolding read_node node_in
a_listed_node_is_not_free law =
    true_false (sym (ap reads_free (law 16 0 1 1 (omega arith) (inr (omega arith), omega arith, omega arith))))

-- And a free node doesn't read as one of a list.
a_free_node_is_not_listed : ((nodes next : ℕ) → nodes ≤ 2 ^ 32 → FitsNode nodes (FreeNode next)
    → read_node (node_bytes (FreeNode next)) ≡ Some (ListNode next (record { element = 0; number = 0 }))) → ⊥
unfolding read_node node_in
a_free_node_is_not_listed law = true_false (ap reads_free (law 16 0 (omega arith) (inr (omega arith))))

-- And a link of more than its four bytes doesn't read back.
a_long_link_does_not_read_back : ((node : NodeRecord) → read_node (node_bytes node) ≡ Some node) → ⊥
unfolding read_node node_in
a_long_link_does_not_read_back law = differ 0 0x1_0000_0000 refl (ap next_of (law (FreeNode 0x1_0000_0000)))

-- `nodes_read_nothing_else`: bytes whose fields are those of a free node may be no spelling of it, as the last byte isn't 0.
fields_alone_are_no_node : ((bytes : List ℕ) (node : NodeRecord) → node_in bytes ≡ node → bytes ≡ node_bytes node) → ⊥
unfolding node_in
fields_alone_are_no_node law = differ 7 0 refl
    (ap (λ (bytes : List ℕ). slice_index bytes 15) (law (zeros 15 ++ 7 ∷ []) (FreeNode 0) refl))

-- `sessions_are_spelled_by_one_window`: a base of more than its eight bytes is spelled as another one.
two_windows_may_share_a_spelling :
    ((w v : Window) → FitsWindow layout_2 w → session_bytes layout_2 w ≡ session_bytes layout_2 v → w ≡ v) → ⊥
two_windows_may_share_a_spelling law =
    differ 1 (2 ^ 64 + 1) refl
    (ap (λ (w : Window). w.base) (law (record { base = 1; kept = [] }) (record { base = 2 ^ 64 + 1; kept = [] })
    (record { base_from = omega arith; base_to = omega arith; few = omega arith; numbers = omega arith; known = refl; fields = λ i k is. cc }) refl))
