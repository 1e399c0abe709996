-- What the tests of a header say.
use Rattle.std.proofs.Common.{◌≡◌, ℕ, ◌≤◌, Bool, true, false, ◌&&◌, List, is_some, if◌then◌else◌, IsSome, nat_le, ◌==◌}
use Rattle.std.proofs.Common.{slice_range, None, Option, sym, ap, ◌∙◌, arith}
use Rattle.std.proofs.lemmas.Bool.Decides.{nat_tests}
use Rattle.im_types.specs.Types.{MAX_CELLS, MAX_ELEMENTS, MIN_SLOTS, MAX_SLOTS, LAST, AreLimits, layout_1, layout_2}
use Rattle.im_types.specs.Types.{layout_named, Sizes, are_sizes, same_bytes, Header, header_body, header_in, is_header}
use Rattle.im_types.specs.Types.{spells_header, is_second, number_in_force, place_in_force}
use Rattle.im_types.proofs.Tests.{false_true}
use Rattle.im_formats.proofs.{Headers.spells_header-only, Same.both_true}
use Rattle.im_image.specs.Headers.{layout_at}

pub le_true : (m n : ℕ) → nat_le m n ≡ true → m ≤ n
le_true m n e = grind (arith, nat_tests)

pub le_is : (m n : ℕ) → m ≤ n → nat_le m n ≡ true
le_is m n le = grind (arith, nat_tests)

pub same_itself : (m n : ℕ) → m ≡ n → (m == n) ≡ true
same_itself m n is = grind (arith, nat_tests, is)

-- no layout has more cells than the one in use
few_cells_by : (b : Bool) → (if b then layout_1 else layout_2).most_cells ≤ MAX_CELLS
few_cells_by true = omega arith
few_cells_by false = omega arith

pub sizes_in_range : (number : ℕ) (s : Sizes) → are_sizes (layout_named number) s ≡ true
    → AreLimits s.cells s.elements s.slots
sizes_in_range number s e =
    let most : ℕ = (layout_named number).most_cells in
    let a =
    both_true (nat_le 1 s.cells && nat_le s.cells most && nat_le 1 s.elements && nat_le s.elements MAX_ELEMENTS
    && nat_le MIN_SLOTS s.slots) (nat_le s.slots MAX_SLOTS) e in
    let b =
    both_true (nat_le 1 s.cells && nat_le s.cells most && nat_le 1 s.elements && nat_le s.elements MAX_ELEMENTS)
    (nat_le MIN_SLOTS s.slots) a.0 in
    let d = both_true (nat_le 1 s.cells && nat_le s.cells most && nat_le 1 s.elements)
    (nat_le s.elements MAX_ELEMENTS) b.0 in
    let f = both_true (nat_le 1 s.cells && nat_le s.cells most) (nat_le 1 s.elements) d.0 in
    let g = both_true (nat_le 1 s.cells) (nat_le s.cells most) f.0 in
    record {
      some_cell = le_true 1 s.cells g.0;
      few_cells = under most s.cells (few_cells_by (number == 1)) (le_true s.cells most g.1);
      some_element = le_true 1 s.elements f.1;
      few_elements = le_true s.elements MAX_ELEMENTS d.1;
      enough_slots = le_true MIN_SLOTS s.slots b.1;
      few_slots = le_true s.slots MAX_SLOTS a.1;
    }
  where
    under : (m n : ℕ) → m ≤ MAX_CELLS → n ≤ m → n ≤ MAX_CELLS
    under m n a b = omega (arith, a, b)

-- what is a header's has its sizes in range
pub limits_of_header : (area : ℕ) (h : Header) → is_header (layout_named h.version) area h ≡ true
    → AreLimits h.sizes.cells h.sizes.elements h.sizes.slots
limits_of_header area h e =
    sizes_in_range h.version h.sizes
    (both_true ((h.version == (layout_named h.version).version) &&
    (h.area == area) && nat_le 1 h.generation && nat_le h.generation LAST && nat_le h.count LAST)
    (are_sizes (layout_named h.version) h.sizes) e).1

-- a header of these fields is spelled where the bytes spell one
pub spelled_is : (area : ℕ) (bytes : List ℕ) (h : Header) (b : Bool) → h ≡ header_in bytes → b
    ≡ (same_bytes (slice_range bytes 1 64) (header_body h) && is_header (layout_named h.version) area h) → b
    ≡ spells_header (layout_named (header_in bytes).version) area bytes
spelled_is area bytes h b is tested = tested
    ∙ ap (λ (k : Header). same_bytes (slice_range bytes 1 64) (header_body k) && is_header
    (layout_named k.version) area k) is

pub limits_of_spelled : (area : ℕ) (bytes : List ℕ)
    → spells_header (layout_named (header_in bytes).version) area bytes ≡ true
    → AreLimits (header_in bytes).sizes.cells (header_in bytes).sizes.elements (header_in bytes).sizes.slots
limits_of_spelled area bytes e = limits_of_header area (header_in bytes)
    (spells_header-only (layout_named (header_in bytes).version) area bytes e).1

pub no_some : {X : Type 0} (o : Option X) → o ≡ None → IsSome o → ⊥
no_some o e some = false_true (sym (ap is_some e) ∙ some)

-- which header is in force
pub place_spells : (zero one : List ℕ) (b c : Bool) → b ≡ is_second zero one → b ≡ c
    → spells_header (layout_at zero one) (number_in_force zero one) (place_in_force zero one)
    ≡ spells_header (layout_named (header_in (if c then one else zero)).version) (if c then 1 else 0)
    (if c then one else zero)
place_spells zero one b c is same = ap
    (λ (s : Bool). spells_header (layout_named (header_in (if s then one else zero)).version) (if s then 1 else 0)
    (if s then one else zero)) (sym is ∙ same)
