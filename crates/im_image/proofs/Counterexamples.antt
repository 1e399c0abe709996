-- The laws of areas, here and of im_records, say no more than they do: each one with a premise less, or with one that
-- is weaker,
-- fails at an area that is written out here. Of two areas with other windows each shows a memory, so the laws of one
-- area are met.
use Rattle.std.proofs.Common.{◌≡◌, ℕ, zero, suc, ◌+◌, ◌-◌, ◌<◌, Bool, true, false, List, [], ◌∷◌, get_or, replicate}
use Rattle.std.proofs.Common.{if◌then◌else◌, nat_lt, slice_get, slice_index_or, Some, None, Option, sym, refl, ap, ◌∙◌}
use Rattle.std.proofs.Common.{subst, arith}
use Rattle.std.proofs.lemmas.List.{length-replicate}
use Rattle.im_types.specs.Types.{Kept, AreLimits, Window, Contents, new_window, held_at, kept_for, empty_contents}
use Rattle.im_types.specs.Types.{IsWindow, IsMemory, waits_in, layout_in_use, Sizes, page_bytes, area_pages, record_at}
use Rattle.im_types.specs.Types.{CellRecord, TagEmpty, TagWaiting, TagFull, TagClashed, FreeCell, BlockCell, cell_bytes}
use Rattle.im_types.specs.Types.{FitsWindow, Records, SpellsArea, ShowsRecords, Shows}
use Rattle.{im_types.proofs.Tests.differ, im_laws.proofs.MemoryLemmas.empty-memory, im_records.specs.Paging.joined}
use Rattle.im_image.proofs.FreshArea.{area_spelled, area_with, contents_with, new_window_fits, no_kept, records_show}
use Rattle.im_image.proofs.FreshArea.{records_with}
use Rattle.im_image.specs.Encoding.{AreCounted, IsAreaPage}

-- ---- two areas: of the least sizes, with the new window and with one whose first entry was confirmed

abbrev least : Sizes
least = record { cells = 1; elements = 1; slots = 16 }

least_limits : AreLimits 1 1 16
least_limits =
    record {
      some_cell = omega arith;
      few_cells = omega arith;
      some_element = omega arith;
      few_elements = omega arith;
      enough_slots = omega arith;
      few_slots = omega arith;
    }

abbrev confirmed : Window
confirmed = record { base = 2; kept = [] }

confirmed_fits : FitsWindow layout_in_use confirmed
confirmed_fits =
    record {
      base_from = omega arith;
      base_to = omega arith;
      few = omega arith;
      numbers = omega arith;
      known = refl;
      fields = λ i k e. absurd (no_kept i k e);
    }

confirmed_is_one : IsWindow confirmed
confirmed_is_one = record { from_one = omega arith; few = omega arith; to_last = omega arith }

-- nothing is kept in windows without entries
none_kept : (base n element number : ℕ)
    → kept_for (replicate n (record { base = base; kept = [] })) (record { element = element; number = number }) ≡ None
none_kept base zero element number = refl
none_kept base (suc n) zero number = by_test (nat_lt number base)
  where
    nothing : Option Kept
    nothing = None

    by_test : (b : Bool) → (if b then nothing else slice_get [] (number - base)) ≡ None
    by_test true = refl
    by_test false = refl
none_kept base (suc n) (suc element) number = none_kept base n element number

only_one : (n element : ℕ) (x w : Window) → slice_get (replicate n x) element ≡ Some w → x ≡ w
only_one zero element x w e = absurd (cc)
only_one (suc n) zero x w e = some_same e
  where
    some_same : Some x ≡ Some w → x ≡ w
    some_same e = ap (λ (o : Option Window). or_else o x) e
      where
        or_else : Option Window → Window → Window
        or_else None d = d
        or_else (Some v) d = v
only_one (suc n) (suc element) x w e = only_one n element x w e

-- so with these windows too it is a memory
confirmed_memory : (s : Sizes) → IsMemory s.cells s.elements (contents_with confirmed s)
unfolding contents_with empty_contents
confirmed_memory s =
    let empty : IsMemory s.cells s.elements (empty_contents s.cells s.elements) = empty-memory s.cells s.elements in
    record {
      cell_count = empty.cell_count;
      window_count = length-replicate s.elements confirmed;
      blocks = empty.blocks;
      windows = λ element w at. subst IsWindow (only_one s.elements element confirmed w at) confirmed_is_one;
      agrees = record {
        listed = λ who a. empty.agrees.listed who a
            ∙ ap (λ (o : Option Kept). if waits_in a (held_at (replicate s.cells None) a) o then 1 else 0)
            (none_kept 1 s.elements who.element who.number ∙ sym (none_kept 2 s.elements who.element who.number));
        somewhere = λ who k at waits. absurd (none_some k (sym (none_kept 2 s.elements who.element who.number) ∙ at));
      };
    }
  where
    none_some : (k : Kept) → None ≡ Some k → ⊥
    none_some k e = cc

new_memory : (s : Sizes) → IsMemory s.cells s.elements (contents_with new_window s)
unfolding contents_with empty_contents
new_memory s = empty-memory s.cells s.elements

shows_new : (s : Sizes) → Shows layout_in_use s (area_with new_window s) (contents_with new_window s)
shows_new s =
    record {
      records = records_with new_window s;
      spelled = area_spelled new_window s refl new_window_fits;
      shown = records_show new_window s (new_memory s);
    }

shows_confirmed : (s : Sizes) → Shows layout_in_use s (area_with confirmed s) (contents_with confirmed s)
shows_confirmed s =
    record {
      records = records_with confirmed s;
      spelled = area_spelled confirmed s refl confirmed_fits;
      shown = records_show confirmed s (confirmed_memory s);
    }

-- `areas_spell_one_list_of_records`: two areas may spell two lists.
two_areas_spell_two_lists :
    ((s : Sizes) (area another : List ℕ) (r q : Records) → AreLimits s.cells s.elements s.slots
    → SpellsArea layout_in_use s area r → SpellsArea layout_in_use s another q → r ≡ q) → ⊥
unfolding records_with
two_areas_spell_two_lists law =
    let same : records_with new_window least
    ≡ records_with confirmed least = law least (area_with new_window least)
    (area_with confirmed least) _ _ least_limits
    (area_spelled new_window least refl new_window_fits) (area_spelled confirmed least refl confirmed_fits) in
    differ 1 2 refl (ap (λ (r : Records). (slice_index_or r.windows 0 new_window).base) same)

-- `areas_show_one_memory`: and two memories.
two_areas_show_two_memories :
    ((s : Sizes) (area another : List ℕ) (m other : Contents) → AreLimits s.cells s.elements s.slots
    → Shows layout_in_use s area m → Shows layout_in_use s another other → m ≡ other) → ⊥
unfolding contents_with
two_areas_show_two_memories law =
    let same : contents_with new_window least
    ≡ contents_with confirmed least = law least (area_with new_window least)
    (area_with confirmed least) _ _ least_limits (shows_new least) (shows_confirmed least) in
    differ 1 2 refl (ap (λ (m : Contents). (slice_index_or m.windows 0 new_window).base) same)

-- ---- an area of no pages, behind which a byte stands

abbrev none : Sizes
none = record { cells = 0; elements = 0; slots = 0 }

none_counted : AreCounted none (records_with new_window none)
unfolding records_with
none_counted = record { cells = refl; nodes = refl; windows = refl }

-- `areas_show_the_memory`: not of an area with a byte too many, which isn't zero.
an_area_has_its_length : ((s : Sizes) (r : Records) (m : Contents) (area : List ℕ) → AreCounted s r → ShowsRecords s r m
    → ((i : ℕ) → i < area_pages layout_in_use s → IsAreaPage s r i (record_at page_bytes area i))
    → Shows layout_in_use s area m) → ⊥
an_area_has_its_length law =
    let shows : Shows layout_in_use none (1 ∷ []) (contents_with new_window none) =
    law none (records_with new_window none) (contents_with new_window none) (1 ∷ []) none_counted
    (records_show new_window none (new_memory none)) (λ i lt. absurd (omega arith)) in
    differ 1 0 refl (ap (λ (l : List ℕ). get_or l 0 0) shows.spelled.sessions.rest)

-- ---- an area of one page, of one cell and no element

abbrev one_cell : Sizes
one_cell = record { cells = 1; elements = 0; slots = 0 }

one_counted : AreCounted one_cell (records_with new_window one_cell)
unfolding records_with
one_counted = record { cells = refl; nodes = refl; windows = refl }

-- no record of a cell begins with a 9
no_nine : (cell : CellRecord) → 9 ≡ get_or (cell_bytes cell) 0 0 → ⊥
no_nine (FreeCell hole next) e = differ 9 0 refl e
no_nine (BlockCell block TagEmpty) e = differ 9 1 refl e
no_nine (BlockCell block (TagWaiting first last)) e = differ 9 2 refl e
no_nine (BlockCell block (TagFull v)) e = differ 9 3 refl e
no_nine (BlockCell block (TagClashed v)) e = differ 9 4 refl e

-- `pages_show_the_memory`: not where the last page, here the only one, may be anything.
the_last_page_counts : ((s : Sizes) (r : Records) (m : Contents) (page : ℕ → List ℕ) → AreCounted s r
    → ShowsRecords s r m
    → ((i : ℕ) → 1 + i < area_pages layout_in_use s → IsAreaPage s r i (page i))
    → Shows layout_in_use s (joined (area_pages layout_in_use s) page) m) → ⊥
the_last_page_counts law =
    let page : ℕ → List ℕ = λ i. 9 ∷ [] in
    let shows : Shows layout_in_use one_cell (9 ∷ []) (contents_with new_window one_cell) =
    law one_cell (records_with new_window one_cell) (contents_with new_window one_cell) page one_counted
    (records_show new_window one_cell (new_memory one_cell)) (λ i lt. absurd (omega arith)) in
    no_nine _ (ap (λ (l : List ℕ). get_or l 0 0) (shows.spelled.cells.each 0 (omega arith)))
