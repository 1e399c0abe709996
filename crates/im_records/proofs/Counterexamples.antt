-- The laws of pages say no more than they do: each one with a premise less fails at an area of no records, behind which a byte
-- stands. That one of a single area does (`areas_spell_one_list_of_records`) is shown in im_image, where two areas are written out;
-- and that the premises are met at each memory is what `encode` there stands on.
use Rattle.std.proofs.Common.{ℕ, ◌+◌, List, [], ◌∷◌, get_or, refl, ap, arith}
use Rattle.im_types.specs.Types.{layout_in_use, Sizes, page_bytes, area_pages, record_at, Records, SpellsArea}
use Rattle.im_types.proofs.Tests.{differ}
use Rattle.im_records.specs.Paging.{ArePages, FitRecords, joined}

-- no cell and no element, so an area has no page
abbrev none : Sizes
none = record { cells = 0; elements = 0; slots = 0 }

abbrev no_records : Records
no_records = record { cells = []; nodes = []; windows = [] }

they_fit : FitRecords none no_records
they_fit = record {
  many_cells = refl;
  cells = λ i lt. absurd (omega arith);
  many_nodes = refl;
  nodes = λ i lt. absurd (omega arith);
  many_windows = refl;
  windows = λ i lt. absurd (omega arith);
}

any_pages : (page : ℕ → List ℕ) → ArePages none no_records page
any_pages page = record {
  cells = λ i lt. absurd (omega arith);
  nodes = λ i lt. absurd
      (omega arith);
  sessions = λ i lt. absurd (omega arith);
}

-- a byte behind the last record that isn't zero
one_byte_too_many : SpellsArea layout_in_use none (1 ∷ []) no_records → ⊥
one_byte_too_many it = differ 1 0 refl (ap (λ (l : List ℕ). get_or l 0 0) it.sessions.rest)

-- `pages_are_an_area`: not where the area may have any length.
an_area_has_its_length : ((s : Sizes) (r : Records) (area : List ℕ) → FitRecords s r
    → ArePages s r (record_at page_bytes area) → SpellsArea layout_in_use s area r) → ⊥
an_area_has_its_length law = one_byte_too_many
    (law none no_records (1 ∷ []) they_fit (any_pages (record_at page_bytes (1 ∷ []))))

-- `joined_pages_are_an_area`: not with a page more, which may be anything.
no_page_more : ((s : Sizes) (r : Records) (page : ℕ → List ℕ) → FitRecords s r → ArePages s r page
    → SpellsArea layout_in_use s (joined (area_pages layout_in_use s + 1) page) r) → ⊥
no_page_more law = let page : ℕ
    → List ℕ = λ i. 1 ∷ [] in one_byte_too_many (law none no_records page they_fit (any_pages page))
