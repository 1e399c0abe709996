-- Copies of pages, in the order in which they were made. (Own.)
use Rattle.std.specs.Prelude.{◌≡◌, ℕ, suc, ◌<◌, ◌≤◌, Bool, true, false, List, [], ◌∷◌, length, replicate}
use Rattle.std.specs.Prelude.{slice_index_or}
use Rattle.im_types.specs.Types.{layout_in_use, Sizes, page_bytes, area_pages, Records}
use Rattle.{im_pages.specs.PageSets.has, im_image.specs.Encoding.IsAreaPage}
use Rattle.im_checkpoint.specs.declared.page_copies.CopyPlace.{CopyPlace, TheVariants.At, TheVariants.Nowhere}

-- the bytes of a page without a copy
abbrev pub blank_page : List ℕ
blank_page = replicate page_bytes 0

-- the copy that stands at a place, if there is one
abbrev pub copy_at : List (List ℕ) → CopyPlace → List ℕ
copy_at pages Nowhere = blank_page
copy_at pages (At place) = slice_index_or pages place blank_page

-- the copy of a page
abbrev pub copy_of : List (List ℕ) → ℕ → List ℕ
copy_of copies page = slice_index_or copies page []

-- how many pages have a place
abbrev pub taken : List CopyPlace → ℕ
taken [] = 0
taken (Nowhere ∷ places) = taken places
taken (At place ∷ places) = suc (taken places)

-- the place of a page's copy
abbrev pub copy_place : List CopyPlace → ℕ → CopyPlace
copy_place places i = slice_index_or places i Nowhere

-- each copy is that of one page, and there is room for a copy of each page
pub record AreCopies (places : List CopyPlace) (pages : List (List ℕ)) (capacity : ℕ) : Type 0 where
  pub count : length pages ≡ taken places
  pub within : (i place : ℕ) → copy_place places i ≡ At place → place < length pages
  pub apart : (i j place : ℕ) → copy_place places i ≡ At place → copy_place places j ≡ At place → i ≡ j
  pub room : length places ≤ capacity

-- each page from `from` on that is named, is left and hasn't changed lately has a copy, as these records show the page
abbrev pub AreCopied : Sizes → Records → ℕ → List Bool → List Bool → List Bool → List (List ℕ) → Type 0
AreCopied s r from named left recent copies = (page : ℕ) → from ≤ page → page < area_pages layout_in_use s
    → has named page ≡ true → has left page ≡ true → has recent page ≡ false → IsAreaPage s r page (copy_of copies page)
