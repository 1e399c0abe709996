-- Pages that are made record by record, and the area that they make.
use Rattle.std.proofs.Common.{◌≡◌, ℕ, zero, suc, ◌+◌, ◌-◌, ◌*◌, ◌/◌, ◌%◌, ◌<◌, ◌≤◌, ◌≢◌, List, [], ◌∷◌, ◌++◌, length}
use Rattle.std.proofs.Common.{get_or, take, slice_get, slice_index_or, Some, None, Ok, Err, Option, sym, refl, ap, ◌∙◌}
use Rattle.std.proofs.Common.{subst, ⊎_elim, arith, take_all}
use Rattle.std.proofs.lemmas.{Bool.cases_lt, List.take_more}
use Rattle.std.proofs.lemmas.Option.{get_or_from_slice_get, slice_get-get_or, slice_get_past}
use Rattle.im_types.specs.Types.{Kept, Refusal, WINDOW, NONE, Window, Contents, new_window, kept_for, next_number}
use Rattle.im_types.specs.Types.{bounds_of, bounds, layout_in_use, Sizes, node_count, cell_pages, node_pages}
use Rattle.im_types.specs.Types.{session_pages, area_pages, area_bytes, record_at, FreeCell, FreeNode, FitsCell}
use Rattle.im_types.specs.Types.{FitsNode, FitsWindow, Records, ShowsRecords, Shows}
use Rattle.im_laws.proofs.WindowLemmas.{kept_for-here, kept_under-from}
use Rattle.im_records.proofs.Joining.{area_of_pages, joined_is_area}
use Rattle.im_records.specs.Paging.{ArePages, bytes_or_zeros, FitRecords, joined}
use Rattle.im_image.specs.Encoding.{AreCounted, IsAreaPage, SpellsCells, SpellsNodes, SpellsPage, SpellsSessions}

-- records that are put on a page one by one
module _ {X : Type 0} (size per : ℕ) (spelled : X → List ℕ) (Fits : X → Type 0) (none : X) (row : List X) (i : ℕ) where
  -- the first n of them are there
  pub record Spelled (page : List ℕ) (n : ℕ) : Type 0 where
    pub each : (k : ℕ) → k < n → record_at size page k ≡ bytes_or_zeros size spelled (slice_get row (per * i + k))
    pub fits : (k : ℕ) → k < n → per * i + k < length row → Fits (slice_index_or row (per * i + k) none)

  pub spelled-more : (old new : List ℕ) (n : ℕ) → n < per → Spelled old n → record_at size new n
      ≡ bytes_or_zeros size spelled (slice_get row (per * i + n))
      → ((k : ℕ) → k < per → k ≢ n → record_at size new k ≡ record_at size old k)
      → (per * i + n < length row → Fits (slice_index_or row (per * i + n) none)) → Spelled new (n + 1)
  spelled-more old new n inside before here others fit = record {
    each = λ k lt. ⊎_elim
        (λ (less : k < n). others k (omega arith) (λ e. omega arith) ∙ before.each k less)
        (λ (from : n ≤ k).
        let same : n ≡ k = omega arith in
        subst (λ k. record_at size new k ≡ bytes_or_zeros size spelled (slice_get row (per * i + k))) same here)
        (cases_lt k n);
    fits = λ k lt. ⊎_elim
        (λ (less : k < n). before.fits k less)
        (λ (from : n ≤ k).
        let same : n ≡ k = omega arith in
        subst (λ k. per * i + k < length row → Fits (slice_index_or row (per * i + k) none)) same fit)
        (cases_lt k n);
  }

  pub spelled-all : (page : List ℕ) → length page ≡ 4096 → Spelled page per
      → SpellsPage size per spelled Fits none row i page
  spelled-all page long all = record { is_page = record { long = long; each = all.each }; fits = all.fits }

-- a window with one entry more
abbrev pub with_entry : Kept → Window → Window
with_entry k w = record { base = w.base; kept = w.kept ++ k ∷ [] }

-- the bounds of a window, and its entries
pub record HasBounds (windows : List Window) (element base next : ℕ) : Type 0 where
  pub there : slice_get windows element ≡ Some (get_or windows element new_window)
  pub base_is : base ≡ (get_or windows element new_window).base
  pub next_is : next ≡ base + length (get_or windows element new_window).kept

pub bounds-some : (windows : List Window) (element base next : ℕ) → Ok (base, next) ≡ bounds windows element
    → HasBounds windows element base next
bounds-some windows element base next e = ⊎_elim
    (λ (inside : element < length windows).
    let there = slice_get-get_or windows element new_window inside in
    by_window (get_or windows element new_window) there (e ∙ ap bounds_of there))
    (λ (past : length windows ≤ element). absurd (no_bounds (e ∙ ap bounds_of (slice_get_past windows element past))))
    (cases_lt element (length windows))
  where
    no_bounds : Ok (base, next) ≡ bounds_of None → ⊥
    no_bounds f = cc

    by_window : (w : Window) → slice_get windows element ≡ Some (get_or windows element new_window) → Ok (base, next)
        ≡ bounds_of (Some (get_or windows element new_window)) → HasBounds windows element base next
    by_window w there f =
        let pair : (base, next)
        ≡ ((get_or windows element new_window).base, next_number (get_or windows element new_window)) = cc in
        let base_is : base ≡ (get_or windows element new_window).base = ap (λ (p : ℕ × ℕ). p.0) pair in
        let next_is : next ≡ next_number (get_or windows element new_window) = ap (λ (p : ℕ × ℕ). p.1) pair in
        record {
          there = there;
          base_is = base_is;
          next_is = next_is
              ∙ ap (λ b. b + length (get_or windows element new_window).kept) (sym base_is);
        }

pub bounds-none : (windows : List Window) (element : ℕ) (refusal : Refusal) → Err refusal ≡ bounds windows element
    → length windows ≤ element
bounds-none windows element refusal e = ⊎_elim
    (λ (inside : element < length windows). absurd
    (no_refusal (get_or windows element new_window)
    (e ∙ ap bounds_of (slice_get-get_or windows element new_window inside))))
    (λ (past : length windows ≤ element). past)
    (cases_lt element (length windows))
  where
    no_refusal : (w : Window) → Err refusal ≡ bounds_of (Some w) → ⊥
    no_refusal w f = cc

pub past-new : (windows : List Window) (element : ℕ) → length windows ≤ element → new_window
    ≡ get_or windows element new_window
past-new [] element past = refl
past-new (w ∷ windows) zero past = absurd (omega arith)
past-new (w ∷ windows) (suc element) past = past-new windows element (omega arith)

module _ (windows : List Window) (element base next : ℕ) (has : HasBounds windows element base next) where
  abbrev own : Window
  own = get_or windows element new_window

  entry-is : (number : ℕ) → base ≤ number → kept_for windows (record { element = element; number = number })
      ≡ slice_get own.kept (number - base)
  entry-is number from =
      kept_for-here windows element own (record { element = element; number = number }) has.there refl
      ∙ kept_under-from own number (omega (arith, has.base_is))
      ∙ ap (λ b. slice_get own.kept (number - b)) (sym has.base_is)

  pub entry-there : (number : ℕ) → base ≤ number → number < next → None
      ≡ kept_for windows (record { element = element; number = number }) → ⊥
  entry-there number from to none = by_place (slice_get own.kept (number - base)) (none ∙ entry-is number from)
      (ex (number - base) (omega (arith, has.next_is)))
    where
      ex : (n : ℕ) → n < length own.kept → (k : Kept) × (slice_get own.kept n ≡ Some k)
      ex n inside = at own.kept n inside
        where
          at : (kept : List Kept) (n : ℕ) → n < length kept → (k : Kept) × (slice_get kept n ≡ Some k)
          at [] n inside = absurd (omega arith)
          at (k ∷ kept) zero inside = (k, refl)
          at (k ∷ kept) (suc n) inside = at kept n (omega arith)

      by_place : (o : Option Kept) → None ≡ slice_get own.kept (number - base)
          → ((k : Kept) × (slice_get own.kept (number - base) ≡ Some k)) → ⊥
      by_place o none some = no_some some.0 (none ∙ some.1)
        where
          no_some : (k : Kept) → None ≡ Some k → ⊥
          no_some k e = cc

  -- the entries below a number
  abbrev pub entries_to : ℕ → Window
  entries_to number = record { base = base; kept = take (number - base) own.kept }

  pub entry-more : (number : ℕ) (k : Kept) → base ≤ number → number < next → Some k
      ≡ kept_for windows (record { element = element; number = number })
      → record { base = (entries_to number).base; kept = (entries_to number).kept ++ k ∷ [] } ≡ entries_to (number + 1)
  entry-more number k from to is =
      let place = number - base in
      let inside : place < length own.kept = omega (arith, has.next_is) in
      let here : get_or own.kept place k
      ≡ k = get_or_from_slice_get own.kept place k k (sym (is ∙ entry-is number from)) in
      let grown : take place own.kept ++ k ∷ []
      ≡ take (place + 1) own.kept = ap (λ x. take place own.kept ++ x ∷ []) (sym here)
      ∙ sym (take_more own.kept place k inside) in
      let step : place + 1 ≡ (number + 1) - base = omega arith in
      ap (λ (kept : List Kept). with_base kept) (grown ∙ ap (λ n. take n own.kept) step)
    where
      with_base : List Kept → Window
      with_base kept = record { base = base; kept = kept }

  pub entries-all : (number : ℕ) → next ≤ number → entries_to number ≡ own
  entries-all number past =
      let kept : take (number - base) own.kept
      ≡ own.kept = take_all (number - base) own.kept (omega (arith, has.next_is)) in
      λ i. record { base = has.base_is i; kept = kept i }

-- the records of a memory are as many as its sizes say
pub counted : (s : Sizes) (m : Contents) (r : Records) → length m.cells ≡ s.cells → length m.windows ≡ s.elements
    → length r.cells ≡ length m.cells → length r.nodes ≡ WINDOW * length m.windows
    → r.windows ≡ m.windows → AreCounted s r
counted s m r cells elements c n w = record {
  cells = c ∙ cells;
  nodes = n
      ∙ ap (λ k. WINDOW * k) elements;
  windows = ap length w ∙ elements;
}

-- pages of records are an area that shows the memory
module _ (s : Sizes) (r : Records) (page : ℕ → List ℕ) (count : AreCounted s r)
    (pages : (i : ℕ) → i < area_pages layout_in_use s → IsAreaPage s r i (page i)) where
  cell-page : (i : ℕ) → i < cell_pages s → SpellsCells s r i (page i)
  cell-page i lt = (pages i
      (one (cell_pages s) (node_pages layout_in_use s) (session_pages layout_in_use s) i lt)).cells lt
    where
      one : (a b c i : ℕ) → i < a → i < a + b + c
      one a b c i lt = omega arith

  node-page : (i : ℕ) → i < node_pages layout_in_use s → SpellsNodes s r i (page (cell_pages s + i))
  node-page i lt = (pages (cell_pages s + i)
      (two (cell_pages s) (node_pages layout_in_use s) (session_pages layout_in_use s) i lt)).nodes i refl lt
    where
      two : (a b c i : ℕ) → i < b → a + i < a + b + c
      two a b c i lt = omega arith

  session-page : (i : ℕ) → i < session_pages layout_in_use s
      → SpellsSessions r i (page (cell_pages s + node_pages layout_in_use s + i))
  session-page i lt = (pages (cell_pages s + node_pages layout_in_use s + i)
      (three (cell_pages s + node_pages layout_in_use s) (session_pages layout_in_use s) i lt)).sessions i refl lt
    where
      three : (a b i : ℕ) → i < b → a + i < a + b
      three a b i lt = omega arith

  pub are-pages : ArePages s r page
  are-pages = record {
    cells = λ i lt. (cell-page i lt).is_page;
    nodes = λ i lt. (node-page i lt).is_page;
    sessions = λ i lt. (session-page i lt).is_page;
  }

  cell-fits : (j : ℕ) → j < s.cells
      → FitsCell s.cells (node_count layout_in_use s) (slice_index_or r.cells j (FreeCell 0 NONE))
  cell-fits j lt =
      let at : 128 * (j / 128) + j % 128 ≡ j = omega arith in
      subst (λ j. FitsCell s.cells (node_count layout_in_use s) (slice_index_or r.cells j (FreeCell 0 NONE))) at
      ((cell-page (j / 128) (within s.cells j lt)).fits (j % 128) (omega arith) (omega (arith, count.cells)))
    where
      within : (n j : ℕ) → j < n → j / 128 < (n + 128 - 1) / 128
      within n j lt = omega arith

  node-fits : (j : ℕ) → j < node_count layout_in_use s
      → FitsNode (node_count layout_in_use s) (slice_index_or r.nodes j (FreeNode NONE))
  node-fits j lt =
      let at : 256 * (j / 256) + j % 256 ≡ j = omega arith in
      subst (λ j. FitsNode (node_count layout_in_use s) (slice_index_or r.nodes j (FreeNode NONE))) at
      ((node-page (j / 256) (within (node_count layout_in_use s) j lt)).fits (j % 256) (omega arith)
      (omega (arith, count.nodes)))
    where
      within : (n j : ℕ) → j < n → j / 256 < (n + 256 - 1) / 256
      within n j lt = omega arith

  session-fits : (j : ℕ) → j < s.elements → FitsWindow layout_in_use (slice_index_or r.windows j new_window)
  session-fits j lt =
      let at : 1 * (j / 1) + j % 1 ≡ j = omega arith in
      subst (λ j. FitsWindow layout_in_use (slice_index_or r.windows j new_window)) at
      ((session-page (j / 1) (within s.elements j lt)).fits (j % 1) (omega arith) (omega (arith, count.windows)))
    where
      within : (n j : ℕ) → j < n → j / 1 < (n + 1 - 1) / 1
      within n j lt = omega arith

  pub they-fit : FitRecords s r
  they-fit = record {
    many_cells = count.cells;
    cells = cell-fits;
    many_nodes = count.nodes;
    nodes = node-fits;
    many_windows = count.windows;
    windows = session-fits;
  }

pub pages-show : (s : Sizes) (r : Records) (m : Contents) (page : ℕ → List ℕ) → AreCounted s r → ShowsRecords s r m
    → ((i : ℕ) → i < area_pages layout_in_use s → IsAreaPage s r i (page i))
    → Shows layout_in_use s (joined (area_pages layout_in_use s) page) m
pages-show s r m page count shows pages = record {
  records = r;
  spelled = joined_is_area s r page
      (they-fit s r page count pages) (are-pages s r page count pages);
  shown = shows;
}

pub area-shows : (s : Sizes) (r : Records) (m : Contents) (area : List ℕ) → AreCounted s r → ShowsRecords s r m
    → length area ≡ area_bytes layout_in_use s
    → ((i : ℕ) → i < area_pages layout_in_use s → IsAreaPage s r i (record_at 4096 area i))
    → Shows layout_in_use s area m
area-shows s r m area count shows long pages =
    let page : ℕ → List ℕ = λ i. record_at 4096 area i in
    record {
      records = r;
      spelled = area_of_pages s r (they-fit s r page count pages) area long
          (are-pages s r page count pages);
      shown = shows;
    }

-- a page more of an area
