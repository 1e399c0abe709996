-- A page that shows no record that changed has the same bytes.
use Rattle.std.proofs.Common.{◌≡◌, ℕ, ◌+◌, ◌*◌, ◌<◌, List, length, get_or, slice_get, slice_index_or, Option, unwrap_or}
use Rattle.std.proofs.Common.{sym, ap, ◌∙◌, subst, arith}
use Rattle.std.proofs.lemmas.Option.{slice_get-get_or, slice_get_within, unwrap_or-slice_get}
use Rattle.im_types.specs.Types.{Sizes, Records}
use Rattle.{im_pages.specs.Places.AgreeOnPage, im_records.specs.Paging.bytes_or_zeros}
use Rattle.im_image.specs.Encoding.{IsAreaPage, SameOn, SpellsPage}

module _ {X : Type 0} (size per : ℕ) (spelled : X → List ℕ) (Fits : X → Type 0) (none : X) (row other : List X) (i : ℕ)
    (agree : (k : ℕ) → k < per → slice_get other (per * i + k) ≡ slice_get row (per * i + k)) where
  read : (k : ℕ) → k < per → slice_index_or other (per * i + k) none ≡ slice_index_or row (per * i + k) none
  read k lt =
      sym (unwrap_or-slice_get other (per * i + k) none) ∙ ap (λ (o : Option X). unwrap_or o none) (agree k lt)
      ∙ unwrap_or-slice_get row (per * i + k) none

  there : (k : ℕ) → k < per → per * i + k < length other → per * i + k < length row
  there k lt inside = slice_get_within row (per * i + k) (get_or other (per * i + k) none)
      (sym (agree k lt) ∙ slice_get-get_or other (per * i + k) none inside)

  spells : (page : List ℕ) → SpellsPage size per spelled Fits none row i page
      → SpellsPage size per spelled Fits none other i page
  spells page it = record {
    is_page = record {
      long = it.is_page.long;
      each = λ k lt. it.is_page.each k lt ∙ ap (bytes_or_zeros size spelled) (sym (agree k lt));
    };
    fits = λ k lt inside. subst Fits (sym (read k lt)) (it.fits k lt (there k lt inside));
  }

one_way : (s : Sizes) (r q : Records) (p : ℕ) → AgreeOnPage s.cells s.elements r q p → (bytes : List ℕ)
    → IsAreaPage s r p bytes → IsAreaPage s q p bytes
one_way s r q p agree bytes it = record {
  cells = λ lt. spells 32 128 _ _ _ r.cells q.cells p
      (λ k small. agree.cells_agree (128 * p + k) (omega arith)) bytes (it.cells lt);
  nodes = λ n is lt. spells 16 256 _ _ _ r.nodes q.nodes n
      (λ k small. agree.nodes_agree (256 * n + k) (omega (arith, is, small))) bytes (it.nodes n is lt);
  sessions = λ n is lt. spells 4096 1 _ _ _ r.windows q.windows n
      (λ k small. agree.windows_agree (1 * n + k) (omega (arith, is, small))) bytes (it.sessions n is lt);
}

pub outside-stays : (s : Sizes) (r q : Records) (p : ℕ) → AgreeOnPage s.cells s.elements r q p → SameOn s r q p
outside-stays s r q p agree = record {
  to = one_way s r q p agree;
  from = one_way s q r p (record {
    cells_agree = λ a is. sym (agree.cells_agree a is);
    nodes_agree = λ n is. sym (agree.nodes_agree n is);
    windows_agree = λ e is. sym (agree.windows_agree e is);
  });
}
