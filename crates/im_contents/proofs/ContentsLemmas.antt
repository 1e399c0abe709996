-- The memory that records show: each of its parts is tested by itself, and it is the only one.
use Rattle.std.proofs.Common.{◌≡◌, ℕ, ◌+◌, ◌<◌, ◌≤◌, List, length, get_or, slice_get, Some, Option, sym, refl, ap, ◌∙◌}
use Rattle.std.proofs.Common.{subst, ⊎_elim, arith}
use Rattle.std.proofs.lemmas.{Bool.cases_lt, Option.get_or_from_slice_get}
use Rattle.im_types.specs.Types.{Waiter, NONE, Held, Window, Contents, kept_for, HasBlocks, WaitersAgree, Sizes}
use Rattle.im_types.specs.Types.{ShowLists, Records, cells_shown, ShowsRecords}
use Rattle.im_contents.proofs.{BlockLemmas.blocks_of_others, BlockLemmas.length-cells_shown, ListLemmas.lists_unique}
use Rattle.im_contents.specs.Parts.{HaveParts, WindowsFit}

-- one more element of a list has what those before it have
pub one_more : {X : Type 0} (P : X → Type 0) (xs : List X) (n : ℕ) (x : X) → x ≡ get_or xs n x → P x
    → ((i : ℕ) (y : X) → i < n → slice_get xs i ≡ Some y → P y)
    → (i : ℕ) (y : X) → i < n + 1 → slice_get xs i ≡ Some y → P y
one_more P xs n x is here before = λ i y lt there. ⊎_elim
    (λ (less : i < n). before i y less there)
    (λ (from : n ≤ i).
    let same : i ≡ n = omega arith in
    subst P (is ∙ ap (λ (k : ℕ). get_or xs k x) (sym same) ∙ get_or_from_slice_get xs i y x there) here)
    (cases_lt i n)

module _ (s : Sizes) (r : Records) where
  -- the memory that the records and lists stand for
  abbrev pub shown_by : List (List Waiter) → Contents
  shown_by lists = record { cells = cells_shown r.cells lists; windows = r.windows }

  -- records that show a memory have its parts
  pub parts_of : (m : Contents) → ShowsRecords s r m → HaveParts s.cells s.elements r.cells r.windows
  parts_of m shown = record {
    cell_count = sym (length-cells_shown r.cells shown.lists) ∙ ap length (sym shown.cells) ∙ shown.memory.cell_count;
    window_count = ap length (sym shown.windows) ∙ shown.memory.window_count;
    within = subst WindowsFit shown.windows shown.memory.windows;
    blocks = λ lists. blocks_of_others r.cells shown.lists lists (subst HasBlocks shown.cells shown.memory.blocks);
  }

  -- records that have the parts show a memory, where who waits agrees
  pub shown_of : HaveParts s.cells s.elements r.cells r.windows → (lists : List (List Waiter))
      → ShowLists r.nodes r.cells lists
      → WaitersAgree (cells_shown r.cells lists) (kept_for r.windows) → ShowsRecords s r (shown_by lists)
  shown_of parts lists chained agree = record {
    lists = lists;
    chained = chained;
    cells = refl;
    windows = refl;
    memory = record {
      cell_count = length-cells_shown r.cells lists ∙ parts.cell_count;
      window_count = parts.window_count;
      blocks = parts.blocks lists;
      windows = parts.within;
      agrees = agree;
    };
  }

  -- a memory that is shown has these lists, and agrees with them
  module _ (few : length r.nodes ≤ NONE) (m : Contents) (shown : ShowsRecords s r m) (lists : List (List Waiter))
      (chained : ShowLists r.nodes r.cells lists) where
    pub cells_are : m.cells ≡ cells_shown r.cells lists
    cells_are = shown.cells
        ∙ ap (cells_shown r.cells) (lists_unique r.nodes r.cells shown.lists lists few shown.chained chained)

    pub agrees_of : WaitersAgree (cells_shown r.cells lists) (kept_for r.windows)
    agrees_of = subst (λ (cells : List (Option Held)). WaitersAgree cells (kept_for r.windows)) cells_are
        (subst (λ (windows : List Window). WaitersAgree m.cells (kept_for windows)) shown.windows shown.memory.agrees)

  pub memory_unique : (m other : Contents) → length r.nodes ≤ NONE → ShowsRecords s r m → ShowsRecords s r other → m
      ≡ other
  memory_unique m other few shown also =
      let cells_same : m.cells ≡ other.cells = cells_are few m shown also.lists also.chained ∙ sym also.cells in
      let windows_same : m.windows ≡ other.windows = shown.windows ∙ sym also.windows in
      λ i. record { cells = cells_same i; windows = windows_same i }
