-- A memory that is put together from the records of an area.
use Rattle.std.proofs.Common.{◌≡◌, ℕ, ◌+◌, ◌*◌, ◌<◌, ◌≤◌, List, [], length, get_or, take, set, sum_by, sym, ap, ◌∙◌}
use Rattle.std.proofs.Common.{subst, ⊎_elim, arith, length-set, get_or-set_other, get_or-set_same, ext_get_or}
use Rattle.std.proofs.lemmas.{Bool.cases_lt, List.Sums.sum_by-set, List.Sums.sum_by_more}
use Rattle.im_types.specs.Types.{Waiter, WINDOW, NONE, AreLimits, Window, Contents, IsMemory, Version, One, Two}
use Rattle.im_types.specs.Types.{layout_of, Sizes, CellRecord, NodeRecord, ShowLists, Records, SpellsArea, cells_shown}
use Rattle.im_types.specs.Types.{ShowsRecords, Shows}
use Rattle.im_memory.{proofs.RestoreLemmas.lists-fit, specs.Restoring.AreComplete, specs.Restoring.Parts}
use Rattle.im_records.proofs.Unique.{one_area}
use Rattle.im_contents.proofs.{BlockLemmas.length-cells_shown, ContentsLemmas.memory_unique}

-- the first of a list's elements stand in their places
pub record Begun {X : Type 0} (none : X) (xs now : List X) (i : ℕ) : Type 0 where
  pub many : length now ≡ length xs
  pub first : (a : ℕ) → a < i → get_or now a none ≡ get_or xs a none

pub begun-more : {X : Type 0} (none : X) (xs now : List X) (i : ℕ) → i < length xs → Begun none xs now i
    → Begun none xs (set now i (get_or xs i none)) (i + 1)
begun-more none xs now i inside begun = record {
  many = length-set now i (get_or xs i none) ∙ begun.many;
  first = λ a lt. ⊎_elim
      (λ (less : a < i). get_or-set_other now i a (get_or xs i none) none (λ e. omega arith) ∙ begun.first a less)
      (λ (from : i ≤ a).
      let same : a ≡ i = omega arith in
      let here : get_or (set now i (get_or xs i none)) i none
      ≡ get_or xs i none = get_or-set_same now i (get_or xs i none) none (omega (arith, begun.many)) in
      subst (λ a. get_or (set now i (get_or xs i none)) a none ≡ get_or xs a none) (sym same) here)
      (cases_lt a i);
}

pub begun-all : {X : Type 0} (none : X) (xs now : List X) → Begun none xs now (length xs) → now ≡ xs
begun-all none xs now begun = ext_get_or none now xs begun.many (λ a lt. begun.first a (omega (arith, begun.many)))

abbrev pub nobody : List Waiter
nobody = []

-- and the other lists are empty
pub record ListsPut (lists now : List (List Waiter)) (i : ℕ) : Type 0 where
  pub begun : Begun [] lists now i
  pub rest : (a : ℕ) → i ≤ a → get_or now a [] ≡ []
  pub sum : sum_by length now ≡ sum_by length (take i lists)

pub lists-more : (lists now : List (List Waiter)) (i : ℕ) → i < length lists → ListsPut lists now i
    → ListsPut lists (set now i (get_or lists i [])) (i + 1)
lists-more lists now i inside put = record {
  begun = begun-more nobody lists now i inside put.begun;
  rest = λ a from. get_or-set_other now i a (get_or lists i []) [] (λ e. omega arith) ∙ put.rest a (omega arith);
  sum =
      let now_sum : sum_by length (set now i (get_or lists i [])) + length (get_or now i nobody)
      ≡ sum_by length now + length (get_or lists i nobody) = sum_by-set length now i (get_or lists i []) []
      (omega (arith, put.begun.many)) in
      omega (arith, now_sum, put.sum, ap length (put.rest i (omega arith)), sum_by_more length lists i nobody inside);
}

-- parts with the same of each kind are the same
pub parts-same : (p q : Parts) → p.cells ≡ q.cells → p.lists ≡ q.lists → p.windows ≡ q.windows → p ≡ q
parts-same p q cells lists windows = λ i. record { cells = cells i; lists = lists i; windows = windows i }

pub records-same : (r : Records) (cells : List CellRecord) (nodes : List NodeRecord) (windows : List Window) → cells
    ≡ r.cells → nodes ≡ r.nodes → windows ≡ r.windows
    → r ≡ record { cells = cells; nodes = nodes; windows = windows }
records-same r cells nodes windows c n w = λ i. record { cells = (sym c) i; nodes = (sym n) i; windows = (sym w) i }

-- records and lists that are a memory are complete
pub complete-of : (elements cells : ℕ) (r : Records) (lists : List (List Waiter)) → ShowLists r.nodes r.cells lists
    → IsMemory cells elements (record { cells = cells_shown r.cells lists; windows = r.windows })
    → AreComplete (record { cells = r.cells; lists = lists; windows = r.windows })
complete-of elements cells r lists chained memory = record {
  nodes = r.nodes;
  chained = chained;
  memory =
      let m : Contents = record { cells = cells_shown r.cells lists; windows = r.windows } in
      subst (λ n. IsMemory n (length r.windows) m) (sym (sym (length-cells_shown r.cells lists) ∙ memory.cell_count))
      (subst (λ n. IsMemory cells n m) (sym memory.window_count) memory);
}

pub records-fit : (elements cells : ℕ) (r : Records) (lists : List (List Waiter)) → ShowLists r.nodes r.cells lists
    → IsMemory cells elements (record { cells = cells_shown r.cells lists; windows = r.windows })
    → sum_by length lists ≤ WINDOW * elements
records-fit elements cells r lists chained memory = omega
    (arith, lists-fit r.cells lists r.windows (complete-of elements cells r lists chained memory), memory.window_count)

-- as many nodes as there may be
pub few-nodes : (version : Version) (s : Sizes) (area : List ℕ) (r : Records) → AreLimits s.cells s.elements s.slots
    → SpellsArea (layout_of version) s area r → length r.nodes ≤ NONE
few-nodes One s area r limits spelled = omega (arith, limits.few_elements, spelled.nodes.many)
few-nodes Two s area r limits spelled = omega (arith, limits.few_elements, spelled.nodes.many)

pub one-memory : (version : Version) (s : Sizes) (area : List ℕ) (m other : Contents)
    → AreLimits s.cells s.elements s.slots → Shows (layout_of version) s area m
    → Shows (layout_of version) s area other → m ≡ other
one-memory version s area m other limits shows also =
    let same : also.records
    ≡ shows.records = one_area version s area also.records shows.records limits also.spelled shows.spelled in
    memory_unique s shows.records m other (few-nodes version s area shows.records limits shows.spelled) shows.shown
    (subst (λ (r : Records). ShowsRecords s r other) same also.shown)

-- records that show no memory are those of an area that shows none
pub shows-none : (version : Version) (s : Sizes) (area : List ℕ) (r : Records) → AreLimits s.cells s.elements s.slots
    → SpellsArea (layout_of version) s area r → ((m : Contents) → ShowsRecords s r m → ⊥)
    → (m : Contents) → Shows (layout_of version) s area m → ⊥
shows-none version s area r limits spelled none m shows = none m
    (subst (λ (q : Records). ShowsRecords s q m)
    (one_area version s area shows.records r limits shows.spelled spelled) shows.shown)
