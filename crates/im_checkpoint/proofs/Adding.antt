-- What a command names, and a set with these pages more.
use Rattle.std.proofs.Common.{◌≡◌, ℕ, zero, suc, ◌+◌, ◌≤◌, Bool, true, false, ◌||◌, List, [], ◌∷◌, length, replicate}
use Rattle.std.proofs.Common.{Some, None, Option, sym, refl, ap, ◌∙◌, ⊎_elim, arith}
use Rattle.std.proofs.lemmas.Bool.{cases_lt}
use Rattle.im_types.specs.Types.{Op, Block, Alloc, Release, Reset, Fetch, Store, Take, Put, Command, Asks, Confirm}
use Rattle.im_types.specs.Types.{Held, Contents, held_at, place, block_with_base}
use Rattle.im_pages.{proofs.SetLemmas.length-union, specs.Places.page_of_cell, specs.Places.page_of_session}
use Rattle.im_pages.specs.PageSets.{has, size_of, union, with_page, with_pages}
use Rattle.im_memory.specs.Covering.{block_pages, Covers, HasBlockMore, IsAlone, IsOfBlock, most_pages, with_block}
use Rattle.im_memory.specs.Covering.{with_cells, with_new}
use Rattle.im_memory.specs.State.{MemoryState}
use Rattle.im_checkpoint.proofs.Copying.{has_union, past, size_none, size_union, within_union}
use Rattle.im_checkpoint.specs.Turns.{AddsPages, HasOwn}

length-with : (set : List Bool) (page : ℕ) → length (with_page set page) ≡ length set
length-with [] page = refl
length-with (b ∷ set) zero = refl
length-with (b ∷ set) (suc page) = ap suc (length-with set page)

-- ---- a union with a set that has pages more

union_page : (set more : List Bool) (page : ℕ) → length set ≡ length more
    → union set (with_page more page) ≡ with_page (union set more) page
union_page [] more page same = refl
union_page (b ∷ set) [] page same = absurd (omega (arith, same))
union_page (true ∷ set) (c ∷ more) zero same = refl
union_page (false ∷ set) (c ∷ more) zero same = refl
union_page (b ∷ set) (c ∷ more) (suc page) same = ap (λ (l : List Bool). (b || c) ∷ l)
    (union_page set more page (omega (arith, same)))

union_pages : (n : ℕ) (set more : List Bool) (page : ℕ) → length set ≡ length more
    → union set (with_pages more page n) ≡ with_pages (union set more) page n
union_pages zero set more page same = refl
union_pages (suc n) set more page same =
    union_pages n set (with_page more page) (suc page) (same ∙ sym (length-with more page))
    ∙ ap (λ (l : List Bool). with_pages l (suc page) n) (union_page set more page same)

union_cells : (set more : List Bool) (base n : ℕ) → length set ≡ length more
    → union set (with_cells more base n) ≡ with_cells (union set more) base n
union_cells set more base zero same = refl
union_cells set more base (suc n) same =
    union_pages (block_pages base (suc n)) set more (page_of_cell base) same

union_new : (set more : List Bool) (n : ℕ) (at : Option ℕ) → length set ≡ length more
    → union set (with_new more n at) ≡ with_new (union set more) n at
union_new set more n None same = refl
union_new set more n (Some base) same = union_cells set more base n same

union_block : (set more : List Bool) (at : Option Block) → length set ≡ length more
    → union set (with_block more at) ≡ with_block (union set more) at
union_block set more None same = refl
union_block set more (Some block) same = union_cells set more block.base block.length same

union_empty : (set : List Bool) → union set (replicate (length set) false) ≡ set
union_empty [] = refl
union_empty (true ∷ set) = ap (λ (l : List Bool). true ∷ l) (union_empty set)
union_empty (false ∷ set) = ap (λ (l : List Bool). false ∷ l) (union_empty set)

-- ---- what is named in a set of its own is what a union with it has more

module _ (set named : List Bool) where
  abbrev none : List Bool
  none = replicate (length set) false

  own_page : (page : ℕ) → length set ≡ length none → union set (with_page none page) ≡ with_page set page
  own_page page same = union_page set none page same ∙ ap (λ (l : List Bool). with_page l page) (union_empty set)

  module _ (same : length set ≡ length none) where
    block_more : (cells : List (Option Held)) (op : Op) (page : ℕ)
        → HasBlockMore cells op (with_page none page) named
        → HasBlockMore cells op (with_page set page) (union set named)
    block_more cells (Alloc kind n) page is = ap (union set) is
        ∙ union_new set (with_page none page) n (place n cells) (same ∙ sym (length-with none page))
        ∙ ap (λ (l : List Bool). with_new l n (place n cells)) (own_page page same)
    block_more cells (Release a) page is = ap (union set) is
        ∙ union_block set (with_page none page) (block_with_base a (held_at cells a))
        (same ∙ sym (length-with none page))
        ∙ ap (λ (l : List Bool). with_block l (block_with_base a (held_at cells a))) (own_page page same)
    block_more cells (Reset a) page is = ap (union set) is
        ∙ union_block set (with_page none page) (block_with_base a (held_at cells a))
        (same ∙ sym (length-with none page))
        ∙ ap (λ (l : List Bool). with_block l (block_with_base a (held_at cells a))) (own_page page same)
    block_more cells (Fetch a) page is = tt
    block_more cells (Store a v) page is = tt
    block_more cells (Take a) page is = tt
    block_more cells (Put a v) page is = tt

    of_block : (m : Contents) (command : Command) → IsOfBlock m command none named
        → IsOfBlock m command set (union set named)
    of_block m (Asks r) is = block_more m.cells r.op
        (page_of_session (length m.cells) (length m.windows) r.element) is
    of_block m (Confirm element upto) is = tt

    alone_in : (m : Contents) (command : Command) → IsAlone m command none named
        → IsAlone m command set (union set named)
    alone_in m (Asks r) is = λ gone. ap (union set) (is gone)
        ∙ own_page (page_of_session (length m.cells) (length m.windows) r.element) same
    alone_in m (Confirm element upto) is = ap (union set) is
        ∙ own_page (page_of_session (length m.cells) (length m.windows) element) same

-- ---- the page of the own session

pub own_of : (m : MemoryState) (command : Command) (set : List Bool) → Covers m command set
    → HasOwn m.contents command set
own_of m (Asks r) set covers = covers.of_elements.0
own_of m (Confirm element upto) set covers = covers.of_elements.0

module _ (set named : List Bool) (same : length set ≡ length named) where
  named_in : (page : ℕ) → has named page ≡ true → has (union set named) page ≡ true
  named_in page there = ⊎_elim
      (λ lt. has_union set named same page lt ∙ by_test (has set page) (has named page) there)
      (λ le. past set named same page le)
      (cases_lt page (length set))
    where
      by_test : (b c : Bool) → c ≡ true → (b || c) ≡ true
      by_test true c is = refl
      by_test false c is = is

  own_in : (m : Contents) (command : Command) → HasOwn m command named → HasOwn m command (union set named)
  own_in m (Asks r) there = named_in (page_of_session (length m.cells) (length m.windows) r.element) there
  own_in m (Confirm element upto) there =
      named_in (page_of_session (length m.cells) (length m.windows) element) there

-- what is named in a set of its own is added by a union with it
pub adds_named : (m : MemoryState) (command : Command) (set named older : List Bool)
    → length named ≡ length (replicate (length set) false) → length set ≡ length named
    → Covers m command named
    → size_of named ≤ size_of (replicate (length set) false) + most_pages m.contents command
    → IsOfBlock m.contents command (replicate (length set) false) named
    → IsAlone m.contents command (replicate (length set) false) named
    → AddsPages m.contents command (record { recent = set; older = older })
    (record { recent = union set named; older = older })
adds_named m command set named older long same covers few block alone = record {
  most = record {
    older = refl;
    size = length-union set named;
    kept = λ page there. within_union set named same page there;
    few = omega (arith, size_union set named, few, size_none (length set));
  };
  own = own_in set named same m.contents command (own_of m command named covers);
  block = of_block set named (same ∙ long) m.contents command block;
  alone = alone_in set named (same ∙ long) m.contents command alone;
}
