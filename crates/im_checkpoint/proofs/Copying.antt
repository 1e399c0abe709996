-- Pages that are copied before a command acts.
use Rattle.std.proofs.Common.{◌≡◌, ℕ, zero, suc, ◌+◌, ◌<◌, ◌≤◌, Bool, true, false, ◌||◌, ◌≢◌, List, [], ◌∷◌, length}
use Rattle.std.proofs.Common.{replicate, sym, refl, ap, ◌∙◌, subst, ⊎_elim, true≢false, arith}
use Rattle.std.proofs.lemmas.{Bool.cases_eq, Bool.cases_lt, List.get_or_default, List.get_or_past}
use Rattle.im_types.specs.Types.{Command, layout_in_use, Sizes, area_pages, Records}
use Rattle.im_laws.proofs.Tests.{or_right}
use Rattle.im_pages.{proofs.SetLemmas.length-union, proofs.SetLemmas.read-union, specs.Places.AgreeOnPage}
use Rattle.im_pages.specs.PageSets.{has, HasNoneFrom, IsNext, IsWithin, size_of, union}
use Rattle.im_memory.specs.{State.MemoryState, Touched.ChangesOnly, Touched.touched}
use Rattle.im_image.{proofs.Outside.outside-stays, specs.Encoding.IsAreaPage}
use Rattle.im_checkpoint.proofs.Copies.{IsPrepared}
use Rattle.im_checkpoint.specs.{Copied.copy_of, declared.checkpoint.Phase.Phase, Keeping.paged, Keeping.Prepares}
use Rattle.im_checkpoint.specs.declared.checkpoint.Phase.TheVariants.{NoCheckpoint as None_yet}
use Rattle.im_checkpoint.specs.declared.checkpoint.Phase.TheVariants.{PagesDone as All_written, PagesLeft as Some_left}
use Rattle.im_checkpoint.specs.declared.checkpoint.Phase.TheVariants.{Synced as On_disk}
use Rattle.im_checkpoint.specs.Step.{left_in, PagedCheckpoint, step_by_phase}

-- the named pages below one are copied
pub record HasCopied (s : Sizes) (r : Records) (named left recent : List Bool) (from at : ℕ)
    (old new : List (List ℕ)) : Type 0 where
  pub begun : from ≤ at
  pub space : length new ≡ length old
  pub copied : (page : ℕ) → from ≤ page → page < at → page < area_pages layout_in_use s → has named page ≡ true
      → has left page ≡ true → has recent page ≡ false → IsAreaPage s r page (copy_of new page)
  pub stay : (page : ℕ) → page < area_pages layout_in_use s → has recent page ≡ true → copy_of new page
      ≡ copy_of old page

module _ (s : Sizes) (r : Records) (named left recent : List Bool) (from at i : ℕ) (old mid new : List (List ℕ))
    (it : HasCopied s r named left recent from at old mid) (next : IsNext named at i) (space : length new ≡ length mid)
    (copied : has left i ≡ true → has recent i ≡ false → IsAreaPage s r i (copy_of new i))
    (stay : (page : ℕ) → page < area_pages layout_in_use s → (page ≡ i → has recent i ≡ true) → copy_of new page
    ≡ copy_of mid page) where
  pub copied_more : HasCopied s r named left recent from (i + 1) old new
  copied_more = record {
    begun = omega (arith, it.begun, next.from);
    space = space ∙ it.space;
    copied = λ page low high lt there is_left fresh. ⊎_elim
        (λ (before : page < at). subst (IsAreaPage s r page)
        (sym (stay page lt (λ e. absurd (omega (arith, e, before, next.from)))))
        (it.copied page low before lt there is_left fresh))
        (λ (after : at ≤ page). ⊎_elim
        (λ (same : page ≡ i). subst (λ (p : ℕ). IsAreaPage s r p (copy_of new p)) (sym same)
        (copied (ap (has left) (sym same) ∙ is_left) (ap (has recent) (sym same) ∙ fresh)))
        (λ (other : page ≢ i). absurd (true≢false (sym there ∙ next.between page after (omega (arith, high, other)))))
        (cases_eq page i))
        (cases_lt page at);
    stay = λ page lt changed. stay page lt (λ e. ap (has recent) (sym e) ∙ changed) ∙ it.stay page lt changed;
  }

pub copied_all : (s : Sizes) (r : Records) (named left recent : List Bool) (from at : ℕ) (old new : List (List ℕ))
    → HasCopied s r named left recent from at old new → HasNoneFrom named at → length named ≡ area_pages layout_in_use s
    → (page : ℕ) → from ≤ page → page < area_pages layout_in_use s → has named page ≡ true → has left page ≡ true
    → has recent page ≡ false → IsAreaPage s r page (copy_of new page)
copied_all s r named left recent from at old new it none size page low lt there is_left fresh = ⊎_elim
    (λ (before : page < at). it.copied page low before lt there is_left fresh)
    (λ (after : at ≤ page). absurd (true≢false (sym there ∙ none page after (omega (arith, lt, size)))))
    (cases_lt page at)

-- ---- unions of sets of as many pages

module _ (set more : List Bool) (same : length set ≡ length more) where
  pub has_union : (page : ℕ) → page < length set → has (union set more) page ≡ (has set page || has more page)
  has_union page lt =
      get_or_default (union set more) page true false (omega (arith, lt, length-union set more))
      ∙ read-union set more page lt same
      ∙ (λ i. get_or_default set page false true lt i || get_or_default more page false true
      (omega (arith, lt, same)) i)

  pub past : (page : ℕ) → length set ≤ page → has (union set more) page ≡ true
  past page le = get_or_past (union set more) page true (omega (arith, le, length-union set more))

  pub within_union : IsWithin set (union set more)
  within_union page there = ⊎_elim
      (λ lt. has_union page lt ∙ ap (λ b. b || has more page) there)
      (λ le. past page le)
      (cases_lt page (length set))

  pub out_of_union : (page : ℕ) → has (union set more) page ≡ false → has more page ≡ false
  out_of_union page out = ⊎_elim
      (λ lt. or_right (has set page) (has more page) (sym (has_union page lt) ∙ out))
      (λ le. absurd (true≢false (sym (past page le) ∙ out)))
      (cases_lt page (length set))

  pub new_in_union : (page : ℕ) → page < length set → has set page ≡ false → has (union set more) page ≡ true
      → has more page ≡ true
  new_in_union page lt fresh there = sym (ap (λ b. b || has more page) fresh) ∙ sym (has_union page lt) ∙ there

pub size_union : (set more : List Bool) → size_of (union set more) ≤ size_of set + size_of more
size_union [] more = omega arith
size_union (b ∷ set) [] = omega arith
size_union (true ∷ set) (true ∷ more) = omega (arith, size_union set more)
size_union (true ∷ set) (false ∷ more) = omega (arith, size_union set more)
size_union (false ∷ set) (true ∷ more) = omega (arith, size_union set more)
size_union (false ∷ set) (false ∷ more) = omega (arith, size_union set more)

pub size_none : (n : ℕ) → size_of (replicate n false) ≡ 0
size_none zero = refl
size_none (suc n) = size_none n

-- ---- what is left

pub left_none : (p : Phase) (count : ℕ) (left : List ℕ) → (p ≡ Some_left → ⊥)
    → left_in (step_by_phase p count left) ≡ []
left_none None_yet count left other = refl
left_none Some_left count left other = absurd (other refl)
left_none All_written count left other = refl
left_none On_disk count left other = refl

-- ---- a command acts

set_out : (b : Bool) → (b ≡ true → false ≡ true) → b ≡ false
set_out true it = sym (it refl)
set_out false it = refl

pub prepared_for : (old new : PagedCheckpoint) (m after : MemoryState) (command : Command)
    → Prepares old m command new → ChangesOnly (touched m command) m.records after.records
    → length m.contents.cells ≡ old.state.header.sizes.cells → length m.contents.windows
    ≡ old.state.header.sizes.elements
    → IsPrepared old.state.header.sizes (left_in old.state.step) (paged old m) (paged new after)
prepared_for old new m after command it changes cells elements = record {
  older = it.adds.most.older;
  kept = λ page lt out. set_out (has old.recent page) (λ there. sym out ∙ it.adds.most.kept page there);
  same = λ page lt out. outside-stays s m.records after.records page
      (subst (λ (n : ℕ). AgreeOnPage n s.elements m.records after.records page) cells
      (subst (λ (n : ℕ). AgreeOnPage (length m.contents.cells) n m.records after.records page) elements
      (it.others after.records changes page out)));
  copied = it.copied;
  stay = it.stay;
}
  where
    s : Sizes
    s = old.state.header.sizes
