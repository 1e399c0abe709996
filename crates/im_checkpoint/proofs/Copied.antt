-- A page is copied behind the others, or over its copy.
use Rattle.std.proofs.Common.{◌≡◌, ℕ, zero, suc, ◌+◌, ◌<◌, ◌≤◌, ◌≢◌, List, [], ◌∷◌, ◌++◌, map, length, set, replicate}
use Rattle.std.proofs.Common.{sym, refl, ap, ◌∙◌, subst, ⊎_elim, arith, length-set, get_or-set_other, get_or-set_same}
use Rattle.std.proofs.lemmas.Bool.{cases_eq}
use Rattle.std.proofs.lemmas.List.{get_or-map, get_or_append_left, get_or_at, length-replicate, length_push, map-set}
use Rattle.im_checkpoint.specs.Copied.{AreCopies, blank_page, copy_at, copy_of, copy_place, taken}
use Rattle.im_checkpoint.specs.declared.page_copies.CopyPlace.{CopyPlace, TheVariants.At, TheVariants.Nowhere}

-- ---- how many pages have a place

few : (places : List CopyPlace) → taken places ≤ length places
few [] = omega arith
few (Nowhere ∷ places) = omega (arith, few places)
few (At place ∷ places) = omega (arith, few places)

-- one that has none leaves room
pub taken-room : (places : List CopyPlace) (i : ℕ) → i < length places → copy_place places i ≡ Nowhere
    → taken places < length places
taken-room [] i inside none = absurd (omega arith)
taken-room (Nowhere ∷ places) zero inside none = omega (arith, few places)
taken-room (At place ∷ places) zero inside none = absurd (some_none place none)
  where
    some_none : (n : ℕ) → At n ≡ Nowhere → ⊥
    some_none n e = cc
taken-room (Nowhere ∷ places) (suc i) inside none = omega (arith, taken-room places i (omega arith) none)
taken-room (At place ∷ places) (suc i) inside none = omega (arith, taken-room places i (omega arith) none)

taken-set : (places : List CopyPlace) (i at : ℕ) → i < length places → copy_place places i ≡ Nowhere
    → taken (set places i (At at)) ≡ taken places + 1
taken-set [] i at inside none = absurd (omega arith)
taken-set (Nowhere ∷ places) zero at inside none = omega arith
taken-set (At place ∷ places) zero at inside none = absurd (some_none place none)
  where
    some_none : (n : ℕ) → At n ≡ Nowhere → ⊥
    some_none n e = cc
taken-set (Nowhere ∷ places) (suc i) at inside none = taken-set places i at (omega arith) none
taken-set (At place ∷ places) (suc i) at inside none = omega (arith, taken-set places i at (omega arith) none)

-- ---- what copies there are

pub copy-is : (places : List CopyPlace) (pages value : List (List ℕ)) (i : ℕ) (place : CopyPlace)
    → map (copy_at pages) places ≡ value → i < length places → copy_place places i ≡ place → copy_at pages place
    ≡ copy_of value i
copy-is places pages value i place view inside here =
    ap (copy_at pages) (sym here) ∙ sym (get_or-map (copy_at pages) places i Nowhere [] inside)
    ∙ ap (λ (all : List (List ℕ)). copy_of all i) view

none-taken : (n : ℕ) → taken (replicate n Nowhere) ≡ 0
none-taken zero = refl
none-taken (suc n) = none-taken n

no-place : (n i : ℕ) → copy_place (replicate n Nowhere) i ≡ Nowhere
no-place zero i = refl
no-place (suc n) zero = refl
no-place (suc n) (suc i) = no-place n i

no-copies : (n : ℕ) → AreCopies (replicate n Nowhere) [] n
no-copies n = record {
  count = sym (none-taken n);
  within = λ i place e. absurd (none_some place (sym (no-place n i) ∙ e));
  apart = λ i j place e f. absurd (none_some place (sym (no-place n i) ∙ e));
  room = omega (arith, length-replicate n Nowhere);
}
  where
    none_some : (n : ℕ) → Nowhere ≡ At n → ⊥
    none_some n e = cc

pub none-kept : (places : List CopyPlace) (pages : List (List ℕ)) (capacity n : ℕ) → places ≡ replicate n Nowhere
    → pages
    ≡ [] → capacity ≡ n → AreCopies places pages capacity
none-kept places pages capacity n blank_page empty room =
    subst (λ (ps : List CopyPlace). AreCopies ps pages capacity) (sym blank_page)
    (subst (λ (ps : List (List ℕ)). AreCopies (replicate n Nowhere) ps capacity) (sym empty)
    (subst (λ (c : ℕ). AreCopies (replicate n Nowhere) [] c) (sym room) (no-copies n)))

module _ (f g : CopyPlace → List ℕ) where
  same-copies : (places : List CopyPlace) → ((j : ℕ) → f (copy_place places j) ≡ g (copy_place places j)) → map f places
      ≡ map g places
  same-copies [] same = refl
  same-copies (place ∷ places) same = ap (λ page. page ∷ map f places) (same 0)
      ∙ ap (λ pages. g place ∷ pages) (same-copies places (λ j. same (suc j)))

  other-copy : (places : List CopyPlace) (i : ℕ) (page : List ℕ) → i < length places
      → ((j : ℕ) → j ≢ i → f (copy_place places j) ≡ g (copy_place places j)) → f (copy_place places i) ≡ page
      → map f places ≡ set (map g places) i page
  other-copy [] i page inside same is = absurd (omega arith)
  other-copy (place ∷ places) zero page inside same is =
      ap (λ x. x ∷ map f places) is
      ∙ ap (λ pages. page ∷ pages) (same-copies places (λ j. same (suc j) (λ e. omega (arith, e))))
  other-copy (place ∷ places) (suc i) page inside same is =
      ap (λ x. x ∷ map f places) (same 0 (λ e. omega (arith, e)))
      ∙ ap (λ pages. g place ∷ pages)
      (other-copy places i page (omega arith) (λ j other. same (suc j) (λ e. other (omega (arith, e)))) is)

module _ (places : List CopyPlace) (pages : List (List ℕ)) (capacity i : ℕ) (page : List ℕ)
    (it : AreCopies places pages capacity) (inside : i < length places) where
  some_inj : (m n : ℕ) → At m ≡ At n → m ≡ n
  some_inj m n e = cc

  -- ---- over its copy

  module _ (at : ℕ) (here : copy_place places i ≡ At at) where
    pub over-kept : AreCopies places (set pages at page) capacity
    over-kept = record {
      count = length-set pages at page ∙ it.count;
      within = λ j place e. omega (arith, it.within j place e, length-set pages at page);
      apart = it.apart;
      room = it.room;
    }

    pub over-view : map (copy_at (set pages at page)) places ≡ set (map (copy_at pages) places) i page
    over-view = other-copy (copy_at (set pages at page)) (copy_at pages) places i page inside
        (λ j other. elsewhere j other (copy_place places j) refl)
        (ap (copy_at (set pages at page)) here ∙ get_or-set_same pages at page blank_page (it.within i at here))
      where
        elsewhere : (j : ℕ) → j ≢ i → (place : CopyPlace) → copy_place places j ≡ place
            → copy_at (set pages at page) place
            ≡ copy_at pages place
        elsewhere j other Nowhere e = refl
        elsewhere j other (At place) e =
            get_or-set_other pages at place page blank_page
            (λ same. other (it.apart j i place e (here ∙ ap At (sym same))))

  -- ---- behind the others

  module _ (none : copy_place places i ≡ Nowhere) where
    abbrev next : ℕ
    next = length pages

    none_some : (n : ℕ) → Nowhere ≡ At n → ⊥
    none_some n e = cc

    there : copy_place (set places i (At next)) i ≡ At next
    there = get_or-set_same places i (At next) Nowhere inside

    elsewhere : (j : ℕ) → j ≢ i → copy_place (set places i (At next)) j ≡ copy_place places j
    elsewhere j other = get_or-set_other places i j (At next) Nowhere other

    within : (j place : ℕ) → copy_place (set places i (At next)) j ≡ At place → place < length pages + 1
    within j place e = ⊎_elim
        (λ (same : j ≡ i). let is = some_inj next place
        (sym there ∙ ap (copy_place (set places i (At next))) (sym same) ∙ e) in omega (arith, is))
        (λ (other : j ≢ i). omega (arith, it.within j place (sym (elsewhere j other) ∙ e)))
        (cases_eq j i)

    -- another page's place is an earlier one
    earlier : (j place : ℕ) → j ≢ i → copy_place (set places i (At next)) j ≡ At place → place < length pages
    earlier j place other e = it.within j place (sym (elsewhere j other) ∙ e)

    last : (j place : ℕ) → j ≡ i → copy_place (set places i (At next)) j ≡ At place → place ≡ length pages
    last j place same e =
        sym (some_inj next place (sym there ∙ ap (copy_place (set places i (At next))) (sym same) ∙ e))

    apart : (j k place : ℕ) → copy_place (set places i (At next)) j ≡ At place → copy_place (set places i (At next)) k
        ≡ At place → j ≡ k
    apart j k place ej ek = ⊎_elim
        (λ (same : j ≡ i). ⊎_elim
        (λ (also : k ≡ i). same ∙ sym also)
        (λ (other : k ≢ i). absurd (omega (arith, last j place same ej, earlier k place other ek)))
        (cases_eq k i))
        (λ (other : j ≢ i). ⊎_elim
        (λ (same : k ≡ i). absurd (omega (arith, last k place same ek, earlier j place other ej)))
        (λ (also : k ≢ i). it.apart j k place (sym (elsewhere j other) ∙ ej) (sym (elsewhere k also) ∙ ek))
        (cases_eq k i))
        (cases_eq j i)

    pub behind-kept : (more : ℕ) → capacity ≤ more → AreCopies (set places i (At next)) (pages ++ page ∷ []) more
    behind-kept more grown = record {
      count = length_push pages page ∙ ap (λ n. n + 1) it.count ∙ sym (taken-set places i next inside none);
      within = λ j place e. omega (arith, within j place e, length_push pages page);
      apart = apart;
      room = omega (arith, it.room, length-set places i (At next), grown);
    }

    pub behind-view : map (copy_at (pages ++ page ∷ [])) (set places i (At next))
        ≡ set (map (copy_at pages) places) i page
    behind-view =
        map-set (copy_at (pages ++ page ∷ [])) places i (At next)
        ∙ ap (set (map (copy_at (pages ++ page ∷ [])) places) i) (get_or_at pages page [] blank_page next refl)
        ∙ ap (λ (all : List (List ℕ)). set all i page)
        (same-copies (copy_at (pages ++ page ∷ [])) (copy_at pages) places (λ j. before j (copy_place places j) refl))
      where
        before : (j : ℕ) (place : CopyPlace) → copy_place places j ≡ place → copy_at (pages ++ page ∷ []) place
            ≡ copy_at pages place
        before j Nowhere e = refl
        before j (At place) e = get_or_append_left pages (page ∷ []) blank_page place (it.within j place e)

    pub has-room : length pages < capacity
    has-room = omega (arith, it.count, it.room, taken-room places i inside none)
