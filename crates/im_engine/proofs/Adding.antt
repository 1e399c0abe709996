-- The pages that the members of a group add to those that changed.
use Rattle.std.proofs.Common.{◌≡◌, ℕ, suc, ◌+◌, ◌<◌, ◌≤◌, Bool, true, false, List, [], ◌∷◌, ◌++◌, length, get_or, drop}
use Rattle.std.proofs.Common.{if◌then◌else◌, sym, refl, ap, ◌∙◌, true≢false, arith}
use Rattle.std.proofs.Math.Seq.{drop-cons}
use Rattle.im_types.specs.Types.{Command, Contents}
use Rattle.{im_pages.specs.PageSets.IsWithin, im_pages.specs.PageSets.size_of, im_memory.specs.Covering.most_pages}
use Rattle.im_groups.specs.Commands.{commands_at, contents_with, most_pages_at, most_pages_with, places_behind}
use Rattle.im_groups.specs.Commands.{takes_place}
use Rattle.im_checkpoint.specs.{Step.Changed, Turns.AddsAtMost}

-- ---- nothing is added

size_within : (old new : List Bool) → length new ≡ length old → IsWithin old new → size_of old ≤ size_of new
size_within [] new same within = omega arith
size_within (b ∷ old) [] same within = absurd (omega (arith, same))
size_within (true ∷ old) (true ∷ new) same within =
    let rest = size_within old new (omega (arith, same)) (λ page there. within (suc page) there) in omega (arith, rest)
size_within (true ∷ old) (false ∷ new) same within = absurd (true≢false (sym (within 0 refl)))
size_within (false ∷ old) (true ∷ new) same within =
    let rest = size_within old new (omega (arith, same)) (λ page there. within (suc page) there) in omega (arith, rest)
size_within (false ∷ old) (false ∷ new) same within =
    size_within old new (omega (arith, same)) (λ page there. within (suc page) there)

same_set : (old new : List Bool) → length new ≡ length old → IsWithin old new → size_of new ≤ size_of old → new ≡ old
same_set [] [] same within few = refl
same_set [] (c ∷ new) same within few = absurd (omega (arith, same))
same_set (b ∷ old) [] same within few = absurd (omega (arith, same))
same_set (true ∷ old) (true ∷ new) same within few = ap (λ (l : List Bool). true ∷ l)
    (same_set old new (omega (arith, same)) (λ page there. within (suc page) there) (omega (arith, few)))
same_set (true ∷ old) (false ∷ new) same within few = absurd (true≢false (sym (within 0 refl)))
same_set (false ∷ old) (true ∷ new) same within few =
    let rest = size_within old new (omega (arith, same)) (λ page there. within (suc page) there) in
    absurd (omega (arith, rest, few))
same_set (false ∷ old) (false ∷ new) same within few = ap (λ (l : List Bool). false ∷ l)
    (same_set old new (omega (arith, same)) (λ page there. within (suc page) there) few)

pub unchanged : (old new : Changed) → AddsAtMost 0 old new → new ≡ old
unchanged old new it =
    let recent : new.recent ≡ old.recent = same_set old.recent new.recent it.size it.kept (omega (arith, it.few)) in
    (λ i. record { recent = recent i; older = it.older i })

pub none_added : (x : Changed) → AddsAtMost 0 x x
none_added x = record { older = refl; size = refl; kept = λ page there. there; few = omega arith }

-- where no command is put, no page is named
pub none_named : (m : Contents) (left : ℕ) (cs : List Command) → commands_at m left cs ≡ []
    → most_pages_with m left cs ≡ 0
none_named m left [] none = refl
none_named m left (c ∷ cs) none = by_test (takes_place m left c) none
    (none_named (contents_with m left c) (places_behind m left c) cs)
  where
    by_test : (b : Bool)
        → (if b then c ∷ [] else []) ++ commands_at (contents_with m left c) (places_behind m left c) cs ≡ []
        → (commands_at (contents_with m left c) (places_behind m left c) cs ≡ []
        → most_pages_with (contents_with m left c) (places_behind m left c) cs ≡ 0)
        → (if b then most_pages m c else 0) + most_pages_with (contents_with m left c) (places_behind m left c) cs ≡ 0
    by_test true some rest = absurd (cc)
    by_test false none rest = omega (arith, rest none)

-- ---- the members so far, of whom so many pages are still to come at most

pub record AddsSoFar (left all : ℕ) (old new : Changed) : Type 0 where
  pub older : new.older ≡ old.older
  pub size : length new.recent ≡ length old.recent
  pub kept : IsWithin old.recent new.recent
  pub few : size_of new.recent + left ≤ size_of old.recent + all

-- one member more
pub adds_next : (m : Contents) (left : ℕ) (rs : List Command) (i : ℕ) (d : Command) (m2 : Contents) (left2 all : ℕ)
    (old mid new : Changed) → i < length rs
    → m2 ≡ contents_with m left (get_or rs i d) → left2 ≡ places_behind m left (get_or rs i d)
    → AddsSoFar (most_pages_with m left (drop i rs)) all old mid
    → AddsAtMost (most_pages_at m left (get_or rs i d)) mid new
    → AddsSoFar (most_pages_with m2 left2 (drop (i + 1) rs)) all old new
adds_next m left rs i d m2 left2 all old mid new within contents less it more = record {
  older = more.older ∙ it.older;
  size = more.size ∙ it.size;
  kept = λ page there. more.kept page (it.kept page there);
  few = omega (arith, it.few, more.few, parts);
}
  where
    parts : most_pages_with m left (drop i rs)
        ≡ most_pages_at m left (get_or rs i d) + most_pages_with m2 left2 (drop (i + 1) rs)
    parts =
        let next : suc i ≡ i + 1 = omega arith in
        ap (λ (l : List Command). most_pages_with m left l) (drop-cons rs i d within)
        ∙ ap (λ (n : ℕ). most_pages_with m left (get_or rs i d ∷ drop n rs)) next
        ∙ ap (λ (n : Contents). most_pages_at m left (get_or rs i d)
        + most_pages_with n (places_behind m left (get_or rs i d)) (drop (i + 1) rs)) (sym contents)
        ∙ ap (λ (n : ℕ). most_pages_at m left (get_or rs i d) + most_pages_with m2 n (drop (i + 1) rs)) (sym less)
