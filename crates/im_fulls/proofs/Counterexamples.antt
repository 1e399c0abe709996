-- The law of groups says no more than it does: with a case more of what may stand before a request, it fails at a
-- memory and at requests that are written out here. And a group meets its premise.
use Rattle.std.proofs.Common.{◌≡◌, ℕ, ◌≢◌, List, [], ◌∷◌, refl, ap}
use Rattle.std.specs.List.{AllByRecursion}
use Rattle.im_types.specs.Types.{Op, I, Alloc, Release, Fetch, Store, Base, Request, Asks, Contents, empty_contents}
use Rattle.im_types.specs.Types.{end_of, changes_at, Change, Fills, Same, Gone}
use Rattle.im_types.proofs.Tests.{differ}
use Rattle.im_laws.specs.Examples.{asks, sixteen_cells, told_reply, told_waits}
use Rattle.im_fulls.specs.Groups.{after_requests, AreBefore}

abbrev request : ℕ → ℕ → Op → Request
request element number op = record { element = element; number = number; op = op }

-- one cell, empty; and one that a reader waits for
abbrev one_cell : Contents
one_cell = end_of sixteen_cells (asks 0 1 (Alloc I 1) (told_reply (Base 0)) ∷ [])

abbrev one_reader : Contents
one_reader = end_of sixteen_cells (asks 0 1 (Alloc I 1) (told_reply (Base 0)) ∷ asks 1 1 (Fetch 0) told_waits ∷ [])

-- what is read from a change, so that two can be told apart
abbrev kind_of : List Change → ℕ
kind_of [] = 9
kind_of (Same ∷ changes) = 0
kind_of (Fills a v ∷ changes) = 1
kind_of (Gone a n ∷ changes) = 2

-- the law of groups, of any requests of other elements
abbrev KnownBefore : Type 0
KnownBefore = (m : Contents) (earlier : List Request) (r : Request)
    → AllByRecursion (λ e. r.element ≢ e.element) earlier
    → changes_at (after_requests m earlier) (Asks r) ≡ changes_at m (Asks r)

-- Two stores to one address: the second empties what the first filled.
second_store_is_not_known : KnownBefore → ⊥
unfolding empty_contents
second_store_is_not_known law = differ 2 1 refl
    (ap kind_of (law one_cell (request 1 1 (Store 0 5) ∷ []) (request 2 1 (Store 0 6)) ((λ e. differ 2 1 refl e), tt)))

-- A store behind an allocation: there was no cell.
store_in_a_new_block_is_not_known : KnownBefore → ⊥
unfolding empty_contents
store_in_a_new_block_is_not_known law = differ 1 0 refl
    (ap kind_of (law sixteen_cells (request 0 1 (Alloc I 1) ∷ []) (request 1 1 (Store 0 5))
    ((λ e. differ 1 0 refl e), tt)))

-- A store behind a release: there is no cell any more.
store_in_a_released_block_is_not_known : KnownBefore → ⊥
unfolding empty_contents
store_in_a_released_block_is_not_known law = differ 0 1 refl
    (ap kind_of (law one_cell (request 0 2 (Release 0) ∷ []) (request 1 1 (Store 0 5)) ((λ e. differ 1 0 refl e), tt)))

-- A release behind the store that its reader waited for: it is answered with Released, and not with StillWaiting.
release_is_not_known : KnownBefore → ⊥
unfolding empty_contents
release_is_not_known law = differ 2 0 refl
    (ap kind_of (law one_reader (request 2 1 (Store 0 5) ∷ []) (request 0 2 (Release 0))
    ((λ e. differ 0 2 refl e), tt)))

-- A fetch and a store to another address may stand before a store.
a_group_is_known : AreBefore (request 1 1 (Fetch 0) ∷ request 2 1 (Store 1 6) ∷ []) (request 3 1 (Store 0 5))
a_group_is_known = (((λ e. differ 3 1 refl e), tt), (((λ e. differ 3 2 refl e), λ e. differ 1 0 refl e), tt))
