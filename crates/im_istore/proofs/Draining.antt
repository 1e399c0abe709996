-- Readers taken off a list one by one.
use Rattle.std.proofs.Common.{◌≡◌, ℕ, ◌<◌, List, [], ◌∷◌, ◌++◌, length, drop, slice_get, Some, None, sym, refl, ap, ◌∙◌}
use Rattle.std.proofs.Common.{append_assoc, length-set, set-set}
use Rattle.im_types.specs.Types.{Reply, Waiter}
use Rattle.im_arena.specs.Lists.{list_at, Lists, Shown, with_list}
use Rattle.im_istore.proofs.Cells.{list_at-same, with_list-same}
use Rattle.im_istore.specs.Access.{askers_of, replies_to}

abbrev with_lists : Lists → List (List Waiter) → Lists
with_lists held lists = record { nodes = held.nodes; lists = lists }

front_is : (waiters : List Waiter) (first : Waiter) → Some first ≡ slice_get waiters 0 → waiters
    ≡ first ∷ drop 1 waiters
front_is [] first e = absurd (cc)
front_is (waiter ∷ waiters) first e = let same : waiter ≡ first = cc in ap (λ w. w ∷ waiters) same

pub no_front : (waiters : List Waiter) → None ≡ slice_get waiters 0 → waiters ≡ []
no_front [] e = refl
no_front (waiter ∷ waiters) e = absurd (cc)

-- the first reader is off the list
pub record IsOff (arena new : Shown) (a : ℕ) (reader : Waiter) : Type 0 where
  pub count : length new.held.lists ≡ length arena.held.lists
  pub front : list_at arena.held a ≡ reader ∷ list_at new.held a
  pub rest : with_list new.held a [] ≡ with_list arena.held a []

pub off : (arena new : Shown) (a : ℕ) (reader : Waiter) → a < length arena.held.lists → Some reader
    ≡ slice_get (list_at arena.held a) 0
    → new.held ≡ with_list arena.held a (drop 1 (list_at arena.held a)) → IsOff arena new a reader
off arena new a reader inside first e = record {
  count = ap (λ (h : Lists). length h.lists) e ∙ length-set arena.held.lists a (drop 1 (list_at arena.held a));
  front = front_is (list_at arena.held a) reader first
      ∙ ap (λ waiters. reader ∷ waiters) (sym (list_at-same arena new a _ e inside));
  rest = ap (λ h. with_list h a []) e
      ∙ ap (with_lists arena.held) (set-set arena.held.lists a (drop 1 (list_at arena.held a)) []);
}

pub moved : (before left old : List Waiter) (reader : Waiter) → old ≡ reader ∷ left → (before ++ reader ∷ []) ++ left
    ≡ before ++ old
moved before left old reader e = append_assoc before (reader ∷ []) left ∙ ap (λ waiters. before ++ waiters) (sym e)

-- no reader is left
pub emptied : (arena : Shown) (a : ℕ) → list_at arena.held a ≡ [] → arena.held ≡ with_list arena.held a []
emptied arena a none = with_list-same arena.held a ∙ ap (with_list arena.held a) none

-- those who get the replies to these waiters are these waiters
pub askers_of-replies : (waiters : List Waiter) (v : ℕ) → askers_of (replies_to waiters v) ≡ waiters
askers_of-replies [] v = refl
askers_of-replies (waiter ∷ waiters) v = ap (λ others. waiter ∷ others) (askers_of-replies waiters v)

-- so each of these replies is to one of them
pub resumed_are : (waiters : List Waiter) (v : ℕ) (replies : List (Waiter × Reply)) → replies ≡ replies_to waiters v
    → (askers_of replies ≡ waiters) × (replies ≡ replies_to (askers_of replies) v)
resumed_are waiters v replies e =
    let same : askers_of replies ≡ waiters = ap askers_of e ∙ askers_of-replies waiters v in
    (same, e ∙ ap (λ ws. replies_to ws v) (sym same))

-- behind those who were there
pub behind : (before after waiters : List Waiter) (v : ℕ) (replies : List (Waiter × Reply)) → replies
    ≡ replies_to waiters v → after ≡ before ++ waiters
    → after ≡ before ++ askers_of replies
behind before after waiters v replies e put = put ∙ ap (λ ws. before ++ ws) (sym (resumed_are waiters v replies e).0)
