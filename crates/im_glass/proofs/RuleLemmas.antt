-- Each move keeps the rule of the two copies.
use Rattle.std.proofs.Common.{◌≡◌, ℕ, ◌≢◌, List, set, Some, sym, refl, ap, ◌∙◌, subst, ⊎_elim}
use Rattle.atomic_table.proofs.Lists.{at_set, at_snoc}
use Rattle.crossbeam_utils.specs.Register.{Admits, Forks, Merges, Turns, TurnsAt}
use Rattle.logbook.specs.Pages.{Book}
use Rattle.im_glass.specs.{Copies.History, Copies.IsKeptCopy, declared.copies.Copy.Copy, declared.rule.Known.Known}
use Rattle.im_glass.specs.Rule.{copy_state, IsKnownOf, IsShownCopy, newcomer, SeesShown}
use mathlib.Core.Option.{some}
use lib.ListN.{get_elem?}

none-known : (book : Book) → IsKnownOf newcomer book
none-known book s e = absurd (cc)

known-set : (book : Book) (knowns : List Known) (seat : ℕ) (now : Known)
    → ((j : ℕ) (u : Known) → get_elem? knowns j ≡ some u → IsKnownOf u book) → IsKnownOf now book
    → (j : ℕ) (u : Known) → get_elem? (set knowns seat now) j ≡ some u → IsKnownOf u book
known-set book knowns seat now others mine j u e =
    ⊎_elim (λ (t : (j ≡ seat) × (now ≡ u)). subst (λ (k : Known). IsKnownOf k book) t.1 mine)
    (λ (t : (j ≢ seat) × (get_elem? knowns j ≡ some u)). others j u t.1) (at_set knowns seat j now u e)

-- one more reader
pub admits : Admits IsShownCopy newcomer
admits copy knowns h = (
  h.0,
  λ seat known at. ⊎_elim (h.1 seat known)
      (λ (e : newcomer ≡ known). subst (λ (k : Known). IsKnownOf k copy.seen.book) e (none-known copy.seen.book))
      (at_snoc knowns newcomer known seat at),
)

-- a look, and a change of what is shown
pub moves : (seat : ℕ) (known : Known) (old new : Copy) → new.seen.book ≡ old.seen.book
    → (IsKeptCopy (copy_state old) → IsKeptCopy (copy_state new)) → TurnsAt IsShownCopy seat known old new SeesShown
moves seat known old new same keep knowns h at =
    let now : Known = record { seen = Some new.seen } in
    let kept = keep h.0 in (
      now,
      (
        kept,
        known-set new.seen.book knowns seat now (λ j u e s is. h.1 j u e s is ∙ sym same)
            (λ s e. let q : new.seen ≡ s = cc e in ap (λ (z : History). z.book) (sym q)),
      ),
      (refl, kept, λ s e. h.1 seat known at s e ∙ sym same),
    )

pub looks : (seat : ℕ) (known : Known) → Turns IsShownCopy seat known (λ copy. copy) SeesShown
looks seat known copy = moves seat known copy copy refl (λ k. k)

-- a note is cut off, and taken in
pub forks : (seat : ℕ) (known : Known) → Forks IsShownCopy seat known known known
forks seat known copy knowns h at = (
  h.0,
  λ j u e.
      ⊎_elim (known-set copy.seen.book knowns seat known h.1 (h.1 seat known at) j u)
      (λ (same : known ≡ u). subst (λ (k : Known). IsKnownOf k copy.seen.book) same (h.1 seat known at))
      (at_snoc (set knowns seat known) known u j e),
)

pub merges : (seat : ℕ) (known : Known) (other : ℕ) (note : Known)
    → Merges IsShownCopy seat known other note note newcomer
merges seat known other note copy knowns h at apart there =
    let theirs = ⊎_elim (λ (t : (other ≡ seat) × (note ≡ note)). absurd (apart t.0))
    (λ (t : (other ≢ seat) × (get_elem? knowns other ≡ some note)). h.1 other note t.1)
    (at_set knowns seat other note note there) in (
      h.0,
      λ j y e. known-set copy.seen.book (set knowns seat note) other newcomer
          (known-set copy.seen.book knowns seat note h.1 theirs) (none-known copy.seen.book) j y e,
    )
