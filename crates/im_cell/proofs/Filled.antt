-- A list in which some elements are made the same, one after the other.
use Rattle.std.proofs.Common.{ℕ, ◌+◌, ◌<◌, ◌≤◌, List, length, set, slice_index_or, refl, ap, ◌∙◌, inl, inr, arith}
use Rattle.std.proofs.Common.{get_or-set_other, get_or-set_same}
use Rattle.std.proofs.lemmas.Bool.{cases_eq}
use Rattle.im_cell.specs.Cells.{IsFilled}

module _ {X : Type 0} (d : X) (old : List X) where
  pub IsFilled-none : (from : ℕ) (x : X) → IsFilled d old old from from x
  IsFilled-none from x = record {
    each = λ k lo hi. absurd (omega arith);
    others = λ k out. refl;
  }

  pub IsFilled-more : (now : List X) (from k : ℕ) (x : X) → from ≤ k → k < length now → IsFilled d old now from k x
      → IsFilled d old (set now k x) from (k + 1) x
  IsFilled-more now from k x lo inside f = record {
    each = λ i a b. elim (cases_eq i k) [
      | inl e ↦ ap (λ j. slice_index_or (set now k x) j d) e ∙ get_or-set_same now k x d inside
      | inr ne ↦ get_or-set_other now k i x d ne ∙ f.each i a (omega arith)
    ];
    others = λ i out. get_or-set_other now k i x d (λ e. out (omega arith) (omega arith))
        ∙ f.others i (λ a b. out a (omega arith));
  }

  pub IsFilled-upto : (now : List X) (from k to : ℕ) (x : X) → to ≤ k → (from < k → k ≤ to)
      → IsFilled d old now from k x → IsFilled d old now from to x
  IsFilled-upto now from k to x past within f = record {
    each = λ i a b. f.each i a (omega arith);
    others = λ i out. f.others i (λ a b. out a (let w = within (omega arith) in omega arith));
  }
