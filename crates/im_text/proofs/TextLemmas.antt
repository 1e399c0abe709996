-- Texts of lines, one after another. (Own.)
use Rattle.std.proofs.Common.{◌≡◌, ℕ, suc, ◌+◌, List, [], ◌++◌, sym, refl, ap, ◌∙◌, append_assoc, append-nil, arith}
use Rattle.im_text.specs.Texts.{texts_below}

-- nothing is below 0
texts_none : {A : Type 0} (text : ℕ → List A) → texts_below text 0 ≡ []
unfolding texts_below
texts_none text = refl

module _ {A : Type 0} (text : ℕ → List A) (n : ℕ) where
  -- one text more
  texts_more : texts_below text (n + 1) ≡ texts_below text n ++ text n
  unfolding texts_below
  texts_more = let e : n + 1 ≡ suc n = omega arith in ap (texts_below text) e

  -- one text more is written
  pub written_more : (start was now : List A) → was ≡ start ++ texts_below text n → now ≡ was ++ text n
      → now ≡ start ++ texts_below text (n + 1)
  written_more start was now before added = added ∙ ap (λ xs. xs ++ text n) before
      ∙ append_assoc start (texts_below text n) (text n) ∙ ap (λ xs. start ++ xs) (sym texts_more)

-- at the start nothing is written
pub written_none : {A : Type 0} (text : ℕ → List A) (start : List A) → start ≡ start ++ texts_below text 0
written_none text start = sym (ap (λ xs. start ++ xs) (texts_none text) ∙ append-nil start)

-- the same if the numbers of the texts are given in another form
pub written_none_at : {A : Type 0} (text : ℕ → List A) (n : ℕ) (start : List A) → n ≡ 0
    → start ≡ start ++ texts_below text n
written_none_at text n start none = written_none text start ∙ ap (λ n. start ++ texts_below text n) (sym none)

pub written_more_at : {A : Type 0} (text : ℕ → List A) (n next : ℕ) (start was now : List A) → next ≡ n + 1
    → was ≡ start ++ texts_below text n → now ≡ was ++ text n → now ≡ start ++ texts_below text next
written_more_at text n next start was now one before added =
    written_more text n start was now before added ∙ ap (λ n. start ++ texts_below text n) (sym one)
