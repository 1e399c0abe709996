-- Texts by index, one after another: if two such rows are the same text, so are their parts. (Own.)
use Rattle.std.proofs.Common.{◌≡◌, ℕ, zero, suc, ◌+◌, ◌<◌, ◌≤◌, List, [], ◌∷◌, ◌++◌, slice_get, Some, None, sym, refl}
use Rattle.std.proofs.Common.{ap, ◌∙◌, subst, ap₂, inl, inr, append_assoc, append-nil, arith}
use Rattle.std.proofs.lemmas.Bool.{cases_lt}
use Rattle.im_text.{proofs.TextLemmas.written_none, specs.Texts.texts_below}

-- this many texts from an index on
abbrev pub texts_from : (ℕ → List ℕ) → ℕ → ℕ → List ℕ
texts_from f a zero = []
texts_from f a (suc n) = f a ++ texts_from f (suc a) n

one_below : (f : ℕ → List ℕ) (a : ℕ) → texts_below f (suc a) ≡ texts_below f a ++ f a
unfolding texts_below
one_below f a = refl

from_below : (n a : ℕ) (f : ℕ → List ℕ) → texts_below f a ++ texts_from f a n ≡ texts_below f (a + n)
from_below zero a f = let e : a ≡ a + 0 = omega arith in append-nil (texts_below f a) ∙ ap (texts_below f) e
from_below (suc n) a f =
    let e : suc a + n ≡ a + suc n = omega arith in
    sym (append_assoc (texts_below f a) (f a) (texts_from f (suc a) n))
    ∙ ap (λ xs. xs ++ texts_from f (suc a) n) (sym (one_below f a)) ∙ from_below n (suc a) f ∙ ap (texts_below f) e

-- all texts below an index, from the first one on
pub below_is : (f : ℕ → List ℕ) (n : ℕ) → texts_below f n ≡ texts_from f 0 n
below_is f n =
    let e : n ≡ 0 + n = omega arith in
    ap (texts_below f) e ∙ sym (from_below n 0 f) ∙ ap (λ xs. xs ++ texts_from f 0 n) (sym (written_none f []))

-- empty texts add nothing
pub below_more : (k n : ℕ) (f : ℕ → List ℕ) → ((i : ℕ) → n ≤ i → f i ≡ []) → texts_below f (n + k) ≡ texts_below f n
below_more zero n f none = let e : n + 0 ≡ n = omega arith in ap (texts_below f) e
below_more (suc k) n f none =
    let e : n + suc k ≡ suc (n + k) = omega arith in
    let past : n ≤ n + k = omega arith in
    ap (texts_below f) e ∙ one_below f (n + k) ∙ ap (λ xs. texts_below f (n + k) ++ xs) (none (n + k) past)
    ∙ append-nil (texts_below f (n + k)) ∙ below_more k n f none

-- what holds below an index and at it
one_more : (P : ℕ → Type 0) (a : ℕ) → ((i : ℕ) → i < a → P i) → P a → (i : ℕ) → i < suc a → P i
one_more P a below here i lt = elim (cases_lt i a) [
  | inl less ↦ below i less
  | inr ge ↦ (let same : a ≡ i = omega arith in subst P same here)
]

-- a part that begins no earlier text, and those behind it
ahead : (n a j : ℕ) (f : ℕ → List ℕ) (Ahead : ℕ → List ℕ → Type 0) (end : ℕ) (r : List ℕ) → ((a j : ℕ) (t : List ℕ)
    → j < a → a < end → Ahead j t → Ahead j (f a ++ t))
    → j < a → a + n ≤ end → Ahead j r → Ahead j (texts_from f a n ++ r)
ahead zero a j f Ahead end r later lt le h = h
ahead (suc n) a j f Ahead end r later lt le h =
    subst (Ahead j) (sym (append_assoc (f a) (texts_from f (suc a) n) r))
    (later a j (texts_from f (suc a) n ++ r) lt (omega arith) (ahead n (suc a) j f Ahead end r later (omega arith)
    (omega arith) h))

-- Ahead j t: no part with index j begins the text t. The parts of both rows are cut off one after another.
module _ (f g : ℕ → List ℕ) (Ahead : ℕ → List ℕ → Type 0) (P : ℕ → Type 0) (end : ℕ)
    (later_f : (a j : ℕ) (t : List ℕ) → j < a → a < end → Ahead j t → Ahead j (f a ++ t))
    (later_g : (a j : ℕ) (t : List ℕ) → j < a → a < end → Ahead j t → Ahead j (g a ++ t))
    (cut : (j : ℕ) (t u : List ℕ) → j < end → ((i : ℕ) → i < j → P i) → Ahead j t → Ahead j u → f j ++ t ≡ g j ++ u
    → P j × (t ≡ u)) where
  pub in_step : (n a : ℕ) (r u : List ℕ) → a + n ≡ end → ((j : ℕ) → Ahead j r) → ((j : ℕ) → Ahead j u) → ((i : ℕ)
      → i < a → P i)
      → texts_from f a n ++ r ≡ texts_from g a n ++ u → ((i : ℕ) → i < end → P i) × (r ≡ u)
  in_step zero a r u is h k so_far e = ((λ i lt. so_far i (omega arith)), e)
  in_step (suc n) a r u is h k so_far e =
      let here : P a × (texts_from f (suc a) n ++ r ≡ texts_from g (suc a) n ++ u) =
      cut a (texts_from f (suc a) n ++ r) (texts_from g (suc a) n ++ u) (omega arith) so_far
      (ahead n (suc a) a f Ahead end r later_f (omega arith) (omega arith) (h a)) (ahead n (suc a) a g Ahead end u
      later_g (omega arith) (omega arith) (k a))
      (sym (append_assoc (f a) (texts_from f (suc a) n) r) ∙ e ∙ append_assoc (g a) (texts_from g (suc a) n) u) in
      in_step n (suc a) r u (omega arith) h k (one_more P a so_far here.0) here.1

-- lists with the same elements are the same
pub lists_by_get : {X : Type 0} (xs ys : List X) → ((i : ℕ) → slice_get xs i ≡ slice_get ys i) → xs ≡ ys
lists_by_get [] [] same = refl
lists_by_get [] (y ∷ ys) same = let e : None ≡ Some y = same 0 in absurd (cc)
lists_by_get (x ∷ xs) [] same = let e : Some x ≡ None = same 0 in absurd (cc)
lists_by_get (x ∷ xs) (y ∷ ys) same =
    let front : Some x ≡ Some y = same 0 in
    let rest : xs ≡ ys = lists_by_get xs ys (λ i. same (suc i)) in
    cc

-- what is made of the same three things is the same
pub three_same : {A B C D : Type 0} (f : A → B → C → D) {a b : A} {c d : B} {k l : C} → a ≡ b → c ≡ d → k ≡ l
    → f a c k ≡ f b d l
three_same f {a} {b} {c} {d} {k} {l} p q r = ap₂ (λ x y. f x y k) p q ∙ ap (f b d) r
