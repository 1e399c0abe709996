-- The cells that marks and numbers stand for.
use Rattle.std.proofs.Common.{◌≡◌, ℕ, zero, suc, pred, ◌+◌, ◌<◌, ◌≤◌, max, Bool, true, false, ◌⊎◌, List, [], ◌∷◌}
use Rattle.std.proofs.Common.{length, get_or, Some, None, Option, sym, refl, ap, ◌∙◌, subst, inl, inr, arith}
use Rattle.std.proofs.lemmas.{Bool.cases_lt, List.get_or_past}
use Rattle.im_laws.proofs.Tests.{true_or_false}
use Rattle.im_holes.proofs.Runs.{hole-at, IsHole-by, neither}
use Rattle.im_holes.specs.Holes.{begin_at, cell_in_run, cells_from, free_at, HasTags, is_free_cell, IsHole, kept_at}
use Rattle.im_holes.specs.Holes.{length_by, mark_at, told_cells}

-- the first n cells are free, and those of each mark
pub record Covers (n : ℕ) (free : ℕ → Bool) (begins : List Bool) (tags : List ℕ) : Type 0 where
  pub front : (k : ℕ) → k < n → free k ≡ true
  pub each : (k i : ℕ) → k ≤ i → i < k + begin_at begins tags k → free i ≡ true
  pub some : (k : ℕ) → free k ≡ true → (k < n) ⊎ ((h : ℕ) × (h ≤ k) × (k < h + begin_at begins tags h))

cell-free : (n t : ℕ) → 0 < n → cell_in_run n t ≡ None
cell-free zero t some = absurd (omega arith)
cell-free (suc n) t some = refl

cell-held : (n t : ℕ) → n ≡ 0 → cell_in_run n t ≡ Some t
cell-held n t e = ap (λ m. cell_in_run m t) e

-- a cell, by whether it is free
abbrev pub cell_by : Bool → ℕ → Option ℕ
cell_by true tag = None
cell_by false tag = Some tag

module _ (n : ℕ) (free : ℕ → Bool) (b : Bool) (begins : List Bool) (t : ℕ) (tags : List ℕ)
    (c : Covers n free (b ∷ begins) (t ∷ tags)) where
  Covers-here : cell_in_run (max n (length_by b t)) t ≡ cell_by (free 0) t
  Covers-here = elim (true_or_false (free 0)) [
    | inl is ↦ cell-free (max n (length_by b t)) t (elim (c.some 0 is) [
      | inl less ↦ omega arith
      | inr h ↦ let z : h.0 ≡ 0 = (let l = h.1 in omega arith) in
          let e = ap (begin_at (b ∷ begins) (t ∷ tags)) z in let l = h.2 in omega arith
    ]) ∙ sym (ap (λ f. cell_by f t) is)
    | inr not_so ↦ cell-held (max n (length_by b t)) t (elim (cases_lt 0 (max n (length_by b t))) [
      | inr none ↦ omega arith
      | inl some ↦ elim (cases_lt 0 n) [
        | inl less ↦ absurd (neither (c.front 0 less) not_so)
        | inr more ↦ absurd (neither (c.each 0 0 (omega arith) (omega arith)) not_so)
      ]
    ]) ∙ sym (ap (λ f. cell_by f t) not_so)
  ]

  Covers-tail : Covers (pred (max n (length_by b t))) (λ k. free (suc k)) begins tags
  Covers-tail = record {
    front = λ k less. elim (cases_lt (suc k) n) [
      | inl low ↦ c.front (suc k) low
      | inr high ↦ c.each 0 (suc k) (omega arith) (omega arith)
    ];
    each = λ k i lo hi. c.each (suc k) (suc i) (omega arith) (omega arith);
    some = λ k is. elim (c.some (suc k) is) [
      | inl less ↦ inl (omega arith)
      | inr h ↦ by_first k h.0 h.1 h.2
    ];
  }
    where
      by_first : (k h : ℕ) → h ≤ suc k → suc k < h + begin_at (b ∷ begins) (t ∷ tags) h
          → (k < pred (max n (length_by b t))) ⊎ ((h : ℕ) × (h ≤ k) × (k < h + begin_at begins tags h))
      by_first k zero lo hi = inl (omega arith)
      by_first k (suc h) lo hi = inr (h, omega arith, omega arith)

-- each cell
pub get-from : (n : ℕ) (free : ℕ → Bool) (begins : List Bool) (tags : List ℕ) → length begins ≡ length tags
    → Covers n free begins tags → (k : ℕ) (d : Option ℕ) → k < length tags
    → get_or (cells_from n begins tags) k d ≡ cell_by (free k) (kept_at tags k)
get-from n free [] tags long c k d less = absurd (omega arith)
get-from n free (b ∷ begins) [] long c k d less = absurd (omega arith)
get-from n free (b ∷ begins) (t ∷ tags) long c zero d less = Covers-here n free b begins t tags c
get-from n free (b ∷ begins) (t ∷ tags) long c (suc k) d less =
    get-from (pred (max n (length_by b t))) (λ k. free (suc k)) begins tags (omega arith)
    (Covers-tail n free b begins t tags c) k d (omega arith)

length-from : (n : ℕ) (begins : List Bool) (tags : List ℕ) → length begins ≡ length tags
    → length (cells_from n begins tags) ≡ length tags
length-from n [] [] long = refl
length-from n [] (t ∷ tags) long = absurd (omega arith)
length-from n (b ∷ begins) [] long = absurd (omega arith)
length-from n (b ∷ begins) (t ∷ tags) long =
    ap suc (length-from (pred (max n (length_by b t))) begins tags (omega arith))

pub length-cells : (begins : List Bool) (tags : List ℕ) → length begins ≡ length tags
    → length (told_cells begins tags) ≡ length tags
unfolding told_cells
length-cells begins tags long = length-from 0 begins tags long

-- what begins at a cell, by its mark
pub begin-own : (begins : List Bool) (tags : List ℕ) (k : ℕ) → mark_at begins k ≡ true
    → begin_at begins tags k ≡ kept_at tags k
begin-own begins tags k e = ap (λ b. length_by b (kept_at tags k)) e

pub begin-none : (begins : List Bool) (tags : List ℕ) (k : ℕ) → mark_at begins k ≡ false → begin_at begins tags k ≡ 0
begin-none begins tags k e = ap (λ b. length_by b (kept_at tags k)) e

-- a hole is the length at its first cell
pub begin-hole : (free : ℕ → Bool) (begins : List Bool) (tags : List ℕ) (base n : ℕ) → HasTags free begins tags
    → IsHole free base n → begin_at begins tags base ≡ n
begin-hole free begins tags base n t h = begin-own begins tags base (t.mark base n h) ∙ t.first base n h

-- and such a length is a hole
pub hole-begins : (free : ℕ → Bool) (begins : List Bool) (tags : List ℕ) (base : ℕ) → HasTags free begins tags
    → 0 < begin_at begins tags base → IsHole free base (begin_at begins tags base)
hole-begins free begins tags base t some = elim (true_or_false (mark_at begins base)) [
  | inl is ↦ subst (IsHole free base) (sym (begin-own begins tags base is)) (t.own base is)
  | inr not_so ↦ let z = begin-none begins tags base not_so in absurd (omega arith)
]

Covers-tags : (free : ℕ → Bool) (begins : List Bool) (tags : List ℕ) → HasTags free begins tags
    → Covers 0 free begins tags
Covers-tags free begins tags t = record {
  front = λ k less. absurd (omega arith);
  each = λ k i lo hi. (hole-begins free begins tags k t (omega arith)).each i lo hi;
  some = λ k is. let r = hole-at free (length tags) t.past k is in
      inr (r.base, r.low, (let e = begin-hole free begins tags r.base r.n t r.is in let u = r.high in omega arith));
}

module _ (free : ℕ → Bool) (begins : List Bool) (tags : List ℕ) (long : length begins ≡ length tags)
    (t : HasTags free begins tags) where
  -- a cell is free where it is told to be
  pub get-cells : (k : ℕ) (d : Option ℕ) → k < length tags → get_or (told_cells begins tags) k d ≡ cell_by (free k)
      (kept_at tags k)
  unfolding told_cells
  get-cells k d less = get-from 0 free begins tags long (Covers-tags free begins tags t) k d less

  pub free-cells : (k : ℕ) → free_at (told_cells begins tags) k ≡ free k
  free-cells k = elim (cases_lt k (length tags)) [
    | inl less ↦ ap is_free_cell (get-cells k (Some 0) less) ∙ told (free k) (kept_at tags k)
    | inr past ↦ ap is_free_cell (get_or_past (told_cells begins tags) k (Some 0) (omega
        (arith, length-cells begins tags long)))
        ∙ sym (t.past k past)
  ]
    where
      told : (b : Bool) (n : ℕ) → is_free_cell (cell_by b n) ≡ b
      told true n = refl
      told false n = refl

  pub HasTags-shown : HasTags (free_at (told_cells begins tags)) begins tags
  HasTags-shown = record {
    own = λ k e. IsHole-by free (free_at (told_cells begins tags)) (λ k. sym (free-cells k)) k (kept_at tags k)
        (t.own k e);
    mark = λ base n h. t.mark base n (back base n h);
    first = λ base n h. t.first base n (back base n h);
    last = λ base n h. t.last base n (back base n h);
    past = λ k past. free-cells k ∙ t.past k past;
  }
    where
      back : (base n : ℕ) → IsHole (free_at (told_cells begins tags)) base n → IsHole free base n
      back base n h = IsHole-by (free_at (told_cells begins tags)) free free-cells base n h
