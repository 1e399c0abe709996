-- What is kept of all cells, where some are taken and given back.
use Rattle.std.proofs.Common.{◌≡◌, ℕ, zero, suc, ◌+◌, ◌-◌, ◌*◌, ◌/◌, ◌^◌, ◌<◌, ◌≤◌, Bool, true, false, ◌≢◌, List, ◌∷◌}
use Rattle.std.proofs.Common.{length, get_or, set, replicate, is_some, if◌then◌else◌, IsSome, nat_lt, Some, None, sym}
use Rattle.std.proofs.Common.{refl, ap, ◌∙◌, subst, inl, inr, arith, length-set, get_or-set_other, get_or-set_same}
use Rattle.std.proofs.Common.{ext_get_or}
use Rattle.std.proofs.lemmas.Bool.{cases_eq, cases_lt, Decides.nat_tests}
use Rattle.std.proofs.lemmas.List.{get_or_past, length-replicate}
use Rattle.{im_types.specs.Types.place, im_laws.proofs.Tests.true_or_false}
use Rattle.im_holes.proofs.{Cuts.begin-past, Least.place-first, Least.place-none_first, Runs.neither}
use Rattle.im_holes.proofs.Nodes.{leaf-upto, leaves-some, lowest-root}
use Rattle.im_holes.proofs.Shown.{begin-none, begin-own, cell_by, get-cells, HasTags-shown, length-cells}
use Rattle.im_holes.specs.declared.tags.TheConstants.{PART}
use Rattle.im_holes.specs.Holes.{AreHoles, begin_at, cells_from, free_at, HasLeaf, HasTags, holder_at, IsHole}
use Rattle.im_holes.specs.Holes.{IsLargest, IsLeast, IsRenewed, kept_at, mark_at, told_cells}
use Rattle.im_holes.specs.Tree.{at_node, IsFirst, IsZeroTree, leaf_count}

-- the leaf of each cell is there
pub leaf-inside : (begins : List Bool) (tags nodes : List ℕ) (k : ℕ) → AreHoles begins tags nodes → k < length tags
    → k / PART < leaf_count nodes
leaf-inside begins tags nodes k h less = let i = h.inside in omega arith

-- the root is at least each length
pub begin-root : (begins : List Bool) (tags nodes : List ℕ) (k : ℕ) → AreHoles begins tags nodes
    → begin_at begins tags k ≤ at_node nodes 1
begin-root begins tags nodes k h = elim (cases_lt k (length tags)) [
  | inr past ↦ let z = begin-past begins tags k (omega (arith, h.count)) in omega arith
  | inl less ↦
      let j : ℕ = k / PART in
      let inside = leaf-inside begins tags nodes k h less in
      let over = (h.leaves (k / PART) inside).over k refl in
      let low = lowest-root h.height in
      let power = h.power in
      let root = leaf-upto nodes h.inner h.height 1 (leaf_count nodes + k / PART) (omega arith) (omega arith)
      (omega arith)
      (omega arith) (omega arith) in
      omega arith
]

pub root-inside : (begins : List Bool) (tags nodes : List ℕ) → AreHoles begins tags nodes → 1 < length nodes
root-inside begins tags nodes h = let s = leaves-some h.height in omega (arith, h.power, h.even)

-- no hole is long enough
pub place-no_hole : (begins : List Bool) (tags nodes : List ℕ) (n : ℕ) → AreHoles begins tags nodes → 0 < n
    → at_node nodes 1 < n → place n (told_cells begins tags) ≡ None
place-no_hole begins tags nodes n h some short =
    place-none_first (told_cells begins tags) begins tags h.own n some
    (λ k. let r = begin-root begins tags nodes k h in omega arith)

-- the first that is
pub place-hole : (begins : List Bool) (tags nodes : List ℕ) (n leaf at : ℕ) → AreHoles begins tags nodes → 0 < n
    → IsFirst nodes n leaf → IsLeast (begin_at begins tags) n leaf at → place n (told_cells begins tags) ≡ Some at
place-hole begins tags nodes n leaf at h some first least =
    place-first (told_cells begins tags) begins tags h.own n some at least.room (λ k less. elim (cases_eq
    (k / PART) leaf) [
      | inl e ↦ least.before k e less
      | inr ne ↦
          let i = least.inside in let j = first.inside in
          let below : k / PART < leaf = omega arith in
          let over = (h.leaves (k / PART) (omega arith)).over k refl in
          let b = first.before (k / PART) below in omega arith
    ])

-- a function that tells another one, changed over some cells
abbrev pub within : ℕ → ℕ → ℕ → Bool
within base n k = if nat_lt k base then false else nat_lt k (base + n)

abbrev pub patched : (ℕ → Bool) → ℕ → ℕ → Bool → ℕ → Bool
patched f base n b k = if within base n k then b else f k

pub lt-yes : (a b : ℕ) → a < b → nat_lt a b ≡ true
lt-yes a b less = grind (arith, nat_tests)

pub lt-not : (a b : ℕ) → b ≤ a → nat_lt a b ≡ false
lt-not a b le = grind (arith, nat_tests)

within-in : (base n k : ℕ) → base ≤ k → k < base + n → within base n k ≡ true
within-in base n k lo hi = ap (λ t. if t then false else nat_lt k (base + n)) (lt-not k base lo)
    ∙ lt-yes k (base + n) hi

within-out : (base n k : ℕ) → (base ≤ k → k < base + n → ⊥) → within base n k ≡ false
within-out base n k out = elim (cases_lt k base) [
  | inl less ↦ ap (λ t. if t then false else nat_lt k (base + n)) (lt-yes k base less)
  | inr from ↦ ap (λ t. if t then false else nat_lt k (base + n)) (lt-not k base from)
      ∙ lt-not k (base + n) (elim (cases_lt k (base + n)) [ inl hi ↦ absurd (out from hi) | inr past ↦ past ])
]

pub patched-in : (f : ℕ → Bool) (base n : ℕ) (b : Bool) (k : ℕ) → base ≤ k → k < base + n → patched f base n b k ≡ b
patched-in f base n b k lo hi = ap (λ t. if t then b else f k) (within-in base n k lo hi)

pub patched-out : (f : ℕ → Bool) (base n : ℕ) (b : Bool) (k : ℕ) → (base ≤ k → k < base + n → ⊥)
    → patched f base n b k ≡ f k
patched-out f base n b k out = ap (λ t. if t then b else f k) (within-out base n k out)

-- lengths that are the same over a part
pub IsLargest-by : (old new : ℕ → ℕ) (part largest : ℕ) → ((k : ℕ) → k / PART ≡ part → new k ≡ old k)
    → IsLargest old part largest → IsLargest new part largest
IsLargest-by old new part largest same r = record {
  over = λ k e. let s = same k e in let o = r.over k e in omega arith;
  reached = λ some. let b = r.reached some in (b.0, b.1, same b.0 b.1 ∙ b.2);
}

-- all is kept
pub AreHoles-renewed : (begins begins2 : List Bool) (tags tags2 nodes nodes2 : List ℕ) (x y : ℕ) (free : ℕ → Bool)
    → AreHoles begins tags nodes → length begins2 ≡ length begins → length tags2 ≡ length tags
    → HasTags free begins2 tags2
    → ((k : ℕ) → k ≢ x → k ≢ y → begin_at begins2 tags2 k ≡ begin_at begins tags k)
    → IsRenewed begins2 tags2 nodes nodes2 x y → AreHoles begins2 tags2 nodes2
AreHoles-renewed begins begins2 tags tags2 nodes nodes2 x y free h longs long t same r =
    let half : leaf_count nodes2 ≡ leaf_count nodes = ap (λ n. n / 2) r.count in
    record {
      count = longs ∙ h.count ∙ sym long;
      few = let f = h.few in omega arith;
      own = HasTags-shown free begins2 tags2 (longs ∙ h.count ∙ sym long) t;
      height = h.height;
      power = half ∙ h.power;
      even = r.count ∙ h.even ∙ ap (λ n. 2 * n) (sym half);
      inside = let i = h.inside in omega arith;
      leaves = λ j less. elim (cases_eq j (x / PART)) [
        | inl e ↦ subst (HasLeaf (begin_at begins2 tags2) nodes2) (sym e) r.first
        | inr ne ↦ elim (cases_eq j (y / PART)) [
          | inl e ↦ subst (HasLeaf (begin_at begins2 tags2) nodes2) (sym e) r.second
          | inr apart ↦
              let at = ap (λ n. at_node nodes2 (n + j)) half ∙ r.others j ne apart in
              subst (IsLargest (begin_at begins2 tags2) j) (sym at)
              (IsLargest-by (begin_at begins tags) (begin_at begins2 tags2) j (at_node nodes (leaf_count nodes + j))
              (λ k e. same k (λ z. ne (sym e ∙ ap (λ i. i / PART) z)) (λ z. apart (sym e ∙ ap (λ i. i / PART) z)))
              (h.leaves j (omega arith)))
        ]
      ];
      inner = r.inner;
    }

-- no cell is free
cells-held : (n t : ℕ) → cells_from 0 (replicate n false) (replicate n t) ≡ replicate n (Some t)
cells-held zero t = refl
cells-held (suc n) t = ap (λ cells. Some t ∷ cells) (cells-held n t)

pub cells_of-held : (n : ℕ) → told_cells (replicate n false) (replicate n 0) ≡ replicate n (Some 0)
unfolding told_cells
cells_of-held n = cells-held n 0

held-at : (n k : ℕ) → free_at (replicate n (Some 0)) k ≡ false
held-at zero k = refl
held-at (suc n) zero = refl
held-at (suc n) (suc k) = held-at n k

none-marked : (n k : ℕ) → mark_at (replicate n false) k ≡ false
none-marked zero k = refl
none-marked (suc n) zero = refl
none-marked (suc n) (suc k) = none-marked n k

abbrev zeros : ℕ → List ℕ
zeros n = replicate n 0

pub AreHoles-held : (n : ℕ) (nodes : List ℕ) → n < 2 ^ 32 → IsZeroTree nodes ((n + (PART - 1)) / PART)
    → AreHoles (replicate n false) (replicate n 0) nodes
AreHoles-held n nodes few grown =
    let lt : length (zeros n) ≡ n = length-replicate n 0 in
    let lb = length-replicate n false in
    let held : (k : ℕ) → free_at (told_cells (replicate n false) (replicate n 0)) k ≡ false =
    λ k. ap (λ cells. free_at cells k) (cells_of-held n) ∙ held-at n k in
    record {
      count = lb ∙ sym lt;
      few = subst (λ m. m < 2 ^ 32) (sym lt) few;
      own = record {
        own = λ k e. absurd (neither e (none-marked n k));
        mark = λ base m h. absurd (neither (let s = h.some in h.each base (omega arith) (omega arith)) (held base));
        first = λ base m h. absurd (neither (let s = h.some in h.each base (omega arith) (omega arith)) (held base));
        last = λ base m h. absurd (neither (let s = h.some in h.each base (omega arith) (omega arith)) (held base));
        past = λ k past. held k;
      };
      height = grown.height;
      power = grown.power;
      even = grown.even;
      inside = let e = grown.enough in subst (λ m. m ≤ PART * leaf_count nodes) (sym lt) (omega arith);
      leaves = λ j less. let z = grown.zeros (leaf_count nodes + j) in record {
        over = λ k e. let b = begin-none (replicate n false) (replicate n 0) k (none-marked n k) in omega arith;
        reached = λ some. absurd (omega arith);
      };
      inner = λ k some less. let a = grown.zeros k in let b = grown.zeros (2 * k) in
          let c = grown.zeros (2 * k + 1) in omega arith;
    }

-- the number of a cell that is held changes
module _ (begins : List Bool) (tags nodes : List ℕ) (k v : ℕ) (h : AreHoles begins tags nodes)
    (held : IsSome (holder_at (told_cells begins tags) k)) where
  pub number-inside : k < length tags
  number-inside = elim (cases_lt k (length tags)) [
    | inl less ↦ less
    | inr past ↦ absurd (neither (held)
        (ap is_some (get_or_past (told_cells begins tags) k None (omega (arith, length-cells begins tags h.count)))))
  ]

  shown : holder_at (told_cells begins tags) k ≡ cell_by (free_at (told_cells begins tags) k) (kept_at tags k)
  shown = get-cells (free_at (told_cells begins tags)) begins tags h.count h.own k None number-inside

  not_free : free_at (told_cells begins tags) k ≡ false
  not_free = elim (true_or_false (free_at (told_cells begins tags) k)) [
    | inr not_so ↦ not_so
    | inl is ↦ absurd (neither held (ap is_some (shown ∙ ap (λ b. cell_by b (kept_at tags k)) is)))
  ]

  pub number-is : holder_at (told_cells begins tags) k ≡ Some (kept_at tags k)
  number-is = shown ∙ ap (λ b. cell_by b (kept_at tags k)) not_free

  stays : (x m i : ℕ) → IsHole (free_at (told_cells begins tags)) x m → x ≤ i → i < x + m
      → kept_at (set tags k v) i ≡ kept_at tags i
  stays x m i r lo hi = get_or-set_other tags k i v 0
      (λ e. neither (r.each i lo hi) (ap (free_at (told_cells begins tags)) e ∙ not_free))

  tags-numbered : HasTags (free_at (told_cells begins tags)) begins (set tags k v)
  tags-numbered = record {
    own = λ i e. let r = h.own.own i e in let s = r.some in
        subst (IsHole (free_at (told_cells begins tags)) i) (sym (stays i (kept_at tags i) i r (omega arith)
        (omega arith))) r;
    mark = λ x m r. h.own.mark x m r;
    first = λ x m r. let s = r.some in stays x m x r (omega arith) (omega arith) ∙ h.own.first x m r;
    last = λ x m r. let s = r.some in stays x m (x + m - 1) r (omega arith) (omega arith) ∙ h.own.last x m r;
    past = λ i past. h.own.past i (let l = length-set tags k v in omega arith);
  }

  long : length begins ≡ length (set tags k v)
  long = h.count ∙ sym (length-set tags k v)

  begin-same : (i : ℕ) → begin_at begins (set tags k v) i ≡ begin_at begins tags i
  begin-same i = elim (true_or_false (mark_at begins i)) [
    | inl is ↦ let r = h.own.own i is in let s = r.some in
        begin-own begins (set tags k v) i is ∙ stays i (kept_at tags i) i r (omega arith) (omega arith)
        ∙ sym (begin-own begins tags i is)
    | inr not_so ↦ begin-none begins (set tags k v) i not_so ∙ sym (begin-none begins tags i not_so)
  ]

  pub numbered-holes : AreHoles begins (set tags k v) nodes
  numbered-holes = record {
    count = long;
    few = let f = h.few in let l = length-set tags k v in omega arith;
    own = HasTags-shown (free_at (told_cells begins tags)) begins (set tags k v) long tags-numbered;
    height = h.height;
    power = h.power;
    even = h.even;
    inside = let i = h.inside in let l = length-set tags k v in omega arith;
    leaves = λ j less. IsLargest-by (begin_at begins tags) (begin_at begins (set tags k v)) j _
        (λ i e. begin-same i) (h.leaves j less);
    inner = h.inner;
  }

  pub numbered-cells : told_cells begins (set tags k v) ≡ set (told_cells begins tags) k (Some v)
  numbered-cells =
      let l2 = length-cells begins (set tags k v) long in
      let l1 = length-cells begins tags h.count in
      let ls = length-set tags k v in
      let lc = length-set (told_cells begins tags) k (Some v) in
      ext_get_or None (told_cells begins (set tags k v)) (set (told_cells begins tags) k (Some v)) (omega arith)
      (λ i less. let new = get-cells (free_at (told_cells begins tags)) begins
      (set tags k v) long tags-numbered i None (omega arith) in
      elim (cases_eq i k) [
        | inl e ↦ new ∙ ap (λ b. cell_by b (kept_at (set tags k v) i)) (ap (free_at (told_cells begins tags)) e
            ∙ not_free)
            ∙ ap (λ j. Some (kept_at (set tags k v) j)) e ∙ ap Some (get_or-set_same tags k v 0 number-inside)
            ∙ sym (ap (λ j. get_or (set (told_cells begins tags) k (Some v)) j None) e
            ∙ get_or-set_same (told_cells begins tags) k (Some v) None (let n = number-inside in omega arith))
        | inr ne ↦ new ∙ ap (cell_by (free_at (told_cells begins tags) i)) (get_or-set_other tags k i v 0 ne)
            ∙ sym (get-cells (free_at (told_cells begins tags)) begins tags h.count h.own i None (omega arith))
            ∙ sym (get_or-set_other (told_cells begins tags) k i (Some v) None ne)
      ])
