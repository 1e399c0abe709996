-- The tree of maxima: a leaf that changes, and the first leaf that is large enough.
use Rattle.std.proofs.Common.{◌≡◌, ℕ, zero, suc, ◌+◌, ◌-◌, ◌*◌, ◌/◌, ◌<◌, ◌≤◌, max, ◌≢◌, List, length, set, sym, refl}
use Rattle.std.proofs.Common.{ap, ◌∙◌, inl, inr, arith, length-set, get_or-set_other, get_or-set_same}
use Rattle.std.proofs.lemmas.Bool.{cases_eq, cases_lt}
use Rattle.im_holes.specs.Tree.{at_node, HasMaxima, IsFirst, IsLarger, IsStart, IsUpTo, leaf_count, row_length}

-- a node stays joined where it and the two below it stay
pub joined-kept : (old new : List ℕ) (k : ℕ) → at_node new k ≡ at_node old k → at_node new (2 * k)
    ≡ at_node old (2 * k) → at_node new (2 * k + 1) ≡ at_node old (2 * k + 1)
    → IsLarger old k → IsLarger new k
joined-kept old new k here left right is = omega arith

-- one node is joined anew
module _ (new : List ℕ) (at v : ℕ) (inside : at < length new) (some : 0 < at)
    (is : v ≡ max (at_node new (2 * at)) (at_node new (2 * at + 1))) where
  here : IsLarger (set new at v) at
  here =
      get_or-set_same new at v 0 inside ∙ is
      ∙ ap (λ l. max l (at_node new (2 * at + 1))) (sym (get_or-set_other new at (2 * at) v 0 (λ e. omega arith)))
      ∙ ap (λ r. max (at_node (set new at v) (2 * at)) r)
      (sym (get_or-set_other new at (2 * at + 1) v 0 (λ e. omega arith)))

  here-at : (i : ℕ) → i ≡ at → IsLarger (set new at v) i
  here-at i e =
      ap (at_node (set new at v)) e ∙ here
      ∙ ap (λ a. max (at_node (set new at v) (2 * a)) (at_node (set new at v) (2 * a + 1))) (sym e)

  other : (i : ℕ) → i ≢ at → at_node (set new at v) i ≡ at_node new i
  other i ne = get_or-set_other new at i v 0 ne

  -- on the way up
  pub IsUpTo-up : (old : List ℕ) (k : ℕ) → k / 2 ≡ at → IsUpTo old new k
      → IsUpTo old (set new at v) at
  IsUpTo-up old k above p = record {
    even = p.even;
    inner = λ i low high ne. elim (cases_eq i at) [
      | inl e ↦ here-at i e
      | inr apart ↦ joined-kept new (set new at v) i (other i apart)
          (other (2 * i) (λ d. ne (omega arith))) (other (2 * i + 1) (λ d. ne (omega arith)))
          (p.inner i low high (λ d. apart (omega arith)))
    ];
    kept = λ i le. other i (λ e. let o = p.inside in let v = p.even in omega arith) ∙ p.kept i le;
    inside = let o = p.inside in let v = p.even in omega arith;
    count = length-set new at v ∙ p.count;
  }

-- the first node, of those that so many rows down are below a node
abbrev pub lowest : ℕ → ℕ → ℕ
lowest zero k = k
lowest (suc h) k = lowest h (2 * k)

-- the first node below the next node is the one behind the last below this one
pub lowest-next : (h k : ℕ) → lowest h (k + 1) ≡ lowest h k + row_length h
lowest-next zero k = refl
lowest-next (suc h) k =
    ap (lowest h) (twice k) ∙ (omega (arith, lowest-next h (2 * k), lowest-next h (2 * k + 1)))
  where
    twice : (k : ℕ) → 2 * (k + 1) ≡ 2 * k + 1 + 1
    twice k = omega arith

-- no node below a node has a lesser number
pub lowest-over : (h k : ℕ) → k ≤ lowest h k
lowest-over zero k = omega arith
lowest-over (suc h) k = let l = lowest-over h (2 * k) in omega arith

-- a tree has a leaf
pub leaves-some : (h : ℕ) → 0 < row_length h
leaves-some zero = omega arith
leaves-some (suc h) = let l = leaves-some h in omega arith

-- the first leaf below the root is the first leaf
pub lowest-root : (h : ℕ) → lowest h 1 ≡ row_length h
lowest-root zero = refl
lowest-root (suc h) = let a = lowest-next h 1 in let b = lowest-root h in omega arith

-- no leaf below a node is larger
pub leaf-upto : (nodes : List ℕ) → HasMaxima nodes → (h k i : ℕ) → 0 < k → leaf_count nodes ≤ lowest h k
    → lowest h k + row_length h ≤ 2 * leaf_count nodes → lowest h k ≤ i → i < lowest h k + row_length h
    → at_node nodes i ≤ at_node nodes k
leaf-upto nodes joined zero k i some low high from upto = let e : i ≡ k = omega arith in
    let n = ap (at_node nodes) e in omega arith
leaf-upto nodes joined (suc h) k i some low high from upto =
    let next = lowest-next h (2 * k) in
    let over = lowest-over h (2 * k) in
    let l = leaves-some h in
    let is = joined k some (omega arith) in
    elim (cases_lt i (lowest h (2 * k + 1))) [
      | inl left ↦ let le = leaf-upto nodes joined h (2 * k) i (omega arith) low (omega arith) from (omega arith) in
          omega arith
      | inr right ↦ let le = leaf-upto nodes joined h (2 * k + 1) i (omega arith) (omega arith) (omega arith) right
          (omega arith) in omega arith
    ]

-- the first leaf that is large enough lies below a node
pub record Reaches (nodes : List ℕ) (n k : ℕ) : Type 0 where
  pub height : ℕ
  pub some : 0 < k
  pub low : leaf_count nodes ≤ lowest height k
  pub high : lowest height k + row_length height ≤ 2 * leaf_count nodes
  pub room : n ≤ at_node nodes k
  pub before : (i : ℕ) → leaf_count nodes ≤ i → i < lowest height k → at_node nodes i < n

-- the first node, so many rows below a node on the left edge, is one too
lowest-edge : (h m : ℕ) → lowest h (row_length m) ≡ row_length (h + m)
lowest-edge zero m = let e : m ≡ 0 + m = omega arith in ap row_length e
lowest-edge (suc h) m = let e : h + suc m ≡ suc h + m = omega arith in lowest-edge h (suc m) ∙ ap row_length e

-- a lower row is no shorter
row_length-upto : (h m : ℕ) → row_length h ≤ row_length (h + m)
row_length-upto zero m = let e : m ≡ 0 + m = omega arith in let l = leaves-some m in omega (arith, ap row_length e)
row_length-upto (suc h) m =
    let e : suc (h + m) ≡ suc h + m = omega arith in
    let l = row_length-upto h m in
    omega (arith, ap row_length e)

pub Reaches-start : (nodes : List ℕ) (n k : ℕ) → IsStart nodes n k → Reaches nodes n k
Reaches-start nodes n k s =
    let at : lowest s.below k ≡ leaf_count nodes =
    ap (lowest s.below) s.edge ∙ lowest-edge s.below s.above ∙ sym s.rows in
    let rows = s.rows in
    let edge = s.edge in
    let some = leaves-some s.above in
    let wide = row_length-upto s.below s.above in
    record {
      height = s.below;
      some = omega arith;
      low = omega arith;
      high = omega arith;
      room = s.room;
      before = λ i from upto. absurd (omega arith);
    }

pub IsStart-root : (nodes : List ℕ) (n height : ℕ) → leaf_count nodes ≡ row_length height → n ≤ at_node nodes 1
    → IsStart nodes n 1
IsStart-root nodes n height power room = let e : height ≡ height + 0 = omega arith in record {
  above = 0;
  below = height;
  edge = refl;
  rows = power ∙ ap row_length e;
  room = room;
}

-- the node above the first 256 leaves
pub IsStart-near : (nodes : List ℕ) (n k height : ℕ) → leaf_count nodes ≡ row_length height
    → k ≡ leaf_count nodes / 256 → 0 < k → n ≤ at_node nodes k → IsStart nodes n k
IsStart-near nodes n k zero power is some room = absurd (omega arith)
IsStart-near nodes n k (suc zero) power is some room = absurd (omega arith)
IsStart-near nodes n k (suc (suc zero)) power is some room = absurd (omega arith)
IsStart-near nodes n k (suc (suc (suc zero))) power is some room = absurd (omega arith)
IsStart-near nodes n k (suc (suc (suc (suc zero)))) power is some room = absurd (omega arith)
IsStart-near nodes n k (suc (suc (suc (suc (suc zero))))) power is some room = absurd (omega arith)
IsStart-near nodes n k (suc (suc (suc (suc (suc (suc zero)))))) power is some room = absurd (omega arith)
IsStart-near nodes n k (suc (suc (suc (suc (suc (suc (suc zero))))))) power is some room = absurd (omega arith)
IsStart-near nodes n k (suc (suc (suc (suc (suc (suc (suc (suc m)))))))) power is some room =
    let e : suc (suc (suc (suc (suc (suc (suc (suc m))))))) ≡ 8 + m = omega arith in
    record { above = m; below = 8; edge = omega arith; rows = power ∙ ap row_length e; room = room }

module _ (nodes : List ℕ) (joined : HasMaxima nodes) (n k : ℕ) (inner : k < leaf_count nodes) where
  left-by : (h : ℕ) (r : Reaches nodes n k) → r.height ≡ h → n ≤ at_node nodes (2 * k) → Reaches nodes n (2 * k)
  left-by zero r e room =
      let l = r.low in let is : lowest r.height k ≡ k = ap (λ h. lowest h k) e in absurd (omega arith)
  left-by (suc h) r e room =
      let is : lowest r.height k ≡ lowest h (2 * k) = ap (λ h. lowest h k) e in
      let wide = ap row_length e in
      let s = r.some in let low = r.low in let high = r.high in
      record {
        height = h;
        some = omega arith;
        low = omega arith;
        high = omega arith;
        room = room;
        before = λ i from upto. r.before i from (omega arith);
      }

  pub Reaches-left : Reaches nodes n k → n ≤ at_node nodes (2 * k) → Reaches nodes n (2 * k)
  Reaches-left r room = left-by r.height r refl room

  right-by : (h : ℕ) (r : Reaches nodes n k) → r.height ≡ h → at_node nodes (2 * k) < n → Reaches nodes n (2 * k + 1)
  right-by zero r e room =
      let l = r.low in let is : lowest r.height k ≡ k = ap (λ h. lowest h k) e in absurd (omega arith)
  right-by (suc h) r e short =
      let is : lowest r.height k ≡ lowest h (2 * k) = ap (λ h. lowest h k) e in
      let wide = ap row_length e in
      let next = lowest-next h (2 * k) in
      let s = r.some in let low = r.low in let high = r.high in let room = r.room in
      let both = joined k s inner in
      record {
        height = h;
        some = omega arith;
        low = omega arith;
        high = omega arith;
        room = omega arith;
        before = λ i from upto. elim (cases_lt i (lowest h (2 * k))) [
          | inl less ↦ r.before i from (omega arith)
          | inr more ↦ let le = leaf-upto nodes joined h (2 * k) i (omega arith) (omega arith) (omega arith) more
              (omega arith) in omega arith
        ];
      }

  pub Reaches-right : Reaches nodes n k → at_node nodes (2 * k) < n → Reaches nodes n (2 * k + 1)
  Reaches-right r short = right-by r.height r refl short

-- at a leaf
pub Reaches-leaf : (nodes : List ℕ) (n k : ℕ) → Reaches nodes n k → leaf_count nodes ≤ k
    → IsFirst nodes n (k - leaf_count nodes)
Reaches-leaf nodes n k r le =
    let at : lowest r.height k ≡ k = at_leaf r.height refl in
    let high = r.high in let some = leaves-some r.height in
    let e : leaf_count nodes + (k - leaf_count nodes) ≡ k = omega arith in
    let room = r.room in
    let is = ap (at_node nodes) e in
    record {
      inside = omega arith;
      room = omega arith;
      before = λ i less. r.before (leaf_count nodes + i) (omega arith) (omega arith);
    }
  where
    at_leaf : (h : ℕ) → r.height ≡ h → lowest r.height k ≡ k
    at_leaf zero e = ap (λ h. lowest h k) e
    at_leaf (suc h) e =
        let over = lowest-over h (2 * k) in
        let is : lowest r.height k ≡ lowest h (2 * k) = ap (λ h. lowest h k) e in
        let high = r.high in let some = leaves-some r.height in
        absurd (omega arith)
