-- Cells are given back, and the holes beside them are joined with them.
use Rattle.std.proofs.Common.{◌≡◌, ℕ, zero, suc, ◌+◌, ◌-◌, ◌<◌, ◌≤◌, Bool, true, false, ◌≢◌, List, [], ◌∷◌, length}
use Rattle.std.proofs.Common.{get_or, set, IsSome, Some, None, Option, sym, refl, ap, ◌∙◌, subst, inl, inr, arith}
use Rattle.std.proofs.Common.{length-set, get_or-set_other, get_or-set_same, ext_get_or}
use Rattle.std.proofs.lemmas.{Bool.cases_eq, Bool.cases_lt, List.get_or_past}
use Rattle.im_types.specs.Types.{fill}
use Rattle.im_laws.proofs.{BlockLemmas.get_or-fill_in, BlockLemmas.length-fill, Tests.true_or_false}
use Rattle.im_holes.proofs.Kept.{AreHoles-renewed, patched, patched-in, patched-out}
use Rattle.im_holes.proofs.Runs.{hole-at, IsBack, IsFront, joined-all, joined-one, joined-others, neither, not-there}
use Rattle.im_holes.proofs.Runs.{Outside}
use Rattle.im_holes.proofs.Shown.{begin-hole, begin-none, begin-own, cell_by, get-cells, hole-begins, length-cells}
use Rattle.im_holes.specs.Holes.{AreHeld, AreHoles, begin_at, free_at, HasTags, holder_at, IsHole, IsRenewed}
use Rattle.im_holes.specs.Holes.{joined_marks, joined_tags, kept_at, mark_at, MeetsHole, told_cells}

-- a cell after a fill
pub fill-out : {X : Type 0} (xs : List (Option X)) (base n : ℕ) (x : Option X) (k : ℕ) → (base ≤ k → k < base + n → ⊥)
    → get_or (fill xs base n x) k None ≡ get_or xs k None
fill-out [] base n x k out = refl
fill-out (y ∷ xs) zero zero x k out = refl
fill-out (y ∷ xs) zero (suc n) x zero out = absurd (out (omega arith) (omega arith))
fill-out (y ∷ xs) zero (suc n) x (suc k) out = fill-out xs zero n x k (λ lo hi. out (omega arith) (omega arith))
fill-out (y ∷ xs) (suc base) n x zero out = refl
fill-out (y ∷ xs) (suc base) n x (suc k) out = fill-out xs base n x k (λ lo hi. out (omega arith) (omega arith))

-- what became of the marks and of the lengths, cell by cell
pub record AreJoined (begins begins2 : List Bool) (tags tags2 : List ℕ) (a end z : ℕ) : Type 0 where
  pub longs : length begins2 ≡ length begins
  pub long : length tags2 ≡ length tags
  pub first_mark : mark_at begins2 a ≡ true
  pub end_mark : mark_at begins2 end ≡ false
  pub marks : (k : ℕ) → k ≢ a → k ≢ end → mark_at begins2 k ≡ mark_at begins k
  pub first_tag : kept_at tags2 a ≡ z - a
  pub last_tag : kept_at tags2 (z - 1) ≡ z - a
  pub tags_out : (k : ℕ) → (a ≤ k → k < z → ⊥) → kept_at tags2 k ≡ kept_at tags k

pub AreJoined-are : (begins : List Bool) (tags : List ℕ) (a end z : ℕ) → length begins ≡ length tags → a < end → end ≤ z
    → z ≤ length tags
    → AreJoined begins (joined_marks begins a end) tags (joined_tags tags a z) a end z
AreJoined-are begins tags a end z count less le inside =
    let b : List Bool = set begins end false in
    let t : List ℕ = set tags a (z - a) in
    let lb = length-set begins end false in
    let lt = length-set tags a (z - a) in
    let at : a + (z - a) - 1 ≡ z - 1 = omega arith in
    let tm : joined_tags tags a z ≡ set t (z - 1) (z - a) = ap (λ k. set t k (z - a)) at in
    record {
      longs = length-set b a true ∙ lb;
      long = ap length tm ∙ length-set t (z - 1) (z - a) ∙ lt;
      first_mark = get_or-set_same b a true false (omega arith);
      end_mark = get_or-set_other b a end true false (λ e. omega arith) ∙ elim (cases_lt end (length begins)) [
        | inl there ↦ get_or-set_same begins end false false there
        | inr past ↦ get_or_past b end false (omega arith)
      ];
      marks = λ k one two. get_or-set_other b a k true false one ∙ get_or-set_other begins end k false false two;
      first_tag = ap (λ m. kept_at m a) tm ∙ elim (cases_eq a (z - 1)) [
        | inl e ↦ ap (kept_at (set t (z - 1) (z - a))) e ∙ get_or-set_same t (z - 1) (z - a) 0 (omega arith)
        | inr ne ↦ get_or-set_other t (z - 1) a (z - a) 0 ne ∙ get_or-set_same tags a (z - a) 0 (omega arith)
      ];
      last_tag = ap (λ m. kept_at m (z - 1)) tm ∙ get_or-set_same t (z - 1) (z - a) 0 (omega arith);
      tags_out = λ k out. ap (λ m. kept_at m k) tm
          ∙ get_or-set_other t (z - 1) k (z - a) 0 (λ e. out (omega arith) (omega arith))
          ∙ get_or-set_other tags a k (z - a) 0 (λ e. out (omega arith) (omega arith));
    }

module _ (f : ℕ → Bool) (begins begins2 : List Bool) (tags tags2 : List ℕ) (base n a z : ℕ)
    (count : length begins ≡ length tags)
    (t : HasTags f begins tags) (some : 0 < n) (within : base + n ≤ length tags)
    (held : (k : ℕ) → base ≤ k → k < base + n → f k ≡ false)
    (front : IsFront f a base) (back : IsBack f (base + n) z)
    (c : AreJoined begins begins2 tags tags2 a (base + n) z) where
  now_free : (k : ℕ) → base ≤ k → k < base + n → patched f base n true k ≡ true
  now_free k lo hi = patched-in f base n true k lo hi

  others : (k : ℕ) → (base ≤ k → k < base + n → ⊥) → patched f base n true k ≡ f k
  others k out = patched-out f base n true k out

  other-mark : (k : ℕ) → mark_at begins k ≡ true → k ≢ a → k ≢ base + n
      → IsHole (patched f base n true) k (kept_at tags k)
      × Outside f (patched f base n true) base n a z some held now_free others front back k (kept_at tags k)
  other-mark k e one two = joined-others f (patched f base n true) base n a z some held now_free others front back k
      (kept_at tags k) (t.own k e) one two

  tag-outside : (k m i : ℕ) → Outside f (patched f base n true) base n a z some held now_free others front back k m
      → k ≤ i → i < k + m → kept_at tags2 i ≡ kept_at tags i
  tag-outside k m i b lo hi = c.tags_out i (not-there k m a z i b.apart lo hi)

  mark-outside : (k m : ℕ) → Outside f (patched f base n true) base n a z some held now_free others front back k m
      → mark_at begins2 k ≡ mark_at begins k
  mark-outside k m b = let u = front.upto in let v = back.from in
      c.marks k (λ e. elim (b.apart) [ inl low ↦ omega arith | inr high ↦ omega arith ])
      (λ e. elim (b.apart) [ inl low ↦ omega arith | inr high ↦ omega arith ])

  pub HasTags-joined : HasTags (patched f base n true) begins2 tags2
  HasTags-joined = record {
    own = λ k e. elim (cases_eq k a) [
      | inl at ↦ subst (λ i. IsHole (patched f base n true) i (kept_at tags2 i)) (sym at)
          (subst (IsHole (patched f base n true) a) (sym c.first_tag)
          (joined-one f (patched f base n true) base n a z some held now_free others front back))
      | inr one ↦ elim (cases_eq k (base + n)) [
        | inl at ↦ absurd (neither e (ap (mark_at begins2) at ∙ c.end_mark))
        | inr two ↦
            let o = other-mark k (sym (c.marks k one two) ∙ e) one two in
            let s = o.0.some in
            subst (IsHole (patched f base n true) k)
            (sym (tag-outside k (kept_at tags k) k o.1 (omega arith) (omega arith))) o.0
      ]
    ];
    mark = λ x m h. elim (joined-all f (patched f base n true) base n a z some held now_free others front back x m h) [
      | inl r ↦ ap (mark_at begins2) r.0 ∙ c.first_mark
      | inr b ↦ mark-outside x m b ∙ t.mark x m b.is
    ];
    first = λ x m h. elim (joined-all f (patched f base n true) base n a z some held now_free others front back x m h) [
      | inl r ↦ ap (kept_at tags2) r.0 ∙ c.first_tag ∙ sym r.1
      | inr b ↦ let s = h.some in tag-outside x m x b (omega arith) (omega arith) ∙ t.first x m b.is
    ];
    last = λ x m h. elim (joined-all f (patched f base n true) base n a z some held now_free others front back x m h) [
      | inl r ↦ let s = h.some in let p = r.0 in let q = r.1 in let e : x + m - 1 ≡ z - 1 = omega arith in
          ap (kept_at tags2) e ∙ c.last_tag ∙ sym r.1
      | inr b ↦ let s = h.some in tag-outside x m (x + m - 1) b (omega arith) (omega arith) ∙ t.last x m b.is
    ];
    past = λ k past. others k (λ lo hi. let l = c.long in omega arith) ∙ t.past k (let e = c.long in omega arith);
  }

  -- no length changed but at two cells
  pub begin-joined : (k : ℕ) → k ≢ a → k ≢ base + n → begin_at begins2 tags2 k ≡ begin_at begins tags k
  begin-joined k one two = elim (true_or_false (mark_at begins k)) [
    | inl is ↦ let o = other-mark k is one two in let s = o.0.some in
        begin-own begins2 tags2 k (c.marks k one two ∙ is)
        ∙ tag-outside k (kept_at tags k) k o.1 (omega arith) (omega arith) ∙ sym (begin-own begins tags k is)
    | inr not_so ↦ begin-none begins2 tags2 k (c.marks k one two ∙ not_so) ∙ sym (begin-none begins tags k not_so)
  ]

  long : length begins2 ≡ length tags2
  long = c.longs ∙ count ∙ sym c.long

  shown-new : (k : ℕ) → k < length tags
      → get_or (told_cells begins2 tags2) k None ≡ cell_by (patched f base n true k) (kept_at tags2 k)
  shown-new k less = get-cells (patched f base n true) begins2 tags2 long HasTags-joined k None (let e = c.long in
      omega arith)

  shown-old : (k : ℕ) → k < length tags → get_or (told_cells begins tags) k None ≡ cell_by (f k) (kept_at tags k)
  shown-old k less = get-cells f begins tags count t k None less

  pub cells-joined : told_cells begins2 tags2 ≡ fill (told_cells begins tags) base n None
  cells-joined =
      let l2 = length-cells begins2 tags2 long in
      let l1 = length-cells begins tags count in
      let lf = length-fill (told_cells begins tags) base n None in
      let lc = c.long in
      ext_get_or None (told_cells begins2 tags2) (fill (told_cells begins tags) base n None) (omega arith)
      (λ k less. elim (cases_lt k base) [
        | inl low ↦ outside k (omega arith) (λ lo hi. omega arith)
        | inr from ↦ elim (cases_lt k (base + n)) [
          | inl inside ↦ shown-new k (omega arith) ∙ ap (λ b. cell_by b (kept_at tags2 k)) (now_free k from inside)
              ∙ sym (get_or-fill_in (told_cells begins tags) base n None k from inside (omega arith))
          | inr past ↦ outside k (omega arith) (λ lo hi. omega arith)
        ]
      ])
    where
      kept : (k : ℕ) → (base ≤ k → k < base + n → ⊥) → (b : Bool) → f k ≡ b
          → cell_by b (kept_at tags2 k) ≡ cell_by b (kept_at tags k)
      kept k out true e = refl
      kept k out false e = ap Some (c.tags_out k (λ lo hi. let u = front.upto in let v = back.from in
          elim (cases_lt k base) [
            | inl low ↦ neither ((front.hole (omega arith)).each k lo (omega arith)) e
            | inr from ↦ elim (cases_lt k (base + n)) [
              | inl inside ↦ out from inside
              | inr past ↦ neither ((back.hole (omega arith)).each k past (omega arith)) e
            ]
          ]))

      outside : (k : ℕ) → k < length tags → (base ≤ k → k < base + n → ⊥)
          → get_or (told_cells begins2 tags2) k None ≡ get_or (fill (told_cells begins tags) base n None) k None
      outside k less out = shown-new k less ∙ ap (λ b. cell_by b (kept_at tags2 k)) (others k out)
          ∙ kept k out (f k) refl ∙ sym (shown-old k less) ∙ sym (fill-out (told_cells begins tags) base n None k out)

module _ (f : ℕ → Bool) (begins : List Bool) (tags : List ℕ) (t : HasTags f begins tags) where
  -- the tags tell which hole ends before a cell that is held
  pub IsFront-by : (a base : ℕ) → f base ≡ false → MeetsHole begins tags base a → IsFront f a base
  IsFront-by a base held e = record {
    upto = e.upto;
    hole = λ less. subst (IsHole f a) (e.tag less) (t.own a (e.mark less));
    none = λ same k one. elim (true_or_false (f k)) [
      | inr not_so ↦ not_so
      | inl is ↦
          let r = hole-at f (length tags) t.past k is in
          let low = r.low in let high = r.high in
          let to : r.base + r.n ≡ base = elim (cases_lt base (r.base + r.n)) [
            | inl more ↦ absurd (neither (r.is.each base (omega arith) more) held)
            | inr upto ↦ omega arith
          ] in
          let n_is : r.n ≡ base - r.base = omega arith in
          let last : r.base + r.n - 1 ≡ base - 1 = omega arith in
          absurd (e.none same r.base (omega arith) (t.mark r.base r.n r.is) (t.first r.base r.n r.is ∙ n_is)
          (ap (kept_at tags) (sym last) ∙ t.last r.base r.n r.is ∙ n_is))
    ];
  }

  -- and which one begins at a cell behind one that is held
  pub IsBack-by : (end z : ℕ) → z ≡ end + begin_at begins tags end → ((k : ℕ) → k + 1 ≡ end → f k ≡ false)
      → IsBack f end z
  IsBack-by end z is before = record {
    from = omega arith;
    hole = λ less. let n : z - end ≡ begin_at begins tags end = omega arith in
        subst (IsHole f end) (sym n) (hole-begins f begins tags end t (omega arith));
    none = λ same. elim (true_or_false (f end)) [
      | inr not_so ↦ not_so
      | inl free ↦
          let r = hole-at f (length tags) t.past end free in
          let low = r.low in let high = r.high in let s = r.is.some in
          elim (cases_eq r.base end) [
            | inl at ↦
                let own = begin-hole f begins tags r.base r.n t r.is in
                let here = ap (begin_at begins tags) at in absurd (omega arith)
            | inr ne ↦ let one : end - 1 + 1 ≡ end = omega arith in
                absurd (neither (r.is.each (end - 1) (omega arith) (omega arith)) (before (end - 1) one))
          ]
    ];
  }

pub held-not_free : (cells : List (Option ℕ)) (k : ℕ) → IsSome (holder_at cells k)
    → (free_at cells k ≡ false) × (k < length cells)
held-not_free [] k is = absurd (neither is refl)
held-not_free (None ∷ cells) zero is = absurd (neither is refl)
held-not_free (Some x ∷ cells) zero is = (refl, omega arith)
held-not_free (x ∷ cells) (suc k) is = let r = held-not_free cells k is in (r.0, omega (arith, r.1))

-- cells that are held are there
pub held-inside : (begins : List Bool) (tags nodes : List ℕ) (base n : ℕ) → AreHoles begins tags nodes → 0 < n
    → AreHeld (told_cells begins tags) base n → base + n ≤ length tags
held-inside begins tags nodes base n h some held =
    let r = (held-not_free (told_cells begins tags) (base + n - 1) (held (base + n - 1) (omega arith)
    (omega arith))).1 in
    omega (arith, length-cells begins tags h.count)

-- all of it
module _ (begins begins2 : List Bool) (tags tags2 nodes : List ℕ) (base n a z : ℕ) (h : AreHoles begins tags nodes)
    (some : 0 < n) (held : AreHeld (told_cells begins tags) base n)
    (front : MeetsHole begins tags base a) (back : z ≡ base + n + begin_at begins tags (base + n)) where
  not_free : (k : ℕ) → base ≤ k → k < base + n → free_at (told_cells begins tags) k ≡ false
  not_free k lo hi = (held-not_free (told_cells begins tags) k (held k lo hi)).0

  inside : base + n ≤ length tags
  inside = held-inside begins tags nodes base n h some held

  the-front : IsFront (free_at (told_cells begins tags)) a base
  the-front = IsFront-by (free_at (told_cells begins tags)) begins tags h.own a base (not_free base (omega arith)
      (omega arith)) front

  the-back : IsBack (free_at (told_cells begins tags)) (base + n) z
  the-back = IsBack-by (free_at (told_cells begins tags)) begins tags h.own (base + n) z back
      (λ k one. not_free k (omega arith) (omega arith))

  pub upto : z ≤ length tags
  upto = let i = inside in let b = the-back in let v = b.from in elim (cases_lt (base + n) z) [
    | inr none ↦ omega arith
    | inl less ↦ elim (cases_lt (z - 1) (length tags)) [
      | inl inner ↦ omega arith
      | inr past ↦ absurd (neither ((b.hole less).each (z - 1) (omega arith) (omega arith)) (h.own.past (z - 1) past))
    ]
  ]

  pub over : a < base + n
  over = let u = front.upto in omega arith

  pub under : base + n ≤ z
  under = omega arith

  are : begins2 ≡ joined_marks begins a (base + n) → tags2 ≡ joined_tags tags a z
      → AreJoined begins begins2 tags tags2 a (base + n) z
  are marks_are tags_are =
      subst (λ b. AreJoined begins b tags tags2 a (base + n) z) (sym marks_are)
      (subst (λ t. AreJoined begins (joined_marks begins a (base + n)) tags t a (base + n) z) (sym tags_are)
      (AreJoined-are begins tags a (base + n) z h.count over under upto))

  pub given-cells : begins2 ≡ joined_marks begins a (base + n) → tags2 ≡ joined_tags tags a z
      → told_cells begins2 tags2 ≡ fill (told_cells begins tags) base n None
  given-cells marks_are tags_are =
      cells-joined (free_at (told_cells begins tags)) begins begins2 tags tags2 base n a z h.count h.own some inside
      not_free
      the-front the-back (are marks_are tags_are)

  pub given-holes : begins2 ≡ joined_marks begins a (base + n) → tags2 ≡ joined_tags tags a z
      → (nodes2 : List ℕ) (y : ℕ)
      → (base + n < z → y ≡ base + n) → IsRenewed begins2 tags2 nodes nodes2 a y
      → AreHoles begins2 tags2 nodes2
  given-holes marks_are tags_are nodes2 y at renewed =
      let c = are marks_are tags_are in
      AreHoles-renewed begins begins2 tags tags2 nodes nodes2 a y (patched (free_at
      (told_cells begins tags)) base n true) h
      c.longs c.long
      (HasTags-joined (free_at (told_cells begins tags)) begins begins2 tags tags2 base n a z h.count h.own some
      inside not_free
      the-front the-back c)
      (λ k one two. elim (cases_eq k (base + n)) [
        | inr apart ↦ begin-joined (free_at (told_cells begins tags)) begins begins2 tags tags2 base n a z h.count
            h.own some
            inside not_free the-front the-back c k one apart
        | inl e ↦ elim (cases_lt (base + n) z) [
          | inl less ↦ absurd (two (e ∙ sym (at less)))
          | inr none ↦
              let was : begin_at begins tags (base + n) ≡ 0 = omega arith in
              begin-none begins2 tags2 k (ap (mark_at begins2) e ∙ c.end_mark)
              ∙ sym (ap (begin_at begins tags) e ∙ was)
        ]
      ]) renewed
