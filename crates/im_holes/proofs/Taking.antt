-- Cells are taken from the front of a hole.
use Rattle.std.proofs.Common.{◌≡◌, ℕ, ◌+◌, ◌-◌, ◌<◌, ◌≤◌, Bool, true, false, ◌≢◌, List, length, set, is_some}
use Rattle.std.proofs.Common.{if◌then◌else◌, Some, None, sym, refl, ap, ◌∙◌, subst, inl, inr, arith, length-set}
use Rattle.std.proofs.Common.{get_or-set_other, get_or-set_same}
use Rattle.std.proofs.lemmas.{Bool.cases_eq, Bool.cases_lt, List.get_or_past}
use Rattle.im_laws.proofs.Tests.{true_or_false}
use Rattle.im_holes.proofs.Kept.{AreHoles-renewed, lt-not, lt-yes, patched, patched-in, patched-out}
use Rattle.im_holes.proofs.Runs.{Beside, less-free, neither, not-there, taken-all, taken-others, taken-rest}
use Rattle.im_holes.proofs.Shown.{begin-none, begin-own, cell_by, get-cells, length-cells}
use Rattle.im_holes.specs.Holes.{AreHoles, AreTakenFrom, begin_at, cut_marks, cut_tags, free_at, HasTags, holder_at}
use Rattle.im_holes.specs.Holes.{IsHole, IsRenewed, kept_at, mark_at, marked, tagged, told_cells}

-- what became of the marks and of the lengths, cell by cell
pub record IsCut (begins begins2 : List Bool) (tags tags2 : List ℕ) (base n l : ℕ) : Type 0 where
  pub longs : length begins2 ≡ length begins
  pub long : length tags2 ≡ length tags
  pub base_mark : mark_at begins2 base ≡ false
  pub base_tag : kept_at tags2 base ≡ 0
  pub rest_mark : n < l → mark_at begins2 (base + n) ≡ true
  pub rest_first : n < l → kept_at tags2 (base + n) ≡ l - n
  pub rest_last : n < l → kept_at tags2 (base + l - 1) ≡ l - n
  pub whole : n ≡ l → mark_at begins2 (base + n) ≡ mark_at begins (base + n)
  pub marks : (k : ℕ) → k ≢ base → k ≢ base + n → mark_at begins2 k ≡ mark_at begins k
  pub tags_out : (k : ℕ) → (base ≤ k → k < base + l → ⊥) → kept_at tags2 k ≡ kept_at tags k

pub IsCut-is : (begins : List Bool) (tags : List ℕ) (base n l : ℕ) → length begins ≡ length tags → 0 < n → n ≤ l
    → base + l ≤ length tags
    → IsCut begins (cut_marks begins base n l) tags (cut_tags tags base n l) base n l
IsCut-is begins tags base n l count some few inside = elim (cases_lt n l) [
  | inl less ↦
      let b : List Bool = set begins base false in
      let t : List ℕ = set tags base 0 in
      let t2 : List ℕ = set t (base + n) (l - n) in
      let lb = length-set begins base false in
      let lt = length-set tags base 0 in
      let lt2 = length-set t (base + n) (l - n) in
      let end : base + n + (l - n) - 1 ≡ base + l - 1 = omega arith in
      let bm : cut_marks begins base n l ≡ set b (base + n) true =
      ap (λ c. if c then marked (set begins base false) (base + n) else set begins base false) (lt-yes n l less) in
      let tm : cut_tags tags base n l ≡ set t2 (base + l - 1) (l - n) =
      ap (λ c. if c then tagged (set tags base 0) (base + n) (l - n) else set tags base 0) (lt-yes n l less)
      ∙ ap (λ k. set t2 k (l - n)) end in
      record {
        longs = ap length bm ∙ length-set b (base + n) true ∙ lb;
        long = ap length tm ∙ length-set t2 (base + l - 1) (l - n) ∙ lt2 ∙ lt;
        base_mark = ap (λ m. mark_at m base) bm ∙ get_or-set_other b (base + n) base true false (λ e. omega arith)
            ∙ get_or-set_same begins base false false (omega arith);
        base_tag = ap (λ m. kept_at m base) tm ∙ get_or-set_other t2 (base + l - 1) base (l - n) 0 (λ e. omega arith)
            ∙ get_or-set_other t (base + n) base (l - n) 0 (λ e. omega arith)
            ∙ get_or-set_same tags base 0 0 (omega arith);
        rest_mark = λ _. ap (λ m. mark_at m (base + n)) bm ∙ get_or-set_same b (base + n) true false (omega arith);
        rest_first = λ _. ap (λ m. kept_at m (base + n)) tm ∙ elim (cases_eq (base + n) (base + l - 1)) [
          | inl e ↦ ap (kept_at (set t2 (base + l - 1) (l - n))) e
              ∙ get_or-set_same t2 (base + l - 1) (l - n) 0 (omega arith)
          | inr ne ↦ get_or-set_other t2 (base + l - 1) (base + n) (l - n) 0 ne
              ∙ get_or-set_same t (base + n) (l - n) 0 (omega arith)
        ];
        rest_last = λ _. ap (λ m. kept_at m (base + l - 1)) tm
            ∙ get_or-set_same t2 (base + l - 1) (l - n) 0 (omega arith);
        whole = λ e. absurd (omega arith);
        marks = λ k one two. ap (λ m. mark_at m k) bm ∙ get_or-set_other b (base + n) k true false two
            ∙ get_or-set_other begins base k false false one;
        tags_out = λ k out. ap (λ m. kept_at m k) tm
            ∙ get_or-set_other t2 (base + l - 1) k (l - n) 0 (λ e. out (omega arith) (omega arith))
            ∙ get_or-set_other t (base + n) k (l - n) 0 (λ e. out (omega arith) (omega arith))
            ∙ get_or-set_other tags base k 0 0 (λ e. out (omega arith) (omega arith));
      }
  | inr more ↦
      let bm : cut_marks begins base n l ≡ set begins base false =
      ap (λ c. if c then marked (set begins base false) (base + n) else set begins base false) (lt-not n l more) in
      let tm : cut_tags tags base n l ≡ set tags base 0 =
      ap (λ c. if c then tagged (set tags base 0) (base + n) (l - n) else set tags base 0) (lt-not n l more) in
      record {
        longs = ap length bm ∙ length-set begins base false;
        long = ap length tm ∙ length-set tags base 0;
        base_mark = ap (λ m. mark_at m base) bm ∙ get_or-set_same begins base false false (omega arith);
        base_tag = ap (λ m. kept_at m base) tm ∙ get_or-set_same tags base 0 0 (omega arith);
        rest_mark = λ less. absurd (omega arith);
        rest_first = λ less. absurd (omega arith);
        rest_last = λ less. absurd (omega arith);
        whole = λ e. ap (λ m. mark_at m (base + n)) bm ∙ get_or-set_other begins base (base + n) false false
            (λ z. omega arith);
        marks = λ k one two. ap (λ m. mark_at m k) bm ∙ get_or-set_other begins base k false false one;
        tags_out = λ k out. ap (λ m. kept_at m k) tm ∙ get_or-set_other tags base k 0 0 (λ e. out (omega arith)
            (omega arith));
      }
]

module _ (f : ℕ → Bool) (begins begins2 : List Bool) (tags tags2 : List ℕ) (base n l : ℕ)
    (count : length begins ≡ length tags)
    (t : HasTags f begins tags) (hole : IsHole f base l) (some : 0 < n) (few : n ≤ l)
    (c : IsCut begins begins2 tags tags2 base n l) where
  held : (k : ℕ) → base ≤ k → k < base + n → patched f base n false k ≡ false
  held k lo hi = patched-in f base n false k lo hi

  others : (k : ℕ) → (base ≤ k → k < base + n → ⊥) → patched f base n false k ≡ f k
  others k out = patched-out f base n false k out

  -- a mark but those of the hole and of what is left of it
  other-mark : (k : ℕ) → mark_at begins k ≡ true → k ≢ base
      → IsHole (patched f base n false) k (kept_at tags k) × Beside f
      (patched f base n false) base l n hole some few held others k (kept_at tags k)
  other-mark k e ne = taken-others f (patched f base n false) base l n hole some few held others k (kept_at tags k)
      (t.own k e) ne

  tag-beside : (k m i : ℕ) → Beside f (patched f base n false) base l n hole some few held others k m → k ≤ i
      → i < k + m
      → kept_at tags2 i ≡ kept_at tags i
  tag-beside k m i b lo hi = c.tags_out i (not-there k m base (base + l) i b.apart lo hi)

  mark-beside : (k m : ℕ) → Beside f (patched f base n false) base l n hole some few held others k m
      → mark_at begins2 k ≡ mark_at begins k
  mark-beside k m b = c.marks k (λ e. elim (b.apart) [ inl low ↦ omega arith | inr high ↦ omega arith ])
      (λ e. elim (b.apart) [ inl low ↦ omega arith | inr high ↦ omega arith ])

  pub HasTags-cut : HasTags (patched f base n false) begins2 tags2
  HasTags-cut = record {
    own = λ k e. elim (cases_eq k base) [
      | inl z ↦ absurd (neither e (ap (mark_at begins2) z ∙ c.base_mark))
      | inr ne ↦ elim (cases_eq k (base + n)) [
        | inl z ↦ elim (cases_lt n l) [
          | inl less ↦ subst (λ i. IsHole (patched f base n false) i (kept_at tags2 i)) (sym z)
              (subst (IsHole (patched f base n false) (base + n)) (sym (c.rest_first less))
              (taken-rest f (patched f base n false) base l n hole some few held others less))
          | inr more ↦
              let whole : n ≡ l = omega arith in
              let at : base + n ≡ base + l = omega arith in
              let r = t.own (base + n) (sym (c.whole whole) ∙ sym (ap (mark_at begins2) z) ∙ e) in
              let s = r.some in
              absurd (neither (r.each (base + n) (omega arith) (omega arith)) (ap f at ∙ hole.behind))
        ]
        | inr apart ↦
            let o = other-mark k (sym (c.marks k ne apart) ∙ e) ne in
            let s = o.0.some in
            subst (IsHole (patched f base n false) k) (sym (tag-beside k (kept_at tags k) k o.1 (omega arith)
            (omega arith))) o.0
      ]
    ];
    mark = λ x m h. elim (taken-all f (patched f base n false) base l n hole some few held others x m h) [
      | inl r ↦ ap (mark_at begins2) r.1 ∙ c.rest_mark r.0
      | inr b ↦ mark-beside x m b ∙ t.mark x m b.is
    ];
    first = λ x m h. elim (taken-all f (patched f base n false) base l n hole some few held others x m h) [
      | inl r ↦ ap (kept_at tags2) r.1 ∙ c.rest_first r.0 ∙ sym r.2
      | inr b ↦ let s = h.some in tag-beside x m x b (omega arith) (omega arith) ∙ t.first x m b.is
    ];
    last = λ x m h. elim (taken-all f (patched f base n false) base l n hole some few held others x m h) [
      | inl r ↦ let less = r.0 in let a = r.1 in let w = r.2 in let e : x + m - 1 ≡ base + l - 1 = omega arith in
          ap (kept_at tags2) e ∙ c.rest_last r.0 ∙ sym r.2
      | inr b ↦ let s = h.some in tag-beside x m (x + m - 1) b (omega arith) (omega arith) ∙ t.last x m b.is
    ];
    past = λ k past. less-free f (patched f base n false) base l n hole some few held others k (t.past k
        (let e = c.long in omega arith));
  }

  -- no length changed but at two cells
  pub begin-cut : (k : ℕ) → k ≢ base → (n < l → k ≢ base + n) → begin_at begins2 tags2 k ≡ begin_at begins tags k
  begin-cut k ne apart =
      let same : mark_at begins2 k ≡ mark_at begins k = elim (cases_eq k (base + n)) [
        | inr two ↦ c.marks k ne two
        | inl z ↦ elim (cases_lt n l) [
          | inl less ↦ absurd (apart less z)
          | inr more ↦ ap (mark_at begins2) z ∙ c.whole (omega arith) ∙ ap (mark_at begins) (sym z)
        ]
      ] in
      elim (true_or_false (mark_at begins k)) [
        | inl is ↦ let o = other-mark k is ne in let s = o.0.some in
            begin-own begins2 tags2 k (same ∙ is) ∙ tag-beside k (kept_at tags k) k o.1 (omega arith) (omega arith)
            ∙ sym (begin-own begins tags k is)
        | inr not_so ↦ begin-none begins2 tags2 k (same ∙ not_so) ∙ sym (begin-none begins tags k not_so)
      ]

  inside : base + l ≤ length tags
  inside = let s = hole.some in elim (cases_lt (base + l - 1) (length tags)) [
    | inl less ↦ omega arith
    | inr past ↦ absurd (neither (hole.each (base + l - 1) (omega arith) (omega arith)) (t.past (base + l - 1) past))
  ]

  long : length begins2 ≡ length tags2
  long = c.longs ∙ count ∙ sym c.long

  shown-new : (k : ℕ) → k < length tags → holder_at (told_cells begins2 tags2) k ≡ cell_by
      (patched f base n false k) (kept_at tags2 k)
  shown-new k less = get-cells (patched f base n false) begins2 tags2 long HasTags-cut k None (let e = c.long in
      omega arith)

  shown-old : (k : ℕ) → k < length tags → holder_at (told_cells begins tags) k ≡ cell_by (f k) (kept_at tags k)
  shown-old k less = get-cells f begins tags count t k None less

  pub AreTakenFrom-cut : AreTakenFrom (told_cells begins tags) (told_cells begins2 tags2) base n
  AreTakenFrom-cut = record {
    count = length-cells begins2 tags2 long ∙ c.long ∙ sym (length-cells begins tags count);
    held = λ k lo hi. let i = inside in ap is_some (shown-new k (omega arith)
        ∙ ap (λ b. cell_by b (kept_at tags2 k)) (held k lo hi));
    first = let i = inside in shown-new base (omega arith)
        ∙ ap (λ b. cell_by b (kept_at tags2 base)) (held base (omega arith) (omega arith)) ∙ ap Some c.base_tag;
    others = λ k out. elim (cases_lt k (length tags)) [
      | inr past ↦
          get_or_past (told_cells begins2 tags2) k None (let e = c.long in
          omega (arith, length-cells begins2 tags2 long))
          ∙ sym (get_or_past (told_cells begins tags) k None (omega (arith, length-cells begins tags count)))
      | inl less ↦ shown-new k less ∙ ap (λ b. cell_by b (kept_at tags2 k)) (others k out)
          ∙ kept k out (f k) refl ∙ sym (shown-old k less)
    ];
  }
    where
      kept : (k : ℕ) → (base ≤ k → k < base + n → ⊥) → (b : Bool) → f k ≡ b
          → cell_by b (kept_at tags2 k) ≡ cell_by b (kept_at tags k)
      kept k out true e = refl
      kept k out false e = ap Some (c.tags_out k (λ lo hi. neither (hole.each k lo hi) e))

-- n cells are taken from the front of a hole
pub AreHoles-taken : (begins begins2 : List Bool) (tags tags2 nodes nodes2 : List ℕ) (base n l y : ℕ)
    → AreHoles begins tags nodes → IsHole (free_at (told_cells begins tags)) base l → 0 < n → n ≤ l
    → IsCut begins begins2 tags tags2 base n l → (n < l → y ≡ base + n)
    → IsRenewed begins2 tags2 nodes nodes2 base y → AreHoles begins2 tags2 nodes2
AreHoles-taken begins begins2 tags tags2 nodes nodes2 base n l y h hole some few c at r =
    AreHoles-renewed begins begins2 tags tags2 nodes nodes2 base y (patched (free_at
    (told_cells begins tags)) base n false) h
    c.longs c.long
    (HasTags-cut (free_at (told_cells begins tags)) begins begins2 tags tags2 base n l h.count h.own hole some few c)
    (λ k one two. begin-cut (free_at (told_cells begins tags)) begins begins2 tags tags2 base n l h.count h.own hole
    some few c
    k one (λ less e. two (e ∙ sym (at less)))) r

-- where a hole that is long enough begins
pub record IsRoom (begins : List Bool) (tags : List ℕ) (base n : ℕ) : Type 0 where
  pub hole : IsHole (free_at (told_cells begins tags)) base (kept_at tags base)
  pub few : n ≤ kept_at tags base
  pub inside : base + kept_at tags base ≤ length tags

pub IsRoom-is : (begins : List Bool) (tags nodes : List ℕ) (base n : ℕ) → AreHoles begins tags nodes → 0 < n
    → n ≤ begin_at begins tags base → IsRoom begins tags base n
IsRoom-is begins tags nodes base n h some room = elim (true_or_false (mark_at begins base)) [
  | inr not_so ↦ let z = begin-none begins tags base not_so in absurd (omega arith)
  | inl is ↦
      let own = begin-own begins tags base is in
      let hole = h.own.own base is in
      let s = hole.some in
      record {
        hole = hole;
        few = omega arith;
        inside = elim (cases_lt (base + kept_at tags base - 1) (length tags)) [
          | inl less ↦ omega arith
          | inr past ↦ absurd (neither (hole.each (base + kept_at tags base - 1) (omega arith) (omega arith))
              (h.own.past (base + kept_at tags base - 1) past))
        ];
      }
]

-- all of it
module _ (begins begins2 : List Bool) (tags tags2 nodes : List ℕ) (base n : ℕ) (h : AreHoles begins tags nodes)
    (some : 0 < n) (room : n ≤ begin_at begins tags base)
    (marks_is : begins2 ≡ cut_marks begins base n (kept_at tags base))
    (tags_is : tags2 ≡ cut_tags tags base n (kept_at tags base)) where
  cut : IsCut begins begins2 tags tags2 base n (kept_at tags base)
  cut =
      let r = IsRoom-is begins tags nodes base n h some room in
      subst (λ b. IsCut begins b tags tags2 base n (kept_at tags base)) (sym marks_is)
      (subst (λ t. IsCut begins (cut_marks begins base n (kept_at tags base)) tags t base n (kept_at tags base))
      (sym tags_is)
      (IsCut-is begins tags base n (kept_at tags base) h.count some r.few r.inside))

  pub taken-cells : AreTakenFrom (told_cells begins tags) (told_cells begins2 tags2) base n
  taken-cells = let r = IsRoom-is begins tags nodes base n h some room in
      AreTakenFrom-cut (free_at (told_cells begins tags)) begins begins2 tags tags2 base n
      (kept_at tags base) h.count h.own r.hole
      some r.few cut

  pub taken-holes : (nodes2 : List ℕ) (y : ℕ) → (n < kept_at tags base → y ≡ base + n)
      → IsRenewed begins2 tags2 nodes nodes2 base y → AreHoles begins2 tags2 nodes2
  taken-holes nodes2 y at renewed = let r = IsRoom-is begins tags nodes base n h some room in
      AreHoles-taken begins begins2 tags tags2 nodes nodes2 base n
      (kept_at tags base) y h r.hole some r.few cut at renewed
