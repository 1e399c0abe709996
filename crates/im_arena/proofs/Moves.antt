-- A node moved from the front of one chain to the end of another.
use Rattle.std.proofs.Common.{◌≡◌, ℕ, zero, suc, ◌+◌, ◌-◌, ◌<◌, Bool, ◌≢◌, [], ◌∷◌, ◌++◌, nat_lt, sym, refl, ap, ◌∙◌}
use Rattle.std.proofs.Common.{subst, inl, inr, arith}
use Rattle.std.proofs.lemmas.Bool.{cases_eq}
use Rattle.im_arena.specs.Chain.{along, Chains, place_from}

-- links that agree on the way lead to one node
pub place_from-same : (f g : ℕ → ℕ) (at j : ℕ) → ((i : ℕ) → i < j → g (place_from f at i) ≡ f (place_from f at i))
    → place_from g at j ≡ place_from f at j
place_from-same f g at zero h = refl
place_from-same f g at (suc j) h =
    let first : g at ≡ f at = h 0 (omega arith) in
    ap (λ p. place_from g p j) first ∙ place_from-same f g (f at) j (λ i lt. h (suc i) (omega arith))

-- the last link of the way, taken by itself
pub place_from-last : (f : ℕ → ℕ) (at i : ℕ) → place_from f at (suc i) ≡ f (place_from f at i)
place_from-last f at zero = refl
place_from-last f at (suc i) = place_from-last f (f at) i

pub along-same : {X : Type 0} (item item2 : ℕ → X) (f g : ℕ → ℕ) (at n : ℕ)
    → ((i : ℕ) → i < n → item2 (place_from f at i) ≡ item (place_from f at i))
    → ((i : ℕ) → i + 1 < n → g (place_from f at i) ≡ f (place_from f at i)) → along item2 g at n ≡ along item f at n
along-same item item2 f g at zero same h = refl
along-same {X} item item2 f g at (suc n) same h = by_rest n (λ i lt. same i lt) (λ i lt. h i lt)
    (along-same item item2 f g (f at) n (λ i lt. same (suc i) (omega arith)) (λ i lt. h (suc i) (omega arith)))
  where
    by_rest : (n : ℕ) → ((i : ℕ) → i < suc n → item2 (place_from f at i) ≡ item (place_from f at i))
        → ((i : ℕ) → i + 1 < suc n → g (place_from f at i) ≡ f (place_from f at i)) → along item2 g (f at) n
        ≡ along item f (f at) n → along item2 g at (suc n) ≡ along item f at (suc n)
    by_rest zero same h rest = ap (λ (x : X). x ∷ []) (same 0 (omega arith))
    by_rest (suc n) same h rest =
        let first : g at ≡ f at = h 0 (omega arith) in
        let head : item2 at ≡ item at = same 0 (omega arith) in
        let tail : along item2 g (g at) (suc n)
        ≡ along item f (f at) (suc n) = ap (λ p. along item2 g p (suc n)) first ∙ rest in
        ap (λ (x : X). x ∷ along item2 g (g at) (suc n)) head ∙ ap (λ xs. item at ∷ xs) tail

pub along_push : {X : Type 0} (item : ℕ → X) (f : ℕ → ℕ) (at n : ℕ) → along item f at (suc n)
    ≡ along item f at n ++ item (place_from f at n) ∷ []
along_push item f at zero = refl
along_push item f at (suc n) = ap (λ xs. item at ∷ xs) (along_push item f (f at) n)

-- the first node of the chain `from` becomes the last of the chain `to`
pub record Moves (rows none from to : ℕ) (next : ℕ → ℕ) (used : ℕ → Bool) (first last count : ℕ → ℕ) (next2 : ℕ → ℕ)
    (used2 : ℕ → Bool) (first2 last2 count2 : ℕ → ℕ) : Type 0 where
  pub some : 0 < count from
  pub apart : from ≢ to
  pub first_from : first2 from ≡ next (first from)
  pub last_from : 1 < count from → last2 from ≡ last from
  pub last_from_one : count from ≡ 1 → last2 from ≡ none
  pub count_from : count2 from + 1 ≡ count from
  pub first_to : 0 < count to → first2 to ≡ first to
  pub first_to_empty : count to ≡ 0 → first2 to ≡ first from
  pub last_to : last2 to ≡ first from
  pub count_to : count2 to ≡ count to + 1
  pub first_other : (b : ℕ) → b ≢ from → b ≢ to → first2 b ≡ first b
  pub last_other : (b : ℕ) → b ≢ from → b ≢ to → last2 b ≡ last b
  pub count_other : (b : ℕ) → b ≢ from → b ≢ to → count2 b ≡ count b
  pub next_moved : next2 (first from) ≡ none
  pub next_last : 0 < count to → next2 (last to) ≡ first from
  pub next_other : (n : ℕ) → n ≢ first from → (0 < count to → n ≢ last to) → next2 n ≡ next n
  pub used_moved : used2 (first from) ≡ nat_lt (to + 1) rows
  pub used_other : (n : ℕ) → n ≢ first from → used2 n ≡ used n

module _ (nodes rows none from to : ℕ) (next : ℕ → ℕ) (used : ℕ → Bool) (first last count : ℕ → ℕ) (next2 : ℕ → ℕ)
    (used2 : ℕ → Bool) (first2 last2 count2 : ℕ → ℕ) (sound : Chains nodes rows none next used first last count)
    (m : Moves rows none from to next used first last count next2 used2 first2 last2 count2) (in_from : from < rows)
    (in_to : to < rows) where
  -- each place but the first of `from` keeps its node
  pub not_moved : (b i : ℕ) → b < rows → i < count b → (b ≡ from → 0 < i) → place_from next (first b) i ≢ first from
  not_moved b i within lt later same =
      let both = sound.apart b from i 0 within in_from lt m.some same in
      let some = later both.0 in
      let zero = both.1 in
      absurd (omega arith)

  -- the last node of a row that isn't empty
  last_is : (b : ℕ) → b < rows → 0 < count b → last b ≡ place_from next (first b) (count b - 1)
  last_is b within some = sound.ends b (count b - 1) within (omega arith)

  -- no link is rewritten but that of the moved node and the last of `to`
  pub link_kept : (b i : ℕ) → b < rows → (b ≡ from → 0 < i) → i + 1 < count b → next2 (place_from next (first b) i)
      ≡ next (place_from next (first b) i)
  link_kept b i within later lt =
      m.next_other _ (not_moved b i within (omega arith) later) (λ some same.
      let both = sound.apart b to i (count to - 1) within in_to (omega arith) (omega arith)
      (same ∙ last_is to in_to some) in
      let bs = both.0 in let is = both.1 in
      let counts : count b ≡ count to = ap count bs in
      omega arith)

  pub place_other : (b i : ℕ) → b < rows → b ≢ from → b ≢ to → i < count b → place_from next2 (first2 b) i
      ≡ place_from next (first b) i
  place_other b i within nf nt lt =
      ap (λ p. place_from next2 p i) (m.first_other b nf nt)
      ∙ place_from-same next next2 (first b) i (λ j below. link_kept b j within (λ e. absurd (nf e)) (omega arith))

  pub place_front : (i : ℕ) → i + 1 < count from → place_from next2 (first2 from) i
      ≡ place_from next (first from) (suc i)
  place_front i lt =
      ap (λ p. place_from next2 p i) m.first_from
      ∙ place_from-same next next2 (next (first from)) i
      (λ j below. link_kept from (suc j) in_from (λ e. omega arith) (omega arith))

  pub place_old : (i : ℕ) → i < count to → place_from next2 (first2 to) i ≡ place_from next (first to) i
  place_old i lt =
      ap (λ p. place_from next2 p i) (m.first_to (omega arith))
      ∙ place_from-same next next2 (first to) i
      (λ j below. link_kept to j in_to (λ e. absurd (m.apart (sym e))) (omega arith))

  pub place_new : (k : ℕ) → count to ≡ k → place_from next2 (first2 to) k ≡ first from
  place_new zero e = m.first_to_empty e
  place_new (suc k) e =
      let there = sound.ends to k in_to (omega arith) in
      place_from-last next2 (first2 to) k ∙ ap next2 (place_old k (omega arith) ∙ sym there) ∙ m.next_last (omega arith)

  -- where a place was before the move
  pub data Was (b i o p : ℕ) : Type 0 where
    front : b ≡ from → o ≡ from → p ≡ i + 1 → Was b i o p
    moved : b ≡ to → i ≡ count to → o ≡ from → p ≡ 0 → Was b i o p
    stayed : b ≢ from → o ≡ b → p ≡ i → Was b i o p

  pub record Origin (b i : ℕ) : Type 0 where
    pub o : ℕ
    pub p : ℕ
    pub within : o < rows
    pub inside : p < count o
    pub place : place_from next2 (first2 b) i ≡ place_from next (first o) p
    pub was : Was b i o p

  pub origin : (b i : ℕ) → b < rows → i < count2 b → Origin b i
  origin b i within lt = elim (cases_eq b from) [
    | inl is ↦
        let counts : count2 b ≡ count2 from = ap count2 is in
        let one = m.count_from in
        record {
          o = from;
          p = suc i;
          within = in_from;
          inside = omega arith;
          place = ap (λ x. place_from next2 (first2 x) i) is ∙ place_front i (omega arith);
          was = front is refl (omega arith);
        }
    | inr not_from ↦ elim (cases_eq b to) [
      | inl is ↦
          let counts : count2 b ≡ count2 to = ap count2 is in
          let one = m.count_to in
          elim (cases_eq i (count to)) [
            | inl end ↦ record {
              o = from;
              p = 0;
              within = in_from;
              inside = m.some;
              place = ap (λ x. place_from next2 (first2 x) i) is ∙ place_new i (sym end);
              was = moved is end refl refl;
            }
            | inr before ↦ record {
              o = b;
              p = i;
              within = within;
              inside = subst (λ x. i < count x) (sym is) (omega arith);
              place = ap (λ x. place_from next2 (first2 x) i) is ∙ place_old i (omega arith)
                  ∙ ap (λ x. place_from next (first x) i) (sym is);
              was = stayed not_from refl refl;
            }
          ]
      | inr not_to ↦
          let counts = m.count_other b not_from not_to in
          record {
            o = b;
            p = i;
            within = within;
            inside = omega arith;
            place = place_other b i within not_from not_to (omega arith);
            was = stayed not_from refl refl;
          }
    ]
  ]

  same_was : (b i c j o p q r : ℕ) → Was b i o p → Was c j q r → o ≡ q → p ≡ r → (b ≡ c) × (i ≡ j)
  same_was b i c j o p q r (front e1 e2 e3) (front f1 f2 f3) oq pr = (omega arith, omega arith)
  same_was b i c j o p q r (front e1 e2 e3) (moved f1 f2 f3 f4) oq pr = absurd (omega arith)
  same_was b i c j o p q r (front e1 e2 e3) (stayed f1 f2 f3) oq pr = absurd (f1 (omega arith))
  same_was b i c j o p q r (moved e1 e2 e3 e4) (front f1 f2 f3) oq pr = absurd (omega arith)
  same_was b i c j o p q r (moved e1 e2 e3 e4) (moved f1 f2 f3 f4) oq pr = (omega arith, omega arith)
  same_was b i c j o p q r (moved e1 e2 e3 e4) (stayed f1 f2 f3) oq pr = absurd (f1 (omega arith))
  same_was b i c j o p q r (stayed e1 e2 e3) (front f1 f2 f3) oq pr = absurd (e1 (omega arith))
  same_was b i c j o p q r (stayed e1 e2 e3) (moved f1 f2 f3 f4) oq pr = absurd (e1 (omega arith))
  same_was b i c j o p q r (stayed e1 e2 e3) (stayed f1 f2 f3) oq pr = (omega arith, omega arith)

  -- the mark of the node that is now at a place
  mark_now : (b i o p : ℕ) → o < rows → p < count o → Was b i o p → used2 (place_from next (first o) p)
      ≡ nat_lt (b + 1) rows
  mark_now b i o p within inside (front e1 e2 e3) =
      m.used_other _ (not_moved o p within inside (λ e. omega arith)) ∙ sound.marked o p within inside
      ∙ ap (λ x. nat_lt (x + 1) rows) (e2 ∙ sym e1)
  mark_now b i o p within inside (moved e1 e2 e3 e4) =
      ap used2 (ap (λ x. place_from next (first x) p) e3 ∙ ap (λ x. place_from next (first from) x) e4) ∙ m.used_moved
      ∙ ap (λ x. nat_lt (x + 1) rows) (sym e1)
  mark_now b i o p within inside (stayed e1 e2 e3) =
      m.used_other _ (not_moved o p within inside (λ e. absurd (e1 (sym e2 ∙ e)))) ∙ sound.marked o p within inside
      ∙ ap (λ x. nat_lt (x + 1) rows) e2

  -- where the node of a place is now
  record Target (o p : ℕ) : Type 0 where
    b : ℕ
    i : ℕ
    within : b < rows
    inside : i < count2 b
    place : place_from next2 (first2 b) i ≡ place_from next (first o) p

  from_front : (p : ℕ) → p < count from → Target from p
  from_front zero lt = record {
    b = to;
    i = count to;
    within = in_to;
    inside = omega (arith, m.count_to);
    place = place_new (count to) refl;
  }
  from_front (suc p) lt = record {
    b = from;
    i = p;
    within = in_from;
    inside = omega (arith, m.count_from);
    place = place_front p (omega arith);
  }

  target : (o p : ℕ) → o < rows → p < count o → Target o p
  target o p within lt = elim (cases_eq o from) [
    | inl is ↦ subst (λ x. Target x p) (sym is) (from_front p (subst (λ x. p < count x) is lt))
    | inr not_from ↦ elim (cases_eq o to) [
      | inl is ↦ subst (λ x. Target x p) (sym is)
          (let inside : p < count to = subst (λ x. p < count x) is lt in record {
            b = to;
            i = p;
            within = in_to;
            inside = omega (arith, m.count_to);
            place = place_old p inside;
          })
      | inr not_to ↦ record {
        b = o;
        i = p;
        within = within;
        inside = omega (arith, m.count_other o not_from not_to);
        place = place_other o p within not_from not_to lt;
      }
    ]
  ]

  -- a last node other than that of `to` links to none as before
  last_kept : (b : ℕ) → b < rows → 0 < count b → b ≢ to → (b ≡ from → 1 < count b) → next2 (last b) ≡ none
  last_kept b within some not_to longer =
      let there = last_is b within some in
      m.next_other (last b)
      (λ same. not_moved b (count b - 1) within (omega arith) (λ e. let l = longer e in omega arith) (sym there ∙ same))
      (λ any same. not_to
      (sound.apart b to (count b - 1) (count to - 1) within in_to (omega arith) (omega arith)
      (sym there ∙ same ∙ last_is to in_to any)).0)
      ∙ sound.tail b within some

  -- the row `from` had one node
  emptied : count2 from ≡ 0 → first2 from ≡ none
  emptied e =
      let one = m.count_from in
      let there : last from ≡ first from = sound.ends from 0 in_from (omega arith) in
      m.first_from ∙ ap next (sym there) ∙ sound.tail from in_from m.some

  pub Chains-moved : Chains nodes rows none next2 used2 first2 last2 count2
  Chains-moved = record {
    within = λ a i al il. let x = origin a i al il in rw x.place (sound.within x.o x.p x.within x.inside);
    apart = λ a b i j al bl il jl same.
        let x = origin a i al il in
        let y = origin b j bl jl in
        let both = sound.apart x.o y.o x.p y.p x.within y.within x.inside y.inside (sym x.place ∙ same ∙ y.place) in
        same_was a i b j x.o x.p y.o y.p x.was y.was both.0 both.1;
    covered = λ n lt unreached. sound.covered n lt (λ o p ol pl same.
        let t = target o p ol pl in
        unreached t.b t.i t.within t.inside (t.place ∙ same));
    marked = λ a i al il.
        let x = origin a i al il in
        ap used2 x.place ∙ mark_now a i x.o x.p x.within x.inside x.was;
    ends = λ a i al counted. elim (cases_eq a from) [
      | inl is ↦
          let counts : count2 a ≡ count2 from = ap count2 is in
          let one = m.count_from in
          let counted_from : count from ≡ suc i + 1 = omega arith in
          ap last2 is ∙ m.last_from (omega arith) ∙ sound.ends from (suc i) in_from counted_from
          ∙ sym (ap (λ x. place_from next2 (first2 x) i) is ∙ place_front i (omega arith))
      | inr not_from ↦ elim (cases_eq a to) [
        | inl is ↦
            let counts : count2 a ≡ count2 to = ap count2 is in
            let one = m.count_to in
            ap last2 is ∙ m.last_to ∙ sym (ap (λ x. place_from next2 (first2 x) i) is ∙ place_new i (omega arith))
        | inr not_to ↦
            let counts = m.count_other a not_from not_to in
            m.last_other a not_from not_to ∙ sound.ends a i al (omega arith)
            ∙ sym (place_other a i al not_from not_to (omega arith))
      ]
    ];
    tail = λ a al some. elim (cases_eq a from) [
      | inl is ↦
          let counts : count2 a ≡ count2 from = ap count2 is in
          let one = m.count_from in
          ap (λ x. next2 (last2 x)) is ∙ ap next2 (m.last_from (omega arith))
          ∙ last_kept from in_from m.some m.apart (λ _. omega arith)
      | inr not_from ↦ elim (cases_eq a to) [
        | inl is ↦ ap (λ x. next2 (last2 x)) is ∙ ap next2 m.last_to ∙ m.next_moved
        | inr not_to ↦
            let counts = m.count_other a not_from not_to in
            ap next2 (m.last_other a not_from not_to) ∙ last_kept a al (omega arith) not_to (λ e. absurd (not_from e))
      ]
    ];
    no_first = λ a al empty. elim (cases_eq a from) [
      | inl is ↦ ap first2 is ∙ emptied (ap count2 (sym is) ∙ empty)
      | inr not_from ↦ elim (cases_eq a to) [
        | inl is ↦
            let counts : count2 a ≡ count2 to = ap count2 is in
            let one = m.count_to in
            absurd (omega arith)
        | inr not_to ↦ m.first_other a not_from not_to
            ∙ sound.no_first a al (sym (m.count_other a not_from not_to) ∙ empty)
      ]
    ];
    no_last = λ a al empty. elim (cases_eq a from) [
      | inl is ↦
          let counts : count2 a ≡ count2 from = ap count2 is in
          let one = m.count_from in
          ap last2 is ∙ m.last_from_one (omega arith)
      | inr not_from ↦ elim (cases_eq a to) [
        | inl is ↦
            let counts : count2 a ≡ count2 to = ap count2 is in
            let one = m.count_to in
            absurd (omega arith)
        | inr not_to ↦ m.last_other a not_from not_to
            ∙ sound.no_last a al (sym (m.count_other a not_from not_to) ∙ empty)
      ]
    ];
    few = sound.few;
  }

  -- only what the moved node holds is written
  module _ {X : Type 0} (item item2 : ℕ → X) (kept : (n : ℕ) → n ≢ first from → item2 n ≡ item n) where
    -- what each chain holds after the move
    pub along_other : (b : ℕ) → b < rows → b ≢ from → b ≢ to → along item2 next2 (first2 b) (count2 b)
        ≡ along item next (first b) (count b)
    along_other b within nf nt =
        ap (λ p. along item2 next2 p (count2 b)) (m.first_other b nf nt)
        ∙ ap (λ n. along item2 next2 (first b) n) (m.count_other b nf nt)
        ∙ along-same item item2 next next2 (first b) (count b)
        (λ i lt. kept _ (not_moved b i within lt (λ e. absurd (nf e))))
        (λ i lt. link_kept b i within (λ e. absurd (nf e)) lt)

    pub along_from : along item next (first from) (count from)
        ≡ item (first from) ∷ along item2 next2 (first2 from) (count2 from)
    along_from =
        let counted : count from ≡ suc (count2 from) = omega (arith, m.count_from) in
        let rest : along item2 next2 (first2 from) (count2 from) ≡ along item next (next (first from)) (count2 from) =
        ap (λ p. along item2 next2 p (count2 from)) m.first_from
        ∙ along-same item item2 next next2 (next (first from)) (count2 from)
        (λ i lt. kept _ (not_moved from (suc i) in_from (omega arith) (λ _. omega arith)))
        (λ i lt. link_kept from (suc i) in_from (λ _. omega arith) (omega arith)) in
        ap (λ n. along item next (first from) n) counted ∙ ap (λ xs. item (first from) ∷ xs) (sym rest)

    pub along_to : along item2 next2 (first2 to) (count2 to)
        ≡ along item next (first to) (count to) ++ item2 (first from) ∷ []
    along_to =
        let counted : count2 to ≡ suc (count to) = omega (arith, m.count_to) in
        ap (λ n. along item2 next2 (first2 to) n) counted
        ∙ along_push item2 next2 (first2 to) (count to)
        ∙ ap (λ x. along item2 next2 (first2 to) (count to) ++ x ∷ []) (ap item2 (place_new (count to) refl))
        ∙ ap (λ xs. xs ++ item2 (first from) ∷ []) (front (count to) refl)
      where
        front : (n : ℕ) → count to ≡ n → along item2 next2 (first2 to) n ≡ along item next (first to) n
        front zero e = refl
        front (suc n) e =
            ap (λ p. along item2 next2 p (suc n)) (m.first_to (omega arith))
            ∙ along-same item item2 next next2 (first to) (suc n)
            (λ i lt. kept _ (not_moved to i in_to (omega arith) (λ e. absurd (m.apart (sym e)))))
            (λ i lt. link_kept to i in_to (λ e. absurd (m.apart (sym e))) (omega arith))
