-- Holes as rows of a function that tells which cells are free: how they lie, and what becomes of them where cells are
-- taken
-- and given back.
use Rattle.std.proofs.Common.{◌≡◌, ℕ, zero, suc, ◌+◌, ◌-◌, ◌<◌, ◌≤◌, Bool, true, false, ◌≢◌, ◌⊎◌, sym, ap, ◌∙◌, inl}
use Rattle.std.proofs.Common.{inr, arith}
use Rattle.std.proofs.lemmas.Bool.{cases_eq, cases_lt}
use Rattle.im_laws.proofs.Tests.{true_or_false}
use Rattle.im_holes.specs.Holes.{IsHole}

pub neither : {b : Bool} → b ≡ true → b ≡ false → ⊥
neither t f = let e : true ≡ false = sym t ∙ f in absurd (cc)

module _ (f : ℕ → Bool) where
  -- a hole that has a cell of another one doesn't begin before it
  not-before : (a n b m k : ℕ) → IsHole f a n → IsHole f b m → a ≤ k → k < a + n → b ≤ k → a < b → ⊥
  not-before a n (suc b) m k h g lo hi low less = neither (h.each b (omega arith) (omega arith)) (g.before b
      (omega arith))
  not-before a n zero m k h g lo hi low less = omega arith

  -- nor does it end behind it
  not-behind : (a n b m : ℕ) → IsHole f a n → IsHole f b m → a ≡ b → m < n → ⊥
  not-behind a n b m h g e less = neither (h.each (b + m) (omega arith) (omega arith)) g.behind

  -- two holes that share a cell are the same
  pub same-hole : (a n b m k : ℕ) → IsHole f a n → IsHole f b m → a ≤ k → k < a + n → b ≤ k → k < b + m
      → (a ≡ b) × (n ≡ m)
  same-hole a n b m k h g lo hi low high =
      let e : a ≡ b = elim (cases_lt a b) [
        | inl less ↦ absurd (not-before a n b m k h g lo hi low less)
        | inr more ↦ elim (cases_lt b a) [
          | inl less ↦ absurd (not-before b m a n k g h low high lo less)
          | inr upto ↦ omega arith
        ]
      ] in
      let l : n ≡ m = elim (cases_lt n m) [
        | inl less ↦ absurd (not-behind b m a n g h (sym e) less)
        | inr more ↦ elim (cases_lt m n) [
          | inl less ↦ absurd (not-behind a n b m h g e less)
          | inr upto ↦ omega arith
        ]
      ] in
      (e, l)

  -- from where on the cells up to one are free
  pub record FreeTo (k base : ℕ) : Type 0 where
    pub upto : base ≤ k
    pub each : (i : ℕ) → base ≤ i → i ≤ k → f i ≡ true
    pub before : (i : ℕ) → i + 1 ≡ base → f i ≡ false

  pub free-to : (k : ℕ) → f k ≡ true → (base : ℕ) × FreeTo k base
  free-to zero e = (
    0,
    record {
      upto = omega arith;
      each = λ i lo hi. let z : i ≡ 0 = omega arith in ap f z ∙ e;
      before = λ i one. absurd (omega arith);
    },
  )
  free-to (suc k) e = elim (true_or_false (f k)) [
    | inl free ↦ further (free-to k free)
    | inr held ↦ (
      suc k,
      record {
        upto = omega arith;
        each = λ i lo hi. let z : i ≡ suc k = omega arith in ap f z ∙ e;
        before = λ i one. let z : i ≡ k = omega arith in ap f z ∙ held;
      },
    )
  ]
    where
      further : ((base : ℕ) × FreeTo k base) → (base : ℕ) × FreeTo (suc k) base
      further r = (
        r.0,
        record {
          upto = let u = r.1.upto in omega arith;
          each = λ i lo hi. elim (cases_eq i (suc k)) [
            | inl z ↦ ap f z ∙ e
            | inr ne ↦ r.1.each i lo (omega arith)
          ];
          before = r.1.before;
        },
      )

  -- how many free cells there are from one on
  pub record FreeFrom (k n : ℕ) : Type 0 where
    pub each : (i : ℕ) → k ≤ i → i < k + n → f i ≡ true
    pub behind : f (k + n) ≡ false

  free-here : (k : ℕ) → f k ≡ false → (n : ℕ) × FreeFrom k n
  free-here k held = (
    0,
    record {
      each = λ i lo hi. absurd (omega arith);
      behind = let z : k + 0 ≡ k = omega arith in ap f z ∙ held;
    },
  )

  free-step : (k : ℕ) → f k ≡ true → ((n : ℕ) × FreeFrom (suc k) n) → (n : ℕ) × FreeFrom k n
  free-step k free r = (
    suc r.0,
    record {
      each = λ i lo hi. elim (cases_eq i k) [
        | inl z ↦ ap f z ∙ free
        | inr ne ↦ r.1.each i (omega arith) (omega arith)
      ];
      behind = let z : k + suc r.0 ≡ suc k + r.0 = omega arith in ap f z ∙ r.1.behind;
    },
  )

  pub free-from : (left k cells : ℕ) → cells ≤ k + left → ((i : ℕ) → cells ≤ i → f i ≡ false)
      → (n : ℕ) × FreeFrom k n
  free-from zero k cells few past = free-here k (past k (omega arith))
  free-from (suc left) k cells few past = elim (true_or_false (f k)) [
    | inl free ↦ free-step k free (free-from left (suc k) cells (omega arith) past)
    | inr held ↦ free-here k held
  ]

  -- a hole that has this cell
  pub record HoleAt (k : ℕ) : Type 0 where
    pub base : ℕ
    pub n : ℕ
    pub is : IsHole f base n
    pub low : base ≤ k
    pub high : k < base + n

  -- each free cell lies in one
  pub hole-at : (cells : ℕ) → ((i : ℕ) → cells ≤ i → f i ≡ false) → (k : ℕ) → f k ≡ true → HoleAt k
  hole-at cells past k free = joined (free-to k free) (free-from cells k cells (omega arith) past)
    where
      joined : ((base : ℕ) × FreeTo k base) → ((n : ℕ) × FreeFrom k n) → HoleAt k
      joined l r =
          let upto = l.1.upto in
          let more : 0 < r.0 = elim (cases_lt 0 r.0) [
            | inl some ↦ some
            | inr none ↦ let z : k + r.0 ≡ k = omega arith in absurd (neither free (sym (ap f z) ∙ r.1.behind))
          ] in
          record {
            base = l.0;
            n = k + r.0 - l.0;
            is = record {
              some = omega arith;
              each = λ i lo hi. elim (cases_lt k i) [
                | inl past_k ↦ r.1.each i (omega arith) (omega arith)
                | inr upto_k ↦ l.1.each i lo upto_k
              ];
              before = l.1.before;
              behind = let z : l.0 + (k + r.0 - l.0) ≡ k + r.0 = omega arith in ap f z ∙ r.1.behind;
            };
            low = upto;
            high = omega arith;
          }

-- a hole, by another function that tells the same
pub IsHole-by : (f g : ℕ → Bool) → ((k : ℕ) → f k ≡ g k) → (a n : ℕ) → IsHole f a n → IsHole g a n
IsHole-by f g same a n h = record {
  some = h.some;
  each = λ k lo hi. sym (same k) ∙ h.each k lo hi;
  before = λ k one. sym (same k) ∙ h.before k one;
  behind = sym (same (a + n)) ∙ h.behind;
}

-- a hole of which no cell changed, and of whose neighbours none became free
pub IsHole-kept : (f g : ℕ → Bool) (a n : ℕ) → IsHole f a n
    → ((k : ℕ) → a ≤ k → k < a + n → g k ≡ f k)
    → ((k : ℕ) → k + 1 ≡ a → g k ≡ false) → g (a + n) ≡ false → IsHole g a n
IsHole-kept f g a n h same before behind = record {
  some = h.some;
  each = λ k lo hi. same k lo hi ∙ h.each k lo hi;
  before = before;
  behind = behind;
}

-- a cell of a row that is beside another one isn't in that
pub not-there : (x m a z i : ℕ) → (x + m < a) ⊎ (z < x) → x ≤ i → i < x + m → a ≤ i → i < z → ⊥
not-there x m a z i apart lo hi from upto = elim apart [ inl low ↦ omega arith | inr high ↦ omega arith ]

-- cells of the front of a hole are taken
module _ (f g : ℕ → Bool) (h l n : ℕ) (hole : IsHole f h l) (some : 0 < n) (few : n ≤ l)
    (held : (k : ℕ) → h ≤ k → k < h + n → g k ≡ false)
    (others : (k : ℕ) → (h ≤ k → k < h + n → ⊥) → g k ≡ f k) where
  -- no cell became free
  pub less-free : (k : ℕ) → f k ≡ false → g k ≡ false
  less-free k e = elim (cases_lt k h) [
    | inl low ↦ others k (λ a b. omega arith) ∙ e
    | inr from ↦ elim (cases_lt k (h + n)) [
      | inl inside ↦ held k from inside
      | inr past ↦ others k (λ a b. omega arith) ∙ e
    ]
  ]

  -- nor was one free before that isn't
  was-free : (k : ℕ) → g k ≡ true → f k ≡ true
  was-free k e = elim (true_or_false (f k)) [
    | inl t ↦ t
    | inr not_so ↦ absurd (neither e (less-free k not_so))
  ]

  -- what is left of it is a hole
  pub taken-rest : n < l → IsHole g (h + n) (l - n)
  taken-rest less = record {
    some = omega arith;
    each = λ k lo hi. others k (λ a b. omega arith) ∙ hole.each k (omega arith) (omega arith);
    before = λ k one. held k (omega arith) (omega arith);
    behind = let e : h + n + (l - n) ≡ h + l = omega arith in ap g e ∙ less-free (h + l) hole.behind;
  }

  -- each other hole stays, beside it
  pub record Beside (x m : ℕ) : Type 0 where
    pub is : IsHole f x m
    pub apart : (x + m < h) ⊎ (h + l < x)

  beside : (x m : ℕ) → IsHole f x m → x ≢ h → Beside x m
  beside x m r ne = record { is = r; apart = side }
    where
      shares : (k : ℕ) → x ≤ k → k < x + m → h ≤ k → k < h + l → ⊥
      shares k a b c d = ne ((same-hole f x m h l k r hole a b c d).0)

      touches : (x + m ≢ h) × (h + l ≢ x)
      touches = (
        (λ e. neither (let s = hole.some in hole.each (x + m) (omega arith) (omega arith)) r.behind),
        (λ e. neither (let s = r.some in r.each (h + l) (omega arith) (omega arith)) hole.behind),
      )

      side : (x + m < h) ⊎ (h + l < x)
      side =
          let s = hole.some in let t = r.some in let u = touches in
          elim (cases_lt (x + m) h) [
            | inl low ↦ inl low
            | inr more ↦ elim (cases_lt (h + l) x) [
              | inl high ↦ inr high
              | inr less ↦ elim (cases_lt x h) [
                | inl before ↦ absurd (shares h (omega arith) (by_ne (x + m) h u.0 more) (omega arith) (omega arith))
                | inr from ↦ absurd (shares x (omega arith) (omega arith) from (by_ne (h + l) x u.1 less))
              ]
            ]
          ]
        where
          by_ne : (a b : ℕ) → a ≢ b → b ≤ a → b < a
          by_ne a b apart le = elim (cases_lt b a) [
            | inl lt ↦ lt
            | inr ge ↦ absurd (apart (omega arith))
          ]

  pub taken-others : (x m : ℕ) → IsHole f x m → x ≢ h → IsHole g x m × Beside x m
  taken-others x m r ne =
      let b = beside x m r ne in
      let t = r.some in
      let out : (k : ℕ) → x ≤ k → k < x + m → g k ≡ f k = λ k lo hi. others k (λ c d. elim (b.apart) [
        | inl low ↦ omega arith
        | inr high ↦ omega arith
      ]) in
      (IsHole-kept f g x m r out (λ k one. less-free k (r.before k one)) (less-free (x + m) r.behind), b)

  -- and there is no further one
  pub taken-all : (x m : ℕ) → IsHole g x m → ((n < l) × (x ≡ h + n) × (m ≡ l - n)) ⊎ Beside x m
  taken-all x m r = elim (cases_lt n l) [
    | inl less ↦ elim (meets (h + n) (h + l)) [
      | inl k ↦ let s = same-hole g x m (h + n) (l - n) k.0 r (taken-rest less) k.1 k.2 k.3
          (let u = k.4 in omega arith) in inl (less, s.0, s.1)
      | inr out ↦ inr (was x m r out)
    ]
    | inr whole ↦ inr (was x m r (λ k a b c d. omega arith))
  ]
    where
      meets : (from to : ℕ) → ((k : ℕ) × (x ≤ k) × (k < x + m) × (from ≤ k) × (k < to))
          ⊎ ((k : ℕ) → x ≤ k → k < x + m → from ≤ k → k < to → ⊥)
      meets from to = elim (cases_lt x from) [
        | inl low ↦ elim (cases_lt from (x + m)) [
          | inl inside ↦ elim (cases_lt from to) [
            | inl some ↦ inl (from, omega arith, inside, omega arith, some)
            | inr none ↦ inr (λ k a b c d. omega arith)
          ]
          | inr out ↦ inr (λ k a b c d. omega arith)
        ]
        | inr high ↦ elim (cases_lt x to) [
          | inl inside ↦ let s = r.some in inl (x, omega arith, omega arith, high, inside)
          | inr out ↦ inr (λ k a b c d. omega arith)
        ]
      ]

      was : (x m : ℕ) → IsHole g x m → ((k : ℕ) → x ≤ k → k < x + m → h + n ≤ k → k < h + l → ⊥) → Beside x m
      was x m r out =
          let s = r.some in
          let held_in : (k : ℕ) → x ≤ k → k < x + m → h ≤ k → k < h + l → ⊥ = λ k a b c d. elim (cases_lt k (h + n)) [
            | inl inside ↦ neither (r.each k a b) (held k c inside)
            | inr past ↦ out k a b past d
          ] in
          let same : (k : ℕ) → x ≤ k → k < x + m → f k ≡ g k = λ k a b.
          sym (others k (λ c d. held_in k a b c (omega arith))) in
          let first : f x ≡ true = was-free x (r.each x (omega arith) (omega arith)) in
          let last : f (x + m - 1) ≡ true = was-free (x + m - 1) (r.each (x + m - 1) (omega arith) (omega arith)) in
          let before : (k : ℕ) → k + 1 ≡ x → f k ≡ false = λ k one. elim (true_or_false (f k)) [
            | inr not_so ↦ not_so
            | inl free ↦ elim (cases_lt k h) [
              | inl low ↦ sym (others k (λ c d. omega arith)) ∙ r.before k one
              | inr from ↦ elim (cases_lt k (h + n)) [
                | inl inside ↦ elim (cases_lt x (h + l)) [
                  | inl met ↦ absurd (held_in x (omega arith) (omega arith) (omega arith) met)
                  | inr end ↦ let z : x ≡ h + l = omega arith in absurd (neither first (ap f z ∙ hole.behind))
                ]
                | inr past ↦ sym (others k (λ c d. omega arith)) ∙ r.before k one
              ]
            ]
          ] in
          let behind : f (x + m) ≡ false = elim (cases_lt (x + m) h) [
            | inl low ↦ sym (others (x + m) (λ c d. omega arith)) ∙ r.behind
            | inr from ↦ elim (cases_lt (x + m) (h + n)) [
              | inl inside ↦ elim (cases_lt (x + m - 1) h) [
                | inl edge ↦ let z : x + m - 1 + 1 ≡ h = omega arith in
                    absurd (neither last (hole.before (x + m - 1) z))
                | inr met ↦ absurd (held_in (x + m - 1) (omega arith) (omega arith) met (omega arith))
              ]
              | inr past ↦ sym (others (x + m) (λ c d. omega arith)) ∙ r.behind
            ]
          ] in
          beside x m (record {
            some = s;
            each = λ k a b. same k a b ∙ r.each k a b;
            before = before;
            behind = behind;
          }) (λ e. held_in x (omega arith) (omega arith) (omega arith) (let q = hole.some in omega arith))

-- two rows that share no cell
pub apart-by : (x m a z : ℕ) → 0 < m → a < z → ((k : ℕ) → x ≤ k → k < x + m → a ≤ k → k < z → ⊥)
    → (x + m ≤ a) ⊎ (z ≤ x)
apart-by x m a z some less shares = elim (cases_lt a (x + m)) [
  | inr low ↦ inl low
  | inl more ↦ elim (cases_lt x z) [
    | inr high ↦ inr high
    | inl met ↦ elim (cases_lt x a) [
      | inl before ↦ absurd (shares a (omega arith) more (omega arith) less)
      | inr from ↦ absurd (shares x (omega arith) (omega arith) from met)
    ]
  ]
]

-- the hole that ends before a cell begins here; at the cell itself where none does
pub record IsFront (f : ℕ → Bool) (a base : ℕ) : Type 0 where
  pub upto : a ≤ base
  pub hole : a < base → IsHole f a (base - a)
  pub none : a ≡ base → (k : ℕ) → k + 1 ≡ base → f k ≡ false

-- the hole that begins at a cell ends here
pub record IsBack (f : ℕ → Bool) (end z : ℕ) : Type 0 where
  pub from : end ≤ z
  pub hole : end < z → IsHole f end (z - end)
  pub none : end ≡ z → f end ≡ false

-- cells between two holes are given back
module _ (f g : ℕ → Bool) (base n a z : ℕ) (some : 0 < n)
    (held : (k : ℕ) → base ≤ k → k < base + n → f k ≡ false)
    (free : (k : ℕ) → base ≤ k → k < base + n → g k ≡ true)
    (others : (k : ℕ) → (base ≤ k → k < base + n → ⊥) → g k ≡ f k)
    (front : IsFront f a base) (back : IsBack f (base + n) z) where
  outer-before : (k : ℕ) → k + 1 ≡ a → f k ≡ false
  outer-before k one = let u = front.upto in elim (cases_lt a base) [
    | inl less ↦ (front.hole less).before k one
    | inr more ↦ front.none (omega arith) k (omega arith)
  ]

  outer-behind : f z ≡ false
  outer-behind = let u = back.from in elim (cases_lt (base + n) z) [
    | inl less ↦ let e : base + n + (z - (base + n)) ≡ z = omega arith in ap f (sym e) ∙ (back.hole less).behind
    | inr more ↦ let e : base + n ≡ z = omega arith in ap f (sym e) ∙ back.none e
  ]

  -- all three are one hole
  pub joined-one : IsHole g a (z - a)
  joined-one = let u = front.upto in let v = back.from in record {
    some = omega arith;
    each = λ k lo hi. elim (cases_lt k base) [
      | inl low ↦ others k (λ c d. omega arith) ∙ (front.hole (omega arith)).each k lo (omega arith)
      | inr from ↦ elim (cases_lt k (base + n)) [
        | inl inside ↦ free k from inside
        | inr past ↦ others k (λ c d. omega arith) ∙ (back.hole (omega arith)).each k past (omega arith)
      ]
    ];
    before = λ k one. others k (λ c d. omega arith) ∙ outer-before k one;
    behind = let e : a + (z - a) ≡ z = omega arith in ap g e ∙ others z (λ c d. omega arith) ∙ outer-behind;
  }

  -- another one, beside them
  pub record Outside (x m : ℕ) : Type 0 where
    pub is : IsHole f x m
    pub apart : (x + m < a) ⊎ (z < x)

  outside-same : (x m : ℕ) → (x + m < a) ⊎ (z < x) → (k : ℕ) → x ≤ k + 1 → k ≤ x + m → g k ≡ f k
  outside-same x m apart k lo hi = let u = front.upto in let v = back.from in others k (λ c d. elim apart [
    | inl low ↦ omega arith
    | inr high ↦ omega arith
  ])

  pub joined-others : (x m : ℕ) → IsHole f x m → x ≢ a → x ≢ base + n → IsHole g x m × Outside x m
  joined-others x m r first second =
      let u = front.upto in let v = back.from in let s = r.some in
      let never : (k : ℕ) → x ≤ k → k < x + m → a ≤ k → k < z → ⊥ = λ k lo hi c d. elim (cases_lt k base) [
        | inl low ↦ first (same-hole f x m a (base - a) k r (front.hole (omega arith)) lo hi c (omega arith)).0
        | inr from ↦ elim (cases_lt k (base + n)) [
          | inl inside ↦ neither (r.each k lo hi) (held k from inside)
          | inr past ↦ second (same-hole f x m (base + n) (z - (base + n)) k r (back.hole (omega arith)) lo hi past
              (omega arith)).0
        ]
      ] in
      let side : (x + m < a) ⊎ (z < x) = elim (apart-by x m a z s (omega arith) never) [
        | inl low ↦ elim (cases_lt (x + m) a) [
          | inl less ↦ inl less
          | inr more ↦ let e : x + m - 1 + 1 ≡ a = omega arith in
              absurd (neither (r.each (x + m - 1) (omega arith) (omega arith)) (outer-before (x + m - 1) e))
        ]
        | inr high ↦ elim (cases_lt z x) [
          | inl less ↦ inr less
          | inr more ↦ let e : x ≡ z = omega arith in
              absurd (neither (r.each x (omega arith) (omega arith)) (ap f e ∙ outer-behind))
        ]
      ] in (
        IsHole-kept f g x m r (λ k lo hi. outside-same x m side k (omega arith) (omega arith))
            (λ k one. outside-same x m side k (omega arith) (omega arith) ∙ r.before k one)
            (outside-same x m side (x + m) (omega arith) (omega arith) ∙ r.behind),
        record { is = r; apart = side },
      )

  pub joined-all : (x m : ℕ) → IsHole g x m → ((x ≡ a) × (m ≡ z - a)) ⊎ Outside x m
  joined-all x m r =
      let u = front.upto in let v = back.from in let s = r.some in let one = joined-one in
      elim (cases_lt x z) [
        | inl below ↦ elim (cases_lt a (x + m)) [
          | inl above ↦ inl (elim (cases_lt x a) [
            | inl low ↦ same-hole g x m a (z - a) a r one (omega arith) above (omega arith) (omega arith)
            | inr from ↦ same-hole g x m a (z - a) x r one (omega arith) (omega arith) from (omega arith)
          ])
          | inr low ↦ elim (cases_lt (x + m) a) [
            | inl less ↦ inr (was (inl less))
            | inr more ↦ let e : x + m ≡ a = omega arith in
                absurd (neither (one.each a (omega arith) (omega arith)) (ap g (sym e) ∙ r.behind))
          ]
        ]
        | inr from ↦ elim (cases_lt z x) [
          | inl less ↦ inr (was (inr less))
          | inr more ↦ let e : x ≡ a + (z - a) = omega arith in
              absurd (neither (r.each x (omega arith) (omega arith)) (ap g e ∙ one.behind))
        ]
      ]
    where
      was : (x + m < a) ⊎ (z < x) → Outside x m
      was side = record {
        is = IsHole-kept g f x m r (λ k lo hi. sym (outside-same x m side k (omega arith) (omega arith)))
            (λ k one. sym (outside-same x m side k (omega arith) (omega arith)) ∙ r.before k one)
            (sym (outside-same x m side (x + m) (omega arith) (omega arith)) ∙ r.behind);
        apart = side;
      }
