-- Names among names, and in places. (Own.)
use Rattle.std.proofs.Common.{◌≡◌, ℕ, ◌≤◌, Bool, false, not, List, [], ◌∷◌, ◌++◌, length, drop, ◌==◌, Some, None}
use Rattle.std.proofs.Common.{Option, option_map, position, option_and_then, bytes_eq, refl, ap, ◌∙◌, inl, inr, arith}
use Rattle.std.proofs.Common.{Bor, le-ltb, lt-ltb}
use Rattle.indexmap.specs.IndexSet.{insert_key}
use Rattle.std.proofs.lemmas.Bool.{cases_lt, cond-false, cond-true}
use Rattle.std.proofs.lemmas.List.{length-map, map-append, Sums.prefix_len-le-length}
use Rattle.std.specs.List.{before_first, list_any, position_or_len}
use Rattle.im_script.specs.declared.places.Place.TheVariants.{Named}
use Rattle.im_script.specs.Grammar.{offset_of, place_past, texts}

position_or_len-texts : (p : List ℕ → Bool) (xs : List (Bor (List ℕ))) → position_or_len (λ x. p x.now) xs
    ≡ position_or_len p (texts xs)
position_or_len-texts p [] = refl
position_or_len-texts p (x ∷ xs) = rw (position_or_len-texts p xs) refl

-- the place of a borrowed text among others
pub position-texts : (p : List ℕ → Bool) (xs : List (Bor (List ℕ))) → position (λ x. p x.now) xs ≡ position p (texts xs)
position-texts p xs = rw (position_or_len-texts p xs, ← length-map xs (λ (t : Bor (List ℕ)). t.now)) refl

-- the first place is where `position` says
pub position_found : (p : ℕ → Bool) (xs : List ℕ) (r : Option ℕ) (n : ℕ) → r ≡ position p xs → r ≡ Some n
    → (n ≡ position_or_len p xs) × (n ≤ length xs)
position_found p xs r n e f = elim (cases_lt (position_or_len p xs) (length xs)) [
  | inl less ↦
      let g : position p xs
      ≡ Some (position_or_len p xs) = cond-true _ _ _ (lt-ltb (position_or_len p xs) (length xs) less) in
      let h : n ≡ position_or_len p xs = cc in
      (h, omega arith)
  | inr more ↦
      let g : position p xs ≡ None = cond-false _ _ _ (le-ltb (position_or_len p xs) (length xs) more) in
      absurd (cc)
]

-- and past the end if it finds none
pub position_missing : (p : ℕ → Bool) (xs : List ℕ) (r : Option ℕ) → r ≡ position p xs → r ≡ None → length xs
    ≡ position_or_len p xs
position_missing p xs r e f = elim (cases_lt (position_or_len p xs) (length xs)) [
  | inl less ↦
      let g : position p xs
      ≡ Some (position_or_len p xs) = cond-true _ _ _ (lt-ltb (position_or_len p xs) (length xs) less) in
      absurd (cc)
  | inr more ↦
      let h : position_or_len p xs ≤ length xs = prefix_len-le-length (λ x. not (p x)) xs in
      omega arith
]

-- a place by its parts
pub place_by_parts : (names : List (List ℕ)) (word name rest : List ℕ) (index offset : Option ℕ) → name
    ≡ before_first (λ byte. byte == 43) word → rest ≡ drop (position_or_len (λ byte. byte == 43) word) word
    → index ≡ position (bytes_eq name) names → offset ≡ offset_of rest
    → option_and_then (λ i. option_map (Named i) offset) index ≡ place_past names word
place_by_parts names word name rest index offset name_is rest_is index_is offset_is =
    ap (λ (o : Option ℕ). option_and_then (λ i. option_map (Named i) o) index) (offset_is ∙ ap offset_of rest_is)
    ∙ ap (option_and_then
    (λ i. option_map (Named i) (offset_of (drop (position_or_len (λ byte. byte == 43) word) word))))
    (index_is ∙ ap (λ (n : List ℕ). position (bytes_eq n) names) name_is)

-- a new name comes after the others
pub texts_insert : (keys : List (Bor (List ℕ))) (k : Bor (List ℕ))
    → list_any (λ (x : Bor (List ℕ)). bytes_eq k.now x.now) keys ≡ false
    → texts (insert_key (λ (x y : Bor (List ℕ)). bytes_eq x.now y.now) keys k) ≡ texts keys ++ k.now ∷ []
texts_insert keys k h = rw h (map-append (λ (x : Bor (List ℕ)). x.now) keys (k ∷ []))
