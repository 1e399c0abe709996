-- Numbers read digit by digit. (Own.)
use Rattle.std.proofs.Common.{◌≡◌, ℕ, ◌+◌, ◌-◌, ◌*◌, ◌^◌, ◌<◌, ◌≤◌, true, false, ◌&&◌, List, [], ◌∷◌, length, get_or}
use Rattle.std.proofs.Common.{drop, if◌then◌else◌, nat_le, Some, None, Option, option_and_then, sym, refl, ap, ◌∙◌, inl}
use Rattle.std.proofs.Common.{inr, arith, le-ltb, lt-ltb, leb-true}
use Rattle.std.proofs.lemmas.Bool.{and_parts, and_right, cases_Bool, cases_lt, cond-false, lt-leb}
use Rattle.std.proofs.lemmas.{List.at_drop_more, Str.digit_value_digit}
use Rattle.std.specs.{Char.digit_value, Char.is_ascii_digit, Str.all_ascii_digits, Str.Parse.digits_value_after}
use Rattle.im_script.specs.Grammar.{digit_after, number_up_to}

-- the number that the digits bs append to n, if it is at most `most`
abbrev pub number_past : ℕ → ℕ → List ℕ → Option ℕ
number_past most n bs = if all_ascii_digits bs && nat_le (digits_value_after 10 n bs) most then Some
    (digits_value_after 10 n bs) else None

-- digits only add
grows : (n : ℕ) (bs : List ℕ) → n ≤ digits_value_after 10 n bs
grows n [] = omega arith
grows n (b ∷ bs) = let h : n * 10 + digit_value b ≤ digits_value_after 10 (n * 10 + digit_value b) bs = grows
    (n * 10 + digit_value b) bs in omega arith

digit_minus : (b : ℕ) → is_ascii_digit b ≡ true → digit_value b ≡ b - 48
digit_minus b h =
    let p = and_parts (nat_le 48 b) (nat_le b 57) h in
    let low : 48 ≤ b = leb-true 48 b p.0 in
    let high : b ≤ 57 = leb-true b 57 p.1 in
    let e : digit_value b + 48 ≡ b = digit_value_digit b (low, high) in
    omega arith

too_large : (most n : ℕ) (bs : List ℕ) → most < n → number_past most n bs ≡ None
too_large most n bs h =
    let up : n ≤ digits_value_after 10 n bs = grows n bs in
    cond-false _ _ _ (and_right (all_ascii_digits bs) _ (lt-leb (digits_value_after 10 n bs) most (omega arith)))

no_digit : (most n b : ℕ) (bs : List ℕ) → is_ascii_digit b ≡ false → number_past most n (b ∷ bs) ≡ None
no_digit most n b bs h = rw h refl

a_digit : (most n b : ℕ) (bs : List ℕ) → is_ascii_digit b ≡ true → number_past most n (b ∷ bs)
    ≡ number_past most (n * 10 + (b - 48)) bs
a_digit most n b bs h = rw (h, digit_minus b h) refl

after_none : (n b : ℕ) → is_ascii_digit b ≡ false → digit_after n b ≡ None
after_none n b h = rw h refl

after_small : (n b : ℕ) → is_ascii_digit b ≡ true → n * 10 + (b - 48) < 2 ^ 64 → digit_after n b
    ≡ Some (n * 10 + (b - 48))
after_small n b h small = rw (h, lt-ltb (n * 10 + (b - 48)) (2 ^ 64) small) refl

after_large : (n b : ℕ) → is_ascii_digit b ≡ true → 2 ^ 64 ≤ n * 10 + (b - 48) → digit_after n b ≡ None
after_large n b h large = rw (h, le-ltb (n * 10 + (b - 48)) (2 ^ 64) large) refl

-- one digit more
number_step : (most n b : ℕ) (bs : List ℕ) → most < 2 ^ 64 → number_past most n (b ∷ bs)
    ≡ option_and_then (λ m. number_past most m bs) (digit_after n b)
number_step most n b bs limit = elim (cases_Bool (is_ascii_digit b)) [
  | inl is ↦ elim (cases_lt (n * 10 + (b - 48)) (2 ^ 64)) [
    | inl small ↦ a_digit most n b bs is
        ∙ sym (ap (option_and_then (λ m. number_past most m bs)) (after_small n b is small))
    | inr large ↦ a_digit most n b bs is ∙ too_large most (n * 10 + (b - 48)) bs (omega arith)
        ∙ sym (ap (option_and_then (λ m. number_past most m bs)) (after_large n b is large))
  ]
  | inr isnt ↦ no_digit most n b bs isnt ∙ sym (ap (option_and_then (λ m. number_past most m bs)) (after_none n b isnt))
]

-- of a text that is not empty
entry : (most : ℕ) (text : List ℕ) → 0 < length text → number_up_to most text ≡ number_past most 0 text
entry most text h = rw (lt-ltb 0 (length text) h) refl

-- the loop stops at a byte
pub number_stops : (most n i : ℕ) (text : List ℕ) → most < 2 ^ 64 → i < length text
    → number_past most n (drop i text) ≡ number_past most 0 text → digit_after n (get_or text i 0) ≡ None
    → number_up_to most text ≡ None
number_stops most n i text limit inside so_far none =
    entry most text (omega arith) ∙ sym so_far ∙ at_drop_more (number_past most n) text i 0 inside
    ∙ number_step most n (get_or text i 0) (drop (i + 1) text) limit
    ∙ ap (option_and_then (λ m. number_past most m (drop (i + 1) text))) none
