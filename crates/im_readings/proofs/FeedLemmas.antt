-- Decimals and line feeds in a text: where a number ends, and where a line does. (Own.)
use Rattle.std.proofs.Common.{◌≡◌, ℕ, zero, suc, ◌^◌, ◌<◌, Bool, true, false, ◌&&◌, ◌≢◌, List, [], ◌∷◌, ◌++◌}
use Rattle.std.proofs.Common.{if◌then◌else◌, nat_le, ◌==◌, decimal, All, sym, refl, ap, ◌∙◌, ap₂, arith, ne_eqb}
use Rattle.std.proofs.Common.{eqb-true, le-leb}
use Rattle.std.proofs.lemmas.{Bool.eqb-false, Fmt.decimal_is_IsNumeral, Str.Parse.digit_from_value}
use Rattle.std.specs.{Int.IsInRange, Str.Parse.AllDigits, Str.Parse.digits_value}
use Rattle.im_readings.specs.Lines.{IsOneLine}

-- ---- numbers

-- whether a byte is a decimal digit
abbrev pub is_digit : ℕ → Bool
is_digit c = nat_le 48 c && nat_le c 57

-- the digits that a text begins with, and what follows them
abbrev pub digits_in : List ℕ → List ℕ
digits_in [] = []
digits_in (c ∷ cs) = if is_digit c then c ∷ digits_in cs else []

abbrev pub past_digits : List ℕ → List ℕ
past_digits [] = []
past_digits (c ∷ cs) = if is_digit c then past_digits cs else c ∷ cs

-- the number that a text begins with
abbrev pub number_in : List ℕ → ℕ
number_in text = digits_value 10 (digits_in text)

both : (a b : Bool) → a ≡ true → b ≡ true → a && b ≡ true
both true true p q = refl
both true false p q = absurd (cc)
both false b p q = absurd (cc)

digit_is : (c : ℕ) → IsInRange 48 57 c → is_digit c ≡ true
digit_is c k = both (nat_le 48 c) (nat_le c 57) (le-leb 48 c k.0) (le-leb c 57 k.1)

digits_read : (ds : List ℕ) (c : ℕ) (x : List ℕ) → AllDigits 10 ds → is_digit c ≡ false → digits_in (ds ++ c ∷ x) ≡ ds
digits_read [] c x all stop = ap (λ (b : Bool). if b then c ∷ digits_in x else []) stop
digits_read (d ∷ ds) c x all stop =
    ap (λ (b : Bool). if b then d ∷ digits_in (ds ++ c ∷ x) else []) (digit_is d (digit_from_value d all.0))
    ∙ ap (λ (l : List ℕ). d ∷ l) (digits_read ds c x all.1 stop)

past_read : (ds : List ℕ) (c : ℕ) (x : List ℕ) → AllDigits 10 ds → is_digit c ≡ false
    → past_digits (ds ++ c ∷ x) ≡ c ∷ x
past_read [] c x all stop = ap (λ (b : Bool). if b then past_digits x else c ∷ x) stop
past_read (d ∷ ds) c x all stop =
    ap (λ (b : Bool). if b then past_digits (ds ++ c ∷ x) else d ∷ ds ++ c ∷ x) (digit_is d (digit_from_value d all.0))
    ∙ past_read ds c x all.1 stop

module _ (n c : ℕ) (x : List ℕ) (fits : n < 2 ^ 64) (stop : is_digit c ≡ false) where
  pub number_read : number_in (decimal n ++ c ∷ x) ≡ n
  number_read = ap (digits_value 10) (digits_read (decimal n) c x (decimal_is_IsNumeral n fits).0.1 stop)
      ∙ (decimal_is_IsNumeral n fits).1

  pub number_past : past_digits (decimal n ++ c ∷ x) ≡ c ∷ x
  number_past = past_read (decimal n) c x (decimal_is_IsNumeral n fits).0.1 stop

-- ---- line feeds

-- whether a text has no line feed
abbrev pub is_feedless : List ℕ → Bool
is_feedless [] = true
is_feedless (c ∷ cs) = if c == 10 then false else is_feedless cs

abbrev is_nothing : List ℕ → Bool
is_nothing [] = true
is_nothing (c ∷ cs) = false

-- whether a text ends with a line feed and has no other
abbrev pub is_line : List ℕ → Bool
is_line [] = false
is_line (c ∷ cs) = if c == 10 then is_nothing cs else is_line cs

-- the first line of a text, and what follows it
abbrev pub first_line : List ℕ → List ℕ
first_line [] = []
first_line (c ∷ cs) = if c == 10 then c ∷ [] else c ∷ first_line cs

abbrev pub past_line : List ℕ → List ℕ
past_line [] = []
past_line (c ∷ cs) = if c == 10 then cs else past_line cs

no_feed : (c : ℕ) → IsInRange 48 57 c → c == 10 ≡ false
no_feed c k = ne_eqb c 10 (λ e. omega (arith, e, k.0))

digits_feedless : (ds : List ℕ) → AllDigits 10 ds → is_feedless ds ≡ true
digits_feedless [] all = refl
digits_feedless (d ∷ ds) all =
    ap (λ (b : Bool). if b then false else is_feedless ds) (no_feed d (digit_from_value d all.0))
    ∙ digits_feedless ds all.1

pub decimal_feedless : (n : ℕ) → n < 2 ^ 64 → is_feedless (decimal n) ≡ true
decimal_feedless n fits = digits_feedless (decimal n) (decimal_is_IsNumeral n fits).0.1

-- a text without a line feed before the rest of a line
pub line_behind : (xs ys : List ℕ) → is_feedless xs ≡ true → is_line ys ≡ true → is_line (xs ++ ys) ≡ true
line_behind [] ys p q = q
line_behind (c ∷ xs) ys p q = step (c == 10) (λ r. line_behind xs ys r q) p
  where
    step : (b : Bool) → (is_feedless xs ≡ true → is_line (xs ++ ys) ≡ true)
        → (if b then false else is_feedless xs) ≡ true
        → (if b then is_nothing (xs ++ ys) else is_line (xs ++ ys)) ≡ true
    step true later p = absurd (cc)
    step false later p = later p

nothing_is : (xs : List ℕ) → is_nothing xs ≡ true → xs ≡ []
nothing_is [] p = refl
nothing_is (c ∷ xs) p = absurd (cc)

-- a line at the front of a text is its first line
pub line_first : (xs x : List ℕ) → is_line xs ≡ true → (first_line (xs ++ x) ≡ xs) × (past_line (xs ++ x) ≡ x)
line_first [] x p = absurd (cc)
line_first (c ∷ xs) x p = step (c == 10) (line_first xs x) p
  where
    step : (b : Bool) → (is_line xs ≡ true → (first_line (xs ++ x) ≡ xs) × (past_line (xs ++ x) ≡ x))
        → (if b then is_nothing xs else is_line xs) ≡ true
        → ((if b then c ∷ [] else c ∷ first_line (xs ++ x)) ≡ c ∷ xs)
        × ((if b then xs ++ x else past_line (xs ++ x)) ≡ x)
    step true later p = let none : xs ≡ [] = nothing_is xs p in
        (ap (λ (l : List ℕ). c ∷ l) (sym none), ap (λ (l : List ℕ). l ++ x) none)
    step false later p = let rest = later p in (ap (λ (l : List ℕ). c ∷ l) rest.0, rest.1)

all_more : (c : ℕ) (cs : List ℕ) → c ≢ 10 → All (λ byte. byte ≢ 10) cs → All (λ byte. byte ≢ 10) (c ∷ cs)
all_more c cs other all zero d low = other
all_more c cs other all (suc k) d low = all k d (omega (arith, low))

-- it is one line
pub is_one_line : (xs : List ℕ) → is_line xs ≡ true → IsOneLine xs
is_one_line [] p = absurd (cc)
is_one_line (c ∷ xs) p = step (c == 10) refl (is_one_line xs) p
  where
    step : (b : Bool) → c == 10 ≡ b → (is_line xs ≡ true → IsOneLine xs)
        → (if b then is_nothing xs else is_line xs) ≡ true → IsOneLine (c ∷ xs)
    step true e later p =
        let same = ap₂ (λ (d : ℕ) (l : List ℕ). d ∷ l) (eqb-true c 10 e) (nothing_is xs p) in
        ([], same, λ k d low. absurd (omega (arith, low)))
    step false e later p = let (words, is, all) = later p in
        (c ∷ words, ap (λ (l : List ℕ). c ∷ l) is, all_more c words (eqb-false c 10 e) all)
