-- Two texts that are the same have the same words and numbers at their fronts. (Own.)
use Rattle.std.proofs.Common.{◌≡◌, ℕ, ◌+◌, ◌*◌, ◌^◌, ◌<◌, ◌≤◌, ◌⊎◌, List, [], ◌∷◌, ◌++◌, if◌then◌else◌, ◌==◌}
use Rattle.std.proofs.Common.{slice_index_or, Some, codes, decimal, sym, refl, ap, ◌∙◌, subst, inl, inr, append_assoc}
use Rattle.std.proofs.Common.{arith, rules}
use Rattle.std.proofs.lemmas.{Fmt.decimal_injective, Fmt.digits_decimal, List.append_cancel_left}
use Rattle.std.proofs.lemmas.Str.Parse.{IsNumeralModel, numerals_by_value}
use Rattle.std.specs.{Int.IsInRange, Str.Parse.digits_value}
use Rattle.im_types.specs.Types.{Entry, Kind, Op, Waiting, Answered, I, M, Alloc, Release, Reset, Fetch, Store, Take}
use Rattle.im_types.specs.Types.{Put, Base, NoSpace, BadLength, Value, Stored, Clash, NoCell, WrongKind, Released}
use Rattle.im_types.specs.Types.{NoBlock, StillWaiting, Cleared, address_of, op_code, op_value, entry_code}
use Rattle.im_types.specs.Types.{entry_number, FitsOp, FitsEntry, op_of}
use Rattle.im_formats.proofs.Fields.{entry_of-spelled, number_fits, op_of-spelled}
use Rattle.im_formats.specs.Reading.{entry_of}
use Rattle.im_text.specs.Texts.{entry_text, kind_text, op_text}

-- ---- numbers

-- decimal digits and nothing else
abbrev IsDigits : List ℕ → Type 0
IsDigits [] = Unit {0}
IsDigits (c ∷ cs) = IsInRange 48 57 c × IsDigits cs

own : IsNumeralModel IsDigits (digits_value 10)
own = numerals_by_value IsDigits (search rules)

heads : (a b : ℕ) (x y : List ℕ) → a ∷ x ≡ b ∷ y → a ≡ b
heads a b x y e = cc

tails : (a b : ℕ) (x y : List ℕ) → a ∷ x ≡ b ∷ y → x ≡ y
tails a b x y e = cc

-- digits end where something below them comes
digits_cut : (xs ys : List ℕ) (c d : ℕ) (x y : List ℕ) → IsDigits xs → IsDigits ys → c < 48 → d < 48 → xs ++ c ∷ x
    ≡ ys ++ d ∷ y
    → (xs ≡ ys) × (c ∷ x ≡ d ∷ y)
digits_cut [] [] c d x y p q i j e = (refl, e)
digits_cut [] (b ∷ ys) c d x y p q i j e =
    let same : c ≡ b = heads c b x (ys ++ d ∷ y) e in
    let low : 48 ≤ b = q.0.0 in
    absurd (omega arith)
digits_cut (a ∷ xs) [] c d x y p q i j e =
    let same : a ≡ d = heads a d (xs ++ c ∷ x) y e in
    let low : 48 ≤ a = p.0.0 in
    absurd (omega arith)
digits_cut (a ∷ xs) (b ∷ ys) c d x y p q i j e =
    let same : a ≡ b = heads a b (xs ++ c ∷ x) (ys ++ d ∷ y) e in
    let rest : (xs ≡ ys) × (c ∷ x ≡ d ∷ y) = digits_cut xs ys c d x y p.1 q.1 i j (tails a b (xs ++ c ∷ x) (ys ++ d ∷
    y) e) in
    let front : xs ≡ ys = rest.0 in
    let both : a ∷ xs ≡ b ∷ ys = cc in
    (both, rest.1)

-- a number and what follows it
pub number_cut : (m n c d : ℕ) (x y : List ℕ) → m < 2 ^ 64 → n < 2 ^ 64 → c < 48 → d < 48 → decimal m ++ c ∷ x
    ≡ decimal n ++ d ∷ y
    → (m ≡ n) × (c ∷ x ≡ d ∷ y)
number_cut m n c d x y low high i j e =
    let cut : (decimal m ≡ decimal n) × (c ∷ x ≡ d ∷ y) = digits_cut (decimal m) (decimal n) c d x y (digits_decimal
    own m low) (digits_decimal own n high) i j e in
    (decimal_injective m n low high cut.0, cut.1)

-- the same before one mark
pub number_then : (m n c : ℕ) (x y : List ℕ) → m < 2 ^ 64 → n < 2 ^ 64 → c < 48 → decimal m ++ c ∷ x
    ≡ decimal n ++ c ∷ y → (m ≡ n) × (x ≡ y)
number_then m n c x y low high i e =
    let cut : (m ≡ n) × (c ∷ x ≡ c ∷ y) = number_cut m n c c x y low high i i e in
    (cut.0, tails c c x y cut.1)

-- the same behind one word
pub field_cut : (p : List ℕ) (c m n : ℕ) (x y : List ℕ) → c < 48 → m < 2 ^ 64 → n < 2 ^ 64
    → p ++ (decimal m ++ c ∷ x) ≡ p ++ (decimal n ++ c ∷ y) → (m ≡ n) × (x ≡ y)
field_cut p c m n x y i low high e = number_then m n c x y low high i (append_cancel_left p (decimal m ++ c ∷ x)
    (decimal n ++ c ∷ y) e)

-- ---- words and up to two numbers

-- what follows a word: up to two numbers, and the rest
abbrev after_word : ℕ → ℕ → ℕ → List ℕ → List ℕ
after_word numbers a v rest =
    if numbers == 0 then rest else if numbers == 1 then decimal a ++ rest else decimal a ++ (32 ∷ (decimal v ++ rest))

-- how many numbers an operation has
abbrev op_numbers : ℕ → ℕ
op_numbers code = if code == 5 then 2 else if code == 7 then 2 else 1

-- the words of an operation
abbrev op_word : ℕ → List ℕ
op_word code =
    if code == 1 then codes "alloc i " else if code == 2 then codes "alloc m " else if code == 3 then codes "release "
    else if code == 4 then codes "fetch " else if code == 5 then codes "store " else if code == 6 then codes "take "
    else if code == 7 then codes "put " else codes "reset "

-- an operation by its word
op_spelled : (op : Op) (x : List ℕ) → op_text op ++ x ≡ op_word (op_code op) ++ after_word (op_numbers (op_code op))
    (address_of op) (op_value op) x
op_spelled (Alloc I n) x = simp append_assoc
op_spelled (Alloc M n) x = simp append_assoc
op_spelled (Release a) x = simp append_assoc
op_spelled (Reset a) x = simp append_assoc
op_spelled (Fetch a) x = simp append_assoc
op_spelled (Store a v) x = simp append_assoc
op_spelled (Take a) x = simp append_assoc
op_spelled (Put a v) x = simp append_assoc

-- the first and the third byte of a text
abbrev marks : List ℕ → ℕ
marks text = slice_index_or text 0 0 * 1000 + slice_index_or text 2 0

-- the code of the operation that a text begins with
abbrev op_code_in : List ℕ → ℕ
op_code_in text =
    if marks text == 97108 then (if slice_index_or text 6 0 == 105 then 1 else 2)
    else if marks text == 114108 then 3 else if marks text == 102116 then 4 else if marks text == 115111 then 5
    else if marks text == 116107 then 6 else if marks text == 112116 then 7 else 9

op_found : (op : Op) (x : List ℕ) → op_code_in (op_text op ++ x) ≡ op_code op
op_found (Alloc I n) x = refl
op_found (Alloc M n) x = refl
op_found (Release a) x = refl
op_found (Reset a) x = refl
op_found (Fetch a) x = refl
op_found (Store a v) x = refl
op_found (Take a) x = refl
op_found (Put a v) x = refl

-- an operation has one number or two
op_counted : (op : Op) → (op_numbers (op_code op) ≡ 1) ⊎ (op_numbers (op_code op) ≡ 2)
op_counted (Alloc I n) = inl refl
op_counted (Alloc M n) = inl refl
op_counted (Release a) = inl refl
op_counted (Reset a) = inl refl
op_counted (Fetch a) = inl refl
op_counted (Store a v) = inr refl
op_counted (Take a) = inl refl
op_counted (Put a v) = inr refl

-- one that has one number writes no value
valueless : (op : Op) → op_numbers (op_code op) ≡ 1 → op_value op ≡ 0
valueless (Alloc I n) one = refl
valueless (Alloc M n) one = refl
valueless (Release a) one = refl
valueless (Reset a) one = refl
valueless (Fetch a) one = refl
valueless (Store a v) one = absurd (omega arith)
valueless (Take a) one = refl
valueless (Put a v) one = absurd (omega arith)

-- behind the same word: one number, or two
one_after : (numbers a b v w : ℕ) (x y : List ℕ) → numbers ≡ 1 → a < 2 ^ 64 → b < 2 ^ 64
    → after_word numbers a v (32 ∷ x) ≡ after_word numbers b w (32 ∷ y) → (a ≡ b) × (x ≡ y)
one_after numbers a b v w x y is i j e =
    number_then a b 32 x y i j (omega arith) (subst (λ n. after_word n a v (32 ∷ x) ≡ after_word n b w (32 ∷ y)) is e)

two_after : (numbers a b v w : ℕ) (x y : List ℕ) → numbers ≡ 2 → a < 2 ^ 64 → b < 2 ^ 64 → v < 2 ^ 64 → w < 2 ^ 64
    → after_word numbers a v (32 ∷ x) ≡ after_word numbers b w (32 ∷ y) → (a ≡ b) × ((v ≡ w) × (x ≡ y))
two_after numbers a b v w x y is i j k l e =
    let first : (a ≡ b) × (decimal v ++ (32 ∷ x) ≡ decimal w ++ (32 ∷ y)) =
    number_then a b 32 (decimal v ++ (32 ∷ x)) (decimal w ++ (32 ∷ y)) i j (omega arith) (subst (λ n. after_word n a v
    (32 ∷ x) ≡ after_word n b w (32 ∷ y)) is e) in
    (first.0, number_then v w 32 x y k l (omega arith) first.1)

some_same : (o p : Op) → Some o ≡ Some p → o ≡ p
some_same o p e = cc

-- an operation by its code and its numbers
op_same : (o p : Op) → op_code o ≡ op_code p → address_of o ≡ address_of p → op_value o ≡ op_value p → o ≡ p
op_same o p code address value =
    let same : op_of (op_code o) (address_of o) (op_value o) ≡ op_of (op_code p) (address_of p) (op_value p) = cc in
    some_same o p (sym (op_of-spelled o) ∙ same ∙ op_of-spelled p)

-- behind the same word the rest is the same
op_behind : (o p : Op) (x y : List ℕ) → op_code o ≡ op_code p → op_text o ++ x ≡ op_text p ++ y
    → after_word (op_numbers (op_code o)) (address_of o) (op_value o) x
    ≡ after_word (op_numbers (op_code o)) (address_of p) (op_value p) y
op_behind o p x y code e =
    append_cancel_left (op_word (op_code o)) _ _
    (sym (op_spelled o x) ∙ e ∙ op_spelled p y ∙ ap (λ k. op_word k ++ after_word (op_numbers k) (address_of p)
    (op_value p) y) (sym code))

-- an operation and what follows it
pub op_cut : (o p : Op) (x y : List ℕ) → FitsOp o → FitsOp p → op_text o ++ (32 ∷ x) ≡ op_text p ++ (32 ∷ y) → (o
    ≡ p) × (x ≡ y)
op_cut o p x y i j e =
    let code : op_code o ≡ op_code p = sym (op_found o (32 ∷ x)) ∙ ap op_code_in e ∙ op_found p (32 ∷ y) in
    let behind : after_word (op_numbers (op_code o)) (address_of o) (op_value o) (32 ∷ x)
    ≡ after_word (op_numbers (op_code o)) (address_of p) (op_value p) (32 ∷ y) = op_behind o p (32 ∷ x) (32 ∷ y)
    code e in
    let a : address_of o < 2 ^ 64 = (let low : address_of o < 2 ^ 32 = i.address in omega arith) in
    let b : address_of p < 2 ^ 64 = (let low : address_of p < 2 ^ 32 = j.address in omega arith) in
    elim (op_counted o) [
      | inl one ↦
          (let cut : (address_of o ≡ address_of p) × (x ≡ y) = one_after _ _ _ _ _ x y one a b behind in
          let none : op_value o ≡ op_value p = valueless o one ∙ sym (valueless p (ap op_numbers (sym code) ∙ one)) in
          (op_same o p code cut.0 none, cut.1))
      | inr two ↦
          (let cut : (address_of o ≡ address_of p) × ((op_value o ≡ op_value p) × (x
          ≡ y)) = two_after _ _ _ _ _ x y two a b i.value j.value behind in
          (op_same o p code cut.0 cut.1.0, cut.1.1))
    ]

-- ---- entries

-- whether an entry has a number
abbrev entry_numbers : ℕ → ℕ
entry_numbers code = if code == 1 then 1 else if code == 4 then 1 else 0

-- the word of an entry
abbrev entry_word : ℕ → List ℕ
entry_word code =
    if code == 0 then codes "waiting" else if code == 1 then codes "base " else if code == 2 then codes "nospace"
    else if code == 3 then codes "badlength" else if code == 4 then codes "value " else if code == 5 then codes "stored"
    else if code == 6 then codes "clash" else if code == 7 then codes "nocell" else if code == 8 then codes "wrongkind"
    else if code == 9 then codes "released" else if code == 10 then codes "noblock" else if code == 11 then codes
    "stillwaiting"
    else codes "cleared"

-- an entry by its word
entry_spelled : (entry : Entry) (x : List ℕ) → entry_text entry ++ x
    ≡ entry_word (entry_code entry) ++ after_word (entry_numbers (entry_code entry)) (entry_number entry) 0 x
entry_spelled Waiting x = refl
entry_spelled (Answered (Base a)) x = simp append_assoc
entry_spelled (Answered NoSpace) x = refl
entry_spelled (Answered BadLength) x = refl
entry_spelled (Answered (Value v)) x = simp append_assoc
entry_spelled (Answered Stored) x = refl
entry_spelled (Answered Clash) x = refl
entry_spelled (Answered NoCell) x = refl
entry_spelled (Answered WrongKind) x = refl
entry_spelled (Answered Released) x = refl
entry_spelled (Answered NoBlock) x = refl
entry_spelled (Answered StillWaiting) x = refl
entry_spelled (Answered Cleared) x = refl

-- the code of the entry that a text begins with
abbrev entry_code_in : List ℕ → ℕ
entry_code_in text =
    if marks text == 119105 then 0 else if marks text == 98115 then 1 else if marks text == 110115 then 2
    else if marks text == 98100 then 3 else if marks text == 118108 then 4 else if marks text == 115111 then 5
    else if marks text == 99097 then 6 else if marks text == 110099 then 7 else if marks text == 119111 then 8
    else if marks text == 114108 then 9 else if marks text == 110098 then 10 else if marks text == 115105 then 11
    else 12

entry_found : (entry : Entry) (x : List ℕ) → entry_code_in (entry_text entry ++ x) ≡ entry_code entry
entry_found Waiting x = refl
entry_found (Answered (Base a)) x = refl
entry_found (Answered NoSpace) x = refl
entry_found (Answered BadLength) x = refl
entry_found (Answered (Value v)) x = refl
entry_found (Answered Stored) x = refl
entry_found (Answered Clash) x = refl
entry_found (Answered NoCell) x = refl
entry_found (Answered WrongKind) x = refl
entry_found (Answered Released) x = refl
entry_found (Answered NoBlock) x = refl
entry_found (Answered StillWaiting) x = refl
entry_found (Answered Cleared) x = refl

-- an entry has no number, and then 0 stands for it, or one
entry_counted : (entry : Entry) → ((entry_numbers (entry_code entry) ≡ 0) × (entry_number entry
    ≡ 0)) ⊎ (entry_numbers (entry_code entry) ≡ 1)
entry_counted Waiting = inl (refl, refl)
entry_counted (Answered (Base a)) = inr refl
entry_counted (Answered NoSpace) = inl (refl, refl)
entry_counted (Answered BadLength) = inl (refl, refl)
entry_counted (Answered (Value v)) = inr refl
entry_counted (Answered Stored) = inl (refl, refl)
entry_counted (Answered Clash) = inl (refl, refl)
entry_counted (Answered NoCell) = inl (refl, refl)
entry_counted (Answered WrongKind) = inl (refl, refl)
entry_counted (Answered Released) = inl (refl, refl)
entry_counted (Answered NoBlock) = inl (refl, refl)
entry_counted (Answered StillWaiting) = inl (refl, refl)
entry_counted (Answered Cleared) = inl (refl, refl)

-- the same of an entry with a code that has no number
numberless : (entry : Entry) → entry_numbers (entry_code entry) ≡ 0 → entry_number entry ≡ 0
numberless entry none = elim (entry_counted entry) [ inl is ↦ is.1 | inr one ↦ absurd (omega arith) ]

none_after : (numbers a b : ℕ) (x y : List ℕ) → numbers ≡ 0 → after_word numbers a 0 x ≡ after_word numbers b 0 y
    → x ≡ y
none_after numbers a b x y is e = subst (λ n. after_word n a 0 x ≡ after_word n b 0 y) is e

last_after : (numbers a b : ℕ) (x y : List ℕ) → numbers ≡ 1 → a < 2 ^ 64 → b < 2 ^ 64
    → after_word numbers a 0 (10 ∷ x) ≡ after_word numbers b 0 (10 ∷ y) → (a ≡ b) × (x ≡ y)
last_after numbers a b x y is i j e =
    number_then a b 10 x y i j (omega arith) (subst (λ n. after_word n a 0 (10 ∷ x) ≡ after_word n b 0 (10 ∷ y)) is e)

same_entries : (p q : Entry) → Some p ≡ Some q → p ≡ q
same_entries p q e = cc

entry_same : (p q : Entry) → FitsEntry p → FitsEntry q → entry_code p ≡ entry_code q → entry_number p
    ≡ entry_number q → p ≡ q
entry_same p q i j code number =
    let same : entry_of (entry_code p) (entry_number p) ≡ entry_of (entry_code q) (entry_number q) = cc in
    same_entries p q (sym (entry_of-spelled p i) ∙ same ∙ entry_of-spelled q j)

entry_behind : (p q : Entry) (x y : List ℕ) → entry_code p ≡ entry_code q → entry_text p ++ x ≡ entry_text q ++ y
    → after_word (entry_numbers (entry_code p)) (entry_number p) 0 x
    ≡ after_word (entry_numbers (entry_code p)) (entry_number q) 0 y
entry_behind p q x y code e =
    append_cancel_left (entry_word (entry_code p)) _ _
    (sym (entry_spelled p x) ∙ e ∙ entry_spelled q y ∙ ap (λ k. entry_word k ++ after_word (entry_numbers k)
    (entry_number q) 0 y) (sym code))

-- an entry at the end of a line, and what follows it
pub entry_cut : (p q : Entry) (x y : List ℕ) → FitsEntry p → FitsEntry q → entry_text p ++ (10 ∷ x)
    ≡ entry_text q ++ (10 ∷ y) → (p ≡ q) × (x ≡ y)
entry_cut p q x y i j e =
    let code : entry_code p ≡ entry_code q = sym (entry_found p (10 ∷ x)) ∙ ap entry_code_in e
    ∙ entry_found q (10 ∷ y) in
    let behind : after_word (entry_numbers (entry_code p)) (entry_number p) 0 (10 ∷ x)
    ≡ after_word (entry_numbers (entry_code p)) (entry_number q) 0 (10 ∷ y) = entry_behind p q (10 ∷ x) (10 ∷ y)
    code e in
    elim (entry_counted p) [
      | inl none ↦
          (let rest : 10 ∷ x ≡ 10 ∷ y = none_after _ _ _ (10 ∷ x) (10 ∷ y) none.0 behind in
          let number : entry_number p ≡ entry_number q = none.1 ∙ sym (numberless q (ap entry_numbers (sym code)
          ∙ none.0)) in
          (entry_same p q i j code number, tails 10 10 x y rest))
      | inr one ↦
          (let cut : (entry_number p ≡ entry_number q) × (x ≡ y) = last_after _ _ _ x y one (number_fits p i)
          (number_fits q j) behind in
          (entry_same p q i j code cut.0, cut.1))
    ]

-- ---- kinds

abbrev kind_in : List ℕ → Kind
kind_in text = if slice_index_or text 0 0 == 105 then I else M

kind_found : (k : Kind) (x : List ℕ) → kind_in (kind_text k ++ x) ≡ k
kind_found I x = refl
kind_found M x = refl

-- a kind and what follows it
pub kind_cut : (k l : Kind) (x y : List ℕ) → kind_text k ++ x ≡ kind_text l ++ y → (k ≡ l) × (x ≡ y)
kind_cut k l x y e =
    let same : k ≡ l = sym (kind_found k x) ∙ ap kind_in e ∙ kind_found l y in
    (same, append_cancel_left (kind_text k) x y (e ∙ ap (λ k. kind_text k ++ y) (sym same)))

-- ---- bytes at the front

unfoldable pub second : List ℕ → ℕ
second text = slice_index_or text 1 0

unfoldable pub third : List ℕ → ℕ
third text = slice_index_or text 2 0
