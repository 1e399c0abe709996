-- Which header is in force, read from the definition and told to it.
use Rattle.std.proofs.Common.{◌≡◌, ℕ, zero, suc, ◌-◌, ◌<◌, ◌≤◌, Bool, true, false, not, ◌&&◌, ◌||◌, ◌⊎◌, List, length}
use Rattle.std.proofs.Common.{if◌then◌else◌, nat_lt, ◌==◌, Some, None, Option, sym, refl, ap, ◌∙◌, subst, inl, inr}
use Rattle.std.proofs.Common.{arith}
use Rattle.std.proofs.lemmas.Bool.Decides.{nat_tests}
use Rattle.im_types.specs.Types.{Refusal, WrongLength, NoHeader, BadHeader, Layout, image_length, Header, header_in}
use Rattle.im_types.specs.Types.{is_header, spells_header, header_place, is_open_header, generation_in, is_second}
use Rattle.im_types.specs.Types.{number_in_force, place_in_force, are_ambiguous, place_fault, header_of, or_else}
use Rattle.im_types.specs.Types.{header_fault}
use Rattle.im_types.proofs.Tests.{and_both}
use Rattle.im_meaning.specs.Images.{InForce, IsBelow}

-- of two headers the second is in force exactly where it is open and the first is below it
abbrev second : Bool → Bool → ℕ → ℕ → Bool
second zero_open one_open zero_gen one_gen = one_open && (not zero_open || nat_lt zero_gen one_gen)

abbrev Below : Bool → ℕ → ℕ → Type 0
Below opened gen top = (opened ≡ false) ⊎ (gen < top)

second_is : (zero_open one_open : Bool) (zero_gen one_gen : ℕ) → second zero_open one_open zero_gen one_gen ≡ true
    → (one_open ≡ true) × Below zero_open zero_gen one_gen
second_is true true z o is = (refl, inr (grind (arith, nat_tests)))
second_is true false z o is = absurd (cc)
second_is false true z o is = (refl, inl refl)
second_is false false z o is = absurd (cc)

second_by : (zero_open one_open : Bool) (zero_gen one_gen : ℕ) → one_open ≡ true → Below zero_open zero_gen one_gen
    → second zero_open one_open zero_gen one_gen ≡ true
second_by zero_open true z o is (inl closed) = ap (λ (b : Bool). not b || nat_lt z o) closed
second_by true true z o is (inr low) = grind (arith, nat_tests)
second_by false true z o is (inr low) = refl
second_by zero_open false z o is below = absurd (cc)

first_is : (zero_open one_open : Bool) (zero_gen one_gen : ℕ) → second zero_open one_open zero_gen one_gen ≡ false
    → (zero_open || one_open) ≡ true → (zero_open && one_open && (zero_gen == one_gen)) ≡ false → (zero_open ≡ true)
    × Below one_open one_gen zero_gen
first_is true true z o not_second some apart = (refl, inr (grind (arith, nat_tests)))
first_is true false z o not_second some apart = (refl, inl refl)
first_is false true z o not_second some apart = absurd (cc)
first_is false false z o not_second some apart = absurd (cc)

first_by : (zero_open one_open : Bool) (zero_gen one_gen : ℕ) → zero_open ≡ true → Below one_open one_gen zero_gen
    → second zero_open one_open zero_gen one_gen ≡ false
first_by true true z o is (inl closed) = absurd (cc)
first_by true false z o is below = refl
first_by true true z o is (inr low) = grind (arith, nat_tests)
first_by false one_open z o is below = absurd (cc)

-- tests

if_none : (b : Bool) (e : Refusal) → (if b then None else Some e) ≡ None → b ≡ true
if_none true e is = refl
if_none false e is = absurd (cc)

unless_none : (b : Bool) (e : Refusal) (x : Option Refusal) → (if b then Some e else x) ≡ None → (b ≡ false)
    × (x ≡ None)
unless_none true e x is = absurd (cc)
unless_none false e x is = (refl, is)

both_none : (x y : Option Refusal) → or_else x y ≡ None → (x ≡ None) × (y ≡ None)
both_none None y is = (refl, is)
both_none (Some e) y is = absurd (cc)

neither : (a b : Bool) → (a || b) ≡ false → (a ≡ false) × (b ≡ false)
neither true b is = absurd (cc)
neither false b is = (refl, is)

not_false : (b : Bool) → not b ≡ false → b ≡ true
not_false true is = refl
not_false false is = absurd (cc)

same_number : (m n : ℕ) → (m == n) ≡ true → m ≡ n
same_number m n is = grind (arith, nat_tests)

spelled_area : (l : Layout) (number : ℕ) (bytes : List ℕ) → spells_header l number bytes ≡ true
    → (header_in bytes).area ≡ number
spelled_area l number bytes is =
    let h : Header = header_in bytes in
    let fits : is_header l number h ≡ true = (and_both _ _ is).1 in
    same_number h.area number (and_both _ _ (and_both _ _ (and_both _ _ (and_both _ _ (and_both _ _ fits).0).0).0).0).1

-- what is known of two header places without a fault
record Sound (l : Layout) (zero_place one_place : List ℕ) : Type 0 where
  some : (is_open_header zero_place || is_open_header one_place) ≡ true
  apart : are_ambiguous zero_place one_place ≡ false
  spelled : spells_header l (number_in_force zero_place one_place) (place_in_force zero_place one_place) ≡ true

sound : (l : Layout) (zero_place one_place : List ℕ) → place_fault l zero_place one_place ≡ None
    → Sound l zero_place one_place
sound l zero_place one_place none =
    let c = unless_none (not (is_open_header zero_place || is_open_header one_place)) NoHeader
    (if are_ambiguous zero_place one_place || not
    (spells_header l (number_in_force zero_place one_place)
    (place_in_force zero_place one_place)) then Some BadHeader else None) none in
    let d = unless_none (are_ambiguous zero_place one_place || not
    (spells_header l (number_in_force zero_place one_place)
    (place_in_force zero_place one_place))) BadHeader None c.1 in
    let e = neither (are_ambiguous zero_place one_place)
    (not (spells_header l (number_in_force zero_place one_place) (place_in_force zero_place one_place))) d.0 in
    record { some = not_false _ c.0; apart = e.0; spelled = not_false _ e.1 }

no_fault : (l : Layout) (zero_place one_place : List ℕ) → Sound l zero_place one_place
    → place_fault l zero_place one_place ≡ None
no_fault l zero_place one_place s =
    ap (λ (b : Bool). if not b then Some NoHeader else if are_ambiguous zero_place one_place || not
    (spells_header l (number_in_force zero_place one_place)
    (place_in_force zero_place one_place)) then Some BadHeader else None) s.some
    ∙ ap (λ (b : Bool). if b || not
    (spells_header l (number_in_force zero_place one_place)
    (place_in_force zero_place one_place)) then Some BadHeader else None) s.apart
    ∙ ap (λ (b : Bool). if not b then Some BadHeader else None) s.spelled

-- the header in force of two places, by which of them it is
record Chosen (l : Layout) (zero_place one_place : List ℕ) (h : Header) : Type 0 where
  number : h.area ≤ 1
  zero_is : h.area ≡ 0 → (is_open_header zero_place ≡ true) × (header_in zero_place ≡ h)
      × (spells_header l 0 zero_place ≡ true) × IsBelow h.generation one_place
  one_is : h.area ≡ 1 → (is_open_header one_place ≡ true) × (header_in one_place ≡ h)
      × (spells_header l 1 one_place ≡ true) × IsBelow h.generation zero_place

abbrev number_by : Bool → ℕ
number_by b = if b then 1 else 0

abbrev place_by : Bool → List ℕ → List ℕ → List ℕ
place_by b zero_place one_place = if b then one_place else zero_place

chosen_by : (l : Layout) (z o : List ℕ) (b : Bool) → is_second z o ≡ b → Sound l z o
    → Chosen l z o (header_in (place_by b z o))
chosen_by l z o true is s =
    let spelled : spells_header l 1 o
    ≡ true = subst (λ (b : Bool). spells_header l (number_by b) (place_by b z o) ≡ true) is s.spelled in
    let area : (header_in o).area ≡ 1 = spelled_area l 1 o spelled in
    let told = second_is (is_open_header z) (is_open_header o) (generation_in z) (generation_in o) is in
    record {
      number = omega (arith, area);
      zero_is = λ e. absurd (omega (arith, area, e));
      one_is = λ e. (told.0, refl, spelled, told.1);
    }
chosen_by l z o false is s =
    let spelled : spells_header l 0 z
    ≡ true = subst (λ (b : Bool). spells_header l (number_by b) (place_by b z o) ≡ true) is s.spelled in
    let area : (header_in z).area ≡ 0 = spelled_area l 0 z spelled in
    let told = first_is (is_open_header z) (is_open_header o) (generation_in z) (generation_in o) is s.some s.apart in
    record {
      number = omega (arith, area);
      zero_is = λ e. (told.0, refl, spelled, told.1);
      one_is = λ e. absurd (omega (arith, area, e));
    }

chosen : (l : Layout) (z o : List ℕ) → place_fault l z o ≡ None → Chosen l z o (header_in (place_in_force z o))
chosen l z o none = chosen_by l z o (is_second z o) refl (sound l z o none)

-- two headers are no fault, and this one is in force
record Right (l : Layout) (z o : List ℕ) (h : Header) : Type 0 where
  no_fault : place_fault l z o ≡ None
  is : header_in (place_in_force z o) ≡ h

apart_by : (z_open o_open : Bool) (z_gen o_gen : ℕ) → Below z_open z_gen o_gen
    → (z_open && o_open && (z_gen == o_gen)) ≡ false
apart_by true true z o (inl closed) = absurd (cc)
apart_by true true z o (inr low) = grind (arith, nat_tests)
apart_by true false z o below = refl
apart_by false o_open z o below = refl

apart_too : (z_open o_open : Bool) (z_gen o_gen : ℕ) → Below o_open o_gen z_gen
    → (z_open && o_open && (z_gen == o_gen)) ≡ false
apart_too true true z o (inl closed) = absurd (cc)
apart_too true true z o (inr low) = grind (arith, nat_tests)
apart_too true false z o below = refl
apart_too false o_open z o below = refl

some_second : (a b : Bool) → b ≡ true → (a || b) ≡ true
some_second true b is = refl
some_second false b is = is

right_by : (l : Layout) (z o : List ℕ) (h : Header) → (h.area ≡ 0) ⊎ (h.area ≡ 1) → Chosen l z o h → Right l z o h
right_by l z o h (inr area) it =
    let one = it.one_is area in
    let below : Below (is_open_header z) (generation_in z) (generation_in o) = subst
    (λ (x : Header). IsBelow x.generation z) (sym one.1) one.3 in
    let is : is_second z o
    ≡ true = second_by (is_open_header z) (is_open_header o) (generation_in z) (generation_in o) one.0 below in
    record {
      no_fault = no_fault l z o (record {
        some = some_second (is_open_header z) (is_open_header o) one.0;
        apart = apart_by (is_open_header z) (is_open_header o) (generation_in z) (generation_in o) below;
        spelled = subst (λ (b : Bool). spells_header l (number_by b) (place_by b z o) ≡ true) (sym is) one.2;
      });
      is = subst (λ (b : Bool). header_in (place_by b z o) ≡ h) (sym is) one.1;
    }
right_by l z o h (inl area) it =
    let zero_ = it.zero_is area in
    let below : Below (is_open_header o) (generation_in o) (generation_in z) = subst
    (λ (x : Header). IsBelow x.generation o) (sym zero_.1) zero_.3 in
    let is : is_second z o
    ≡ false = first_by (is_open_header z) (is_open_header o) (generation_in z) (generation_in o) zero_.0 below in
    record {
      no_fault = no_fault l z o (record {
        some = ap (λ (b : Bool). b || is_open_header o) zero_.0;
        apart = apart_too (is_open_header z) (is_open_header o) (generation_in z) (generation_in o) below;
        spelled = subst (λ (b : Bool). spells_header l (number_by b) (place_by b z o) ≡ true) (sym is) zero_.2;
      });
      is = subst (λ (b : Bool). header_in (place_by b z o) ≡ h) (sym is) zero_.1;
    }

-- the places of a file's headers, by the number of the one in force
chosen_in : (l : Layout) (h : Header) (file : List ℕ) → InForce l h file → ((h.area ≡ 0) ⊎ (h.area ≡ 1))
    × Chosen l (header_place 0 file) (header_place 1 file) h
chosen_in l h file it = by_area h.area refl it.number
  where
    as_zero : h.area ≡ 0 → Chosen l (header_place 0 file) (header_place 1 file) h
    as_zero area = record {
      number = it.number;
      zero_is = λ e. (
        subst (λ (n : ℕ). is_open_header (header_place n file) ≡ true) area it.opened,
        subst (λ (n : ℕ). header_in (header_place n file) ≡ h) area it.fields,
        subst (λ (n : ℕ). spells_header l n (header_place n file) ≡ true) area it.spelled,
        subst (λ (n : ℕ). IsBelow h.generation (header_place (1 - n) file)) area it.below,
      );
      one_is = λ e. absurd (omega (arith, area, e));
    }

    as_one : h.area ≡ 1 → Chosen l (header_place 0 file) (header_place 1 file) h
    as_one area = record {
      number = it.number;
      zero_is = λ e. absurd (omega (arith, area, e));
      one_is = λ e. (
        subst (λ (n : ℕ). is_open_header (header_place n file) ≡ true) area it.opened,
        subst (λ (n : ℕ). header_in (header_place n file) ≡ h) area it.fields,
        subst (λ (n : ℕ). spells_header l n (header_place n file) ≡ true) area it.spelled,
        subst (λ (n : ℕ). IsBelow h.generation (header_place (1 - n) file)) area it.below,
      );
    }

    by_area : (n : ℕ) → h.area ≡ n → n ≤ 1 → ((h.area ≡ 0) ⊎ (h.area ≡ 1))
        × Chosen l (header_place 0 file) (header_place 1 file) h
    by_area zero area le = (inl area, as_zero area)
    by_area (suc zero) area le = (inr area, as_one area)
    by_area (suc (suc n)) area le = absurd (omega (arith, le))

in_force_by : (l : Layout) (h : Header) (file : List ℕ) → length file ≡ image_length l h.sizes → (h.area ≡ 0)
    ⊎ (h.area ≡ 1) → Chosen l (header_place 0 file) (header_place 1 file) h → InForce l h file
in_force_by l h file size (inl area) it =
    let zero_ = it.zero_is area in
    record {
      number = it.number;
      size = size;
      opened = subst (λ (n : ℕ). is_open_header (header_place n file) ≡ true) (sym area) zero_.0;
      fields = subst (λ (n : ℕ). header_in (header_place n file) ≡ h) (sym area) zero_.1;
      spelled = subst (λ (n : ℕ). spells_header l n (header_place n file) ≡ true) (sym area) zero_.2;
      below = subst (λ (n : ℕ). IsBelow h.generation (header_place (1 - n) file)) (sym area) zero_.3;
    }
in_force_by l h file size (inr area) it =
    let one = it.one_is area in
    record {
      number = it.number;
      size = size;
      opened = subst (λ (n : ℕ). is_open_header (header_place n file) ≡ true) (sym area) one.0;
      fields = subst (λ (n : ℕ). header_in (header_place n file) ≡ h) (sym area) one.1;
      spelled = subst (λ (n : ℕ). spells_header l n (header_place n file) ≡ true) (sym area) one.2;
      below = subst (λ (n : ℕ). IsBelow h.generation (header_place (1 - n) file)) (sym area) one.3;
    }

number_of : (l : Layout) (z o : List ℕ) (h : Header) → Chosen l z o h → (h.area ≡ 0) ⊎ (h.area ≡ 1)
number_of l z o h it = by_area h.area refl it.number
  where
    by_area : (n : ℕ) → h.area ≡ n → n ≤ 1 → (h.area ≡ 0) ⊎ (h.area ≡ 1)
    by_area zero area le = inl area
    by_area (suc zero) area le = inr area
    by_area (suc (suc n)) area le = absurd (omega (arith, le))

-- a file without a fault in length and headers has its header in force

pub in_force : (l : Layout) (file : List ℕ) → header_fault l file ≡ None → InForce l (header_of file) file
in_force l file none =
    let z : List ℕ = header_place 0 file in
    let o : List ℕ = header_place 1 file in
    let a = unless_none (nat_lt (length file) 8192) WrongLength
    (or_else (place_fault l z o)
    (if length file == image_length l (header_of file).sizes then None else Some WrongLength)) none in
    let b = both_none (place_fault l z o)
    (if length file == image_length l (header_of file).sizes then None else Some WrongLength) a.1 in
    let it : Chosen l z o (header_of file) = chosen l z o b.0 in
    in_force_by l (header_of file) file (same_number _ _ (if_none _ _ b.1)) (number_of l z o (header_of file) it) it

-- and the other way round

long : (l : Layout) (h : Header) (file : List ℕ) → length file ≡ image_length l h.sizes → nat_lt (length file) 8192
    ≡ false
long l h file size = grind (arith, nat_tests, size)

same_itself : (m n : ℕ) → m ≡ n → (m == n) ≡ true
same_itself m n is = grind (arith, nat_tests, is)

pub in_force_is : (l : Layout) (h : Header) (file : List ℕ) → InForce l h file → header_of file ≡ h
in_force_is l h file it =
    let c = chosen_in l h file it in
    (right_by l (header_place 0 file) (header_place 1 file) h c.0 c.1).is

pub no_header_fault : (l : Layout) (h : Header) (file : List ℕ) → InForce l h file → header_fault l file ≡ None
no_header_fault l h file it =
    let z : List ℕ = header_place 0 file in
    let o : List ℕ = header_place 1 file in
    let c = chosen_in l h file it in
    let r : Right l z o h = right_by l z o h c.0 c.1 in
    ap (λ (b : Bool). if b then Some WrongLength else or_else (place_fault l z o)
    (if length file == image_length l (header_in (place_in_force z o)).sizes then None else Some WrongLength))
    (long l h file it.size)
    ∙ ap (λ (x : Option Refusal). or_else x
    (if length file == image_length l
    (header_in (place_in_force z o)).sizes then None else Some WrongLength)) r.no_fault
    ∙ ap (λ (x : Header). if length file == image_length l x.sizes then None else Some WrongLength) r.is
    ∙ ap (λ (b : Bool). if b then None else Some WrongLength)
    (same_itself (length file) (image_length l h.sizes) it.size)
