-- What a read of a reader that was lent gives. (Own.)
use Rattle.std.proofs.Common.{◌≡◌, ℕ, zero, suc, ◌+◌, ◌<◌, ◌≢◌, List, [], ◌∷◌, ◌++◌, length, take, drop, IfSome}
use Rattle.std.proofs.Common.{slice_index, Some, None, Ok, Err, Option, Result, option_map, unwrap_or, sym, refl, ap}
use Rattle.std.proofs.Common.{◌∙◌, subst, append_assoc, arith, drop-drop, drop_at}
use Rattle.std.specs.Io.KnownBytes.{Consumes, IsAtEnd, Keeps, ReadConsumes}
use Rattle.std.specs.Option.{ForSome}
use Rattle.im_listening.specs.declared.delivery.Delivery.{Delivery}
use Rattle.im_listening.specs.Lending.{bytes_heard, HasBytes, HearsByte, StillHas}
use Rattle.im_listening.specs.declared.delivery.Delivery.TheVariants as heard_as

none_is : (x : List ℕ) → None ≡ Some x → ⊥
none_is x is = subst (λ (o : Option (List ℕ)). IfSome o (λ _. ⊥)) is tt

some_is : (x y : List ℕ) → Some x ≡ Some y → x ≡ y
some_is x y is = ap (λ (o : Option (List ℕ)). unwrap_or o []) is

-- a fact of what is known
known : (P : List ℕ → Type 0) (all : List ℕ) → P all → ForSome (Some all) P
known P all it other is = subst P (some_is all other is) it

-- so many of these bytes were given; what is left was heard, or is what the input has
abbrev Holds : ℕ → Delivery → Option (List ℕ) → List ℕ → Type 0
Holds given heard has all =
    (option_map (λ left. bytes_heard heard ++ left) has ≡ Some (drop given all))
    × (heard ≡ heard_as.End → has ≡ Some [])

-- what is left behind the bytes in front
drop_front : (g n : ℕ) (all front left : List ℕ) → drop g all ≡ front ++ left → length front ≡ n
    → drop (g + n) all ≡ left
drop_front g n all front left is long =
    sym (drop-drop n g all) ∙ ap (λ (l : List ℕ). drop n l) is ∙ drop_at front left n long

-- what is left, as what was heard, what was read behind it, and the rest
in_front : (g : ℕ) (h : Delivery) (all l k xs : List ℕ) → StillHas (Some all) g h (Some l) → l ≡ xs ++ k
    → drop g all ≡ (bytes_heard h ++ xs) ++ k
in_front g h all l k xs was read =
    sym (some_is (bytes_heard h ++ l) (drop g all) (was all refl).0) ∙ ap (λ (l : List ℕ). bytes_heard h ++ l) read
    ∙ sym (append_assoc (bytes_heard h) xs k)

-- what was heard, and what was read behind it, is given; what is heard then has no byte
pub goes_on : (whole : Option (List ℕ)) (g n : ℕ) (h d : Delivery) (has is : Option (List ℕ)) (xs : List ℕ)
    → StillHas whole g h has → Consumes has is xs → length (bytes_heard h ++ xs) ≡ n
    → bytes_heard d ≡ [] → (d ≡ heard_as.End → IsAtEnd is) → StillHas whole (g + n) d is
goes_on None g n h d has is xs was read long none end = λ all it. absurd (none_is all it)
goes_on (Some all) g n h d None is xs was read long none end = absurd (none_is (drop g all) (was all refl).0)
goes_on (Some all) g n h d (Some l) None xs was read long none end = absurd read
goes_on (Some all) g n h d (Some l) (Some k) xs was read long none end =
    known (Holds (g + n) d (Some k)) all (
      ap (λ (l : List ℕ). Some l) (ap (λ (l : List ℕ). l ++ k) none ∙ sym front),
      λ heard. ap (λ (l : List ℕ). Some l) (end heard),
    )
  where
    front : drop (g + n) all ≡ k
    front = drop_front g n all (bytes_heard h ++ xs) k (in_front g h all l k xs was read) long

-- a failed read takes nothing; what is heard then has no byte, and is no end
pub stays : (whole : Option (List ℕ)) (g : ℕ) (h d : Delivery) (has is : Option (List ℕ)) → StillHas whole g h has
    → Keeps has is → bytes_heard h ≡ [] → bytes_heard d ≡ [] → (d ≡ heard_as.End → ⊥) → StillHas whole g d is
stays None g h d has is was kept none nothing no_end = λ all it. absurd (none_is all it)
stays (Some all) g h d None is was kept none nothing no_end = absurd (none_is (drop g all) (was all refl).0)
stays (Some all) g h d (Some l) None was kept none nothing no_end = absurd kept
stays (Some all) g h d (Some l) (Some k) was kept none nothing no_end =
    known (Holds g d (Some k)) all (
      ap (λ (l : List ℕ). Some l) (ap (λ (l : List ℕ). l ++ k) (nothing ∙ sym none)
          ∙ ap (λ (k : List ℕ). bytes_heard h ++ k) kept) ∙ (was all refl).0,
      λ end. absurd (no_end end),
    )

-- a byte was read, and is heard
pub hears : (whole : Option (List ℕ)) (g : ℕ) (h d : Delivery) (has is : Option (List ℕ)) (xs : List ℕ)
    → StillHas whole g h has → Consumes has is xs → bytes_heard h ≡ [] → bytes_heard d ≡ xs
    → (d ≡ heard_as.End → IsAtEnd is) → StillHas whole g d is
hears None g h d has is xs was read none heard end = λ all it. absurd (none_is all it)
hears (Some all) g h d None is xs was read none heard end = absurd (none_is (drop g all) (was all refl).0)
hears (Some all) g h d (Some l) None xs was read none heard end = absurd read
hears (Some all) g h d (Some l) (Some k) xs was read none heard end =
    known (Holds g d (Some k)) all (
      ap (λ (l : List ℕ). Some l) (ap (λ (l : List ℕ). l ++ k) heard
          ∙ ap (λ (l : List ℕ). (l ++ xs) ++ k) (sym none) ∙ sym (in_front g h all l k xs was read)),
      λ heard. ap (λ (l : List ℕ). Some l) (end heard),
    )

abbrev IsNothing : Delivery → Type 0
IsNothing heard_as.Nothing = Unit {0}
IsNothing _ = ⊥

no_end : heard_as.Nothing ≡ heard_as.End → ⊥
no_end is = subst IsNothing is tt

-- known bytes stay
pub keeps_left : (left : Option (List ℕ)) → Keeps left left
keeps_left None = tt
keeps_left (Some l) = refl

-- ---- as the calls have it

-- nothing taken is no byte
pub keeps_none : (has is : Option (List ℕ)) → Keeps has is → Consumes has is []
keeps_none None is kept = tt
keeps_none (Some l) None kept = absurd kept
keeps_none (Some l) (Some k) kept = sym kept

-- of a reader that had given nothing to be heard, a read gave this
pub reads_kept : (whole : Option (List ℕ)) (g n : ℕ) (h d : Delivery) (has is : Option (List ℕ)) (buf : List ℕ)
    → StillHas whole g h has → bytes_heard h ≡ []
    → Consumes has is (take n buf) × (n ≡ 0 → 0 < length buf → IsAtEnd is) → n ≡ length (take n buf)
    → bytes_heard d ≡ [] → (d ≡ heard_as.End → (n ≡ 0) × (0 < length buf)) → StillHas whole (g + n) d is
reads_kept whole g n h d has is buf was none read long nothing only =
    goes_on whole g n h d has is (take n buf) was read.0
    (ap (λ (l : List ℕ). length (l ++ take n buf)) none ∙ sym long) nothing
    (λ end. read.1 (only end).0 (only end).1)

-- behind a byte that was heard, a read gave this
pub first_kept : (whole : Option (List ℕ)) (g more byte : ℕ) (h d : Delivery) (has is : Option (List ℕ)) (rest : List ℕ)
    → StillHas whole g h has → h ≡ heard_as.Byte byte
    → Consumes has is (take more rest) × (more ≡ 0 → 0 < length rest → IsAtEnd is) → more ≡ length (take more rest)
    → bytes_heard d ≡ [] → (d ≡ heard_as.End → (more ≡ 0) × (0 < length rest)) → StillHas whole (g + (1 + more)) d is
first_kept whole g more byte h d has is rest was heard read long nothing only =
    goes_on whole g (1 + more) h d has is (take more rest) was read.0
    (ap (λ (h : Delivery). length (bytes_heard h ++ take more rest)) heard ∙ omega (arith, long)) nothing
    (λ end. read.1 (only end).0 (only end).1)

-- the byte that was heard was given alone
pub one_kept : (whole : Option (List ℕ)) (g byte : ℕ) (h : Delivery) (has is : Option (List ℕ))
    → StillHas whole g h has → h ≡ heard_as.Byte byte → Keeps has is → StillHas whole (g + 1) heard_as.Nothing is
one_kept whole g byte h has is was heard kept =
    goes_on whole g 1 h heard_as.Nothing has is [] was (keeps_none has is kept)
    (ap (λ (h : Delivery). length (bytes_heard h ++ [])) heard) refl (λ end. absurd (no_end end))

abbrev IsByte : Delivery → Type 0
IsByte (heard_as.Byte _) = Unit {0}
IsByte _ = ⊥

waited_one : {E : Type 0} (whole : Option (List ℕ)) (g : ℕ) (h d : Delivery) (has is : Option (List ℕ))
    (r : Result ℕ E) (byte : ℕ) → StillHas whole g h has → h ≡ heard_as.Nothing
    → ReadConsumes has is r (byte ∷ []) → HearsByte r byte d → StillHas whole g d is
waited_one whole g h d has is (Err e) byte was nothing read hear =
    stays whole g h d has is was read (ap bytes_heard nothing) hear.0 hear.1
waited_one whole g h d has is (Ok zero) byte was nothing read hear =
    hears whole g h d has is [] was read.0 (ap bytes_heard nothing) (ap bytes_heard (hear.0 refl))
    (λ end. read.1 refl (omega arith))
waited_one whole g h d has is (Ok (suc n)) byte was nothing read hear =
    hears whole g h d has is (byte ∷ []) was (one n read.0) (ap bytes_heard nothing) (ap bytes_heard (hear.1 some))
    (λ end. absurd (no_byte (sym (hear.1 some) ∙ end)))
  where
    some : suc n ≢ 0
    some is = omega (arith, is)

    one : (n : ℕ) → Consumes has is (byte ∷ take n []) → Consumes has is (byte ∷ [])
    one zero it = it
    one (suc n) it = it

    no_byte : heard_as.Byte byte ≡ heard_as.End → ⊥
    no_byte is = subst IsByte is tt

-- a byte was waited for
pub waited : {E : Type 0} (whole : Option (List ℕ)) (g : ℕ) (h d : Delivery) (has is : Option (List ℕ))
    (r : Result ℕ E) (buf : List ℕ) → StillHas whole g h has → h ≡ heard_as.Nothing
    → ReadConsumes has is r buf → length buf ≡ 1 → HearsByte r (slice_index buf 0) d → StillHas whole g d is
waited whole g h d has is r [] was nothing read one hear = absurd (omega (arith, one))
waited whole g h d has is r (byte ∷ []) was nothing read one hear =
    waited_one whole g h d has is r byte was nothing read hear
waited whole g h d has is r (byte ∷ next ∷ rest) was nothing read one hear = absurd (omega (arith, one))

-- a failed read leaves what was heard
pub stays_same : (whole : Option (List ℕ)) (g : ℕ) (h : Delivery) (has is : Option (List ℕ)) → StillHas whole g h has
    → Keeps has is → StillHas whole g h is
stays_same None g h has is was kept = λ all it. absurd (none_is all it)
stays_same (Some all) g h None is was kept = absurd (none_is (drop g all) (was all refl).0)
stays_same (Some all) g h (Some l) None was kept = absurd kept
stays_same (Some all) g h (Some l) (Some k) was kept =
    subst (λ (m : List ℕ). StillHas (Some all) g h (Some m)) (sym kept) was
