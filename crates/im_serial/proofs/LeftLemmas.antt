-- How many of each element's requests are left, and what is new of a script whose first requests were put. (Own.)
use Rattle.std.proofs.Common.{◌≡◌, ℕ, zero, suc, ◌+◌, ◌-◌, ◌<◌, ◌≤◌, Bool, true, false, ◌&&◌, List, [], ◌∷◌, ◌++◌, map}
use Rattle.std.proofs.Common.{length, get_or, set, if◌then◌else◌, nat_lt, ◌==◌, slice_get, sym, refl, ap, ◌∙◌, subst}
use Rattle.std.proofs.Common.{⊎_elim, append_assoc, arith, get_or-set_other, get_or-set_same}
use Rattle.std.{proofs.lemmas.Bool.cases_eq, proofs.lemmas.Bool.Decides.nat_tests, specs.Option.option_map_or}
use Rattle.{im_types.specs.Types.Window, im_types.specs.Types.next_number, im_laws.proofs.GroupLemmas.above_zero}
use Rattle.im_serial.specs.Asked.{Wanted}
use Rattle.im_serial.specs.Had.{bases_had, end_with, has_next, left_of, length_asked, met, news, sums_of}

-- ---- what is left of an element's requests

some_within : (xs : List ℕ) (i : ℕ) → 0 < get_or xs i 0 → i < length xs
some_within [] i some = absurd (omega arith)
some_within (x ∷ xs) zero some = omega arith
some_within (x ∷ xs) (suc i) some = let it = some_within xs i some in omega arith

-- one less is left of that element's
pub met_here : (many : List ℕ) (e : ℕ) → has_next many e ≡ true → left_of (met many e) e + 1 ≡ left_of many e
met_here many e has =
    let some : 0 < left_of many e = above_zero (left_of many e) has in
    let is : left_of (met many e) e ≡ left_of many e - 1 = ap (λ (b : Bool). left_of (if b then set many e (left_of many
    e - 1) else many) e) has ∙ get_or-set_same many e (left_of many e - 1) 0 (some_within many e some) in
    omega arith

-- and as many as before of another's
pub met_there : (many : List ℕ) (e f : ℕ) → (f ≡ e → ⊥) → left_of (met many e) f ≡ left_of many f
met_there many e f other = by_test (has_next many e) refl
  where
    by_test : (b : Bool) → has_next many e ≡ b → left_of (met many e) f ≡ left_of many f
    by_test true has = ap (λ (b : Bool). left_of (if b then set many e (left_of many e - 1) else many) f) has
        ∙ get_or-set_other many e f (left_of many e - 1) 0 other
    by_test false has = ap (λ (b : Bool). left_of (if b then set many e (left_of many e - 1) else many) f) has

-- no more is left of any
pub met_less : (many : List ℕ) (e f : ℕ) → left_of (met many e) f ≤ left_of many f
met_less many e f = ⊎_elim by_same (λ other. let it = met_there many e f other in omega arith) (cases_eq f e)
  where
    by_test : (b : Bool) → has_next many e ≡ b → left_of (met many e) e ≤ left_of many e
    by_test true has = let it = met_here many e has in omega arith
    by_test false has =
        let is : left_of (met many e) e ≡ left_of many e = ap (λ (b : Bool). left_of (if b then set many e (left_of many
        e - 1) else many) e) has in
        omega arith

    by_same : f ≡ e → left_of (met many e) f ≤ left_of many f
    by_same same = subst (λ (x : ℕ). left_of (met many e) x ≤ left_of many x) (sym same) (by_test (has_next many e)
        refl)

-- something is left
pub has_some : (many : List ℕ) (e f left : ℕ) → f ≡ e → left ≡ left_of many e → (left ≡ 0 → ⊥) → has_next many f ≡ true
has_some many e f left same is some = ap (has_next many) same ∙ by_left (left_of many e) (λ none. some (is ∙ none))
  where
    by_some : (n : ℕ) → 0 < n → nat_lt 0 n ≡ true
    by_some n less = grind (arith, nat_tests)

    by_left : (n : ℕ) → (n ≡ 0 → ⊥) → nat_lt 0 n ≡ true
    by_left zero some = absurd (some refl)
    by_left (suc n) some = by_some (suc n) (omega arith)

-- nothing is left
has_none : (many : List ℕ) (e : ℕ) → left_of many e ≡ 0 → has_next many e ≡ false
has_none many e none = ap (nat_lt 0) none

-- ---- how many requests a memory has

pub had_at : (windows : List Window) (k : ℕ) → get_or (map (λ (w : Window). next_number w - 1) windows) k 0
    ≡ option_map_or (λ (w : Window). next_number w - 1) (slice_get windows k) 0
had_at [] k = refl
had_at (w ∷ windows) zero = refl
had_at (w ∷ windows) (suc k) = had_at windows k

-- ---- a script whose first requests were put

-- how many of these requests are an element's
abbrev pub count_of : ℕ → List Wanted → ℕ
count_of e [] = 0
count_of e (w ∷ wanted) = if e == w.element then count_of e wanted + 1 else count_of e wanted

-- so many of each element's are left
abbrev pub AreLeft : List ℕ → List Wanted → Type 0
AreLeft many done = (e : ℕ) → left_of many e ≡ count_of e done

count_here : (e : ℕ) (w : Wanted) (done : List Wanted) → e ≡ w.element → count_of e (w ∷ done) ≡ count_of e done + 1
count_here e w done same =
    let test : (e == w.element) ≡ true = grind (arith, nat_tests) in
    ap (λ (b : Bool). if b then count_of e done + 1 else count_of e done) test

count_there : (e : ℕ) (w : Wanted) (done : List Wanted) → (e ≡ w.element → ⊥) → count_of e (w ∷ done) ≡ count_of e done
count_there e w done other =
    let test : (e == w.element) ≡ false = grind (arith, nat_tests) in
    ap (λ (b : Bool). if b then count_of e done + 1 else count_of e done) test

pub count-append : (e : ℕ) (done more : List Wanted) → count_of e (done ++ more) ≡ count_of e done + count_of e more
count-append e [] more = omega arith
count-append e (w ∷ done) more = ⊎_elim
    (λ same.
    let all = count_here e w (done ++ more) same in
    let one = count_here e w done same in
    let it = count-append e done more in
    omega arith)
    (λ other.
    let all = count_there e w (done ++ more) other in
    let one = count_there e w done other in
    let it = count-append e done more in
    omega arith)
    (cases_eq e w.element)

-- one request more
pub count_more : (e : ℕ) (done : List Wanted) (w : Wanted) → e ≡ w.element
    → count_of e (done ++ w ∷ []) ≡ count_of e done + 1
count_more e done w same =
    let one = count_here e w [] same in
    let all = count-append e done (w ∷ []) in
    omega arith

pub count_same : (e : ℕ) (done : List Wanted) (w : Wanted) → (e ≡ w.element → ⊥)
    → count_of e (done ++ w ∷ []) ≡ count_of e done
count_same e done w other =
    let one = count_there e w [] other in
    let all = count-append e done (w ∷ []) in
    omega arith

-- the first of them is had
pub first_had : (many : List ℕ) (w : Wanted) (done : List Wanted) → AreLeft many (w ∷ done)
    → has_next many w.element ≡ true
first_had many w done are =
    let one = count_here w.element w done refl in
    let it = are w.element in
    has_some many w.element w.element (left_of many w.element) refl refl (λ none. omega arith)

-- and then the others are left
pub others_left : (many : List ℕ) (w : Wanted) (done : List Wanted) → AreLeft many (w ∷ done)
    → AreLeft (met many w.element) done
others_left many w done are e = ⊎_elim
    (λ same.
    let at = are e in
    let one = count_here e w done same in
    let here : left_of (met many w.element) e + 1 ≡ left_of many e = subst (λ (x : ℕ). left_of (met many w.element) x +
    1 ≡ left_of many x) (sym same) (met_here many w.element (first_had many w done are)) in
    omega arith)
    (λ other.
    let at = are e in
    let one = count_there e w done other in
    let there = met_there many w.element e other in
    omega arith)
    (cases_eq e w.element)

-- nothing is had: all of it is new
news_all : (many : List ℕ) (left : List Wanted) → AreLeft many [] → news many left ≡ left
news_all many [] none = refl
news_all many (w ∷ left) none = ap (λ (b : Bool). (if b then [] else w ∷ []) ++ news (if b then set many w.element
    (left_of many w.element - 1) else many) left) (has_none many w.element (none w.element))
    ∙ ap (λ (l : List Wanted). w ∷ l) (news_all many left none)

-- what was put is had, and the rest is new
pub news_left : (many : List ℕ) (done left : List Wanted) → AreLeft many done → news many (done ++ left) ≡ left
news_left many [] left are = news_all many left are
news_left many (w ∷ done) left are = ap (λ (b : Bool). (if b then [] else w ∷ []) ++ news (met many w.element) (done ++
    left)) (first_had many w done are)
    ∙ news_left (met many w.element) done left (others_left many w done are)

-- ---- the bases of the blocks that were made

-- and behind all of these
abbrev pub end_of : ℕ → List Wanted → ℕ
end_of end [] = end
end_of end (w ∷ wanted) = end_of (end_with end w) wanted

bases_none : (many : List ℕ) (end : ℕ) (left : List Wanted) → AreLeft many [] → bases_had many end left ≡ []
bases_none many end [] none = refl
bases_none many end (w ∷ left) none = ap (λ (b : Bool). (if b && w.named then end ∷ [] else []) ++ bases_had (if b then
    set many w.element (left_of many w.element - 1) else many) (if b && w.named then end + length_asked w.action else
    end) left) (has_none many w.element (none w.element))
    ∙ bases_none many end left none

-- the blocks that are had are those that were put
pub bases_left : (many : List ℕ) (end : ℕ) (done left : List Wanted) → AreLeft many done
    → bases_had many end (done ++ left) ≡ sums_of end done
bases_left many end [] left are = bases_none many end left are
bases_left many end (w ∷ done) left are = ap (λ (b : Bool). (if b && w.named then end ∷ [] else []) ++ bases_had (met
    many w.element) (if b && w.named then end + length_asked w.action else end) (done ++ left)) (first_had many w done
    are)
    ∙ ap (λ (l : List ℕ). (if w.named then end ∷ [] else []) ++ l) (bases_left (met many w.element) (end_with end w)
    done left (others_left many w done are))

pub sums-append : (end : ℕ) (done more : List Wanted) → sums_of end (done ++ more) ≡ sums_of end done ++ sums_of (end_of
    end done) more
sums-append end [] more = refl
sums-append end (w ∷ done) more = ap (λ (l : List ℕ). (if w.named then end ∷ [] else []) ++ l) (sums-append (end_with
    end w) done more)
    ∙ sym (append_assoc (if w.named then end ∷ [] else []) (sums_of (end_with end w) done) (sums_of (end_of (end_with
    end w) done) more))

pub end-append : (end : ℕ) (done more : List Wanted) → end_of end (done ++ more) ≡ end_of (end_of end done) more
end-append end [] more = refl
end-append end (w ∷ done) more = end-append (end_with end w) done more
