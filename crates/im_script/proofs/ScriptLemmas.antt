-- A script read line by line. (Own.)
use Rattle.std.proofs.Common.{◌≡◌, ℕ, ◌+◌, ◌-◌, ◌<◌, ◌≤◌, Bool, true, false, ◌⊎◌, List, [], ◌∷◌, ◌++◌, length, get_or}
use Rattle.std.proofs.Common.{take, drop, IfSome, IfErr, IsSome, ◌==◌, Some, None, Ok, Err, All, Option, Result}
use Rattle.std.proofs.Common.{option_map, option_and_then, sym, refl, ap, ◌∙◌, subst, inl, inr, arith, length-drop}
use Rattle.std.proofs.Common.{take-append-drop, length-take-le, take_all, get_or-take, Bor, eq-eqb, ne_eqb}
use Rattle.memchr.specs.Find.{is_byte, Nowhere, Passes}
use Rattle.std.proofs.lemmas.List.{drop_more, Splits.slice_split_at, take_more}
use Rattle.std.proofs.lemmas.List.Elements.{All-append, All-cons, All-from_get_or, All-nil}
use Rattle.std.specs.{List.slice_split, Option.option_map_or}
use Rattle.im_script.specs.declared.{faults.ScriptFault.ScriptFault, script.Heard.Heard, script.Script.Script}
use Rattle.im_script.specs.declared.faults.ScriptFault.TheVariants.{BadLine, NoMemory, TooLarge}
use Rattle.im_script.specs.Faults.{bad_line, is_of_size, IsFirstBadLine}
use Rattle.im_script.specs.Script.{Draft, heard, is_few, lines_after, lines_of, lines_say, new_draft, script_of}

-- with glances, or without
module _ (g : Bool) where
  lines_past : (o : Option (Draft × Heard)) (xs ys : List (List ℕ))
      → ((e : Draft) → lines_after g e (xs ++ ys) ≡ option_and_then (λ f. lines_after g f ys) (lines_after g e xs))
      → option_and_then (λ r. lines_after g r.0 (xs ++ ys)) o
      ≡ option_and_then (λ f. lines_after g f ys) (option_and_then (λ r. lines_after g r.0 xs) o)
  lines_past None xs ys h = refl
  lines_past (Some r) xs ys h = h r.0

  -- lines after others
  lines_append : (d : Draft) (xs ys : List (List ℕ)) → lines_after g d (xs ++ ys)
      ≡ option_and_then (λ e. lines_after g e ys) (lines_after g d xs)
  lines_append d [] ys = refl
  lines_append d (x ∷ xs) ys = lines_past (heard g d x) xs ys (λ e. lines_append e xs ys)

  -- the lines up to the one at i, after those before it
  line_at : (d : Draft) (all : List (List ℕ)) (i : ℕ) (line : List ℕ) → i < length all → line ≡ get_or all i line
      → lines_after g new_draft (take i all) ≡ Some d
      → lines_after g new_draft (take (i + 1) all) ≡ option_and_then (λ r. Some r.0) (heard g d line)
  line_at d all i line inside is so_far =
      ap (lines_after g new_draft) (take_more all i line inside)
      ∙ ap (λ (l : List ℕ). lines_after g new_draft (take i all ++ l ∷ [])) (sym is)
      ∙ lines_append new_draft (take i all) (line ∷ [])
      ∙ ap (option_and_then (λ (e : Draft). lines_after g e (line ∷ []))) so_far

  -- a line was read
  pub line_follows : (d e : Draft) (said : Heard) (all : List (List ℕ)) (i j : ℕ) (line : List ℕ) → i < length all
      → line ≡ get_or all i line → j ≡ i + 1 → lines_after g new_draft (take i all) ≡ Some d
      → heard g d line ≡ Some (e, said) → lines_after g new_draft (take j all) ≡ Some e
  line_follows d e said all i j line inside is next so_far read =
      ap (λ (k : ℕ). lines_after g new_draft (take k all)) next ∙ line_at d all i line inside is so_far
      ∙ ap (option_and_then (λ (r : Draft × Heard). Some r.0)) read

  some_mapped : {A B : Type 0} (o : Option A) (f : A → B) → IsSome o → IsSome (option_map f o)
  some_mapped None f h = h
  some_mapped (Some x) f h = refl

  -- lines that are all in the grammar say something
  say_more : (o : Option (Draft × Heard)) (e : Draft) (lines : List (List ℕ))
      → ((d : Draft) → lines_after g d lines ≡ Some e → IsSome (lines_say g d lines))
      → option_and_then (λ r. lines_after g r.0 lines) o ≡ Some e
      → IsSome (option_and_then (λ r. option_map (λ rest. r.1 ∷ rest) (lines_say g r.0 lines)) o)
  say_more None e lines h is = absurd (cc)
  say_more (Some r) e lines h is = some_mapped (lines_say g r.0 lines) (λ rest. r.1 ∷ rest) (h r.0 is)

  they_say : (d e : Draft) (lines : List (List ℕ)) → lines_after g d lines ≡ Some e → IsSome (lines_say g d lines)
  they_say d e [] is = refl
  they_say d e (line ∷ lines) is = say_more (heard g d line) e lines (λ f. they_say f e lines) is

  -- lines that aren't say nothing
  none_past : (o : Option (Draft × Heard)) (lines : List (List ℕ))
      → ((d : Draft) → lines_after g d lines ≡ None → lines_say g d lines ≡ None)
      → option_and_then (λ r. lines_after g r.0 lines) o ≡ None
      → option_and_then (λ r. option_map (λ rest. r.1 ∷ rest) (lines_say g r.0 lines)) o ≡ None
  none_past None lines h is = refl
  none_past (Some r) lines h is = ap (option_map (λ (rest : List Heard). r.1 ∷ rest)) (h r.0 is)

  they_say_none : (d : Draft) (lines : List (List ℕ)) → lines_after g d lines ≡ None → lines_say g d lines ≡ None
  they_say_none d [] is = absurd (cc)
  they_say_none d (line ∷ lines) is = none_past (heard g d line) lines (λ e. they_say_none e lines) is

  -- the lines of a text, taken apart at one of them
  split_at : (all : List (List ℕ)) (i : ℕ) (line : List ℕ) → i < length all → line ≡ get_or all i line → all
      ≡ take i all ++ line ∷ drop (i + 1) all
  split_at all i line inside is =
      sym (take-append-drop i all) ∙ ap (λ (rest : List (List ℕ)). take i all ++ rest) (drop_more all i line inside)
      ∙ ap (λ (l : List ℕ). take i all ++ l ∷ drop (i + 1) all) (sym is)

  -- a line isn't in the grammar, though all before it are
  pub first_fault : (text : List ℕ) (d : Draft) (i n : ℕ) (line : List ℕ) → i < length (lines_of text) → line
      ≡ get_or (lines_of text) i line → lines_after g new_draft (take i (lines_of text)) ≡ Some d
      → heard g d line ≡ None → n ≡ i + 1 → IsFirstBadLine g text n
  first_fault text d i n line inside is so_far none number = record {
    before = take i (lines_of text);
    line = line;
    rest = drop (i + 1) (lines_of text);
    lines = split_at (lines_of text) i line inside is;
    number = number ∙ ap (λ k. k + 1) (sym (length-take-le i (lines_of text) (omega arith)));
    draft = d;
    read = so_far;
    bad = none;
  }

  -- and then the text is no script
  pub no_lines : (text : List ℕ) (n : ℕ) → IsFirstBadLine g text n → lines_say g new_draft (lines_of text) ≡ None
  no_lines text n f = they_say_none new_draft (lines_of text)
      (ap (lines_after g new_draft) f.lines ∙ lines_append new_draft f.before (f.line ∷ f.rest)
      ∙ ap (option_and_then (λ (e : Draft). lines_after g e (f.line ∷ f.rest))) f.read
      ∙ ap (option_and_then (λ (r : Draft × Heard). lines_after g r.0 f.rest)) f.bad)

  pub no_script : (text : List ℕ) (n : ℕ) → is_few text ≡ true → IsFirstBadLine g text n → script_of g text ≡ None
  no_script text n few f = rw few (no_lines text n f)

  all_said : (text : List ℕ) (d : Draft) (i : ℕ) → length (lines_of text) ≤ i
      → lines_after g new_draft (take i (lines_of text)) ≡ Some d → IsSome (lines_say g new_draft (lines_of text))
  all_said text d i past so_far = they_say new_draft d (lines_of text)
      (ap (lines_after g new_draft) (sym (take_all i (lines_of text) past)) ∙ so_far)

  -- no line is left
  pub script_is : (text : List ℕ) (d : Draft) (i : ℕ) → is_few text ≡ true → length (lines_of text) ≤ i
      → lines_after g new_draft (take i (lines_of text)) ≡ Some d → IsSome (script_of g text)
  script_is text d i few past so_far = rw few (all_said text d i past so_far)

  -- what a line's fault says of the text
  first_told : (text : List ℕ) (d : Draft) (i n : ℕ) (line : List ℕ) (f : ScriptFault) → i < length (lines_of text)
      → line ≡ get_or (lines_of text) i line → lines_after g new_draft (take i (lines_of text)) ≡ Some d
      → n ≡ i + 1 → IfSome (bad_line f) (λ at. (at ≡ n) × (heard g d line ≡ None))
      → IfSome (bad_line f) (IsFirstBadLine g text)
  first_told text d i n line NoMemory inside is so_far number h = h
  first_told text d i n line TooLarge inside is so_far number h = h
  first_told text d i n line
      (BadLine at fault) inside is so_far number h = first_fault text d i at line inside is so_far h.1 (h.0 ∙ number)

  -- the same, of the answer that passes it on
  pub passes_first : (text : List ℕ) (d : Draft) (i n : ℕ) (line : List ℕ) (f : ScriptFault)
      (r : Result Heard ScriptFault) (s : Result Script ScriptFault) → i < length (lines_of text) → line
      ≡ get_or (lines_of text) i line
      → lines_after g new_draft (take i (lines_of text)) ≡ Some d → n ≡ i + 1 → r ≡ Err f → s ≡ Err f
      → IfErr r (λ fault. IfSome (bad_line fault) (λ at. (at ≡ n) × (heard g d line ≡ None)))
      → IfErr s (λ fault. IfSome (bad_line fault) (IsFirstBadLine g text))
  passes_first text d i n line f r s inside is so_far number was now h =
      let P : Result Heard ScriptFault
      → Type 0 = λ t. IfErr t (λ fault. IfSome (bad_line fault) (λ at. (at ≡ n) × (heard g d line ≡ None))) in
      let Q : Result Script ScriptFault
      → Type 0 = λ t. IfErr t (λ fault. IfSome (bad_line fault) (IsFirstBadLine g text)) in
      subst Q (sym now) (first_told text d i n line f inside is so_far number (subst P was h))

  -- nor is it a fault of the text's size
  pub passes_size : (f : ScriptFault) (r : Result Heard ScriptFault) (s : Result Script ScriptFault) → r ≡ Err f → s
      ≡ Err f → IfErr r (λ fault. is_of_size fault ≡ false) → IfErr s (λ fault. is_of_size fault ≡ false)
  passes_size f r s was now h =
      let P : Result Heard ScriptFault → Type 0 = λ t. IfErr t (λ fault. is_of_size fault ≡ false) in
      let Q : Result Script ScriptFault → Type 0 = λ t. IfErr t (λ fault. is_of_size fault ≡ false) in
      subst Q (sym now) (subst P was h)

  told_bad : (text : List ℕ) (f : ScriptFault) → is_few text ≡ true → is_of_size f ≡ false
      → IfSome (bad_line f) (IsFirstBadLine g text) → (f ≡ NoMemory) ⊎ (script_of g text ≡ None)
  told_bad text NoMemory few size h = inl refl
  told_bad text TooLarge few size h = absurd (cc)
  told_bad text (BadLine at fault) few size h = inr (no_script text at few h)

  -- whose text is no script
  pub passes_bad : (text : List ℕ) (s : Result Script ScriptFault) → is_few text ≡ true
      → IfErr s (λ fault. is_of_size fault ≡ false) → IfErr s (λ fault. IfSome (bad_line fault) (IsFirstBadLine g text))
      → IfErr s (λ fault. (fault ≡ NoMemory) ⊎ (script_of g text ≡ None))
  passes_bad text (Ok script) few size h = h
  passes_bad text (Err fault) few size h = told_bad text fault few size h

-- a part ends at the first byte that is `end`
pub part_ends : (end : ℕ) (text : List ℕ) (i : ℕ) → i < length text → get_or text i 0 ≡ end
    → All (λ byte. (byte == end) ≡ false) (take i text)
    → slice_split (λ byte. byte == end) text ≡ take i text ∷ slice_split (λ byte. byte == end) (drop (i + 1) text)
part_ends end text i inside is none =
    ap (slice_split (λ byte. byte == end)) (sym (take-append-drop i text)
    ∙ ap (λ (rest : List ℕ). take i text ++ rest) (drop_more text i 0 inside))
    ∙ slice_split_at (λ byte. byte == end) (take i text) (get_or text i 0) (drop (i + 1) text) none
    (eq-eqb (get_or text i 0) end is)

-- one byte more that ends no part
pub no_end : (end : ℕ) (text : List ℕ) (i : ℕ) → i < length text → (get_or text i 0 ≡ end → ⊥)
    → All (λ byte. (byte == end) ≡ false) (take i text) → All (λ byte. (byte == end) ≡ false) (take (i + 1) text)
no_end end text i inside other none =
    subst (All (λ byte. (byte == end) ≡ false)) (sym (take_more text i 0 inside))
    (All-append (λ byte. (byte == end) ≡ false) (take i text) (get_or text i 0 ∷ []) none
    (All-cons (λ byte. (byte == end) ≡ false) (get_or text i 0) [] (ne_eqb (get_or text i 0) end other)
    (All-nil (λ byte. (byte == end) ≡ false))))

-- no byte before this place is `end`
pub none_before : (end : ℕ) (text : List ℕ) (i : ℕ) → i ≤ length text → Nowhere (Passes (is_byte end) text) 0 i
    → All (λ byte. (byte == end) ≡ false) (take i text)
none_before end text i inside none = All-from_get_or (λ byte. (byte == end) ≡ false) (take i text) 0 (λ k less.
    let below : k < i = omega (arith, less, length-take-le i text inside) in
    ne_eqb (get_or (take i text) k 0) end (λ is.
    none k (omega arith) below (eq-eqb (get_or text k 0) end (sym (get_or-take i text k 0 below) ∙ is))))

-- ---- lines that are left

-- the next line and those behind it, of the lines from this one on
pub lines_here : (all : List (List ℕ)) (n : ℕ) (rest : Option (Bor (List ℕ))) (left : Bor (List ℕ)) (line : List ℕ)
    (behind : Option (Bor (List ℕ))) → drop n all ≡ option_map_or (λ r. lines_of r.now) rest [] → rest ≡ Some left
    → lines_of left.now ≡ line ∷ option_map_or (λ r. lines_of r.now) behind []
    → drop n all ≡ line ∷ option_map_or (λ r. lines_of r.now) behind []
lines_here all n rest left line behind so_far is cut =
    so_far ∙ ap (λ (o : Option (Bor (List ℕ))). option_map_or (λ r. lines_of r.now) o []) is ∙ cut

pub line_inside : (all : List (List ℕ)) (n : ℕ) (line : List ℕ) (more : List (List ℕ)) → drop n all ≡ line ∷ more
    → n < length all
line_inside all n line more here =
    let longer : length (line ∷ more) ≡ length all - n = sym (ap length here) ∙ length-drop n all in
    omega (arith, longer)

pub line_here : (all : List (List ℕ)) (n : ℕ) (line : List ℕ) (more : List (List ℕ)) → drop n all ≡ line ∷ more
    → line ≡ get_or all n line
line_here all n line more here =
    ap (λ (l : List (List ℕ)). get_or l 0 line)
    (sym here ∙ drop_more all n line (line_inside all n line more here))

pub lines_behind : (all : List (List ℕ)) (n : ℕ) (line : List ℕ) (more : List (List ℕ)) → drop n all ≡ line ∷ more
    → drop (n + 1) all ≡ more
lines_behind all n line more here =
    ap (λ (l : List (List ℕ)). drop 1 l)
    (sym (drop_more all n line (line_inside all n line more here)) ∙ here)

-- each line takes a byte, but for the last
pub few_left : (n : ℕ) (text : List ℕ) (rest : Option (Bor (List ℕ))) (left : Bor (List ℕ))
    (behind : Option (Bor (List ℕ))) → rest ≡ Some left → IfSome behind (λ r. length r.now < length left.now)
    → n + option_map_or (λ r. length r.now + 1) rest 0 ≤ length text + 1
    → (n + 1) + option_map_or (λ r. length r.now + 1) behind 0 ≤ length text + 1
few_left n text rest left None is smaller few =
    let so_far : n + (length left.now + 1) ≤ length text + 1 = subst (λ (o : Option (Bor (List ℕ))).
    n + option_map_or (λ r. length r.now + 1) o 0 ≤ length text + 1) is few in
    omega (arith, so_far)
few_left n text rest left (Some behind) is smaller few =
    let so_far : n + (length left.now + 1) ≤ length text + 1 = subst (λ (o : Option (Bor (List ℕ))).
    n + option_map_or (λ r. length r.now + 1) o 0 ≤ length text + 1) is few in
    omega (arith, so_far, smaller)

-- no line is left
pub none_left : (all : List (List ℕ)) (n : ℕ) (rest : Option (Bor (List ℕ))) → rest ≡ None
    → drop n all ≡ option_map_or (λ r. lines_of r.now) rest [] → length all ≤ n
none_left all n rest is left =
    let none : drop n all ≡ [] = left
    ∙ ap (λ (o : Option (Bor (List ℕ))). option_map_or (λ r. lines_of r.now) o []) is in
    let all_past : length all - n ≡ 0 = sym (length-drop n all) ∙ ap length none in
    omega (arith, all_past)
