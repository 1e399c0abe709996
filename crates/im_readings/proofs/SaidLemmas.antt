-- What is said of lines is read back, line by line. (Own.)
use Rattle.std.proofs.Common.{◌≡◌, ℕ, zero, suc, true, ◌≢◌, List, [], ◌∷◌, ◌++◌, map, All, sym, refl, ap, ◌∙◌, ap₂}
use Rattle.std.proofs.Common.{append_assoc, append-nil, arith}
use Rattle.im_types.specs.Types.{Refusal}
use Rattle.im_text.specs.{declared.OutputLine.OutputLine, Said.said_all, Said.said_in}
use Rattle.im_text.specs.declared.OutputLine.TheVariants.{Done, Glance, Now, Refused, Reply}
use Rattle.im_text.specs.declared.Style.{Style, TheVariants.Json, TheVariants.Quiet, TheVariants.Text}
use Rattle.im_readings.proofs.FeedLemmas.{first_line, is_line, line_first, past_line}
use Rattle.im_readings.proofs.WordLemmas.{object_in, object_read, Reads, words_in, words_read}
use Rattle.im_readings.specs.Lines.{FitsLine, refusals_in}

-- ---- lines one after another

no_line : (xs x : List ℕ) → is_line xs ≡ true → [] ≡ xs ++ x → ⊥
no_line [] x is e = absurd (cc)
no_line (c ∷ xs) x is e = absurd (cc)

-- each line in a style is one, and is read back
abbrev IsReadBack : Style → Type 0
IsReadBack style =
    (read : List ℕ → OutputLine) × ((line : OutputLine) → FitsLine line → Reads read line (said_in style line))

pub read_back : (style : Style) → style ≢ Quiet → IsReadBack style
read_back Text other = (words_in, words_read)
read_back Json other = (object_in, object_read)
read_back Quiet other = absurd (other refl)

text_back : IsReadBack Text
text_back = (words_in, words_read)

pub line_same : (style : Style) → IsReadBack style → (a b : OutputLine) → FitsLine a → FitsLine b
    → said_in style a ≡ said_in style b → a ≡ b
line_same style back a b p q e = sym (back.1 a p).0 ∙ ap back.0 e ∙ (back.1 b q).0

fit_rest : (line : OutputLine) (lines : List OutputLine) → All FitsLine (line ∷ lines) → All FitsLine lines
fit_rest line lines fit = λ k d low. fit (suc k) d (omega (arith, low))

-- lines that what is said of others begins with are the first of these
pub first_lines : (style : Style) → IsReadBack style → (a b : List OutputLine) (x : List ℕ) → All FitsLine a
    → All FitsLine b → said_all style a ≡ said_all style b ++ x
    → (more : List OutputLine) × (a ≡ b ++ more) × (said_all style more ≡ x) × All FitsLine more
unfolding said_all
first_lines style back a [] x p q e = (a, refl, e, p)
first_lines style back [] (b ∷ bs) x p q e =
    absurd (no_line (said_in style b) (said_all style bs ++ x) (back.1 b (q 0 b (omega arith))).1
    (e ∙ append_assoc (said_in style b) (said_all style bs) x))
first_lines style back (a ∷ rest) (b ∷ bs) x p q e =
    let first = p 0 a (omega arith) in
    let other = q 0 b (omega arith) in
    let left = line_first (said_in style a) (said_all style rest) (back.1 a first).1 in
    let right = line_first (said_in style b) (said_all style bs ++ x) (back.1 b other).1 in
    let same = e ∙ append_assoc (said_in style b) (said_all style bs) x in
    let (more, is, behind, fit) = first_lines style back rest bs x (fit_rest a rest p) (fit_rest b bs q)
    (sym left.1 ∙ ap past_line same ∙ right.1) in (
      more,
      ap₂ (λ (l : OutputLine) (ls : List OutputLine). l ∷ ls)
          (line_same style back a b first other (sym left.0 ∙ ap first_line same ∙ right.0)) is,
      behind,
      fit,
    )

-- lines of which nothing is said are none
none_said : (style : Style) → IsReadBack style → (lines : List OutputLine) → All FitsLine lines
    → said_all style lines ≡ [] → lines ≡ []
unfolding said_all
none_said style back [] fit e = refl
none_said style back (line ∷ lines) fit e =
    absurd (no_line (said_in style line) (said_all style lines) (back.1 line (fit 0 line (omega arith))).1 (sym e))

pub lines_same : (style : Style) → IsReadBack style → (a b : List OutputLine) → All FitsLine a → All FitsLine b
    → said_all style a ≡ said_all style b → a ≡ b
lines_same style back a b p q e =
    let (more, is, behind, fit) = first_lines style back a b [] p q (e ∙ sym (append-nil (said_all style b))) in
    is ∙ ap (λ l. b ++ l) (none_said style back more fit behind) ∙ append-nil b

-- ---- only refusals

abbrev refused_lines : List Refusal → List OutputLine
refused_lines refusals = map Refused refusals

quiet_is : (lines : List OutputLine) → said_all Quiet lines ≡ said_all Text (refused_lines (refusals_in lines))
unfolding said_all
quiet_is [] = refl
quiet_is (Reply w ∷ lines) = quiet_is lines
quiet_is (Now w ∷ lines) = quiet_is lines
quiet_is (Done element number ∷ lines) = quiet_is lines
quiet_is (Glance element address value ∷ lines) = quiet_is lines
quiet_is (Refused refusal ∷ lines) = ap (λ l. said_in Text (Refused refusal) ++ l) (quiet_is lines)

refused_fit : (refusals : List Refusal) → All FitsLine (refused_lines refusals)
refused_fit [] k d low = absurd (omega (arith, low))
refused_fit (refusal ∷ refusals) zero d low = tt
refused_fit (refusal ∷ refusals) (suc k) d low = refused_fit refusals k d (omega (arith, low))

refused_in : (refusals : List Refusal) → refusals_in (refused_lines refusals) ≡ refusals
refused_in [] = refl
refused_in (refusal ∷ refusals) = ap (λ l. refusal ∷ l) (refused_in refusals)

pub refusals_same : (a b : List OutputLine) → said_all Quiet a ≡ said_all Quiet b → refusals_in a ≡ refusals_in b
refusals_same a b e =
    let same = lines_same Text text_back (refused_lines (refusals_in a)) (refused_lines (refusals_in b))
    (refused_fit (refusals_in a)) (refused_fit (refusals_in b)) (sym (quiet_is a) ∙ e ∙ quiet_is b) in
    sym (refused_in (refusals_in a)) ∙ ap refusals_in same ∙ refused_in (refusals_in b)

pub quiet_same : (a b : List OutputLine) → refusals_in a ≡ refusals_in b → said_all Quiet a ≡ said_all Quiet b
quiet_same a b e = quiet_is a ∙ ap (λ l. said_all Text (refused_lines l)) e ∙ sym (quiet_is b)
