-- The words of a line, cut off one after another. (Own.)
use Rattle.std.proofs.Common.{◌≡◌, ℕ, ◌+◌, ◌<◌, ◌≤◌, true, false, not, List, [], ◌∷◌, ◌++◌, length, get_or, take, drop}
use Rattle.std.proofs.Common.{◌==◌, Some, None, All, filter, Option, bytes_eq, sym, refl, ap, ◌∙◌, inl, inr, append-nil}
use Rattle.std.proofs.Common.{arith, take_all, Bor, eqb-true}
use Rattle.std.proofs.lemmas.{Bool.cases_Bool, Bool.Decides.Decides-eqb, Slice.Eq.slice_eq-Decides}
use Rattle.std.proofs.lemmas.List.{at_drop_more, drop_all, length-map, Splits.slice_split_none, take-append-le}
use Rattle.std.specs.{Char.is_ascii, List.list_all, List.slice_split, Option.option_map_or}
use Rattle.im_script.proofs.ScriptLemmas.{part_ends}
use Rattle.im_script.specs.declared.script.Stage.{Stage, TheVariants.Part, TheVariants.Setup, TheVariants.Start}
use Rattle.im_script.specs.{Grammar.is_short, Grammar.texts, Grammar.words_of, Words.words_past}
use Rattle.im_script.specs.Script.{Draft, glance_at, heard, heard_in, line_at, line_says, words_after}

-- ---- one word

-- a part before other words
words_more : (part : List ℕ) (parts : List (List ℕ)) → filter (λ word. not (length word == 0)) (part ∷ parts)
    ≡ words_past part (filter (λ word. not (length word == 0)) parts)
words_more part parts = elim (cases_Bool (length part == 0)) [ inl is ↦ rw is refl | inr isnt ↦ rw isnt refl ]

-- a line without a space is one part
pub words_end : (line : List ℕ) → All (λ byte. (byte == 32) ≡ false) line → words_of line ≡ words_past line []
words_end line none =
    ap (filter (λ word. not (length word == 0))) (slice_split_none (λ byte. byte == 32) line none) ∙ words_more line []

-- a line with a space
pub words_cut : (line : List ℕ) (i : ℕ) → i < length line → get_or line i 0 ≡ 32
    → All (λ byte. (byte == 32) ≡ false) (take i line)
    → words_of line ≡ words_past (take i line) (words_of (drop (i + 1) line))
words_cut line i inside is none =
    ap (filter (λ word. not (length word == 0))) (part_ends 32 line i inside is none)
    ∙ words_more (take i line) (slice_split (λ byte. byte == 32) (drop (i + 1) line))

-- one byte more is ASCII
pub plain_more : (line : List ℕ) (i : ℕ) → i < length line → is_ascii (get_or line i 0) ≡ true
    → list_all is_ascii (drop i line) ≡ list_all is_ascii (drop (i + 1) line)
plain_more line i inside is = at_drop_more (list_all is_ascii) line i 0 inside ∙ rw is refl

-- up to a space
pub plain_cut : (line : List ℕ) (i : ℕ) → i < length line → get_or line i 0 ≡ 32
    → list_all is_ascii (drop i line) ≡ list_all is_ascii line
    → list_all is_ascii line ≡ list_all is_ascii (drop (i + 1) line)
plain_cut line i inside is so_far = sym so_far ∙ plain_more line i inside (ap is_ascii is)

-- up to the end
pub plain_all : (line : List ℕ) (i : ℕ) → length line ≤ i → list_all is_ascii (drop i line) ≡ list_all is_ascii line
    → list_all is_ascii line ≡ true
plain_all line i past so_far = sym so_far ∙ ap (list_all is_ascii) (drop_all i line past)

-- ---- the first words

-- these are five words
pub are_five : (words : List (Bor (List ℕ))) → (length words == 5) ≡ true → 5 ≤ length (texts words)
are_five words is = rw length-map (omega (arith, eqb-true (length words) 5 is))

-- no word past the fifth is kept
pub keeps_five : (words more past : List (List ℕ)) → 5 ≤ length words
    → take 5 (words ++ more) ≡ take 5 (words ++ past)
keeps_five words more past full = take-append-le 5 words more full ∙ sym (take-append-le 5 words past full)

-- what is left of a line has its bytes
pub left_plain : (rest : Option (Bor (List ℕ))) (text : Bor (List ℕ)) (line : List ℕ) → rest ≡ Some text
    → option_map_or (λ r. list_all is_ascii r.now) rest true ≡ list_all is_ascii line
    → list_all is_ascii line ≡ list_all is_ascii text.now
left_plain rest text line is so_far =
    sym so_far ∙ ap (λ (o : Option (Bor (List ℕ))). option_map_or (λ r. list_all is_ascii r.now) o true) is

-- nothing is left
pub none_plain : (rest : Option (Bor (List ℕ))) (line : List ℕ) → rest ≡ None
    → option_map_or (λ r. list_all is_ascii r.now) rest true ≡ list_all is_ascii line → true ≡ list_all is_ascii line
none_plain rest line is so_far =
    sym (ap (λ (o : Option (Bor (List ℕ))). option_map_or (λ r. list_all is_ascii r.now) o true) is) ∙ so_far

pub none_words : (rest : Option (Bor (List ℕ))) (words : List (List ℕ)) (line : List ℕ) → rest ≡ None
    → take 5 (words ++ option_map_or (λ r. words_of r.now) rest []) ≡ take 5 (words_of line)
    → take 5 words ≡ take 5 (words_of line)
none_words rest words line is so_far =
    sym (ap (λ (o : Option (Bor (List ℕ))). take 5 (words ++ option_map_or (λ r. words_of r.now) o [])) is
    ∙ ap (take 5) (append-nil words)) ∙ so_far

-- one part more is cut off
pub next_words : (rest : Option (Bor (List ℕ))) (text : Bor (List ℕ)) (words new : List (List ℕ)) (line part : List ℕ)
    (more : List (List ℕ)) → rest ≡ Some text
    → take 5 (words ++ option_map_or (λ r. words_of r.now) rest []) ≡ take 5 (words_of line)
    → words_of text.now ≡ words_past part more → take 5 (new ++ more) ≡ take 5 (words ++ words_past part more)
    → take 5 (new ++ more) ≡ take 5 (words_of line)
next_words rest text words new line part more is so_far cut kept =
    kept ∙ ap (λ (w : List (List ℕ)). take 5 (words ++ w)) (sym cut)
    ∙ sym (ap (λ (o : Option (Bor (List ℕ))). take 5 (words ++ option_map_or (λ r. words_of r.now) o [])) is) ∙ so_far

-- five words tell lines apart
five_at : (d : Draft) (s : Stage) (a b c e f : List ℕ) (more : List (List ℕ))
    → line_at d s (a ∷ b ∷ c ∷ e ∷ f ∷ []) ≡ line_at d s (a ∷ b ∷ c ∷ e ∷ f ∷ more)
five_at d Start a b c e f more = refl
five_at d Setup a b c e f more = refl
five_at d (Part k) a b c e f more = refl

pub five_tell : (d : Draft) (words : List (List ℕ)) → words_after d (take 5 words) ≡ words_after d words
five_tell d [] = refl
five_tell d (a ∷ []) = refl
five_tell d (a ∷ b ∷ []) = refl
five_tell d (a ∷ b ∷ c ∷ []) = refl
five_tell d (a ∷ b ∷ c ∷ e ∷ []) = refl
five_tell d (a ∷ b ∷ c ∷ e ∷ f ∷ more) = rw (five_at d d.stage a b c e f more) refl

five_glance : (d : Draft) (s : Stage) (words : List (List ℕ)) → glance_at d s (take 5 words) ≡ glance_at d s words
five_glance d Start words = refl
five_glance d Setup words = refl
five_glance d (Part k) [] = refl
five_glance d (Part k) (a ∷ []) = refl
five_glance d (Part k) (a ∷ b ∷ []) = refl
five_glance d (Part k) (a ∷ b ∷ c ∷ []) = refl
five_glance d (Part k) (a ∷ b ∷ c ∷ e ∷ []) = refl
five_glance d (Part k) (a ∷ b ∷ c ∷ e ∷ f ∷ more) = refl

five_heard : (d : Draft) (words : List (List ℕ)) → heard_in d (take 5 words) ≡ heard_in d words
five_heard d words = rw (five_glance d d.stage words, five_tell d words) refl

-- what a line says, by its first words
pub counted_by : (d : Draft) (line : List ℕ) (words : List (List ℕ)) → is_short line ≡ true
    → list_all is_ascii line ≡ true → take 5 words ≡ take 5 (words_of line) → words_after d words ≡ line_says d line
counted_by d line words short plain same =
    sym (five_tell d words) ∙ ap (words_after d) same ∙ five_tell d (words_of line) ∙ rw (short, plain) refl

pub heard_by : (d : Draft) (line : List ℕ) (words : List (List ℕ)) → is_short line ≡ true
    → list_all is_ascii line ≡ true → take 5 words ≡ take 5 (words_of line) → heard_in d words ≡ heard true d line
heard_by d line words short plain same =
    sym (five_heard d words) ∙ ap (heard_in d) same ∙ five_heard d (words_of line) ∙ rw (short, plain) refl

-- ---- a word and a known one

-- all their bytes are the same
pub word_same : (xs ys : List ℕ) (n : ℕ) → length xs ≤ n → length ys ≤ n → take n xs ≡ take n ys
    → bytes_eq xs ys ≡ true
word_same xs ys n over past same =
    (slice_eq-Decides Decides-eqb xs ys _ refl).1 (sym (take_all n xs over) ∙ same ∙ take_all n ys past)
