-- What the lines of an input ask for, and what of it was heard.
use Rattle.std.proofs.Common.{◌≡◌, ℕ, zero, suc, ◌+◌, ◌<◌, ◌≤◌, Bool, true, false, ◌&&◌, List, [], ◌∷◌, ◌++◌, map}
use Rattle.std.proofs.Common.{length, take, IfSome, if◌then◌else◌, nat_lt, nat_le, ◌==◌, Some, None, Option, option_map}
use Rattle.std.proofs.Common.{sym, refl, ap, ◌∙◌, subst, append_assoc, append-nil, arith, length-take-le, take_all}
use Rattle.std.proofs.KnownBytes.{Consumes-kept, Consumes-nil}
use Rattle.std.proofs.lemmas.{Bool.Decides.nat_tests, List.Elements.All-append, List.Elements.All-nil}
use Rattle.std.proofs.lemmas.List.Splits.{length-slice_split, slice_split_at, slice_split_none}
use Rattle.std.specs.{Char.is_ascii, Io.KnownBytes.Consumes, Io.KnownBytes.IsAtEnd, Io.KnownBytes.Keeps, List.list_all}
use Rattle.im_script.specs.{Grammar.words_of, Script.lines_of}
use Rattle.im_dialogue.specs.Asking.{asked_in, asked_of}
use Rattle.im_dialogue.specs.declared.{asking.Question.Question, line_part.LinePart.LinePart, lines.TheConstants.KEPT}
use Rattle.im_dialogue.specs.Hearing.{asked_after, asking, but_last, HasReadPart, Hears, HearsAll, HearsSome, is_quit}
use Rattle.im_dialogue.specs.Hearing.{IsLinePart, left_behind, questions_in, questions_left, ReadsLine, ReadsMore}
use Rattle.im_dialogue.specs.Hearing.{ReadsPart, until_quit}
use Rattle.im_dialogue.specs.declared.line_part.LinePart.TheVariants as piece

-- ---- what was heard

abbrev Left : Type 0
Left = Option (List (Option Question))

pub hears_none : (a : Left) → Hears a a []
hears_none None = tt
hears_none (Some l) = refl

pub hears_on : (a b c : Left) (xs ys : List (Option Question)) → Hears a b xs → Hears b c ys → Hears a c (xs ++ ys)
hears_on None b c xs ys one other = tt
hears_on (Some all) None c xs ys one other = absurd one
hears_on (Some all) (Some mid) None xs ys one other = absurd other
hears_on (Some all) (Some mid) (Some left) xs ys one other =
    one ∙ ap (λ (l : List (Option Question)). xs ++ l) other ∙ sym (append_assoc xs ys left)

pub heard_some : (a b : Left) (xs : List (Option Question)) → Hears a b xs → HearsSome a xs
heard_some None b xs one = tt
heard_some (Some all) None xs one = absurd one
heard_some (Some all) (Some left) xs one = (left, one)

pub hears_some_on : (a b : Left) (xs ys : List (Option Question)) → Hears a b xs → HearsSome b ys
    → HearsSome a (xs ++ ys)
hears_some_on None b xs ys one other = tt
hears_some_on (Some all) None xs ys one other = absurd one
hears_some_on (Some all) (Some mid) xs ys one other =
    (other.0, one ∙ ap (λ (l : List (Option Question)). xs ++ l) other.1 ∙ sym (append_assoc xs ys other.0))

-- what is left is known as well by this
pub hears_as : (a b c : Left) (xs : List (Option Question)) → Hears a b xs → IfSome b (λ l. c ≡ Some l) → Hears a c xs
hears_as None b c xs one same = tt
hears_as (Some all) None c xs one same = absurd one
hears_as (Some all) (Some left) c xs one same = subst (λ (o : Left). Hears (Some all) o xs) (sym same) one

-- the same is known
pub same_left : (a b : Left) → a ≡ b → IfSome a (λ l. b ≡ Some l)
same_left None b same = tt
same_left (Some l) b same = sym same

-- nothing is left
pub heard_all : (a : Left) (now : Option (List ℕ)) (xs : List (Option Question)) (status : ℕ)
    → Hears a (asked_after 0 now) xs → HearsAll a xs status
heard_all None now xs status one = tt
heard_all (Some all) None xs status one = absurd one
heard_all (Some all) (Some bytes) xs status one = ([], one, λ zero. refl)

-- some of it may be left
pub heard_not_all : (a : Left) (xs : List (Option Question)) (status : ℕ) → (status ≡ 0 → ⊥) → HearsSome a xs
    → HearsAll a xs status
heard_not_all None xs status failed one = tt
heard_not_all (Some all) xs status failed one = (one.0, one.1, λ zero. absurd (failed zero))

-- a line was heard that doesn't end the dialogue
pub hears_line : (asked : Option Question) (rest : Left) → is_quit asked ≡ false
    → Hears (asking asked rest) (left_behind true rest) (asked ∷ [])
hears_line asked None goes = tt
hears_line asked (Some others) goes =
    ap (λ (b : Bool). if b then [] else asked ∷ until_quit others) goes

-- the line that ends it was heard
pub hears_quit : (asked : Option Question) (rest : Left) → is_quit asked ≡ true
    → IfSome (asking asked rest) (λ l. left_behind false rest ≡ Some l)
hears_quit asked None ends = tt
hears_quit asked (Some others) ends =
    sym (ap (λ (b : Bool). Some (if b then [] else asked ∷ until_quit others)) ends)

-- ---- whole lines

more_lines : (first : List ℕ) (rest : List (List ℕ)) → 0 < length rest → but_last (first ∷ rest) ≡ first ∷ but_last rest
more_lines first [] some = absurd (omega (arith, some))
more_lines first (next ∷ rest) some = refl

some_line : (text : List ℕ) → 0 < length (lines_of text)
some_line text = omega (arith, length-slice_split (λ byte. byte == 10) text)

-- a line in front
pub line_first : (line rest : List ℕ) → IsLinePart line
    → questions_in (line ++ 10 ∷ rest) ≡ asked_of line ∷ questions_in rest
line_first line rest none =
    ap (λ (l : List (List ℕ)). map asked_of (but_last l)) (slice_split_at (λ byte. byte == 10) line 10 rest none refl)
    ∙ ap (λ (l : List (List ℕ)). map asked_of l) (more_lines line (lines_of rest) (some_line rest))

-- no whole line
pub line_none : (text : List ℕ) → IsLinePart text → questions_in text ≡ []
line_none text none =
    ap (λ (l : List (List ℕ)). map asked_of (but_last l)) (slice_split_none (λ byte. byte == 10) text none)

-- a line that is too long asks for nothing, and so does its beginning
not_line : (line : List ℕ) → nat_le (length line) 4096 ≡ false → asked_of line ≡ None
not_line line long =
    ap (λ (b : Bool). if b && list_all is_ascii line then asked_in (words_of line) else None) long

pub kept_asks : (line : List ℕ) → asked_of (take KEPT line) ≡ asked_of line
kept_asks line = by_test (nat_le (length line) 4096) refl
  where
    by_test : (b : Bool) → nat_le (length line) 4096 ≡ b → asked_of (take KEPT line) ≡ asked_of line
    by_test true is =
        let few : length line ≤ 4096 = grind (arith, nat_tests, is) in
        ap asked_of (take_all KEPT line (omega (arith, few)))
    by_test false is =
        let many : 4096 < length line = grind (arith, nat_tests, is) in
        let len : length (take KEPT line) ≡ KEPT = length-take-le KEPT line (omega (arith, many)) in
        let long : nat_le (length (take KEPT line)) 4096 ≡ false = ap (λ (n : ℕ). nat_le n 4096) len in
        not_line (take KEPT line) long ∙ sym (not_line line is)

-- ---- parts of lines

keep_more : (k : ℕ) (a b : List ℕ) → take k (take k a ++ b) ≡ take k (a ++ b)
keep_more zero a b = refl
keep_more (suc k) [] b = refl
keep_more (suc k) (x ∷ a) b = ap (λ (l : List ℕ). x ∷ l) (keep_more k a b)

pub part_none : IsLinePart []
part_none = All-nil (λ byte. (byte == 10) ≡ false)

-- no line feed to the end
pub whole_part : (text : List ℕ) (i : ℕ) → length text ≤ i → IsLinePart (take i text)
    → IsLinePart (take (length text) text)
whole_part text i past none =
    subst IsLinePart (take_all i text past ∙ sym (take_all (length text) text (omega arith))) none

-- nothing was read
pub read_nothing : (a b : Option (List ℕ)) (line : List ℕ) → Keeps a b → length line ≤ KEPT
    → ReadsMore piece.More a b line line
read_nothing a b line keeps few = (
  [],
  sym (ap (λ (l : List ℕ). take KEPT l) (append-nil line) ∙ take_all KEPT line few),
  part_none,
  Consumes-kept a a b [] (Consumes-nil a) keeps,
)

-- what was read, by how many bytes stand before the first line feed
pub part_is : (a c : Option (List ℕ)) (text kept now : List ℕ) (before taken : ℕ) (p : LinePart) → before ≤ length text
    → IsLinePart (take before text)
    → (before < length text → take (before + 1) text ≡ take before text ++ 10 ∷ [])
    → now ≡ take KEPT (kept ++ take before text)
    → (before < length text → (p ≡ piece.Last) × (taken ≡ before + 1))
    → (before ≡ length text → length text ≡ 0 → (p ≡ piece.None) × (taken ≡ before))
    → (before ≡ length text → 0 < length text → (p ≡ piece.More) × (taken ≡ before))
    → Consumes a c (take taken text) → (length text ≡ 0 → IsAtEnd a) → ReadsMore p a c kept now
part_is a c text kept now before taken p within none feed is last end more taken_all ends =
    by_test (nat_lt before (length text)) (length text == 0) refl refl
  where
    take_none : (xs : List ℕ) (n : ℕ) → n ≡ 0 → take n xs ≡ []
    take_none xs n none_of = ap (λ (k : ℕ). take k xs) none_of

    read_so : (q : LinePart) → p ≡ q → ReadsPart q a c (take before text) → ReadsMore p a c kept now
    read_so q same it = subst (λ (x : LinePart). ReadsMore x a c kept now) (sym same)
        (take before text, is, none, it)

    taken_so : (n : ℕ) → taken ≡ n → Consumes a c (take n text)
    taken_so n same = subst (λ (k : ℕ). Consumes a c (take k text)) same taken_all

    by_test : (l z : Bool) → nat_lt before (length text) ≡ l → (length text == 0) ≡ z → ReadsMore p a c kept now
    by_test true z is_last is_none =
        let less : before < length text = grind (arith, nat_tests, is_last) in
        let it = last less in
        read_so piece.Last it.0 (subst (λ (l : List ℕ). Consumes a c l) (feed less) (taken_so (before + 1) it.1))
    by_test false true is_last is_none =
        let zero : length text ≡ 0 = grind (arith, nat_tests, is_none) in
        let all : before ≡ length text = omega (arith, zero, within) in
        let it = end all zero in
        read_so piece.None it.0 (
          taken_so before it.1,
          (ends zero, take_none text before (omega (arith, zero, within))),
        )
    by_test false false is_last is_none =
        let some : 0 < length text = grind (arith, nat_tests, is_none) in
        let past : length text ≤ before = grind (arith, nat_tests, is_last) in
        let it = more (omega (arith, past, within)) some in
        read_so piece.More it.0 (taken_so before it.1)

-- nothing is read yet
pub read_none : (a : Option (List ℕ)) (line : List ℕ) → line ≡ [] → HasReadPart a a line
read_none None line none = tt
read_none (Some bytes) line none = ([], bytes, refl, none ∙ sym (take_all KEPT [] (omega arith)), part_none, refl)

-- one part more
pub read_more : (a b c : Option (List ℕ)) (line more : List ℕ) → HasReadPart a b line
    → ReadsMore piece.More b c line more → HasReadPart a c more
read_more None b c line more so_far it = tt
read_more (Some bytes) b c line more (whole, rest, there, kept, none, all) (bytes_read, now, part, reads) =
    on c (subst (λ (o : Option (List ℕ)). Consumes o c bytes_read) there reads)
  where
    on : (o : Option (List ℕ)) → Consumes (Some rest) o bytes_read → HasReadPart (Some bytes) o more
    on None lost = absurd lost
    on (Some left) is = (
      whole ++ bytes_read,
      left,
      refl,
      now ∙ ap (λ (l : List ℕ). take KEPT (l ++ bytes_read)) kept ∙ keep_more KEPT whole bytes_read,
      All-append (λ byte. (byte == 10) ≡ false) whole bytes_read none part,
      all ∙ ap (λ (l : List ℕ). whole ++ l) is ∙ sym (append_assoc whole bytes_read left),
    )

-- the rest of the line
pub read_last : (a b c : Option (List ℕ)) (line more : List ℕ) → HasReadPart a b line
    → ReadsMore piece.Last b c line more → ReadsLine true a c more
read_last None b c line more so_far it = tt
read_last (Some bytes) b c line more (whole, rest, there, kept, none, all) (bytes_read, now, part, reads) =
    on c (subst (λ (o : Option (List ℕ)). Consumes o c (bytes_read ++ 10 ∷ [])) there reads)
  where
    line_now : more ≡ take KEPT (whole ++ bytes_read)
    line_now = now ∙ ap (λ (l : List ℕ). take KEPT (l ++ bytes_read)) kept ∙ keep_more KEPT whole bytes_read

    on : (o : Option (List ℕ)) → Consumes (Some rest) o (bytes_read ++ 10 ∷ []) → ReadsLine true (Some bytes) o more
    on None lost = absurd lost
    on (Some left) is = (
      left,
      refl,
      ap questions_in (all ∙ ap (λ (l : List ℕ). whole ++ l) (is ∙ append_assoc bytes_read (10 ∷ []) left)
          ∙ sym (append_assoc whole bytes_read (10 ∷ left)))
          ∙ line_first (whole ++ bytes_read) left (All-append (λ byte. (byte == 10) ≡ false) whole bytes_read none part)
          ∙ ap (λ (o : Option Question). o ∷ questions_in left)
          (sym (ap asked_of line_now ∙ kept_asks (whole ++ bytes_read))),
    )

-- the end of the input
pub read_end : (a b c : Option (List ℕ)) (line more : List ℕ) → HasReadPart a b line
    → ReadsMore piece.None b c line more → ReadsLine false a c more
read_end None b c line more so_far it = tt
read_end (Some bytes) b c line more (whole, rest, there, kept, none, all) (bytes_read, now, part, reads) =
    on c (subst (λ (o : Option (List ℕ)). ReadsPart piece.None o c bytes_read) there reads)
  where
    on : (o : Option (List ℕ)) → ReadsPart piece.None (Some rest) o bytes_read → ReadsLine false (Some bytes) o more
    on None it = absurd it.0
    on (Some left) it = (
      left,
      refl,
      ap questions_in (all ∙ ap (λ (l : List ℕ). whole ++ l) it.1.0 ∙ append-nil whole) ∙ line_none whole none,
    )

-- what is left of what was asked, by a line that was read
pub asked_line : (a b : Option (List ℕ)) (line : List ℕ) → ReadsLine true a b line
    → IfSome (questions_left a) (λ l. asking (asked_of line) (option_map questions_in b) ≡ Some l)
asked_line None b line it = tt
asked_line (Some bytes) b line (rest, there, is) =
    ap (λ (o : Option (List ℕ)). asking (asked_of line) (option_map questions_in o)) there
    ∙ ap (λ (l : List (Option Question)). Some (until_quit l)) (sym is)

pub asked_nothing : (a b : Option (List ℕ)) (line : List ℕ) → ReadsLine false a b line
    → IfSome (questions_left a) (λ l. left_behind false (option_map questions_in b) ≡ Some l)
asked_nothing None b line it = tt
asked_nothing (Some bytes) b line (rest, there, is) =
    ap (λ (o : Option (List ℕ)). left_behind false (option_map questions_in o)) there
    ∙ ap (λ (l : List (Option Question)). Some (until_quit l)) (sym is)

-- what is left, by whether the dialogue continues
pub left_goes : (b : Option (List ℕ)) → left_behind true (option_map questions_in b) ≡ questions_left b
left_goes None = refl
left_goes (Some bytes) = refl

pub left_zero : (b : Option (List ℕ)) → left_behind false (option_map questions_in b) ≡ asked_after 0 b
left_zero None = refl
left_zero (Some bytes) = refl
