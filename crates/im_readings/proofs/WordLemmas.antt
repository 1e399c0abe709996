-- What is read of a line that is said in words or as an object. (Own.)
use Rattle.std.proofs.Common.{◌≡◌, ℕ, ◌+◌, ◌-◌, ◌*◌, ◌^◌, ◌<◌, true, false, List, [], ◌∷◌, ◌++◌, drop, if◌then◌else◌}
use Rattle.std.proofs.Common.{◌==◌, slice_index_or, Some, None, codes, decimal, Option, sym, refl, ap, ◌∙◌, subst, ap₂}
use Rattle.std.proofs.Common.{append_assoc, arith}
use Rattle.im_types.specs.Types.{Entry, Waiting, Answered, Base, NoSpace, BadLength, Value, Stored, Clash, NoCell}
use Rattle.im_types.specs.Types.{WrongKind, Released, NoBlock, StillWaiting, Cleared, Refusal, Gap, Forgotten}
use Rattle.im_types.specs.Types.{WindowFull, Mismatch, NoElement, NotAnswered, JournalFull, Device, Failed, NoMemory}
use Rattle.im_types.specs.Types.{TraceFull, WrongLength, NoHeader, BadHeader, BadPage, BadRecord, BadLimits, BadScript}
use Rattle.im_types.specs.Types.{Stalled, OffPlan, OldVersion, NotBlank, BadPlan, PaneGone, number_of, FitsEntry}
use Rattle.im_text.specs.declared.{OutputLine.OutputLine, Waited.Waited}
use Rattle.im_text.specs.declared.OutputLine.TheVariants.{Done, Glance, Now, Refused, Reply}
use Rattle.im_text.specs.Objects.{number_member, number_of_entry, word_of_entry}
use Rattle.im_text.specs.Said.{glance_object, line_words, object_of, reply_object, seen_member, told_name}
use Rattle.im_text.specs.Texts.{entry_text, line_feed}
use Rattle.im_readings.proofs.FeedLemmas.{decimal_feedless, is_digit, is_feedless, is_line, line_behind, number_in}
use Rattle.im_readings.proofs.FeedLemmas.{number_past, number_read, past_digits}
use Rattle.im_readings.specs.Lines.{FitsLine}

-- the first and the third byte of a text
abbrev marks : List ℕ → ℕ
marks text = slice_index_or text 0 0 * 1000 + slice_index_or text 2 0

-- whether a text begins with `now`, with `done`, or with neither
abbrev kind_in : List ℕ → ℕ
kind_in text = if marks text == 110119 then 1 else if marks text == 100110 then 2 else 0

-- a text is one line, and this is read of it
abbrev pub Reads : (List ℕ → OutputLine) → OutputLine → List ℕ → Type 0
Reads read line text = (read text ≡ line) × (is_line text ≡ true)

-- two numbers with a word between them, and what follows
numbers_read : (first read : ℕ → List ℕ → OutputLine) (line : OutputLine) (m n c d : ℕ) (word x : List ℕ) → m < 2 ^ 64
    → n < 2 ^ 64 → is_digit c ≡ false → is_digit d ≡ false
    → first m (c ∷ (word ++ (decimal n ++ d ∷ x)))
    ≡ read (number_in (decimal n ++ d ∷ x)) (past_digits (decimal n ++ d ∷ x))
    → is_feedless (c ∷ word) ≡ true → Reads (read n) line (d ∷ x)
    → Reads (λ text. first (number_in text) (past_digits text)) line (decimal m ++ c ∷ (word ++ (decimal n ++ d ∷ x)))
numbers_read first read line m n c d word x low fits stop end next none is =
    let rest : List ℕ = decimal n ++ d ∷ x in (
      ap₂ first (number_read m c (word ++ rest) low stop) (number_past m c (word ++ rest) low stop) ∙ next
          ∙ ap₂ read (number_read n d x fits end) (number_past n d x fits end) ∙ is.0,
      line_behind (decimal m) (c ∷ (word ++ rest)) (decimal_feedless m low)
          (line_behind (c ∷ word) rest none (line_behind (decimal n) (d ∷ x) (decimal_feedless n fits) is.1)),
    )

-- ---- entries

-- the entry whose word a text begins with, where the number behind `base` and behind `value` has this place
abbrev entry_in : ℕ → ℕ → List ℕ → Entry
entry_in base value text =
    if marks text == 119105 then Waiting
    else if marks text == 98115 then Answered (Base (number_in (drop base text)))
    else if marks text == 110115 then Answered NoSpace else if marks text == 98100 then Answered BadLength
    else if marks text == 118108 then Answered (Value (number_in (drop value text)))
    else if marks text == 115111 then Answered Stored else if marks text == 99097 then Answered Clash
    else if marks text == 110099 then Answered NoCell else if marks text == 119111 then Answered WrongKind
    else if marks text == 114108 then Answered Released else if marks text == 110098 then Answered NoBlock
    else if marks text == 115105 then Answered StillWaiting else Answered Cleared

text_read : (entry : Entry) (x : List ℕ) → FitsEntry entry → (entry_in 5 6 (entry_text entry ++ 10 ∷ x) ≡ entry)
    × (kind_in (entry_text entry ++ 10 ∷ x) ≡ 0) × (is_feedless (entry_text entry) ≡ true)
text_read Waiting x fits = (refl, refl, refl)
text_read (Answered (Base a)) x fits =
    let low : a < 2 ^ 64 = omega (arith, fits) in
    (ap (λ n. Answered (Base n)) (number_read a 10 x low refl), refl, decimal_feedless a low)
text_read (Answered NoSpace) x fits = (refl, refl, refl)
text_read (Answered BadLength) x fits = (refl, refl, refl)
text_read (Answered (Value v)) x fits =
    (ap (λ n. Answered (Value n)) (number_read v 10 x fits refl), refl, decimal_feedless v fits)
text_read (Answered Stored) x fits = (refl, refl, refl)
text_read (Answered Clash) x fits = (refl, refl, refl)
text_read (Answered NoCell) x fits = (refl, refl, refl)
text_read (Answered WrongKind) x fits = (refl, refl, refl)
text_read (Answered Released) x fits = (refl, refl, refl)
text_read (Answered NoBlock) x fits = (refl, refl, refl)
text_read (Answered StillWaiting) x fits = (refl, refl, refl)
text_read (Answered Cleared) x fits = (refl, refl, refl)

-- a word and the number under it, as an object has them
abbrev members : Entry → List ℕ
members entry = word_of_entry entry ++ 34 ∷ (number_member (word_of_entry entry) (number_of_entry entry) ++ codes "}\n")

-- the end of an object with a number
end_is : (n : ℕ) → (decimal n ++ codes "\"") ++ codes "}\n" ≡ decimal n ++ codes "\"}\n"
end_is n = append_assoc (decimal n) (codes "\"") (codes "}\n")

end_read : (n : ℕ) → n < 2 ^ 64 → number_in ((decimal n ++ codes "\"") ++ codes "}\n") ≡ n
end_read n fits = ap number_in (end_is n) ∙ number_read n 34 (codes "}\n") fits refl

end_line : (n : ℕ) → n < 2 ^ 64 → is_line ((decimal n ++ codes "\"") ++ codes "}\n") ≡ true
end_line n fits = ap is_line (end_is n) ∙ line_behind (decimal n) (codes "\"}\n") (decimal_feedless n fits) refl

members_read : (entry : Entry) → FitsEntry entry → (entry_in 14 16 (members entry) ≡ entry)
    × (kind_in (members entry) ≡ 0) × (is_line (members entry) ≡ true)
members_read Waiting fits = (refl, refl, refl)
members_read (Answered (Base a)) fits =
    let low : a < 2 ^ 64 = omega (arith, fits) in
    (ap (λ n. Answered (Base n)) (end_read a low), refl, end_line a low)
members_read (Answered NoSpace) fits = (refl, refl, refl)
members_read (Answered BadLength) fits = (refl, refl, refl)
members_read (Answered (Value v)) fits = (ap (λ n. Answered (Value n)) (end_read v fits), refl, end_line v fits)
members_read (Answered Stored) fits = (refl, refl, refl)
members_read (Answered Clash) fits = (refl, refl, refl)
members_read (Answered NoCell) fits = (refl, refl, refl)
members_read (Answered WrongKind) fits = (refl, refl, refl)
members_read (Answered Released) fits = (refl, refl, refl)
members_read (Answered NoBlock) fits = (refl, refl, refl)
members_read (Answered StillWaiting) fits = (refl, refl, refl)
members_read (Answered Cleared) fits = (refl, refl, refl)

-- ---- refusals

abbrev refusals : List Refusal
refusals =
    Gap ∷ Forgotten ∷ WindowFull ∷ Mismatch ∷ NoElement ∷ NotAnswered ∷ JournalFull ∷ Device ∷
    Failed ∷ NoMemory ∷ TraceFull ∷ WrongLength ∷ NoHeader ∷ BadHeader ∷ BadPage ∷ BadRecord ∷
    BadLimits ∷ BadScript ∷ Stalled ∷ OffPlan ∷ OldVersion ∷ NotBlank ∷ BadPlan ∷ PaneGone ∷ []

-- the refusal of a number
abbrev refusal_of : ℕ → Refusal
refusal_of number = slice_index_or refusals (number - 1) Gap

refusal_read : (refusal : Refusal) → (refusal_of (number_of refusal) ≡ refusal) × (number_of refusal < 2 ^ 64)
    × (is_feedless (told_name refusal) ≡ true)
refusal_read Gap = (refl, omega arith, refl)
refusal_read Forgotten = (refl, omega arith, refl)
refusal_read WindowFull = (refl, omega arith, refl)
refusal_read Mismatch = (refl, omega arith, refl)
refusal_read NoElement = (refl, omega arith, refl)
refusal_read NotAnswered = (refl, omega arith, refl)
refusal_read JournalFull = (refl, omega arith, refl)
refusal_read Device = (refl, omega arith, refl)
refusal_read Failed = (refl, omega arith, refl)
refusal_read NoMemory = (refl, omega arith, refl)
refusal_read TraceFull = (refl, omega arith, refl)
refusal_read WrongLength = (refl, omega arith, refl)
refusal_read NoHeader = (refl, omega arith, refl)
refusal_read BadHeader = (refl, omega arith, refl)
refusal_read BadPage = (refl, omega arith, refl)
refusal_read BadRecord = (refl, omega arith, refl)
refusal_read BadLimits = (refl, omega arith, refl)
refusal_read BadScript = (refl, omega arith, refl)
refusal_read Stalled = (refl, omega arith, refl)
refusal_read OffPlan = (refl, omega arith, refl)
refusal_read OldVersion = (refl, omega arith, refl)
refusal_read NotBlank = (refl, omega arith, refl)
refusal_read BadPlan = (refl, omega arith, refl)
refusal_read PaneGone = (refl, omega arith, refl)

-- ---- words

abbrev waited : ℕ → ℕ → Entry → Waited
waited element number entry = record { element = element; number = number; entry = entry }

-- the line of a request, by what follows its number
abbrev request_by : (List ℕ → Entry) → ℕ → ℕ → ℕ → List ℕ → OutputLine
request_by read kind element number text =
    if kind == 1 then Now (waited element number (read (drop 4 text)))
    else if kind == 2 then Done element number else Reply (waited element number (read text))

abbrev request_in : ℕ → ℕ → List ℕ → OutputLine
request_in element number text = request_by (entry_in 5 6) (kind_in text) element number text

-- the line of a glance, by what follows its address
abbrev glance_in : ℕ → ℕ → List ℕ → OutputLine
glance_in element address text =
    Glance element address (if slice_index_or text 1 0 == 110 then None else Some (number_in (drop 7 text)))

-- a line, by its first number and what follows it
abbrev line_in : ℕ → List ℕ → OutputLine
line_in element text =
    if slice_index_or text 0 0 == 114 then Refused (refusal_of (number_in (drop 8 text)))
    else if slice_index_or text 0 0 == 32
    then glance_in element (number_in (drop 8 text)) (past_digits (drop 8 text))
    else request_in element (number_in (drop 1 text)) (drop 1 (past_digits (drop 1 text)))

-- the line that was said in words
abbrev pub words_in : List ℕ → OutputLine
words_in text = line_in (number_in text) (past_digits text)

module _ (element number : ℕ) (low : element < 2 ^ 64) (fits : number < 2 ^ 64) (line : OutputLine) (x : List ℕ)
  where
    request_read : Reads (request_in element number) line x
        → Reads words_in line (decimal element ++ 46 ∷ (decimal number ++ 32 ∷ x))
    request_read =
        numbers_read line_in (λ n text. request_in element n (drop 1 text)) line element number 46 32 [] x low fits refl
        refl refl refl

    glance_read : Reads (λ text. glance_in element number (32 ∷ text)) line x
        → Reads words_in line (decimal element ++ (codes " glance " ++ (decimal number ++ 32 ∷ x)))
    glance_read =
        numbers_read line_in (glance_in element) line element number 32 32 (codes "glance ") x low fits refl
        refl refl refl

-- parts of a line, from its front on
six_parts : (a b c d e f : List ℕ) → a ++ b ++ c ++ d ++ e ++ f ≡ a ++ (b ++ (c ++ (d ++ (e ++ f))))
six_parts a b c d e f = simp append_assoc

request_is : (element number : ℕ) (word entry : List ℕ)
    → decimal element ++ codes "." ++ decimal number ++ word ++ entry ++ line_feed
    ≡ decimal element ++ (codes "." ++ (decimal number ++ (word ++ (entry ++ line_feed))))
request_is element number word entry = six_parts (decimal element) (codes ".") (decimal number) word entry line_feed

-- what was said in words is one line, and is read back
pub words_read : (line : OutputLine) → FitsLine line → Reads words_in line (line_words line)
words_read (Reply w) fits =
    let (entry, kind, words) = text_read w.entry [] fits.2 in
    let text : List ℕ = entry_text w.entry ++ 10 ∷ [] in
    subst (Reads words_in (Reply w)) (sym (request_is w.element w.number (codes " ") (entry_text w.entry)))
    (request_read w.element w.number (omega (arith, fits.0)) fits.1 (Reply w) text (
      ap (λ k. request_by (entry_in 5 6) k w.element w.number text) kind
          ∙ ap (λ e. Reply (waited w.element w.number e)) entry,
      line_behind (entry_text w.entry) (10 ∷ []) words refl,
    ))
words_read (Now w) fits =
    let (entry, kind, words) = text_read w.entry [] fits.2 in
    subst (Reads words_in (Now w)) (sym (request_is w.element w.number (codes " now ") (entry_text w.entry)))
    (request_read w.element w.number (omega (arith, fits.0)) fits.1 (Now w)
    (codes "now " ++ (entry_text w.entry ++ 10 ∷ [])) (
      ap (λ e. Now (waited w.element w.number e)) entry,
      line_behind (entry_text w.entry) (10 ∷ []) words refl,
    ))
words_read (Done element number) fits =
    subst (Reads words_in (Done element number))
    (sym (six_parts [] (decimal element) (codes ".") (decimal number) (codes " done") line_feed))
    (request_read element number (omega (arith, fits.0)) fits.1 (Done element number) (codes "done\n") (refl, refl))
words_read (Glance element address None) fits =
    subst (Reads words_in (Glance element address None))
    (sym (six_parts (decimal element) (codes " glance ") (decimal address) (codes " ") (codes "none") line_feed))
    (glance_read element address (omega (arith, fits.0)) (omega (arith, fits.1)) (Glance element address None)
    (codes "none\n") (refl, refl))
words_read (Glance element address (Some v)) fits =
    subst (Reads words_in (Glance element address (Some v)))
    (sym (six_parts (decimal element) (codes " glance ") (decimal address) (codes " ") (codes "value " ++ decimal v)
    line_feed))
    (glance_read element address (omega (arith, fits.0)) (omega (arith, fits.1)) (Glance element address (Some v))
    (codes "value " ++ (decimal v ++ 10 ∷ [])) (
      ap (λ n. Glance element address (Some n)) (number_read v 10 [] fits.2 refl),
      line_behind (decimal v) (10 ∷ []) (decimal_feedless v fits.2) refl,
    ))
words_read (Refused refusal) fits =
    let (is, low, name) = refusal_read refusal in
    subst (Reads words_in (Refused refusal))
    (sym (six_parts [] (codes "refused ") (decimal (number_of refusal)) (codes " ") (told_name refusal) line_feed)) (
      ap (λ n. Refused (refusal_of n)) (number_read (number_of refusal) 32 (told_name refusal ++ 10 ∷ []) low refl)
          ∙ ap Refused is,
      line_behind (decimal (number_of refusal)) (32 ∷ (told_name refusal ++ 10 ∷ []))
          (decimal_feedless (number_of refusal) low) (line_behind (told_name refusal) (10 ∷ []) name refl),
    )

-- ---- objects

-- the line of a request, by what follows its number
abbrev object_by : ℕ → ℕ → List ℕ → OutputLine
object_by element number text =
    if slice_index_or text 8 0 == 116 then Now (waited element number (entry_in 14 16 (drop 22 text)))
    else request_by (entry_in 14 16) (kind_in (drop 23 text)) element number (drop 23 text)

abbrev number_then : ℕ → List ℕ → OutputLine
number_then element text = object_by element (number_in (drop 11 text)) (past_digits (drop 11 text))

-- the line of a glance, by what follows its element
abbrev glanced_in : ℕ → ℕ → List ℕ → OutputLine
glanced_in address element text =
    Glance element address (if slice_index_or text 9 0 == 110 then None else Some (number_in (drop 10 text)))

abbrev element_then : ℕ → List ℕ → OutputLine
element_then address text = glanced_in address (number_in (drop 11 text)) (past_digits (drop 11 text))

-- the line that was said as an object
abbrev pub object_in : List ℕ → OutputLine
object_in text =
    if slice_index_or text 2 0 == 114 then Refused (refusal_of (number_in (drop 19 text)))
    else if slice_index_or text 2 0 == 103
    then element_then (number_in (drop 10 text)) (past_digits (drop 10 text))
    else number_then (number_in (drop 11 text)) (past_digits (drop 11 text))

-- objects, from their fronts on
replied_is : (a k b n c d now e word f more g : List ℕ)
    → a ++ k ++ (b ++ n ++ c) ++ d ++ now ++ e ++ word ++ f ++ more ++ g
    ≡ a ++ (k ++ (b ++ (n ++ (c ++ (d ++ (now ++ (e ++ (word ++ (f ++ (more ++ g))))))))))
replied_is a k b n c d now e word f more g = simp append_assoc

glanced_is : (p a q k r v s : List ℕ) → p ++ a ++ q ++ k ++ r ++ v ++ s
    ≡ p ++ (a ++ (q ++ (k ++ (r ++ (v ++ s)))))
glanced_is p a q k r v s = simp append_assoc

-- what follows the number of a request in its object
abbrev behind_number : List ℕ → List ℕ → List ℕ
behind_number now x = codes "\",\"now\":" ++ (now ++ (codes ",\"reply\":\"" ++ x))

-- the object of a request, by what follows its number
abbrev object_with : ℕ → ℕ → List ℕ → List ℕ
object_with element number x =
    codes "{\"element\":" ++ (decimal element ++ (codes ",\"number\":\"" ++ (decimal number ++ x)))

object_is : (element number : ℕ) (now word : List ℕ) (value : Option ℕ) → reply_object element number now word value
    ≡ object_with element number (behind_number now (word ++ 34 ∷ (number_member word value ++ codes "}\n")))
object_is element number now word value =
    replied_is (codes "{\"element\":") (decimal element) (codes ",\"number\":\"") (decimal number) (codes "\"")
    (codes ",\"now\":") now (codes ",\"reply\":\"") word (codes "\"") (number_member word value) (codes "}\n")

-- the object of a glance, by what follows its element
abbrev glanced_with : ℕ → ℕ → List ℕ → List ℕ
glanced_with address element x =
    codes "{\"glance\":" ++ (decimal address ++ (codes ",\"element\":" ++ (decimal element ++ x)))

glanced_object_is : (element address : ℕ) (value : Option ℕ) → glance_object element address value
    ≡ glanced_with address element (codes ",\"value\":" ++ (seen_member value ++ codes "}\n"))
glanced_object_is element address value =
    glanced_is (codes "{\"glance\":") (decimal address) (codes ",\"element\":") (decimal element)
    (codes ",\"value\":") (seen_member value) (codes "}\n")

module _ (element number : ℕ) (low : element < 2 ^ 64) (fits : number < 2 ^ 64) (line : OutputLine) (x : List ℕ)
  where
    replied_read : Reads (λ text. object_by element number (34 ∷ text)) line x
        → Reads object_in line (object_with element number (34 ∷ x))
    replied_read =
        numbers_read number_then (object_by element) line element number 44 34 (codes "\"number\":\"") x low fits refl
        refl refl refl

    glanced_read : Reads (λ text. glanced_in number element (44 ∷ text)) line x
        → Reads object_in line (glanced_with number element (44 ∷ x))
    glanced_read =
        numbers_read element_then (glanced_in number) line number element 44 44 (codes "\"element\":") x fits low refl
        refl refl refl

-- what was said as an object is one line, and is read back
pub object_read : (line : OutputLine) → FitsLine line → Reads object_in line (object_of line)
object_read (Reply w) fits =
    let (entry, kind, one) = members_read w.entry fits.2 in
    subst (Reads object_in (Reply w))
    (sym (object_is w.element w.number (codes "false") (word_of_entry w.entry) (number_of_entry w.entry)))
    (replied_read w.element w.number (omega (arith, fits.0)) fits.1 (Reply w)
    (codes ",\"now\":false,\"reply\":\"" ++ members w.entry) (
      ap (λ k. request_by (entry_in 14 16) k w.element w.number (members w.entry)) kind
          ∙ ap (λ e. Reply (waited w.element w.number e)) entry,
      one,
    ))
object_read (Now w) fits =
    let (entry, kind, one) = members_read w.entry fits.2 in
    subst (Reads object_in (Now w))
    (sym (object_is w.element w.number (codes "true") (word_of_entry w.entry) (number_of_entry w.entry)))
    (replied_read w.element w.number (omega (arith, fits.0)) fits.1 (Now w)
    (codes ",\"now\":true,\"reply\":\"" ++ members w.entry)
    (ap (λ e. Now (waited w.element w.number e)) entry, one))
object_read (Done element number) fits =
    subst (Reads object_in (Done element number))
    (sym (object_is element number (codes "false") (codes "done") None))
    (replied_read element number (omega (arith, fits.0)) fits.1 (Done element number)
    (codes ",\"now\":false,\"reply\":\"done\"}\n") (refl, refl))
object_read (Glance element address None) fits =
    subst (Reads object_in (Glance element address None)) (sym (glanced_object_is element address None))
    (glanced_read element address (omega (arith, fits.0)) (omega (arith, fits.1)) (Glance element address None)
    (codes "\"value\":null}\n") (refl, refl))
object_read (Glance element address (Some v)) fits =
    subst (Reads object_in (Glance element address (Some v))) (sym (glanced_object_is element address (Some v)))
    (glanced_read element address (omega (arith, fits.0)) (omega (arith, fits.1)) (Glance element address (Some v))
    (codes "\"value\":\"" ++ ((decimal v ++ codes "\"") ++ codes "}\n"))
    (ap (λ n. Glance element address (Some n)) (end_read v fits.2), end_line v fits.2))
object_read (Refused refusal) fits =
    let (is, low, name) = refusal_read refusal in (
      ap (λ n. Refused (refusal_of n)) (number_read (number_of refusal) 44
          (codes "\"name\":\"" ++ (told_name refusal ++ codes "\"}}\n")) low refl) ∙ ap Refused is,
      line_behind (decimal (number_of refusal)) (codes ",\"name\":\"" ++ (told_name refusal ++ codes "\"}}\n"))
          (decimal_feedless (number_of refusal) low)
          (line_behind (told_name refusal) (codes "\"}}\n") name refl),
    )
