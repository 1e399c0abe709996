-- Lines on their way to a writer, and the lines of commands. (Own.)
use Rattle.std.proofs.Common.{◌≡◌, ℕ, Bool, false, ◌||◌, ◌⊎◌, List, [], ◌∷◌, ◌++◌, Option, sym, refl, ap, ◌∙◌, subst}
use Rattle.std.proofs.Common.{ap₂, inl, inr, append_assoc, append-nil}
use Rattle.std.proofs.{KnownBytes.Appends-nil, lemmas.List.Folds.list_any-append}
use Rattle.std.{proofs.Math.Bool.or-false, proofs.Math.Bool.or_assoc, specs.List.list_any}
use Rattle.im_types.specs.Types.{Waiter, Command, Refusal, Contents, step, after}
use Rattle.im_text.proofs.PrintingLemmas.{batches_after, batches_all, batches_begin, batches_none}
use Rattle.im_text.specs.{declared.lines.Lines.Lines, Printing.Batches, Printing.BatchesMore, Printing.BatchesOn}
use Rattle.im_text.specs.declared.said.{OutputLine.OutputLine, OutputLine.TheVariants.Refused, Style.Style}
use Rattle.im_text.specs.Said.{is_fault_line, is_faulted, IsLast, Output, output_by, output_from, Prints, PrintsMore}
use Rattle.im_text.specs.Said.{PrintsOn, replies, reply_line, said_all, said_in, SaysLast, SaysSome, SaysWhole, waits}
use Rattle.im_text.specs.Said.{waits_by, Written}

-- ---- what is said

said_both : (style : Style) (some more : List OutputLine) → said_all style (some ++ more) ≡ said_all style some ++
    said_all style more
unfolding said_all
said_both style [] more = refl
said_both style (line ∷ some) more = ap (λ (l : List ℕ). said_in style line ++ l) (said_both style some more)
    ∙ sym (append_assoc (said_in style line) (said_all style some) (said_all style more))

said_one : (style : Style) (line : OutputLine) → said_all style (line ∷ []) ≡ said_in style line
unfolding said_all
said_one style line = append-nil (said_in style line)

said_nothing : (style : Style) → said_all style [] ≡ []
unfolding said_all
said_nothing style = refl

-- ---- which of them tell a fault

-- one time after another
faulted_both : (from : Output) (b : Bool) (some more : List OutputLine) → b ≡ is_faulted from some
    → (b || list_any is_fault_line more) ≡ is_faulted from (some ++ more)
faulted_both from b some more is = ap (λ (x : Bool). x || list_any is_fault_line more) is
    ∙ or_assoc from.faulted (list_any is_fault_line some) (list_any is_fault_line more)
    ∙ ap (λ (x : Bool). from.faulted || x) (sym (list_any-append is_fault_line some more))

-- ---- lines and their batch

-- no text more
pub prints_on : (was is : Option (List ℕ)) (before after : Lines) → after.style ≡ before.style
    → after.faulted ≡ before.faulted → BatchesOn was before.batch is after.batch → PrintsOn was before is after
prints_on was is before after same told on from said it = record {
  styled = same ∙ it.styled;
  told = told ∙ it.told;
  printed = on from.held (said_all from.style said) it.printed;
}

-- the text of a line more
pub prints_more : (was is : Option (List ℕ)) (before after : Lines) (line : OutputLine) (text : List ℕ)
    → after.style ≡ before.style → after.faulted ≡ (before.faulted || is_fault_line line)
    → text ≡ said_in before.style line
    → BatchesMore was before.batch is after.batch text → PrintsMore was before is after (line ∷ [])
prints_more was is before after line text same told made more from said it = record {
  styled = same ∙ it.styled;
  told = told ∙ ap (λ (b : Bool). before.faulted || b) (sym (or-false (is_fault_line line)))
      ∙ faulted_both from before.faulted said (line ∷ []) it.told;
  printed = subst (Batches from.held is after.batch)
      (ap (λ (l : List ℕ). said_all from.style said ++ l) (made ∙ ap (λ (s : Style). said_in s line) it.styled
      ∙ sym (said_one from.style line)) ∙ sym (said_both from.style said (line ∷ [])))
      (more from.held (said_all from.style said) it.printed);
}

-- all of it is written
pub prints_all : (from : Output) (is : Option (List ℕ)) (lines : Lines) (said : List OutputLine)
    → lines.batch.broken ≡ false → lines.batch.pending.items ≡ [] → Prints from is lines said
    → SaysWhole from (is, lines.faulted) said
prints_all from is lines said works none it =
    (batches_all from.held is lines.batch (said_all from.style said) works none it.printed, it.told)

-- a prefix of it is written
pub prints_begins : (from : Output) (is : Option (List ℕ)) (lines : Lines) (said : List OutputLine)
    → Prints from is lines said → SaysSome from (is, lines.faulted) said
prints_begins from is lines said it =
    (batches_begin from.held is lines.batch (said_all from.style said) it.printed, it.told)

-- nothing is said
pub nothing_said : (from : Output) → SaysLast from from.held
nothing_said from = ([], (inl refl, (0, Appends-nil from.held)))

-- nothing is printed yet
pub prints_none : (held : Option (List ℕ)) (lines : Lines) → lines.batch.pending.items ≡ []
    → Prints (output_by lines held) held lines []
prints_none held lines none = record {
  styled = refl;
  told = sym (or-false lines.faulted);
  printed = subst (Batches held held lines.batch) (sym (said_nothing lines.style)) (batches_none held lines.batch none);
}

-- no line more
pub prints_same : (was : Option (List ℕ)) (lines : Lines) → PrintsMore was lines was lines []
prints_same was lines from said it = subst (Prints from was lines) (sym (append-nil said)) it

-- behind lines that were written
pub prints_after : (was : Output) (mid : Written) (is : Option (List ℕ)) (lines : Lines) (had said : List OutputLine)
    → SaysWhole was mid had → Prints (output_from was mid) is lines said → Prints was is lines (had ++ said)
prints_after was mid is lines had said first it = record {
  styled = it.styled;
  told = it.told ∙ faulted_both was mid.1 had said first.1;
  printed = subst (Batches was.held is lines.batch) (sym (said_both was.style had said))
      (batches_after was.held mid.0 is lines.batch (said_all was.style had) (said_all was.style said) first.0
      it.printed);
}

-- ---- lines of commands

-- what each command prints, if a list prints all of it in order
module _ {X : Type 0} (told : Contents → Command → List X) (all : Contents → List Command
    → List X) (none : (m : Contents) → all m [] ≡ [])
    (first : (m : Contents) (c : Command) (put : List Command)
    → all m (c ∷ put) ≡ told m c ++ all (step m c).contents put) where
  pub all-append : (m : Contents) (put more : List Command) → all m (put ++ more) ≡ all m put ++ all (after m put) more
  all-append m [] more = sym (ap (λ xs. xs ++ all m more) (none m))
  all-append m (c ∷ put) more =
      let rest = all (step m c).contents put in
      let later = all (after (step m c).contents put) more in
      first m c (put ++ more) ∙ ap (λ xs. told m c ++ xs) (all-append (step m c).contents put more)
      ∙ sym (append_assoc (told m c) rest later) ∙ ap (λ xs. xs ++ later) (sym (first m c put))

  pub one_more : (m : Contents) (put : List Command) (c : Command) (so_far last : List X) → so_far ≡ all m put
      → told (after m put) c ≡ last → so_far ++ last ≡ all m (put ++ c ∷ [])
  one_more m put c so_far last is last_is =
      ap₂ (λ xs ys. xs ++ ys) is (sym last_is ∙ sym (append-nil (told (after m put) c)) ∙ ap (λ xs. told (after m
      put) c ++ xs) (sym (none (step (after m put) c).contents)) ∙ sym (first (after m put) c []))
      ∙ sym (all-append m put (c ∷ []))

-- one command more
pub replies_more : (m : Contents) (put : List Command) (c : Command) (text line : List OutputLine)
    → text ≡ replies m put → reply_line c (step (after m put) c).answer ≡ line
    → text ++ line ≡ replies m (put ++ c ∷ [])
replies_more = one_more (λ m c. reply_line c (step m c).answer) replies (λ m. refl) (λ m c put. refl)

pub waits_more : (m : Contents) (put : List Command) (c : Command) (names who : List Waiter) → names ≡ waits m put
    → waits_by c (step (after m put) c).answer ≡ who
    → names ++ who ≡ waits m (put ++ c ∷ [])
waits_more = one_more (λ m c. waits_by c (step m c).answer) waits (λ m. refl) (λ m c put. refl)

-- ---- the line of a refusal

-- it wasn't printed
pub last_unprinted : (from : Output) (is : Option (List ℕ)) (lines : Lines) (said : List OutputLine)
    → Prints from is lines said → (last : List OutputLine) × (IsLast last × Prints from is lines (said ++ last))
last_unprinted from is lines said it = ([], (inl refl, subst (Prints from is lines) (sym (append-nil said)) it))

-- it was printed, or not
pub last_printed : (from : Output) (is : Option (List ℕ)) (lines : Lines) (said : List OutputLine) (refusal : Refusal)
    → Prints from is lines said ⊎ Prints from is lines (said ++ Refused refusal ∷ [])
    → (last : List OutputLine) × (IsLast last × Prints from is lines (said ++ last))
last_printed from is lines said refusal (inl it) = last_unprinted from is lines said it
last_printed from is lines said refusal (inr it) = (Refused refusal ∷ [], (inr (refusal, refl), it))

-- a text that was put through says it
pub said_last : (style : Style) (refusal : Refusal) (text : List ℕ) → text ≡ said_in style (Refused refusal)
    → text ≡ said_all style (Refused refusal ∷ [])
said_last style refusal text made = made ∙ sym (said_one style (Refused refusal))
