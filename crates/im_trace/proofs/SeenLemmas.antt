-- What a port has seen of the trace, once it has taken an answer that waited.
use Rattle.std.proofs.Common.{◌≡◌, ℕ, ◌≤◌, List, [], ◌++◌, length, Some, Ok, Err, Result, sym, refl, ap, ◌∙◌, subst}
use Rattle.std.proofs.Common.{⊎_elim, append-nil, arith, length-append}
use Rattle.im_types.specs.Types.{Command, Outcome, Line, Commands, Refusal, Change}
use Rattle.im_glass.proofs.PrefixLemmas.{prefix_shorter}
use Rattle.im_trace.{proofs.ToldLemmas.plain-receipt, specs.Lines.AreInOrder, specs.Lines.left_lines}
use Rattle.im_trace.specs.Log.{HasHistory, IsBefore, plain, receipt_for, ReceiptState, SeesAnswer}
use mathlib.Core.List.{IsPrefix}

-- ---- prefixes

-- a prefix that isn't shorter than a prefix of one of two lists in order
pub prefix-before : (xs start last ys : List Line) → AreInOrder xs ys → ys ≡ start ++ last → length xs ≤ length start
    → IsPrefix xs start
prefix-before xs start last ys order is less = ⊎_elim
    (λ p. prefix_shorter xs start ys p (last, sym is) less)
    (λ p.
    let n = length-append ys p.0 in let m = length-append start last in
    let same : length ys ≡ length xs = omega (arith, less, ap length is, m, ap length p.1, n) in
    let whole = prefix_shorter xs ys xs ([], append-nil xs) p (omega (arith, same)) in
    prefix_shorter xs start ys whole (last, sym is) less)
    order

-- ---- an answer that waited

pub has-history : (history : List Line) (time : ℕ) (shown : List Change) (command : Command)
    (a : Result Outcome Refusal) → HasHistory history (receipt_for history time shown command a)
has-history history time shown command (Ok outcome) = refl
has-history history time shown command (Err refusal) = tt

-- what is seen then, if no more was seen than there were lines before it
pub claimed-follows : (seen history now : List Line) (time : ℕ) (shown : List Change) (before : ℕ) (r command : Command)
    (a : Result Outcome Refusal) (receipt : Result ReceiptState Refusal) → AreInOrder seen history
    → length seen ≤ before
    → IsBefore before (left_lines (Commands r) a) history → receipt ≡ receipt_for history time shown command a
    → now ≡ history
    → SeesAnswer seen r (Some receipt) now
claimed-follows seen history now time shown before r command a receipt order less behind is same =
    let last = left_lines (Commands r) a in
    let start = behind.0 in
    let begins = prefix-before seen start last history order behind.2 (omega (arith, less, behind.1)) in
    let answers : plain receipt ≡ a = ap plain is ∙ plain-receipt history time shown command a in (
      (
        begins.0,
        same ∙ behind.2 ∙ ap (λ ls. ls ++ last) (sym begins.1)
            ∙ ap (λ b. (seen ++ begins.0) ++ left_lines (Commands r) b) (sym answers),
      ),
      subst (λ b. HasHistory now b) (sym is)
          (subst (λ ls. HasHistory ls (receipt_for history time shown command a)) (sym same)
          (has-history history time shown command a)),
    )
