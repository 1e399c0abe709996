-- What a trace shows if it is longer, and what an answer is without its receipt.
use Rattle.std.proofs.Common.{◌≡◌, ℕ, List, [], ◌∷◌, ◌++◌, Ok, Err, Result, sym, refl, ap, ◌∙◌, append_assoc}
use Rattle.im_types.specs.Types.{Command, Outcome, Line, Refusal, Contents, contents_after, end_of, changes_in}
use Rattle.im_types.specs.Types.{changes_of, opening, shown_by, Change}
use Rattle.im_trace.specs.Log.{IsToldOf, plain, receipt_for}
use mathlib.Core.List.{IsPrefix}

pub changes-append : (m : Contents) (earlier later : List Line) → changes_of m (earlier ++ later)
    ≡ changes_of m earlier ++ changes_of (end_of m earlier) later
changes-append m [] later = refl
changes-append m (line ∷ earlier) later =
    ap (λ l. changes_in m line.call ++ l) (changes-append (contents_after m line.call) earlier later)
    ∙ sym (append_assoc (changes_in m line.call) (changes_of (contents_after m line.call) earlier)
    (changes_of (end_of (contents_after m line.call) earlier) later))

pub shown-append : (m : Contents) (earlier later : List Line) → shown_by m (earlier ++ later)
    ≡ shown_by m earlier ++ changes_of (end_of m earlier) later
shown-append m earlier later =
    ap (λ l. opening m ++ l) (changes-append m earlier later)
    ∙ sym (append_assoc (opening m) (changes_of m earlier) (changes_of (end_of m earlier) later))

-- what was told by the end of a trace was told by an earlier one
pub told-earlier : (m : Contents) (history trace : List Line) (told : List Change) → IsPrefix history trace
    → IsToldOf m trace told → IsToldOf m history told
told-earlier m history trace told p all =
    let more = changes_of (end_of m history) p.0 in (
      more ++ all.0,
      sym (append_assoc (shown_by m history) more all.0) ∙ ap (λ l. l ++ all.0) (sym (shown-append m history p.0))
          ∙ ap (λ ls. shown_by m ls ++ all.0) p.1 ∙ all.1,
    )

-- an answer without its receipt
pub plain-receipt : (history : List Line) (time : ℕ) (shown : List Change) (command : Command)
    (a : Result Outcome Refusal) → plain (receipt_for history time shown command a) ≡ a
plain-receipt history time shown command (Ok outcome) = refl
plain-receipt history time shown command (Err refusal) = refl
