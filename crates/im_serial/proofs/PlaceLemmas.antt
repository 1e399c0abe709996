-- The place of a script's next request.
use Rattle.std.proofs.Common.{◌≡◌, ℕ, ◌≤◌, List, Ok, Err, Result, sym, ◌∙◌, arith}
use Rattle.{im_types.specs.Types.Contents, im_types.specs.Types.bounds}
use Rattle.{im_asks.specs.declared.WindowPlace.TheVariants.Confirm, im_asks.specs.declared.WindowPlace.TheVariants.Next}
use Rattle.{im_asks.specs.Windows.IsWindowPlace, im_session.specs.Kept.SessionStart, im_session.specs.Kept.SessionState}
use Rattle.im_text.specs.declared.{OutputLine.OutputLine, Waited.Waited}
use Rattle.im_serial.{proofs.ScriptedLemmas.over_here, specs.Serving.IsServing, specs.Serving.MakesPlace}
use Rattle.im_serial.specs.{Asked.Standing, declared.waits.Mark.Mark, Noted.notes}

-- the window of a request that has a number
pub next_bounds : (m : Contents) (element number : ℕ) → IsWindowPlace m element (Next number)
    → (base : ℕ) × (bounds m.windows element ≡ Ok (base, number))
next_bounds m element number ((base, next), are, (is, room)) =
    let same = sym is in (base, are ∙ (λ i. Ok (base, same i)))

-- the window of entries that are due
pub record DueWindow (m : Contents) (element base upto : ℕ) : Type 0 where
  pub next : ℕ
  pub are : bounds m.windows element ≡ Ok (base, next)
  pub from : base ≤ upto

pub due_bounds : (m : Contents) (element base upto : ℕ) → IsWindowPlace m element (Confirm base upto)
    → DueWindow m element base upto
due_bounds m element base upto ((low, next), are, (is, full, above, answered)) =
    let same = sym is in record {
      next = next;
      are = are ∙ (λ i. Ok (same i, next));
      from = omega (arith, above, is);
    }

-- nothing has to be done for a place
pub placed : {D T : Type 0} (E : Type 0) (x : T) (s : SessionState D) (waited : List Waited) (marks : List Mark)
    → MakesPlace {E = E} (Ok x) s waited marks s waited marks
placed E x s waited marks = λ start at text was. was

-- a number is looked up behind a place that was made
pub place_then : {D T E : Type 0} (r : Result T E) (old new : SessionState D) (waited learned : List Waited)
    (marks later : List Mark)
    → ((start : SessionStart D) (s : Standing) (text : List OutputLine)
    → IsServing start old s text (notes waited marks)
    → IsServing start new s text (notes learned later)) → MakesPlace r old waited marks new learned later
place_then (Ok x) old new waited learned marks later first = first
place_then (Err e) old new waited learned marks later first = λ start s text was.
    over_here start new s text (notes learned later) (first start s text was)
