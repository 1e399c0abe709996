-- Of two histories that end in a request's line, one is told later than the other.
use Rattle.std.proofs.Common.{◌≡◌, false, ◌⊎◌, List, [], ◌∷◌, ◌++◌, Ok, Result, sym, refl, ap, ◌∙◌, subst, inl, inr}
use Rattle.std.proofs.Common.{⊎_elim, append_assoc}
use Rattle.std.proofs.lemmas.List.{same_from_push}
use Rattle.im_types.specs.Types.{Entry, Request, Command, Outcome, Line, Asks, Tells, Commands, Refusal, Contents}
use Rattle.im_types.specs.Types.{WaitingAgrees, is_accepted, IsLegal, end_of}
use Rattle.im_laws.specs.Entries.{IsSameOrAnswer}
use Rattle.im_promise.specs.Traces.{at_other, line_telling, ToldTwice}
use Rattle.im_controller.specs.{Lines.EndsIn, Lines.line_of, Log.ReceiptState}
use Rattle.im_receipts.specs.Alike.{AreToldAlike, GivesEntry, IsToldLater}
use mathlib.Core.List.{IsPrefix}

-- a prefix of a list is all of it, or a prefix of what stands before its last element
whole_or_before : {A : Type 0} (xs zs : List A) (x : A) → IsPrefix xs (zs ++ x ∷ [])
    → (zs ++ x ∷ [] ≡ xs) ⊎ IsPrefix xs zs
whole_or_before [] zs x p = inr (zs, refl)
whole_or_before (y ∷ []) [] x p = inl (cc (p.1))
whole_or_before (y ∷ w ∷ ws) [] x p = absurd (cc (p.1))
whole_or_before (y ∷ ys) (z ∷ zs) x p =
    ⊎_elim (λ e. inl (cc (p.1, e))) (λ q. inr (q.0, cc (p.1, q.1))) (whole_or_before ys zs x (p.0, cc (p.1)))

-- an answer tells this entry, and no other one
abbrev IsTold : Entry → Result Outcome Refusal → Type 0
IsTold entry answer = Ok (Tells entry) ≡ answer

same_entry : (one other : Entry) → IsTold one (Ok (Tells other)) → other ≡ one
same_entry one other is = cc

-- a legal history ends in the line that tells this entry
abbrev pub IsTelling : Contents → Request → Entry → List Line → Type 0
IsTelling m r entry history = IsLegal m history × ((before : List Line) × (history ≡ before ++ line_telling r entry ∷ []))

pub is_telling : (m : Contents) (r : Request) (entry : Entry) (receipt : ReceiptState) → GivesEntry receipt r entry
    → IsLegal m receipt.history → EndsIn receipt.history (line_of (Commands receipt.command) (Ok receipt.outcome))
    → IsTelling m r entry receipt.history
is_telling m r entry receipt gives legal ends = (
  legal,
  (
    ends.0,
    ends.1 ∙ ap (λ (c : Command). ends.0 ++ line_of (Commands c) (Ok receipt.outcome) ∷ []) gives.0
        ∙ ap (λ (o : Outcome). ends.0 ++ line_of (Commands (Asks r)) (Ok o) ∷ []) gives.1,
  ),
)

module _ (alike : (m : Contents) (trace : List Line) (r : Request) (first second : Entry)
    → ToldTwice m trace r first second → IsSameOrAnswer first second)
    (still : (m : Contents) (trace : List Line) (r : Request) (first second : Entry)
    → (it : ToldTwice m trace r first second) → is_accepted (at_other m it.stand) (Asks r) ≡ false)
    (m : Contents) (r : Request) (agrees : WaitingAgrees m) where
  in_order : (one two : List Line) (first second : Entry) → IsTelling m r first one → IsTelling m r second two → IsPrefix one two
      → ((two ≡ one) × (second ≡ first)) ⊎ IsToldLater m r one first two second
  in_order one two first second a b p =
      let before : List Line = a.1.0 in
      let ahead : List Line = b.1.0 in
      let this : Line = line_telling r first in
      let that : Line = line_telling r second in
      ⊎_elim
      (λ e. inl (
        b.1.1 ∙ e,
        same_entry first second (ap (λ (l : Line). l.answer) (sym (same_from_push ahead before that this (e ∙ a.1.1)).1)),
      ))
      (λ (q : IsPrefix one ahead).
      let between : List Line = q.0 in
      let seam : one ++ between ≡ before ++ (this ∷ between) =
      ap (λ ls. ls ++ between) a.1.1 ∙ append_assoc before (this ∷ []) between in
      let it : ToldTwice m two r first second = record {
        agrees = agrees;
        legal = b.0;
        stand = record {
          earlier = before;
          between = between;
          later = [];
          is = b.1.1 ∙ ap (λ ls. ls ++ that ∷ []) (sym q.1 ∙ seam)
              ∙ append_assoc before (this ∷ between) (that ∷ []);
        };
      } in
      inr (record {
        between = between;
        goes = b.1.1 ∙ ap (λ ls. ls ++ that ∷ []) (sym q.1);
        alike = alike m two r first second it;
        still = ap (λ ls. is_accepted (end_of m ls) (Asks r)) seam ∙ still m two r first second it;
      }))
      (whole_or_before one ahead that (subst (IsPrefix one) b.1.1 p))

  pub both : (one two : List Line) (first second : Entry) → IsTelling m r first one → IsTelling m r second two
      → IsPrefix one two ⊎ IsPrefix two one → AreToldAlike m r one first two second
  both one two first second a b (inl p) = ⊎_elim inl (λ l. inr (inl l)) (in_order one two first second a b p)
  both one two first second a b (inr p) =
      ⊎_elim (λ e. inl (sym e.0, sym e.1)) (λ l. inr (inr l)) (in_order two one second first b a p)
