-- The answers to an element's requests, in what its port has seen of the trace. (Own.)
use Rattle.std.proofs.Common.{◌≡◌, ℕ, zero, suc, ◌+◌, ◌≤◌, ◌⊎◌, List, [], ◌∷◌, ◌++◌, length, slice_set, Ok, Result, sym}
use Rattle.std.proofs.Common.{refl, ap, ◌∙◌, subst, inl, inr, append_assoc, append-nil, arith, length-append}
use Rattle.im_types.specs.Types.{Entry, Op, Command, Outcome, Line, Asks, Tells, Commands, Refusal}
use Rattle.im_trace.proofs.ChainLemmas.{prefix-trans}
use Rattle.im_controller.specs.{Lines.GoesOnTo, Lines.line_of, Waits.SeesEntry}
use Rattle.im_controller.specs.Log.{FoundState, ReceiptState, SeesReceipt}
use Rattle.im_serving.specs.{Numbers.Noted, Serving.AreFound, Serving.asked_line, Serving.asked_lines}
use Rattle.im_serving.specs.{Serving.found_line, Serving.HasAnswers, Serving.HasAsked, Serving.Looked, Serving.StandIn}
use mathlib.Core.List.{IsPrefix}

-- ---- lines that stand in a trace

pub stand_longer : (lines xs ys : List Line) → IsPrefix xs ys → StandIn lines xs → StandIn lines ys
stand_longer [] xs ys p s = tt
stand_longer (line ∷ lines) xs ys p (before, after, is, rest) = (
  before,
  after ++ p.0,
  sym p.1 ∙ ap (λ (t : List Line). t ++ p.0) is ∙ append_assoc before (line ∷ after) p.0,
  stand_longer lines after (after ++ p.0) (p.0, refl) rest,
)

stand_more : (lines trace : List Line) (line : Line) → StandIn lines trace
    → StandIn (lines ++ line ∷ []) (trace ++ line ∷ [])
stand_more [] trace line s = (trace, [], refl, tt)
stand_more (first ∷ lines) trace line (before, after, is, rest) = (
  before,
  after ++ line ∷ [],
  ap (λ (t : List Line). t ++ line ∷ []) is ∙ append_assoc before (first ∷ after) (line ∷ []),
  stand_more lines after line rest,
)

-- ---- a trace that goes on

pub goes_longer : (seen last more : List Line) → GoesOnTo seen last more → IsPrefix seen more
goes_longer seen last more g = (g.0 ++ last, sym (append_assoc seen g.0 last) ∙ sym g.1)

pub goes_from : (start seen last more : List Line) → IsPrefix start seen → GoesOnTo seen last more
    → GoesOnTo start last more
goes_from start seen last more p g = (
  p.0 ++ g.0,
  g.1 ∙ ap (λ (t : List Line). (t ++ g.0) ++ last) (sym p.1)
      ∙ ap (λ (t : List Line). t ++ last) (append_assoc start p.0 g.0),
)

pub goes_has : (seen more : List Line) (line : Line) → GoesOnTo seen (line ∷ []) more → StandIn (line ∷ []) more
goes_has seen more line g = (seen ++ g.0, [], g.1, tt)

goes_stand : (lines seen more : List Line) (line : Line) → GoesOnTo seen (line ∷ []) more → StandIn lines seen
    → StandIn (lines ++ line ∷ []) more
goes_stand lines seen more line g s = subst (StandIn (lines ++ line ∷ [])) (sym g.1)
    (stand_more lines (seen ++ g.0) line (stand_longer lines seen (seen ++ g.0) (g.0, refl) s))

-- ---- what a port was told

pub sees_longer : (seen more : List Line) (element number : ℕ) (answer : Result FoundState Refusal)
    → SeesEntry seen element number answer more → IsPrefix seen more
sees_longer seen more element number answer s = goes_longer seen _ more s.0

pub sees_found : (seen more : List Line) (element number : ℕ) (answer : Result FoundState Refusal)
    (found : FoundState) (entry : Entry) → answer ≡ Ok found → entry ≡ found.entry
    → SeesEntry seen element number answer more → GoesOnTo seen (found_line element number entry ∷ []) more
sees_found seen more element number answer found entry is tells s = subst
    (λ (e : Entry). GoesOnTo seen (found_line element number e ∷ []) more) (sym tells)
    (subst (λ (a : Result FoundState Refusal). SeesEntry seen element number a more) is s).0

pub receipt_line : (start seen more : List Line) (command : Command) (answer : Result ReceiptState Refusal)
    (receipt : ReceiptState) → IsPrefix start seen
    → answer ≡ Ok receipt → receipt.command ≡ command → SeesReceipt seen command answer more
    → GoesOnTo start (line_of (Commands receipt.command) (Ok receipt.outcome) ∷ []) more
receipt_line start seen more command answer receipt p is asked s =
    subst (λ (c : Command). GoesOnTo start (line_of (Commands c) (Ok receipt.outcome) ∷ []) more) (sym asked)
    (goes_from start seen (line_of (Commands command) (Ok receipt.outcome) ∷ []) more p
    (subst (λ (a : Result ReceiptState Refusal). SeesReceipt seen command a more) is s).0)

pub receipt_longer : (start seen more : List Line) (command : Command) (answer : Result ReceiptState Refusal)
    → IsPrefix start seen → SeesReceipt seen command answer more → IsPrefix start more
receipt_longer start seen more command answer p s = prefix-trans start seen more p (goes_longer seen _ more s.0)

pub asked_by : (seen more : List Line) (element number : ℕ) (op : Op) (entry : Entry) (command : Command)
    (outcome : Outcome)
    → command ≡ Asks (record { element = element; number = number; op = op }) → outcome ≡ Tells entry
    → GoesOnTo seen (line_of (Commands command) (Ok outcome) ∷ []) more
    → GoesOnTo seen (asked_line element number op entry ∷ []) more
asked_by seen more element number op entry command outcome asked tells g =
    let a : Command = Asks (record { element = element; number = number; op = op }) in
    subst (λ (o : Outcome). GoesOnTo seen (line_of (Commands a) (Ok o) ∷ []) more) tells
    (subst (λ (c : Command). GoesOnTo seen (line_of (Commands c) (Ok outcome) ∷ []) more) asked g)

pub asked_as : (seen more : List Line) (element port number asks : ℕ) (op : Op) (entry : Entry) → port ≡ element
    → asks ≡ number
    → GoesOnTo seen (asked_line port asks op entry ∷ []) more
    → GoesOnTo seen (asked_line element number op entry ∷ []) more
asked_as seen more element port number asks op entry same is g =
    subst (λ (n : ℕ). GoesOnTo seen (asked_line element n op entry ∷ []) more) is
    (subst (λ (e : ℕ). GoesOnTo seen (asked_line e asks op entry ∷ []) more) same g)

-- ---- entries that were found

found_same : (trace : List Line) (element number : ℕ) (entries : List Entry)
    → AreFound trace element number entries entries
found_same trace element number [] = tt
found_same trace element number (entry ∷ entries) = (inl refl, found_same trace element (suc number) entries)

found_longer : (trace more : List Line) (element number : ℕ) (xs ys : List Entry) → IsPrefix trace more
    → AreFound trace element number xs ys → AreFound more element number xs ys
found_longer trace more element number [] [] p f = tt
found_longer trace more element number [] (y ∷ ys) p f = absurd f
found_longer trace more element number (x ∷ xs) [] p f = absurd f
found_longer trace more element number (x ∷ xs) (y ∷ ys) p (inl same, rest) =
    (inl same, found_longer trace more element (suc number) xs ys p rest)
found_longer trace more element number (x ∷ xs) (y ∷ ys) p (inr there, rest) = (
  inr (stand_longer (found_line element number y ∷ []) trace more p there),
  found_longer trace more element
      (suc number) xs ys p rest,
)

found_then : (trace : List Line) (element number : ℕ) (xs ys zs : List Entry) → AreFound trace element number xs ys
    → AreFound trace element number ys zs → AreFound trace element number xs zs
found_then trace element number [] [] [] f g = tt
found_then trace element number [] [] (z ∷ zs) f g = absurd g
found_then trace element number [] (y ∷ ys) zs f g = absurd f
found_then trace element number (x ∷ xs) [] zs f g = absurd f
found_then trace element number (x ∷ xs) (y ∷ ys) [] f g = absurd g
found_then trace element number (x ∷ xs) (y ∷ ys) (z ∷ zs) f (inl same, rest) = (
  subst (λ (e : Entry). (e ≡ x) ⊎ StandIn (found_line element number e ∷ []) trace) (sym same) f.0,
  found_then trace element (suc number) xs ys zs f.1 rest,
)
found_then trace element number (x ∷ xs) (y ∷ ys) (z ∷ zs) f (inr there, rest) =
    (inr there, found_then trace element (suc number) xs ys zs f.1 rest)

found_set : (trace : List Line) (element first : ℕ) (entries : List Entry) (at number : ℕ) (entry : Entry)
    → number ≡ first + at
    → StandIn (found_line element number entry ∷ []) trace
    → AreFound trace element first entries (slice_set entries at entry)
found_set trace element first [] at number entry is there = tt
found_set trace element first (x ∷ xs) zero number entry is there =
    let same : number ≡ first = omega (arith, is) in (
      inr (subst (λ (n : ℕ). StandIn (found_line element n entry ∷ []) trace) same there),
      found_same trace element
          (suc first) xs,
    )
found_set trace element first (x ∷ xs) (suc at) number entry is there =
    (inl refl, found_set trace element (suc first) xs at number entry (omega (arith, is)) there)

pub found_length : (trace : List Line) (element number : ℕ) (xs ys : List Entry) → AreFound trace element number xs ys
    → length ys ≡ length xs
found_length trace element number [] [] f = refl
found_length trace element number [] (y ∷ ys) f = absurd f
found_length trace element number (x ∷ xs) [] f = absurd f
found_length trace element number (x ∷ xs) (y ∷ ys) f = ap suc (found_length trace element (suc number) xs ys f.1)

found_more : (trace : List Line) (element number : ℕ) (xs ys : List Entry) (entry : Entry)
    → AreFound trace element number xs ys
    → AreFound trace element number (xs ++ entry ∷ []) (ys ++ entry ∷ [])
found_more trace element number [] [] entry f = (inl refl, tt)
found_more trace element number [] (y ∷ ys) entry f = absurd f
found_more trace element number (x ∷ xs) [] entry f = absurd f
found_more trace element number (x ∷ xs) (y ∷ ys) entry f =
    (f.0, found_more trace element (suc number) xs ys entry f.1)

-- ---- a port looked

pub looked_none : (trace : List Line) (element first : ℕ) (entries : List Entry)
    → Looked trace trace element first entries entries
looked_none trace element first entries = record {
  longer = ([], append-nil trace);
  found = found_same trace element first entries;
}

pub looked_same : (trace more : List Line) (element first : ℕ) (entries : List Entry) → IsPrefix trace more
    → Looked trace more element first entries entries
looked_same trace more element first entries p = record { longer = p; found = found_same more element first entries }

pub looked_then : (trace seen more : List Line) (element port first start : ℕ) (xs ys zs : List Entry)
    → port ≡ element → start ≡ first
    → Looked trace seen element first xs ys → Looked seen more port start ys zs → Looked trace more element first xs zs
looked_then trace seen more element port first start xs ys zs same start_is l k = record {
  longer = prefix-trans trace seen more l.longer k.longer;
  found = found_then more element first xs ys zs (found_longer seen more element first xs ys k.longer l.found)
      (subst (λ (n : ℕ). AreFound more element n ys zs) start_is
      (subst (λ (e : ℕ). AreFound more e start ys zs) same k.found));
}

pub looked_on : (trace seen more : List Line) (element first : ℕ) (entries mid later : List Entry) → later ≡ mid
    → IsPrefix seen more → Looked trace seen element first entries mid → Looked trace more element first entries later
looked_on trace seen more element first entries mid later same p l = subst (Looked trace more element first entries)
    (sym same) (record {
      longer = prefix-trans trace seen more l.longer p;
      found = found_longer seen more element first entries mid p l.found;
    })

pub looked_found : (trace more : List Line) (element first number : ℕ) (entries later : List Entry) (entry : Entry)
    → Noted first entries number entry later
    → GoesOnTo trace (found_line element number entry ∷ []) more → Looked trace more element first entries later
looked_found trace more element first number entries later entry (inl same) g =
    subst (Looked trace more element first entries) (sym same)
    (looked_same trace more element first entries (goes_longer trace _ more g))
looked_found trace more element first number entries later entry (inr (at, is, set)) g =
    subst (Looked trace more element first entries) (sym set) (record {
      longer = goes_longer trace _ more g;
      found = found_set more element first entries at number entry is
          (goes_has trace more (found_line element number entry) g);
    })

-- as many entries then, or one more
pub looked_few : (trace more : List Line) (element first : ℕ) (entries mid later : List Entry) → later ≡ mid
    → Looked trace more element first entries mid → length later ≤ length entries + 1
looked_few trace more element first entries mid later same l =
    let is = found_length more element first entries mid l.found in
    let long = ap length same in
    omega (arith, is, long)

pub looked_count : (trace more : List Line) (element first : ℕ) (entries mid later : List Entry) (entry : Entry)
    → later ≡ mid ++ entry ∷ [] → Looked trace more element first entries mid → length later ≡ length entries + 1
looked_count trace more element first entries mid later entry same l =
    let is = found_length more element first entries mid l.found in
    let long = ap length same in
    let one = length-append mid (entry ∷ []) in
    omega (arith, is, long, one)

-- ---- what was asked and answered

pub answered_on : (trace more : List Line) (element first : ℕ) (ops : List Op) (entries later : List Entry)
    → Looked trace more element first entries later
    → HasAnswers trace element first ops entries → HasAnswers more element first ops later
answered_on trace more element first ops entries later l a = record {
  firsts = a.firsts;
  count = a.count;
  asked = stand_longer (asked_lines element first ops a.firsts) trace more l.longer a.asked;
  found = found_then more element first a.firsts entries later
      (found_longer trace more element first a.firsts entries l.longer a.found) l.found;
}

asked_more : (element first number : ℕ) (ops : List Op) (firsts : List Entry) (op : Op) (entry : Entry)
    → length firsts ≡ length ops → number ≡ first + length ops
    → asked_lines element first (ops ++ op ∷ [])
    (firsts ++ entry ∷ []) ≡ asked_lines element first ops firsts ++ asked_line element number op entry ∷ []
asked_more element first number [] [] op entry same is =
    let here : first ≡ number = omega (arith, is) in
    ap (λ (n : ℕ). asked_line element n op entry ∷ []) here
asked_more element first number [] (e ∷ firsts) op entry same is = absurd (omega (arith, same))
asked_more element first number (o ∷ ops) [] op entry same is = absurd (omega (arith, same))
asked_more element first number (o ∷ ops) (e ∷ firsts) op entry same is =
    ap (λ (l : List Line). asked_line element first o e ∷ l)
    (asked_more element (suc first) number ops firsts op entry (omega (arith, same)) (omega (arith, is)))

counts_more : (ops : List Op) (firsts : List Entry) (op : Op) (entry : Entry) → length firsts ≡ length ops
    → length (firsts ++ entry ∷ []) ≡ length (ops ++ op ∷ [])
counts_more ops firsts op entry same =
    let here = length-append firsts (entry ∷ []) in
    let there = length-append ops (op ∷ []) in
    omega (arith, same, here, there)

behind : (first before firsts ops : ℕ) → before ≡ firsts → firsts ≡ ops → first + before ≡ first + ops
behind first before firsts ops same count = omega (arith, same, count)

pub answered_more : (trace more : List Line) (element first : ℕ) (ops : List Op) (op : Op)
    (entries later : List Entry) → HasAsked trace more element first op entries later
    → HasAnswers trace element first ops entries → HasAnswers more element first (ops ++ op ∷ []) later
answered_more trace more element first ops op entries later h a =
    let mid = answered_on trace h.seen element first ops entries h.before h.looked a in
    let same : length h.before ≡ length mid.firsts = found_length h.seen element first mid.firsts h.before mid.found in
    let number : ℕ = first + length h.before in
    record {
      firsts = mid.firsts ++ h.entry ∷ [];
      count = counts_more ops mid.firsts op h.entry mid.count;
      asked = subst (λ (l : List Line). StandIn l more)
          (sym (asked_more element first number ops mid.firsts op h.entry mid.count
          (behind first _ _ _ same mid.count)))
          (goes_stand (asked_lines element first ops mid.firsts) h.seen more
          (asked_line element number op h.entry) h.asked mid.asked);
      found = subst (AreFound more element first (mid.firsts ++ h.entry ∷ [])) (sym h.added)
          (found_more more element first mid.firsts h.before h.entry
          (found_longer h.seen more element first mid.firsts h.before (goes_longer h.seen _ more h.asked) mid.found));
    }

-- of the same element, number and operations
pub answered_as : (trace : List Line) (element port first start : ℕ) (ops asks : List Op) (entries : List Entry)
    → port ≡ element → start ≡ first → asks ≡ ops
    → HasAnswers trace element first ops entries → HasAnswers trace port start asks entries
answered_as trace element port first start ops asks entries same start_is is a =
    subst (λ (l : List Op). HasAnswers trace port start l entries) (sym is)
    (subst (λ (n : ℕ). HasAnswers trace port n ops entries) (sym start_is)
    (subst (λ (e : ℕ). HasAnswers trace e first ops entries) (sym same) a))

-- how many entries there are then
pub asked_count : (trace more : List Line) (element first : ℕ) (op : Op) (entries later : List Entry)
    → HasAsked trace more element first op entries later → length later ≡ length entries + 1
asked_count trace more element first op entries later h =
    looked_count trace h.seen element first entries h.before later h.entry h.added h.looked
