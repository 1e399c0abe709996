-- The calls that an element's server makes. (Own.)
use Rattle.std.proofs.Common.{◌≡◌, ℕ, zero, suc, ◌+◌, ◌<◌, ◌≤◌, Bool, true, false, cond, List, [], ◌∷◌, ◌++◌, length}
use Rattle.std.proofs.Common.{if◌then◌else◌, slice_get, Some, Ok, Err, count_by, Result, sym, refl, ap, ◌∙◌, subst}
use Rattle.std.proofs.Common.{append-nil, arith}
use Rattle.im_types.specs.Types.{Entry, Op, Outcome, Call, Line, Asks, Confirm, Commands, Collect, Refusal}
use Rattle.im_types.specs.Types.{is_of_numbers}
use Rattle.im_controller.specs.{Lines.counts_after, Lines.left_lines, Lines.line_of, Lines.LineCounts, State.PortState}
use Rattle.im_serving.proofs.GlanceLemmas.{ops_more}
use Rattle.im_serving.specs.{Calls.IsOwnCall, Calls.MakesOnly, Serving.ops_of, Serving.requests}
use Rattle.im_serving.specs.declared.intent.Intent.{Intent, TheVariants.Glance, TheVariants.Request}
use mathlib.Core.List.{IsPrefix}

-- ---- one of a list's first elements

get_within : {X : Type 0} (xs ys : List X) (at : ℕ) (x : X) → slice_get xs at ≡ Some x
    → slice_get (xs ++ ys) at ≡ Some x
get_within [] ys at x e = absurd (cc)
get_within (y ∷ xs) ys zero x e = e
get_within (y ∷ xs) ys (suc at) x e = get_within xs ys at x e

get_longer : {X : Type 0} (xs ys : List X) (at : ℕ) (x : X) → IsPrefix xs ys → slice_get xs at ≡ Some x
    → slice_get ys at ≡ Some x
get_longer {X} xs ys at x p e = subst (λ (l : List X). slice_get l at ≡ Some x) p.1 (get_within xs p.0 at x e)

get_last : {X : Type 0} (xs : List X) (x : X) (at : ℕ) → at ≡ length xs → slice_get (xs ++ x ∷ []) at ≡ Some x
get_last [] x zero is = refl
get_last [] x (suc at) is = absurd (omega (arith, is))
get_last (y ∷ xs) x zero is = absurd (omega (arith, is))
get_last (y ∷ xs) x (suc at) is = get_last xs x at (omega (arith, is))

-- ---- one call

one_unmarked : (b : Bool) → b ≡ false → 0 + cond b 1 0 ≡ 0
one_unmarked true free = absurd (cc)
one_unmarked false free = refl

left_unmarked : (marks : Line → Bool) (call : Call) (answer : Result Outcome Refusal)
    → marks (line_of call answer) ≡ false → count_by marks (left_lines call answer) ≡ 0
left_unmarked marks call (Ok outcome) free = one_unmarked (marks (line_of call (Ok outcome))) free
left_unmarked marks call (Err refusal) free = by_kind (is_of_numbers refusal)
  where
    by_kind : (b : Bool) → count_by marks (if b then line_of call (Err refusal) ∷ [] else []) ≡ 0
    by_kind true = one_unmarked (marks (line_of call (Err refusal))) free
    by_kind false = refl

-- a port made this call
pub makes_one : (marks : Line → Bool) (call : Call) (answer : Result Outcome Refusal) (a b : PortState)
    → b.told ≡ counts_after marks a.told (left_lines call answer) → MakesOnly marks (λ c. c ≡ call) a b
makes_one marks call answer a b is = λ quiet.
    let none = left_unmarked marks call answer (quiet call answer refl) in
    let more = ap (λ (c : LineCounts). c.marked) is in
    omega (arith, none, more)

-- and it is such a call
pub makes_such : (marks : Line → Bool) (P : Call → Type 0) (call : Call) (a b : PortState) → P call
    → MakesOnly marks (λ c. c ≡ call) a b → MakesOnly marks P a b
makes_such marks P call a b it one = λ quiet. one (λ c answer is. quiet c answer (subst P (sym is) it))

-- one call after another
pub makes_then : (marks : Line → Bool) (P : Call → Type 0) (a b c : PortState) → MakesOnly marks P a b
    → MakesOnly marks P b c → MakesOnly marks P a c
makes_then marks P a b c one two = λ quiet. two quiet ∙ one quiet

pub makes_as : (marks : Line → Bool) (P : Call → Type 0) (a b c : PortState) → c ≡ b → MakesOnly marks P a b
    → MakesOnly marks P a c
makes_as marks P a b c same one = subst (MakesOnly marks P a) (sym same) one

-- a call after others, by a port that stays its element's
pub makes_after : (marks : Line → Bool) (call : ℕ → Call) (answer : Result Outcome Refusal) (a b c : PortState)
    → b.element ≡ a.element → MakesOnly marks (λ x. x ≡ call a.element) a b
    → c.told ≡ counts_after marks b.told (left_lines (call b.element) answer)
    → MakesOnly marks (λ x. x ≡ call a.element) a c
makes_after marks call answer a b c same before counts = makes_then marks (λ x. x ≡ call a.element) a b c before
    (subst (λ (e : ℕ). MakesOnly marks (λ x. x ≡ call e) b c) same
    (makes_one marks (call b.element) answer b c counts))

-- and a turn after it, which makes none
pub makes_again : (marks : Line → Bool) (call : ℕ → Call) (answer : Result Outcome Refusal) (a b c d : PortState)
    → d ≡ c → b.element ≡ a.element → MakesOnly marks (λ x. x ≡ call a.element) a b
    → c.told ≡ counts_after marks b.told (left_lines (call b.element) answer)
    → MakesOnly marks (λ x. x ≡ call a.element) a d
makes_again marks call answer a b c d turned same before counts =
    makes_as marks (λ x. x ≡ call a.element) a c d turned (makes_after marks call answer a b c same before counts)

-- ---- a server's own calls

pub at_most : (a b : ℕ) → a ≡ b → b ≤ a
at_most a b same = omega (arith, same)

-- it is one of a server that asks for more
own_more : (element first less more : ℕ) (xs ys : List Op) (call : Call) → less ≤ more → IsPrefix xs ys
    → IsOwnCall element first less xs call → IsOwnCall element first more ys call
own_more element first less more xs ys (Commands (Asks r)) up within (same, (at, (number, op))) =
    (same, (at, (number, get_longer xs ys at r.op within op)))
own_more element first less more xs ys (Commands (Confirm k upto)) up within (same, below) =
    (same, λ number before under. let it : number < less = below number before under in omega (arith, it, up))
own_more element first less more xs ys (Collect k number) up within same = same

pub makes_more : (marks : Line → Bool) (element first less more : ℕ) (xs ys : List Op) (a b : PortState)
    → less ≤ more → IsPrefix xs ys → MakesOnly marks (IsOwnCall element first less xs) a b
    → MakesOnly marks (IsOwnCall element first more ys) a b
makes_more marks element first less more xs ys a b up within it = λ quiet.
    it (λ call answer own. quiet call answer (own_more element first less more xs ys call up within own))

-- of the same element and number
pub makes_for : (marks : Line → Bool) (element port first start untold : ℕ) (ops : List Op) (a b : PortState)
    → port ≡ element → start ≡ first → MakesOnly marks (IsOwnCall port start untold ops) a b
    → MakesOnly marks (IsOwnCall element first untold ops) a b
makes_for marks element port first start untold ops a b same start_is it =
    subst (λ (n : ℕ). MakesOnly marks (IsOwnCall element n untold ops) a b) start_is
    (subst (λ (e : ℕ). MakesOnly marks (IsOwnCall e start untold ops) a b) same it)

-- one after another, by a port that stays its element's
pub own_then : (marks : Line → Bool) (element port first start less more : ℕ) (xs ys zs : List Op)
    (a b c : PortState) → port ≡ element → start ≡ first → less ≤ more → IsPrefix xs zs → IsPrefix ys zs
    → MakesOnly marks (IsOwnCall element first less xs) a b → MakesOnly marks (IsOwnCall port start more ys) b c
    → MakesOnly marks (IsOwnCall element first more zs) a c
own_then marks element port first start less more xs ys zs a b c same start_is up one two it next =
    makes_then marks (IsOwnCall element first more zs) a b c
    (makes_more marks element first less more xs zs a b up one it)
    (makes_more marks element first more more ys zs b c (omega arith) two
    (makes_for marks element port first start more ys b c same start_is next))

-- a collect
pub own_look : (marks : Line → Bool) (first untold number : ℕ) (answer : Result Outcome Refusal) (a b : PortState)
    → b.told ≡ counts_after marks a.told (left_lines (Collect a.element number) answer)
    → MakesOnly marks (IsOwnCall a.element first untold []) a b
own_look marks first untold number answer a b is =
    makes_such marks (IsOwnCall a.element first untold []) (Collect a.element number) a b refl
    (makes_one marks (Collect a.element number) answer a b is)

-- a request, under the next number
pub own_ask : (marks : Line → Bool) (element first untold number at : ℕ) (op : Op) (ops : List Op) (a b : PortState)
    → a.element ≡ element → number ≡ first + at → slice_get ops at ≡ Some op
    → MakesOnly marks
    (λ c. c ≡ Commands (Asks (record { element = a.element; number = number; op = op }))) a b
    → MakesOnly marks (IsOwnCall element first untold ops) a b
own_ask marks element first untold number at op ops a b same is here it =
    makes_such marks (IsOwnCall element first untold ops)
    (Commands (Asks (record { element = a.element; number = number; op = op }))) a b (same, (at, (is, here))) it

-- a confirmation of entries that were told
pub own_confirm : (marks : Line → Bool) (element first untold upto : ℕ) (a b : PortState) → a.element ≡ element
    → ((number : ℕ) → number < first → number < upto → number < untold)
    → MakesOnly marks (λ c. c ≡ Commands (Confirm a.element upto)) a b
    → MakesOnly marks (IsOwnCall element first untold []) a b
own_confirm marks element first untold upto a b same below it =
    makes_such marks (IsOwnCall element first untold []) (Commands (Confirm a.element upto)) a b (same, below) it

-- ---- what is asked for next

ops_count : (xs : List Intent) → length (ops_of xs) ≡ requests xs
ops_count [] = refl
ops_count (Request op ∷ xs) = ap suc (ops_count xs)
ops_count (Glance a ∷ xs) = ops_count xs

ops_both : (xs ys : List Intent) → ops_of (xs ++ ys) ≡ ops_of xs ++ ops_of ys
ops_both [] ys = refl
ops_both (Request op ∷ xs) ys = ap (λ (l : List Op). op ∷ l) (ops_both xs ys)
ops_both (Glance a ∷ xs) ys = ops_both xs ys

pub ops_longer : (xs ys : List Intent) → IsPrefix xs ys → IsPrefix (ops_of xs) (ops_of ys)
ops_longer xs ys p = (ops_of p.0, sym (ops_both xs p.0) ∙ ap ops_of p.1)

pub next_op : (xs : List Intent) (op : Op) (entries : List Entry) → length entries ≡ requests xs
    → slice_get (ops_of (xs ++ Request op ∷ [])) (length entries) ≡ Some op
next_op xs op entries count = subst (λ (l : List Op). slice_get l (length entries) ≡ Some op) (sym (ops_more xs op))
    (get_last (ops_of xs) op (length entries) (count ∙ sym (ops_count xs)))

-- what came out of the pipe was served
pub intent_alone : (marks : Line → Bool) (element first untold : ℕ) (op : Op) (intent : Intent)
    (before : List Intent) (entries : List Entry) (a b : PortState) → intent ≡ Request op
    → length entries ≡ requests before
    → ((ops : List Op) → slice_get ops (length entries) ≡ Some op
    → MakesOnly marks (IsOwnCall element first untold ops) a b)
    → MakesOnly marks (IsOwnCall element first untold (ops_of (before ++ intent ∷ []))) a b
intent_alone marks element first untold op intent before entries a b is count it =
    subst (λ (i : Intent). MakesOnly marks (IsOwnCall element first untold (ops_of (before ++ i ∷ []))) a b) (sym is)
    (it (ops_of (before ++ Request op ∷ [])) (next_op before op entries count))

-- and what came before it
pub alone_then : (marks : Line → Bool) (element port first start less more : ℕ) (xs ys : List Intent)
    (intent : Intent) (a b c : PortState) → port ≡ element → start ≡ first → less ≤ more → ys ≡ xs ++ intent ∷ []
    → MakesOnly marks (IsOwnCall element first less (ops_of xs)) a b
    → MakesOnly marks (IsOwnCall port start more (ops_of (xs ++ intent ∷ []))) b c
    → MakesOnly marks (IsOwnCall element first more (ops_of ys)) a c
alone_then marks element port first start less more xs ys intent a b c same start_is up is one two =
    let all = xs ++ intent ∷ [] in
    subst (λ (l : List Intent). MakesOnly marks (IsOwnCall element first more (ops_of l)) a c) (sym is)
    (own_then marks element port first start less more (ops_of xs) (ops_of all) (ops_of all) a b c same start_is up
    (ops_longer xs all (intent ∷ [], refl)) ([], append-nil (ops_of all)) one two)

-- as much was received
pub alone_as : (marks : Line → Bool) (element first untold : ℕ) (xs ys : List Intent) (a b : PortState) → ys ≡ xs
    → MakesOnly marks (IsOwnCall element first untold (ops_of xs)) a b
    → MakesOnly marks (IsOwnCall element first untold (ops_of ys)) a b
alone_as marks element first untold xs ys a b is it =
    subst (λ (l : List Intent). MakesOnly marks (IsOwnCall element first untold (ops_of l)) a b) (sym is) it
