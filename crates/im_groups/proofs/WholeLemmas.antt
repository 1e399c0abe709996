-- Members that are all accepted, each in its turn.
use Rattle.std.proofs.Common.{◌≡◌, ℕ, zero, suc, ◌+◌, ◌-◌, ◌<◌, ◌≤◌, Bool, true, false, ◌&&◌, List, [], ◌∷◌, ◌++◌}
use Rattle.std.proofs.Common.{length, get_or, take, if◌then◌else◌, nat_lt, Some, None, sym, refl, ap, ◌∙◌, subst, arith}
use Rattle.std.proofs.lemmas.{Bool.Decides.nat_tests, List.take_more}
use Rattle.im_types.specs.Types.{Command, Contents, step, is_accepted, after, accept_each}
use Rattle.im_groups.proofs.AheadLemmas.{accepted_first}
use Rattle.im_groups.specs.{Ahead.AreAccepted, Commands.commands_at, Commands.takes_place}

accepted_behind : (m : Contents) (cs : List Command) (c : Command) → AreAccepted m cs
    → is_accepted (after m cs) c ≡ true → AreAccepted m (cs ++ c ∷ [])
accepted_behind m [] c it is = ap (λ (b : Bool). if b then Some (step m c).contents else None) is
accepted_behind m (d ∷ cs) c it is =
    let first = accepted_first m d cs it in
    ap (λ (b : Bool). if b then accept_each (step m d).contents (cs ++ c ∷ []) else None) first.0
    ∙ accepted_behind (step m d).contents cs c first.1 is

-- before the first member there is none
pub none-before : {X : Type 0} (xs : List X) → take 0 xs ≡ []
none-before [] = refl
none-before (x ∷ xs) = refl

-- one member more
pub accepted-next : (m : Contents) (members : List Command) (i : ℕ) (d : Command) (b : Bool) → i < length members
    → AreAccepted m (take i members) → b ≡ is_accepted (after m (take i members)) (get_or members i d) → b ≡ true
    → AreAccepted m (take (i + 1) members)
accepted-next m members i d b within it found is =
    subst (λ (l : List Command). AreAccepted m l) (sym (take_more members i d within))
    (accepted_behind m (take i members) (get_or members i d) it (sym found ∙ is))

-- a member that isn't accepted in its turn
pub refused-next : (m : Contents) (members : List Command) (i : ℕ) (d : Command) (b : Bool) → i < length members
    → AreAccepted m (take i members) → b ≡ is_accepted (after m (take i members)) (get_or members i d) → b ≡ false
    → accept_each m members ≡ None
refused-next m [] i d b within it found is = absurd (omega (arith, within))
refused-next m (c ∷ cs) zero d b within it found is =
    ap (λ (t : Bool). if t then accept_each (step m c).contents cs else None) (sym found ∙ is)
refused-next m (c ∷ cs) (suc i) d b within it found is =
    let first = accepted_first m c (take i cs) it in
    ap (λ (t : Bool). if t then accept_each (step m c).contents cs else None) first.0
    ∙ refused-next (step m c).contents cs i d b (omega (arith, within)) first.1 found is

-- ---- with places for all of them

pub place_for : (left : ℕ) → 0 < left → nat_lt 0 left ≡ true
place_for left some = grind (arith, nat_tests)

pub whole-takes : (m : Contents) (left : ℕ) (c : Command) → is_accepted m c ≡ true → 0 < left
    → takes_place m left c ≡ true
whole-takes m left c accepted some = ap (λ (b : Bool). b && nat_lt 0 left) accepted ∙ place_for left some

-- their commands are the members themselves
pub whole-commands : (m : Contents) (left : ℕ) (cs : List Command) → AreAccepted m cs → length cs ≤ left
    → commands_at m left cs ≡ cs
whole-commands m left [] it enough = refl
whole-commands m left (c ∷ cs) it enough =
    let first = accepted_first m c cs it in
    ap (λ (b : Bool). (if b then c ∷ [] else [])
    ++ commands_at (if b then (step m c).contents else m) (if b then left - 1 else left) cs)
    (whole-takes m left c first.0 (omega (arith, enough)))
    ∙ ap (λ (l : List Command). c ∷ l)
    (whole-commands (step m c).contents (left - 1) cs first.1 (omega (arith, enough)))
