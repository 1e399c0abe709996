-- Members that are judged one after another.
use Rattle.std.proofs.Common.{◌≡◌, ℕ, zero, suc, ◌+◌, ◌-◌, ◌<◌, ◌≤◌, Bool, true, false, ◌&&◌, List, [], ◌∷◌, ◌++◌}
use Rattle.std.proofs.Common.{length, get_or, take, IfSome, if◌then◌else◌, nat_lt, slice_get, Some, None, Option, sym}
use Rattle.std.proofs.Common.{refl, ap, ◌∙◌, subst, arith, length-append}
use Rattle.std.proofs.lemmas.List.{take_more}
use Rattle.im_types.specs.Types.{Command, Asks, Confirm, Contents, step, is_accepted, after, accept_each}
use Rattle.im_laws.proofs.RunLemmas.{after-append}
use Rattle.im_groups.proofs.AheadLemmas.{accepted_first}
use Rattle.im_groups.proofs.CommandLemmas.{at-after, commands_behind, left_behind, takes_behind}
use Rattle.im_groups.specs.Ahead.{AreAccepted, IsUnsure, ServesBehind, ServesPrefix}
use Rattle.im_groups.specs.Commands.{command_at, commands_at, contents_after_all, left_after, takes_at, takes_place}

-- one member more is judged
pub record JudgesOneMore (m : Contents) (places : ℕ) (members : List Command) (i : ℕ) (commands : List Command) (left
    : ℕ) : Type 0 where
  pub few : length commands ≤ i + 1
  pub commands_are : commands ≡ commands_at m places (take (i + 1) members)
  pub left_is : left ≡ left_after m places (take (i + 1) members)

at_most_one : (cs : List Command) (b : Bool) (x : Command) → length (cs ++ (if b then x ∷ [] else [])) ≤ length cs + 1
at_most_one cs true x = omega (arith, length-append cs (x ∷ []))
at_most_one cs false x = omega (arith, length-append cs [])

pub judged-next : (m : Contents) (places : ℕ) (members ahead cs ds : List Command) (left left2 i : ℕ) (d : Command) (b : Bool)
    → i < length members → length cs ≤ i → ahead ≡ cs
    → cs ≡ commands_at m places (take i members) → left ≡ left_after m places (take i members)
    → b ≡ is_accepted (after m ahead) (get_or members i d)
    → ds ≡ cs ++ (if b && nat_lt 0 left then get_or members i d ∷ [] else [])
    → left2 ≡ (if b && nat_lt 0 left then left - 1 else left)
    → JudgesOneMore m places members i ds left2
judged-next m places members ahead cs ds left left2 i d b within few same cs_are left_is b_is ds_are left2_is =
    let x = get_or members i d in
    let front = take i members in
    let c = contents_after_all m places front in
    let l = left_after m places front in
    let more : take (i + 1) members ≡ front ++ x ∷ [] = take_more members i d within in
    let verdict : b ≡ is_accepted c x = b_is ∙ ap (λ n. is_accepted (after m n) x) (same ∙ cs_are)
    ∙ ap (λ n. is_accepted n x) (at-after m places front) in
    record {
      few = omega (arith, few, ap length ds_are, at_most_one cs (b && nat_lt 0 left) x);
      commands_are = ds_are ∙ ap (λ (v : Bool). cs ++ (if v && nat_lt 0 left then x ∷ [] else [])) verdict
          ∙ ap (λ (n : ℕ). cs ++ (if is_accepted c x && nat_lt 0 n then x ∷ [] else [])) left_is
          ∙ ap (λ (k : List Command). k ++ command_at c l x) cs_are
          ∙ sym (commands_behind m places front x) ∙ ap (commands_at m places) (sym more);
      left_is = left2_is ∙ ap (λ (v : Bool). if v && nat_lt 0 left then left - 1 else left) verdict
          ∙ ap (λ (n : ℕ). if is_accepted c x && nat_lt 0 n then n - 1 else n) left_is
          ∙ sym (left_behind m places front x) ∙ ap (left_after m places) (sym more);
    }

-- and it is known whether that member takes a place
pub taken-next : (m : Contents) (places : ℕ) (members ahead cs : List Command) (ts : List Bool) (left i : ℕ)
    (d : Command) (b taken : Bool) → i < length members → ahead ≡ cs → cs ≡ commands_at m places (take i members)
    → left ≡ left_after m places (take i members) → ts ≡ takes_at m places (take i members)
    → b ≡ is_accepted (after m ahead) (get_or members i d) → taken ≡ (b && nat_lt 0 left)
    → ts ++ taken ∷ [] ≡ takes_at m places (take (i + 1) members)
taken-next m places members ahead cs ts left i d b taken within same cs_are left_is ts_are b_is taken_is =
    let x = get_or members i d in
    let front = take i members in
    let c = contents_after_all m places front in
    let more : take (i + 1) members ≡ front ++ x ∷ [] = take_more members i d within in
    let verdict : b ≡ is_accepted c x = b_is ∙ ap (λ n. is_accepted (after m n) x) (same ∙ cs_are)
    ∙ ap (λ n. is_accepted n x) (at-after m places front) in
    ap (λ (t : Bool). ts ++ t ∷ []) (taken_is ∙ ap (λ (v : Bool). v && nat_lt 0 left) verdict
    ∙ ap (λ (n : ℕ). is_accepted c x && nat_lt 0 n) left_is)
    ∙ ap (λ (k : List Bool). k ++ takes_place c (left_after m places front) x ∷ []) ts_are
    ∙ sym (takes_behind m places front x) ∙ ap (takes_at m places) (sym more)

-- where something isn't known, there is a command ahead
pub unsure-behind : (m : Contents) (ahead : List Command) (c : Command) → IsUnsure m ahead c → 0 < length ahead
unsure-behind m ahead (Asks r) it = absurd it
unsure-behind m ahead (Confirm element upto) it = it.behind

pub found_at : {X : Type 0} (xs : List X) (i : ℕ) (d x : X) → slice_get xs i ≡ Some x → get_or xs i d ≡ x
found_at [] i d x at = absurd (cc)
found_at (y ∷ xs) zero d x at = cc
found_at (y ∷ xs) (suc i) d x at = found_at xs i d x at

-- the members are judged as far as this one, of which it isn't known
pub stops-begins : (m : Contents) (put ahead members : List Command) (i : ℕ) (d : Command) → i < length members
    → length put ≤ i → ahead ≡ put → IsUnsure m ahead (get_or members i d) → ServesPrefix m put members i
stops-begins m put ahead members i d within few is unsure = record {
  within = omega (arith, within);
  some = λ some. let behind = unsure-behind m ahead (get_or members i d) unsure in omega (arith, few, behind, ap length is);
  stops = λ c at. there c (found_at members i d c at);
}
  where
    there : (c : Command) → get_or members i d ≡ c → IsUnsure m put c
    there c same = subst (IsUnsure m put) same (subst (λ l. IsUnsure m l (get_or members i d)) is unsure)

nothing_past : (cs : List Command) (many : ℕ) → many ≡ length cs → (c : Command) → slice_get cs many ≡ Some c → ⊥
nothing_past [] many is c at = cc
nothing_past (d ∷ cs) zero is c at = absurd (omega (arith, is))
nothing_past (d ∷ cs) (suc many) is c at = nothing_past cs many (omega (arith, is)) c at

-- all of them are judged
pub all-begins : (m : Contents) (put members : List Command) (many : ℕ) → many ≡ length members
    → ServesPrefix m put members many
all-begins m put members many is = record {
  within = omega (arith, is);
  some = λ some. omega (arith, is, some);
  stops = λ c at. absurd (nothing_past members many is c at);
}

-- ---- behind the commands of a group ahead

-- what is found behind all commands holds of the members, at the memory after the group
pub behind-found : (m : Contents) (ahead line put : List Command) (x : Command) (b : Bool) → line ≡ ahead ++ put
    → b ≡ is_accepted (after m line) x → b ≡ is_accepted (after (after m ahead) put) x
behind-found m ahead line put x b is found = found ∙ ap (λ (l : List Command). is_accepted (after m l) x) is
    ∙ ap (λ (n : Contents). is_accepted n x) (after-append m ahead put)

pub accepted-both : (m : Contents) (cs put : List Command) → AreAccepted m cs → AreAccepted (after m cs) put
    → AreAccepted m (cs ++ put)
accepted-both m [] put it more = more
accepted-both m (c ∷ cs) put it more =
    let first = accepted_first m c cs it in
    ap (λ (b : Bool). if b then accept_each (step m c).contents (cs ++ put) else None) first.0
    ∙ accepted-both (step m c).contents cs put first.1 more

pub stops-behind : (m : Contents) (ahead put line members : List Command) (i : ℕ) (d : Command) → i < length members
    → length put ≤ i → line ≡ ahead ++ put → IsUnsure m line (get_or members i d) → ServesBehind m ahead put members i
stops-behind m ahead put line members i d within few is unsure = record {
  within = omega (arith, within);
  some = λ none some.
      let behind = unsure-behind m line (get_or members i d) unsure in
      omega (arith, few, behind, ap length is, length-append ahead put, none);
  stops = λ c at. there c (found_at members i d c at);
}
  where
    there : (c : Command) → get_or members i d ≡ c → IsUnsure m (ahead ++ put) c
    there c same = subst (IsUnsure m (ahead ++ put)) same (subst (λ l. IsUnsure m l (get_or members i d)) is unsure)

pub all-behind : (m : Contents) (ahead put members : List Command) (many : ℕ) → many ≡ length members
    → ServesBehind m ahead put members many
all-behind m ahead put members many is = record {
  within = omega (arith, is);
  some = λ none some. omega (arith, is, some);
  stops = λ c at. absurd (nothing_past members many is c at);
}

-- with no command ahead, the members are judged as a group of their own
pub behind-nothing : (m : Contents) (members : List Command) (o : Option ℕ)
    → IfSome o (λ many. ServesBehind m [] (take many members) members many)
    → IfSome o (λ many. ServesPrefix m (take many members) members many)
behind-nothing m members (Some many) it = record {
  within = it.within;
  some = it.some refl;
  stops = it.stops;
}
behind-nothing m members None it = tt

pub few-behind : (m : Contents) (members : List Command) (places : ℕ) (o : Option ℕ) → length members ≤ places
    → IfSome o (λ many. ServesBehind m [] (take many members) members many) → IfSome o (λ many. many ≤ places)
few-behind m members places (Some many) enough it = omega (arith, enough, it.within)
few-behind m members places None enough it = tt
