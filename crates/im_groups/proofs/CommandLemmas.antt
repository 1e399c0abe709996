-- A group of commands, and the run of those that take a place.
use Rattle.std.proofs.Common.{◌≡◌, ℕ, ◌-◌, ◌<◌, ◌≤◌, Bool, true, false, List, [], ◌∷◌, ◌++◌, length, if◌then◌else◌}
use Rattle.std.proofs.Common.{nat_lt, Some, None, sym, refl, ap, ◌∙◌, subst, append_assoc, append-nil, arith}
use Rattle.im_types.specs.Types.{Command, Contents, step, is_accepted, after, accept_each}
use Rattle.im_laws.proofs.{GroupLemmas.above_zero, Tests.and_both}
use Rattle.im_groups.specs.Ahead.{AreAccepted}
use Rattle.im_groups.specs.Commands.{command_at, commands_at, contents_after_all, contents_with, left_after}
use Rattle.im_groups.specs.Commands.{places_behind, takes_at, takes_place}

-- no more commands than places
pub few_at : (m : Contents) (left : ℕ) (cs : List Command) → length (commands_at m left cs) ≤ left
few_at m left [] = omega arith
few_at m left (c ∷ cs) = by_test (takes_place m left c) refl
    (few_at (contents_with m left c) (places_behind m left c) cs)
  where
    by_test : (b : Bool) → takes_place m left c ≡ b
        → length (commands_at (contents_with m left c) (places_behind m left c) cs) ≤ places_behind m left c
        → length ((if b then c ∷ [] else []) ++ commands_at (contents_with m left c) (places_behind m left c) cs) ≤ left
    by_test true e rest =
        let some : 0 < left = above_zero left (and_both (is_accepted m c) (nat_lt 0 left) e).1 in
        let less : places_behind m left c
        ≡ left - 1 = ap (λ (b : Bool). if b then left - 1 else left) e in omega (arith, rest, less)
    by_test false e rest = let same : places_behind m left c
        ≡ left = ap (λ (b : Bool). if b then left - 1 else left) e in omega (arith, rest, same)

pub at-after : (m : Contents) (left : ℕ) (cs : List Command) → after m (commands_at m left cs)
    ≡ contents_after_all m left cs
at-after m left [] = refl
at-after m left (c ∷ cs) = by_test (takes_place m left c) refl
    ∙ at-after (contents_with m left c) (places_behind m left c) cs
  where
    rest : List Command
    rest = commands_at (contents_with m left c) (places_behind m left c) cs

    by_test : (b : Bool) → takes_place m left c ≡ b → after m ((if b then c ∷ [] else []) ++ rest)
        ≡ after (contents_with m left c) rest
    by_test true e = ap (λ (b : Bool). after (if b then (step m c).contents else m) rest) (sym e)
    by_test false e = ap (λ (b : Bool). after (if b then (step m c).contents else m) rest) (sym e)

pub at-accepted : (m : Contents) (left : ℕ) (cs : List Command) → AreAccepted m (commands_at m left cs)
at-accepted m left [] = refl
at-accepted m left (c ∷ cs) = by_test (takes_place m left c) refl
    (at-accepted (contents_with m left c) (places_behind m left c) cs)
  where
    rest : List Command
    rest = commands_at (contents_with m left c) (places_behind m left c) cs

    by_test : (b : Bool) → takes_place m left c ≡ b → AreAccepted (contents_with m left c) rest
        → AreAccepted m ((if b then c ∷ [] else []) ++ rest)
    by_test true e later =
        ap (λ (b : Bool). if b then accept_each (step m c).contents rest else None)
        (and_both (is_accepted m c) (nat_lt 0 left) e).0
        ∙ subst (λ (b : Bool). AreAccepted (if b then (step m c).contents else m) rest) e later
    by_test false e later = subst (λ (b : Bool). AreAccepted (if b then (step m c).contents else m) rest) e later

-- and they come to what the members come to
pub at-accepts : (m : Contents) (left : ℕ) (cs : List Command) → accept_each m (commands_at m left cs)
    ≡ Some (contents_after_all m left cs)
at-accepts m left cs = at-accepted m left cs ∙ ap Some (at-after m left cs)

-- ---- a member more behind others

pub left_behind : (m : Contents) (left : ℕ) (cs : List Command) (c : Command)
    → left_after m left (cs ++ c ∷ []) ≡ places_behind (contents_after_all m left cs) (left_after m left cs) c
left_behind m left [] c = refl
left_behind m left (d ∷ cs) c = left_behind (contents_with m left d) (places_behind m left d) cs c

pub commands_behind : (m : Contents) (left : ℕ) (cs : List Command) (c : Command)
    → commands_at m left (cs ++ c ∷ [])
    ≡ commands_at m left cs ++ command_at (contents_after_all m left cs) (left_after m left cs) c
commands_behind m left [] c = append-nil (command_at m left c)
commands_behind m left (d ∷ cs) c =
    ap (λ (l : List Command). command_at m left d ++ l)
    (commands_behind (contents_with m left d) (places_behind m left d) cs c)
    ∙ sym (append_assoc (command_at m left d) (commands_at (contents_with m left d) (places_behind m left d) cs)
    (command_at (contents_after_all (contents_with m left d) (places_behind m left d) cs)
    (left_after (contents_with m left d) (places_behind m left d) cs) c))

pub takes_behind : (m : Contents) (left : ℕ) (cs : List Command) (c : Command)
    → takes_at m left (cs ++ c ∷ []) ≡ takes_at m left cs
    ++ takes_place (contents_after_all m left cs) (left_after m left cs) c ∷ []
takes_behind m left [] c = refl
takes_behind m left (d ∷ cs) c = ap (λ (l : List Bool). takes_place m left d ∷ l)
    (takes_behind (contents_with m left d) (places_behind m left d) cs c)
