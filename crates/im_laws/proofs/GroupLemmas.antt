-- Requests of other elements, and groups of them.
use Rattle.std.proofs.Common.{◌≡◌, ℕ, suc, ◌+◌, ◌-◌, ◌<◌, ◌≤◌, Bool, true, false, ◌≢◌, List, [], ◌∷◌, ◌++◌, length}
use Rattle.std.proofs.Common.{if◌then◌else◌, nat_lt, ◌==◌, Some, None, sym, refl, ap, ◌∙◌, ⊎_elim, arith}
use Rattle.std.proofs.lemmas.Bool.{cases_lt, Decides.nat_tests}
use Rattle.im_types.specs.Types.{Request, Command, Asks, LAST, Contents, bounds, step, is_accepted, after, AreOthers}
use Rattle.im_types.specs.Types.{is_new, is_put, with_request, reached_by_one, reached_by_all, puts_of, Reached}
use Rattle.im_types.specs.Types.{accept_each}
use Rattle.im_laws.proofs.AcceptLemmas.{accepted-takes_next, unaccepted-leaves}
use Rattle.im_laws.proofs.{JudgeLemmas.accepted-next, JudgeLemmas.next-accepted, Tests.and_both}
use Rattle.im_laws.specs.{Groups.IsCounted, Windows.IsNextRequest}

pub same_test : (a b : Bool) → (a ≡ true → b ≡ true) → (b ≡ true → a ≡ true) → a ≡ b
same_test true b f g = sym (f refl)
same_test false true f g = g refl
same_test false false f g = refl

next_there : (m n : Contents) (q : Request) → bounds n.windows q.element ≡ bounds m.windows q.element
    → IsNextRequest m.windows q → IsNextRequest n.windows q
next_there m n q same it = record { base = it.base; are = same ∙ it.are; room = it.room; to_last = it.to_last }

accepted_there : (m n : Contents) (q : Request) → bounds n.windows q.element ≡ bounds m.windows q.element
    → is_accepted n (Asks q) ≡ is_accepted m (Asks q)
accepted_there m n q same = same_test (is_accepted n (Asks q)) (is_accepted m (Asks q))
    (λ e. next-accepted m q (next_there n m q (sym same) (accepted-next n q e)))
    (λ e. next-accepted n q (next_there m n q same (accepted-next m q e)))

-- a request of another element leaves whether a request is accepted
pub accepted-other : (m : Contents) (r q : Request) → q.element ≢ r.element
    → is_accepted (step m (Asks r)).contents (Asks q) ≡ is_accepted m (Asks q)
accepted-other m r q apart = by_test (is_accepted m (Asks r)) refl
  where
    by_test : (b : Bool) → is_accepted m (Asks r) ≡ b → is_accepted (step m (Asks r)).contents (Asks q)
        ≡ is_accepted m (Asks q)
    by_test true e = accepted_there m (step m (Asks r)).contents q ((accepted-takes_next m r e).others q.element apart)
    by_test false e = ap (λ (n : Contents). is_accepted n (Asks q)) (unaccepted-leaves m (Asks r) e)

pub one_leaves : (s : Reached) (r q : Request) → q.element ≢ r.element → is_new (reached_by_one s r) q ≡ is_new s q
one_leaves s r q apart = by_test (is_put s r)
  where
    by_test : (b : Bool) → is_new (if b then with_request s r else s) q ≡ is_new s q
    by_test true = accepted-other s.contents r q apart
    by_test false = refl

-- and so do the members of a group of other elements
pub accepted-others : (s : Reached) (rs : List Request) (q : Request) → AreOthers q.element rs
    → is_new (reached_by_all s rs) q ≡ is_new s q
accepted-others s [] q apart = refl
accepted-others s (r ∷ rs) q apart = accepted-others (reached_by_one s r) rs q apart.1 ∙ one_leaves s r q apart.0

-- ---- a group is the run of the commands that it puts into the journal

accept_first : (m : Contents) (command : Command) (commands : List Command) → is_accepted m command ≡ true
    → accept_each m (command ∷ commands) ≡ accept_each (step m command).contents commands
accept_first m command commands e = ap
    (λ (b : Bool). if b then accept_each (step m command).contents commands else None) e

pub puts-accepted : (s : Reached) (rs : List Request) → accept_each s.contents (puts_of s rs)
    ≡ Some (reached_by_all s rs).contents
puts-accepted s [] = refl
puts-accepted s (r ∷ rs) = by_test (is_put s r) refl (puts-accepted (reached_by_one s r) rs)
  where
    by_test : (b : Bool) → is_put s r ≡ b
        → accept_each (reached_by_one s r).contents (puts_of (reached_by_one s r) rs)
        ≡ Some (reached_by_all (reached_by_one s r) rs).contents
        → accept_each s.contents ((if b then Asks r ∷ [] else []) ++ puts_of (reached_by_one s r) rs)
        ≡ Some (reached_by_all (reached_by_one s r) rs).contents
    by_test true e rest =
        accept_first s.contents (Asks r) (puts_of (reached_by_one s r) rs) (and_both (is_new s r) (nat_lt 0 s.room) e).0
        ∙ ap (λ (b : Bool). accept_each (if b then with_request s r else s).contents
        (puts_of (reached_by_one s r) rs)) (sym e) ∙ rest
    by_test false e rest = ap
        (λ (b : Bool). accept_each (if b then with_request s r else s).contents (puts_of (reached_by_one s r) rs))
        (sym e) ∙ rest

pub puts-after : (s : Reached) (rs : List Request) → (reached_by_all s rs).contents ≡ after s.contents (puts_of s rs)
puts-after s [] = refl
puts-after s (r ∷ rs) = puts-after (reached_by_one s r) rs ∙ by_test (is_put s r) refl
  where
    by_test : (b : Bool) → is_put s r ≡ b → after (reached_by_one s r).contents (puts_of (reached_by_one s r) rs)
        ≡ after s.contents ((if b then Asks r ∷ [] else []) ++ puts_of (reached_by_one s r) rs)
    by_test true e = ap (λ (b : Bool). after (if b then with_request s r else s).contents
        (puts_of (reached_by_one s r) rs)) e
    by_test false e = ap (λ (b : Bool). after (if b then with_request s r else s).contents
        (puts_of (reached_by_one s r) rs)) e

pub puts-counted : (s : Reached) (rs : List Request) → (reached_by_all s rs).count ≡ s.count + length (puts_of s rs)
puts-counted s [] = omega arith
puts-counted s (r ∷ rs) = by_test (is_put s r) refl (puts-counted (reached_by_one s r) rs)
  where
    by_test : (b : Bool) → is_put s r ≡ b → (reached_by_all (reached_by_one s r) rs).count
        ≡ (reached_by_one s r).count + length (puts_of (reached_by_one s r) rs)
        → (reached_by_all (reached_by_one s r) rs).count
        ≡ s.count + length ((if b then Asks r ∷ [] else []) ++ puts_of (reached_by_one s r) rs)
    by_test true e rest = let c : (reached_by_one s r).count
        ≡ s.count + 1 = ap (λ (b : Bool). (if b then with_request s r else s).count) e in omega (arith, rest, c)
    by_test false e rest = let c : (reached_by_one s r).count
        ≡ s.count = ap (λ (b : Bool). (if b then with_request s r else s).count) e in omega (arith, rest, c)

-- ---- what is left behind a group

pub above_zero : (a : ℕ) → nat_lt 0 a ≡ true → 0 < a
above_zero a e = grind (arith, nat_tests)

pub below_last : (count room : ℕ) → 0 < room → count ≤ LAST → (count ≡ LAST → room ≡ 0) → count + 1 ≤ LAST
below_last count room some to_last full = ⊎_elim
    (λ (low : count < LAST). omega arith)
    (λ (high : LAST ≤ count). let none : room ≡ 0 = full (omega arith) in absurd (omega arith))
    (cases_lt count LAST)

counted-with : (s : Reached) (r : Request) → IsCounted s → 0 < s.room → IsCounted (with_request s r)
counted-with s r it some = record {
  to_last = below_last s.count s.room some it.to_last it.full_at_last;
  full_at_last = λ e. ap (λ (b : Bool). if b then 0 else s.room - 1)
      (let t : (s.count + 1 == LAST) ≡ true = grind (arith, nat_tests) in t);
}

pub counted-one : (s : Reached) (r : Request) → IsCounted s → IsCounted (reached_by_one s r)
counted-one s r it = by_test (is_put s r) refl
  where
    by_test : (b : Bool) → is_put s r ≡ b → IsCounted (if b then with_request s r else s)
    by_test true e = counted-with s r it (above_zero s.room (and_both (is_new s r) (nat_lt 0 s.room) e).1)
    by_test false e = it

pub counted-all : (s : Reached) (rs : List Request) → IsCounted s → IsCounted (reached_by_all s rs)
counted-all s [] it = it
counted-all s (r ∷ rs) it = counted-all (reached_by_one s r) rs (counted-one s r it)

-- the room that is left behind a group
pub puts-room : (s : Reached) (rs : List Request) → IsCounted s
    → (reached_by_all s rs).room
    ≡ (if s.count + length (puts_of s rs) == LAST then 0 else s.room - length (puts_of s rs))
puts-room s [] it = by_test (s.count + 0 == LAST) refl
  where
    by_test : (b : Bool) → (s.count + 0 == LAST) ≡ b → s.room ≡ (if b then 0 else s.room - 0)
    by_test true e = let last : s.count ≡ LAST = grind (arith, nat_tests) in it.full_at_last last
    by_test false e = omega arith
puts-room s (r ∷ rs) it = by_put (is_put s r) refl (puts-room (reached_by_one s r) rs (counted-one s r it))
    (counted-all (reached_by_one s r) rs (counted-one s r it)) (puts-counted (reached_by_one s r) rs)
  where
    by_last : (g : ℕ) → s.count + 1 + g ≤ LAST → (b d : Bool) → (s.count + 1 == LAST) ≡ b → (s.count + suc g == LAST)
        ≡ d
        → (if d then 0 else (if b then 0 else s.room - 1) - g) ≡ (if d then 0 else s.room - suc g)
    by_last g few b true e f = refl
    by_last g few false false e f = omega arith
    by_last g few true false e f = let last : s.count + 1 ≡ LAST = grind (arith, nat_tests) in let none : g
        ≡ 0 = omega arith in let yes : (s.count + suc g == LAST) ≡ true = grind (arith, nat_tests) in absurd (cc)

    by_put : (b : Bool) → is_put s r ≡ b
        → (reached_by_all (reached_by_one s r) rs).room
        ≡ (if (reached_by_one s r).count + length (puts_of (reached_by_one s r) rs) == LAST then 0 else
        (reached_by_one s r).room - length (puts_of (reached_by_one s r) rs))
        → IsCounted (reached_by_all (reached_by_one s r) rs) → (reached_by_all (reached_by_one s r) rs).count
        ≡ (reached_by_one s r).count + length (puts_of (reached_by_one s r) rs)
        → (reached_by_all (reached_by_one s r) rs).room
        ≡ (if s.count + length
        ((if b then Asks r ∷ [] else []) ++ puts_of (reached_by_one s r) rs) == LAST then 0 else s.room - length
        ((if b then Asks r ∷ [] else []) ++ puts_of (reached_by_one s r) rs))
    by_put false e rest counts counted = rest
        ∙ ap (λ (b : Bool). let x = (if b then with_request s r else s) in if x.count + length
        (puts_of (reached_by_one s r) rs) == LAST then 0 else x.room - length (puts_of (reached_by_one s r) rs)) e
    by_put true e rest counts counted =
        let g : ℕ = length (puts_of (reached_by_one s r) rs) in
        let c : (reached_by_one s r).count
        ≡ s.count + 1 = ap (λ (b : Bool). (if b then with_request s r else s).count) e in
        rest ∙ ap (λ (b : Bool). let x =
        (if b then with_request s r else s) in if x.count + g == LAST then 0 else x.room - g) e
        ∙ ap (λ (n : ℕ). if n == LAST then 0 else (with_request s r).room - g)
        (let more : s.count + 1 + g ≡ s.count + suc g = omega arith in more)
        ∙ by_last g (omega (arith, counts.to_last, counted, c)) (s.count + 1 == LAST)
        (s.count + suc g == LAST) refl refl
