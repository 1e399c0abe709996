-- A group of requests is a group of commands.
use Rattle.std.proofs.Common.{◌≡◌, ℕ, zero, suc, ◌+◌, ◌-◌, ◌<◌, ◌≤◌, min, Bool, true, false, ◌&&◌, List, [], ◌∷◌, ◌++◌}
use Rattle.std.proofs.Common.{map, if◌then◌else◌, nat_lt, ◌==◌, Err, Result, sym, refl, ap, ◌∙◌, arith}
use Rattle.std.proofs.lemmas.Bool.Decides.{nat_tests}
use Rattle.im_types.specs.Types.{Request, Command, Outcome, Asks, Refusal, JournalFull, LAST, Contents, step, is_new}
use Rattle.im_types.specs.Types.{is_put, with_request, answer_of, reached_by_one, answers_of, reached_by_all, puts_of}
use Rattle.im_types.specs.Types.{Reached}
use Rattle.im_laws.proofs.GroupLemmas.{above_zero, below_last, counted-one, same_test}
use Rattle.im_laws.{proofs.Tests.and_both, specs.Groups.IsCounted}
use Rattle.im_groups.specs.Commands.{answer_with, answers_with, command_at, commands_at, contents_after_all}
use Rattle.im_groups.specs.Commands.{contents_with, places, places_behind, takes_place}

-- the places at what was reached
abbrev pub places_of : Reached → ℕ
places_of s = places s.count s.room

below_one : (a b : ℕ) → (0 < a → 0 < b) → (0 < b → 0 < a) → nat_lt 0 a ≡ nat_lt 0 b
below_one a b f g = same_test (nat_lt 0 a) (nat_lt 0 b) (λ e. is_above b (f (above_zero a e)))
    (λ e. is_above a (g (above_zero b e)))
  where
    is_above : (n : ℕ) → 0 < n → nat_lt 0 n ≡ true
    is_above n some = grind (arith, nat_tests)

none_or_some : (n : ℕ) → (n == 0) ≡ (if nat_lt 0 n then false else true)
none_or_some zero = refl
none_or_some (suc n) = grind (arith, nat_tests)

places_test : (s : Reached) → IsCounted s → nat_lt 0 s.room ≡ nat_lt 0 (places_of s)
places_test s it = below_one s.room (places_of s) (λ some. more s.room s.count some it.to_last it.full_at_last)
    (λ some. omega arith)
  where
    more : (room count : ℕ) → 0 < room → count ≤ LAST → (count ≡ LAST → room ≡ 0) → 0 < min room (LAST - count)
    more room count some to_last full = let low : count + 1 ≤ LAST = below_last count room some to_last full in omega
        arith

places_with : (s : Reached) (r : Request) → IsCounted s → 0 < s.room → places_of (with_request s r) ≡ places_of s - 1
places_with s r it some = by_test (s.count + 1 == LAST) refl
  where
    by_test : (b : Bool) → (s.count + 1 == LAST) ≡ b → min (if b then 0 else s.room - 1) (LAST - (s.count + 1))
        ≡ min s.room (LAST - s.count) - 1
    by_test true e = let last : s.count + 1 ≡ LAST = grind (arith, nat_tests) in omega arith
    by_test false e = omega arith

pub put_takes : (s : Reached) (r : Request) → IsCounted s → is_put s r ≡ takes_place s.contents (places_of s) (Asks r)
put_takes s r it = ap (λ (b : Bool). is_new s r && b) (places_test s it)

one_answer : (s : Reached) (r : Request) → IsCounted s → answer_of s r ≡ answer_with s.contents (places_of s) (Asks r)
one_answer s r it = ap (λ (b : Bool). if is_new s r && b then Err JournalFull else (step s.contents (Asks r)).answer)
    (none_or_some s.room ∙ ap (λ (b : Bool). if b then false else true) (places_test s it)
    ∙ sym (none_or_some (places_of s)))

pub one_contents : (s : Reached) (r : Request) → IsCounted s → (reached_by_one s r).contents
    ≡ contents_with s.contents (places_of s) (Asks r)
one_contents s r it = by_test (is_put s r)
    ∙ ap (λ (b : Bool). if b then (step s.contents (Asks r)).contents else s.contents) (put_takes s r it)
  where
    by_test : (b : Bool) → (if b then with_request s r else s).contents
        ≡ (if b then (step s.contents (Asks r)).contents else s.contents)
    by_test true = refl
    by_test false = refl

pub one_places : (s : Reached) (r : Request) → IsCounted s → places_of (reached_by_one s r) ≡ places_behind s.contents
    (places_of s) (Asks r)
one_places s r it = by_test (is_put s r) refl
    ∙ ap (λ (b : Bool). if b then places_of s - 1 else places_of s) (put_takes s r it)
  where
    by_test : (b : Bool) → is_put s r ≡ b → places_of (if b then with_request s r else s)
        ≡ (if b then places_of s - 1 else places_of s)
    by_test true e = places_with s r it (above_zero s.room (and_both (is_new s r) (nat_lt 0 s.room) e).1)
    by_test false e = refl

pub answers_by : (s : Reached) (rs : List Request) → IsCounted s → answers_of s rs
    ≡ answers_with s.contents (places_of s) (map Asks rs)
answers_by s [] it = refl
answers_by s (r ∷ rs) it =
    ap (λ (a : Result Outcome Refusal). a ∷ answers_of (reached_by_one s r) rs) (one_answer s r it)
    ∙ ap (λ l. answer_with s.contents (places_of s) (Asks r) ∷ l) (answers_by (reached_by_one s r) rs (counted-one s
    r it)
    ∙ ap (λ (m : Contents). answers_with m (places_of (reached_by_one s r)) (map Asks rs)) (one_contents s r it)
    ∙ ap (λ (n : ℕ). answers_with (contents_with s.contents (places_of s) (Asks r)) n (map Asks rs)) (one_places s r
    it))

pub contents_by : (s : Reached) (rs : List Request) → IsCounted s → (reached_by_all s rs).contents
    ≡ contents_after_all s.contents (places_of s) (map Asks rs)
contents_by s [] it = refl
contents_by s (r ∷ rs) it = contents_by (reached_by_one s r) rs (counted-one s r it)
    ∙ ap (λ (m : Contents). contents_after_all m (places_of (reached_by_one s r)) (map Asks rs)) (one_contents s r it)
    ∙ ap (λ (n : ℕ). contents_after_all (contents_with s.contents (places_of s) (Asks r)) n (map Asks rs)) (one_places s
    r it)

-- the commands that the members put on the disk
pub puts_by : (s : Reached) (rs : List Request) → IsCounted s → puts_of s rs
    ≡ commands_at s.contents (places_of s) (map Asks rs)
puts_by s [] it = refl
puts_by s (r ∷ rs) it =
    ap (λ (b : Bool). (if b then Asks r ∷ [] else []) ++ puts_of (reached_by_one s r) rs) (put_takes s r it)
    ∙ ap (λ (l : List Command). command_at s.contents (places_of s) (Asks r) ++ l)
    (puts_by (reached_by_one s r) rs (counted-one s r it)
    ∙ ap (λ (m : Contents). commands_at m (places_of (reached_by_one s r)) (map Asks rs)) (one_contents s r it)
    ∙ ap (λ (n : ℕ). commands_at (contents_with s.contents (places_of s) (Asks r)) n (map Asks rs))
    (one_places s r it))
