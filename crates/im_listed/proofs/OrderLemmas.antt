-- Those that are ahead are the first of those that are asked, whatever is called.
use Rattle.std.proofs.Common.{◌≡◌, ℕ, zero, suc, ◌-◌, ◌<◌, ◌≤◌, min, Bool, true, false, ◌&&◌, ◌⊎◌, List, [], ◌∷◌, ◌++◌}
use Rattle.std.proofs.Common.{map, length, take, drop, if◌then◌else◌, nat_lt, ◌==◌, Result, sym, refl, ap, ◌∙◌, subst}
use Rattle.std.proofs.Common.{inl, inr, ⊎_elim, arith, take_all}
use Rattle.im_types.specs.Types.{Command, Outcome, Served, Refused, Refusal, Device, MAX_GROUP, Contents, step}
use Rattle.im_types.specs.Types.{is_accepted, as_served}
use Rattle.im_laws.proofs.Tests.{and_false, eq_by_test, true_false}
use Rattle.{im_groups.specs.Ahead.ServesPrefix, im_checkpoint.specs.declared.TurnDone.TurnDone}
use Rattle.im_groups.specs.Commands.{answers_with, commands_at, contents_with, places, places_behind}
use Rattle.im_engine.specs.Answered.{Answered, SweepAnswered, TurnAnswered}
use Rattle.im_engine.specs.{Chain.Advances, State.EngineState}
use Rattle.im_engine.specs.Commands.{answers_in_turn, commands_put, CommandsAnswered}
use Rattle.im_front.specs.declared.{AskedCommand.AskedCommand, ToldAnswer.ToldAnswer}
use Rattle.im_front.specs.Lists.{answers_told, asks_told, commands_asked}
use Rattle.im_listed.specs.{Image.ImageState, Listing.Listing, Listing.with_no_steps}

abbrev pub AreFirst : List Command → List AskedCommand → Type 0
AreFirst ahead asked = commands_asked (take (length ahead) asked) ≡ ahead

-- the image with this asked
abbrev pub with_asked : ImageState → List AskedCommand → ImageState
with_asked s asked = record s { asked = asked }

-- what is ahead stays so, or nothing is ahead any more
abbrev pub StaysAhead : EngineState Listing → EngineState Listing → Type 0
StaysAhead old new = (new.ahead ≡ old.ahead) ⊎ (new.ahead ≡ [])

pub first_stays : (old new : EngineState Listing) (asked : List AskedCommand) → StaysAhead old new
    → AreFirst old.ahead asked → AreFirst new.ahead asked
first_stays old new asked stays first = ⊎_elim
    (λ e. subst (λ (l : List Command). AreFirst l asked) (sym e) first)
    (λ e. subst (λ (l : List Command). AreFirst l asked) (sym e) refl)
    stays

-- the same from before the list was emptied
pub kept_first : (e s new : EngineState Listing) (asked : List AskedCommand)
    → s ≡ record e { disk = with_no_steps e.disk } → StaysAhead s new → AreFirst e.ahead asked
    → AreFirst new.ahead asked
kept_first e s new asked is stays first = first_stays s new asked stays
    (subst (λ (l : List Command). AreFirst l asked) (sym (ap (λ (t : EngineState Listing). t.ahead) is)) first)

-- ---- the calls of an engine

served_by : (accepted : Bool) (room : ℕ) (s new : EngineState Listing) (command : Command)
    (answer : Result Outcome Refusal) → is_accepted s.memory command ≡ accepted → s.room ≡ room
    → Answered s command answer new → s.failed ≡ false → StaysAhead s new
served_by false room s new command answer is e a f = inl (ap (λ (t : EngineState Listing). t.ahead)
    (a.unaccepted f is).1)
served_by true zero s new command answer is e a f = inl (ap (λ (t : EngineState Listing). t.ahead) (a.full f is e).1)
served_by true (suc n) s new command answer is e a f = ⊎_elim
    (λ l. inr (ap (λ (t : EngineState Listing). t.ahead) l.1))
    (λ r. inl (ap (λ (t : EngineState Listing). t.ahead) r.1))
    (a.put f is (omega arith))

pub served_ahead : (s new : EngineState Listing) (command : Command) (answer : Result Outcome Refusal)
    → Answered s command answer new → s.failed ≡ false → StaysAhead s new
served_ahead s new command answer a f = served_by (is_accepted s.memory command) s.room s new command answer refl refl
    a f

group_by : (put : List Command) (s new : EngineState Listing) (members : List Command) (answers : List Served)
    → commands_put s members ≡ put → CommandsAnswered s members answers new → s.failed ≡ false → StaysAhead s new
group_by [] s new members answers is a f = inl (ap (λ (t : EngineState Listing). t.ahead) (a.none f is).1)
group_by (c ∷ cs) s new members answers is a f = ⊎_elim
    (λ l. inr (ap (λ (t : EngineState Listing). t.ahead) l.1))
    (λ r. inl (ap (λ (t : EngineState Listing). t.ahead) r.1))
    (a.put f (omega (arith, ap (λ (l : List Command). length l) is)))

pub group_ahead : (s new : EngineState Listing) (members : List Command) (answers : List Served)
    → CommandsAnswered s members answers new → s.failed ≡ false → StaysAhead s new
group_ahead s new members answers a f = group_by (commands_put s members) s new members answers refl a f

pub turn_ahead : (s new : EngineState Listing) (answer : Result TurnDone Refusal) → TurnAnswered s answer new
    → s.failed ≡ false → StaysAhead s new
turn_ahead s new answer a f = ⊎_elim (λ l. inl l.2.ahead) (λ r. inl (ap (λ (t : EngineState Listing). t.ahead) r.1))
    (a.alive f)

pub sweep_ahead : (s new : EngineState Listing) (most : ℕ) (answer : Result ℕ Refusal)
    → SweepAnswered s most answer new → s.failed ≡ false → StaysAhead s new
sweep_ahead s new most answer a f = ⊎_elim
    (λ l. inl (ap (λ (t : EngineState Listing). t.ahead) l.1))
    (λ r. inl (ap (λ (t : EngineState Listing). t.ahead) r.1))
    (a.alive f)

-- ---- lists

pub map_take : {A B : Type 0} (f : A → B) (n : ℕ) (xs : List A) → map f (take n xs) ≡ take n (map f xs)
map_take f zero xs = refl
map_take f (suc n) [] = refl
map_take f (suc n) (x ∷ xs) = ap (λ l. f x ∷ l) (map_take f n xs)

pub map_drop : {A B : Type 0} (f : A → B) (n : ℕ) (xs : List A) → map f (drop n xs) ≡ drop n (map f xs)
map_drop f zero xs = refl
map_drop f (suc n) [] = refl
map_drop f (suc n) (x ∷ xs) = map_drop f n xs

-- the beginning of a beginning of a list begins the list
pub take_again : {A : Type 0} (m n : ℕ) (xs : List A) → take (length (take m (take n xs))) xs ≡ take m (take n xs)
take_again zero n xs = refl
take_again (suc m) zero xs = refl
take_again (suc m) (suc n) [] = refl
take_again (suc m) (suc n) (x ∷ xs) = ap (λ l. x ∷ l) (take_again m n xs)

pub drop_all : {A : Type 0} (xs ys : List A) → drop (length xs) (xs ++ ys) ≡ ys
drop_all [] ys = refl
drop_all (x ∷ xs) ys = drop_all xs ys

-- a slice from an index on is all that is behind it
pub take_rest : {A : Type 0} (n : ℕ) (xs : List A) → take (length xs - n) (drop n xs) ≡ drop n xs
take_rest zero [] = let e : 0 - 0 ≡ 0 = omega arith in ap (λ k. take k []) e
take_rest zero (x ∷ xs) =
    let e : suc (length xs) - 0 ≡ suc (length xs - 0) = omega arith in
    ap (λ k. take k (x ∷ xs)) e ∙ ap (λ l. x ∷ l) (take_rest zero xs)
take_rest (suc n) [] = let e : 0 - suc n ≡ 0 = omega arith in ap (λ k. take k []) e
take_rest (suc n) (x ∷ xs) =
    let e : suc (length xs) - suc n ≡ length xs - n = omega arith in
    ap (λ k. take k (drop n xs)) e ∙ take_rest n xs

pub append_again : {A : Type 0} (xs ys zs : List A) → (xs ++ ys) ++ zs ≡ xs ++ (ys ++ zs)
append_again [] ys zs = refl
append_again (x ∷ xs) ys zs = ap (λ l. x ∷ l) (append_again xs ys zs)

-- more behind a list that is long enough leaves its beginning
pub take_more : {A : Type 0} (n : ℕ) (xs ys : List A) → n ≤ length xs → take n (xs ++ ys) ≡ take n xs
take_more zero xs ys le = refl
take_more (suc n) [] ys le = absurd (omega (arith, le))
take_more (suc n) (x ∷ xs) ys le = ap (λ l. x ∷ l) (take_more n xs ys (omega (arith, le)))

pub length_take : {A : Type 0} (n : ℕ) (xs : List A) → length (take n xs) ≡ min n (length xs)
length_take zero xs = omega arith
length_take (suc n) [] = omega arith
length_take (suc n) (x ∷ xs) = let e = length_take n xs in omega (arith, e)

pub length_map : {A B : Type 0} (f : A → B) (xs : List A) → length (map f xs) ≡ length xs
length_map f [] = refl
length_map f (x ∷ xs) = ap (λ (n : ℕ). suc n) (length_map f xs)

pub take_min : {A : Type 0} (m : ℕ) (xs : List A) → take (min m (length xs)) xs ≡ take m xs
take_min zero xs = let e : min 0 (length xs) ≡ 0 = omega arith in ap (λ n. take n xs) e
take_min (suc m) [] = let e : min (suc m) 0 ≡ 0 = omega arith in ap (λ n. take n []) e
take_min (suc m) (x ∷ xs) =
    let e : min (suc m) (suc (length xs)) ≡ suc (min m (length xs)) = omega arith in
    ap (λ n. take n (x ∷ xs)) e ∙ ap (λ l. x ∷ l) (take_min m xs)

-- as many are asked as are ahead, or more
pub enough_asked : (ahead : List Command) (asked : List AskedCommand) → AreFirst ahead asked
    → length ahead ≤ length asked
enough_asked ahead asked first =
    let a = ap (λ (l : List Command). length l) first in
    let b = length_map (λ (x : AskedCommand). x.command) (take (length ahead) asked) in
    let c = length_take (length ahead) asked in
    omega (arith, a, b, c)

-- more is asked
pub first_of_more : (ahead : List Command) (asked more : List AskedCommand) → AreFirst ahead asked
    → AreFirst ahead (asked ++ more)
first_of_more ahead asked more first =
    ap (λ (l : List AskedCommand). commands_asked l)
    (take_more (length ahead) asked more (enough_asked ahead asked first)) ∙ first

-- ---- the chain

module _ (ahead : List Command) (asked rest : List AskedCommand) (told : List ToldAnswer) (answers : List Served)
    (first : AreFirst ahead asked) (order : asked ≡ asks_told told ++ rest) (are : answers_told told ≡ answers)
    (each : length answers ≡ length ahead) where
  as_many : length (asks_told told) ≡ length ahead
  as_many =
      length_map (λ (t : ToldAnswer). t.asked) told ∙ sym (length_map (λ (t : ToldAnswer). t.served) told)
      ∙ ap (λ (l : List Served). length l) are ∙ each

  pub told_first : commands_asked (asks_told told) ≡ ahead
  told_first =
      let xs = asks_told told in
      let whole : take (length xs) xs ≡ xs =
      let e : length xs ≡ length xs - 0 = omega arith in ap (λ k. take k xs) e ∙ take_rest 0 xs in
      ap (λ (l : List AskedCommand). commands_asked l)
      (sym (take_more (length xs) xs rest (omega arith) ∙ whole)
      ∙ ap (λ (n : ℕ). take n (asks_told told ++ rest)) as_many
      ∙ ap (λ (l : List AskedCommand). take (length ahead) l) (sym order)) ∙ first

  rest_is : rest ≡ drop (length ahead) asked
  rest_is =
      sym (drop_all (asks_told told) rest) ∙ ap (λ (n : ℕ). drop n (asks_told told ++ rest)) as_many
      ∙ ap (λ (l : List AskedCommand). drop (length ahead) l) (sym order)

  -- the next ones that are put ahead are the first of the rest
  pub next_first : (many : ℕ) (new : List Command)
      → new ≡ take many (take MAX_GROUP (drop (length ahead) (commands_asked asked))) → AreFirst new rest
  next_first many new is =
      let f = λ (x : AskedCommand). x.command in
      let behind : commands_asked rest ≡ drop (length ahead) (commands_asked asked) =
      ap (λ (l : List AskedCommand). commands_asked l) rest_is ∙ map_drop f (length ahead) asked in
      let now : new ≡ take many (take MAX_GROUP (commands_asked rest)) =
      is ∙ ap (λ (l : List Command). take many (take MAX_GROUP l)) (sym behind) in
      map_take f (length new) rest ∙ ap (λ (l : List Command). take (length l) (commands_asked rest)) now
      ∙ take_again many MAX_GROUP (commands_asked rest) ∙ sym now

-- what can be put ahead next, by the first commands of those behind
pub next_is : (ahead : ℕ) (asked : List AskedCommand) (next : List Command)
    → next ≡ take (length next) (commands_asked (drop ahead asked))
    → length next ≡ min MAX_GROUP (length (drop ahead asked))
    → next ≡ take MAX_GROUP (drop ahead (commands_asked asked))
next_is ahead asked next first count =
    let f = λ (x : AskedCommand). x.command in
    let zs = commands_asked (drop ahead asked) in
    let many : length next ≡ min MAX_GROUP (length zs) =
    count ∙ ap (λ (n : ℕ). min MAX_GROUP n) (sym (length_map f (drop ahead asked))) in
    first ∙ ap (λ (n : ℕ). take n zs) many ∙ take_min MAX_GROUP zs
    ∙ ap (λ (l : List Command). take MAX_GROUP l) (map_drop f ahead asked)

length_answers : (m : Contents) (left : ℕ) (members : List Command)
    → length (answers_with m left members) ≡ length members
length_answers m left [] = refl
length_answers m left (c ∷ cs) =
    ap (λ (n : ℕ). suc n) (length_answers (contents_with m left c) (places_behind m left c) cs)

-- each that was ahead has an answer
pub told_all : (s new : EngineState Listing) (next : List Command) (result : Result ℕ Refusal) (answers : List Served)
    → Advances s next result answers new → s.failed ≡ false → length answers ≡ length s.ahead
told_all s new next result answers a f = ⊎_elim
    (λ l. ap (λ (x : List Served). length x) l.2
    ∙ length_map as_served (answers_with s.memory (places s.count s.room) s.ahead)
    ∙ length_answers s.memory (places s.count s.room) s.ahead)
    (λ r. ap (λ (x : List Served). length x) r.1 ∙ length_map (λ (c : Command). Refused Device) s.ahead)
    (a.alive f)

-- what is ahead behind the call is the first of what is still asked
pub chain_first : (e s new : EngineState Listing) (asked rest : List AskedCommand) (told : List ToldAnswer)
    (answers : List Served) (next : List Command) (result : Result ℕ Refusal)
    → s ≡ record e { disk = with_no_steps e.disk } → s.failed ≡ false → AreFirst e.ahead asked
    → asked ≡ asks_told told ++ rest → answers_told told ≡ answers
    → next ≡ take MAX_GROUP (drop (length e.ahead) (commands_asked asked)) → Advances s next result answers new
    → AreFirst new.ahead rest
chain_first e s new asked rest told answers next result emptied f first order are is a =
    let each : length answers ≡ length e.ahead =
    told_all s new next result answers a f ∙ ap (λ (t : EngineState Listing). length t.ahead) emptied in
    ⊎_elim
    (λ l. next_first e.ahead asked rest told answers first order are each l.0 new.ahead
    (ap (λ (t : EngineState Listing). t.ahead) l.3 ∙ ap (λ (x : List Command). take l.0 x) is))
    (λ r. subst (λ (x : List Command). AreFirst x rest) (sym (ap (λ (t : EngineState Listing). t.ahead) r.2)) refl)
    (a.alive f)

-- ---- where there is no place

none_at : (m : Contents) (cs : List Command) → commands_at m 0 cs ≡ []
none_at m [] = refl
none_at m (c ∷ cs) = by_test (is_accepted m c && nat_lt 0 0) (and_false (is_accepted m c)) (none_at m cs)
  where
    by_test : (t : Bool) → t ≡ false → commands_at m 0 cs ≡ []
        → (if t then c ∷ [] else [])
        ++ commands_at (if t then (step m c).contents else m) (if t then 0 - 1 else 0) cs ≡ []
    by_test true e none = absurd (true_false e)
    by_test false e none = none

-- commands are answered one after another, and the engine stays
pub answered_stays : (s new : EngineState Listing) (members : List Command) (answers : List Served)
    → places s.count s.room ≡ 0 → s.failed ≡ false → CommandsAnswered s members answers new
    → (answers ≡ answers_in_turn s members) × (new ≡ s)
answered_stays s new members answers none f a = a.none f
    (ap (λ (n : ℕ). commands_at s.memory n members) none ∙ none_at s.memory members)

pub none_ahead : (ahead : List Command) → (length ahead == 0) ≡ true → ahead ≡ []
none_ahead [] e = refl
none_ahead (c ∷ cs) e = let some = eq_by_test (length (c ∷ cs)) 0 e in absurd (omega (arith, some))

-- what is known of the first that is asked, if it is answered alone
pub record IsAlone (asked : List AskedCommand) (first : List Command) (told : List ToldAnswer)
    (answers : List Served) : Type 0 where
  pub served : take (length answers) first ≡ first
  pub commands : commands_asked (asks_told told) ≡ first
  pub one : length told ≡ min 1 (length asked)

pub alone : (m : Contents) (put first : List Command) (asked rest : List AskedCommand) (told : List ToldAnswer)
    (answers : List Served) → first ≡ take (length first) (commands_asked asked)
    → length first ≡ min 1 (min MAX_GROUP (length asked)) → ServesPrefix m put first (length answers)
    → asked ≡ asks_told told ++ rest → answers_told told ≡ answers → IsAlone asked first told answers
alone m put first asked rest told answers are count begins order is =
    let as_many : length answers ≡ length first = one (length answers) (length first) (length asked) count begins.within
    begins.some in
    record {
      served = take_all (length answers) first (omega (arith, as_many));
      commands = told_first first asked rest told answers
          (map_take (λ (x : AskedCommand). x.command) (length first) asked ∙ sym are) order is as_many;
      one = sym (length_map (λ (t : ToldAnswer). t.served) told) ∙ ap (λ (l : List Served). length l) is
          ∙ omega (arith, as_many, count);
    }
  where
    one : (many most asked : ℕ) → most ≡ min 1 (min MAX_GROUP asked) → many ≤ most → (0 < most → 0 < many)
        → many ≡ most
    one many zero asked count within some = omega (arith, within)
    one many (suc most) asked count within some =
        let more = some (omega arith) in omega (arith, count, within, more)
