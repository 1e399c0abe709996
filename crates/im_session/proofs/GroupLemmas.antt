-- What the members of a group acknowledge.
use Rattle.std.proofs.Common.{◌≡◌, ℕ, zero, suc, ◌<◌, Bool, true, false, not, ◌&&◌, ◌||◌, List, [], ◌∷◌, ◌++◌, map}
use Rattle.std.proofs.Common.{length, if◌then◌else◌, nat_lt, ◌==◌, Ok, Err, Result, sym, refl, ap, ◌∙◌, ap₂, ⊎_elim}
use Rattle.std.proofs.Common.{arith}
use Rattle.arrayvec.specs.ArrayVec.{ArrayVec}
use Rattle.std.proofs.lemmas.Bool.Decides.{nat_tests}
use Rattle.im_types.specs.Types.{Request, Command, Outcome, Asks, Served, Refusal, JournalFull, Device, Failed}
use Rattle.im_types.specs.Types.{Contents, step, is_accepted, after, as_served, is_new, is_put, with_request, answer_of}
use Rattle.im_types.specs.Types.{reached_by_one, answers_of, puts_of, Reached}
use Rattle.im_laws.proofs.Tests.{true_false, true_or_false}
use Rattle.im_groups.proofs.EnoughLemmas.{enough-commands}
use Rattle.im_groups.specs.Commands.{answer_with, answers_with, command_at, commands_at, contents_with, places}
use Rattle.im_groups.specs.Commands.{places_behind, takes_place}
use Rattle.im_engine.proofs.{Accepting.accepted_answers, Accepting.Answers, StepFaults.step-no_device}
use Rattle.im_engine.specs.{Answered.is_device, Chain.Advances, State.EngineState}
use Rattle.im_engine.specs.Commands.{commands_put, each_refused}
use Rattle.im_engine.specs.Groups.{all_refused, answers_in, group_put, GroupAnswered, reached_in}
use Rattle.im_session.{proofs.ServedLemmas.unsure, specs.Put.doubted_of, specs.Put.sure_by, specs.Put.sure_of}
use Rattle.im_session.specs.{declared.events.Answer.TheVariants.Advanced, Serving.served_answer}
use Rattle.im_session.specs.Events.{acknowledged_members, has_device, is_fault, reached_at, says_device}

pub one_command : (m : Contents) (left : ℕ) (c : Command) → sure_by m c (answer_with m left c) ≡ command_at m left c
one_command m left c = by_new (is_accepted m c) refl
  where
    by_room : (none some : Bool) → (left == 0) ≡ none → nat_lt 0 left ≡ some → none
        ≡ (if some then false else true) → is_accepted m c ≡ true
        → sure_by m c (answer_with m left c) ≡ command_at m left c
    by_room true false none some same new =
        let back : true ≡ is_accepted m c = sym new in
        let more : false ≡ nat_lt 0 left = sym some in
        (λ i. sure_by m c (if new i && none i then Err JournalFull else (step m c).answer))
        ∙ (λ i. if back i && more i then c ∷ [] else [])
    by_room false true none some same new =
        let back : true ≡ is_accepted m c = sym new in
        let more : true ≡ nat_lt 0 left = sym some in
        let answers : Answers (step m c).answer = accepted_answers m c new in
        (λ i. sure_by m c (if new i && none i then Err JournalFull else (step m c).answer))
        ∙ ap (λ (a : Result Outcome Refusal). sure_by m c a) answers.1
        ∙ ap (λ (b : Bool). if b then c ∷ [] else []) new
        ∙ (λ i. if back i && more i then c ∷ [] else [])
    by_room true true none some same new = absurd (cc)
    by_room false false none some same new = absurd (cc)

    tests : (n : ℕ) → (n == 0) ≡ (if nat_lt 0 n then false else true)
    tests zero = refl
    tests (suc n) = grind (arith, nat_tests)

    by_new : (b : Bool) → is_accepted m c ≡ b → sure_by m c (answer_with m left c) ≡ command_at m left c
    by_new true new = by_room (left == 0) (nat_lt 0 left) refl refl (tests left) new
    by_new false old = unsure m c (answer_with m left c) old
        ∙ ap (λ (b : Bool). if b && nat_lt 0 left then c ∷ [] else []) (sym old)

after_command : (m : Contents) (left : ℕ) (c : Command) → after m (command_at m left c) ≡ contents_with m left c
after_command m left c = by_test (takes_place m left c)
  where
    by_test : (b : Bool) → after m (if b then c ∷ [] else []) ≡ (if b then (step m c).contents else m)
    by_test true = refl
    by_test false = refl

pub served_back : (a : Result Outcome Refusal) → served_answer (as_served a) ≡ a
served_back (Ok outcome) = refl
served_back (Err refusal) = refl

pub acknowledged-commands : (m : Contents) (left : ℕ) (cs : List Command)
    → acknowledged_members m cs (map as_served (answers_with m left cs)) ≡ commands_at m left cs
acknowledged-commands m left [] = refl
acknowledged-commands m left (c ∷ cs) =
    ap (λ (a : Result Outcome Refusal). sure_by m c a ++ acknowledged_members (after m (sure_by m c a)) cs
    (map as_served (answers_with (contents_with m left c) (places_behind m left c) cs)))
    (served_back (answer_with m left c))
    ∙ ap (λ (l : List Command). l ++ acknowledged_members (after m l) cs
    (map as_served (answers_with (contents_with m left c) (places_behind m left c) cs))) (one_command m left c)
    ∙ ap (λ (n : Contents). command_at m left c ++ acknowledged_members n cs
    (map as_served (answers_with (contents_with m left c) (places_behind m left c) cs))) (after_command m left c)
    ∙ ap (λ (l : List Command). command_at m left c ++ l)
    (acknowledged-commands (contents_with m left c) (places_behind m left c) cs)

-- ---- the same of a group of requests, by the room

-- the command that a member puts on the disk
abbrev put_by_one : Reached → Request → List Command
put_by_one s r = command_at s.contents s.room (Asks r)

one_after : (s : Reached) (r : Request) → after s.contents (put_by_one s r) ≡ (reached_by_one s r).contents
one_after s r = by_test (is_put s r)
  where
    by_test : (b : Bool) → after s.contents (if b then Asks r ∷ [] else [])
        ≡ (if b then with_request s r else s).contents
    by_test true = refl
    by_test false = refl

pub acknowledged-puts : (s : Reached) (members : List Request)
    → acknowledged_members s.contents (map Asks members) (map as_served (answers_of s members)) ≡ puts_of s members
acknowledged-puts s [] = refl
acknowledged-puts s (r ∷ rs) =
    ap (λ (a : Result Outcome Refusal). sure_by s.contents (Asks r) a
    ++ acknowledged_members (after s.contents (sure_by s.contents (Asks r) a)) (map Asks rs)
    (map as_served (answers_of (reached_by_one s r) rs))) (served_back (answer_of s r))
    ∙ ap (λ (l : List Command). l ++ acknowledged_members (after s.contents l) (map Asks rs)
    (map as_served (answers_of (reached_by_one s r) rs))) (one_command s.contents s.room (Asks r))
    ∙ ap (λ (m : Contents). put_by_one s r ++ acknowledged_members m (map Asks rs)
    (map as_served (answers_of (reached_by_one s r) rs))) (one_after s r)
    ∙ ap (λ (l : List Command). put_by_one s r ++ l) (acknowledged-puts (reached_by_one s r) rs)

-- ---- who tells of a failure

answer_tells_none : (a : Result Outcome Refusal) → ((e : Refusal) → a ≡ Err e → is_device e ≡ false)
    → says_device (as_served a) ≡ false
answer_tells_none (Ok outcome) low = refl
answer_tells_none (Err e) low = low e refl

one_tells_none : (s : Reached) (r : Request) → says_device (as_served (answer_of s r)) ≡ false
one_tells_none s r = by_test (is_new s r && (s.room == 0))
  where
    by_test : (b : Bool) → says_device (as_served (if b then Err JournalFull else (step s.contents (Asks r)).answer))
        ≡ false
    by_test true = refl
    by_test false = answer_tells_none (step s.contents (Asks r)).answer (step-no_device s.contents (Asks r))

pub answers-no_device : (s : Reached) (members : List Request) → has_device (map as_served (answers_of s members))
    ≡ false
answers-no_device s [] = refl
answers-no_device s (r ∷ rs) =
    ap (λ (b : Bool). b || has_device (map as_served (answers_of (reached_by_one s r) rs))) (one_tells_none s r)
    ∙ answers-no_device (reached_by_one s r) rs

pub refused_ahead-none : (m : Contents) (refusal : Refusal) (cs : List Command)
    → acknowledged_members m cs (each_refused refusal cs) ≡ []
refused_ahead-none m refusal [] = refl
refused_ahead-none m refusal (c ∷ cs) = refused_ahead-none m refusal cs

pub refused-none : (m : Contents) (refusal : Refusal) (members : List Request)
    → acknowledged_members m (map Asks members) (all_refused refusal members) ≡ []
refused-none m refusal [] = refl
refused-none m refusal (r ∷ rs) = refused-none m refusal rs

pub some-device : (s : Reached) (members : List Request) → 0 < length (puts_of s members)
    → has_device (all_refused Device members) ≡ true
some-device s [] some = absurd (omega (arith, some))
some-device s (r ∷ rs) some = refl

pub failed-no_device : (members : List Request) → has_device (all_refused Failed members) ≡ false
failed-no_device [] = refl
failed-no_device (r ∷ rs) = failed-no_device rs

-- ---- when an engine fails

-- it is said exactly if the engine fails now, and an engine that has failed stays so
abbrev pub FailsBy : Bool → Bool → Bool → Type 0
FailsBy said old new = (said ≡ (new && not old)) × (old ≡ true → new ≡ true)

pub same_fails : (said old new : Bool) → said ≡ false → new ≡ old → FailsBy said old new
same_fails said true new none same = (none ∙ sym (ap (λ (b : Bool). b && not true) same), λ t. same)
same_fails said false new none same = (
  none ∙ sym (ap (λ (b : Bool). b && not false) same),
  λ t. absurd (true_false (sym t)),
)

pub lost_fails : (said old new : Bool) → said ≡ true → old ≡ false → new ≡ true → FailsBy said old new
lost_fails said old new is f dead = (is ∙ sym (ap₂ (λ (n o : Bool). n && not o) dead f), λ t. dead)

-- ---- a group, as a session puts it

module _ {D : Type 0} (old new : EngineState D) (members : List Request) (served : List Served) (room : ℕ)
    (it : GroupAnswered old members served new) (same_room : room ≡ old.room) where
  abbrev cs : List Command
  cs = group_put old members

  abbrev doubted : List Command
  doubted = if has_device served then puts_of (reached_at old.memory old.count room) members else []

  -- what is acknowledged of it, and what is in doubt
  pub record GroupPuts : Type 0 where
    pub sure : sure_of new.failed cs ≡ acknowledged_members old.memory (map Asks members) served
    pub doubt : doubted_of old.failed new.failed cs ≡ doubted
    pub fails : FailsBy (has_device served) old.failed new.failed

  undoubted : has_device served ≡ false → doubted ≡ []
  undoubted none = ap (λ (b : Bool). if b then puts_of (reached_at old.memory old.count room) members else []) none

  told : served ≡ answers_in old members → old.failed ≡ false → new.failed ≡ false → GroupPuts
  told is f works = record {
    sure = ap (λ (b : Bool). sure_of b cs) works ∙ sym (acknowledged-puts (reached_in old) members)
        ∙ ap (λ (l : List Served). acknowledged_members old.memory (map Asks members) l) (sym is);
    doubt = ap (λ (b : Bool). doubted_of old.failed b cs) works
        ∙ sym (undoubted (ap has_device is ∙ answers-no_device (reached_in old) members));
    fails = same_fails (has_device served) old.failed new.failed
        (ap has_device is ∙ answers-no_device (reached_in old) members) (works ∙ sym f);
  }

  lost : 0 < length cs → served ≡ all_refused Device members → old.failed ≡ false → new.failed ≡ true → GroupPuts
  lost some is f dead = record {
    sure = ap (λ (b : Bool). sure_of b cs) dead ∙ sym (refused-none old.memory Device members)
        ∙ ap (λ (l : List Served). acknowledged_members old.memory (map Asks members) l) (sym is);
    doubt = ap₂ (λ (b n : Bool). doubted_of b n cs) f dead
        ∙ ap (λ (k : ℕ). puts_of (reached_at old.memory old.count k) members) (sym same_room)
        ∙ ap (λ (b : Bool). if b then puts_of (reached_at old.memory old.count room) members else [])
        (sym (ap has_device is ∙ some-device (reached_in old) members some));
    fails = lost_fails (has_device served) old.failed new.failed
        (ap has_device is ∙ some-device (reached_in old) members some) f dead;
  }

  by_put : (put : List Command) → group_put old members ≡ put → old.failed ≡ false → GroupPuts
  by_put [] none f = let is = it.none f none in told is.0 f (ap (λ (s : EngineState D). s.failed) is.1 ∙ f)
  by_put (command ∷ commands) is f =
      let some : 0 < length (group_put old members) = omega (arith, ap length is) in
      ⊎_elim
      (λ done. told done.0 f (ap (λ (s : EngineState D). s.failed) done.1 ∙ f))
      (λ fault. lost some fault.0 f (ap (λ (s : EngineState D). s.failed) fault.1))
      (it.put f some)

  pub group_puts : GroupPuts
  group_puts = ⊎_elim
      (λ dead. let is = it.dead dead in
      let gone : new.failed ≡ true = ap (λ (s : EngineState D). s.failed) is.1 ∙ dead in record {
        sure = ap (λ (b : Bool). sure_of b cs) gone ∙ sym (refused-none old.memory Failed members)
            ∙ ap (λ (l : List Served). acknowledged_members old.memory (map Asks members) l) (sym is.0);
        doubt = ap₂ (λ (b n : Bool). doubted_of b n cs) dead gone
            ∙ sym (undoubted (ap has_device is.0 ∙ failed-no_device members));
        fails = same_fails (has_device served) old.failed new.failed (ap has_device is.0 ∙ failed-no_device members)
            (gone ∙ sym dead);
      })
      (λ f. by_put (group_put old members) refl f)
      (true_or_false old.failed)

-- ---- a group that was ahead

module _ {D : Type 0} (old new : EngineState D) (next : List Command) (ahead : ArrayVec Command)
    (result : Result ℕ Refusal) (served : ArrayVec Served) (are : ahead.items ≡ old.ahead)
    (it : Advances old next result served.items new) where
  abbrev were : List Command
  were = commands_put old old.ahead

  abbrev lost_ahead : List Command
  lost_ahead = if is_fault (Advanced ahead result served) then commands_at old.memory (length ahead.items) ahead.items
      else []

  -- what is acknowledged of it, and what is in doubt
  pub record AheadPuts : Type 0 where
    pub sure : sure_of new.failed were ≡ acknowledged_members old.memory ahead.items served.items
    pub doubt : doubted_of old.failed new.failed were ≡ lost_ahead
    pub fails : FailsBy (is_fault (Advanced ahead result served)) old.failed new.failed

  -- there is a place for each of its members
  all_there : commands_at old.memory (length ahead.items) ahead.items ≡ were
  all_there = ap (λ (l : List Command). commands_at old.memory (length l) l) are
      ∙ enough-commands old.memory (length old.ahead) (places old.count old.room) old.ahead (omega arith) it.enough

  told_by : (r : Result ℕ Refusal) → result ≡ r
      → is_fault (Advanced ahead result served) ≡ is_fault (Advanced ahead r served)
  told_by r is = ap (λ (x : Result ℕ Refusal). is_fault (Advanced ahead x served)) is

  lost_by : (b : Bool) → is_fault (Advanced ahead result served) ≡ b
      → lost_ahead ≡ (if b then commands_at old.memory (length ahead.items) ahead.items else [])
  lost_by b is = ap (λ (x : Bool). if x then commands_at old.memory (length ahead.items) ahead.items else []) is

  put_by : (answers : List Served) → served.items ≡ answers
      → acknowledged_members old.memory ahead.items served.items ≡ acknowledged_members old.memory old.ahead answers
  put_by answers is = (λ i. acknowledged_members old.memory (are i) (is i))

  ahead_refused : (e : Refusal) → served.items ≡ each_refused e old.ahead
      → [] ≡ acknowledged_members old.memory ahead.items served.items
  ahead_refused e is = sym (put_by (each_refused e old.ahead) is ∙ refused_ahead-none old.memory e old.ahead)

  pub ahead_puts : AheadPuts
  ahead_puts = ⊎_elim
      (λ dead. let is = it.dead dead in
      let gone : new.failed ≡ true = ap (λ (s : EngineState D). s.failed) is.2 ∙ dead in record {
        sure = ap (λ (b : Bool). sure_of b were) gone ∙ ahead_refused Failed is.1;
        doubt = ap₂ (λ (b n : Bool). doubted_of b n were) dead gone ∙ sym (lost_by false (told_by (Err Failed) is.0));
        fails = same_fails (is_fault (Advanced ahead result served)) old.failed new.failed (told_by (Err Failed) is.0)
            (gone ∙ sym dead);
      })
      (λ f. ⊎_elim
      (λ done.
      let works : new.failed ≡ false = ap (λ (s : EngineState D). s.failed) done.3 ∙ f in record {
        sure = ap (λ (b : Bool). sure_of b were) works
            ∙ sym (put_by (map as_served (answers_with old.memory (places old.count old.room) old.ahead)) done.2
            ∙ acknowledged-commands old.memory (places old.count old.room) old.ahead);
        doubt = ap (λ (b : Bool). doubted_of old.failed b were) works
            ∙ sym (lost_by false (told_by (Ok done.0) done.1));
        fails = same_fails (is_fault (Advanced ahead result served)) old.failed new.failed
            (told_by (Ok done.0) done.1) (works ∙ sym f);
      })
      (λ fault.
      let dead : new.failed ≡ true = ap (λ (s : EngineState D). s.failed) fault.2 in record {
        sure = ap (λ (b : Bool). sure_of b were) dead ∙ ahead_refused Device fault.1;
        doubt = ap₂ (λ (b n : Bool). doubted_of b n were) f dead ∙ sym all_there
            ∙ sym (lost_by true (told_by (Err Device) fault.0));
        fails = lost_fails (is_fault (Advanced ahead result served)) old.failed new.failed
            (told_by (Err Device) fault.0) f dead;
      })
      (it.alive f))
      (true_or_false old.failed)
