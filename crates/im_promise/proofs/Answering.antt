-- How the events of a run were answered, and what is in doubt of them.
use Rattle.std.proofs.Common.{◌≡◌, ℕ, zero, suc, ◌+◌, ◌<◌, ◌≤◌, max, Bool, true, false, ◌&&◌, ◌⊎◌, List, [], ◌∷◌, ◌++◌}
use Rattle.std.proofs.Common.{map, length, take, IfOk, if◌then◌else◌, IsOk, IsTrue, Ok, Err, Result, sym, refl, ap, ◌∙◌}
use Rattle.std.proofs.Common.{subst, inl, inr, ⊎_elim, arith, length-append, length-take}
use Rattle.arrayvec.specs.ArrayVec.{ArrayVec}
use Rattle.std.proofs.lemmas.List.{length-map}
use Rattle.im_types.specs.Types.{Request, Command, Outcome, Asks, Served as ServedMember, Refusal, Device, Failed}
use Rattle.im_types.specs.Types.{Contents, step, is_accepted, after, as_served, answers_of, reached_by_all, puts_of}
use Rattle.im_types.specs.Types.{Reached}
use Rattle.im_journal.specs.Holding.{ahead_after}
use Rattle.im_groups.proofs.{CommandLemmas.at-after, EnoughLemmas.at_most_members, EnoughLemmas.enough-answers}
use Rattle.im_groups.specs.Commands.{answers_with, commands_at, places}
use Rattle.{im_checkpoint.specs.declared.TurnDone.TurnDone, im_engine.proofs.Members.puts_few}
use Rattle.im_engine.specs.Answered.{Answered, is_device, SweepAnswered, TurnAnswered}
use Rattle.im_engine.specs.{Chain.Advances, Chain.TakesNext, State.EngineState, State.with_command}
use Rattle.im_engine.specs.Commands.{after_commands, answers_in_turn, commands_put, each_refused}
use Rattle.im_engine.specs.Groups.{after_group, all_refused, answers_in, group_put, GroupAnswered, reached_in}
use Rattle.im_session.proofs.{EventLemmas.by_event, ServedLemmas.not_device, ServedLemmas.unsure}
use Rattle.im_session.proofs.GroupLemmas.{acknowledged-commands, refused-none}
use Rattle.im_session.specs.{declared.Answer.Answer, declared.Event.Event, Put.doubted_by}
use Rattle.im_session.specs.declared.Answer.TheVariants.{Advanced, Grouped, Served as Told, Swept as DidSweep}
use Rattle.im_session.specs.declared.Answer.TheVariants.{Turned as TookTurn}
use Rattle.im_session.specs.declared.Event.TheVariants.{Ahead, Command as Serve, Group as Together, Sweep, Turn}
use Rattle.im_session.specs.Events.{acknowledged_by, acknowledged_members, AnsweredInTurn, EventAnswered, has_device}
use Rattle.im_session.specs.Events.{in_doubt, in_doubt_by, is_fault, reached_at}
use Rattle.im_promise.specs.Acknowledged.{ahead_by, AreAnswers, calls_in_doubt, is_doubt, IsAnswer, IsFailed, most_of}
use Rattle.im_promise.specs.Acknowledged.{most_of_one, NamesAhead}

bool_cases : (b : Bool) → (b ≡ true) ⊎ (b ≡ false)
bool_cases true = inl refl
bool_cases false = inr refl

pub none_or_some : (n : ℕ) → (n ≡ 0) ⊎ (0 < n)
none_or_some zero = inl refl
none_or_some (suc n) = inr (omega arith)

none_by : (m : Contents) (c : Command) (a : Result Outcome Refusal) → is_doubt (Told a) ≡ false → doubted_by m c a ≡ []
none_by m c (Ok o) is = refl
none_by m c (Err e) is = not_device m c e is

one_at_most : (c : Command) (b : Bool) → length (if b then c ∷ [] else []) ≤ 1
one_at_most c true = omega arith
one_at_most c false = omega arith

one_by : (m : Contents) (c : Command) (a : Result Outcome Refusal) → length (doubted_by m c a) ≤ 1
one_by m c (Ok o) = omega arith
one_by m c (Err e) = one_at_most c (is_accepted m c && is_device e)

no_more : {X : Type 0} (xs ys : List X) → xs ≡ [] → ys ≡ [] → xs ++ ys ≡ []
no_more xs ys none rest = ap (λ l. l ++ ys) none ∙ rest

ok_of : (a : Result Outcome Refusal) → IsOk a → (o : Outcome) × (a ≡ Ok o)
ok_of (Ok o) ok = (o, refl)
ok_of (Err e) ok = absurd (cc)

pub is_true : (b : Bool) → b ≡ true → IsTrue b
is_true true e = refl
is_true false e = absurd (cc)

-- what is known of steps and groups
pub record Known : Type 0 where
  pub ok : (m : Contents) (c : Command) → IsTrue (is_accepted m c) → IsOk (step m c).answer
  pub step : (m : Contents) (c : Command) (e : Refusal) → (step m c).answer ≡ Err e → is_device e ≡ false
  pub memory : (s : Reached) (members : List Request)
      → (reached_by_all s members).contents ≡ after s.contents (puts_of s members)
  pub count : (s : Reached) (members : List Request)
      → (reached_by_all s members).count ≡ s.count + length (puts_of s members)
  pub put : (s : Reached) (members : List Request)
      → acknowledged_members s.contents (map Asks members) (map as_served (answers_of s members)) ≡ puts_of s members
  pub works : (s : Reached) (members : List Request) → has_device (map as_served (answers_of s members)) ≡ false
  pub fault : (s : Reached) (members : List Request) → 0 < length (puts_of s members)
      → has_device (all_refused Device members) ≡ true
  pub dead : (members : List Request) → has_device (all_refused Failed members) ≡ false

-- ---- once the engine has failed

record IsOver (m : Contents) (n : ℕ) (ahead : List Command) (events : List Event) (answers : List Answer) : Type 0 where
  pub calls_none : calls_in_doubt answers ≡ 0
  pub doubt_none : in_doubt m n events answers ≡ []
  pub answered : AreAnswers true m n ahead events answers

-- an answer with no doubt, before others with none
no_call : (b : Bool) (n : ℕ) → b ≡ false → n ≡ 0 → (if b then 1 else 0) + n ≡ 0
no_call true n is none = absurd (cc)
no_call false n is none = omega (arith, none)

module _ (known : Known) where
  over_more : (e : Event) (a : Answer) (events : List Event) (answers : List Answer) (m : Contents) (n : ℕ)
      (ahead : List Command) → is_doubt a ≡ false → in_doubt_by m n e a ≡ [] → IsFailed e a → NamesAhead ahead a
      → ((k : Contents) (j : ℕ) → IsOver k j ahead events answers) → IsOver m n ahead (e ∷ events) (a ∷ answers)
  over_more e a events answers m n ahead sure none failed named rest = record {
    calls_none = no_call (is_doubt a) (calls_in_doubt answers) sure (rest m n).calls_none;
    doubt_none =
        no_more (in_doubt_by m n e a)
        (in_doubt (after m (acknowledged_by m e a)) (n + length (acknowledged_by m e a)) events answers) none
        (rest (after m (acknowledged_by m e a)) (n + length (acknowledged_by m e a))).doubt_none;
    answered = (failed, named, (rest m n).answered);
  }

  -- an event of an engine that has failed
  record IsPast {D : Type 0} (old mid : EngineState D) (e : Event) (a : Answer) : Type 0 where
    pub sure : is_doubt a ≡ false
    pub none : (m : Contents) (n : ℕ) → in_doubt_by m n e a ≡ []
    pub failed : IsFailed e a
    pub named : NamesAhead old.ahead a
    pub same : mid ≡ old

  past : {D : Type 0} (old mid : EngineState D) (e : Event) (a : Answer) → old.failed ≡ true → EventAnswered old e a mid
      → IsPast old mid e a
  past {D} old mid e a dead it = by_event old mid (IsPast old mid)
      (λ c x one. let is = one.dead dead in
      let sure = ap (λ (y : Result Outcome Refusal). is_doubt (Told y)) is.0 in record {
        sure = sure;
        none = λ m n. none_by m c x sure;
        failed = is.0;
        named = tt;
        same = is.1;
      })
      (λ members room served same one. let is = one.dead dead in
      let sure : has_device served.items ≡ false = ap has_device is.0 ∙ known.dead members in record {
        sure = sure;
        none = λ m n. ap (λ (b : Bool). if b then puts_of (reached_at m n room) members else []) sure;
        failed = is.0;
        named = tt;
        same = is.1;
      })
      (λ members were result served are one takes. let is = one.dead dead in
      let sure = ap (λ (y : Result ℕ Refusal). is_doubt (Advanced were y served)) is.0 in
      let calm = ap (λ (y : Result ℕ Refusal). is_fault (Advanced were y served)) is.0 in record {
        sure = sure;
        none = λ m n. ap (λ (b : Bool). if b then commands_at m (length were.items) were.items else []) calm;
        failed = (is.0, is.1 ∙ ap (λ (l : List Command). each_refused Failed l) (sym are));
        named = are;
        same = is.2;
      })
      (λ x one. let is = one.dead dead in record {
        sure = refl;
        none = λ m n. refl;
        failed = is.0;
        named = tt;
        same = is.1;
      })
      (λ most x one. let is = one.dead dead in record {
        sure = refl;
        none = λ m n. refl;
        failed = is.0;
        named = tt;
        same = is.1;
      }) e a it

  over : {D : Type 0} (old new : EngineState D) (events : List Event) (answers : List Answer) → old.failed ≡ true
      → AnsweredInTurn old events answers new → (m : Contents) (n : ℕ) → IsOver m n old.ahead events answers
  over old new [] [] dead it m n = record { calls_none = refl; doubt_none = refl; answered = tt }
  over old new [] (a ∷ answers) dead it m n = absurd it
  over old new (e ∷ events) [] dead it m n = absurd it
  over {D} old new (e ∷ events) (a ∷ answers) dead (mid, one, rest) m n =
      let is = past old mid e a dead one in
      over_more e a events answers m n old.ahead is.sure (is.none m n) is.failed is.named
      (subst (λ (s : EngineState D). (k : Contents) (j : ℕ) → IsOver k j s.ahead events answers) is.same
      (over mid new events answers (ap (λ (s : EngineState D). s.failed) is.same ∙ dead) rest))

-- ---- as long as it works

pub record AreTold (m : Contents) (n : ℕ) (ahead : List Command) (events : List Event) (answers : List Answer)
    : Type 0 where
  pub one : calls_in_doubt answers ≤ 1
  pub few : length (in_doubt m n events answers) ≤ max (length ahead) (most_of_one events)
  pub answered : AreAnswers false m n ahead events answers

-- the event leaves nothing in doubt
record GoesOn {D : Type 0} (old mid : EngineState D) (e : Event) (a : Answer) : Type 0 where
  pub works : mid.failed ≡ false
  pub memory : mid.memory ≡ after old.memory (acknowledged_by old.memory e a)
  pub count : mid.count ≡ old.count + length (acknowledged_by old.memory e a)
  pub ahead : mid.ahead ≡ ahead_by old.memory old.ahead e a
  pub no_more : length mid.ahead ≤ max (length old.ahead) (most_of e)
  pub sure : is_doubt a ≡ false
  pub none : in_doubt_by old.memory old.count e a ≡ []
  pub answer : IsAnswer old.memory old.count e a
  pub named : NamesAhead old.ahead a
  pub calm : is_fault a ≡ false

-- the disk failed in it
record Fails {D : Type 0} (old mid : EngineState D) (e : Event) (a : Answer) : Type 0 where
  pub dead : mid.failed ≡ true
  pub ahead : mid.ahead ≡ ahead_by old.memory old.ahead e a
  pub few : length (in_doubt_by old.memory old.count e a) ≤ max (length old.ahead) (most_of e)
  pub answer : IsAnswer old.memory old.count e a
  pub named : NamesAhead old.ahead a
  pub fault : is_fault a ≡ true

no_call_more : (b : Bool) (n : ℕ) → b ≡ false → n ≤ 1 → (if b then 1 else 0) + n ≤ 1
no_call_more true n is few = absurd (cc)
no_call_more false n is few = omega (arith, few)

one_call : (b : Bool) (n : ℕ) → n ≡ 0 → (if b then 1 else 0) + n ≤ 1
one_call true n none = omega (arith, none)
one_call false n none = omega (arith, none)

goes_on : {D : Type 0} (old mid : EngineState D) (e : Event) (a : Answer) (events : List Event) (answers : List Answer)
    → GoesOn old mid e a → AreTold mid.memory mid.count mid.ahead events answers
    → AreTold old.memory old.count old.ahead (e ∷ events) (a ∷ answers)
goes_on old mid e a events answers it rest =
    by_rest (subst (λ (l : List Command). AreTold (after old.memory sure) (old.count + length sure) l events answers)
    it.ahead
    (subst (λ (m : Contents). AreTold m (old.count + length sure) mid.ahead events answers) it.memory
    (subst (λ (n : ℕ). AreTold mid.memory n mid.ahead events answers) it.count rest)))
  where
    sure : List Command
    sure = acknowledged_by old.memory e a

    next : List Command
    next = ahead_by old.memory old.ahead e a

    by_rest : AreTold (after old.memory sure) (old.count + length sure) next events answers
        → AreTold old.memory old.count old.ahead (e ∷ events) (a ∷ answers)
    by_rest far = record {
      one = no_call_more (is_doubt a) (calls_in_doubt answers) it.sure far.one;
      few =
          omega (
            arith,
            length-append (in_doubt_by old.memory old.count e a)
                (in_doubt (after old.memory sure) (old.count + length sure) events answers),
            ap length it.none,
            far.few,
            ap length it.ahead,
            it.no_more,
          );
      answered = (
        it.answer,
        it.named,
        subst (λ (b : Bool). AreAnswers b (after old.memory sure) (old.count + length sure) next events answers)
            (sym it.calm) far.answered,
      );
    }

ends : {D : Type 0} (old mid : EngineState D) (e : Event) (a : Answer) (events : List Event) (answers : List Answer)
    → Fails old mid e a → ((m : Contents) (n : ℕ) → IsOver m n mid.ahead events answers)
    → AreTold old.memory old.count old.ahead (e ∷ events) (a ∷ answers)
ends old mid e a events answers it rest =
    let far : IsOver (after old.memory (acknowledged_by old.memory e a))
    (old.count + length (acknowledged_by old.memory e a)) (ahead_by old.memory old.ahead e a) events answers =
    subst (λ (l : List Command). IsOver (after old.memory (acknowledged_by old.memory e a))
    (old.count + length (acknowledged_by old.memory e a)) l events answers) it.ahead
    (rest (after old.memory (acknowledged_by old.memory e a)) (old.count + length (acknowledged_by old.memory e a))) in
    record {
      one = one_call (is_doubt a) (calls_in_doubt answers) far.calls_none;
      few = omega (
        arith,
        length-append (in_doubt_by old.memory old.count e a)
            (in_doubt (after old.memory (acknowledged_by old.memory e a))
            (old.count + length (acknowledged_by old.memory e a)) events answers),
        ap length far.doubt_none,
        it.few,
      );
      answered = (
        it.answer,
        it.named,
        subst (λ (b : Bool). AreAnswers b (after old.memory (acknowledged_by old.memory e a))
            (old.count + length (acknowledged_by old.memory e a)) (ahead_by old.memory old.ahead e a) events answers)
            (sym it.fault) far.answered,
      );
    }

nothing_more : (n : ℕ) → n ≡ n + 0
nothing_more n = omega arith

-- what stays ahead behind commands that were put
gone_behind : (put ahead : List Command) → 0 < length put → [] ≡ ahead_after (length put) ahead
gone_behind [] ahead some = absurd (omega (arith, some))
gone_behind (c ∷ put) ahead some = refl

module _ (known : Known) {D : Type 0} (old mid : EngineState D) (f : old.failed ≡ false) where
  few_still : mid.ahead ≡ old.ahead → (most : ℕ) → length mid.ahead ≤ max (length old.ahead) most
  few_still same most = omega (arith, ap length same)

  few_none : mid.ahead ≡ [] → (most : ℕ) → length mid.ahead ≤ max (length old.ahead) most
  few_none none most = omega (arith, ap length none)

  -- the engine is as it was
  same_memory : mid ≡ old → (l : List Command) → l ≡ [] → mid.memory ≡ after old.memory l
  same_memory same l none =
      ap (λ (s : EngineState D). s.memory) same ∙ ap (λ (k : List Command). after old.memory k) (sym none)

  same_count : mid ≡ old → (l : List Command) → l ≡ [] → mid.count ≡ old.count + length l
  same_count same l none =
      ap (λ (s : EngineState D). s.count) same ∙ nothing_more old.count ∙ ap
      (λ (k : List Command). old.count + length k)
      (sym none)

  same_ahead : mid ≡ old → (l : List Command) → l ≡ [] → mid.ahead ≡ ahead_after (length l) old.ahead
  same_ahead same l none = ap (λ (s : EngineState D). s.ahead) same
      ∙ ap (λ (k : List Command). ahead_after (length k) old.ahead) (sym none)

  module _ (c : Command) (a : Result Outcome Refusal) (it : Answered old c a mid) where
    abbrev sure_c : List Command
    sure_c = acknowledged_by old.memory (Serve c) (Told a)

    still_command : mid ≡ old → acknowledged_by old.memory (Serve c) (Told a) ≡ [] → is_doubt (Told a) ≡ false
        → is_fault (Told a) ≡ false → IsAnswer old.memory old.count (Serve c) (Told a) → GoesOn old mid (Serve c)
        (Told a)
    still_command same none sure calm answer = record {
      works = ap (λ (s : EngineState D). s.failed) same ∙ f;
      memory = same_memory same sure_c none;
      count = same_count same sure_c none;
      ahead = same_ahead same sure_c none;
      no_more = few_still (ap (λ (s : EngineState D). s.ahead) same) 1;
      sure = sure;
      none = none_by old.memory c a sure;
      answer = answer;
      named = tt;
      calm = calm;
    }

    step_sure : (b : Result Outcome Refusal) → b ≡ (step old.memory c).answer
        → (is_doubt (Told b) ≡ false) × (is_fault (Told b) ≡ false)
    step_sure (Ok o) is = (refl, refl)
    step_sure (Err e) is = let none = known.step old.memory c e (sym is) in (none, none)

    put_command : is_accepted old.memory c ≡ true
        → ((a ≡ (step old.memory c).answer)
        × (mid ≡ record (with_command old c) { disk = mid.disk; pages = mid.pages }))
        ⊎ ((a ≡ Err Device) × (mid ≡ record old { disk = mid.disk; failed = true }))
        → GoesOn old mid (Serve c) (Told a) ⊎ Fails old mid (Serve c) (Told a)
    put_command accepted (inl done) =
        let told =
        ok_of (step old.memory c).answer (known.ok old.memory c (is_true (is_accepted old.memory c) accepted)) in
        let is : a ≡ Ok told.0 = done.0 ∙ told.1 in
        let all : acknowledged_by old.memory (Serve c) (Told a) ≡ c ∷ [] =
        ap (λ (x : Result Outcome Refusal). acknowledged_by old.memory (Serve c) (Told x)) is ∙ ap
        (λ (x : Bool). if x then c ∷ [] else []) accepted in
        let sure : is_doubt (Told a) ≡ false = ap (λ (x : Result Outcome Refusal). is_doubt (Told x)) is in
        inl (record {
          works = ap (λ (s : EngineState D). s.failed) done.1 ∙ f;
          memory =
              ap (λ (s : EngineState D). s.memory) done.1 ∙ ap (λ (l : List Command). after old.memory l) (sym all);
          count =
              ap (λ (s : EngineState D). s.count) done.1 ∙ ap (λ (l : List Command). old.count + length l) (sym all);
          ahead = ap (λ (s : EngineState D). s.ahead) done.1
              ∙ ap (λ (l : List Command). ahead_after (length l) old.ahead) (sym all);
          no_more = few_none (ap (λ (s : EngineState D). s.ahead) done.1) 1;
          sure = sure;
          none = none_by old.memory c a sure;
          answer = inl (sym done.0);
          named = tt;
          calm = ap (λ (x : Result Outcome Refusal). is_fault (Told x)) is;
        })
    put_command accepted (inr fault) = inr (record {
      dead = ap (λ (s : EngineState D). s.failed) fault.1;
      ahead = ap (λ (s : EngineState D). s.ahead) fault.1
          ∙ ap (λ (x : Result Outcome Refusal). ahead_by old.memory old.ahead (Serve c) (Told x)) (sym fault.0);
      few = omega (arith, one_by old.memory c a);
      answer = inr (accepted, inr fault.0);
      named = tt;
      fault = ap (λ (x : Result Outcome Refusal). is_fault (Told x)) fault.0;
    })

    command_goes : GoesOn old mid (Serve c) (Told a) ⊎ Fails old mid (Serve c) (Told a)
    command_goes = ⊎_elim
        (λ yes. ⊎_elim
        (λ none. let full = it.full f yes none in inl (still_command full.1
        (ap (λ (x : Result Outcome Refusal). acknowledged_by old.memory (Serve c) (Told x)) full.0)
        (ap (λ (x : Result Outcome Refusal). is_doubt (Told x)) full.0)
        (ap (λ (x : Result Outcome Refusal). is_fault (Told x)) full.0)
        (inr (yes, inl full.0))))
        (λ some. put_command yes (it.put f yes some))
        (none_or_some old.room))
        (λ un. let is = it.unaccepted f un in
        let sure = step_sure a is.0 in
        inl (still_command is.1 (unsure old.memory c a un) sure.0 sure.1 (inl (sym is.0))))
        (bool_cases (is_accepted old.memory c))

  module _ (members : List Request) (room : ℕ) (served : ArrayVec ServedMember) (same : room ≡ old.room)
      (it : GroupAnswered old members served.items mid) where
    abbrev sure_g : List Command
    sure_g = acknowledged_by old.memory (Together members) (Grouped room served)

    -- what a group found, by the room that it tells
    found_here : reached_at old.memory old.count room ≡ reached_in old
    found_here = ap (λ (k : ℕ). reached_at old.memory old.count k) same

    sure_is : served.items ≡ answers_in old members
        → acknowledged_members old.memory (map Asks members) served.items ≡ group_put old members
    sure_is told =
        ap (λ (l : List ServedMember). acknowledged_members old.memory (map Asks members) l) told ∙ known.put
        (reached_in old) members

    told_goes : served.items ≡ answers_in old members → mid.failed ≡ false
        → mid.memory ≡ after old.memory (group_put old members) → mid.count ≡ old.count + length (group_put old members)
        → mid.ahead ≡ ahead_after (length (group_put old members)) old.ahead
        → length mid.ahead ≤ max (length old.ahead) (length members)
        → GoesOn old mid (Together members) (Grouped room served)
    told_goes told works memory count line no_more =
        let calm : has_device served.items ≡ false = ap has_device told ∙ known.works (reached_in old) members in
        record {
          works = works;
          memory = memory ∙ ap (λ (l : List Command). after old.memory l) (sym (sure_is told));
          count = count ∙ ap (λ (l : List Command). old.count + length l) (sym (sure_is told));
          ahead = line ∙ ap (λ (l : List Command). ahead_after (length l) old.ahead) (sym (sure_is told));
          no_more = no_more;
          sure = calm;
          none = ap (λ (b : Bool). if b then puts_of (reached_at old.memory old.count room) members else []) calm;
          answer = inl (told ∙ ap (λ (s : Reached). map as_served (answers_of s members)) (sym found_here));
          named = tt;
          calm = calm;
        }

    few_if : (b : Bool) → length (if b then puts_of (reached_at old.memory old.count room) members else [])
        ≤ length members
    few_if true = puts_few (reached_at old.memory old.count room) members
    few_if false = omega arith

    put_group : 0 < length (group_put old members)
        → ((served.items ≡ answers_in old members)
        × (mid ≡ record (after_group old members) { disk = mid.disk; pages = mid.pages }))
        ⊎ ((served.items ≡ all_refused Device members) × (mid ≡ record old { disk = mid.disk; failed = true }))
        → GoesOn old mid (Together members) (Grouped room served)
        ⊎ Fails old mid (Together members) (Grouped room served)
    put_group some (inl done) = inl (told_goes done.0 (ap (λ (s : EngineState D). s.failed) done.1 ∙ f)
        (ap (λ (s : EngineState D). s.memory) done.1 ∙ known.memory (reached_in old) members)
        (ap (λ (s : EngineState D). s.count) done.1 ∙ known.count (reached_in old) members)
        (ap (λ (s : EngineState D). s.ahead) done.1 ∙ gone_behind (group_put old members) old.ahead some)
        (few_none (ap (λ (s : EngineState D). s.ahead) done.1) (length members)))
    put_group some (inr fault) = inr (record {
      dead = ap (λ (s : EngineState D). s.failed) fault.1;
      ahead = ap (λ (s : EngineState D). s.ahead) fault.1
          ∙ ap (λ (l : List Command). ahead_after (length l) old.ahead)
          (sym (ap (λ (l : List ServedMember). acknowledged_members old.memory (map Asks members) l) fault.0
          ∙ refused-none old.memory Device members));
      few = omega (arith, few_if (has_device served.items));
      named = tt;
      answer = inr (fault.0, subst (λ (s : Reached). 0 < length (puts_of s members)) (sym found_here) some);
      fault = ap has_device fault.0 ∙ known.fault (reached_in old) members some;
    })

    by_put : (put : List Command) → group_put old members ≡ put
        → GoesOn old mid (Together members) (Grouped room served) ⊎ Fails old mid (Together members)
        (Grouped room served)
    by_put [] none =
        let is = it.none f none in
        inl (told_goes is.0 (ap (λ (s : EngineState D). s.failed) is.1 ∙ f)
        (same_memory is.1 (group_put old members) none) (same_count is.1 (group_put old members) none)
        (same_ahead is.1 (group_put old members) none)
        (few_still (ap (λ (s : EngineState D). s.ahead) is.1) (length members)))
    by_put (command ∷ commands) is =
        let some : 0 < length (group_put old members) = omega (arith, ap length is) in put_group some (it.put f some)

    group_goes : GoesOn old mid (Together members) (Grouped room served)
        ⊎ Fails old mid (Together members) (Grouped room served)
    group_goes = by_put (group_put old members) refl

  module _ (next : List Request) (were : ArrayVec Command) (result : Result ℕ Refusal) (served : ArrayVec ServedMember)
      (are : were.items ≡ old.ahead) (it : Advances old (map Asks next) result served.items mid) where
    abbrev sure_a : List Command
    sure_a = acknowledged_by old.memory (Ahead next) (Advanced were result served)

    -- what they are answered, with a place for each
    told_there : (answers : List ServedMember) → served.items ≡ answers → sure_a
        ≡ acknowledged_members old.memory old.ahead answers
    told_there answers is = λ i. acknowledged_members old.memory (are i) (is i)

    done_ahead : (many : ℕ) → result ≡ Ok many → served.items ≡ answers_in_turn old old.ahead
        → mid ≡ record (after_commands old old.ahead) {
          disk = mid.disk;
          pages = mid.pages;
          ahead = take many (map Asks next);
        } → GoesOn old mid (Ahead next) (Advanced were result served)
    done_ahead many told answers same =
        let all : sure_a ≡ commands_put old old.ahead = told_there (answers_in_turn old old.ahead) answers
        ∙ acknowledged-commands old.memory (places old.count old.room) old.ahead in
        let line : mid.ahead ≡ take many (map Asks next) = ap (λ (s : EngineState D). s.ahead) same in
        let calm : is_fault (Advanced were result served) ≡ false
        = ap (λ (x : Result ℕ Refusal). is_fault (Advanced were x served)) told in
        record {
          works = ap (λ (s : EngineState D). s.failed) same ∙ f;
          memory = ap (λ (s : EngineState D). s.memory) same
              ∙ sym (at-after old.memory (places old.count old.room) old.ahead)
              ∙ ap (λ (l : List Command). after old.memory l) (sym all);
          count = ap (λ (s : EngineState D). s.count) same
              ∙ ap (λ (l : List Command). old.count + length l) (sym all);
          ahead = line
              ∙ ap (λ (x : Result ℕ Refusal). ahead_by old.memory old.ahead (Ahead next) (Advanced were x served))
              (sym told);
          no_more = omega (
            arith,
            ap length line,
            length-take many (map Asks next),
            length-map next Asks,
          );
          sure = ap (λ (x : Result ℕ Refusal). is_doubt (Advanced were x served)) told;
          none = ap (λ (b : Bool). if b then commands_at old.memory (length were.items) were.items else []) calm;
          answer = inl (
            subst (λ (x : Result ℕ Refusal). IsOk x) (sym told) refl,
            answers
                ∙ ap (map as_served) (enough-answers old.memory (places old.count old.room) (length old.ahead) old.ahead
                it.enough (omega arith))
                ∙ ap (λ (l : List Command). map as_served (answers_with old.memory (length l) l)) (sym are),
          );
          named = are;
          calm = calm;
        }

    lost_ahead : result ≡ Err Device → served.items ≡ each_refused Device old.ahead
        → mid ≡ record old { disk = mid.disk; ahead = []; failed = true }
        → Fails old mid (Ahead next) (Advanced were result served)
    lost_ahead told answers same = record {
      dead = ap (λ (s : EngineState D). s.failed) same;
      ahead = ap (λ (s : EngineState D). s.ahead) same
          ∙ ap (λ (x : Result ℕ Refusal). ahead_by old.memory old.ahead (Ahead next) (Advanced were x served))
          (sym told);
      few = omega (arith, few_lost (is_fault (Advanced were result served)), ap length are);
      answer = inr (told, answers ∙ ap (λ (l : List Command). each_refused Device l) (sym are));
      named = are;
      fault = ap (λ (x : Result ℕ Refusal). is_fault (Advanced were x served)) told;
    }
      where
        few_lost : (b : Bool) → length (if b then commands_at old.memory (length were.items) were.items else [])
            ≤ length were.items
        few_lost true = at_most_members old.memory (length were.items) were.items
        few_lost false = omega arith

    ahead_goes : IfOk result (TakesNext old (map Asks next) mid)
        → GoesOn old mid (Ahead next) (Advanced were result served)
        ⊎ Fails old mid (Ahead next) (Advanced were result served)
    ahead_goes takes = ⊎_elim (λ done. inl (done_ahead done.0 done.1 done.2 done.3))
        (λ fault. inr (lost_ahead fault.0 fault.1 fault.2)) (it.alive f)

  turn_goes : (a : Result TurnDone Refusal) → TurnAnswered old a mid
      → GoesOn old mid Turn (TookTurn a) ⊎ Fails old mid Turn (TookTurn a)
  turn_goes a it = ⊎_elim
      (λ done. inl (record {
        works = done.2.alive;
        memory = done.2.memory;
        count = done.2.count ∙ nothing_more old.count;
        ahead = done.2.ahead;
        no_more = few_still done.2.ahead 0;
        sure = refl;
        none = refl;
        answer = tt;
        named = tt;
        calm = ap (λ (x : Result TurnDone Refusal). is_fault (TookTurn x)) done.1;
      }))
      (λ fault. inr (record {
        dead = ap (λ (s : EngineState D). s.failed) fault.1;
        ahead = ap (λ (s : EngineState D). s.ahead) fault.1;
        few = omega arith;
        answer = tt;
        named = tt;
        fault = ap (λ (x : Result TurnDone Refusal). is_fault (TookTurn x)) fault.0;
      }))
      (it.alive f)

  sweep_goes : (most : ℕ) (a : Result ℕ Refusal) → SweepAnswered old most a mid
      → GoesOn old mid (Sweep most) (DidSweep a) ⊎ Fails old mid (Sweep most) (DidSweep a)
  sweep_goes most a it = ⊎_elim
      (λ done. inl (record {
        works = ap (λ (s : EngineState D). s.failed) done.1 ∙ f;
        memory = ap (λ (s : EngineState D). s.memory) done.1;
        count = ap (λ (s : EngineState D). s.count) done.1 ∙ nothing_more old.count;
        ahead = ap (λ (s : EngineState D). s.ahead) done.1;
        no_more = few_still (ap (λ (s : EngineState D). s.ahead) done.1) 0;
        sure = refl;
        none = refl;
        answer = tt;
        named = tt;
        calm = ap (λ (x : Result ℕ Refusal). is_fault (DidSweep x)) done.0;
      }))
      (λ fault. inr (record {
        dead = ap (λ (s : EngineState D). s.failed) fault.1;
        ahead = ap (λ (s : EngineState D). s.ahead) fault.1;
        few = omega arith;
        answer = tt;
        named = tt;
        fault = ap (λ (x : Result ℕ Refusal). is_fault (DidSweep x)) fault.0;
      }))
      (it.alive f)

module _ (known : Known) where
  pub told : {D : Type 0} (old new : EngineState D) (events : List Event) (answers : List Answer) → old.failed ≡ false
      → AnsweredInTurn old events answers new → AreTold old.memory old.count old.ahead events answers
  told old new [] [] f it = record { one = omega arith; few = omega arith; answered = tt }
  told old new [] (a ∷ answers) f it = absurd it
  told old new (e ∷ events) [] f it = absurd it
  told old new (e ∷ events) (a ∷ answers) f (mid, one, rest) = ⊎_elim
      (λ goes. goes_on old mid e a events answers goes (told mid new events answers goes.works rest))
      (λ fails. ends old mid e a events answers fails (over known mid new events answers fails.dead rest))
      (by_event old mid (λ d x. GoesOn old mid d x ⊎ Fails old mid d x)
      (command_goes known old mid f) (group_goes known old mid f) (ahead_goes known old mid f)
      (turn_goes known old mid f)
      (sweep_goes known old mid f) e a one)
