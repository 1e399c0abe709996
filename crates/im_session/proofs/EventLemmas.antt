-- A run of events, one after another.
use Rattle.std.proofs.Common.{◌≡◌, ℕ, ◌+◌, ◌<◌, Bool, true, false, not, ◌&&◌, ◌||◌, ◌⊎◌, List, [], ◌∷◌, ◌++◌, map}
use Rattle.std.proofs.Common.{length, get_or, take, IfOk, Ok, Err, Result, sym, refl, ap, ◌∙◌, subst, ap₂, ⊎_elim}
use Rattle.std.proofs.Common.{append_assoc, append-nil, arith, length-append, length-take-le, take_all}
use Rattle.arrayvec.specs.ArrayVec.{ArrayVec}
use Rattle.std.proofs.lemmas.List.{take-append-le, take_more}
use Rattle.im_types.specs.Types.{Request, Command, Outcome, Asks, Served, Refusal, Contents, step, is_accepted, after}
use Rattle.im_laws.proofs.{RunLemmas.after-append, Tests.true_false, Tests.true_or_false}
use Rattle.{im_laws.specs.Groups.IsCounted, im_groups.specs.Ahead.ServesPrefix}
use Rattle.im_disk.proofs.SinceLemmas.{leaves_start, leaves_then}
use Rattle.im_disk.specs.{declared.Disk.Ghosts, Since.LeavesWithin}
use Rattle.im_checkpoint.{proofs.Fitting.none_or_some, specs.declared.TurnDone.TurnDone}
use Rattle.im_engine.proofs.Requests.{all_served, put_is, requests_answered}
use Rattle.im_engine.{proofs.StepFaults.step-no_device, specs.Commands.commands_put, specs.Commands.CommandsAnswered}
use Rattle.im_engine.specs.Answered.{Answered, SweepAnswered, TurnAnswered}
use Rattle.im_engine.specs.{Chain.Advances, Chain.TakesNext, Groups.GroupAnswered, Groups.reached_in, State.EngineState}
use Rattle.im_session.proofs.GroupLemmas.{ahead_puts, FailsBy, group_puts, lost_fails, same_fails}
use Rattle.im_session.specs.declared.events.{Answer.Answer, Event.Event}
use Rattle.im_session.specs.declared.events.Answer.TheVariants.{Advanced, Grouped, Served as Told, Swept as DidSweep}
use Rattle.im_session.specs.declared.events.Answer.TheVariants.{Turned as TookTurn}
use Rattle.im_session.specs.declared.events.Event.TheVariants.{Ahead, Command as Serve, Group as Together, Sweep, Turn}
use Rattle.im_session.specs.Events.{acknowledged, acknowledged_by, after_event, after_events, AnsweredInTurn}
use Rattle.im_session.specs.Events.{EventAnswered, has_fault, in_doubt, in_doubt_by, is_fault, MeansEvents}
use Rattle.im_session.specs.{Keeping.LeavesWhole, Put.doubted_of, Put.sure_of, Serving.served_together}
use Rattle.im_session.specs.Kept.{Kept, MeansPut, session_of, SessionState}

-- what holds of each event that can be answered so
module _ {D : Type 0} (old new : EngineState D) (P : Event → Answer → Type 0)
    (command : (c : Command) (a : Result Outcome Refusal) → Answered old c a new → P (Serve c) (Told a))
    (group : (members : List Request) (room : ℕ) (served : ArrayVec Served) → room ≡ old.room
    → GroupAnswered old members served.items new → P (Together members) (Grouped room served))
    (ahead : (members : List Request) (were : ArrayVec Command) (result : Result ℕ Refusal) (served : ArrayVec Served)
    → were.items ≡ old.ahead → Advances old (map Asks members) result served.items new
    → IfOk result (TakesNext old (map Asks members) new) → P (Ahead members) (Advanced were result served))
    (turn : (a : Result TurnDone Refusal) → TurnAnswered old a new → P Turn (TookTurn a))
    (sweep : (most : ℕ) (a : Result ℕ Refusal) → SweepAnswered old most a new → P (Sweep most) (DidSweep a)) where
  pub by_event : (e : Event) (a : Answer) → EventAnswered old e a new → P e a
  by_event (Serve c) (Told a) it = command c a it
  by_event (Together members) (Grouped room served) it = group members room served it.0 it.1
  by_event (Ahead members) (Advanced were result served) it = ahead members were result served it.0 it.1 it.2
  by_event Turn (TookTurn a) it = turn a it
  by_event (Sweep most) (DidSweep a) it = sweep most a it
  by_event (Serve c) (Grouped room served) it = absurd it
  by_event (Serve c) (Advanced were result served) it = absurd it
  by_event (Serve c) (TookTurn a) it = absurd it
  by_event (Serve c) (DidSweep a) it = absurd it
  by_event (Together members) (Told a) it = absurd it
  by_event (Together members) (Advanced were result served) it = absurd it
  by_event (Together members) (TookTurn a) it = absurd it
  by_event (Together members) (DidSweep a) it = absurd it
  by_event (Ahead members) (Told a) it = absurd it
  by_event (Ahead members) (Grouped room served) it = absurd it
  by_event (Ahead members) (TookTurn a) it = absurd it
  by_event (Ahead members) (DidSweep a) it = absurd it
  by_event Turn (Told a) it = absurd it
  by_event Turn (Grouped room served) it = absurd it
  by_event Turn (Advanced were result served) it = absurd it
  by_event Turn (DidSweep a) it = absurd it
  by_event (Sweep most) (Told a) it = absurd it
  by_event (Sweep most) (Grouped room served) it = absurd it
  by_event (Sweep most) (Advanced were result served) it = absurd it
  by_event (Sweep most) (TookTurn a) it = absurd it

-- ---- failures

module _ {D : Type 0} (old new : EngineState D) where
  step_calm : (m : Contents) (c : Command) (a : Result Outcome Refusal) → a ≡ (step m c).answer
      → is_fault (Told a) ≡ false
  step_calm m c (Ok o) is = refl
  step_calm m c (Err e) is = step-no_device m c e (sym is)

  told_as : (x y : Result Outcome Refusal) → x ≡ y → is_fault (Told x) ≡ is_fault (Told y)
  told_as x y is = ap (λ (z : Result Outcome Refusal). is_fault (Told z)) is

  took_as : (x y : Result TurnDone Refusal) → x ≡ y → is_fault (TookTurn x) ≡ is_fault (TookTurn y)
  took_as x y is = ap (λ (z : Result TurnDone Refusal). is_fault (TookTurn z)) is

  swept_as : (x y : Result ℕ Refusal) → x ≡ y → is_fault (DidSweep x) ≡ is_fault (DidSweep y)
  swept_as x y is = ap (λ (z : Result ℕ Refusal). is_fault (DidSweep z)) is

  failed_as : (s t : EngineState D) → s ≡ t → s.failed ≡ t.failed
  failed_as s t is = ap (λ (x : EngineState D). x.failed) is

  command_fails : (c : Command) (a : Result Outcome Refusal) → Answered old c a new
      → FailsBy (is_fault (Told a)) old.failed new.failed
  command_fails c a it =
      let same = same_fails (is_fault (Told a)) old.failed new.failed in
      ⊎_elim
      (λ dead. same (told_as a _ (it.dead dead).0) (failed_as new old (it.dead dead).1))
      (λ f. ⊎_elim
      (λ yes. ⊎_elim
      (λ none. same (told_as a _ (it.full f yes none).0) (failed_as new old (it.full f yes none).1))
      (λ some. ⊎_elim
      (λ done. same (step_calm old.memory c a done.0) (failed_as new _ done.1))
      (λ fault. lost_fails (is_fault (Told a)) old.failed new.failed (told_as a _ fault.0) f (failed_as new _ fault.1))
      (it.put f yes some))
      (none_or_some old.room))
      (λ un. same (step_calm old.memory c a (it.unaccepted f un).0) (failed_as new old (it.unaccepted f un).1))
      (true_or_false (is_accepted old.memory c)))
      (true_or_false old.failed)

  turn_fails : (a : Result TurnDone Refusal) → TurnAnswered old a new
      → FailsBy (is_fault (TookTurn a)) old.failed new.failed
  turn_fails a it =
      let same = same_fails (is_fault (TookTurn a)) old.failed new.failed in
      ⊎_elim
      (λ dead. same (took_as a _ (it.dead dead).0) (failed_as new old (it.dead dead).1))
      (λ f. ⊎_elim
      (λ done. same (took_as a _ done.1) (done.2.alive ∙ sym f))
      (λ fault. lost_fails (is_fault (TookTurn a)) old.failed new.failed (took_as a _ fault.0) f
      (failed_as new _ fault.1))
      (it.alive f))
      (true_or_false old.failed)

  sweep_fails : (most : ℕ) (a : Result ℕ Refusal) → SweepAnswered old most a new
      → FailsBy (is_fault (DidSweep a)) old.failed new.failed
  sweep_fails most a it =
      let same = same_fails (is_fault (DidSweep a)) old.failed new.failed in
      ⊎_elim
      (λ dead. same (swept_as a _ (it.dead dead).0) (failed_as new old (it.dead dead).1))
      (λ f. ⊎_elim
      (λ done. same (swept_as a _ done.0) (failed_as new _ done.1))
      (λ fault. lost_fails (is_fault (DidSweep a)) old.failed new.failed (swept_as a _ fault.0) f
      (failed_as new _ fault.1))
      (it.alive f))
      (true_or_false old.failed)

  event_fails : (e : Event) (a : Answer) → EventAnswered old e a new → FailsBy (is_fault a) old.failed new.failed
  event_fails e a it = by_event old new (λ _ x. FailsBy (is_fault x) old.failed new.failed) command_fails
      (λ members room served same answered.
      (group_puts old new members served.items room answered same).fails)
      (λ members were result served are advanced takes.
      (ahead_puts old new (map Asks members) were result served are advanced).fails) turn_fails sweep_fails e a it

fails_then : (a b o m n : Bool) → FailsBy a o m → FailsBy b m n → FailsBy (a || b) o n
fails_then a b true m n one two =
    let mid : m ≡ true = one.1 refl in
    let end : n ≡ true = two.1 mid in (
      ap₂ (λ (x y : Bool). x || y) (one.0 ∙ ap (λ (x : Bool). x && not true) mid)
          (two.0 ∙ ap₂ (λ (x y : Bool). x && not y) end mid)
          ∙ sym (ap (λ (x : Bool). x && not true) end),
      λ t. end,
    )
fails_then a b false true n one two =
    let end : n ≡ true = two.1 refl in
    (ap (λ (x : Bool). x || b) one.0 ∙ sym (ap (λ (x : Bool). x && not false) end), λ t. end)
fails_then a b false false n one two =
    (ap₂ (λ (x y : Bool). x || y) one.0 two.0, λ t. absurd (true_false (sym t)))

pub in_turn_fails : {D : Type 0} (old new : EngineState D) (events : List Event) (answers : List Answer)
    → AnsweredInTurn old events answers new → FailsBy (has_fault answers) old.failed new.failed
in_turn_fails {D} old new [] [] it =
    same_fails false old.failed new.failed refl (ap (λ (s : EngineState D). s.failed) it)
in_turn_fails old new [] (a ∷ answers) it = absurd it
in_turn_fails old new (e ∷ events) [] it = absurd it
in_turn_fails old new (e ∷ events) (a ∷ answers) (mid, one, rest) =
    fails_then (is_fault a) (has_fault answers) old.failed mid.failed new.failed (event_fails old mid e a one)
    (in_turn_fails mid new events answers rest)

-- ---- what a session comes to by one event

module _ {D : Type 0} (old new : SessionState D) (rs : List Request) (cs : List Command) (served : ArrayVec Served)
    (room : ℕ) (is : cs ≡ map Asks rs) (counted : IsCounted (reached_in old.engine)) (same : room ≡ old.engine.room)
    (begins : ServesPrefix old.engine.memory (commands_put old.engine (take (length served.items) cs)) cs
    (length served.items))
    (answered : CommandsAnswered old.engine (take (length served.items) cs) served.items new.engine)
    (put : new ≡ served_together old (take (length served.items) cs) new.engine) where
  all : take (length served.items) cs ≡ map Asks rs
  all = all_served old.engine.memory _ cs rs _ is begins

  pub group_answered : GroupAnswered old.engine rs served.items new.engine
  group_answered = requests_answered old.engine rs counted served.items new.engine
      (subst (λ (l : List Command). CommandsAnswered old.engine l served.items new.engine) all answered)

  pub group_event : new ≡ after_event old (Together rs) (Grouped room served) new.engine
  group_event =
      let puts = group_puts old.engine new.engine rs served.items room group_answered same in
      put
      ∙ ap (λ (l : List Command). served_together old l new.engine) all
      ∙ ap (λ (l : List Command). session_of old.start (old.put ++ sure_of new.engine.failed l)
      (old.doubt ++ doubted_of old.engine.failed new.engine.failed l) new.engine) (put_is old.engine rs counted)
      ∙ ap₂ (λ (p d : List Command). session_of old.start (old.put ++ p) (old.doubt ++ d) new.engine) puts.sure
      puts.doubt

module _ {D : Type 0} (old new : SessionState D) (rs : List Request) (cs : List Command) (were : ArrayVec Command)
    (result : Result ℕ Refusal) (served : ArrayVec Served) (is : cs ≡ map Asks rs) (are : were.items ≡ old.engine.ahead)
    (answered : Advances old.engine cs result served.items new.engine)
    (takes : IfOk result (TakesNext old.engine cs new.engine)) where
  pub ahead_answered : EventAnswered old.engine (Ahead rs) (Advanced were result served) new.engine
  ahead_answered = (
    are,
    subst (λ (l : List Command). Advances old.engine l result served.items new.engine) is answered,
    subst (λ (l : List Command). IfOk result (TakesNext old.engine l new.engine)) is takes,
  )

  pub ahead_event : new ≡ served_together old old.engine.ahead new.engine
      → new ≡ after_event old (Ahead rs) (Advanced were result served) new.engine
  ahead_event put =
      let puts = ahead_puts old.engine new.engine cs were result served are answered in
      put ∙ ap₂ (λ (p d : List Command). session_of old.start (old.put ++ p) (old.doubt ++ d) new.engine) puts.sure
      puts.doubt

-- ---- one event more at the end of a list

in_turn_more : {D : Type 0} (old mid new : EngineState D) (events : List Event) (answers : List Answer) (e : Event)
    (a : Answer)
    → AnsweredInTurn old events answers mid → EventAnswered mid e a new
    → AnsweredInTurn old (events ++ e ∷ []) (answers ++ a ∷ []) new
in_turn_more {D} old mid new [] [] e a it one =
    (new, subst (λ (s : EngineState D). EventAnswered s e a new) it one, refl)
in_turn_more old mid new [] (b ∷ answers) e a it one = absurd it
in_turn_more old mid new (d ∷ events) [] e a it one = absurd it
in_turn_more old mid new (d ∷ events) (b ∷ answers) e a it one =
    (it.0, it.1, in_turn_more it.0 mid new events answers e a it.2 one)

acknowledged-push : (m : Contents) (events : List Event) (answers : List Answer) (e : Event) (a : Answer)
    → length events ≡ length answers
    → acknowledged m (events ++ e ∷ []) (answers ++ a ∷ [])
    ≡ acknowledged m events answers ++ acknowledged_by (after m (acknowledged m events answers)) e a
acknowledged-push m [] [] e a same = append-nil (acknowledged_by m e a)
acknowledged-push m [] (b ∷ answers) e a same = absurd (omega arith)
acknowledged-push m (d ∷ events) [] e a same = absurd (omega arith)
acknowledged-push m (d ∷ events) (b ∷ answers) e a same =
    let p : List Command = acknowledged_by m d b in
    ap (λ (l : List Command). acknowledged_by m d b ++ l)
    (acknowledged-push (after m (acknowledged_by m d b)) events answers e a (omega arith))
    ∙ ap (λ (x : Contents). acknowledged_by m d b ++
    (acknowledged (after m (acknowledged_by m d b)) events answers ++ acknowledged_by x e a))
    (sym (after-append m (acknowledged_by m d b) (acknowledged (after m (acknowledged_by m d b)) events answers)))
    ∙ sym (append_assoc (acknowledged_by m d b) (acknowledged (after m (acknowledged_by m d b)) events answers)
    (acknowledged_by (after m
    (acknowledged_by m d b ++ acknowledged (after m (acknowledged_by m d b)) events answers)) e a))

in_doubt-push : (m : Contents) (n : ℕ) (events : List Event) (answers : List Answer) (e : Event) (a : Answer)
    → length events ≡ length answers
    → in_doubt m n (events ++ e ∷ []) (answers ++ a ∷ [])
    ≡ in_doubt m n events answers ++ in_doubt_by (after m (acknowledged m events answers))
    (n + length (acknowledged m events answers)) e a
in_doubt-push m n [] [] e a same = append-nil (in_doubt_by m n e a) ∙ ap (λ (k : ℕ). in_doubt_by m k e a) (none n)
  where
    none : (n : ℕ) → n ≡ n + 0
    none n = omega arith
in_doubt-push m n [] (b ∷ answers) e a same = absurd (omega arith)
in_doubt-push m n (d ∷ events) [] e a same = absurd (omega arith)
in_doubt-push m n (d ∷ events) (b ∷ answers) e a same =
    ap (λ (l : List Command). in_doubt_by m n d b ++ l)
    (in_doubt-push (after m (acknowledged_by m d b)) (n + length (acknowledged_by m d b)) events answers e a
    (omega arith))
    ∙ ap (λ (x : Contents). in_doubt_by m n d b ++
    (in_doubt (after m (acknowledged_by m d b)) (n + length (acknowledged_by m d b)) events answers
    ++ in_doubt_by x ((n + length (acknowledged_by m d b)) + length
    (acknowledged (after m (acknowledged_by m d b)) events answers)) e a))
    (sym (after-append m (acknowledged_by m d b) (acknowledged (after m (acknowledged_by m d b)) events answers)))
    ∙ ap (λ (k : ℕ). in_doubt_by m n d b ++
    (in_doubt (after m (acknowledged_by m d b)) (n + length (acknowledged_by m d b)) events answers
    ++ in_doubt_by (after m
    (acknowledged_by m d b ++ acknowledged (after m (acknowledged_by m d b)) events answers)) k e a))
    (counts n (acknowledged_by m d b) (acknowledged (after m (acknowledged_by m d b)) events answers))
    ∙ sym (append_assoc (in_doubt_by m n d b)
    (in_doubt (after m (acknowledged_by m d b)) (n + length (acknowledged_by m d b)) events answers)
    (in_doubt_by (after m (acknowledged_by m d b ++ acknowledged (after m (acknowledged_by m d b)) events answers))
    (n + length (acknowledged_by m d b ++ acknowledged (after m (acknowledged_by m d b)) events answers)) e a))
  where
    counts : (n : ℕ) (p q : List Command) → (n + length p) + length q ≡ n + length (p ++ q)
    counts n p q = omega (arith, length-append p q)

-- ---- the same over the events so far

-- the file means all that the session put, and all that is in doubt
abbrev AllPut : {D : Type 0} → SessionState D → List ℕ → Type 0
AllPut s file = MeansPut s.start (s.put ++ s.doubt) file

-- a session has run the first of these events, as many as this number
pub record HasRun {D : Type 0} (disk : Ghosts D) (first new : SessionState D) (events : List Event)
    (answers : List Answer) (i : ℕ) : Type 0 where
  pub answered : AnsweredInTurn first.engine (take i events) answers new.engine
  pub put : new ≡ after_events first (take i events) answers new.engine
  pub honest : disk.honest new.engine.disk → disk.honest first.engine.disk
  pub leaves : disk.honest new.engine.disk → LeavesWithin disk.now disk.past first.engine.disk new.engine.disk
      (MeansEvents first events answers)

pub run_none : {D : Type 0} (disk : Ghosts D) (s : SessionState D) (events : List Event) (answers : List Answer)
    → answers ≡ [] → HasRun disk s s events answers 0
run_none disk s events answers none = record {
  answered = subst (λ (l : List Answer). AnsweredInTurn s.engine [] l s.engine) (sym none) refl;
  put = ap₂ (λ (put doubt : List Command). session_of s.start put doubt s.engine) (sym (append-nil s.put))
      (sym (append-nil s.doubt));
  honest = λ h. h;
  leaves = λ h. leaves_start (disk.now s.engine.disk) (disk.past s.engine.disk) (MeansEvents s events answers);
}

module _ {D : Type 0} (disk : Ghosts D) (first mid new : SessionState D) (events : List Event)
    (answers longer : List Answer) (i : ℕ) (d event : Event) (a : Answer)
    (lt : i < length events) (is : event ≡ get_or events i d) (size : length answers ≡ i)
    (items : longer ≡ answers ++ a ∷ []) (kept : Kept disk first) (now : Kept disk mid)
    (so_far : HasRun disk first mid events answers i) (it : EventAnswered mid.engine event a new.engine)
    (put : new ≡ after_event mid event a new.engine) where
  abbrev sure_far : List Command
  sure_far = acknowledged first.engine.memory (take i events) answers

  abbrev doubt_far : List Command
  doubt_far = in_doubt first.engine.memory first.engine.count (take i events) answers

  stepped : take (i + 1) events ≡ take i events ++ event ∷ []
  stepped = take_more events i d lt ∙ ap (λ (x : Event). take i events ++ x ∷ []) (sym is)

  same_length : length (take i events) ≡ length answers
  same_length = let n : length (take i events) ≡ i = length-take-le i events (omega arith) in omega (arith, n, size)

  answers_more : AnsweredInTurn first.engine (take (i + 1) events) longer new.engine
  answers_more = subst (λ (l : List Event). AnsweredInTurn first.engine l longer new.engine) (sym stepped)
      (subst (λ (l : List Answer). AnsweredInTurn first.engine (take i events ++ event ∷ []) l new.engine) (sym items)
      (in_turn_more first.engine mid.engine new.engine (take i events) answers event a so_far.answered it))

  -- ---- what is put

  memory_is : mid.engine.memory ≡ after first.engine.memory sure_far
  memory_is = now.memory ∙ ap (λ (s : SessionState D). after s.start.memory s.put) so_far.put
      ∙ after-append first.start.memory first.put sure_far
      ∙ ap (λ (m : Contents). after m sure_far) (sym kept.memory)

  count_is : mid.engine.count ≡ first.engine.count + length sure_far
  count_is =
      let here : mid.engine.count ≡ mid.start.count + length mid.put = now.count in
      let there : first.engine.count ≡ first.start.count + length first.put = kept.count in
      let same : mid.start.count + length mid.put ≡ first.start.count + length (first.put ++ sure_far)
      = ap (λ (s : SessionState D). s.start.count + length s.put) so_far.put in
      omega (arith, here, there, same, length-append first.put sure_far)

  sure_is : acknowledged first.engine.memory (take (i + 1) events) longer
      ≡ sure_far ++ acknowledged_by (after first.engine.memory sure_far) event a
  sure_is = (λ k. acknowledged first.engine.memory (stepped k) (items k))
      ∙ acknowledged-push first.engine.memory (take i events) answers event a same_length

  doubt_is : in_doubt first.engine.memory first.engine.count (take (i + 1) events) longer
      ≡ doubt_far ++ in_doubt_by (after first.engine.memory sure_far) (first.engine.count + length sure_far) event a
  doubt_is = (λ k. in_doubt first.engine.memory first.engine.count (stepped k) (items k))
      ∙ in_doubt-push first.engine.memory first.engine.count (take i events) answers event a same_length

  put_more : new ≡ after_events first (take (i + 1) events) longer new.engine
  put_more = put
      ∙ ap (λ (s : SessionState D). session_of s.start (s.put ++ acknowledged_by mid.engine.memory event a)
      (s.doubt ++ in_doubt_by mid.engine.memory mid.engine.count event a) new.engine) so_far.put
      ∙ ap₂ (λ (m : Contents) (n : ℕ). session_of first.start ((first.put ++ sure_far) ++ acknowledged_by m event a)
      ((first.doubt ++ doubt_far) ++ in_doubt_by m n event a) new.engine) memory_is count_is
      ∙ ap₂ (λ (p q : List Command). session_of first.start p q new.engine)
      (append_assoc first.put sure_far _ ∙ ap (λ (l : List Command). first.put ++ l) (sym sure_is))
      (append_assoc first.doubt doubt_far _ ∙ ap (λ (l : List Command). first.doubt ++ l) (sym doubt_is))

  -- ---- what is left

  -- a prefix of the events so far is one of the events with this one
  before_it : (file : List ℕ) → MeansEvents first events answers file → MeansEvents first events longer file
  before_it file (many, few, means) = (
    many,
    omega (arith, few, ap length items, length-append answers (a ∷ [])),
    subst (λ (l : List Answer). AllPut (after_events first (take many events) l first.engine) file)
        (sym (ap (λ (l : List Answer). take many l) items ∙ take-append-le many answers (a ∷ []) few)) means,
  )

  without_it : (file : List ℕ) → AllPut mid file → MeansEvents first events longer file
  without_it file means =
      let told : take i longer ≡ answers = ap (λ (l : List Answer). take i l) items
      ∙ take-append-le i answers (a ∷ []) (omega (arith, size)) ∙ take_all i answers (omega (arith, size)) in (
        i,
        omega (arith, ap length items, length-append answers (a ∷ []), size),
        subst (λ (l : List Answer). AllPut (after_events first (take i events) l first.engine) file) (sym told)
            (subst (λ (s : SessionState D). AllPut s file) so_far.put means),
      )

  with_it : (file : List ℕ) → AllPut new file → MeansEvents first events longer file
  with_it file means =
      let all : length longer ≡ i + 1 = omega (arith, ap length items, length-append answers (a ∷ []), size) in (
        i + 1,
        omega (arith, all),
        subst (λ (l : List Answer). AllPut (after_events first (take (i + 1) events) l first.engine) file)
            (sym (take_all (i + 1) longer (omega (arith, all))))
            (subst (λ (s : SessionState D). AllPut s file) put_more means),
      )

  pub run_more : (disk.honest new.engine.disk → disk.honest mid.engine.disk) → LeavesWhole disk mid new
      → HasRun disk first new events longer (i + 1)
  run_more honest call = record {
    answered = answers_more;
    put = put_more;
    honest = λ h. so_far.honest (honest h);
    leaves = λ h. leaves_then (disk.now first.engine.disk) (disk.now mid.engine.disk) (disk.now new.engine.disk)
        (disk.past first.engine.disk) (disk.past mid.engine.disk) (disk.past new.engine.disk)
        (MeansEvents first events answers) (λ (file : List ℕ). AllPut mid file ⊎ AllPut new file)
        (MeansEvents first events longer) (so_far.leaves (honest h)) (call h) before_it
        (λ file means. ⊎_elim (without_it file) (with_it file) means);
  }
