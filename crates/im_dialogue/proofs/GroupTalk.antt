-- What was said by a group of lines.
use Rattle.std.proofs.Common.{◌≡◌, ℕ, zero, suc, ◌+◌, ◌-◌, ◌<◌, ◌≤◌, Bool, true, false, ◌&&◌, List, [], ◌∷◌, ◌++◌}
use Rattle.std.proofs.Common.{length, if◌then◌else◌, nat_lt, ◌==◌, Some, Err, Option, Result, sym, refl, ap, ◌∙◌, subst}
use Rattle.std.proofs.Common.{ap₂, inl, inr, ⊎_elim, append-nil, arith, length-append}
use Rattle.std.{proofs.lemmas.Bool.Decides.nat_tests, specs.Io.KnownBytes.Appends}
use Rattle.im_types.specs.Types.{Command, Outcome, Served, Refusal, JournalFull, MAX_GROUP, LAST, Contents, step}
use Rattle.im_types.specs.Types.{is_accepted, after}
use Rattle.im_laws.proofs.{RunLemmas.after-append, Tests.true_or_false}
use Rattle.im_groups.proofs.CommandLemmas.{at-after, commands_behind, few_at}
use Rattle.{im_groups.proofs.EnoughLemmas.at_most_members, im_engine.specs.State.EngineState}
use Rattle.im_groups.specs.Commands.{answer_with, command_at, commands_at, contents_after_all, contents_with}
use Rattle.im_groups.specs.Commands.{left_after, places, places_behind, takes_place}
use Rattle.im_engine.specs.Commands.{after_commands, answers_in_turn, commands_put, CommandsAnswered}
use Rattle.im_turning.specs.Turning.{IsSpent, Point, point_of, TurnsLead, with_one}
use Rattle.im_session.{proofs.GroupLemmas.one_command, specs.Put.doubted_of, specs.Put.sure_by, specs.Put.sure_of}
use Rattle.im_session.specs.{Kept.session_of, Kept.SessionState, Serving.served_together}
use Rattle.im_text.{proofs.PrintingLemmas.true_false, specs.Printing.Begins}
use Rattle.im_dialogue.proofs.{ReachLemmas.contents_behind, TalkLemmas.ended_here, TalkLemmas.Left}
use Rattle.im_dialogue.specs.{Answers.answer_text, Asking.asked_of, Backups.Backup, declared.asking.Question.Question}
use Rattle.im_dialogue.specs.{Hearing.Hears, Hearing.HearsSome, Telling.SaysAll, Watching.watch_text}
use Rattle.im_dialogue.specs.declared.answers.LineAnswer.{LineAnswer, TheVariants.Served as ServedAs}
use Rattle.im_dialogue.specs.Talk.{AnswersQuestion, Exchange, exchange_at, Halts, HasSaid, IsOutcomeOf, outputs}
use Rattle.im_dialogue.specs.Talk.{point_behind, put_of, questions_of, stands_behind, TalkEnds, TalksOn, texts_of}
use Rattle.im_dialogue.specs.Talk.{with_left}
use Rattle.im_dialogue.specs.Together.{group_start, GroupStart, memory_between, places_between, point_between}
use Rattle.im_dialogue.specs.declared.asking.Question.TheVariants as asks

second : (a b : Bool) → (a && b) ≡ true → b ≡ true
second true b is = is
second false b is = absurd (true_false false is refl)

-- ---- one member

of_one : (m : Contents) (p : Point) (c : Command) (b : Bool) (left : ℕ) → is_accepted m c ≡ b
    → (left ≡ 0 → (p.room ≡ 0) × IsSpent p)
    → IsOutcomeOf m p c (if b && (left == 0) then Err JournalFull else (step m c).answer)
of_one m p c false left is full = inl refl
of_one m p c true left is full = by_test (left == 0) refl
  where
    by_test : (z : Bool) → (left == 0) ≡ z
        → IsOutcomeOf m p c (if true && z then Err JournalFull else (step m c).answer)
    by_test true e = let none : left ≡ 0 = grind (arith, nat_tests, e) in inr (is, (refl, full none))
    by_test false e = inl refl

-- ---- where the engine stands behind members

moved_on : (a k : ℕ) (p : Point) → point_behind (a + k) p ≡ point_behind k (point_behind a p)
moved_on a zero p = let none : a + zero ≡ a = omega arith in ap (λ (n : ℕ). point_behind n p) none
moved_on a (suc k) p =
    let next : a + suc k ≡ suc (a + k) = omega arith in
    ap (λ (n : ℕ). point_behind n p) next ∙ ap (λ (q : Point). with_one q) (moved_on a k p)

-- one command more is put where the last count isn't reached
room_next : (n k room : ℕ) → suc k + n ≤ LAST
    → (if n + k == LAST then 0 else room - k) ≡ room - k
room_next n k room low = ap (λ (b : Bool). if b then 0 else room - k) below
  where
    below : (n + k == LAST) ≡ false
    below = grind (arith, nat_tests, low)

moved_all : (k : ℕ) (p : Point) → suc k ≤ LAST - p.count
    → point_behind (suc k) p
    ≡ record p { count = p.count + suc k; room = if p.count + suc k == LAST then 0 else p.room - suc k }
moved_all zero p low = refl
moved_all (suc k) p low =
    let before = moved_all k p (omega (arith, low)) in
    let room : (if p.count + suc k == LAST then 0 else p.room - suc k) ≡ p.room - suc k
    = room_next p.count (suc k) p.room (omega (arith, low)) in
    let count : (p.count + suc k) + 1 ≡ p.count + suc (suc k) = omega arith in
    let left : (if p.count + suc k == LAST then 0 else p.room - suc k) - 1 ≡ p.room - suc (suc k)
    = omega (arith, room) in
    ap (λ (q : Point). with_one q) before
    ∙ (λ i. record {
      header = p.header;
      step = p.step;
      count = count i;
      room = if count i == LAST then 0 else left i;
    })

contents_by : (m : Contents) (left : ℕ) (c : Command) → contents_with m left c ≡ after m (command_at m left c)
contents_by m left c = by_test (takes_place m left c)
  where
    by_test : (b : Bool) → (if b then (step m c).contents else m) ≡ after m (if b then c ∷ [] else [])
    by_test true = refl
    by_test false = refl

-- each member puts one command on the disk at most
-- the places that are left, and those that the members took
pub left_and_put : (m : Contents) (left : ℕ) (cs : List Command)
    → left_after m left cs + length (commands_at m left cs) ≡ left
left_and_put m left [] = omega arith
left_and_put m left (c ∷ cs) = by_test (takes_place m left c) refl
    (left_and_put (contents_with m left c) (places_behind m left c) cs)
  where
    rest : ℕ
    rest = left_after (contents_with m left c) (places_behind m left c) cs

    more : List Command
    more = commands_at (contents_with m left c) (places_behind m left c) cs

    some : takes_place m left c ≡ true → 0 < left
    some is = let low : nat_lt 0 left ≡ true = second (is_accepted m c) (nat_lt 0 left) is in
        grind (arith, nat_tests, low)

    by_test : (t : Bool) → takes_place m left c ≡ t → rest + length more ≡ places_behind m left c
        → rest + length ((if t then c ∷ [] else []) ++ more) ≡ left
    by_test true is all =
        let one = ap (λ (b : Bool). if b then left - 1 else left) is in
        let there = some is in
        omega (arith, all, one, there)
    by_test false is all =
        let none = ap (λ (b : Bool). if b then left - 1 else left) is in
        omega (arith, all, none)

-- ---- what was said of a group, by the memory that it comes to

module _ (watch : Bool) (b : GroupStart) where
  pub told_none : SaysAll watch b [] [] []
  told_none = record {
    said = [];
    answered = tt;
    turns = [];
    lead = refl;
    memory = refl;
    put = refl;
    texts = refl;
    backups = refl;
    asks = refl;
  }

  -- one more line was answered
  module _ (ahead : List Command) (text : List ℕ) (qs : List (Option Question)) (told : SaysAll watch b ahead text qs)
      (line name : List ℕ) where
    abbrev here : Contents
    here = after b.memory (put_of b.memory told.said)

    abbrev exchange : LineAnswer → Exchange
    exchange answer = exchange_at line answer name (point_between b ahead)

    -- what it asks for, behind what was asked before
    asks_on : (answer : LineAnswer) (asked : Option Question) → asked_of line ≡ asked
        → questions_of (exchange answer ∷ told.said) ≡ qs ++ asked ∷ []
    asks_on answer asked read =
        ap (λ (o : Option Question). questions_of told.said ++ o ∷ []) read
        ∙ ap (λ (l : List (Option Question)). l ++ asked ∷ []) told.asks

    -- its text, behind those before
    texts_on : (answer : LineAnswer) (more : List ℕ)
        → more ≡ text ++ (answer_text name (memory_between b ahead) answer
        ++ watch_text watch (memory_between b ahead) answer)
        → texts_of watch b.memory (exchange answer ∷ told.said) ≡ more
    texts_on answer more is =
        ap (λ (t : List ℕ). t ++ (answer_text name here answer ++ watch_text watch here answer)) told.texts
        ∙ ap (λ (m : Contents). text ++ (answer_text name m answer ++ watch_text watch m answer)) (sym told.memory)
        ∙ sym is

    module _ (c : Command) (asked : asked_of line ≡ Some (asks.Serve c))
        (full : places_between b ahead ≡ 0
        → ((point_between b ahead).room ≡ 0) × IsSpent (point_between b ahead)) where
      abbrev answered_so : Result Outcome Refusal
      answered_so = answer_with (memory_between b ahead) (places_between b ahead) c

      abbrev put_one : List Command
      put_one = command_at (memory_between b ahead) (places_between b ahead) c

      -- what it puts on the disk
      put_here : sure_by here c answered_so ≡ put_one
      put_here = ap (λ (m : Contents). sure_by m c answered_so) (sym told.memory)
          ∙ one_command (memory_between b ahead) (places_between b ahead) c

      put_more : put_of b.memory (exchange (ServedAs c answered_so) ∷ told.said) ≡ put_of b.memory told.said ++ put_one
      put_more = ap (λ (l : List Command). put_of b.memory told.said ++ l) put_here

      all_put : commands_at b.memory b.places (ahead ++ c ∷ []) ≡ commands_at b.memory b.places ahead ++ put_one
      all_put = commands_behind b.memory b.places ahead c

      pub told_member : (more : List ℕ)
          → more ≡ text ++ (answer_text name (memory_between b ahead) (ServedAs c answered_so)
          ++ watch_text watch (memory_between b ahead) (ServedAs c answered_so))
          → SaysAll watch b (ahead ++ c ∷ []) more (qs ++ Some (asks.Serve c) ∷ [])
      told_member more is = record {
        said = exchange (ServedAs c answered_so) ∷ told.said;
        answered = (
          told.turns,
          (
            subst (λ (o : Option Question). AnswersQuestion here (b.point.count + length (put_of b.memory told.said))
                told.turns (point_between b ahead) o (ServedAs c answered_so)) (sym asked) (
                  answered_so,
                  refl,
                  subst (λ (m : Contents). IsOutcomeOf m (point_between b ahead) c answered_so) told.memory
                      (of_one (memory_between b ahead) (point_between b ahead) c
                      (is_accepted (memory_between b ahead) c) (places_between b ahead) refl full),
                ),
            (told.lead, told.answered),
          ),
        );
        turns = [];
        lead = ap (λ (l : List Command). point_behind (length l) b.point) all_put
            ∙ ap (λ (n : ℕ). point_behind n b.point) (length-append (commands_at b.memory b.places ahead) put_one)
            ∙ moved_on (length (commands_at b.memory b.places ahead)) (length put_one) b.point
            ∙ ap (λ (l : List Command). point_behind (length l) (point_between b ahead)) (sym put_here);
        memory = contents_behind b.memory b.places ahead c
            ∙ contents_by (memory_between b ahead) (places_between b ahead) c
            ∙ ap (λ (m : Contents). after m put_one) told.memory
            ∙ sym (after-append b.memory (put_of b.memory told.said) put_one)
            ∙ ap (λ (l : List Command). after b.memory l) (sym put_more);
        put = put_more ∙ ap (λ (l : List Command). l ++ put_one) told.put ∙ sym all_put;
        texts = texts_on (ServedAs c answered_so) more is;
        backups = told.backups;
        asks = asks_on (ServedAs c answered_so) (Some (asks.Serve c)) asked;
      }

-- ---- a group that was served

module _ {D : Type 0} (old new : EngineState D) (cs : List Command) (ss : List Served)
    (it : CommandsAnswered old cs ss new) where
  -- what a group comes to that was done
  pub record Done : Type 0 where
    pub answers : ss ≡ answers_in_turn old cs
    pub memory : new.memory ≡ contents_after_all old.memory (places old.count old.room) cs
    pub count : new.count ≡ old.count + length (commands_put old cs)
    pub point : point_behind (length (commands_put old cs)) (point_of old) ≡ point_of new

  -- what works behind a group, worked before it
  pub worked : new.failed ≡ false → old.failed ≡ false
  worked g = ⊎_elim
      (λ dead. absurd (true_false old.failed dead (sym (ap (λ (e : EngineState D). e.failed) (it.dead dead).1) ∙ g)))
      (λ f. f)
      (true_or_false old.failed)

  pub done_by : old.failed ≡ false → new.failed ≡ false → Done
  done_by f g = by_put (commands_put old cs) refl
    where
      moved_put : (k : ℕ) → length (commands_put old cs) ≡ suc k
          → point_behind (length (commands_put old cs)) (point_of old) ≡ point_of (after_commands old cs)
      moved_put k is =
          let few = few_at old.memory (places old.count old.room) cs in
          let low : suc k ≤ LAST - old.count = omega (arith, few, is) in
          subst (λ (n : ℕ). point_behind n (point_of old)
          ≡ record (point_of old) { count = old.count + n; room = if old.count + n == LAST then 0 else old.room - n })
          (sym is)
          (moved_all k (point_of old) low)

      by_put : (put : List Command) → commands_put old cs ≡ put → Done
      by_put [] none =
          let is = it.none f none in
          record {
            answers = is.0;
            memory = ap (λ (e : EngineState D). e.memory) is.1
                ∙ sym (ap (λ (l : List Command). after old.memory l) none)
                ∙ at-after old.memory (places old.count old.room) cs;
            count = omega (arith, ap (λ (e : EngineState D). e.count) is.1, ap (λ (l : List Command). length l) none);
            point = ap (λ (l : List Command). point_behind (length l) (point_of old)) none
                ∙ sym (ap (λ (e : EngineState D). point_of e) is.1);
          }
      by_put (c ∷ put) some = ⊎_elim
          (λ done. record {
            answers = done.0;
            memory = ap (λ (e : EngineState D). e.memory) done.1;
            count = ap (λ (e : EngineState D). e.count) done.1;
            point = moved_put (length put) (ap (λ (l : List Command). length l) some)
                ∙ sym (ap (λ (e : EngineState D). point_of e) done.1);
          })
          (λ fault. absurd (true_false new.failed (ap (λ (e : EngineState D). e.failed) fault.1) g))
          (it.put f (omega (arith, ap (λ (l : List Command). length l) some)))

module _ {D : Type 0} (old new : SessionState D) (cs : List Command) (ss : List Served)
    (it : CommandsAnswered old.engine cs ss new.engine) (put : new ≡ served_together old cs new.engine) where
  -- what was put, by whether the engine failed
  abbrev put_if : Bool → Bool → SessionState D
  put_if before failed = let put = commands_put old.engine cs in session_of old.start (old.put ++ sure_of failed put)
      (old.doubt ++ doubted_of before failed put) new.engine

  -- the group is in doubt
  pub group_halts : length cs ≤ MAX_GROUP → new.engine.failed ≡ true → Halts old new
  group_halts few dead = λ f. record {
    answered = tt;
    doubt = commands_put old.engine cs;
    few = omega (arith, few, at_most_members old.engine.memory (places old.engine.count old.engine.room) cs);
    same = put ∙ ap₂ (λ (before failed : Bool). put_if before failed) f dead;
  }

  module _ (watch : Bool) (text : List ℕ) (qs : List (Option Question))
      (told : SaysAll watch (group_start old.engine) cs text qs) (alive : new.engine.failed ≡ false) where
    group_said : old.engine.failed ≡ false → HasSaid old new told.said
    group_said f =
        let done = done_by old.engine new.engine cs ss it f alive in
        record {
          answered = told.answered;
          turns = told.turns;
          lead = subst (λ (p : Point). TurnsLead told.turns
              (stands_behind old.engine.memory (point_of old.engine) told.said) p) done.point told.lead;
          same = put ∙ ap (λ (failed : Bool). put_if old.engine.failed failed) alive
              ∙ ap₂ (λ (l k : List Command). session_of old.start (old.put ++ l) k new.engine) (sym told.put)
              (append-nil old.doubt);
          memory = done.memory ∙ told.memory;
          count = done.count ∙ ap (λ (l : List Command). old.engine.count + length l) (sym told.put);
          works = alive;
        }

    -- all their lines were printed
    pub group_on : (was is : Option (List ℕ)) (before later : Left) → Appends was is text → Hears before later qs
        → (kept : List Backup)
        → TalksOn watch old (with_left before (outputs was kept)) new (with_left later (outputs is kept))
    group_on was is before later printed hears kept = λ f. record {
      said = told.said;
      done = group_said f;
      printed = subst (λ (t : List ℕ). Appends was is t) (sym told.texts) printed;
      backups = ap (λ (l : List Backup). l ++ kept) (sym told.backups);
      heard = subst (λ (l : List (Option Question)). Hears before later l) (sym told.asks) hears;
    }

    -- a beginning of them was printed
    pub group_cut : (was is : Option (List ℕ)) (before : Left) → Begins was is text → HearsSome before qs
        → (kept : List Backup)
        → TalkEnds watch old (with_left before (outputs was kept)) new (outputs is kept)
    group_cut was is before printed hears kept = λ f. record {
      said = told.said;
      ended = ended_here old new told.said (group_said f);
      printed = subst (λ (t : List ℕ). Begins was is t) (sym told.texts) printed;
      backups = ap (λ (l : List Backup). l ++ kept) (sym told.backups);
      heard = subst (λ (l : List (Option Question)). HearsSome before l) (sym told.asks) hears;
    }
