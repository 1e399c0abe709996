-- What was said over a session, line by line.
use Rattle.std.proofs.Common.{◌≡◌, ℕ, suc, ◌+◌, Bool, false, List, [], ◌∷◌, ◌++◌, length, take, IfSome, Some, None, Ok}
use Rattle.std.proofs.Common.{Err, Option, Result, MatchResult, sym, refl, ap, ◌∙◌, subst, ap₂, append_assoc}
use Rattle.std.proofs.Common.{append-nil, arith, length-append}
use Rattle.std.{proofs.KnownBytes.Appends-nil, proofs.KnownBytes.Appends-trans, specs.Io.KnownBytes.Appends}
use Rattle.im_types.specs.Types.{Command, Refusal, Contents, after}
use Rattle.im_laws.proofs.RunLemmas.{after-append}
use Rattle.{im_checkpoint.specs.declared.TurnDone.TurnDone, im_engine.specs.Answered.TurnAnswered}
use Rattle.{im_turning.proofs.TurningLemmas.turn_leads, im_text.specs.Printing.Begins}
use Rattle.im_turning.specs.Turning.{Point, point_of, TurnsLead}
use Rattle.im_session.proofs.RoomLemmas.{rests_none, rests_then, turn_works}
use Rattle.im_session.specs.{Kept.session_of, Kept.SessionState, Serving.Rests}
use Rattle.im_dialogue.proofs.HearingLemmas.{heard_some, hears_as, hears_none, hears_on, hears_some_on, same_left}
use Rattle.im_dialogue.specs.{Answers.answer_text, Asking.asked_of, Backups.Backup, declared.asking.Question.Question}
use Rattle.im_dialogue.specs.{Hearing.Hears, Hearing.HearsSome, Hearing.is_quit, Watching.watch_text}
use Rattle.im_dialogue.specs.declared.answers.LineAnswer.{LineAnswer, TheVariants.Turned}
use Rattle.im_dialogue.specs.Talk.{AnswersQuestion, AreAnswered, backup_by, backups_of, Exchange, exchange_at, Halts}
use Rattle.im_dialogue.specs.Talk.{HasEnded, HasSaid, OnlyTurned, Outputs, outputs, point_behind, put_by, put_of}
use Rattle.im_dialogue.specs.Talk.{questions_of, SaysLine, SaysNow, stands_behind, TalkEnds, Talking, TalksOn, texts_of}
use Rattle.im_dialogue.specs.Talk.{with_left}
use Rattle.im_dialogue.specs.declared.asking.Question.TheVariants as asks

-- what an input still asks for, where that is known
abbrev pub Left : Type 0
Left = Option (List (Option Question))

-- what was answered doesn't end the dialogue
pub not_quit : (m : Contents) (n : ℕ) (turns : List TurnDone) (here : Point) (asked : Question) (answer : LineAnswer)
    → AnswersQuestion m n turns here (Some asked) answer → is_quit (Some asked) ≡ false
not_quit m n turns here (asks.Serve command) answer it = refl
not_quit m n turns here (asks.Look look) answer it = refl
not_quit m n turns here (asks.Window element) answer it = refl
not_quit m n turns here asks.Room answer it = refl
not_quit m n turns here asks.Turn answer it = refl
not_quit m n turns here asks.Count answer it = refl
not_quit m n turns here asks.About answer it = refl
not_quit m n turns here (asks.Backup name) answer it = refl
not_quit m n turns here asks.Quit answer it = absurd it

-- the beginning of a text, and so many bytes of what follows
pub take-past : {A : Type 0} (xs ys : List A) (n : ℕ) → take (length xs + n) (xs ++ ys) ≡ xs ++ take n ys
take-past [] ys n = ap (λ k. take k ys) (omega arith)
take-past (x ∷ xs) ys n =
    let e : length (x ∷ xs) + n ≡ suc (length xs + n) = omega arith in
    ap (λ k. take k (x ∷ (xs ++ ys))) e ∙ ap (λ l. x ∷ l) (take-past xs ys n)

-- ---- what was said, and then more

-- what was put by all of it
pub put_append : (m : Contents) (ys xs : List Exchange)
    → put_of m (ys ++ xs) ≡ put_of m xs ++ put_of (after m (put_of m xs)) ys
put_append m [] xs = sym (append-nil (put_of m xs))
put_append m (y ∷ ys) xs =
    let here : Contents = after m (put_of m xs) in
    let rest : put_of m (ys ++ xs) ≡ put_of m xs ++ put_of here ys = put_append m ys xs in
    ap₂ (λ (l : List Command) (k : Contents). l ++ put_by k y.answer) rest
    (ap (λ (l : List Command). after m l) rest ∙ after-append m (put_of m xs) (put_of here ys))
    ∙ append_assoc (put_of m xs) (put_of here ys) (put_by (after here (put_of here ys)) y.answer)

-- the memory behind it
behind_append : (m : Contents) (ys xs : List Exchange)
    → after m (put_of m (ys ++ xs)) ≡ after (after m (put_of m xs)) (put_of (after m (put_of m xs)) ys)
behind_append m ys xs = ap (λ (l : List Command). after m l) (put_append m ys xs)
    ∙ after-append m (put_of m xs) (put_of (after m (put_of m xs)) ys)

-- its lines
texts_append : (watch : Bool) (m : Contents) (ys xs : List Exchange)
    → texts_of watch m (ys ++ xs) ≡ texts_of watch m xs ++ texts_of watch (after m (put_of m xs)) ys
texts_append watch m [] xs = sym (append-nil (texts_of watch m xs))
texts_append watch m (y ∷ ys) xs =
    let here : Contents = after m (put_of m xs) in
    let last : Contents → List ℕ = λ k. answer_text y.name k y.answer ++ watch_text watch k y.answer in
    ap₂ (λ (t : List ℕ) (k : Contents). t ++ last k) (texts_append watch m ys xs) (behind_append m ys xs)
    ∙ append_assoc (texts_of watch m xs) (texts_of watch here ys) (last (after here (put_of here ys)))

-- its backups
backups_append : (m : Contents) (ys xs : List Exchange)
    → backups_of m (ys ++ xs) ≡ backups_of (after m (put_of m xs)) ys ++ backups_of m xs
backups_append m [] xs = refl
backups_append m (y ∷ ys) xs =
    let here : Contents = after m (put_of m xs) in
    ap₂ (λ (k : Contents) (l : List Backup). backup_by k y.answer ++ l) (behind_append m ys xs) (backups_append m ys xs)
    ∙ sym (append_assoc (backup_by (after here (put_of here ys)) y.answer) (backups_of here ys) (backups_of m xs))

-- what it asked for
questions_append : (ys xs : List Exchange) → questions_of (ys ++ xs) ≡ questions_of xs ++ questions_of ys
questions_append [] xs = sym (append-nil (questions_of xs))
questions_append (y ∷ ys) xs =
    ap (λ (l : List (Option Question)). l ++ asked_of y.line ∷ []) (questions_append ys xs)
    ∙ append_assoc (questions_of xs) (questions_of ys) (asked_of y.line ∷ [])

-- turns, and then more
turns_append : (ts us : List TurnDone) (p q r : Point) → TurnsLead us p q → TurnsLead ts q r → TurnsLead (ts ++ us) p r
turns_append [] us p q r first same = subst (λ (x : Point). TurnsLead us p x) (sym same) first
turns_append (t ∷ ts) us p q r first (mid, (before, last)) = (mid, (turns_append ts us p q mid first before, last))

-- an answer behind more turns
answers_later : (m : Contents) (n : ℕ) (turns more : List TurnDone) (p : Point) (asked : Option Question)
    (answer : LineAnswer) → AnswersQuestion m n turns p asked answer
    → AnswersQuestion m n (turns ++ more) p asked answer
answers_later m n turns more p (Some (asks.Serve command)) answer it = it
answers_later m n turns more p (Some (asks.Look look)) answer it = it
answers_later m n turns more p (Some (asks.Window element)) answer it = it
answers_later m n turns more p (Some asks.Room) answer it = it
answers_later m n turns more p (Some asks.Turn) answer (done, (is, (before, same))) =
    (done, (is, (before ++ more, ap (λ (l : List TurnDone). l ++ more) same)))
answers_later m n turns more p (Some asks.Count) answer it = it
answers_later m n turns more p (Some asks.About) answer it = it
answers_later m n turns more p (Some (asks.Backup name)) answer it = it
answers_later m n turns more p (Some asks.Quit) answer it = it
answers_later m n turns more p None answer it = it

-- turns lead from behind what was said to where more was said
module _ (m : Contents) (p : Point) (xs : List Exchange) (q : Point) (us : List TurnDone)
    (lead : TurnsLead us (stands_behind m p xs) q) (counted : q.count ≡ p.count + length (put_of m xs)) where
  abbrev here : Contents
  here = after m (put_of m xs)

  turns_before : (ys : List Exchange)
      → (more : List TurnDone) × TurnsLead more (stands_behind m p (ys ++ xs)) (stands_behind here q ys)
  turns_before [] = (us, lead)
  turns_before (y ∷ ys) = (
    [],
    ap (λ (k : Contents). point_behind (length (put_by k y.answer)) y.here)
        (sym (behind_append m ys xs)),
  )

  answered_append : (ys : List Exchange) → AreAnswered here q ys → AreAnswered m p xs → AreAnswered m p (ys ++ xs)
  answered_append [] it base = base
  answered_append (y ∷ ys) (turns, (answer, (led, rest))) base =
      let before = turns_before ys in
      let same : after here (put_of here ys) ≡ after m (put_of m (ys ++ xs)) = sym (behind_append m ys xs) in
      let count : q.count + length (put_of here ys) ≡ p.count + length (put_of m (ys ++ xs)) = omega (
        arith,
        counted,
        ap (λ (l : List Command). length l) (put_append m ys xs),
        length-append (put_of m xs) (put_of here ys),
      ) in (
        turns ++ before.0,
        (
          subst (λ (n : ℕ). AnswersQuestion (after m (put_of m (ys ++ xs))) n (turns ++ before.0) y.here
              (asked_of y.line) y.answer) count
              (subst (λ (k : Contents). AnswersQuestion k (q.count + length (put_of here ys)) (turns ++ before.0) y.here
              (asked_of y.line) y.answer) same
              (answers_later (after here (put_of here ys)) (q.count + length (put_of here ys)) turns before.0 y.here
              (asked_of y.line) y.answer answer)),
          (
            turns_append turns before.0 (stands_behind m p (ys ++ xs)) (stands_behind here q ys) y.here before.1 led,
            answered_append ys rest base,
          ),
        ),
      )

-- ---- with a session

module _ {D : Type 0} (old mid new : SessionState D) (xs ys : List Exchange) (first : HasSaid old mid xs) where
  abbrev was : Contents
  was = old.engine.memory

  abbrev been : Contents
  been = mid.engine.memory

  -- what was put by all of it
  all_put : put_of was (ys ++ xs) ≡ put_of was xs ++ put_of been ys
  all_put = put_append was ys xs ∙ ap (λ (k : Contents). put_of was xs ++ put_of k ys) (sym first.memory)

  all_answered : AreAnswered been (point_of mid.engine) ys → AreAnswered was (point_of old.engine) (ys ++ xs)
  all_answered it = answered_append was (point_of old.engine) xs (point_of mid.engine) first.turns first.lead
      first.count ys (subst (λ (k : Contents). AreAnswered k (point_of mid.engine) ys) first.memory it) first.answered

  -- what the session has put then
  all_of_it : old.put ++ put_of was (ys ++ xs) ≡ (old.put ++ put_of was xs) ++ put_of been ys
  all_of_it = ap (λ (l : List Command). old.put ++ l) all_put
      ∙ sym (append_assoc old.put (put_of was xs) (put_of been ys))

  pub said_on : HasSaid mid new ys → HasSaid old new (ys ++ xs)
  said_on it =
      let before = turns_before was (point_of old.engine) xs (point_of mid.engine) first.turns first.lead first.count ys
      in
      record {
        answered = all_answered it.answered;
        turns = it.turns ++ before.0;
        lead = turns_append it.turns before.0 (stands_behind was (point_of old.engine) (ys ++ xs))
            (stands_behind (after was (put_of was xs)) (point_of mid.engine) ys) (point_of new.engine) before.1
            (subst (λ (k : Contents). TurnsLead it.turns (stands_behind k (point_of mid.engine) ys)
            (point_of new.engine)) first.memory it.lead);
        same = it.same
            ∙ ap (λ (s : SessionState D). session_of s.start (s.put ++ put_of been ys) s.doubt new.engine) first.same
            ∙ ap (λ (l : List Command). session_of old.start l old.doubt new.engine) (sym all_of_it);
        memory = it.memory ∙ ap (λ (k : Contents). after k (put_of been ys)) first.memory
            ∙ sym (after-append was (put_of was xs) (put_of been ys))
            ∙ ap (λ (l : List Command). after was l) (sym all_put);
        count = omega (
          arith,
          it.count,
          first.count,
          ap (λ (l : List Command). length l) all_put,
          length-append (put_of was xs) (put_of been ys),
        );
        works = it.works;
      }

  pub ended_on : HasEnded mid new ys → HasEnded old new (ys ++ xs)
  ended_on it = record {
    answered = all_answered it.answered;
    doubt = it.doubt;
    few = it.few;
    same = it.same
        ∙ ap (λ (s : SessionState D). session_of s.start (s.put ++ put_of been ys) (s.doubt ++ it.doubt) new.engine)
        first.same
        ∙ ap (λ (l : List Command). session_of old.start l (old.doubt ++ it.doubt) new.engine) (sym all_of_it);
  }

-- nothing was said yet
pub nothing_said : {D : Type 0} (s : SessionState D) → s.engine.failed ≡ false → HasSaid s s []
nothing_said s f = record {
  answered = tt;
  turns = [];
  lead = refl;
  same = ap (λ (l : List Command). session_of s.start l s.doubt s.engine) (sym (append-nil s.put));
  memory = refl;
  count = omega arith;
  works = f;
}

-- it is ended where it stands
pub ended_here : {D : Type 0} (old new : SessionState D) (said : List Exchange) → HasSaid old new said
    → HasEnded old new said
ended_here old new said it = record {
  answered = it.answered;
  doubt = [];
  few = omega arith;
  same = it.same
      ∙ ap (λ (l : List Command). session_of old.start (old.put ++ put_of old.engine.memory said) l new.engine)
      (sym (append-nil old.doubt));
}

-- ---- turns

abbrev pub taken_none : {D : Type 0} (s : SessionState D) → OnlyTurned s s
taken_none s = record { rests = rests_none s; works = refl; turns = []; lead = refl }

abbrev pub taken_more : {D : Type 0} (old mid new : SessionState D) (a : Result TurnDone Refusal) (done : TurnDone)
    → OnlyTurned old mid → Rests mid new → TurnAnswered mid.engine a new.engine → a ≡ Ok done → OnlyTurned old new
taken_more old mid new a done it rests answered is = record {
  rests = rests_then old mid new it.rests rests;
  works = turn_works mid.engine new.engine a done answered is ∙ it.works;
  turns = done ∷ it.turns;
  lead = (point_of mid.engine, (it.lead, turn_leads mid.engine new.engine a done answered is));
}

-- nothing was said by them
abbrev pub taken_said : {D : Type 0} (old new : SessionState D) → OnlyTurned old new → old.engine.failed ≡ false
    → HasSaid old new []
taken_said {D} old new it f = record {
  answered = tt;
  turns = it.turns;
  lead = it.lead;
  same = it.rests.same
      ∙ ap (λ (l : List Command). session_of old.start l old.doubt new.engine) (sym (append-nil old.put));
  memory = it.rests.memory;
  count = let count = it.rests.count in omega (arith, count);
  works = it.works ∙ f;
}

-- it was ended by a turn
pub rests_halts : {D : Type 0} (old new : SessionState D) → Rests old new → Halts old new
rests_halts {D} old new rests = λ f. record {
  answered = tt;
  doubt = [];
  few = omega arith;
  same = rests.same ∙ ap₂ (λ (l k : List Command). session_of old.start l k new.engine) (sym (append-nil old.put))
      (sym (append-nil old.doubt));
}

-- ---- one line

-- a line that puts nothing was answered behind turns
quiet_said : {D : Type 0} (old new : SessionState D) (rest : HasSaid old new []) (asked : Option Question)
    (answer : LineAnswer) → ((m : Contents) → put_by m answer ≡ [])
    → AnswersQuestion old.engine.memory old.engine.count rest.turns (point_of new.engine) asked answer
    → (line name : List ℕ) → asked_of line ≡ asked
    → (here : Point) × HasSaid old new (exchange_at line answer name here ∷ [])
quiet_said {D} old new rest asked answer none answers line name read =
    let here : Point = point_of new.engine in
    let nothing : put_by old.engine.memory answer ≡ [] = none old.engine.memory in
    let n : old.engine.count ≡ old.engine.count + length (put_of old.engine.memory []) = omega arith in
    let count = rest.count in (
      here,
      record {
        answered = (
          rest.turns,
          (
            subst (λ (o : Option Question). AnswersQuestion old.engine.memory
                (old.engine.count + length (put_of old.engine.memory [])) rest.turns here o answer) (sym read)
                (subst (λ (k : ℕ). AnswersQuestion old.engine.memory k rest.turns here asked answer) n answers),
            (rest.lead, tt),
          ),
        );
        turns = [];
        lead = sym (ap (λ (l : List Command). point_behind (length l) here) nothing);
        same = rest.same
            ∙ ap (λ (l : List Command). session_of old.start (old.put ++ l) old.doubt new.engine) (sym nothing);
        memory = rest.memory ∙ ap (λ (l : List Command). after old.engine.memory l) (sym nothing);
        count = omega (arith, count, ap (λ (l : List Command). length l) nothing);
        works = rest.works;
      },
    )

-- a line was answered, and the session is as it was
pub quiet : {D : Type 0} (s : SessionState D) (asked : Option Question) (answer : LineAnswer)
    → ((m : Contents) → put_by m answer ≡ [])
    → (s.engine.failed ≡ false → (turns : List TurnDone) → AnswersQuestion s.engine.memory s.engine.count
    turns (point_of s.engine) asked answer)
    → SaysNow s asked answer
quiet s asked answer none answers = λ f line name read.
    let rest = nothing_said s f in quiet_said s s rest asked answer none (answers f rest.turns) line name read

-- a turn that was asked for, and what it did
pub turn_says : {D : Type 0} (old new : SessionState D) (a : Result TurnDone Refusal) (done : TurnDone) → Rests old new
    → TurnAnswered old.engine a new.engine → a ≡ Ok done → SaysLine old new (Some asks.Turn) (Turned done)
turn_says old new a done rests answered is = λ f line name read.
    quiet_said old new (taken_said old new (taken_more old old new a done (taken_none old) rests answered is) f)
    (Some asks.Turn) (Turned done) (λ m. refl) (done, (refl, ([], refl))) line name read

pub says_as : {D : Type 0} (old new : SessionState D) (asked other : Option Question) (answer : LineAnswer)
    → other ≡ asked → SaysLine old new asked answer → SaysLine old new other answer
says_as old new asked other answer same says = λ f line name read. says f line name (read ∙ same)

-- ---- what was printed

-- a text, and a beginning of what follows
begins_past : (a b c : Option (List ℕ)) (xs ys : List ℕ) → Appends a b xs → Begins b c ys → Begins a c (xs ++ ys)
begins_past a b c xs ys before (many, more) = (
  length xs + many,
  subst (Appends a c) (sym (take-past xs ys many)) (Appends-trans a b c xs (take many ys) before more),
)

-- the line of an answer on this memory, and what is told behind it
abbrev line_on : Bool → List ℕ → Contents → LineAnswer → List ℕ
line_on watch name m answer = answer_text name m answer ++ watch_text watch m answer

module _ {D : Type 0} (watch : Bool) where
  abbrev On : SessionState D → Outputs → SessionState D → Outputs → Type 0
  On = TalksOn watch

  abbrev Ends : SessionState D → Outputs → SessionState D → Outputs → Type 0
  Ends = TalkEnds watch

  -- what was said, and then more
  module _ (old mid : SessionState D) (was been : Outputs) (a : Talking watch old was mid been) (ys : List Exchange)
    where
      all_texts : texts_of watch old.engine.memory a.said ++ texts_of watch mid.engine.memory ys
          ≡ texts_of watch old.engine.memory (ys ++ a.said)
      all_texts = ap (λ (k : Contents). texts_of watch old.engine.memory a.said ++ texts_of watch k ys) a.done.memory
          ∙ sym (texts_append watch old.engine.memory ys a.said)

      all_kept : (is : Outputs) → is.backups ≡ backups_of mid.engine.memory ys ++ been.backups
          → is.backups ≡ backups_of old.engine.memory (ys ++ a.said) ++ was.backups
      all_kept is kept = kept
          ∙ ap₂ (λ (k : Contents) (l : List Backup). backups_of k ys ++ l) a.done.memory a.backups
          ∙ sym (append_assoc (backups_of (after old.engine.memory (put_of old.engine.memory a.said)) ys)
          (backups_of old.engine.memory a.said) was.backups)
          ∙ ap (λ (l : List Backup). l ++ was.backups) (sym (backups_append old.engine.memory ys a.said))

  -- what was said, and then what the last call comes to
  pub then_talks : {T E : Type 0} (old mid new : SessionState D) (was been : Outputs) (is : T → Outputs) (end : Outputs)
      (result : Result T E) → On old was mid been
      → MatchResult result (λ n. On mid been new (is n)) (λ e. Ends mid been new end)
      → MatchResult result (λ n. On old was new (is n)) (λ e. Ends old was new end)
  then_talks old mid new was been is end (Ok n) on it = λ f.
      let a = on f in
      let b = it a.done.works in
      record {
        said = b.said ++ a.said;
        done = said_on old mid new a.said b.said a.done b.done;
        printed = subst (Appends was.text (is n).text) (all_texts old mid was been a b.said)
            (Appends-trans was.text been.text (is n).text (texts_of watch old.engine.memory a.said)
            (texts_of watch mid.engine.memory b.said) a.printed b.printed);
        backups = all_kept old mid was been a b.said (is n) b.backups;
        heard = subst (λ (l : List (Option Question)). Hears was.left (is n).left l)
            (sym (questions_append b.said a.said)) (hears_on was.left been.left (is n).left (questions_of a.said)
            (questions_of b.said) a.heard b.heard);
      }
  then_talks old mid new was been is end (Err e) on it = λ f.
      let a = on f in
      let b = it a.done.works in
      record {
        said = b.said ++ a.said;
        ended = ended_on old mid new a.said b.said a.done b.ended;
        printed = subst (Begins was.text end.text) (all_texts old mid was been a b.said)
            (begins_past was.text been.text end.text (texts_of watch old.engine.memory a.said)
            (texts_of watch mid.engine.memory b.said) a.printed b.printed);
        backups = all_kept old mid was been a b.said end b.backups;
        heard = subst (λ (l : List (Option Question)). HearsSome was.left l) (sym (questions_append b.said a.said))
            (hears_some_on was.left been.left (questions_of a.said) (questions_of b.said) a.heard b.heard);
      }

  pub on_after : (old mid new : SessionState D) (was been is : Outputs) → On old was mid been → On mid been new is
      → On old was new is
  on_after old mid new was been is on it =
      then_talks {E = ⊥} old mid new was been (λ (done : Unit {0}). is) is (Ok tt) on it

  pub ends_after : (old mid new : SessionState D) (was been is : Outputs) → On old was mid been → Ends mid been new is
      → Ends old was new is
  ends_after old mid new was been is on it =
      then_talks {T = ⊥} {E = Unit {0}} old mid new was been (λ done. is) is (Err tt) on it

  -- nothing was said, and what is left is known as well by another name
  pub nothing_talked : (old new : SessionState D) (was : Outputs) (later : Left)
      → (old.engine.failed ≡ false → HasSaid old new []) → IfSome was.left (λ l. later ≡ Some l)
      → On old was new (with_left later was)
  nothing_talked old new was later done same = λ f. record {
    said = [];
    done = done f;
    printed = Appends-nil was.text;
    backups = refl;
    heard = hears_as was.left was.left later [] (hears_none was.left) same;
  }

  pub goes_talk : (old new : SessionState D) (was : Outputs) → (old.engine.failed ≡ false → HasSaid old new [])
      → On old was new was
  goes_talk old new was done = nothing_talked old new was was.left done (same_left was.left was.left refl)

  -- it was ended, and nothing was said
  pub halts_talk : (old new : SessionState D) (was : Outputs) (left : Left) → Halts old new
      → Ends old was new (with_left left was)
  halts_talk old new was left halts = λ f. record {
    said = [];
    ended = halts f;
    printed = (0, Appends-nil was.text);
    backups = refl;
    heard = heard_some was.left was.left [] (hears_none was.left);
  }

  pub talk_ends_here : (s : SessionState D) (was : Outputs) (left : Left) → Ends s was s (with_left left was)
  talk_ends_here s was left = halts_talk s s was left (λ f. ended_here s s [] (nothing_said s f))

  -- what was said is ended where it stands
  pub end_here : (old new : SessionState D) (was is : Outputs) (left : Left) → On old was new is
      → Ends old was new (with_left left is)
  end_here old new was is left on = ends_after old new new was is (with_left left is) on (talk_ends_here new is left)

  -- ---- a line

  -- what was answered
  answered_so : (old new : SessionState D) (asked : Option Question) (answer : LineAnswer) (line name : List ℕ)
      (here : Point) → asked_of line ≡ asked → (it : HasSaid old new (exchange_at line answer name here ∷ []))
      → AnswersQuestion old.engine.memory (old.engine.count + length (put_of old.engine.memory [])) it.answered.0 here
      asked answer
  answered_so old new asked answer line name here read it =
      subst (λ (o : Option Question). AnswersQuestion old.engine.memory
      (old.engine.count + length (put_of old.engine.memory [])) it.answered.0 here o answer) read it.answered.1.0

  module _ (old new : SessionState D) (was is : Outputs) (asked : Option Question) (answer : LineAnswer)
      (line name told : List ℕ) (read : asked_of line ≡ asked) (says : SaysLine old new asked answer)
      (tells : (n : ℕ) (turns : List TurnDone) (here : Point)
      → AnswersQuestion old.engine.memory n turns here asked answer
      → told ≡ line_on watch name old.engine.memory answer)
      (kept : is.backups ≡ backup_by old.engine.memory answer ++ was.backups) where
    abbrev many : ℕ
    many = old.engine.count + length (put_of old.engine.memory [])

    one_kept : (p : Point)
        → is.backups ≡ backups_of old.engine.memory (exchange_at line answer name p ∷ []) ++ was.backups
    one_kept p = kept
        ∙ ap (λ (l : List Backup). l ++ was.backups) (sym (append-nil (backup_by old.engine.memory answer)))

    -- it was printed, and those behind it
    pub talks_on : Appends was.text is.text told
        → ((n : ℕ) (turns : List TurnDone) (here : Point)
        → AnswersQuestion old.engine.memory n turns here asked answer → Hears was.left is.left (asked ∷ []))
        → On old was new is
    talks_on printed hears = λ f.
        let said = says f line name read in
        let so = answered_so old new asked answer line name said.0 read said.1 in
        record {
          said = exchange_at line answer name said.0 ∷ [];
          done = said.1;
          printed = subst (Appends was.text is.text) (tells many said.1.answered.0 said.0 so) printed;
          backups = one_kept said.0;
          heard = subst (λ (o : Option Question). Hears was.left is.left (o ∷ [])) (sym read)
              (hears many said.1.answered.0 said.0 so);
        }

    -- a beginning of them was printed
    pub talk_ends : (left : Left) → Begins was.text is.text told
        → ((n : ℕ) (turns : List TurnDone) (here : Point)
        → AnswersQuestion old.engine.memory n turns here asked answer → Hears was.left left (asked ∷ []))
        → Ends old was new is
    talk_ends left printed hears = λ f.
        let said = says f line name read in
        let so = answered_so old new asked answer line name said.0 read said.1 in
        record {
          said = exchange_at line answer name said.0 ∷ [];
          ended = ended_here old new (exchange_at line answer name said.0 ∷ []) said.1;
          printed = subst (Begins was.text is.text) (tells many said.1.answered.0 said.0 so) printed;
          backups = one_kept said.0;
          heard = heard_some was.left left (asked_of line ∷ [])
              (subst (λ (o : Option Question). Hears was.left left (o ∷ [])) (sym read)
              (hears many said.1.answered.0 said.0 so));
        }

  -- ---- what is left, by another name

  pub left_as : (s : SessionState D) (was : Outputs) (before later : Left) → IfSome before (λ l. later ≡ Some l)
      → On s (with_left before was) s (with_left later was)
  left_as s was before later same = nothing_talked s s (with_left before was) later (nothing_said s) same

  pub to_left : (old new : SessionState D) (was is : Outputs) (mid later : Left)
      → IfSome mid (λ l. later ≡ Some l) → On old was new (with_left mid is)
      → On old was new (with_left later is)
  to_left old new was is mid later same on =
      on_after old new new was (with_left mid is) (with_left later is) on (left_as new is mid later same)

  -- the end was asked for, and nothing was said
  pub quit_talk : (old new : SessionState D) (text : Option (List ℕ)) (was is : List Backup) (before later : Left)
      → new ≡ old → is ≡ was → IfSome before (λ l. later ≡ Some l)
      → On old (with_left before (outputs text was)) new (with_left later (outputs text is))
  quit_talk old new text was is before later same kept left =
      subst (λ (s : SessionState D). On old (with_left before (outputs text was)) s (with_left later (outputs text is)))
      (sym same)
      (subst (λ (l : List Backup). On old (with_left before (outputs text was)) old (with_left later (outputs text l)))
      (sym kept) (left_as old (outputs text was) before later left))
