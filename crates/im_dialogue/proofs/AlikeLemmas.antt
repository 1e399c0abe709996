-- What the memory answers, and what is put, follows from the commands that were asked ahead.
use Rattle.std.proofs.Common.{◌≡◌, ℕ, ◌+◌, true, List, [], ◌∷◌, ◌++◌, length, Some, None, Err, All, Option, Result, sym}
use Rattle.std.proofs.Common.{refl, ap, ◌∙◌, subst, ap₂, ⊎_elim, append-nil}
use Rattle.std.proofs.lemmas.List.Elements.{All-head, All-tail}
use Rattle.im_types.specs.Types.{Command, Outcome, Refusal, JournalFull, Contents, bounds, step, after, Means}
use Rattle.{im_types.proofs.Tests.false_true, im_checkpoint.specs.declared.TurnDone.TurnDone}
use Rattle.im_disk.specs.{declared.Disk.Ghosts, Moment.Left, Since.LeavesNow}
use Rattle.im_turning.specs.Turning.{Point, point_of}
use Rattle.im_session.specs.{Kept.MeansPut, Kept.SessionStart, Kept.start_at, Put.sure_by}
use Rattle.im_dialogue.specs.Alike.{AskAlike, command_asked, commands_said, EndAlike, is_of_memory, LeaveOne, LineOf}
use Rattle.im_dialogue.specs.Alike.{TalkOf}
use Rattle.im_dialogue.specs.Asking.{asked_of}
use Rattle.im_dialogue.specs.declared.{answers.LineAnswer.LineAnswer, asking.Question.Question}
use Rattle.im_dialogue.specs.declared.answers.LineAnswer.TheVariants.{About as Facts, Backup as BackedUp, Count, Looked}
use Rattle.im_dialogue.specs.declared.answers.LineAnswer.TheVariants.{Room, Served, Turned, Window, Wrong}
use Rattle.im_dialogue.specs.Talk.{about_of, AnswersQuestion, AreAnswered, Exchange, put_by, put_of}
use Rattle.im_dialogue.specs.declared.asking.Question.TheVariants as asks

-- ---- one line

-- no command was answered that the journal is full
abbrev HasRoom : LineAnswer → Type 0
HasRoom answer = (command : Command) → (answer ≡ Served command (Err JournalFull)) → ⊥

-- what a line that was said was answered
abbrev RoomAt : Exchange → Type 0
RoomAt x = (command : Command) → (x.answer ≡ Served command (Err JournalFull)) → ⊥

-- what this memory answers, after this many commands
abbrev told_on : Contents → ℕ → Option Question → LineAnswer
told_on m n (Some (asks.Serve command)) = Served command (step m command).answer
told_on m n (Some (asks.Look look)) = Looked look
told_on m n (Some (asks.Window element)) = Window element (bounds m.windows element)
told_on m n asked = Count n

served_is : (m : Contents) (n : ℕ) (turns : List TurnDone) (here : Point) (command : Command) (answer : LineAnswer)
    → AnswersQuestion m n turns here (Some (asks.Serve command)) answer → HasRoom answer
    → answer ≡ Served command (step m command).answer
served_is m n turns here command answer (outcome, is, either) room = ⊎_elim
    (λ told. is ∙ ap (λ (r : Result Outcome Refusal). Served command r) told)
    (λ full. absurd (room command (is ∙ ap (λ (r : Result Outcome Refusal). Served command r) full.1.0)))
    either

told_is : (m : Contents) (n : ℕ) (turns : List TurnDone) (here : Point) (asked : Option Question) (answer : LineAnswer)
    → AnswersQuestion m n turns here asked answer → HasRoom answer → is_of_memory asked ≡ true
    → answer ≡ told_on m n asked
told_is m n turns here (Some (asks.Serve command)) answer it room of_it =
    served_is m n turns here command answer it room
told_is m n turns here (Some (asks.Look look)) answer it room of_it = it
told_is m n turns here (Some (asks.Window element)) answer it room of_it = it
told_is m n turns here (Some asks.Room) answer it room of_it = absurd (false_true of_it)
told_is m n turns here (Some asks.Turn) answer it room of_it = absurd (false_true of_it)
told_is m n turns here (Some asks.Count) answer it room of_it = it
told_is m n turns here (Some asks.About) answer it room of_it = absurd (false_true of_it)
told_is m n turns here (Some (asks.Backup name)) answer it room of_it = absurd (false_true of_it)
told_is m n turns here (Some asks.Quit) answer it room of_it = absurd it
told_is m n turns here None answer it room of_it = absurd (false_true of_it)

-- ---- what is put

-- what of these commands is put, the last first
abbrev puts : Contents → List Command → List Command
puts m [] = []
puts m (c ∷ cs) = puts m cs ++ sure_by (after m (puts m cs)) c (step (after m (puts m cs)) c).answer

none_put : (m : Contents) (before : List Command) (answer given : LineAnswer) → answer ≡ given
    → put_by (after m before) given ≡ [] → before ++ put_by (after m before) answer ≡ before
none_put m before answer given is none =
    ap (λ (a : LineAnswer). before ++ put_by (after m before) a) is
    ∙ ap (λ (l : List Command). before ++ l) none ∙ append-nil before

-- what a line puts behind these commands
line_puts : (m : Contents) (cs : List Command) (n : ℕ) (turns : List TurnDone) (here : Point) (asked : Option Question)
    (answer : LineAnswer) → AnswersQuestion (after m (puts m cs)) n turns here asked answer → HasRoom answer
    → puts m cs ++ put_by (after m (puts m cs)) answer ≡ puts m (command_asked asked ++ cs)
line_puts m cs n turns here (Some (asks.Serve command)) answer it room =
    ap (λ (a : LineAnswer). puts m cs ++ put_by (after m (puts m cs)) a)
    (served_is (after m (puts m cs)) n turns here command answer it room)
line_puts m cs n turns here (Some (asks.Look look)) answer it room =
    none_put m (puts m cs) answer (Looked look) it refl
line_puts m cs n turns here (Some (asks.Window element)) answer it room =
    none_put m (puts m cs) answer (Window element (bounds (after m (puts m cs)).windows element)) it refl
line_puts m cs n turns here (Some asks.Room) answer it room = none_put m (puts m cs) answer (Room here.room) it refl
line_puts m cs n turns here (Some asks.Turn) answer (done, (is, before)) room =
    none_put m (puts m cs) answer (Turned done) is refl
line_puts m cs n turns here (Some asks.Count) answer it room = none_put m (puts m cs) answer (Count n) it refl
line_puts m cs n turns here (Some asks.About) answer (slots, is) room =
    none_put m (puts m cs) answer (Facts (about_of (after m (puts m cs)) slots n here.room)) is refl
line_puts m cs n turns here (Some (asks.Backup name)) answer (kept, is, fits) room =
    none_put m (puts m cs) answer (BackedUp name kept) is refl
line_puts m cs n turns here (Some asks.Quit) answer it room = absurd it
line_puts m cs n turns here None answer (number, (fault, is)) room =
    none_put m (puts m cs) answer (Wrong number fault) is refl

-- ---- lines, one behind the other

put_is : (m : Contents) (p : Point) (xs : List Exchange) → AreAnswered m p xs → All RoomAt xs
    → put_of m xs ≡ puts m (commands_said xs)
put_is m p [] it room = refl
put_is m p (x ∷ xs) (turns, (answer, (led, rest))) room =
    let before = put_is m p xs rest (All-tail RoomAt x xs room) in
    ap (λ (l : List Command). l ++ put_by (after m l) x.answer) before
    ∙ line_puts m (commands_said xs) (p.count + length (put_of m xs)) turns x.here (asked_of x.line) x.answer
    (subst (λ (l : List Command). AnswersQuestion (after m l) (p.count + length (put_of m xs)) turns x.here
    (asked_of x.line) x.answer) before answer)
    (All-head RoomAt x xs room)

-- those behind which others were said
answered_ahead : (m : Contents) (p : Point) (later xs : List Exchange) → AreAnswered m p (later ++ xs)
    → AreAnswered m p xs
answered_ahead m p [] xs it = it
answered_ahead m p (x ∷ later) xs (turns, (answer, (led, rest))) = answered_ahead m p later xs rest

room_ahead : (later xs : List Exchange) → All RoomAt (later ++ xs) → All RoomAt xs
room_ahead [] xs room = room
room_ahead (x ∷ later) xs room = room_ahead later xs (All-tail RoomAt x (later ++ xs) room)

-- the answer to the last of these lines
last_told : (m : Contents) (p : Point) (x : Exchange) (xs : List Exchange) → AreAnswered m p (x ∷ xs)
    → All RoomAt (x ∷ xs) → is_of_memory (asked_of x.line) ≡ true
    → x.answer ≡ told_on (after m (puts m (commands_said xs))) (p.count + length (puts m (commands_said xs)))
    (asked_of x.line)
last_told m p x xs (turns, (answer, (led, rest))) room of_it =
    let before = put_is m p xs rest (All-tail RoomAt x xs room) in
    told_is (after m (put_of m xs)) (p.count + length (put_of m xs)) turns x.here (asked_of x.line) x.answer answer
    (All-head RoomAt x xs room) of_it
    ∙ ap (λ (l : List Command). told_on (after m l) (p.count + length l) (asked_of x.line)) before

-- ---- a dialogue

-- a file means one memory and one count
abbrev pub MeansOne : Type 0
MeansOne = (file : List ℕ) (m n : Contents) (count other room more : ℕ) → Means m count room file
    → Means n other more file → (m ≡ n) × (count ≡ other)

-- what lines come to on this memory, after this many commands
record Said (m : Contents) (count : ℕ) (xs : List Exchange) : Type 0 where
  point : Point
  is : point.count ≡ count
  answered : AreAnswered m point xs
  room : All RoomAt xs

module _ {D : Type 0} (disk : Ghosts D) (m : Contents) (count : ℕ) (one : MeansOne) where
  first_is : (it : TalkOf disk m count) → (it.talked.first.memory ≡ m) × (it.talked.first.count ≡ count)
  first_is it =
      let found = it.talked.opened.found in
      one found.0 it.talked.first.memory m it.talked.first.count count it.talked.first.room 0 found.2
      (it.image found.0 found.1)

  all_said : (it : TalkOf disk m count) → Said m count it.talked.closed.said
  all_said it = record {
    point = point_of it.talked.first;
    is = (first_is it).1;
    answered = subst (λ (x : Contents). AreAnswered x (point_of it.talked.first) it.talked.closed.said)
        (first_is it).0 it.talked.closed.answered;
    room = it.room;
  }

  line_said : (it : LineOf disk m count) → Said m count (it.last ∷ it.ahead)
  line_said it =
      let whole = all_said it.talk in
      record {
        point = whole.point;
        is = whole.is;
        answered = answered_ahead m whole.point it.later (it.last ∷ it.ahead)
            (subst (λ (xs : List Exchange). AreAnswered m whole.point xs) it.stands whole.answered);
        room = room_ahead it.later (it.last ∷ it.ahead)
            (subst (λ (xs : List Exchange). All RoomAt xs) it.stands whole.room);
      }

  -- what a crash leaves at its end
  left_means : (it : TalkOf disk m count) → it.status ≡ 0 → (file : List ℕ) → Left (disk.now it.new) file
      → Means (after m (puts m (commands_said it.talked.closed.said)))
      (count + length (puts m (commands_said it.talked.closed.said))) 0 file
  left_means it zero file left =
      let closed = it.talked.closed in
      let s = closed.session in
      let first = it.talked.first in
      let whole = all_said it in
      let leaves = (closed.kept.leaves (subst disk.honest closed.closed it.honest)).now file
      (subst (λ (d : D). Left (disk.now d) file) closed.closed left) in
      let sure : MeansPut s.start s.put file = ⊎_elim (λ put. put)
      (λ all. subst (λ (l : List Command). MeansPut s.start l file)
      (ap (λ (l : List Command). s.put ++ l) (closed.whole zero).0 ∙ append-nil s.put) all)
      leaves in
      let begun : MeansPut (start_at first.disk first) s.put file =
      subst (λ (x : SessionStart D). MeansPut x s.put file) closed.begins sure in
      let put : s.put ≡ puts m (commands_said closed.said) = closed.put
      ∙ ap (λ (x : Contents). put_of x closed.said) (first_is it).0
      ∙ put_is m whole.point closed.said whole.answered whole.room in
      subst (λ (n : ℕ). Means (after m (puts m (commands_said closed.said)))
      (n + length (puts m (commands_said closed.said))) 0 file) (first_is it).1
      (subst (λ (x : Contents). Means (after x (puts m (commands_said closed.said)))
      (first.count + length (puts m (commands_said closed.said))) 0 file) (first_is it).0
      (subst (λ (l : List Command). Means (after first.memory l) (first.count + length l) 0 file) put begun))

  pub line_puts_are : (it : LineOf disk m count) → put_of m it.ahead ≡ puts m (commands_said it.ahead)
  line_puts_are it =
      let said = line_said it in
      put_is m said.point it.ahead (answered_ahead m said.point (it.last ∷ []) it.ahead said.answered)
      (All-tail RoomAt it.last it.ahead said.room)

  line_told : (it : LineOf disk m count) → is_of_memory (asked_of it.last.line) ≡ true → it.last.answer
      ≡ told_on (after m (puts m (commands_said it.ahead))) (count + length (puts m (commands_said it.ahead)))
      (asked_of it.last.line)
  line_told it of_it =
      let said = line_said it in
      last_told m said.point it.last it.ahead said.answered said.room of_it
      ∙ ap (λ (n : ℕ). told_on (after m (puts m (commands_said it.ahead)))
      (n + length (puts m (commands_said it.ahead))) (asked_of it.last.line)) said.is

-- ---- two dialogues

module _ {D E : Type 0} (disk : Ghosts D) (device : Ghosts E) (m : Contents) (count : ℕ) (means : MeansOne) where
  pub answered_alike : (one : LineOf disk m count) (other : LineOf device m count) → AskAlike one other
      → one.last.answer ≡ other.last.answer
  answered_alike one other (same, (asked, of_it)) =
      line_told disk m count means one of_it
      ∙ ap₂ (λ (cs : List Command) (q : Option Question). told_on (after m (puts m cs)) (count + length (puts m cs)) q)
      same asked
      ∙ sym (line_told device m count means other (ap is_of_memory (sym asked) ∙ of_it))

  pub put_alike : (one : LineOf disk m count) (other : LineOf device m count)
      → commands_said one.ahead ≡ commands_said other.ahead → put_of m one.ahead ≡ put_of m other.ahead
  put_alike one other same = line_puts_are disk m count means one ∙ ap (puts m) same
      ∙ sym (line_puts_are device m count means other)

  pub ended_alike : (one : TalkOf disk m count) (other : TalkOf device m count) → EndAlike one other
      → LeaveOne one other
  ended_alike one other (same, (zero, none)) = (
    after m (puts m (commands_said one.talked.closed.said)),
    (
      count + length (puts m (commands_said one.talked.closed.said)),
      (
        left_means disk m count means one zero,
        subst (λ (cs : List Command). LeavesNow (device.now other.new)
            (Means (after m (puts m cs)) (count + length (puts m cs)) 0)) (sym same)
            (left_means device m count means other none),
      ),
    ),
  )
