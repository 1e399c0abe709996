-- A server that serves a script: what it put is what the script asks for. (Own.)
use Rattle.std.proofs.Common.{◌≡◌, ℕ, zero, suc, ◌≤◌, Bool, true, false, List, [], ◌∷◌, ◌++◌, map, length, take, IfSome}
use Rattle.std.proofs.Common.{IfOk, if◌then◌else◌, OnOk, OnErr, IsOk, slice_get, Some, None, Ok, Err, Option, Result}
use Rattle.std.proofs.Common.{sym, refl, ap, ◌∙◌, subst, ⊎_elim, append_assoc, append-nil, arith, Bor}
use Rattle.std.specs.Option.{option_map_or}
use Rattle.im_types.specs.Types.{Entry, Op, Waiter, Waiting, Answered as Replied, Request, Command, Outcome, Asks}
use Rattle.im_types.specs.Types.{Confirm, Tells, Confirmed, Refusal, Window, Contents, IsWindow, IsMemory}
use Rattle.im_types.specs.Types.{WaitingAgrees, confirm_window, bounds, asker, step_confirm, step, is_accepted, after}
use Rattle.im_types.specs.Types.{accepted}
use Rattle.im_laws.proofs.AcceptLemmas.{unaccepted-leaves}
use Rattle.im_laws.proofs.{MemoryLemmas.after-memory, RunLemmas.after-append, Tests.true_or_false}
use Rattle.{im_disk.specs.declared.Disk.Ghosts, im_asks.specs.Windows.IsDue}
use Rattle.im_session.specs.Kept.{IsFresh, Kept, SessionStart, SessionState}
use Rattle.im_session.specs.Serving.{CommandRefused, CommandServed}
use Rattle.im_script.specs.{declared.Said.Said, Places.action_op, Script.Draft, Script.lines_of}
use Rattle.im_text.proofs.PrintingLemmas.{take-all, take-prefix, true_false}
use Rattle.im_text.proofs.SaidLemmas.{prints_begins, prints_none, replies_more, waits_more}
use Rattle.im_text.specs.declared.{Lines.Lines, OutputLine.OutputLine, Waited.Waited}
use Rattle.im_text.specs.Said.{IsLast, nows, Output, output_by, Prints, PrintsMore, PrintsNows, PrintsOn, replied}
use Rattle.im_text.specs.Said.{replies, reply_line, SaysSome, SaysWhole, waits, waits_by, waits_if, who_of, Written}
use Rattle.im_serial.proofs.AskedLemmas.{due_more, named_asked, named_confirmed, named_first, request_is, stands_asked}
use Rattle.im_serial.proofs.AskedLemmas.{stands_confirmed, stands_first, stands_here, stands_last, wanted_line}
use Rattle.im_serial.proofs.NotedLemmas.{known_asked, noted_asked, noted_confirmed, noted_known, noted_same}
use Rattle.im_serial.proofs.NotedLemmas.{noted_waits}
use Rattle.im_serial.proofs.ServingLemmas.{next_is_new}
use Rattle.im_serial.specs.Asked.{AreDue, bases_by, Course, earlier_in, HasNamed, HasReached, LeadsIf, request_in}
use Rattle.im_serial.specs.Asked.{said_at, Standing, standing, Wanted, wanted_by, wanted_in, wanted_of, whole_course}
use Rattle.im_serial.specs.declared.waits.Mark.{Mark, TheVariants.Here}
use Rattle.im_serial.specs.Noted.{AreKnown, AreLast, AreNoted, learnt, mark_place, noted_if, Notes, notes}
use Rattle.im_serial.specs.Serving.{AreWaited, EndedAt, EndsAt, GoingAt, HasAsked, HasServed, IsOver, IsRecorded}
use Rattle.im_serial.specs.Serving.{IsServing, MakesPlace, Passes, ScriptServer, ServedScript, server_of, Told}

on_ok : {T E : Type 0} (r : Result T E) (P : Type 0) → P → OnOk r P
on_ok (Ok x) P it = it
on_ok (Err e) P it = tt

-- the same of a session and lines that are equal
pub as_of : {A B : Type 0} (P : A → B → Type 0) (a same : A) (b kept : B) → same ≡ a → kept ≡ b → P a b → P same kept
as_of P a same b kept first second it = subst (λ (x : _). P x kept) (sym first) (subst (P a) (sym second) it)

-- what the lines behind a line ask for
behind_it : (d : Draft) (behind : Option (Bor (List ℕ))) → wanted_in d (option_map_or (λ rest. lines_of rest.now)
    behind []) ≡ option_map_or (λ rest. wanted_in d (lines_of rest.now)) behind []
behind_it d (Some rest) = refl
behind_it d None = refl

if_any : {A : Type 0} (o : Option A) (P Q : Type 0) → (P → Q) → IfSome o (λ x. P) → IfSome o (λ x. Q)
if_any None P Q f it = tt
if_any (Some x) P Q f it = f it

-- ---- one command and its answer

confirm_says : (m : Contents) (element upto : ℕ) (o : Outcome) → (step m (Confirm element upto)).answer ≡ Ok o
    → (step m (Confirm element upto)).answer ≡ Ok Confirmed
confirm_says m element upto o is = by_window (confirm_window upto (slice_get m.windows element)) is
  where
    by_window : (r : Result Window Refusal) → (step_confirm m element r).answer ≡ Ok o
        → (step_confirm m element r).answer ≡ Ok Confirmed
    by_window (Ok w) is = refl
    by_window (Err e) is = absurd (cc)

-- ---- what is recorded of the requests that had to wait

-- a request more
module _ (m : Contents) (put : List Command) (r : Request) (base : ℕ) (entry : Entry) (waited : List Waited) (marks :
    List Mark) (next : bounds (after m put).windows r.element ≡ Ok (base, r.number))
    (ok : (step (after m put) (Asks r)).answer ≡ Ok (Tells entry)) (it : IsRecorded m put (notes waited marks)) where
  -- those that waited before are known
  before_known : AreKnown m (put ++ Asks r ∷ []) waited
  before_known = known_asked m put r base entry (after-memory (length m.cells) (length m.windows) m put
      it.memory).agrees next ok waited (noted_known m put 0 0 marks waited it.noted)

  -- it is noted if it has to wait
  asked_recorded : (noted : List Waited) (later : List Mark) → noted ≡ waited ++ noted_if (asker r) entry → ((i : ℕ)
      → (i ≡ mark_place (asker r) → ⊥) → slice_get later i ≡ slice_get marks i)
      → (entry ≡ Waiting → slice_get later (mark_place (asker r)) ≡ Some (Here (length waited)))
      → IsRecorded m (put ++ Asks r ∷ []) (notes noted later)
  asked_recorded noted later pushed others mark = record { memory = it.memory; noted = by_entry entry refl pushed }
    where
      agrees : WaitingAgrees (after m put)
      agrees = (after-memory (length m.cells) (length m.windows) m put it.memory).agrees

      few : (element : ℕ) (w : Window) → slice_get (after m (put ++ Asks r ∷ [])).windows element ≡ Some w → IsWindow w
      few = (after-memory (length m.cells) (length m.windows) m (put ++ Asks r ∷ []) it.memory).windows

      by_entry : (e : Entry) → entry ≡ e → noted ≡ waited ++ noted_if (asker r) e
          → AreNoted m (put ++ Asks r ∷ []) 0 0 later noted
      by_entry Waiting is pushed = subst (AreNoted m (put ++ Asks r ∷ []) 0 0 later) (sym pushed)
          (noted_waits m put r base entry agrees next ok marks later waited few others it.noted (record {
            element =
                r.element;
            number = r.number;
            entry = Waiting;
          }) refl (mark is))
      by_entry (Replied reply) is pushed = subst (AreNoted m (put ++ Asks r ∷ []) 0 0 later) (sym (pushed
          ∙ append-nil waited))
          (noted_asked m put r base entry agrees next ok marks later waited few others it.noted)

-- ---- a session, one call after another

-- the script leads to what was put, and to the one command that may be in doubt
record Doubted {D : Type 0} (start : SessionStart D) (t : SessionState D) (script : Option Course) : Type 0 where
  few : length t.doubt ≤ 1
  left : List Wanted
  leads : LeadsIf start.memory script (t.put ++ t.doubt) left
  due : AreDue start.memory (t.put ++ t.doubt)

module _ {D : Type 0} (start : SessionStart D) where
  -- what is known, by other words for what was put
  serving_with : (t : SessionState D) (s : Standing) (text : List OutputLine) (n : Notes) (put : List Command)
      → t.put ≡ put
      → t.start ≡ start → t.engine.failed ≡ false → t.doubt ≡ [] → t.engine.memory ≡ after start.memory put
      → text ≡ replies start.memory put → AreWaited s.script n.waited (waits start.memory put)
      → HasReached start.memory s put → HasNamed start.memory s put
      → AreDue start.memory put → IfSome s.script (λ _. IsRecorded start.memory put n) → IsServing start t s text n
  serving_with t s text n put same start_is works sure memory lines names reached named due recorded = record {
    start_is = start_is;
    works = works;
    sure = sure;
    memory = memory ∙ ap (after start.memory) (sym same);
    lines = lines ∙ ap (replies start.memory) (sym same);
    names = names ∙ ap (λ (l : List Command). earlier_in s.script ++ waits start.memory l) (sym same);
    reached = subst (HasReached start.memory s) (sym same) reached;
    named = subst (HasNamed start.memory s) (sym same) named;
    due = subst (AreDue start.memory) (sym same) due;
    recorded = subst (λ (l : List Command). IfSome s.script (λ _. IsRecorded start.memory l n)) (sym same) recorded;
  }

  known_if : (s : Standing) (put : List Command) (n : Notes) → IfSome s.script (λ _. IsRecorded start.memory put n)
      → IfSome s.script (λ _. AreKnown start.memory put n.waited)
  known_if s put n it = if_any s.script (IsRecorded start.memory put n) (AreKnown start.memory put n.waited)
      (λ r. noted_known start.memory put n.element n.upto n.marks n.waited r.noted) it

  -- a command is refused: the script leads to what was put with the command, and without it
  pub refused_over : (old new : SessionState D) (c : Command) → CommandRefused old c new
      → (s : Standing) (text : List OutputLine) (n : Notes) → IsServing start old s text n
      → (last : List Wanted) × LeadsIf start.memory s.script (old.put ++ c ∷ []) last
      → AreDue start.memory (old.put ++ c ∷ []) → IsOver start new s.script text n.waited
  refused_over old new c it s text n was one due = record {
    start_is = it.start ∙ was.start_is;
    told = old.put;
    others = [];
    split = it.put ∙ sym (append-nil old.put);
    lines = was.lines;
    many = length (waits start.memory old.put);
    names = was.names ∙ ap (λ (l : List Waiter). earlier_in s.script ++ l) (sym (take-all (waits start.memory old.put)));
    few = doubted.few;
    left = doubted.left;
    leads = doubted.leads;
    due = doubted.due;
    known = subst (λ (l : List Command). IfSome s.script (λ _. AreKnown start.memory l n.waited)) (sym it.put)
        (known_if s old.put n was.recorded);
  }
    where
      by_list : (l : List Command) → new.doubt ≡ l → length l ≤ 1 → (last : List Wanted)
          → LeadsIf start.memory s.script (old.put ++ l) last → AreDue start.memory (old.put ++ l)
          → Doubted start new s.script
      by_list l same few last leads are_due = record {
        few = subst (λ (k : List Command). length k ≤ 1) (sym same) few;
        left = last;
        leads = subst (λ (k : List Command). LeadsIf start.memory s.script (k ++ new.doubt) last) (sym it.put)
            (subst (λ (k : List Command). LeadsIf start.memory s.script (old.put ++ k) last) (sym same) leads);
        due = subst (λ (k : List Command). AreDue start.memory (k ++ new.doubt)) (sym it.put)
            (subst (λ (k : List Command). AreDue start.memory (old.put ++ k)) (sym same) are_due);
      }

      doubted : Doubted start new s.script
      doubted = ⊎_elim
          (λ same. by_list [] (same ∙ was.sure) (omega arith) s.left
          (subst (λ (l : List Command). LeadsIf start.memory s.script l s.left) (sym (append-nil old.put))
          (stands_here start.memory s old.put was.reached))
          (subst (AreDue start.memory) (sym (append-nil old.put)) was.due))
          (λ more. by_list (c ∷ []) (more.1 ∙ ap (λ (l : List Command). l ++ c ∷ []) was.sure) (omega arith) one.0 one.1
          due)
          it.doubt

  -- the commands that were put lead to where it stands
  pub leads_here : (t : SessionState D) (s : Standing) (text : List OutputLine) (n : Notes) → IsServing start t s text n
      → LeadsIf start.memory s.script (t.put ++ t.doubt) s.left
  leads_here t s text n was = subst (λ (l : List Command). LeadsIf start.memory s.script l s.left)
      (sym (append-nil t.put) ∙ ap (λ (l : List Command). t.put ++ l) (sym was.sure))
      (stands_here start.memory s t.put was.reached)

  -- the confirmations that were put are due
  pub due_here : (t : SessionState D) (s : Standing) (text : List OutputLine) (n : Notes)
      → IsServing start t s text n → AreDue start.memory (t.put ++ t.doubt)
  due_here t s text n was = subst (AreDue start.memory)
      (sym (append-nil t.put) ∙ ap (λ (l : List Command). t.put ++ l) (sym was.sure)) was.due

  -- a confirmation that is due behind the commands that were put
  due_behind : (t : SessionState D) (element upto : ℕ) → IsDue t.engine.memory element upto
      → t.engine.memory ≡ after start.memory t.put → AreDue start.memory t.put
      → AreDue start.memory (t.put ++ Confirm element upto ∷ [])
  due_behind t element upto is memory are = due_more start.memory t.put (Confirm element upto ∷ []) are
      (subst (λ (x : Contents). IsDue x element upto) memory is, tt)

  -- it is ended where it goes on
  pub over_here : (t : SessionState D) (s : Standing) (text : List OutputLine) (n : Notes) → IsServing start t s text n
      → IsOver start t s.script text n.waited
  over_here t s text n was = record {
    start_is = was.start_is;
    told = t.put;
    others = [];
    split = sym (append-nil t.put);
    lines = was.lines;
    many = length (waits start.memory t.put);
    names = was.names ∙ ap (λ (l : List Waiter). earlier_in s.script ++ l) (sym (take-all (waits start.memory t.put)));
    few = subst (λ (l : List Command). length l ≤ 1) (sym was.sure) (omega arith);
    left = s.left;
    leads = leads_here t s text n was;
    due = due_here t s text n was;
    known = known_if s t.put n was.recorded;
  }

  -- a confirmation is refused
  pub confirm_over : (old new : SessionState D) (element upto : ℕ) → IsDue old.engine.memory element upto
      → CommandRefused old (Confirm element upto) new → (s : Standing) (text : List OutputLine) (n : Notes)
      → IsServing start old s text n
      → IsOver start new s.script text n.waited
  confirm_over old new element upto is it s text n was = refused_over old new (Confirm element upto) it s text n was (
    s.left,
    stands_here start.memory s (old.put ++ Confirm element upto ∷ [])
        (stands_confirmed start.memory s old.put element upto was.reached),
  ) (due_behind old element upto is was.memory was.due)

  -- a confirmation is served: the entries that were learnt are dropped
  module _ (old new : SessionState D) (element upto : ℕ) (is_due : IsDue old.engine.memory element upto)
      (o : Outcome) (it : CommandServed old (Confirm element upto) o new) (s : Standing) (text : List OutputLine)
      (waited : List Waited) (marks : List Mark) (was : IsServing start old s text (learnt waited marks element upto)) where
    abbrev confirm : Command
    confirm = Confirm element upto

    abbrev found : Contents
    found = old.engine.memory

    abbrev learning : Notes
    learning = learnt waited marks element upto

    agrees : IsRecorded start.memory old.put learning → WaitingAgrees (after start.memory old.put)
    agrees r = (after-memory (length start.memory.cells) (length start.memory.windows) start.memory old.put
        r.memory).agrees

    says : (step (after start.memory old.put) confirm).answer ≡ Ok Confirmed
    says = confirm_says (after start.memory old.put) element upto o
        (subst (λ (x : Contents). (step x confirm).answer ≡ Ok o) was.memory it.answer)

    put_by : (l : List Command) → accepted found (confirm ∷ []) ≡ l → new.put ≡ old.put ++ l
    put_by l is = ap (λ (t : SessionState D). t.put) it.same ∙ ap (λ (k : List Command). old.put ++ k) is

    begun_is : new.start ≡ start
    begun_is = ap (λ (t : SessionState D). t.start) it.same ∙ was.start_is

    undoubted : new.doubt ≡ []
    undoubted = ap (λ (t : SessionState D). t.doubt) it.same ∙ was.sure

    -- nobody waits for it
    unwaited : waits start.memory old.put ≡ waits start.memory (old.put ++ confirm ∷ [])
    unwaited = sym (append-nil (waits start.memory old.put))
        ∙ waits_more start.memory old.put confirm (waits start.memory old.put) [] refl refl

    dropped : is_accepted found confirm ≡ true → IsServing start new s text (notes waited marks)
    dropped e = serving_with new s text (notes waited marks) (old.put ++ confirm ∷ [])
        (put_by (confirm ∷ []) (ap (λ (b : Bool). if b then confirm ∷ [] else []) e)) begun_is it.works undoubted
        (it.memory ∙ ap (λ (x : Contents). (step x confirm).contents) was.memory
        ∙ sym (after-append start.memory old.put (confirm ∷ [])))
        (sym (append-nil text) ∙ replies_more start.memory old.put confirm text [] was.lines refl)
        (was.names ∙ ap (λ (l : List Waiter). earlier_in s.script ++ l) unwaited)
        (stands_confirmed start.memory s old.put element upto was.reached)
        (named_confirmed start.memory s old.put element upto was.named)
        (due_behind old element upto is_due was.memory was.due)
        (if_any s.script (IsRecorded start.memory old.put learning)
        (IsRecorded start.memory (old.put ++ confirm ∷ []) (notes waited marks))
        (λ r. record {
          memory = r.memory;
          noted = noted_confirmed start.memory old.put element upto marks waited (agrees r) says r.noted;
        }) was.recorded)

    nothing : is_accepted found confirm ≡ false → IsServing start new s text (notes waited marks)
    nothing e =
        let still : (step found confirm).contents ≡ found = unaccepted-leaves found confirm e in
        serving_with new s text (notes waited marks) old.put
        (put_by [] (ap (λ (b : Bool). if b then confirm ∷ [] else []) e) ∙ append-nil old.put) begun_is it.works undoubted
        (it.memory ∙ still ∙ was.memory) was.lines was.names was.reached was.named was.due
        (if_any s.script (IsRecorded start.memory old.put learning) (IsRecorded start.memory old.put (notes waited marks))
        (λ r. record {
          memory = r.memory;
          noted = noted_same start.memory old.put element upto marks waited (agrees r) says r.noted
              (subst (λ (x : Contents). (step x confirm).contents ≡ x) was.memory still);
        }) was.recorded)

    pub confirm_serving : IsServing start new s text (notes waited marks)
    confirm_serving = ⊎_elim dropped nothing (true_or_false (is_accepted old.engine.memory (Confirm element upto)))

  -- the entries of an element are learnt
  pub learns : (t : SessionState D) (element upto base next : ℕ) (waited learned : List Waited) (marks later : List Mark)
      → map who_of learned ≡ map who_of waited → bounds t.engine.memory.windows element ≡ Ok (base, next)
      → ((m : Contents) (put : List Command) → t.engine.memory ≡ after m put
      → IsMemory (length m.cells) (length m.windows) m → bounds (after m put).windows element ≡ Ok (base, next)
      → AreNoted m put 0 0 marks waited → AreNoted m put element upto later learned)
      → (s : Standing) (text : List OutputLine) → IsServing start t s text (notes waited marks)
      → IsServing start t s text (learnt learned later element upto)
  learns t element upto base next waited learned marks later names found learn s text was = record {
    start_is = was.start_is;
    works = was.works;
    sure = was.sure;
    memory = was.memory;
    lines = was.lines;
    names = names ∙ was.names;
    reached = was.reached;
    named = was.named;
    due = was.due;
    recorded = if_any s.script (IsRecorded start.memory t.put (notes waited marks))
        (IsRecorded start.memory t.put (learnt learned later element upto))
        (λ r. record {
          memory = r.memory;
          noted = learn start.memory t.put was.memory r.memory
              (subst (λ (x : Contents). bounds x.windows element ≡ Ok (base, next)) was.memory found) r.noted;
        }) was.recorded;
  }

  -- ---- a request

  module _ (old new : SessionState D) (r : Request) (base : ℕ)
      (next : bounds old.engine.memory.windows r.element ≡ Ok (base, r.number)) (w : Wanted) (bases : List ℕ)
      (element : w.element ≡ r.element) (op : action_op bases w.action ≡ Some r.op) (script : Option Course)
      (rest : List Wanted) (text : List OutputLine) (waited : List Waited) (marks : List Mark)
      (was : IsServing start old (standing script bases (w ∷ rest)) text (notes waited marks)) where
    abbrev c : Command
    c = Asks r

    abbrev here : Contents
    here = after start.memory old.put

    next_is : bounds here.windows r.element ≡ Ok (base, r.number)
    next_is = subst (λ (x : Contents). bounds x.windows r.element ≡ Ok (base, r.number)) was.memory next

    asked : request_in here bases w ≡ Some r
    asked = request_is here bases w r base element op next_is

    leads : (last : List Wanted) × LeadsIf start.memory script (old.put ++ c ∷ []) last
    leads = stands_last start.memory script bases w rest old.put r was.reached asked

    due : AreDue start.memory (old.put ++ c ∷ [])
    due = due_more start.memory old.put (c ∷ []) was.due tt

    -- it is refused
    pub ask_refused : CommandRefused old c new → IsOver start new script text waited
    ask_refused it =
        refused_over old new c it (standing script bases (w ∷ rest)) text (notes waited marks) was leads due

    module _ (entry : Entry) (it : CommandServed old c (Tells entry) new) where
      abbrev line : List OutputLine
      line = replied r.element r.number entry

      abbrev who : List Waiter
      who = waits_if (asker r) entry

      put_is : new.put ≡ old.put ++ c ∷ []
      put_is = ap (λ (t : SessionState D). t.put) it.same ∙ ap (λ (b : Bool). old.put ++ (if b then c ∷ [] else []))
          (next_is_new old.engine.memory r base (Tells entry) next it.answer)

      start_is : new.start ≡ start
      start_is = ap (λ (t : SessionState D). t.start) it.same ∙ was.start_is

      sure : new.doubt ≡ []
      sure = ap (λ (t : SessionState D). t.doubt) it.same ∙ was.sure

      answer : (step here c).answer ≡ Ok (Tells entry)
      answer = subst (λ (x : Contents). (step x c).answer ≡ Ok (Tells entry)) was.memory it.answer

      lines : text ++ line ≡ replies start.memory (old.put ++ c ∷ [])
      lines = replies_more start.memory old.put c text line was.lines (ap (reply_line c) answer)

      names : waits start.memory old.put ++ who ≡ waits start.memory (old.put ++ c ∷ [])
      names = waits_more start.memory old.put c (waits start.memory old.put) who refl (ap (waits_by c) answer)

      known_before : IfSome script (λ _. AreKnown start.memory (old.put ++ c ∷ []) waited)
      known_before = if_any script (IsRecorded start.memory old.put (notes waited marks))
          (AreKnown start.memory (old.put ++ c ∷ []) waited)
          (λ rec. before_known start.memory old.put r base entry waited marks next_is answer rec) was.recorded

      over : (told others : List Command) → old.put ++ c ∷ [] ≡ told ++ others → (said : List OutputLine)
          → said ≡ replies start.memory told → (many : ℕ) (noted : List Waited)
          → AreWaited script noted (take many (waits start.memory told))
          → IfSome script (λ _. AreKnown start.memory (old.put ++ c ∷ []) noted) → IsOver start new script said noted
      over told others split said said_is many noted names known = record {
        start_is = start_is;
        told = told;
        others = others;
        split = put_is ∙ split;
        lines = said_is;
        many = many;
        names = names;
        few = subst (λ (l : List Command). length l ≤ 1) (sym sure) (omega arith);
        left = leads.0;
        leads = subst (λ (l : List Command). LeadsIf start.memory script l leads.0)
            (sym (append-nil (old.put ++ c ∷ [])) ∙ ap (λ (l : List Command). l ++ []) (sym put_is)
            ∙ ap (λ (l : List Command). new.put ++ l) (sym sure)) leads.1;
        due = subst (AreDue start.memory) (sym (append-nil (old.put ++ c ∷ []))
            ∙ ap (λ (l : List Command). l ++ []) (sym put_is) ∙ ap (λ (l : List Command). new.put ++ l) (sym sure)) due;
        known = subst (λ (l : List Command). IfSome script (λ _. AreKnown start.memory l noted)) (sym put_is) known;
      }

      -- its line isn't printed
      pub ask_unprinted : IsOver start new script text waited
      ask_unprinted = over old.put (c ∷ []) refl text was.lines (length (waits start.memory old.put)) waited
          (was.names ∙ ap (λ (l : List Waiter). earlier_in script ++ l) (sym (take-all (waits start.memory old.put))))
          known_before

      -- its line is printed, but it isn't noted
      pub ask_unnoted : IsOver start new script (text ++ line) waited
      ask_unnoted = over (old.put ++ c ∷ []) [] (sym (append-nil (old.put ++ c ∷ []))) (text ++ line) lines
          (length (waits start.memory old.put)) waited
          (was.names ∙ ap (λ (l : List Waiter). earlier_in script ++ l)
          (sym (ap (take (length (waits start.memory old.put))) (sym names)
          ∙ take-prefix (waits start.memory old.put) who)))
          known_before

      module _ (noted : List Waited) (marked : List Mark) (pushed : noted ≡ waited ++ noted_if (asker r) entry)
          (others : (i : ℕ) → (i ≡ mark_place (asker r) → ⊥) → slice_get marked i ≡ slice_get marks i)
          (mark : entry ≡ Waiting → slice_get marked (mark_place (asker r)) ≡ Some (Here (length waited)))
          (named_more : map who_of noted ≡ map who_of waited ++ who) where
        recorded : IfSome script (λ _. IsRecorded start.memory (old.put ++ c ∷ []) (notes noted marked))
        recorded = if_any script (IsRecorded start.memory old.put (notes waited marks))
            (IsRecorded start.memory (old.put ++ c ∷ []) (notes noted marked))
            (λ rec. asked_recorded start.memory old.put r base entry waited marks next_is answer rec noted marked pushed
            others mark) was.recorded

        waited_more : AreWaited script noted (waits start.memory (old.put ++ c ∷ []))
        waited_more = named_more ∙ ap (λ (l : List Waiter). l ++ who) was.names
            ∙ append_assoc (earlier_in script) (waits start.memory old.put) who
            ∙ ap (λ (l : List Waiter). earlier_in script ++ l) names

        -- its line is printed, and it is noted if it has to wait
        pub ask_serving : (added : List ℕ) → bases_by w (Ok (Tells entry)) ≡ Some added
            → IsServing start new (standing script (bases ++ added) rest) (text ++ line) (notes noted marked)
        ask_serving added made = serving_with new (standing script (bases ++ added) rest) (text ++ line)
            (notes noted marked) (old.put ++ c ∷ []) put_is start_is it.works sure
            (it.memory ∙ ap (λ (x : Contents). (step x c).contents) was.memory
            ∙ sym (after-append start.memory old.put (c ∷ []))) lines waited_more
            (stands_asked start.memory script bases added w rest old.put r was.reached asked
            (ap (bases_by w) answer ∙ made))
            (named_asked start.memory script bases added w rest old.put r was.named (ap (bases_by w) answer ∙ made)) due
            recorded

        -- the same, and it is ended there
        pub ask_told : IsOver start new script (text ++ line) noted
        ask_told = over (old.put ++ c ∷ []) [] (sym (append-nil (old.put ++ c ∷ []))) (text ++ line) lines
            (length (waits start.memory (old.put ++ c ∷ []))) noted
            (waited_more ∙ ap (λ (l : List Waiter). earlier_in script ++ l)
            (sym (take-all (waits start.memory (old.put ++ c ∷ [])))))
            (if_any script (IsRecorded start.memory (old.put ++ c ∷ []) (notes noted marked))
            (AreKnown start.memory (old.put ++ c ∷ []) noted)
            (λ rec. noted_known start.memory (old.put ++ c ∷ []) 0 0 marked noted rec.noted) recorded)

-- ---- a place for a request

-- entries are learnt, and then dropped
pub drops_then : {D E : Type 0} (r : Result Outcome E) (element upto : ℕ) (old new : SessionState D)
    (waited learned : List Waited) (marks later : List Mark) → IsDue old.engine.memory element upto
    → ((start : SessionStart D) (s : Standing) (text : List OutputLine)
    → IsServing start old s text (notes waited marks)
    → IsServing start old s text (learnt learned later element upto))
    → IfOk r (λ o. CommandServed old (Confirm element upto) o new)
    → OnErr r (CommandRefused old (Confirm element upto) new) → MakesPlace r old waited marks new learned later
drops_then (Ok o) element upto old new waited learned marks later is first served refused = λ start s text was.
    confirm_serving start old new element upto is o served s text learned later (first start s text was)
drops_then (Err e) element upto old new waited learned marks later is first served refused = λ start s text was.
    confirm_over start old new element upto is refused s text (learnt learned later element upto)
    (first start s text was)

-- nothing changes, and it is ended
pub unprepared : {D : Type 0} (T : Type 0) {E : Type 0} (e : E) (t : SessionState D) (waited : List Waited) (marks : List Mark)
    → MakesPlace {T = T} (Err e) t waited marks t waited marks
unprepared T e t waited marks = λ start s text was. over_here start t s text (notes waited marks) was

-- ---- servers, one after another

module _ {D : Type 0} where
  going_ended : (start : SessionStart D) (held : Output) (s : Standing) (t : ScriptServer D)
      → GoingAt start held s t → EndedAt start held s.script t
  going_ended start held s t going = record {
    text = going.text;
    over = over_here start t.session s going.text (notes t.waited t.marks) going.serving;
    printed = going.printed;
  }

  pub passes_refl : (wanted : List Wanted) (bases : List ℕ) (s : ScriptServer D) → Passes wanted bases wanted bases s s
  passes_refl wanted bases s = λ start held script rest going. going

  -- it is ended there
  pub ends_here : (wanted later : List Wanted) (before after : List ℕ) (old new : ScriptServer D) → Passes wanted before
      later after old new → EndsAt wanted before old new
  ends_here wanted later before after old new passes = λ start held script rest going.
      going_ended start held (standing script after (later ++ rest)) new (passes start held script rest going)

  pub has_served : {T E : Type 0} (r : Result T E) (wanted : List Wanted) (before after : List ℕ) (old new : ScriptServer D)
      → Passes wanted before [] after old new → HasServed wanted before after r old new
  has_served r wanted before after old new passes = record {
    serves = on_ok r (Passes wanted before [] after old
        new) passes;
    ends = ends_here wanted [] before after old new passes;
  }

  -- nothing was served, and it is ended
  pub unserved : {T E : Type 0} (e : E) (wanted : List Wanted) (before after : List ℕ) (s : ScriptServer D) → HasServed {T = T} wanted before after (Err e) s s
  unserved e wanted before after s = record {
    serves = tt;
    ends = ends_here wanted wanted before before s s
        (passes_refl wanted before s);
  }

  -- a request of the script was asked
  pub asked_serves : {T E F : Type 0} (x : T) (w : Wanted) (bases added : List ℕ) (op : Op) (entry : Entry) (old new :
      ScriptServer D) → action_op bases w.action ≡ Some op → bases_by w (Ok (Tells entry)) ≡ Some added → HasAsked {E = E}
      w.element op (Ok entry) old new
      → HasServed {E = F} (w ∷ []) bases (bases ++ added) (Ok x) old new
  asked_serves x w bases added op entry old new asks made it = has_served (Ok x) (w ∷ []) bases (bases ++ added) old
      new (it.serves w bases added refl asks made)

  pub asked_ends : {T E F : Type 0} (e : F) (w : Wanted) (bases last : List ℕ) (op : Op) (r : Result Entry E) (old new
      : ScriptServer D) → action_op bases w.action ≡ Some op → HasAsked w.element op r old new → HasServed {T = T} (w ∷
      []) bases last (Err e) old new
  asked_ends e w bases last op r old new asks it = record { serves = tt; ends = it.ends w bases refl asks }

  -- a line that asks for nothing
  pub quiet : {T E : Type 0} (x : T) (wanted : List Wanted) (bases : List ℕ) (s : ScriptServer D) → wanted ≡ [] → HasServed
      {E = E} wanted bases bases (Ok x) s s
  quiet {E = E} x wanted bases s none = subst (λ (l : List Wanted). HasServed {E = E} l bases bases (Ok x) s s)
      (sym none) (has_served (Ok x) [] bases bases s s (passes_refl [] bases s))

  pub served_with : {T E : Type 0} (r : Result T E) (wanted : List Wanted) (before last later : List ℕ) (old new :
      ScriptServer D) → later ≡ last → HasServed wanted before last r old new → HasServed wanted before later r old
      new
  served_with r wanted before last later old new same it = subst (λ (b : List ℕ). HasServed wanted before b r old
      new) (sym same) it

  -- a request is asked after that
  pub asked_then : {E : Type 0} (r : Result Entry E) (element : ℕ) (op : Op) (old mid new : ScriptServer D) → ((wanted : List
      Wanted) (bases : List ℕ) → Passes wanted bases wanted bases old mid) → HasAsked element op r mid new →
      HasAsked element op r old new
  asked_then r element op old mid new first second = record {
    serves = by_result r second.serves;
    ends = λ w before is asks start held script rest going. second.ends w before is asks start held script rest (first
        (w ∷ []) before start held script rest going);
  }
    where
      by_result : {E : Type 0} (r : Result Entry E)
          → IfOk r (λ entry. (w : Wanted) (before more : List ℕ) → w.element ≡ element
          → action_op before w.action ≡ Some
          op → bases_by w (Ok (Tells entry)) ≡ Some more → Passes (w ∷ []) before [] (before ++ more) mid new)
          → IfOk r (λ entry. (w : Wanted) (before more : List ℕ) → w.element ≡ element
          → action_op before w.action ≡ Some
          op → bases_by w (Ok (Tells entry)) ≡ Some more → Passes (w ∷ []) before [] (before ++ more) old new)
      by_result (Ok entry) later = λ w before more is asks made start held script rest going. later w before more is
          asks made start held script rest (first (w ∷ []) before start held script rest going)
      by_result (Err e) later = tt

  pub served_then : {T E : Type 0} (r : Result T E) (wanted : List Wanted) (before between after : List ℕ) (old mid new
      : ScriptServer D) → Passes wanted before [] between old mid → HasServed [] between after r mid new →
      HasServed wanted before after r old new
  served_then r wanted before between after old mid new first second = record {
    serves = by_result r second.serves;
    ends = λ start held script rest going. second.ends start held script rest (first start held script rest going);
  }
    where
      by_result : {T E : Type 0} (r : Result T E) → OnOk r (Passes [] between [] after mid new) → OnOk r (Passes
          wanted before [] after old new)
      by_result (Ok x) later = λ start held script rest going. later start held script rest (first start held script
          rest going)
      by_result (Err e) later = tt

  -- what is kept back is written
  pub prints_on : (bases : List ℕ) (session : SessionState D) (held later : Option (List ℕ)) (before last : Lines)
      (waited : List Waited) (marks : List Mark) → PrintsOn held before later last
      → Passes [] bases [] bases (server_of session held before waited marks) (server_of session later last waited marks)
  prints_on bases session held later before last waited marks prints = λ start from script rest going. record {
    text = going.text;
    serving = going.serving;
    printed = prints from going.text going.printed;
  }

  -- a place is made for a request, and nothing is printed
  pub prepared_goes : (old new : SessionState D) (waited learned : List Waited) (marks later : List Mark) (held : Option
      (List ℕ)) (before last : Lines)
      → ((start : SessionStart D) (s : Standing) (text : List OutputLine)
      → IsServing start old s text (notes waited marks)
      → IsServing start new s text (notes learned later)) → last ≡ before
      → (wanted : List Wanted) (bases : List ℕ) → Passes wanted bases wanted bases (server_of old held before waited
      marks) (server_of new held last learned later)
  prepared_goes old new waited learned marks later held before last goes lines wanted bases =
      λ start from script rest going. record {
        text = going.text;
        serving = goes start (standing script bases (wanted ++ rest)) going.text going.serving;
        printed = subst (λ (l : Lines). Prints from held l going.text) (sym lines) going.printed;
      }

  -- ---- a request, by a server

  module _ (old new : SessionState D) (r : Request) (base : ℕ)
      (next : bounds old.engine.memory.windows r.element ≡ Ok (base, r.number)) (w : Wanted) (bases : List ℕ)
      (element : w.element ≡ r.element) (op : action_op bases w.action ≡ Some r.op) (waited : List Waited)
      (marks : List Mark) (held later : Option (List ℕ)) (before last : Lines) where
    abbrev was : ScriptServer D
    was = server_of old held before waited marks

    -- it is refused
    pub refused_ends : CommandRefused old (Asks r) new → EndsAt (w ∷ []) bases was (server_of new held before waited marks)
    refused_ends it = λ start from script rest going. record {
      text = going.text;
      over = ask_refused start old new r base next w bases element op script rest going.text waited marks going.serving
          it;
      printed = going.printed;
    }

    module _ (entry : Entry) (it : CommandServed old (Asks r) (Tells entry) new) where
      -- its line isn't printed
      pub unprinted_ends : (kept : List Mark) → PrintsOn held before later last
          → EndsAt (w ∷ []) bases was (server_of new later last waited kept)
      unprinted_ends kept prints = λ start from script rest going. record {
        text = going.text;
        over = ask_unprinted start old new r base next w bases element op script rest going.text waited marks
            going.serving entry it;
        printed = prints from going.text going.printed;
      }

      module _ (prints : PrintsMore held before later last (replied r.element r.number entry)) where
        -- it isn't noted
        pub unnoted_ends : (kept : List Mark) → EndsAt (w ∷ []) bases was (server_of new later last waited kept)
        unnoted_ends kept = λ start from script rest going. record {
          text = going.text ++ replied r.element r.number entry;
          over = ask_unnoted start old new r base next w bases element op script rest going.text waited marks
              going.serving entry it;
          printed = prints from going.text going.printed;
        }

        module _ (noted : List Waited) (marked : List Mark) (pushed : noted ≡ waited ++ noted_if (asker r) entry)
            (others : (i : ℕ) → (i ≡ mark_place (asker r) → ⊥) → slice_get marked i ≡ slice_get marks i)
            (mark : entry ≡ Waiting → slice_get marked (mark_place (asker r)) ≡ Some (Here (length waited)))
            (names : map who_of noted ≡ map who_of waited ++ waits_if (asker r) entry) where
          pub asked_passes : (added : List ℕ) → bases_by w (Ok (Tells entry)) ≡ Some added
              → Passes (w ∷ []) bases [] (bases ++ added) was (server_of new later last noted marked)
          asked_passes added made = λ start from script rest going. record {
            text = going.text ++ replied r.element r.number entry;
            serving = ask_serving start old new r base next w bases element op script rest going.text waited marks
                going.serving entry it noted marked pushed others mark names added made;
            printed = prints from going.text going.printed;
          }

          pub told_ends : EndsAt (w ∷ []) bases was (server_of new later last noted marked)
          told_ends = λ start from script rest going. record {
            text = going.text ++ replied r.element r.number entry;
            over = ask_told start old new r base next w bases element op script rest going.text waited marks
                going.serving entry it noted marked pushed others mark names;
            printed = prints from going.text going.printed;
          }

  -- ---- lines of a script

  module _ (all : List Wanted) (first before : List ℕ) (old mid : ScriptServer D) (d next : Draft) (said : Said) (text line :
      List ℕ) (behind : Option (Bor (List ℕ)))
      (lines : lines_of text ≡ line ∷ option_map_or (λ rest. lines_of rest.now) behind []) (read : said_at d line ≡
      Some (next, said)) (so_far : Passes all first (wanted_in d (lines_of text)) before old mid) where
    abbrev left : List Wanted
    left = option_map_or (λ rest. wanted_in next (lines_of rest.now)) behind []

    there : (start : SessionStart D) (held : Output) (script : Option Course) (rest : List Wanted) →
        GoingAt start held (standing script first (all ++ rest)) old
        → GoingAt start held (standing script before (wanted_by said ++ (left ++ rest))) mid
    there start held script rest going =
        let is : wanted_in d (lines_of text) ≡ wanted_by said ++ left =
        ap (wanted_in d) lines ∙ wanted_line d next said line (option_map_or (λ rest. lines_of rest.now) behind [])
        read ∙ ap (λ (l : List Wanted). wanted_by said ++ l) (behind_it next behind) in
        subst (λ (l : List Wanted). GoingAt start held (standing script before l) mid) (ap (λ (l : List Wanted). l
        ++ rest) is ∙ append_assoc (wanted_by said) left rest) (so_far start held script rest going)

    pub line_serves : (after : List ℕ) (new : ScriptServer D) → Passes (wanted_by said) before [] after mid new → Passes
        all first left after old new
    line_serves after new serves = λ start held script rest going. serves start held script (left ++ rest) (there start
        held script rest going)

    pub line_ends : (new : ScriptServer D) → EndsAt (wanted_by said) before mid new → EndsAt all first old new
    line_ends new ends = λ start held script rest going. ends start held script (left ++ rest) (there start held script
        rest going)

  -- the lines that are left
  pub lines_end : (all : List Wanted) (first before : List ℕ) (old mid : ScriptServer D) (d : Draft) (rest : Option (Bor
      (List ℕ))) → rest ≡ None → Passes all first (option_map_or (λ text. wanted_in d (lines_of text.now)) rest
      []) before old mid → Passes all first [] before old mid
  lines_end all first before old mid d rest none passes = subst (λ (o : Option (Bor (List ℕ))). Passes all first
      (option_map_or (λ text. wanted_in d (lines_of text.now)) o []) before old mid) none passes

  pub lines_left : (all : List Wanted) (first before : List ℕ) (old mid : ScriptServer D) (d : Draft) (rest : Option (Bor
      (List ℕ))) (text : Bor (List ℕ)) → rest ≡ Some text → Passes all first (option_map_or (λ text. wanted_in d
      (lines_of text.now)) rest []) before old mid → Passes all first (wanted_in d (lines_of text.now)) before old
      mid
  lines_left all first before old mid d rest text some passes = subst (λ (o : Option (Bor (List ℕ))). Passes all
      first (option_map_or (λ text. wanted_in d (lines_of text.now)) o []) before old mid) some passes

  -- ---- the beginning and the end

  -- nothing of a script was put yet
  pub going_from : (c : Course) (session : SessionState D) (held : Option (List ℕ)) (lines : Lines)
      (waited : List Waited) (marks : List Mark) → IsFresh session → session.engine.failed ≡ false
      → IsRecorded session.start.memory [] (notes waited marks) → map who_of waited ≡ c.earlier
      → lines.batch.pending.items ≡ []
      → GoingAt session.start (output_by lines held) (standing (Some c) c.first (c.wanted ++ []))
      (server_of session held lines waited marks)
  going_from c session held lines waited marks fresh works recorded names pending =
      let m = session.start.memory in record {
        text = [];
        serving = serving_with session.start session (standing (Some c) c.first (c.wanted ++ [])) []
            (notes waited marks) [] (ap (λ (t : SessionState D). t.put) fresh) refl works
            (ap (λ (t : SessionState D). t.doubt) fresh) (sym (ap (λ (t : SessionState D). t.start.memory) fresh)) refl
            (names ∙ sym (append-nil c.earlier))
            (subst (λ (l : List Wanted). HasReached m (standing (Some c) c.first l) []) (sym (append-nil c.wanted))
            (stands_first m c))
            (subst (λ (l : List Wanted). HasNamed m (standing (Some c) c.first l) []) (sym (append-nil c.wanted))
            (named_first m c))
            tt recorded;
        printed = prints_none held lines pending;
      }

  -- a server of this session that has served nothing of a script yet
  pub going_first : (script : List Wanted) (session same : SessionState D) (held : Option (List ℕ)) (before lines :
      Lines) (waited : List Waited) (marks : List Mark) (bases : List ℕ) → IsFresh session
      → session.engine.failed ≡ false
      → (let m = session.engine.memory in IsMemory (length m.cells) (length m.windows) m)
      → before.batch.pending.items ≡ [] → waited ≡ [] → bases ≡ [] → same ≡ session
      → lines ≡ before
      → GoingAt session.start (output_by before held) (standing (Some (whole_course script)) bases (script ++ []))
      (server_of same held lines waited marks)
  going_first script session same held before lines waited marks bases fresh works memory pending none no_bases
      sessions line =
      let from = output_by before held in
      subst (λ (b : List ℕ). GoingAt session.start from (standing (Some (whole_course script)) b (script ++ []))
      (server_of same held lines waited marks)) (sym no_bases)
      (as_of (λ (t : SessionState D) (l : Lines). GoingAt session.start from (standing (Some (whole_course script)) []
      (script ++ [])) (server_of t held l waited marks)) session same before lines sessions line
      (subst (λ (l : List Waited). GoingAt session.start from (standing (Some (whole_course script)) [] (script ++ []))
      (server_of session held before l marks)) (sym none) (going_from (whole_course script) session held before
      [] marks
      fresh works (record { memory = memory_at; noted = λ at w is. absurd (no_item w is) }) refl pending)))
    where
      no_item : (w : Waited) → ◌≡◌ {A = Option Waited} None (Some w) → ⊥
      no_item w is = cc

      memory_at : let m = session.start.memory in IsMemory (length m.cells) (length m.windows) m
      memory_at = subst (λ (m : Contents). IsMemory (length m.cells) (length m.windows) m)
          (sym (ap (λ (t : SessionState D). t.start.memory) fresh)) memory

  pub ends_served : {T E : Type 0} (r : Result T E) (wanted : List Wanted) (before last : List ℕ) (old new : ScriptServer D)
      → HasServed wanted before last r old new → IsOk r → Passes wanted before [] last old new
  ends_served (Ok x) wanted before last old new it ok = it.serves
  ends_served (Err e) wanted before last old new it ok = absurd (true_false false ok refl)

  -- what was told, by the lines that were printed
  told_by : (start : SessionStart D) (t : SessionState D) (script : List Wanted) (text : List OutputLine) (noted waited
      : List Waited) (status : ℕ) (was : Output) (is : Written) (many : ℕ) (last : List OutputLine)
      → IsOver start t (Some (whole_course script)) text noted → map who_of waited ≡ map who_of noted
      → AreLast start.memory t.put waited → IsLast last → SaysSome was is ((text ++ nows waited many) ++ last)
      → (status ≡ 0 → (map who_of waited ≡ waits start.memory t.put)
      × SaysWhole was is (replies start.memory t.put ++ nows waited (length waited)))
      → Told start.memory t.put was is status
  told_by start t script text noted waited status was is many last it same entries last_is begins whole = record {
    told = it.told;
    others = it.others;
    split = it.split;
    waited = waited;
    waiting = (it.many, same ∙ it.names);
    last_entries = entries;
    many = many;
    last = last;
    last_is = last_is;
    begins = subst (λ (l : List OutputLine). SaysSome was is ((l ++ nows waited many) ++ last)) it.lines begins;
    whole = whole;
  }

  pub closed : (disk : Ghosts D) (script : List ℕ) (bases : List ℕ) (t : SessionState D) (end : D) (status : ℕ)
      (held mid is : Option (List ℕ)) (was : Output) (before later final : Lines) (noted waited : List Waited)
      (marks : List Mark)
      → Kept disk t → end ≡ t.engine.disk → (status ≡ 0 → t.engine.failed ≡ false)
      → EndedAt t.start was (Some (whole_course (wanted_of script))) (server_of t held before noted marks)
      → (status ≡ 0 → GoingAt t.start was (standing (Some (whole_course (wanted_of script))) bases [])
      (server_of t held before noted marks))
      → map who_of waited ≡ map who_of noted → ((m : Contents) (put : List Command) → t.engine.memory ≡ after m put
      → AreKnown m put noted → AreLast m put waited)
      → PrintsNows held before mid later waited
      → (status ≡ 0 → PrintsMore held before mid later (nows waited (length waited)))
      → ((from : Output) (text : List OutputLine) → Prints from mid later text
      → (last : List OutputLine) × (IsLast last × Prints from is final (text ++ last)))
      → (status ≡ 0 → (from : Output) (text : List OutputLine) → Prints from mid later text
      → SaysWhole from (is, final.faulted) text)
      → ServedScript disk script t.start.disk end was (is, final.faulted) status
  closed disk script bases t end status held mid is was before later final noted waited marks kept at_end works ended
      going same learn some all last whole = by_status status refl
    where
      printed : (text : List OutputLine) → IsOver t.start t (Some (whole_course (wanted_of script))) text noted
          → Prints was held before text → (status ≡ 0 → (map who_of waited ≡ waits t.start.memory t.put)
          × SaysWhole was (is, final.faulted) (replies t.start.memory t.put ++ nows waited (length waited)))
          → Told t.start.memory t.put was (is, final.faulted) status
      printed text over prints all_of =
          let end = last was (text ++ nows waited some.0) (some.2 was text prints) in
          told_by t.start t (wanted_of script) text noted waited status was (is, final.faulted) some.0 end.0 over same
          (learn t.start.memory t.put kept.memory over.known) end.1.0
          (prints_begins was is final ((text ++ nows waited some.0) ++ end.0) end.1.1) all_of

      by_status : (n : ℕ) → status ≡ n → ServedScript disk script t.start.disk end was (is, final.faulted) status
      by_status zero none =
          let g = going none in
          let it = g.serving in
          let s = standing (Some (whole_course (wanted_of script))) bases [] in
          record {
            session = t;
            opened = refl;
            closed = at_end;
            kept = kept;
            asked = record {
              left = [];
              leads = leads_here t.start t s g.text (notes noted marks) it;
              all = λ z. refl;
            };
            confirmed = due_here t.start t s g.text (notes noted marks) it;
            few = (over_here t.start t s g.text (notes noted marks) it).few;
            works = works;
            printed = printed g.text (over_here t.start t s g.text (notes noted marks) it) g.printed (λ z. (
              same ∙ it.names,
              subst (λ (l : List OutputLine). SaysWhole was (is, final.faulted) (l ++ nows waited (length waited)))
                  it.lines (whole none was (g.text ++ nows waited (length waited)) (all none was g.text g.printed)),
            ));
          }
      by_status (suc n) more = record {
        session = t;
        opened = refl;
        closed = at_end;
        kept = kept;
        asked = record { left = ended.over.left; leads = ended.over.leads; all = λ z. absurd (omega arith) };
        confirmed = ended.over.due;
        few = ended.over.few;
        works = works;
        printed = printed ended.text ended.over ended.printed (λ z. absurd (omega arith));
      }
