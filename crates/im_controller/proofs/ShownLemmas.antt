-- What a trace shows: of a longer one, and of the lines of a command.
use Rattle.std.proofs.Common.{◌≡◌, ℕ, zero, suc, ◌-◌, ◌<◌, Bool, true, false, ◌&&◌, List, [], ◌∷◌, ◌++◌, length, IfSome}
use Rattle.std.proofs.Common.{if◌then◌else◌, IsOk, nat_lt, Some, None, Ok, Err, Option, Result, sym, refl, ap, ◌∙◌}
use Rattle.std.proofs.Common.{subst, inl, ⊎_elim, append_assoc, append-nil, arith}
use Rattle.std.proofs.lemmas.Bool.Decides.{nat_tests}
use Rattle.im_types.specs.Types.{Command, Outcome, Call, Line, Commands, Collect, Refusal, Contents, is_accepted}
use Rattle.im_types.specs.Types.{contents_after, end_of, change_by, changes_at, changes_of, opening, shown_by, Change}
use Rattle.im_laws.proofs.{AcceptLemmas.accepted-ok, MemoryLemmas.step-cell_count, Tests.true_false}
use Rattle.{im_disk.specs.declared.Disk.Ghosts, im_glass.specs.Panes.PaneView}
use Rattle.im_engine.specs.{Answered.Answered, State.EngineState}
use Rattle.im_trace.proofs.ToldLemmas.{plain-receipt, shown-append}
use Rattle.im_trace.specs.Lines.{counts_after, leaves_line, left_lines, line_of, LineCounts, memory_after}
use Rattle.im_trace.specs.{Log.IsToldOf, Log.plain, Log.receipt_for, Log.ReceiptState, Log.with_line, Origin.Origin}
use Rattle.im_controller.proofs.LendLemmas.{ok-leaves}
use Rattle.im_controller.specs.{Lends.changes_put, Lends.Lends, Lends.shows, Planned.has_command, State.SharedState}
use mathlib.Core.List.{IsPrefix}

pub end-cells : (m : Contents) (trace : List Line) → length (end_of m trace).cells ≡ length m.cells
end-cells m [] = refl
end-cells m (line ∷ trace) = end-cells (contents_after m line.call) trace ∙ one line.call
  where
    one : (call : Call) → length (contents_after m call).cells ≡ length m.cells
    one (Commands command) = step-cell_count m command
    one (Collect element number) = refl

-- what is shown with a line more, which shows this
pub shown-grows : (m e : Contents) (trace more : List Line) (shown changes : List Change) → end_of m trace ≡ e
    → shown ≡ shown_by m trace → changes_of e more ≡ changes → shown ++ changes ≡ shown_by m (trace ++ more)
shown-grows m e trace more shown changes ends is same =
    ap (λ l. l ++ changes) is ∙ ap (λ l. shown_by m trace ++ l) (sym same ∙ ap (λ n. changes_of n more) (sym ends))
    ∙ sym (shown-append m trace more)

module _ (m : Contents) (command : Command) (answer : Result Outcome Refusal) where
  -- a command that isn't accepted shows nothing
  unaccepted-none : is_accepted m command ≡ false → changes_at m command ≡ []
  unaccepted-none un = ap (λ b. if b then change_by m command ∷ [] else []) un

  pub unaccepted-lines : (b : Bool) → is_accepted m command ≡ false
      → changes_of m (if b then line_of (Commands command) answer ∷ [] else []) ≡ []
  unaccepted-lines true un = append-nil (changes_at m command) ∙ unaccepted-none un
  unaccepted-lines false un = refl

  unaccepted-shows : (a : Result Outcome Refusal) → is_accepted m command ≡ false → shows m command a ≡ []
  unaccepted-shows (Ok outcome) un = unaccepted-none un
  unaccepted-shows (Err refusal) un = refl

  pub lineless-lines : leaves_line answer ≡ false → changes_of m (left_lines (Commands command) answer) ≡ []
  lineless-lines none = ap (λ b. changes_of m (if b then line_of (Commands command) answer ∷ [] else [])) none

  pub lined-lines : leaves_line answer ≡ true
      → changes_of m (left_lines (Commands command) answer) ≡ changes_at m command
  lined-lines some = ap (λ b. changes_of m (if b then line_of (Commands command) answer ∷ [] else [])) some
      ∙ append-nil (changes_at m command)

  pub ok-shows : IsOk answer → shows m command answer ≡ changes_at m command
  ok-shows is = by_answer answer is
    where
      by_answer : (a : Result Outcome Refusal) → IsOk a → shows m command a ≡ changes_at m command
      by_answer (Ok outcome) is = refl
      by_answer (Err refusal) is = absurd (true_false (sym is))

-- what is shown of a command, by what the engine comes to
pub record IsShownOf (m : Contents) (room : ℕ) (command : Command) (answer : Result Outcome Refusal)
    (failed : Bool) : Type 0 where
  pub lines : changes_of m (left_lines (Commands command) answer) ≡ shows m command answer
  pub alive : failed ≡ false → changes_put m room command ≡ shows m command answer
  pub dead : failed ≡ true → shows m command answer ≡ []

module _ {D : Type 0} (old new : EngineState D) (command : Command) (answer : Result Outcome Refusal)
    (a : Answered old command answer new) (living : old.failed ≡ false) where
  put-is : (b c : Bool) → is_accepted old.memory command ≡ b → nat_lt 0 old.room ≡ c
      → changes_put old.memory old.room command ≡ (if b && c then change_by old.memory command ∷ [] else [])
  put-is b c accepted some = ap
      (λ x. if x && nat_lt 0 old.room then change_by old.memory command ∷ [] else []) accepted
      ∙ ap (λ x. if b && x then change_by old.memory command ∷ [] else []) some

  at-is : is_accepted old.memory command ≡ true → changes_at old.memory command ≡ change_by old.memory command ∷ []
  at-is accepted = ap (λ b. if b then change_by old.memory command ∷ [] else []) accepted

  shows-err : (r : Refusal) → answer ≡ Err r → shows old.memory command answer ≡ []
  shows-err r is = ap (shows old.memory command) is

  none-put : is_accepted old.memory command ≡ true → old.room ≡ 0 → changes_put old.memory old.room command ≡ []
  none-put accepted none = put-is true false accepted (ap (λ n. nat_lt 0 n) none)

  shown-put : is_accepted old.memory command ≡ true → (n : ℕ) → old.room ≡ n
      → IsShownOf old.memory old.room command answer new.failed
  shown-put accepted zero room =
      let is = a.full living accepted room in
      let err = shows-err _ is.0 in record {
        lines = lineless-lines old.memory command answer (ap leaves_line is.0) ∙ sym err;
        alive = λ _. none-put accepted room ∙ sym err;
        dead = λ _. err;
      }
  shown-put accepted (suc n) room = ⊎_elim
      (λ done.
      let ok = subst (λ (x : Result Outcome Refusal). IsOk x) (sym done.0) (accepted-ok old.memory command accepted) in
      let shown = ok-shows old.memory command answer ok in
      let put : nat_lt 0 old.room ≡ true = grind (arith, nat_tests) in record {
        lines = lined-lines old.memory command answer (ok-leaves answer ok) ∙ sym shown;
        alive = λ _. put-is true true accepted put ∙ sym (at-is accepted) ∙ sym shown;
        dead = λ dead. absurd (true_false (sym dead ∙ ap (λ (e : EngineState D). e.failed) done.1 ∙ living));
      })
      (λ doubt.
      let err = shows-err _ doubt.0 in record {
        lines = lineless-lines old.memory command answer (ap leaves_line doubt.0) ∙ sym err;
        alive = λ alive. absurd (true_false (sym (ap (λ (e : EngineState D). e.failed) doubt.1) ∙ alive));
        dead = λ _. err;
      })
      (a.put living accepted (omega (arith, room)))

  shown-by : (b : Bool) → is_accepted old.memory command ≡ b → IsShownOf old.memory old.room command answer new.failed
  shown-by true accepted = shown-put accepted old.room refl
  shown-by false un =
      let none = unaccepted-shows old.memory command answer answer un in record {
        lines = unaccepted-lines old.memory command answer (leaves_line answer) un ∙ sym none;
        alive = λ _. put-none un ∙ sym none;
        dead = λ _. none;
      }
    where
      put-none : is_accepted old.memory command ≡ false → changes_put old.memory old.room command ≡ []
      put-none un = ap (λ x. if x && nat_lt 0 old.room then change_by old.memory command ∷ [] else []) un

  pub answered-shown : IsShownOf old.memory old.room command answer new.failed
  answered-shown = shown-by (is_accepted old.memory command) refl

-- what a pane shows after a show: all that was put ahead, or nothing where the engine has failed
pub record PaneShows (old new : PaneView) (failed : Bool) (shown : List Change) : Type 0 where
  pub is : new.shown ≡ old.shown ++ shown
  pub ahead : failed ≡ false → new.ahead ≡ []
  pub cells : new.cells ≡ old.cells

module _ (old mid new : PaneView) (changes shown : List Change)
    (put : mid ≡ record old { ahead = old.ahead ++ changes }) where
  shows_by : (failed f : Bool) → failed ≡ f → (failed ≡ false → old.ahead ≡ [])
      → (failed ≡ false → new ≡ record mid { shown = mid.shown ++ mid.ahead; ahead = [] }) → (failed ≡ true → new ≡ mid)
      → (failed ≡ false → changes ≡ shown) → (failed ≡ true → shown ≡ []) → PaneShows old new failed shown
  shows_by failed false is none all same alive dead =
      let now = all is in
      let before = ap (λ (p : PaneView). p.ahead) put ∙ ap (λ l. l ++ changes) (none is) ∙ alive is in record {
        is = ap (λ (p : PaneView). p.shown) now ∙ ap (λ l. mid.shown ++ l) before
            ∙ ap (λ (p : PaneView). p.shown ++ shown) put;
        ahead = λ _. ap (λ (p : PaneView). p.ahead) now;
        cells = ap (λ (p : PaneView). p.cells) now ∙ ap (λ (p : PaneView). p.cells) put;
      }
  shows_by failed true is none all same alive dead =
      let now = same is ∙ put in record {
        is = ap (λ (p : PaneView). p.shown) now ∙ sym (ap (λ l. old.shown ++ l) (dead is) ∙ append-nil old.shown);
        ahead = λ living. absurd (true_false (sym is ∙ living));
        cells = ap (λ (p : PaneView). p.cells) now;
      }

  pub pane-shows : (failed : Bool) → (failed ≡ false → old.ahead ≡ [])
      → (failed ≡ false → new ≡ record mid { shown = mid.shown ++ mid.ahead; ahead = [] }) → (failed ≡ true → new ≡ mid)
      → (failed ≡ false → changes ≡ shown) → (failed ≡ true → shown ≡ []) → PaneShows old new failed shown
  pane-shows failed none all same alive dead = shows_by failed failed refl none all same alive dead

-- what is shown is told of its trace
pub told-all : (m : Contents) (trace : List Line) (told : List Change) → told ≡ shown_by m trace → IsToldOf m trace told
told-all m trace told is = ([], append-nil (shown_by m trace) ∙ sym is)

-- a command that the engine was lent to
module _ {D : Type 0} (disk : Ghosts D) (k : Origin) (s s' : SharedState D) (t t' : LineCounts) (command : Command)
    (a : Result Outcome Refusal) (answer : Result ReceiptState Refusal) where
  abbrev time : ℕ
  time = length (disk.past s'.session.engine.disk)

  pub lends-served : answer ≡ receipt_for s'.log.trace time s'.shown command a → s.session.engine.failed ≡ false
      → length s.log.trace < s.log.limit → has_command k.plan command ≡ true
      → Answered s.session.engine command a s'.session.engine
      → s'.log ≡ with_line s.log (Commands command) a → s'.servers ≡ s.servers
      → t' ≡ counts_after k.marks t (left_lines (Commands command) a) → s'.shown
      ≡ s.shown ++ shows s.session.engine.memory command a → Lends disk k s t command answer s' t'
  lends-served is alive room has answered log servers tally shown =
      let same : a ≡ plain answer = sym (ap plain is ∙ plain-receipt s'.log.trace time s'.shown command a) in record {
        dead = λ dead. absurd (true_false (sym dead ∙ alive));
        full = λ _ over. absurd (omega (arith, over, room));
        off = λ _ _ lacks. absurd (true_false (sym has ∙ lacks));
        served = λ _ _ _. inl (
          subst (λ (x : Result Outcome Refusal). Answered s.session.engine command x s'.session.engine) same
              answered,
          record { log = log ∙ ap (with_line s.log (Commands command)) same; servers = servers },
        );
        tally = tally ∙ ap (λ x. counts_after k.marks t (left_lines (Commands command) x)) same;
        shown = shown ∙ ap (λ x. s.shown ++ shows s.session.engine.memory command x) same;
        receipt = is ∙ ap (receipt_for s'.log.trace time s'.shown command) same;
      }

pub some_room : (room limit lines : ℕ) → (room ≡ 0 → ⊥) → room ≡ limit - lines → lines < limit
some_room zero limit lines some is = absurd (some refl)
some_room (suc n) limit lines some is = omega (arith, is)

-- a command that the engine was lent to, and what is shown then
pub record ShowsLent (m : Contents) (trace : List Line) (old new : PaneView) (failed : Bool)
    (shown : List Change) : Type 0 where
  pub pane : PaneShows old new failed shown
  pub ends : new.shown ≡ shown_by m trace

module _ {D : Type 0} (m : Contents) (old new : EngineState D) (command : Command) (a : Result Outcome Refusal)
    (answered : Answered old command a new) (living : old.failed ≡ false) where
  pub lend-shown : (contents : Contents) (left : ℕ) → contents ≡ old.memory → left ≡ old.room
      → (p q r : PaneView) → p.ahead ≡ [] → q ≡ record p { ahead = p.ahead ++ changes_put contents left command }
      → (failed : Bool) → failed ≡ new.failed
      → (failed ≡ false → r ≡ record q { shown = q.shown ++ q.ahead; ahead = [] }) → (failed ≡ true → r ≡ q)
      → (trace trace' : List Line) → end_of m trace ≡ old.memory → p.shown ≡ shown_by m trace → trace'
      ≡ trace ++ left_lines (Commands command) a
      → ShowsLent m trace' p r failed (shows old.memory command a)
  lend-shown contents left same room p q r none put failed is all hidden trace trace' ends shown grows =
      let it = answered-shown old new command a answered living in
      let changes = ap (λ (n : Contents). changes_put n left command) same
      ∙ ap (λ (n : ℕ). changes_put old.memory n command) room in
      let pane = pane-shows p q r _ (shows old.memory command a) put failed (λ _. none) all hidden
      (λ alive. changes ∙ it.alive (sym is ∙ alive)) (λ dead. it.dead (sym is ∙ dead)) in
      record {
        pane = pane;
        ends = pane.is ∙ shown-grows m old.memory trace _ p.shown _ ends shown it.lines ∙ ap (shown_by m) (sym grows);
      }

-- a glance that has seen what is shown has seen the full cells that were opened
pub opened-glance : (m : Contents) (trace : List Line) (shown : List Change) (glance : Option (List Change)) → shown
    ≡ shown_by m trace → IfSome glance (λ g. IsPrefix shown g) → IfSome glance (λ g. IsPrefix (opening m) g)
opened-glance m trace shown None is seen = tt
opened-glance m trace shown (Some g) is seen = (
  changes_of m trace ++ seen.0,
  sym (append_assoc (opening m) (changes_of m trace) seen.0)
      ∙ ap (λ l. l ++ seen.0) (sym is) ∙ seen.1,
)

-- a question shows nothing
pub looked-shown : (m : Contents) (trace : List Line) (element number : ℕ) (answer : Result Outcome Refusal)
    → shown_by m trace ≡ shown_by m (trace ++ left_lines (Collect element number) answer)
looked-shown m trace element number answer =
    sym (append-nil (shown_by m trace)) ∙ ap (λ l. shown_by m trace ++ l) (none (leaves_line answer))
    ∙ sym (shown-append m trace (left_lines (Collect element number) answer))
  where
    none : (b : Bool) → ◌≡◌ {A = List Change} []
        (changes_of (end_of m trace) (if b then line_of (Collect element number) answer ∷ [] else []))
    none true = refl
    none false = refl

pub memory-same : (m : Contents) (element number : ℕ) (answer : Result Outcome Refusal)
    → memory_after m (Collect element number) answer ≡ m
memory-same m element number answer = by_line (leaves_line answer)
  where
    by_line : (b : Bool) → (if b then m else m) ≡ m
    by_line true = refl
    by_line false = refl
