-- What is told of those that waited.
use Rattle.std.proofs.Common.{◌≡◌, ℕ, Bool, true, false, List, [], ◌++◌, take, drop, if◌then◌else◌, ◌==◌, Some, None}
use Rattle.std.proofs.Common.{Option, option_map, sym, refl, ap, ◌∙◌, subst, append-nil}
use Rattle.std.specs.List.{list_any}
use Rattle.im_types.specs.Types.{Kind, Op, Reply, Waiter, Block, Answered, I, M, Alloc, Release, Reset, Fetch, Store}
use Rattle.im_types.specs.Types.{Take, Put, BadLength, WrongKind, Released, StillWaiting, Cleared, Command, CellState}
use Rattle.im_types.specs.Types.{Empty, Full, Clashed, Held, Contents, held_at, place, fill, change_each}
use Rattle.im_types.specs.Types.{ServedCell as Served, fetch, take_from, only_tells, same_kind, serve_cell, at_cell}
use Rattle.im_types.specs.Types.{allocate_at, block_with_base, is_waiting_cell, unless_waited_for, emptied, act, bounds}
use Rattle.{im_checkpoint.specs.declared.TurnDone.TurnDone, im_turning.specs.Turning.Point}
use Rattle.im_dialogue.specs.{Answers.answer_text, Answers.look_text, Asking.question_command, Talk.about_of}
use Rattle.im_dialogue.specs.{Talk.AnswersQuestion, Watching.is_quiet, Watching.watch_text}
use Rattle.im_dialogue.specs.declared.{answers.LineAnswer.LineAnswer, asking.Question.Question, look.Look.Look}
use Rattle.im_dialogue.specs.declared.answers.LineAnswer.TheVariants.{About as Facts, Backup as BackedUp, Count, Looked}
use Rattle.im_dialogue.specs.declared.answers.LineAnswer.TheVariants.{Room, Turned, Window, Wrong}
use Rattle.im_dialogue.specs.declared.asking.Question.TheVariants as asks

-- ---- who is resumed

-- by a cell of the kind that the operation is for
at_one : (kind : Kind) (serve : CellState → Served) (cells : List (Option Held)) (a : ℕ) (held : Held)
    (to : CellState → List (Waiter × Reply)) → ((s : CellState) → (serve s).resumed ≡ to s)
    → (at_cell kind serve cells a (Some held)).resumed ≡ (if same_kind kind held.block.kind then to held.state else [])
at_one kind serve cells a held to is = by_test (same_kind kind held.block.kind)
  where
    by_test : (b : Bool)
        → (if b then serve_cell cells a held.block (serve held.state) else only_tells cells WrongKind).resumed
        ≡ (if b then to held.state else [])
    by_test true = is held.state
    by_test false = refl

-- nobody is resumed by the other operations

none_resumed : (kind : Kind) (serve : CellState → Served) (cells : List (Option Held)) (a : ℕ) (held : Option Held)
    → ((s : CellState) → (serve s).resumed ≡ []) → (at_cell kind serve cells a held).resumed ≡ []
none_resumed kind serve cells a None none = refl
none_resumed kind serve cells a (Some held) none =
    at_one kind serve cells a held (λ s. []) none ∙ same [] (same_kind kind held.block.kind)
  where
    same : (xs : List (Waiter × Reply)) (b : Bool) → (if b then xs else xs) ≡ xs
    same xs true = refl
    same xs false = refl

fetch_resumes : (who : Waiter) (s : CellState) → (fetch who s).resumed ≡ []
fetch_resumes who (Empty waiters) = refl
fetch_resumes who (Full v) = refl
fetch_resumes who (Clashed v) = refl

take_resumes : (who : Waiter) (s : CellState) → (take_from who s).resumed ≡ []
take_resumes who (Empty waiters) = refl
take_resumes who (Full v) = refl
take_resumes who (Clashed v) = refl

alloc_resumes : (cells : List (Option Held)) (kind : Kind) (n : ℕ) (b : Bool) (found : Option ℕ)
    → (if b then only_tells cells BadLength else allocate_at cells kind n found).resumed ≡ []
alloc_resumes cells kind n true found = refl
alloc_resumes cells kind n false None = refl
alloc_resumes cells kind n false (Some base) = refl

whole_resumes : (after : Block → List (Option Held)) (reply : Reply) (cells : List (Option Held)) (a : ℕ)
    (found : Option Block) → (unless_waited_for after reply cells a found).resumed ≡ []
whole_resumes after reply cells a None = refl
whole_resumes after reply cells a (Some block) = by_test (list_any is_waiting_cell (take block.length (drop a cells)))
  where
    by_test : (b : Bool)
        → (if b then only_tells cells StillWaiting
        else record { cells = after block; entry = Answered reply; resumed = [] }).resumed ≡ []
    by_test true = refl
    by_test false = refl

pub quiet_resumes : (cells : List (Option Held)) (who : Waiter) (op : Op) → is_quiet op ≡ true
    → (act cells who op).resumed ≡ []
quiet_resumes cells who (Alloc kind n) quiet = alloc_resumes cells kind n (n == 0) (place n cells)
quiet_resumes cells who (Release a) quiet = whole_resumes (λ block. fill cells a block.length None) Released cells a
    (block_with_base a (held_at cells a))
quiet_resumes cells who (Reset a) quiet =
    whole_resumes (λ block. change_each emptied cells a block.length) Cleared cells a
    (block_with_base a (held_at cells a))
quiet_resumes cells who (Fetch a) quiet = none_resumed I (fetch who) cells a (held_at cells a) (fetch_resumes who)
quiet_resumes cells who (Take a) quiet = none_resumed M (take_from who) cells a (held_at cells a) (take_resumes who)
quiet_resumes cells who (Store a v) quiet = absurd (cc)
quiet_resumes cells who (Put a v) quiet = absurd (cc)

-- ---- the line of an answer

-- Of a line that is no command: nothing is told behind it. It is the same on the memory after it, which is the same if
-- the line only looks.
pub alone_line : (watch : Bool) (name : List ℕ) (m now : Contents) (n : ℕ) (turns : List TurnDone) (here : Point)
    (asked : Option Question) (answer : LineAnswer) → question_command asked ≡ None
    → ((look : Look) → asked ≡ Some (asks.Look look) → now ≡ m) → AnswersQuestion m n turns here asked answer
    → answer_text name now answer ≡ answer_text name m answer ++ watch_text watch m answer
alone_line watch name m now n turns here asked answer none same = by_asked asked none same
  where
    is_it : LineAnswer → Type 0
    is_it x = answer_text name now x ≡ answer_text name m x ++ watch_text watch m x

    plain : (x : LineAnswer) → answer_text name now x ≡ answer_text name m x → watch_text watch m x ≡ [] → is_it x
    plain x same none = same ∙ sym (append-nil (answer_text name m x))
        ∙ ap (λ (l : List ℕ). answer_text name m x ++ l) (sym none)

    by_asked : (q : Option Question) → question_command q ≡ None → ((look : Look) → q ≡ Some (asks.Look look) → now ≡ m)
        → AnswersQuestion m n turns here q answer → is_it answer
    by_asked (Some (asks.Serve command)) none same it = absurd (cc)
    by_asked (Some (asks.Look look)) none same is =
        subst is_it (sym is) (plain (Looked look) (ap (λ (k : Contents). look_text name k look) (same look refl)) refl)
    by_asked (Some (asks.Window element)) none same is =
        subst is_it (sym is) (plain (Window element (bounds m.windows element)) refl refl)
    by_asked (Some asks.Room) none same is = subst is_it (sym is) (plain (Room here.room) refl refl)
    by_asked (Some asks.Turn) none same (done, (is, last)) = subst is_it (sym is) (plain (Turned done) refl refl)
    by_asked (Some asks.Count) none same is = subst is_it (sym is) (plain (Count n) refl refl)
    by_asked (Some asks.About) none same (slots, is) =
        subst is_it (sym is) (plain (Facts (about_of m slots n here.room)) refl refl)
    by_asked (Some (asks.Backup backup)) none same (kept, is, of) =
        subst is_it (sym is) (plain (BackedUp backup kept) refl refl)
    by_asked (Some asks.Quit) none same it = absurd it
    by_asked None none same (number, (fault, is)) = subst is_it (sym is) (plain (Wrong number fault) refl refl)

pub not_command : (asked : Question) (c : Command) → question_command (Some asked) ≡ None → asked ≡ asks.Serve c → ⊥
not_command asked c none is =
    no_command (subst (λ (q : Question). question_command (Some q) ≡ None) is none)
  where
    no_command : Some c ≡ None → ⊥
    no_command same = absurd (cc)

pub same_asked : (a b : Question) → Some a ≡ Some b → a ≡ b
same_asked a b same = cc

-- the command that is asked for
pub command_some : (asked : Option Question) (c : Command) → question_command asked ≡ Some c
    → asked ≡ Some (asks.Serve c)
command_some (Some (asks.Serve d)) c is = ap (λ (o : Option Command). option_map (λ (x : Command). asks.Serve x) o) is
command_some (Some (asks.Look look)) c is = absurd (cc)
command_some (Some (asks.Window element)) c is = absurd (cc)
command_some (Some asks.Room) c is = absurd (cc)
command_some (Some asks.Turn) c is = absurd (cc)
command_some (Some asks.Count) c is = absurd (cc)
command_some (Some asks.About) c is = absurd (cc)
command_some (Some (asks.Backup backup)) c is = absurd (cc)
command_some (Some asks.Quit) c is = absurd (cc)
command_some None c is = absurd (cc)
