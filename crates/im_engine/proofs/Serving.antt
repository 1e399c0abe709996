-- How one command is served.
use Rattle.std.proofs.Common.{◌≡◌, ℕ, ◌≤◌, Bool, true, false, List, [], ◌∷◌, length, if◌then◌else◌, Ok, Err, Result}
use Rattle.std.proofs.Common.{sym, refl, ap, ◌∙◌, subst, arith}
use Rattle.im_types.specs.Types.{Command, Outcome, Refusal, Contents, step, is_accepted, unless_refused, acceptance}
use Rattle.im_types.specs.Types.{Header}
use Rattle.im_laws.proofs.MemoryLemmas.{step-cell_count, step-window_count}
use Rattle.{im_disk.proofs.SinceLemmas.left_now, im_journal.specs.Groups.SameButGroup}
use Rattle.im_disk.specs.{Moment.Left, Moment.Moment, Since.Calls, Since.CallsBy}
use Rattle.im_journal.specs.Holding.{AllHold, Holds, IsAdded, JournalState, longer}
use Rattle.im_checkpoint.specs.Keeping.{Fits, IsBetween, IsKept, Paged, StepFits}
use Rattle.im_checkpoint.specs.Step.{CheckpointState, NoCheckpoint, PagesDone, PagesLeft, Step, Synced}
use Rattle.im_engine.proofs.{Accepting.accepted_answers, Accepting.Answers, Keeping.accept_one, Keeping.kept_longer}
use Rattle.im_engine.specs.{Answered.Answered, Answered.calls_for, State.EngineState}

-- the judgement, taken apart
pub judged_is : (accepts b : Bool) (answer : Result Outcome Refusal) → unless_refused accepts answer ≡ Ok b → accepts
    ≡ b
judged_is accepts b (Ok outcome) e = cc
judged_is accepts b (Err refusal) e = absurd (cc)

pub judged_refused : (accepts : Bool) (refusal : Refusal) (answer : Result Outcome Refusal)
    → unless_refused accepts answer ≡ Err refusal → answer ≡ Err refusal
judged_refused accepts refusal (Ok outcome) e = absurd (cc)
judged_refused accepts refusal (Err other) e = cc

pub accepts : (m : Contents) (command : Command) (b : Bool) (r : Result Bool Refusal) → r ≡ acceptance m command → r
    ≡ Ok b → is_accepted m command ≡ b
accepts m command b r is e = judged_is (is_accepted m command) b (step m command).answer (sym is ∙ e)

-- a memory and a journal of the sizes of a header, with a command more
pub fits_longer : (c : CheckpointState) (m new : Contents) (j longer_j : JournalState) (command : Command)
    → Fits c m j → new ≡ (step m command).contents → longer_j ≡ longer 1 j → Fits c new longer_j
fits_longer c m new j longer_j command it is more = record {
  cells = ap (λ (x : Contents). length x.cells) is ∙ step-cell_count m command ∙ it.cells;
  elements = ap (λ (x : Contents). length x.windows) is ∙ step-window_count m command ∙ it.elements;
  ring = ap (λ (x : JournalState). x.ring) more ∙ it.ring;
  first = ap (λ (x : JournalState). x.first) more ∙ it.first;
  step = subst (λ (x : JournalState). StepFits c.header x c.step) (sym more) (step_longer c.header j c.step it.step);
}
  where
    later : (h : Header) (j : JournalState) (count : ℕ) → IsBetween h j count → IsBetween h (longer 1 j) count
    later h j count it = record { from = it.from; to = (let to : count ≤ j.count = it.to in omega arith) }

    step_longer : (h : Header) (j : JournalState) (s : Step) → StepFits h j s → StepFits h (longer 1 j) s
    step_longer h j NoCheckpoint it = tt
    step_longer h j (PagesLeft count left) it = later h j count it
    step_longer h j (PagesDone count) it = later h j count it
    step_longer h j (Synced count) it = later h j count it

-- a disk that keeps a memory keeps it with a command more, once that is appended
module _ (c : CheckpointState) (x : Paged) (m : Contents) (j : JournalState) (now : Moment)
    (kept : IsKept c x m j now) (command : Command) (accepted : is_accepted m command ≡ true) where
  pub kept_with_it : (new : Contents) → new ≡ (step m command).contents → (longer_j : JournalState) → longer_j
      ≡ longer 1 j → (after : Moment) → SameButGroup j.ring j.count 1 now.bytes after.bytes → after.ranges ≡ []
      → ((file : List ℕ) → Left after file → IsAdded 1 j (command ∷ []) now file) → AllHold longer_j after
      → IsKept c x new longer_j after
  kept_with_it new is longer_j more after but calm added holds =
      subst (λ (y : Contents). IsKept c x y longer_j after) (sym is)
      (subst (λ (y : JournalState). IsKept c x (step m command).contents y after) (sym more)
      (kept_longer c x m j now kept (command ∷ []) (step m command).contents
      (accept_one m command accepted) after but calm (added after.bytes (left_now after))
      (subst (λ (x : JournalState). Holds x after.bytes) more (holds after.bytes (left_now after)))))

-- an answer to a command, by what the engine is

pub answered_unaccepted : {D : Type 0} (old new : EngineState D) (command : Command)
    (answer : Result Outcome Refusal) → old.failed ≡ false → is_accepted old.memory command ≡ false
    → answer ≡ (step old.memory command).answer → new ≡ old → Answered old command answer new
answered_unaccepted old new command answer alive un is same = record {
  dead = λ e. absurd (cc);
  unaccepted = λ f n. (is, same);
  full = λ f n z. absurd (cc);
  put = λ f n z. absurd (cc);
  pages = λ f n z g. absurd (cc);
}

-- a refused command isn't accepted
pub refused_unaccepted : (m : Contents) (command : Command) (refusal : Refusal) → (step m command).answer
    ≡ Err refusal → is_accepted m command ≡ false
refused_unaccepted m command refusal is = by_test (is_accepted m command) refl
  where
    by_test : (b : Bool) → is_accepted m command ≡ b → b ≡ false
    by_test false e = refl
    by_test true e = let answers : Answers (step m command).answer = accepted_answers m command e in
        let both : Ok answers.0 ≡ Err refusal = sym answers.1 ∙ is in absurd (cc)

pub refused_acceptance : (m : Contents) (command : Command) (refusal : Refusal) (r : Result Bool Refusal) → r
    ≡ acceptance m command → r ≡ Err refusal → (step m command).answer ≡ Err refusal
refused_acceptance m command refusal r is e = judged_refused (is_accepted m command) refusal (step m command).answer
    (sym is ∙ e)

-- how many calls of the disk a command takes
abbrev calls_where : Bool → ℕ
calls_where accepted = if accepted then 4 else 0

calls_always : {D T E : Type 0} (past : D → List Moment) (old new : D) (n : ℕ) (r : Result T E)
    → Calls past old new n → CallsBy past old new n r
calls_always past old new n (Ok x) is = is
calls_always past old new n (Err e) is = omega (arith, is)

pub calls_after : {D T E U V : Type 0} (past : D → List Moment) (old new : D) (n : ℕ) (first : Result T E) (x : T)
    (r : Result U V) → first ≡ Ok x → CallsBy past old new n first → CallsBy past old new n r
calls_after {D} {T} {E} past old new n first x r is calls = calls_always past old new n r
    (subst (λ (a : Result T E). CallsBy past old new n a) is calls)

pub calls_accepted : {D T E : Type 0} (past : D → List Moment) (old new : D) (m : Contents) (command : Command)
    (r : Result T E) → is_accepted m command ≡ true → CallsBy past old new 4 r
    → CallsBy past old new (calls_for m command) r
calls_accepted past old new m command r accepted is = subst (λ (n : ℕ). CallsBy past old new n r)
    (sym (ap calls_where accepted)) is

pub calls_none : {D T E : Type 0} (past : D → List Moment) (d : D) (m : Contents) (command : Command)
    (r : Result T E) → is_accepted m command ≡ false → CallsBy past d d (calls_for m command) r
calls_none past d m command r un = subst (λ (n : ℕ). CallsBy past d d n r) (sym (ap calls_where un))
    (calls_always past d d 0 r (omega arith))
