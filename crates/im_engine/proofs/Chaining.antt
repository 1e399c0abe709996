-- The group ahead of an engine.
use Rattle.std.proofs.Common.{◌≡◌, ℕ, ◌≤◌, Bool, true, false, List, [], ◌∷◌, length, ◌==◌, sym, refl, ap, ◌∙◌, subst}
use Rattle.std.proofs.Common.{arith}
use Rattle.im_types.specs.Types.{Command, Contents, after, Header}
use Rattle.{im_laws.proofs.Tests.test-self, im_laws.proofs.Tests.true_false, im_groups.proofs.CommandLemmas.at-after}
use Rattle.im_journal.specs.Holding.{ahead_after, IsJournal, JournalState, longer, with_ahead, with_room}
use Rattle.im_groups.specs.Commands.{commands_at, contents_after_all, takes_at}
use Rattle.im_checkpoint.specs.{declared.TurnDone.TurnDone, Keeping.Fits, Keeping.StepFits}
use Rattle.im_checkpoint.specs.Step.{CheckpointState, NoCheckpoint, PagesDone, PagesLeft, Step, Synced}
use Rattle.im_checkpoint.specs.Turns.{calls_to_sweep, swept_at_once, Turned}
use Rattle.im_engine.proofs.Members.{longer_none}
use Rattle.im_engine.specs.{Chain.IsAhead, Chain.laid_of, Chain.WereJudged, State.journal_of}

-- as many are no other number
pub no_other : (a b : ℕ) → a ≡ b → (a == b) ≡ false → ⊥
no_other a b same other = true_false (sym (ap (λ (n : ℕ). n == b) same ∙ test-self b) ∙ other)

-- the commands of members that take places, by whether it is known that all do
pub whole_put : (whole : Bool) (members commands : List Command) → whole ≡ true
    → laid_of whole members commands ≡ members
whole_put whole members commands is = ap (λ (b : Bool). laid_of b members commands) is

pub some_put : (whole : Bool) (members commands : List Command) → whole ≡ false
    → laid_of whole members commands ≡ commands
some_put whole members commands is = ap (λ (b : Bool). laid_of b members commands) is

-- nothing is ahead
none_told : (m : Contents) (members commands : List Command) (taken : List Bool) → members ≡ [] → commands ≡ []
    → WereJudged m members commands taken
none_told m members commands taken none nothing = record {
  commands = nothing ∙ sym (ap (λ (l : List Command). commands_at m (length l) l) none);
  taken = λ other. absurd (no_other (length commands) (length members) (ap length (nothing ∙ sym none)) other);
}

pub nothing_ahead : (m : Contents) (j : JournalState) (members commands : List Command) (taken : List Bool)
    → members ≡ [] → commands ≡ [] → j.ahead ≡ [] → IsAhead m j members commands taken
nothing_ahead m j members commands taken none nothing laid = record {
  enough = omega (arith, ap length none);
  told = none_told m members commands taken none nothing;
  laid = laid ∙ sym nothing;
}

-- a group stays ahead where there is more room, and where the run begins later
pub ahead_kept : (m : Contents) (j k : JournalState) (members commands : List Command) (taken : List Bool)
    → k.count ≡ j.count → j.room ≤ k.room → k.ahead ≡ j.ahead → IsAhead m j members commands taken
    → IsAhead m k members commands taken
ahead_kept m j k members commands taken count room same it = record {
  enough = omega (arith, it.enough, count, room);
  told = it.told;
  laid = same ∙ it.laid;
}

pub more_room : (m : Contents) (j k : JournalState) (n : ℕ) (members commands : List Command) (taken : List Bool)
    → k ≡ with_room j n → IsAhead m j members commands taken → IsAhead m k members commands taken
more_room m j k n members commands taken is it = ahead_kept m j k members commands taken
    (ap (λ (x : JournalState). x.count) is) (omega (arith, ap (λ (x : JournalState). x.room) is))
    (ap (λ (x : JournalState). x.ahead) is) it

-- a memory that no command changes
pub unchanged_after : (m : Contents) (left : ℕ) (cs cmds : List Command) → cmds ≡ commands_at m left cs → cmds ≡ []
    → contents_after_all m left cs ≡ m
unchanged_after m left cs cmds are none = sym (at-after m left cs) ∙ ap (λ (l : List Command). after m l)
    (sym are ∙ none)

-- a group stays ahead where no command is put, and is no more where any is
pub still_ahead : (m n : Contents) (j k : JournalState) (cmds members members2 commands commands2 : List Command)
    (taken taken2 : List Bool) → k ≡ longer (length cmds) j → members2 ≡ ahead_after (length cmds) members
    → commands2 ≡ ahead_after (length cmds) commands → taken2 ≡ taken
    → (cmds ≡ [] → n ≡ m) → IsJournal j → IsAhead m j members commands taken → IsAhead n k members2 commands2 taken2
still_ahead m n j k [] members members2 commands commands2 taken taken2 k_is ms cs ts same known it =
    let here : k ≡ j = k_is ∙ longer_none j known in
    let told : WereJudged n members2 commands2 taken2 = record {
      commands = cs ∙ it.told.commands
          ∙ (λ i. commands_at (sym (same refl) i) (length (sym ms i)) (sym ms i));
      taken = λ other. ts
          ∙ it.told.taken ((λ i. length (sym cs i) == length (sym ms i)) ∙ other)
          ∙ (λ i. takes_at (sym (same refl) i) (length (sym ms i)) (sym ms i));
    } in
    record {
      enough = omega (
        arith,
        it.enough,
        ap length ms,
        ap (λ (x : JournalState). x.count) here,
        ap (λ (x : JournalState). x.room) here,
      );
      told = told;
      laid = ap (λ (x : JournalState). x.ahead) here ∙ it.laid ∙ sym cs;
    }
still_ahead m n j k (c ∷ cmds) members members2 commands commands2 taken taken2 k_is ms cs ts same known it =
    nothing_ahead n k members2 commands2 taken2 ms cs (ap (λ (x : JournalState). x.ahead) k_is)

-- the table of turns doesn't speak of what is ahead
pub turned_alone : (c d : CheckpointState) (j k : JournalState) (answer : TurnDone) → Turned c j answer d k
    → Turned c (with_ahead [] j) answer d (with_ahead [] k)
turned_alone c d j k answer t = record {
  swept = λ is some. let row = t.swept is some in (row.0, row.1, ap (λ (x : JournalState). with_ahead [] x) row.2);
  began = λ is none due. let row = t.began is none due in
      (row.0, row.1, ap (λ (x : JournalState). with_ahead [] x) row.2);
  idle = λ is none due. let row = t.idle is none due in
      (row.0, row.1, ap (λ (x : JournalState). with_ahead [] x) row.2);
  page = λ count i left is. let row = t.page count i left is in
      (row.0, row.1, ap (λ (x : JournalState). with_ahead [] x) row.2);
  synced = λ count is. let row = t.synced count is in
      (row.0, row.1, ap (λ (x : JournalState). with_ahead [] x) row.2);
  in_force = λ count is. let row = t.in_force count is in
      (row.0, row.1, ap (λ (x : JournalState). with_ahead [] x) row.2);
}

-- the journal of an engine is that behind its header, whatever is ahead
pub alone_is : (c : CheckpointState) (m : Contents) (j : JournalState) → Fits c m j
    → journal_of c.header j.count j.room ≡ with_ahead [] j
alone_is c m j it = (λ i. record {
  ring = (sym it.ring) i;
  first = (sym it.first) i;
  count = j.count;
  room = j.room;
  ahead = [];
})

-- so the table of turns holds of the journals of engines
pub turned_here : (c d : CheckpointState) (m n : Contents) (j k : JournalState) (answer : TurnDone) → Fits c m j
    → Fits d n k → Turned c j answer d k
    → Turned c (journal_of c.header j.count j.room) answer d (journal_of d.header k.count k.room)
turned_here c d m n j k answer fits_j fits_k t =
    subst (λ (x : JournalState). Turned c x answer d (journal_of d.header k.count k.room)) (sym (alone_is c m j fits_j))
    (subst (λ (y : JournalState). Turned c (with_ahead [] j) answer d y) (sym (alone_is d n k fits_k))
    (turned_alone c d j k answer t))

-- nor does a sweep
pub swept_alone : (s : Step) (j : JournalState) (most : ℕ) → swept_at_once s (with_ahead [] j) most
    ≡ swept_at_once s j most
swept_alone NoCheckpoint j most = refl
swept_alone (PagesLeft count left) j most = refl
swept_alone (PagesDone count) j most = refl
swept_alone (Synced count) j most = refl

pub calls_alone : (s : Step) (j : JournalState) (most : ℕ) → calls_to_sweep s (with_ahead [] j) most
    ≡ calls_to_sweep s j most
calls_alone NoCheckpoint j most = refl
calls_alone (PagesLeft count left) j most = refl
calls_alone (PagesDone count) j most = refl
calls_alone (Synced count) j most = refl

-- so a number that doesn't speak of it is that of the journal behind a header
pub number_here : (n : JournalState → ℕ) (c : CheckpointState) (m : Contents) (j : JournalState)
    → n (with_ahead [] j) ≡ n j → Fits c m j → n j ≡ n (journal_of c.header j.count j.room)
number_here n c m j alone it = sym alone ∙ ap n (sym (alone_is c m j it))

-- a memory and a journal fit a header whatever is ahead
step_ahead : (h : Header) (j : JournalState) (next : List Command) (s : Step) → StepFits h j s
    → StepFits h (with_ahead next j) s
step_ahead h j next NoCheckpoint it = tt
step_ahead h j next (PagesLeft count left) it = record { from = it.from; to = it.to }
step_ahead h j next (PagesDone count) it = record { from = it.from; to = it.to }
step_ahead h j next (Synced count) it = record { from = it.from; to = it.to }

pub fits_ahead : (c : CheckpointState) (m : Contents) (j k : JournalState) (next : List Command)
    → k ≡ with_ahead next j → Fits c m j → Fits c m k
fits_ahead c m j k next is it = subst (λ (x : JournalState). Fits c m x) (sym is) (record {
  cells = it.cells;
  elements = it.elements;
  ring = it.ring;
  first = it.first;
  step = step_ahead c.header j next c.step it.step;
})
