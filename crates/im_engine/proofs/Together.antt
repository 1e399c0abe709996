-- How a group is served.
use Rattle.std.proofs.Common.{◌≡◌, ℕ, ◌+◌, ◌-◌, ◌<◌, ◌≤◌, min, Bool, true, false, ◌⊎◌, List, [], length, Some, Ok, Err}
use Rattle.std.proofs.Common.{Result, sym, ap, ◌∙◌, subst, inl, inr, ⊎_elim, arith}
use Rattle.im_types.specs.Types.{Command, Served, Device, LAST, Contents, after, layout_in_use, ring_of, Header}
use Rattle.im_types.specs.Types.{accept_each, Means}
use Rattle.{im_laws.specs.Groups.IsCounted, im_journal.proofs.Appending.none_ahead, im_image.specs.Reading.HasSizes}
use Rattle.im_disk.specs.{Moment.Moment, Since.CallsAtMost, Since.CallsBy}
use Rattle.im_journal.specs.Holding.{ahead_after, IsJournal, JournalState, longer, room_after}
use Rattle.im_memory.specs.State.{MemoryState}
use Rattle.im_groups.proofs.CommandLemmas.{at-accepts, at-after, few_at}
use Rattle.im_groups.specs.Commands.{commands_at, contents_after_all, most_pages_with, places}
use Rattle.im_checkpoint.specs.{Keeping.Fits, Keeping.IsBetween, Keeping.MeansWith, Keeping.StepFits, Turns.AddsAtMost}
use Rattle.im_checkpoint.specs.Step.{changed_in, CheckpointState, NoCheckpoint, PagedCheckpoint, PagesDone, PagesLeft}
use Rattle.im_checkpoint.specs.Step.{Step, Synced}
use Rattle.im_engine.proofs.{Adding.none_named, Adding.unchanged, Members.longer_none}
use Rattle.im_engine.specs.Commands.{after_commands, answers_in_turn, commands_put, CommandsAnswered, each_refused}
use Rattle.im_engine.specs.Groups.{calls_for_group, GroupCalls, reached_in}
use Rattle.im_engine.specs.State.{engine_of, EngineState, MeansEither}

-- the count of a journal is no number past the last one
pub counted_by : {D : Type 0} (j : JournalState) → IsJournal j → (s : EngineState D) → j.count ≡ s.count
    → j.room ≡ s.room → IsCounted (reached_in s)
counted_by j known s count room = record {
  to_last = subst (λ (n : ℕ). n ≤ LAST) count known.to_last;
  full_at_last = λ last. sym room ∙ known.full_at_last (count ∙ last);
}

-- the memory and the journal with more commands are of the sizes of the header still
pub fits_group : (c c2 : CheckpointState) (m m2 : Contents) (j j2 : JournalState) (n : ℕ) → Fits c m j → c2 ≡ c
    → HasSizes c2.header.sizes m2 → j2 ≡ longer n j → Fits c2 m2 j2
fits_group c c2 m m2 j j2 n it same sizes more = record {
  cells = sizes.cells;
  elements = sizes.elements;
  ring = ap (λ (x : JournalState). x.ring) more ∙ ring;
  first = ap (λ (x : JournalState). x.first) more ∙ first;
  step = subst (λ (x : JournalState). StepFits c2.header x c2.step) (sym more)
      (subst (λ (x : CheckpointState). StepFits x.header (longer n j) x.step) (sym same)
      (step_longer c.header j c.step it.step));
}
  where
    ring : j.ring ≡ ring_of layout_in_use c2.header.sizes
    ring = subst (λ (x : CheckpointState). j.ring ≡ ring_of layout_in_use x.header.sizes) (sym same) it.ring

    first : j.first ≡ c2.header.count
    first = subst (λ (x : CheckpointState). j.first ≡ x.header.count) (sym same) it.first

    later : (h : Header) (j : JournalState) (count : ℕ) → IsBetween h j count → IsBetween h (longer n j) count
    later h j count it = record { from = it.from; to = (let to : count ≤ j.count = it.to in omega arith) }

    step_longer : (h : Header) (j : JournalState) (s : Step) → StepFits h j s → StepFits h (longer n j) s
    step_longer h j NoCheckpoint it = tt
    step_longer h j (PagesLeft count left) it = later h j count it
    step_longer h j (PagesDone count) it = later h j count it
    step_longer h j (Synced count) it = later h j count it

-- what is ahead is no more once commands were put
gone : {X : Type 0} (cmds put : List Command) (a : List X) → cmds ≡ put → 0 < length put
    → ahead_after (length cmds) a ≡ []
gone cmds put a are some = none_ahead (length cmds) a (omega (arith, ap length are, some))

module _ {D : Type 0} (d : D) (c : PagedCheckpoint) (m : MemoryState) (j : JournalState) (a : List Command) (f : Bool)
    (cs : List Command) (known : IsJournal j) (cmds : List Command)
    (cmds_are : cmds ≡ commands_at m.contents (places j.count j.room) cs) where
  abbrev here : EngineState D
  here = engine_of d c m j a f

  few : length cmds ≤ min j.room (LAST - j.count)
  few = omega (arith, ap length cmds_are, few_at m.contents (min j.room (LAST - j.count)) cs)

  pub room_for : length cmds ≤ j.room
  room_for = omega (arith, few)

  pub last_for : j.count + length cmds ≤ LAST
  last_for = omega (arith, few, known.to_last)

  pub accepts : accept_each m.contents cmds ≡ Some (contents_after_all m.contents (places j.count j.room) cs)
  accepts = ap (λ (l : List Command). accept_each m.contents l) cmds_are
      ∙ at-accepts m.contents (places j.count j.room) cs

  -- the files mean what the engine is without the group, or with it
  pub means_group : (file : List ℕ) → MeansWith m.contents j file
      ⊎ MeansWith (contents_after_all m.contents (places j.count j.room) cs) (longer (length cmds) j) file
      → MeansEither here (after_commands here cs) file
  means_group file either = ⊎_elim
      (λ old. inl old)
      (λ new. inr (subst (λ (l : List Command). Means (contents_after_all m.contents (places j.count j.room) cs)
      (j.count + length l) (room_after j.count (length l) j.room) file) cmds_are new))
      either

  -- a memory that no command changes
  none_after : cmds ≡ [] → contents_after_all m.contents (places j.count j.room) cs ≡ m.contents
  none_after none = sym (at-after m.contents (places j.count j.room) cs)
      ∙ ap (λ (l : List Command). after m.contents l) (sym cmds_are ∙ none)

  -- the disk has the group, and its members acted
  pub group_done : f ≡ false → (d2 : D) (c2 : PagedCheckpoint) (m2 : MemoryState) (j2 : JournalState)
      (a2 : List Command)
      → j2 ≡ longer (length cmds) j → a2 ≡ ahead_after (length cmds) a → (cmds ≡ [] → d2 ≡ d) → c2.state ≡ c.state
      → m2.contents ≡ contents_after_all m.contents (places j.count j.room) cs → (answers : List Served)
      → answers ≡ answers_in_turn here cs
      → AddsAtMost (most_pages_with m.contents (places j.count j.room) cs) (changed_in c) (changed_in c2)
      → CommandsAnswered here cs answers (engine_of d2 c2 m2 j2 a2 f)
  group_done alive d2 c2 m2 j2 a2 more ahead untouched still contents answers told adds = record {
    dead = λ e. absurd (cc);
    none = λ e none.
        let nothing : cmds ≡ [] = cmds_are ∙ none in
        let disk : d2 ≡ d = untouched nothing in
        let memory : m2.contents ≡ m.contents = contents ∙ none_after nothing in
        let journal : j2 ≡ j = more ∙ ap (λ (l : List Command). longer (length l) j) nothing ∙ longer_none j known in
        let pages : changed_in c2 ≡ changed_in c = unchanged (changed_in c) (changed_in c2)
        (subst (λ (n : ℕ). AddsAtMost n (changed_in c) (changed_in c2))
        (none_named m.contents (places j.count j.room) cs none) adds) in
        let same : a2 ≡ a = ahead ∙ ap (λ (l : List Command). ahead_after (length l) a) nothing in (
          told,
          (λ i. record {
            disk = disk i;
            header = (still i).header;
            step = (still i).step;
            pages = pages i;
            memory = memory i;
            count = (journal i).count;
            room = (journal i).room;
            ahead = same i;
            failed = f;
          }),
        );
    put = λ e some.
        let journal : j2 ≡ longer (length (commands_at m.contents (places j.count j.room) cs)) j
        = more ∙ ap (λ (l : List Command). longer (length l) j) cmds_are in
        let nothing : a2 ≡ [] = ahead ∙ gone cmds (commands_at m.contents (places j.count j.room) cs) a cmds_are some in
        inl (
          told,
          (λ i. record {
            disk = d2;
            header = (still i).header;
            step = (still i).step;
            pages = changed_in c2;
            memory = contents i;
            count = (journal i).count;
            room = (journal i).room;
            ahead = nothing i;
            failed = f;
          }),
        );
    pages = λ e works. adds;
  }

  -- a call of the disk failed
  pub group_failed : f ≡ false → (d2 : D) (j2 : JournalState) → j2 ≡ j → (cmds ≡ [] → ⊥) → (answers : List Served)
      → answers ≡ each_refused Device cs → CommandsAnswered here cs answers (engine_of d2 c m j2 a true)
  group_failed alive d2 j2 stays some answers told = record {
    dead = λ e. absurd (cc);
    none = λ e none. absurd (some (cmds_are ∙ none));
    put = λ e any. inr (
      told,
      (λ i. record {
        disk = d2;
        header = c.state.header;
        step = c.state.step;
        pages = changed_in c;
        memory = m.contents;
        count = (stays i).count;
        room = (stays i).room;
        ahead = a;
        failed = true;
      }),
    );
    pages = λ e works. absurd (cc);
  }

  calls_are : calls_for_group (length cmds) ≡ calls_for_group (length (commands_put here cs))
  calls_are = ap (λ (l : List Command). calls_for_group (length l)) cmds_are

  pub calls_done : {T E : Type 0} (past : D → List Moment) (d2 : D) (result : Result T E) (x : T) → result ≡ Ok x
      → CallsBy past d d2 (calls_for_group (length cmds)) result
      → GroupCalls past d d2 f (calls_for_group (length (commands_put here cs)))
  calls_done {T} {E} past d2 result x is calls =
      let made : length (past d2)
      ≡ length (past d) + calls_for_group (length cmds) = subst
      (λ (y : Result T E). CallsBy past d d2 (calls_for_group (length cmds)) y) is calls in
      record {
        exactly = λ e. made
            ∙ ap (λ (n : ℕ). length (past d) + n) calls_are;
        most = omega (arith, made, calls_are);
      }

  pub calls_failed : {T E : Type 0} (past : D → List Moment) (d2 : D) (result : Result T E) (x : E) → result ≡ Err x
      → CallsBy past d d2 (calls_for_group (length cmds)) result
      → GroupCalls past d d2 true (calls_for_group (length (commands_put here cs)))
  calls_failed {T} {E} past d2 result x is calls =
      let most : CallsAtMost past d d2 (calls_for_group (length cmds)) = subst
      (λ (y : Result T E). CallsBy past d d2 (calls_for_group (length cmds)) y) is calls in
      record { exactly = λ e. absurd (cc); most = omega (arith, most, calls_are) }
