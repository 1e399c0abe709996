-- What the methods of a dialogue come to. (Own.)
use Rattle.std.specs.Prelude.{◌≡◌, ℕ, Bool, List, ◌++◌, MatchResult, Some, None, string_bytes, Option, Result}
use Rattle.std.specs.Prelude.{option_map}
use Rattle.std.specs.Io.KnownBytes.{append_known, Appends}
use Rattle.{im_disk.specs.declared.Disk.Ghosts, im_front.specs.declared.AskedCommand.AskedCommand}
use Rattle.im_dialogue.specs.{Backups.Backup, Dialogue.TalkClosed, Together.questions_asked}
use Rattle.im_dialogue.specs.declared.{asking.Question.Question, serving.Dialogue.Dialogue}
use Rattle.im_dialogue.specs.Hearing.{asked_after, asking, left_behind, questions_in, questions_left}
use Rattle.im_dialogue.specs.Talk.{Outputs, outputs, TalkEnds, TalksOn, with_input, with_left}

-- a dialogue was served to its end with these bytes as input, and closed
abbrev pub ClosesDialogue : {D : Type 0} → Ghosts D → Dialogue D → Option (List ℕ) → D → Outputs → Outputs → ℕ → Type 0
ClosesDialogue disk dialogue input new was is status =
    TalkClosed disk dialogue.setting.watch dialogue.front.session.engine new (with_input input was) is status

-- ---- what was told and isn't put out yet

-- what an input still asks for, behind these commands that are asked and not told
abbrev pub behind_asked : List AskedCommand → Option (List (Option Question)) → Option (List (Option Question))
behind_asked asked left = option_map (λ others. questions_asked asked ++ others) left

-- a text that was told, the backups that are kept, and what is still asked for: first these commands
abbrev pub told_so : List AskedCommand → List ℕ → List Backup → Option (List (Option Question)) → Outputs
told_so asked text kept left = with_left (behind_asked asked left) (outputs (Some text) kept)

-- the same behind what a writer holds
abbrev pub told_onto : Option (List ℕ) → List AskedCommand → List ℕ → List Backup → Option (List (Option Question))
    → Outputs
told_onto held asked text kept left = with_left (behind_asked asked left) (outputs (append_known held text) kept)

-- of the text that was told a beginning was put out, and this is left of it
abbrev pub PutsOut : List ℕ → List ℕ → Option (List ℕ) → Option (List ℕ) → Type 0
PutsOut was is held now = (put : List ℕ) × Appends held now put × (was ≡ put ++ is)

-- what a dialogue told and didn't put out yet, with these backups, and what is asked of it and left
abbrev pub told_by_it : {D : Type 0} → Dialogue D → List Backup → Option (List (Option Question)) → Outputs
told_by_it d kept left = told_so d.front.asked (string_bytes d.drafts.draft.text) kept left

module _ {D E : Type 0} where
  -- What a call comes to that serves commands that are asked, whatever is left behind them.
  abbrev pub TalksWithin : {T : Type 0} → Dialogue D → Dialogue D → Result T E → Type 0
  TalksWithin old new result = (kept : List Backup) (left : Option (List (Option Question))) → MatchResult result
      (λ done. TalksOn old.setting.watch old.front.session (told_by_it old kept left) new.front.session
      (told_by_it new kept left))
      (λ e. TalkEnds old.setting.watch old.front.session (told_by_it old kept left) new.front.session
      (told_by_it new kept None))

  -- What a call comes to that serves this line, given the backups that were kept and are, whatever is left behind it.
  -- It returns whether the dialogue continues.
  abbrev pub TalksLine : Option Question → Dialogue D → List Backup → Dialogue D → List Backup → Result Bool E → Type 0
  TalksLine asked old was new is result = (rest : Option (List (Option Question))) → MatchResult result
      (λ goes_on. TalksOn old.setting.watch old.front.session (told_by_it old was (asking asked rest))
      new.front.session (told_by_it new is (left_behind goes_on rest)))
      (λ e. TalkEnds old.setting.watch old.front.session (told_by_it old was (asking asked rest)) new.front.session
      (told_by_it new is None))

  -- The same of the next line of an input that had these bytes and has these; at the input's end there is none.
  abbrev pub TalksNext : Dialogue D → List Backup → Option (List ℕ) → Dialogue D → List Backup → Option (List ℕ)
      → Result Bool E → Type 0
  TalksNext old was known new is later result = MatchResult result
      (λ goes_on. TalksOn old.setting.watch old.front.session (told_by_it old was (questions_left known))
      new.front.session (told_by_it new is (left_behind goes_on (option_map questions_in later))))
      (λ e. TalkEnds old.setting.watch old.front.session (told_by_it old was (questions_left known)) new.front.session
      (told_by_it new is None))

  -- the dialogue was served to its end
  abbrev pub ServesAll : {T : Type 0} → Dialogue D → Outputs → Option (List ℕ) → Dialogue D → Outputs
      → Option (List ℕ) → Result T E → Type 0
  ServesAll old was known new is now result = MatchResult result
      (λ done. TalksOn old.setting.watch old.front.session (with_input known was) new.front.session
      (with_left (asked_after 0 now) is))
      (λ e. TalkEnds old.setting.watch old.front.session (with_input known was) new.front.session is)
