-- What the calls of a dialogue come to.
use Rattle.std.proofs.Common.{◌≡◌, ℕ, zero, suc, ◌+◌, ◌<◌, ◌≤◌, min, Bool, true, false, List, [], ◌∷◌, ◌++◌, length}
use Rattle.std.proofs.Common.{take, IfSome, OnOk, Some, None, Ok, Err, string_bytes, Option, Result, option_map}
use Rattle.std.proofs.Common.{MatchResult, sym, refl, ap, ◌∙◌, subst, append_assoc, append-nil, arith, take-take}
use Rattle.std.proofs.Common.{take_at}
use Rattle.std.proofs.{KnownBytes.Appends-trans, lemmas.List.length-map, lemmas.List.map-append}
use Rattle.std.specs.Io.KnownBytes.{append_known, Appends}
use Rattle.im_types.specs.Types.{Command, MAX_GROUP, LAST}
use Rattle.im_turning.specs.Turning.{IsSpent, point_of}
use Rattle.{im_session.specs.Kept.SessionState, im_text.specs.Printing.Begins}
use Rattle.im_front.specs.declared.{AskedCommand.AskedCommand, ToldAnswer.ToldAnswer}
use Rattle.im_front.specs.Lists.{answers_told, asks_told, commands_asked, commands_told}
use Rattle.im_front.specs.State.{Advanced, FrontRests, FrontState}
use Rattle.im_dialogue.proofs.GroupTalk.{done_by, group_cut, group_halts, group_on, worked}
use Rattle.im_dialogue.proofs.HearingLemmas.{heard_some, hears_as, same_left}
use Rattle.im_dialogue.proofs.TalkLemmas.{end_here, ends_after, halts_talk, Left, left_as, nothing_said, nothing_talked}
use Rattle.im_dialogue.proofs.TalkLemmas.{on_after, rests_halts, take-past, taken_said, then_talks, to_left}
use Rattle.im_dialogue.proofs.ToldLemmas.{asked_split, fits_told, hears_told, lines_exist, same_alone, same_behind}
use Rattle.im_dialogue.proofs.ToldLemmas.{says_told}
use Rattle.im_dialogue.{proofs.WatchedLemmas.tell_first, specs.Backups.Backup}
use Rattle.im_dialogue.specs.declared.{asking.Question.Question, serving.Dialogue.Dialogue, serving.Setting.Setting}
use Rattle.im_dialogue.specs.Hearing.{asking, Hears, left_behind, questions_in, questions_left}
use Rattle.im_dialogue.specs.Serving.{behind_asked, PutsOut, TalksLine, TalksNext, TalksWithin, told_by_it, told_onto}
use Rattle.im_dialogue.specs.Serving.{told_so}
use Rattle.im_dialogue.specs.Talk.{OnlyTurned, Outputs, outputs, TalkEnds, TalksOn, with_left}
use Rattle.im_dialogue.specs.Together.{AreAsked, AreLinesOf, group_start, GroupTold, questions_asked, TellWatchers}

-- ---- a group

-- the commands that were told are the first that were asked
told_commands : (all rest : List AskedCommand) (told : List ToldAnswer) (most : ℕ) → all ≡ asks_told told ++ rest
    → length told ≤ most → take (length told) (take most (commands_asked all)) ≡ commands_told told
told_commands all rest told most order few =
    take-take (length told) most (commands_asked all) few
    ∙ ap (λ (l : List AskedCommand). take (length told) (commands_asked l)) order
    ∙ ap (take (length told)) (map-append (λ (a : AskedCommand). a.command) (asks_told told) rest)
    ∙ take_at (commands_told told) (commands_asked rest) (length told) (many told)
  where
    many : (told : List ToldAnswer) → length (commands_told told) ≡ length told
    many told = length-map (asks_told told) (λ (a : AskedCommand). a.command)
        ∙ length-map told (λ (t : ToldAnswer). t.asked)

module _ {D : Type 0} (watch : Bool) (old new : FrontState D) (told : List ToldAnswer)
    (it : Advanced old told new) where
  -- what was told, and what those that watch are told
  pub was_told : (nows : List (List ℕ)) (most : ℕ) → AreAsked old.asked → length told ≤ min most MAX_GROUP
      → TellWatchers watch (group_start old.session.engine) [] (take most (commands_asked old.asked)) nows
      → old.session.engine.count ≤ LAST → (old.session.engine.count ≡ LAST → old.session.engine.room ≡ 0)
      → (old.session.engine.room ≡ 0 → IsSpent (point_of old.session.engine))
      → new.session.engine.failed ≡ false → GroupTold watch (group_start old.session.engine) told nows
  was_told nows most asked few watched within last spent alive =
      let e = old.session.engine in
      let b = group_start e in
      let works = worked e new.session.engine (commands_told told) (answers_told told) it.answered alive in
      record {
        asked = (asked_split (asks_told told) new.asked (subst AreAsked it.order asked)).0;
        answers =
            (done_by e new.session.engine (commands_told told) (answers_told told) it.answered works alive).answers;
        room = fits_told b e.count e.room (length told) refl refl it.room within last spent;
        watched = subst (λ (l : List Command). TellWatchers watch b [] l nows)
            (told_commands old.asked new.asked told most it.order (omega (arith, few)))
            (tell_first watch b (length told) [] (take most (commands_asked old.asked)) nows watched);
      }

  -- its lines were told
  pub group_told : (nows : List (List ℕ)) (text was is : List ℕ)
      → GroupTold watch (group_start old.session.engine) told nows → AreLinesOf told nows text → is ≡ was ++ text
      → new.session.engine.failed ≡ false → (kept : List Backup) (left : Left)
      → TalksOn watch old.session (told_so old.asked was kept left) new.session (told_so new.asked is kept left)
  group_told nows text was is answered lines same alive kept left =
      group_on old.session new.session (commands_told told) (answers_told told) it.answered it.put watch text
      (questions_asked (asks_told told))
      (says_told watch (group_start old.session.engine) told nows text answered lines) alive (Some was) (Some is)
      (behind_asked old.asked left) (behind_asked new.asked left) same
      (hears_told (asks_told told) new.asked old.asked left it.order) kept

  -- there was no memory for its lines
  pub group_untold : (nows : List (List ℕ)) (was is : List ℕ)
      → GroupTold watch (group_start old.session.engine) told nows → is ≡ was → new.session.engine.failed ≡ false
      → (kept : List Backup) (left : Left)
      → TalkEnds watch old.session (told_so old.asked was kept left) new.session (told_so new.asked is kept None)
  group_untold nows was is answered same alive kept left =
      let text = lines_exist told nows in
      group_cut old.session new.session (commands_told told) (answers_told told) it.answered it.put watch text.0
      (questions_asked (asks_told told))
      (says_told watch (group_start old.session.engine) told nows text.0 answered text.1) alive (Some was) (Some is)
      (behind_asked old.asked left) (0, same ∙ sym (append-nil was))
      (heard_some (behind_asked old.asked left) (behind_asked new.asked left) (questions_asked (asks_told told))
      (hears_told (asks_told told) new.asked old.asked left it.order)) kept

  -- a call of the disk failed
  pub group_failed : (most : ℕ) (text : List ℕ) → length told ≤ min most MAX_GROUP
      → new.session.engine.failed ≡ true → (kept : List Backup) (left : Left)
      → TalkEnds watch old.session (told_so old.asked text kept left) new.session (told_so new.asked text kept None)
  group_failed most text few dead kept left =
      let many = length-map (asks_told told) (λ (a : AskedCommand). a.command)
      ∙ length-map told (λ (t : ToldAnswer). t.asked) in
      halts_talk watch old.session new.session (told_so old.asked text kept left) None
      (group_halts old.session new.session (commands_told told) (answers_told told) it.answered it.put
      (omega (arith, few, many)) dead)

  -- what is still asked
  pub still_asked : AreAsked old.asked → AreAsked new.asked
  still_asked asked = (asked_split (asks_told told) new.asked (subst AreAsked it.order asked)).1

  -- it is less
  pub asked_less : 0 < length old.asked → length new.asked < length old.asked
  asked_less some =
      let one = it.some some in
      let all = ap (λ (l : List AskedCommand). length l) it.order
      ∙ length_of (asks_told told) new.asked in
      let many = length-map told (λ (t : ToldAnswer). t.asked) in
      omega (arith, one, all, many)
    where
      length_of : (xs ys : List AskedCommand) → length (xs ++ ys) ≡ length xs + length ys
      length_of [] ys = omega arith
      length_of (x ∷ xs) ys = let rest = length_of xs ys in omega (arith, rest)

-- ---- turns

module _ {D : Type 0} (watch : Bool) (old new : FrontState D) (rests : FrontRests old new) where
  -- they were taken, and nothing was told
  pub turns_told : OnlyTurned old.session new.session → (text : List ℕ) (kept : List Backup) (left : Left)
      → TalksOn watch old.session (told_so old.asked text kept left) new.session (told_so new.asked text kept left)
  turns_told turned text kept left =
      nothing_talked watch old.session new.session (told_so old.asked text kept left) (behind_asked new.asked left)
      (taken_said old.session new.session turned)
      (same_left (behind_asked old.asked left) (behind_asked new.asked left)
      (ap (λ (l : List AskedCommand). behind_asked l left) (sym rests.asked)))

  -- a call of the disk failed
  pub turns_failed : (text : List ℕ) (kept : List Backup) (left : Left)
      → TalkEnds watch old.session (told_so old.asked text kept left) new.session (told_so new.asked text kept None)
  turns_failed text kept left =
      halts_talk watch old.session new.session (told_so old.asked text kept left) None
      (rests_halts old.session new.session rests.rests)

-- ---- all that is asked

-- after as many groups as may be asked nothing is
pub none_left : (xs : List AskedCommand) (i most : ℕ) → length xs + i ≤ most → (i < most → ⊥) → xs ≡ []
none_left [] i most few over = refl
none_left (x ∷ xs) i most few over = absurd (over (omega (arith, few)))

-- ---- what was told is put out

cancel : (w xs ys : List ℕ) → w ++ xs ≡ w ++ ys → xs ≡ ys
cancel [] xs ys same = same
cancel (x ∷ w) xs ys same = let rest : w ++ xs ≡ w ++ ys = cc in cancel w xs ys rest

take_twice : (n m : ℕ) (xs : List ℕ) → (j : ℕ) × (take n (take m xs) ≡ take j xs)
take_twice zero m xs = (0, refl)
take_twice (suc n) zero xs = (0, refl)
take_twice (suc n) (suc m) [] = (0, refl)
take_twice (suc n) (suc m) (x ∷ xs) =
    let rest = take_twice n m xs in (suc rest.0, ap (λ (l : List ℕ). x ∷ l) rest.1)

appends_onto : (held : Option (List ℕ)) (was is text : List ℕ) → is ≡ was ++ text
    → Appends (append_known held was) (append_known held is) text
appends_onto None was is text same = tt
appends_onto (Some h) was is text same = ap (λ (l : List ℕ). h ++ l) same ∙ sym (append_assoc h was text)

-- some of it, or all
pub put_onto : (a b c : Option (List ℕ)) (was is all : List ℕ) → Appends a (append_known b was) all
    → PutsOut was is b c → Appends a (append_known c is) all
put_onto None b c was is all appends puts = tt
put_onto (Some w) None c was is all appends puts = absurd appends
put_onto (Some w) (Some h) None was is all appends (put, on, same) = absurd on
put_onto (Some w) (Some h) (Some d) was is all appends (put, on, same) =
    ap (λ (l : List ℕ). l ++ is) on ∙ append_assoc h put is ∙ ap (λ (l : List ℕ). h ++ l) (sym same) ∙ appends

-- a beginning of it
begins_onto : (a b c : Option (List ℕ)) (more text all : List ℕ) → Appends a b more
    → Begins a (append_known b text) all → Begins b c text → Begins a c all
begins_onto None b c more text all grown begins put = (0, tt)
begins_onto (Some w) None c more text all grown begins put = absurd grown
begins_onto (Some w) (Some h) None more text all grown begins (k, put) = absurd put
begins_onto (Some w) (Some h) (Some d) more text all grown (m, begins) (k, put) =
    let known : more ++ text ≡ take m all = cancel w (more ++ text) (take m all)
    (sym (append_assoc w more text) ∙ ap (λ (l : List ℕ). l ++ text) (sym grown) ∙ begins) in
    let some = take_twice (length more + k) m all in (
      some.0,
      put
          ∙ ap (λ (l : List ℕ). l ++ take k text) grown
          ∙ append_assoc w more (take k text)
          ∙ ap (λ (l : List ℕ). w ++ l) (sym (take-past more text k)
          ∙ ap (λ (l : List ℕ). take (length more + k) l) known ∙ some.1),
    )

module _ {D : Type 0} (watch : Bool) (old new : SessionState D) (held : Option (List ℕ))
    (was_asked is_asked : List AskedCommand) (was is : List ℕ) (was_kept is_kept : List Backup)
    (was_left is_left : Left) where
  -- the same behind what a writer holds
  pub on_onto : TalksOn watch old (told_so was_asked was was_kept was_left) new (told_so is_asked is is_kept is_left)
      → TalksOn watch old (told_onto held was_asked was was_kept was_left) new
      (told_onto held is_asked is is_kept is_left)
  on_onto on = λ f. let a = on f in record {
    said = a.said;
    done = a.done;
    printed = appends_onto held was is _ a.printed;
    backups = a.backups;
    heard = a.heard;
  }

  pub ends_onto : TalkEnds watch old (told_so was_asked was was_kept was_left) new
      (told_so is_asked is is_kept is_left)
      → TalkEnds watch old (told_onto held was_asked was was_kept was_left) new
      (told_onto held is_asked is is_kept is_left)
  ends_onto ends = λ f. let a = ends f in record {
    said = a.said;
    ended = a.ended;
    printed = (a.printed.0, appends_onto held was is _ a.printed.1);
    backups = a.backups;
    heard = a.heard;
  }

module _ {D : Type 0} (watch : Bool) (start mid : SessionState D) (was : Outputs) (held : Option (List ℕ))
    (asked : List AskedCommand) (text : List ℕ) (kept : List Backup) (left : Left)
    (on : TalksOn watch start was mid (told_onto held asked text kept left)) where
  -- more was told
  module _ (new : SessionState D) (is_asked : List AskedCommand) (is : List ℕ) (is_kept : List Backup)
      (is_left : Left) where
    pub then_told : TalksOn watch mid (told_so asked text kept left) new (told_so is_asked is is_kept is_left)
        → TalksOn watch start was new (told_onto held is_asked is is_kept is_left)
    then_told more = on_after watch start mid new was (told_onto held asked text kept left)
        (told_onto held is_asked is is_kept is_left) on
        (on_onto watch mid new held asked is_asked text is kept is_kept left is_left more)

    pub then_ended : TalkEnds watch mid (told_so asked text kept left) new (told_so is_asked is is_kept is_left)
        → TalkEnds watch start was new (told_onto held is_asked is is_kept is_left)
    then_ended more = ends_after watch start mid new was (told_onto held asked text kept left)
        (told_onto held is_asked is is_kept is_left) on
        (ends_onto watch mid new held asked is_asked text is kept is_kept left is_left more)

  -- some of it was put out
  pub put_some : (now : Option (List ℕ)) (is : List ℕ) → PutsOut text is held now
      → TalksOn watch start was mid (told_onto now asked is kept left)
  put_some now is puts = λ f. let a = on f in record {
    said = a.said;
    done = a.done;
    printed = put_onto was.text held now text is _ a.printed puts;
    backups = a.backups;
    heard = a.heard;
  }

  -- all of it was put out, and nothing is asked
  put_all : (now : Option (List ℕ)) → asked ≡ [] → Appends held now text
      → TalksOn watch start was mid (with_left left (outputs now kept))
  put_all now none puts = λ f. let a = on f in record {
    said = a.said;
    done = a.done;
    printed = no_more was.text now _ (put_onto was.text held now text [] _ a.printed
        (text, puts, sym (append-nil text)));
    backups = a.backups;
    heard = hears_as was.left (behind_asked asked left) left _ a.heard
        (same_alone asked left left none (same_left left left refl));
  }
    where
      no_more : (a c : Option (List ℕ)) (all : List ℕ) → Appends a (append_known c []) all → Appends a c all
      no_more None c all appends = tt
      no_more (Some w) None all appends = absurd appends
      no_more (Some w) (Some d) all appends = sym (append-nil d) ∙ appends

-- it was ended, and a beginning of what was told was put out
pub ended_put : {D : Type 0} (watch : Bool) (start new : SessionState D) (was : Outputs) (held now : Option (List ℕ))
    (asked : List AskedCommand) (text more : List ℕ) (kept : List Backup) (left : Left) → Appends was.text held more
    → Begins held now text → TalkEnds watch start was new (told_onto held asked text kept left)
    → TalkEnds watch start was new (outputs now kept)
ended_put watch start new was held now asked text more kept left grown put ends = λ f. let a = ends f in record {
  said = a.said;
  ended = a.ended;
  printed = begins_onto was.text held now more text _ grown a.printed put;
  backups = a.backups;
  heard = a.heard;
}

-- the last of it was put out, or a beginning
pub last_put : {D T E : Type 0} (watch : Bool) (start mid : SessionState D) (was : Outputs) (held now : Option (List ℕ))
    (asked : List AskedCommand) (text more : List ℕ) (kept : List Backup) (left : Left) (r : Result T E)
    → TalksOn watch start was mid (told_onto held asked text kept left) → asked ≡ [] → Appends was.text held more
    → OnOk r (Appends held now text) → Begins held now text
    → MatchResult r (λ done. TalksOn watch start was mid (with_left left (outputs now kept)))
    (λ e. TalkEnds watch start was mid (outputs now kept))
last_put watch start mid was held now asked text more kept left (Ok x) on none grown whole begins =
    put_all watch start mid was held asked text kept left on now none whole
last_put watch start mid was held now asked text more kept left (Err e) on none grown whole begins =
    ended_put watch start mid was held now asked text more kept None grown begins
    (end_here watch start mid was (told_onto held asked text kept left) None on)

-- nothing was told yet
pub told_nothing_yet : {D : Type 0} (watch : Bool) (s : SessionState D) (held : Option (List ℕ))
    (asked : List AskedCommand) (text : List ℕ) (kept : List Backup) (left : Left) → asked ≡ [] → text ≡ []
    → TalksOn watch s (with_left left (outputs held kept)) s (told_onto held asked text kept left)
told_nothing_yet watch s held asked text kept left none empty = λ f. record {
  said = [];
  done = nothing_said s f;
  printed = nothing held;
  backups = refl;
  heard = unheard left;
}
  where
    nothing : (h : Option (List ℕ)) → Appends h (append_known h text) []
    nothing None = tt
    nothing (Some h) = ap (λ (l : List ℕ). h ++ l) empty

    unheard : (l : Left) → Hears l (behind_asked asked l) []
    unheard None = tt
    unheard (Some l) = ap (λ (a : List AskedCommand). questions_asked a ++ l) (sym none)

-- what a writer holds grew
pub grown_on : (a b c : Option (List ℕ)) (was is : List ℕ) → (more : List ℕ) × Appends a b more → PutsOut was is b c
    → (more : List ℕ) × Appends a c more
grown_on a b c was is (more, grown) (put, on, same) = (more ++ put, Appends-trans a b c more put grown on)

-- by other names
pub lines_as : (told other : List ToldAnswer) (nows others : List (List ℕ)) (text : List ℕ) → told ≡ other
    → nows ≡ others → AreLinesOf told nows text → AreLinesOf other others text
lines_as told other nows others text same alike lines =
    subst (λ (l : List ToldAnswer). AreLinesOf l others text) same
    (subst (λ (l : List (List ℕ)). AreLinesOf told l text) alike lines)

-- ---- one call behind another

module _ {D E : Type 0} (old mid new : Dialogue D) (was is : List Backup) (same : mid.setting ≡ old.setting) where
  -- the watch of the first holds of both
  by_watch : {T : Type 0} (r : Result T E) (been : Outputs) (later : T → Outputs) (end : Outputs)
      → MatchResult r (λ t. TalksOn mid.setting.watch mid.front.session been new.front.session (later t))
      (λ e. TalkEnds mid.setting.watch mid.front.session been new.front.session end)
      → MatchResult r (λ t. TalksOn old.setting.watch mid.front.session been new.front.session (later t))
      (λ e. TalkEnds old.setting.watch mid.front.session been new.front.session end)
  by_watch r been later end it =
      subst (λ (s : Setting). MatchResult r (λ t. TalksOn s.watch mid.front.session been new.front.session (later t))
      (λ e. TalkEnds s.watch mid.front.session been new.front.session end)) same it

  -- a line behind all that was asked
  pub then_line : (asked : Option Question) (r : Result Bool E)
      → ((kept : List Backup) (left : Left) → TalksOn old.setting.watch old.front.session (told_by_it old kept left)
      mid.front.session (told_by_it mid kept left))
      → TalksLine asked mid was new is r → TalksLine asked old was new is r
  then_line asked r first line = λ rest.
      then_talks old.setting.watch old.front.session mid.front.session new.front.session
      (told_by_it old was (asking asked rest)) (told_by_it mid was (asking asked rest))
      (λ goes_on. told_by_it new is (left_behind goes_on rest)) (told_by_it new is None) r
      (first was (asking asked rest))
      (by_watch r (told_by_it mid was (asking asked rest)) (λ goes_on. told_by_it new is (left_behind goes_on rest))
      (told_by_it new is None) (line rest))

  -- the next line behind a rest
  pub then_next : (known mid_known later : Option (List ℕ)) (r : Result Bool E) → mid_known ≡ known
      → ((kept : List Backup) (left : Left) → TalksOn old.setting.watch old.front.session (told_by_it old kept left)
      mid.front.session (told_by_it mid kept left))
      → TalksNext mid was mid_known new is later r → TalksNext old was known new is later r
  then_next known mid_known later r alike first next =
      then_talks old.setting.watch old.front.session mid.front.session new.front.session
      (told_by_it old was (questions_left known)) (told_by_it mid was (questions_left known))
      (λ goes_on. told_by_it new is (left_behind goes_on (option_map questions_in later))) (told_by_it new is None) r
      (first was (questions_left known))
      (by_watch r (told_by_it mid was (questions_left known))
      (λ goes_on. told_by_it new is (left_behind goes_on (option_map questions_in later))) (told_by_it new is None)
      (subst (λ (k : Option (List ℕ)). TalksNext mid was k new is later r) alike next))

-- the next line is the line that was read
pub line_next : {D E : Type 0} (old new : Dialogue D) (was is : List Backup) (known later : Option (List ℕ))
    (asked : Option Question) (r : Result Bool E)
    → IfSome (questions_left known) (λ l. asking asked (option_map questions_in later) ≡ Some l)
    → TalksLine asked old was new is r → TalksNext old was known new is later r
line_next old new was is known later asked r read line =
    let rest = option_map questions_in later in
    let text = outputs (Some (string_bytes old.drafts.draft.text)) was in
    then_talks old.setting.watch old.front.session old.front.session new.front.session
    (told_by_it old was (questions_left known)) (told_by_it old was (asking asked rest))
    (λ goes_on. told_by_it new is (left_behind goes_on rest)) (told_by_it new is None) r
    (left_as old.setting.watch old.front.session text (behind_asked old.front.asked (questions_left known))
    (behind_asked old.front.asked (asking asked rest))
    (same_behind old.front.asked (questions_left known) (asking asked rest) read)) (line rest)

-- all that was asked was served, at the end of the input
pub end_next : {D : Type 0} (old new : Dialogue D) (kept : List Backup) (known later : Option (List ℕ))
    → IfSome (questions_left known) (λ l. left_behind false (option_map questions_in later) ≡ Some l)
    → ((left : Left) → TalksOn old.setting.watch old.front.session (told_by_it old kept left) new.front.session
    (told_by_it new kept left))
    → TalksOn old.setting.watch old.front.session (told_by_it old kept (questions_left known)) new.front.session
    (told_by_it new kept (left_behind false (option_map questions_in later)))
end_next old new kept known later read on =
    to_left old.setting.watch old.front.session new.front.session (told_by_it old kept (questions_left known))
    (outputs (Some (string_bytes new.drafts.draft.text)) kept) (behind_asked new.front.asked (questions_left known))
    (behind_asked new.front.asked (left_behind false (option_map questions_in later)))
    (same_behind new.front.asked (questions_left known) (left_behind false (option_map questions_in later)) read)
    (on (questions_left known))

module _ {D E : Type 0} (old new : Dialogue D) (was is : List Backup) (known later : Option (List ℕ))
    (r : Result Bool E)
    (next : TalksNext old was known new is later r) where
  -- a line was served, or there was none
  pub next_ok : (goes_on test : Bool) → r ≡ Ok goes_on → goes_on ≡ test
      → TalksOn old.setting.watch old.front.session (told_by_it old was (questions_left known)) new.front.session
      (told_by_it new is (left_behind test (option_map questions_in later)))
  next_ok goes_on test at same =
      subst (λ (b : Bool). TalksOn old.setting.watch old.front.session (told_by_it old was (questions_left known))
      new.front.session (told_by_it new is (left_behind b (option_map questions_in later)))) same
      (subst (λ (x : Result Bool E). TalksNext old was known new is later x) at next)

  pub next_err : (e : E) → r ≡ Err e
      → TalkEnds old.setting.watch old.front.session (told_by_it old was (questions_left known)) new.front.session
      (told_by_it new is None)
  next_err e at = subst (λ (x : Result Bool E). TalksNext old was known new is later x) at next

-- all that is asked was served behind a line
module _ {D E T : Type 0} (old mid new : Dialogue D) (was is : List Backup) (known : Left) (left : Left)
    (same : mid.setting ≡ old.setting)
    (on : TalksOn old.setting.watch old.front.session (told_by_it old was known) mid.front.session
    (told_by_it mid is left)) (r : Result T E) (within : TalksWithin mid new r) where
  pub settled_ok : (x : T) → r ≡ Ok x
      → TalksOn old.setting.watch old.front.session (told_by_it old was known) new.front.session
      (told_by_it new is left)
  settled_ok x at = on_after old.setting.watch old.front.session mid.front.session new.front.session
      (told_by_it old was known) (told_by_it mid is left) (told_by_it new is left) on
      (subst (λ (s : Setting). TalksOn s.watch mid.front.session (told_by_it mid is left) new.front.session
      (told_by_it new is left)) same (subst (λ (y : Result T E). TalksWithin mid new y) at within is left))

  pub settled_err : (e : E) → r ≡ Err e
      → TalkEnds old.setting.watch old.front.session (told_by_it old was known) new.front.session
      (told_by_it new is None)
  settled_err e at = ends_after old.setting.watch old.front.session mid.front.session new.front.session
      (told_by_it old was known) (told_by_it mid is left) (told_by_it new is None) on
      (subst (λ (s : Setting). TalkEnds s.watch mid.front.session (told_by_it mid is left) new.front.session
      (told_by_it new is None)) same (subst (λ (y : Result T E). TalksWithin mid new y) at within is left))

-- all of it was put out
pub put_whole : {T E : Type 0} (r : Result T E) (was is : List ℕ) (held now : Option (List ℕ))
    → OnOk r (Appends held now was) → is ≡ [] → OnOk r (PutsOut was is held now)
put_whole (Ok x) was is held now whole none =
    (was, whole, sym (append-nil was) ∙ ap (λ (l : List ℕ). was ++ l) (sym none))
put_whole (Err e) was is held now whole none = tt
