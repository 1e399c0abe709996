-- A dialogue from its opening to its end.
use Rattle.std.proofs.Common.{◌≡◌, ℕ, ◌≤◌, Bool, false, List, [], ◌++◌, length, Option, sym, ap, ◌∙◌, subst, ⊎_elim}
use Rattle.std.proofs.Common.{arith}
use Rattle.std.specs.Io.KnownBytes.{Appends}
use Rattle.im_types.specs.Types.{Command, MAX_GROUP, layout_in_use, image_length}
use Rattle.im_disk.proofs.SinceLemmas.{leaves_now, left_now}
use Rattle.im_disk.specs.{declared.Disk.Ghosts, Moment.Left, Moment.Moment}
use Rattle.im_disk.specs.Since.{Leaves, LeavesNow, LeavesWithin}
use Rattle.im_engine.specs.State.{EngineState, MeansState}
use Rattle.im_session.specs.Kept.{Kept, SessionStart, SessionState, start_at}
use Rattle.im_text.proofs.{PrintingLemmas.take-all, SaidLemmas.nothing_said}
use Rattle.im_text.specs.{declared.Style.TheVariants.Text, Said.output, Said.SaysLast}
use Rattle.im_dialogue.proofs.HearingLemmas.{heard_all, heard_not_all}
use Rattle.im_dialogue.specs.{Backups.Backup, Hearing.asked_after}
use Rattle.im_dialogue.specs.Dialogue.{BeginsNow, BeginsTalk, TalkClosed, Talked, WasOpened}
use Rattle.im_dialogue.specs.Talk.{Exchange, Outputs, outputs, put_of, questions_of, TalkEnds, TalksOn, texts_of}
use Rattle.im_dialogue.specs.Talk.{with_left}

-- an image of these limits, by the numbers of cells and elements as the code has them
pub same_length : (cells elements slots c e bytes : ℕ) → c ≡ cells → e ≡ elements
    → bytes ≡ image_length layout_in_use (record { cells = cells; elements = elements; slots = slots })
    → bytes ≡ image_length layout_in_use (record { cells = c; elements = e; slots = slots })
same_length cells elements slots c e bytes same_c same_e is =
    subst (λ (n : ℕ). bytes ≡ image_length layout_in_use (record { cells = n; elements = e; slots = slots }))
    (sym same_c)
    (subst (λ (n : ℕ). bytes ≡ image_length layout_in_use (record { cells = cells; elements = n; slots = slots }))
    (sym same_e) is)

-- what is left since a moment is left since the same moment
pub same_start : (was is new : Moment) (past_was past_is past_new : List Moment) → is ≡ was → past_is ≡ past_was
    → Leaves is new past_is past_new (Left is) → Leaves was new past_was past_new (Left was)
same_start was is new past_was past_is past_new now past it =
    subst (λ (m : Moment). Leaves m new past_was past_new (Left m)) now
    (subst (λ (p : List Moment). Leaves is new p past_new (Left is)) past it)

-- an opening leaves nothing new, and what it found was there
pub was_opened : {D : Type 0} (disk : Ghosts D) (old mid : D) (engine : EngineState D) → disk.now mid ≡ disk.now old
    → disk.past mid ≡ disk.past old
    → LeavesWithin disk.now disk.past mid engine.disk (Left (disk.now mid))
    → LeavesNow (disk.now engine.disk) (MeansState engine) → WasOpened disk old engine
was_opened disk old mid engine now past leaves means =
    let here : Moment = disk.now engine.disk in
    let opened = same_start (disk.now old) (disk.now mid) here (disk.past old) (disk.past mid) (disk.past engine.disk)
    now past leaves in
    record {
      leaves = opened;
      found = (
        here.bytes,
        ⊎_elim (λ left. left) (λ left. left) (leaves_now (disk.now old) here (disk.past old) (disk.past engine.disk)
            (Left (disk.now old)) opened here.bytes (left_now here)),
        means here.bytes (left_now here),
      );
    }

module _ {D : Type 0} (disk : Ghosts D) (watch : Bool) (old : D) (s : SessionState D) (opened : BeginsTalk disk old s)
    (new : D) (was is : Outputs) (status : ℕ) (it : TalkClosed disk watch s.engine new was is status)
    (honest : disk.honest new) where
  honest_then : disk.honest s.engine.disk
  honest_then = subst disk.honest (ap (λ (x : SessionStart D). x.disk) it.begins)
      (it.kept.honest (subst disk.honest it.closed honest))

  pub honest_before : disk.honest old
  honest_before = opened.honest honest_then

  pub talked : Talked disk watch old new was is status
  talked = record { first = s.engine; opened = opened.opened honest_then; closed = it }

module _ {D : Type 0} (disk : Ghosts D) (watch : Bool) (first last : SessionState D) (begins : BeginsNow first)
    (works : first.engine.failed ≡ false) (kept : Kept disk last) (new : D) (closed : new ≡ last.engine.disk)
    (was : Outputs) (status : ℕ) where
  -- where the session began, and what it put
  start_is : last.start ≡ first.start → last.start ≡ start_at first.engine.disk first.engine
  start_is same = same ∙ ap (λ (s : SessionState D). s.start) begins

  put_is : (said : List Exchange) → last.put ≡ first.put ++ put_of first.engine.memory said
      → last.put ≡ put_of first.engine.memory said
  put_is said same = same ∙ ap (λ (s : SessionState D). s.put ++ put_of first.engine.memory said) begins

  -- all lines of the input were served
  pub closed_on : (is : Outputs) (input : Option (List ℕ))
      → TalksOn watch first was last (with_left (asked_after 0 input) is)
      → TalkClosed disk watch first.engine new was is status
  closed_on is input on =
      let it = on works in
      let sure : last.doubt ≡ [] = ap (λ (s : SessionState D). s.doubt) it.done.same
      ∙ ap (λ (s : SessionState D). s.doubt) begins in
      record {
        session = last;
        begins = start_is (ap (λ (s : SessionState D). s.start) it.done.same);
        closed = closed;
        kept = kept;
        said = it.said;
        answered = it.done.answered;
        put = put_is it.said (ap (λ (s : SessionState D). s.put) it.done.same);
        few = subst (λ (l : List Command). length l ≤ MAX_GROUP) (sym sure) (omega arith);
        printed = (
          is.text,
          (
            length (texts_of watch first.engine.memory it.said),
            subst (Appends was.text is.text) (sym (take-all (texts_of watch first.engine.memory it.said))) it.printed,
          ),
          nothing_said (output Text is.text),
        );
        whole = λ zero. (sure, it.printed);
        backups = it.backups;
        heard = heard_all was.left input (questions_of it.said) status it.heard;
      }

  -- it was ended, and no more than a refusal printed then
  pub closed_by : (mid is : Option (List ℕ)) (backups : List Backup)
      → TalkEnds watch first was last (outputs mid backups)
      → SaysLast (output Text mid) is → status ≡ 1
      → TalkClosed disk watch first.engine new was (outputs is backups) status
  closed_by mid is backups ends end refused =
      let it = ends works in
      let failed : status ≡ 0 → ⊥ = λ zero. omega (arith, zero, refused) in
      let doubt : last.doubt ≡ it.ended.doubt = ap (λ (s : SessionState D). s.doubt) it.ended.same
      ∙ ap (λ (s : SessionState D). s.doubt ++ it.ended.doubt) begins in
      record {
        session = last;
        begins = start_is (ap (λ (s : SessionState D). s.start) it.ended.same);
        closed = closed;
        kept = kept;
        said = it.said;
        answered = it.ended.answered;
        put = put_is it.said (ap (λ (s : SessionState D). s.put) it.ended.same);
        few = subst (λ (l : List Command). length l ≤ MAX_GROUP) (sym doubt) it.ended.few;
        printed = (mid, it.printed, end);
        whole = λ zero. absurd (failed zero);
        backups = it.backups;
        heard = heard_not_all was.left (questions_of it.said) status failed it.heard;
      }
