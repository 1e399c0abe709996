-- A script that is served once: what a memory has of it. (Own.)
use Rattle.std.proofs.Common.{◌≡◌, ℕ, zero, suc, ◌+◌, ◌-◌, ◌<◌, ◌≤◌, Bool, true, false, ◌&&◌, ◌⊎◌, List, [], ◌∷◌, ◌++◌}
use Rattle.std.proofs.Common.{map, length, take, IfOk, if◌then◌else◌, OnOk, slice_get, Some, None, Ok, Err, Option}
use Rattle.std.proofs.Common.{Result, MatchResult, sym, refl, ap, ◌∙◌, subst, ap₂, inl, inr, ⊎_elim, append_assoc}
use Rattle.std.proofs.Common.{append-nil, arith, take_all, Bor}
use Rattle.std.proofs.lemmas.List.{length-map, map-append, take_more}
use Rattle.std.specs.Option.{option_map_or}
use Rattle.im_types.specs.Types.{Entry, Waiter, Kept, Waiting, Answered, Command, Window, Contents, kept_for, IsWindow}
use Rattle.im_types.specs.Types.{IsMemory, next_number, bounds, after}
use Rattle.im_laws.proofs.{Tests.and_both, WindowLemmas.kept_for-window}
use Rattle.im_disk.specs.declared.Disk.{Ghosts}
use Rattle.im_session.specs.Kept.{IsFresh, Kept as SessionKept, session_of, SessionStart, SessionState, start_at}
use Rattle.im_script.specs.{declared.Said.Said, Script.Draft, Script.lines_of}
use Rattle.im_text.proofs.{PrintingLemmas.true_false, WindowLemmas.bounds_found}
use Rattle.im_text.proofs.SaidLemmas.{prints_after, prints_all, prints_begins, prints_none}
use Rattle.im_text.specs.declared.{Lines.Lines, OutputLine.OutputLine, Style.Style, Waited.Waited}
use Rattle.im_text.specs.Said.{IsLast, nows, Output, output_from, Prints, PrintsMore, PrintsNows, PrintsOn, replies}
use Rattle.im_text.specs.Said.{SaysSome, SaysWhole, waits, waits_if, who_of, Written}
use Rattle.im_serial.proofs.{AskedLemmas.wanted_line, KeepsLemmas.went_on, LeftLemmas.had_at, LeftLemmas.has_some}
use Rattle.im_serial.proofs.{LeftLemmas.met_here, LeftLemmas.met_less, NotedLemmas.apart, NotedLemmas.last_or_before}
use Rattle.im_serial.proofs.{ScriptedLemmas.going_from, ScriptedLemmas.leads_here, ScriptedLemmas.over_here}
use Rattle.im_serial.specs.Asked.{AreDue, Course, Leads, said_at, standing, Wanted, wanted_by, wanted_in, wanted_of}
use Rattle.im_serial.specs.declared.{meeting.Met.Met, waits.Mark.Mark, waits.Mark.TheVariants.Here}
use Rattle.im_serial.specs.Fitting.{FitsScript}
use Rattle.im_serial.specs.Had.{bases_had, has_block, has_next, if_new, left_of, length_asked, met, met_all, news}
use Rattle.im_serial.specs.Had.{next_had, numbers_had, who_next}
use Rattle.im_serial.specs.Noted.{AreKnown, AreLast, IsMarked, mark_place, noted_if, notes}
use Rattle.im_serial.specs.Once.{AreMade, Breaks, BrokenAt, course_of, DoneOnce, EndedOnce, HasBroken, HasMade, HasMet}
use Rattle.im_serial.specs.Once.{HasPassed, HasServedNothing, HasServedOnce, HasShown, is_had, IsAskedOnce, IsMade}
use Rattle.im_serial.specs.Once.{IsMadeOnce, IsPrefix, lines_had, MakesBlocks, Meets, met_of, MetAt, Names, new_of}
use Rattle.im_serial.specs.Once.{noted_of, past_line, ServedOnce, ToldOnce, waits_had, waits_of}
use Rattle.im_serial.specs.Serving.{EndsAt, GoingAt, HasServed, IsOver, output_of, Passes, ScriptServer, server_of}
use Rattle.im_serial.specs.declared.meeting.Met.TheVariants as as_met

-- what a line asks for, and those behind it
pub line_wanted : (d next : Draft) (said : Said) (text line : List ℕ) (behind : Option (Bor (List ℕ))) → lines_of text ≡
    line ∷ option_map_or (λ rest. lines_of rest.now) behind [] → said_at d line ≡ Some (next, said)
    → wanted_in d (lines_of text) ≡ wanted_by said ++ option_map_or (λ rest. wanted_in next (lines_of rest.now)) behind
    []
line_wanted d next said text line behind lines read = ap (wanted_in d) lines
    ∙ wanted_line d next said line (option_map_or (λ rest. lines_of rest.now) behind []) read
    ∙ ap (λ (l : List Wanted). wanted_by said ++ l) (by_behind behind)
  where
    by_behind : (behind : Option (Bor (List ℕ))) → wanted_in next (option_map_or (λ rest. lines_of rest.now) behind [])
        ≡ option_map_or (λ rest. wanted_in next (lines_of rest.now)) behind []
    by_behind (Some rest) = refl
    by_behind None = refl

-- ---- what a memory has

-- the next request of an element, by its window
pub who_is_next : (m : Contents) (many : List ℕ) (e f base next left number : ℕ) → f ≡ e → bounds m.windows e ≡ Ok (
  base,
  next,
) → left ≡ left_of many e → number ≡ next - left → ◌≡◌ {A = Waiter} (record { element = e; number = number }) (who_next
    m many f)
who_is_next m many e f base next left number same found is number_is =
    let it = bounds_found (slice_get m.windows e) base next found in
    let next_is : next_had m e ≡ next = ap (λ (o : Option Window). option_map_or next_number o 0) it.found_is
    ∙ sym it.next_is in
    let number_same : number ≡ next_had m e - left_of many e = number_is ∙ ap₂ (λ (a b : ℕ). a - b) (sym next_is) is in
    ap (λ (n : ℕ). record { element = e; number = n }) number_same
    ∙ ap (λ (x : ℕ). who_next m many x) (sym same)

-- one element more
pub had_more : (m : Contents) (k count : ℕ) (many : List ℕ) → many ≡ take k (numbers_had m) → k < length m.windows
    → count ≡ option_map_or (λ (w : Window). next_number w - 1) (slice_get m.windows k) 0
    → many ++ count ∷ [] ≡ take (k + 1) (numbers_had m)
had_more m k count many so_far inside is =
    let same = length-map m.windows (λ (w : Window). next_number w - 1) in
    ap₂ (λ (l : List ℕ) (n : ℕ). l ++ n ∷ []) so_far (is ∙ sym (had_at m.windows k))
    ∙ sym (take_more (numbers_had m) k 0 (omega arith))

-- all of them
pub had_all : (m : Contents) (k : ℕ) → length m.windows ≤ k → take k (numbers_had m) ≡ numbers_had m
had_all m k past =
    let same = length-map m.windows (λ (w : Window). next_number w - 1) in
    take_all k (numbers_had m) (omega arith)

-- ---- a request that the memory has

if_true : {A : Type 0} (b : Bool) (x y : A) → b ≡ true → (if b then x else y) ≡ x
if_true true x y is = refl
if_true false x y is = absurd (true_false false is refl)

names_of : (m : Contents) (who : Waiter) → map who_of (noted_of m who) ≡ waits_of m who
names_of m who = by_kept (kept_for m.windows who)
  where
    by_kept : (found : Option Kept) → map who_of (option_map_or (λ (k : Kept). noted_if who k.entry) found [])
        ≡ option_map_or (λ (k : Kept). waits_if who k.entry) found []
    by_kept None = refl
    by_kept (Some k) = by_entry k.entry
      where
        by_entry : (e : Entry) → map who_of (noted_if who e) ≡ waits_if who e
        by_entry Waiting = refl
        by_entry (Answered reply) = refl

-- the number of a kept request and what is left come to the next number
number_left : (m : Contents) (many : List ℕ) (e : ℕ) (k : Kept) → ((element : ℕ) (w : Window)
    → slice_get m.windows element ≡ Some w → IsWindow w) → kept_for m.windows (who_next m many e) ≡ Some k
    → (next_had m e - left_of many e) + left_of many e ≡ next_had m e
number_left m many e k windows is =
    let there = kept_for-window m.windows (who_next m many e) k is in
    let one : 1 ≤ there.0.base = (windows e there.0 there.1).from_one in
    let from : there.0.base ≤ next_had m e - left_of many e = there.2 in
    omega arith

nothing_below : (n : ℕ) → n < 0 → ⊥
nothing_below n less = omega arith

module _ (m : Contents) (script rest : List Wanted) (many : List ℕ) (w : Wanted) (text : List OutputLine)
    (waited : List Waited)
    (marks : List Mark) (it : HasMet m script many (w ∷ rest) text waited marks) where
  abbrev who : Waiter
  who = who_next m many w.element

  -- it has it
  module _ (has : has_next many w.element ≡ true) where
    lines_more : lines_had m (numbers_had m) script ≡ (text ++ past_line m who) ++ lines_had m (met many w.element) rest
    lines_more = it.lines ∙ ap (λ (l : List OutputLine). text ++ (l ++ lines_had m (met many w.element) rest)) (if_true
        (has_next many w.element) (past_line m who) [] has)
        ∙ sym (append_assoc text (past_line m who) (lines_had m (met many w.element) rest))

    passed_less : (at : ℕ) (v : Waited) → slice_get waited at ≡ Some v → v.number + left_of (met many w.element)
        v.element < next_had m v.element
    passed_less at v is =
        let before = it.passed at v is in
        let less = met_less many w.element v.element in
        omega arith

    -- its line was made, and then it was ended
    pub met_line_broken : HasBroken m script (text ++ past_line m who) waited
    met_line_broken = record {
      lines = (lines_had m (met many w.element) rest, lines_more);
      names = (waits_had m many (w ∷ rest), it.names);
      known = λ at v is. inr ((it.marked at v is).kept, (it.marked at v is).kept_is);
    }

    module _ (noted : List Waited) (later : List Mark) (pushed : noted ≡ waited ++ noted_of m who)
        (others : (i : ℕ) → (i ≡ mark_place who → ⊥) → slice_get later i ≡ slice_get marks i)
        (unmarked : kept_for m.windows who ≡ None → later ≡ marks)
        (mark : (k : Kept) → kept_for m.windows who ≡ Some k → k.entry ≡ Waiting
        → slice_get later (mark_place who) ≡ Some (Here (length waited))) where
      -- an earlier one stays marked
      stays_marked : (found : Option Kept) → kept_for m.windows who ≡ found → (at : ℕ) (v : Waited)
          → slice_get waited at ≡ Some v → IsMarked m 0 0 later at v
      stays_marked None none at v is = subst (λ (l : List Mark). IsMarked m 0 0 l at v) (sym (unmarked none)) (it.marked
          at v is)
      stays_marked (Some k) kept at v is =
          let before = it.marked at v is in
          record {
            kept = before.kept;
            kept_is = before.kept_is;
            learnt = before.learnt;
            marked = λ no. others (mark_place (who_of v)) (λ same. differ before same) ∙ before.marked no;
          }
        where
          differ : IsMarked m 0 0 marks at v → mark_place (who_of v) ≡ mark_place who → ⊥
          differ before same =
              let a = apart m.windows (who_of v) who before.kept k it.memory.windows before.kept_is kept same in
              let below : v.number + left_of many v.element < next_had m v.element = it.passed at v is in
              let here : v.number + left_of many w.element < next_had m w.element = subst (λ (e : ℕ).
              v.number + left_of many e < next_had m e) a.0 below in
              let number : v.number ≡ next_had m w.element - left_of many w.element = a.1 in
              absurd (omega arith)

      by_kept : (found : Option Kept) → kept_for m.windows who ≡ found → noted ≡ waited ++ option_map_or (λ (k : Kept).
          noted_if who k.entry) found [] → (at : ℕ) (v : Waited) → slice_get noted at ≡ Some v
          → IsMarked m 0 0 later at v × (v.number + left_of (met many w.element) v.element < next_had m v.element)
      by_kept None none is at v found =
          let old : slice_get waited at ≡ Some v = ap (λ (l : List Waited). slice_get l at) (sym (is ∙ append-nil
          waited)) ∙ found in
          (stays_marked None none at v old, passed_less at v old)
      by_kept (Some k) kept is at v found = by_entry k.entry refl is
        where
          by_entry : (e : Entry) → k.entry ≡ e → noted ≡ waited ++ noted_if who e
              → IsMarked m 0 0 later at v × (v.number + left_of (met many w.element) v.element < next_had m v.element)
          by_entry (Answered reply) e is =
              let old : slice_get waited at ≡ Some v = ap (λ (l : List Waited). slice_get l at) (sym (is ∙ append-nil
              waited)) ∙ found in
              (stays_marked (Some k) kept at v old, passed_less at v old)
          by_entry Waiting e is = ⊎_elim (λ old. (stays_marked (Some k) kept at v old, passed_less at v old)) (λ last.
              let at_is : at ≡ length waited = last.0 in
              let v_is : v ≡ record { element = who.element; number = who.number; entry = Waiting } = last.1 in
              subst (λ (x : Waited). IsMarked m 0 0 later at x × (x.number + left_of (met many w.element) x.element
              < next_had m x.element)) (sym v_is) (
                record {
                  kept = k;
                  kept_is = kept;
                  learnt = λ below. absurd (nothing_below (next_had m w.element - left_of many w.element) below.1);
                  marked = λ no. mark k kept e ∙ ap (λ (n : ℕ). Some (Here n)) (sym at_is);
                },
                new_passed,
              ))
              (last_or_before waited (record { element = who.element; number = who.number; entry = Waiting }) at v (ap
              (λ (l : List Waited). slice_get l at) (sym is) ∙ found))
            where
              new_passed : (next_had m w.element - left_of many w.element) + left_of (met many w.element) w.element
                  < next_had m w.element
              new_passed =
                  let whole = number_left m many w.element k it.memory.windows kept in
                  let one = met_here many w.element has in
                  omega arith

      -- its line was made, and it is noted if it waits
      pub met_more : HasMet m script (met many w.element) rest (text ++ past_line m who) noted later
      met_more = record {
        memory = it.memory;
        lines = lines_more;
        names = it.names ∙ ap (λ (l : List Waiter). map who_of waited ++ (l ++ waits_had m (met many w.element) rest))
            (if_true (has_next many w.element) (waits_of m who) [] has ∙ sym (names_of m who))
            ∙ sym (append_assoc (map who_of waited) (map who_of (noted_of m who)) (waits_had m (met many w.element)
            rest))
            ∙ ap (λ (l : List Waiter). l ++ waits_had m (met many w.element) rest) (sym (map-append who_of waited
            (noted_of m who)) ∙ ap (map who_of) (sym pushed));
        marked = λ at v is. (by_kept (kept_for m.windows who) refl pushed at v is).0;
        passed = λ at v is. (by_kept (kept_for m.windows who) refl pushed at v is).1;
      }

-- it was ended there
pub met_broken : (m : Contents) (script : List Wanted) (many : List ℕ) (left : List Wanted)
    (text : List OutputLine) (waited : List Waited) (marks : List Mark)
    → HasMet m script many left text waited marks → HasBroken m script text waited
met_broken m script many left text waited marks it = record {
  lines = (lines_had m many left, it.lines);
  names = (waits_had m many left, it.names);
  known = λ at v is. inr ((it.marked at v is).kept, (it.marked at v is).kept_is);
}

-- ---- names

module _ (many : List ℕ) (end : ℕ) (w : Wanted) (before : List ℕ) where
  -- the memory has its block
  pub names_had : has_next many w.element ≡ true → w.named ≡ true → (after : List ℕ) (behind : ℕ)
      → after ≡ before ++ end ∷ [] → behind ≡ end + length_asked w.action
      → Names many end (w ∷ []) (met many w.element) behind [] before after
  names_had has named after behind pushed moved = λ all rest is.
      is ∙ ap (λ (b : Bool). before ++ ((if b then end ∷ [] else []) ++ bases_had (met many w.element) (if b then end +
      length_asked w.action else end) rest)) (ap₂ (λ (a b : Bool). a && b) has named)
      ∙ sym (append_assoc before (end ∷ []) (bases_had (met many w.element) (end + length_asked w.action) rest))
      ∙ ap₂ (λ (l : List ℕ) (n : ℕ). l ++ bases_had (met many w.element) n rest) (sym pushed) (sym moved)

  -- it has no block of this name
  pub names_same : has_block many w ≡ false → Names many end (w ∷ []) (met many w.element) end [] before before
  names_same none = λ all rest is.
      is ∙ ap (λ (b : Bool). before ++ ((if b then end ∷ [] else []) ++ bases_had (met many w.element) (if b then end +
      length_asked w.action else end) rest)) none

-- a name was kept, if the memory has its block
pub names_kept : {T E : Type 0} (r : Result T E) (many : List ℕ) (end : ℕ) (w : Wanted) (before between after
    between_many
    later : List ℕ) (between_end behind : ℕ) → w.named ≡ true → later ≡ between_many → between_many ≡ met many w.element
    → between ≡ before → between_end ≡ end → (had : Bool) → had ≡ has_next many w.element
    → OnOk r (had ≡ false → (after ≡ between) × (behind ≡ between_end))
    → OnOk r (had ≡ true → (after ≡ between ++ between_end ∷ []) × (behind ≡ between_end + length_asked w.action))
    → OnOk r (Names many end (w ∷ []) later behind [] before after)
names_kept (Err e) many end w before between after between_many later between_end behind named same is bases ends had
    had_is none some = tt
names_kept (Ok x) many end w before between after between_many later between_end behind named same is bases ends had
    had_is none some = by_had had refl
  where
    by_had : (b : Bool) → had ≡ b → Names many end (w ∷ []) later behind [] before after
    by_had true h =
        let it = some h in
        subst (λ (l : List ℕ). Names many end (w ∷ []) l behind [] before after) (sym (same ∙ is))
        (names_had many end w before (sym had_is ∙ h) named after behind (it.0 ∙ ap₂ (λ (l : List ℕ) (n : ℕ). l ++ n ∷
        []) bases ends) (it.1 ∙ ap (λ (n : ℕ). n + length_asked w.action) ends))
    by_had false h =
        let it = none h in
        subst (λ (l : List ℕ). Names many end (w ∷ []) l behind [] before after) (sym (same ∙ is))
        (subst (λ (n : ℕ). Names many end (w ∷ []) (met many w.element) n [] before after) (sym (it.1 ∙ ends))
        (subst (λ (l : List ℕ). Names many end (w ∷ []) (met many w.element) end [] before l) (sym (it.0 ∙ bases))
        (names_same many end w before (ap (λ (b : Bool). b && w.named) (sym had_is ∙ h)))))

-- ---- what an image has of a request

had_met : (m : Contents) (who : Waiter) → is_had (met_of m who) ≡ true
had_met m who = by_kept (kept_for m.windows who)
  where
    by_kept : (found : Option Kept) → is_had (option_map_or (λ (k : Kept). as_met.Kept k.entry) found as_met.Done)
        ≡ true
    by_kept None = refl
    by_kept (Some k) = refl

pub had_of : {E : Type 0} (r : Result Met E) (m : Contents) (many : List ℕ) (who : Waiter) (e left : ℕ)
    → left ≡ left_of many e → (left ≡ 0 → ⊥) → IfOk r (λ it. it ≡ met_of m who)
    → IfOk r (λ it. is_had it ≡ has_next many e)
had_of (Err error) m many it_is e left is some found = tt
had_of (Ok it) m many it_is e left is some found = ap is_had found ∙ had_met m it_is
    ∙ sym (has_some many e e left refl is some)

pub found_of : {E : Type 0} (r : Result Met E) (m : Contents) (who there : Waiter) → who ≡ there
    → IfOk r (λ it. it ≡ met_of m who) → IfOk r (λ it. is_had it ≡ true → it ≡ met_of m there)
found_of (Err error) m it_is there same found = tt
found_of (Ok it) m it_is there same found = λ has. found ∙ ap (met_of m) same

-- ---- blocks that were made

-- a block of the setup
pub makes_block : {T E : Type 0} (r : Result T E) (m : Contents) (many later : List ℕ) (w : Wanted) (it : Met)
    → later ≡ met many w.element → is_had it ≡ has_next many w.element
    → (is_had it ≡ true → it ≡ met_of m (who_next m many w.element)) → OnOk r (is_had it ≡ true → IsMade it)
    → OnOk r (MakesBlocks m many (w ∷ []) later [])
makes_block (Err e) m many later w it same had found made = tt
makes_block (Ok x) m many later w it same had found made = λ rest are. (
  λ block.
      let has : is_had it ≡ true = had ∙ (and_both (has_next many w.element) w.named block).0 in
      subst IsMade (found has) (made has),
  subst (λ (l : List ℕ). AreMade m l rest) same are,
)

-- a request that makes none
pub makes_plain : (m : Contents) (many later : List ℕ) (w : Wanted) → w.named ≡ false → later ≡ met many w.element
    → MakesBlocks m many (w ∷ []) later []
makes_plain m many later w plain same = λ rest are. (
  λ block. absurd (true_false w.named (and_both (has_next many w.element) w.named block).1 plain),
  subst (λ (l : List ℕ). AreMade m l rest) same are,
)

-- what a line asks for
pub line_makes : (m : Contents) (all : List Wanted) (first many : List ℕ) (d next : Draft) (said : Said) (text line :
    List ℕ) (behind : Option (Bor (List ℕ)))
    → lines_of text ≡ line ∷ option_map_or (λ rest. lines_of rest.now) behind [] → said_at d line ≡ Some (next, said)
    → MakesBlocks m first all many (wanted_in d (lines_of text)) → (later : List ℕ) → MakesBlocks m many (wanted_by
    said) later []
    → MakesBlocks m first all later (option_map_or (λ rest. wanted_in next (lines_of rest.now)) behind [])
line_makes m all first many d next said text line behind lines read so_far later makes = λ rest are.
    let left = option_map_or (λ rest. wanted_in next (lines_of rest.now)) behind [] in
    so_far rest (subst (AreMade m many) (sym (ap (λ (l : List Wanted). l ++ rest) (line_wanted d next said text line
    behind lines read) ∙ append_assoc (wanted_by said) left rest)) (makes (left ++ rest) are))

-- the lines that are left
pub makes_none : (F : Bor (List ℕ) → List Wanted) (m : Contents) (first later : List ℕ) (all : List Wanted) (rest :
    Option (Bor (List ℕ))) → rest ≡ None → MakesBlocks m first all later (option_map_or F rest [])
    → MakesBlocks m first all later []
makes_none F m first later all rest none makes = subst (λ (o : Option (Bor (List ℕ))). MakesBlocks m first all later
    (option_map_or F o [])) none makes

pub makes_some : (F : Bor (List ℕ) → List Wanted) (m : Contents) (first later : List ℕ) (all : List Wanted) (rest :
    Option (Bor (List ℕ))) (text : Bor (List ℕ)) → rest ≡ Some text → MakesBlocks m first all later (option_map_or F
    rest [])
    → MakesBlocks m first all later (F text)
makes_some F m first later all rest text some makes = subst (λ (o : Option (Bor (List ℕ))). MakesBlocks m first all
    later
    (option_map_or F o [])) some makes

-- ---- servers

module _ {D : Type 0} where
  pub meets_refl : (many : List ℕ) (wanted : List Wanted) (t : ScriptServer D) → Meets many wanted many wanted t t
  meets_refl many wanted t = λ script rest held at. at

  pub broken_at : (script : List Wanted) (many : List ℕ) (left : List Wanted) (held : Output) (t :
      ScriptServer D) → MetAt script many left held t → BrokenAt script held t
  broken_at script many left held t it = (
    it.0,
    (met_broken t.session.engine.memory script many left it.0 t.waited t.marks it.1.0, it.1.1),
  )

  -- it is ended there
  pub breaks_here : (many later : List ℕ) (wanted left : List Wanted) (old new : ScriptServer D)
      → Meets many wanted later left old new → Breaks many wanted old new
  breaks_here many later wanted left old new meets = λ script rest held at. broken_at script later (left ++ rest)
      held new (meets script rest held at)

  -- it has the request
  module _ (session same : SessionState D) (held later : Option (List ℕ)) (before last : Lines) (waited noted : List
      Waited) (marks marked : List Mark) (many : List ℕ) (w : Wanted) (it : Waiter) (sessions : same ≡ session)
      (has : has_next many w.element ≡ true) (it_is : it ≡ who_next session.engine.memory many w.element)
      (others : (i : ℕ) → (i ≡ mark_place it → ⊥) → slice_get marked i ≡ slice_get marks i)
      (unmarked : kept_for session.engine.memory.windows it ≡ None → marked ≡ marks) where
    meets_more : noted ≡ waited ++ noted_of session.engine.memory it → ((k : Kept) → kept_for session.engine.memory.windows it ≡ Some k
        → k.entry ≡ Waiting → slice_get marked (mark_place it) ≡ Some (Here (length waited)))
        → PrintsMore held before later last (past_line session.engine.memory it)
        → Meets many (w ∷ []) (met many w.element) [] (server_of session held before waited marks) (server_of same later
        last noted marked)
    meets_more pushed mark prints = λ script rest from at.
        let m = session.engine.memory in
        let there : Waiter = who_next m many w.element in
        subst (λ (e : SessionState D). MetAt script (met many w.element) rest from (server_of e later last noted marked))
        (sym sessions) (
          at.0 ++ past_line m there,
          (
            met_more m script rest many w at.0 waited marks at.1.0 has noted marked
                (subst (λ (x : Waiter). noted ≡ waited ++ noted_of m x) it_is pushed)
                (subst (λ (x : Waiter). (i : ℕ) → (i ≡ mark_place x → ⊥) → slice_get marked i ≡ slice_get marks i) it_is
                others)
                (subst (λ (x : Waiter). kept_for m.windows x ≡ None → marked ≡ marks) it_is unmarked)
                (subst (λ (x : Waiter). (k : Kept) → kept_for m.windows x ≡ Some k → k.entry ≡ Waiting
                → slice_get marked (mark_place x) ≡ Some (Here (length waited))) it_is mark),
            subst (λ (x : Waiter). Prints from later last (at.0 ++ past_line m x)) it_is (prints from at.0 at.1.1),
          ),
        )

    breaks_before : noted ≡ waited → PrintsOn held before later last ⊎ PrintsMore held before later last (past_line
        session.engine.memory it)
        → Breaks many (w ∷ []) (server_of session held before waited marks) (server_of same later last noted marked)
    breaks_before nothing prints = λ script rest from at.
        subst (λ (e : SessionState D). BrokenAt script from (server_of e later last noted marked)) (sym sessions)
        (subst (λ (l : List Waited). BrokenAt script from (server_of session later last l marked)) (sym nothing)
        (by_prints script rest from at prints))
      where
        by_prints : (script rest : List Wanted) (from : Output) → MetAt script many (w ∷ rest) from (server_of
            session held before waited marks)
            → PrintsOn held before later last ⊎ PrintsMore held before later last (past_line session.engine.memory it)
            → BrokenAt script from (server_of session later last waited marked)
        by_prints script rest from at (inl on) = (
          at.0,
          (met_broken session.engine.memory script many (w ∷ rest) at.0 waited marks at.1.0, on from at.0 at.1.1),
        )
        by_prints script rest from at (inr more) = (
          at.0 ++ past_line session.engine.memory (who_next session.engine.memory many w.element),
          (
            met_line_broken session.engine.memory script rest many w at.0 waited marks at.1.0 has,
            subst (λ (x : Waiter). Prints from later last (at.0 ++ past_line session.engine.memory x)) it_is (more from at.0
                at.1.1),
          ),
        )

    pub passed_had : {T E : Type 0} (r : Result T E) → MatchResult r (λ x. noted ≡ waited ++ noted_of session.engine.memory it)
        (λ e. noted ≡ waited)
        → OnOk r ((k : Kept) → kept_for session.engine.memory.windows it ≡ Some k → k.entry ≡ Waiting → slice_get marked
        (mark_place it) ≡ Some (Here (length waited)))
        → MatchResult r (λ x. PrintsMore held before later last (past_line session.engine.memory it)) (λ e. PrintsOn held before
        later last ⊎ PrintsMore held before later last (past_line session.engine.memory it))
        → HasPassed many (w ∷ []) (met many w.element) r (server_of session held before waited marks) (server_of same
        later last noted marked)
    passed_had (Ok x) pushed mark prints = meets_more pushed mark prints
    passed_had (Err e) nothing mark prints = breaks_before nothing prints

  -- ---- lines

  module _ (all : List Wanted) (first many : List ℕ) (old mid : ScriptServer D) (d next : Draft) (said : Said) (text
      line : List ℕ) (behind : Option (Bor (List ℕ)))
      (lines : lines_of text ≡ line ∷ option_map_or (λ rest. lines_of rest.now) behind []) (read : said_at d line ≡
      Some (next, said)) where
    module _ (so_far : Meets first all many (wanted_in d (lines_of text)) old mid) where
      meets_there : (script rest : List Wanted) (held : Output) → MetAt script first (all ++ rest) held old
          → MetAt script many (wanted_by said ++ (option_map_or (λ rest. wanted_in next (lines_of rest.now)) behind []
          ++ rest)) held mid
      meets_there script rest held at =
          let left = option_map_or (λ rest. wanted_in next (lines_of rest.now)) behind [] in
          subst (λ (l : List Wanted). MetAt script many l held mid) (ap (λ (l : List Wanted). l ++ rest) (line_wanted d
          next said text line behind lines read) ∙ append_assoc (wanted_by said) left rest)
          (so_far script rest held at)

      pub line_meets : (later : List ℕ) (new : ScriptServer D) → Meets many (wanted_by said) later [] mid new → Meets
          first all later (option_map_or (λ rest. wanted_in next (lines_of rest.now)) behind []) old new
      line_meets later new meets = λ script rest held at. meets script (option_map_or (λ rest. wanted_in next (lines_of
          rest.now)) behind [] ++ rest) held (meets_there script rest held at)

      pub line_breaks : (new : ScriptServer D) → Breaks many (wanted_by said) mid new → Breaks first all old new
      line_breaks new breaks = λ script rest held at. breaks script (option_map_or (λ rest. wanted_in next (lines_of
          rest.now)) behind [] ++ rest) held (meets_there script rest held at)

    pub line_names : (start end : ℕ) (begun before : List ℕ) → Names first start all many end (wanted_in d (lines_of
        text)) begun before → (later : List ℕ) (after : ℕ) (bases : List ℕ) → Names many end (wanted_by said) later
        after [] before bases → Names first start all later after (option_map_or (λ rest. wanted_in next (lines_of
        rest.now)) behind []) begun bases
    line_names start end begun before so_far later after bases names = λ total rest is.
        let left = option_map_or (λ rest. wanted_in next (lines_of rest.now)) behind [] in
        names total (left ++ rest) (so_far total rest is ∙ ap (λ (l : List Wanted). before ++ bases_had many end l) (ap
        (λ (l : List Wanted). l ++ rest) (line_wanted d next said text line behind lines read)
        ∙ append_assoc (wanted_by said) left rest))

  -- what is kept back is written
  pub meets_printed : (first later : List ℕ) (all left : List Wanted) (old : ScriptServer D) (session : SessionState D)
      (held after : Option (List ℕ)) (before last : Lines) (waited : List Waited) (marks : List Mark)
      → Meets first all later left old (server_of session held before waited marks) → PrintsOn held before after last
      → Meets first all later left old (server_of session after last waited marks)
  meets_printed first later all left old session held after before last waited marks meets prints = λ script rest from
      at. let it = meets script rest from at in (it.0, (it.1.0, prints from it.0 it.1.1))

  -- the requests were met, whatever comes then
  pub passed_named : {T E : Type 0} (r : Result T E) (many later : List ℕ) (wanted : List Wanted) (old new :
      ScriptServer D) → Meets many wanted later [] old new → HasPassed many wanted later r old new
  passed_named (Ok x) many later wanted old new meets = meets
  passed_named (Err e) many later wanted old new meets = breaks_here many later wanted [] old new meets

  -- the lines that are left
  pub meets_none : (F : Bor (List ℕ) → List Wanted) (first later : List ℕ) (all : List Wanted) (old new : ScriptServer
      D) (rest : Option (Bor (List ℕ))) → rest ≡ None → Meets first all later (option_map_or F rest []) old new → Meets
      first all later [] old new
  meets_none F first later all old new rest none meets =
      subst (λ (o : Option (Bor (List ℕ))). Meets first all later
      (option_map_or F o []) old new) none meets

  pub meets_some : (F : Bor (List ℕ) → List Wanted) (first later : List ℕ) (all : List Wanted) (old new : ScriptServer
      D) (rest : Option (Bor (List ℕ))) (text : Bor (List ℕ)) → rest ≡ Some text → Meets first all later (option_map_or
      F rest []) old new → Meets first all later (F text) old new
  meets_some F first later all old new rest text some meets =
      subst (λ (o : Option (Bor (List ℕ))). Meets first all later
      (option_map_or F o []) old new) some meets

  -- all of it is written
  pub shown_by : {T E : Type 0} (r : Result T E) (script : List Wanted) (bases known later : List ℕ) (behind : ℕ) (old :
      ScriptServer D) (session : SessionState D) (held after : Option (List ℕ)) (before last : Lines) (waited : List
      Waited) (marks : List Mark) → session ≡ old.session
      → Meets (numbers_had old.session.engine.memory) script later [] old (server_of session held before waited marks)
      → Names (numbers_had old.session.engine.memory) 0 script later behind [] bases known
      → MakesBlocks old.session.engine.memory (numbers_had old.session.engine.memory) script later [] → PrintsOn held before after last
      → OnOk r (last.batch.pending.items ≡ []) → OnOk r (last.batch.broken ≡ false)
      → MatchResult r (λ x. HasShown script bases known old (server_of session after last waited marks))
      (λ e. Breaks (numbers_had old.session.engine.memory) script old (server_of session after last waited marks))
  shown_by (Ok x) script bases known later behind old session held after before last waited marks same meets names makes
      prints pending works = record {
        session = same;
        later = later;
        meets = meets_printed (numbers_had old.session.engine.memory) later script [] old session held after before last waited
            marks
            meets prints;
        made = subst (AreMade old.session.engine.memory (numbers_had old.session.engine.memory)) (append-nil script) (makes [] tt);
        names = sym (append-nil known)
            ∙ sym (names (bases ++ bases_had (numbers_had old.session.engine.memory) 0 (script ++ [])) []
            refl)
            ∙ ap (λ (l : List Wanted). bases ++ bases_had (numbers_had old.session.engine.memory) 0 l) (append-nil script);
        pending = pending;
        works = works;
      }
  shown_by (Err e) script bases known later behind old session held after before last waited marks same meets names
      makes prints pending works = breaks_here (numbers_had old.session.engine.memory) later script [] old (server_of session
      after
      last waited marks) (meets_printed (numbers_had old.session.engine.memory) later script [] old session held after before
      last waited marks meets prints)

pub names_none : (F : Bor (List ℕ) → List Wanted) (many later : List ℕ) (end behind : ℕ) (all : List Wanted) (before
    after : List ℕ) (rest : Option (Bor (List ℕ))) → rest ≡ None → Names many end all later behind (option_map_or F rest
    []) before after → Names many end all later behind [] before after
names_none F many later end behind all before after rest none names = subst (λ (o : Option (Bor (List ℕ))). Names many
    end all later behind (option_map_or F o []) before after) none names

pub names_some : (F : Bor (List ℕ) → List Wanted) (many later : List ℕ) (end behind : ℕ) (all : List Wanted) (before
    after : List ℕ) (rest : Option (Bor (List ℕ))) (text : Bor (List ℕ)) → rest ≡ Some text → Names many end all later
    behind (option_map_or F rest []) before after → Names many end all later behind (F text) before after
names_some F many later end behind all before after rest text some names = subst (λ (o : Option (Bor (List ℕ))). Names
    many end all later behind (option_map_or F o []) before after) some names

-- ---- what is new

pub news_append : (many : List ℕ) (some more : List Wanted) → news many (some ++ more) ≡ news many some ++ news (met_all
    many some) more
news_append many [] more = refl
news_append many (w ∷ some) more = ap (λ (l : List Wanted). if_new many w ++ l) (news_append (met many w.element) some
    more) ∙ sym (append_assoc (if_new many w) (news (met many w.element) some) (news (met_all (met many w.element) some)
    more))

news_behind : (many : List ℕ) (d : Draft) (behind : Option (Bor (List ℕ))) → news many (option_map_or (λ rest.
    wanted_in d (lines_of rest.now)) behind []) ≡ option_map_or (λ rest. news many (wanted_in d (lines_of rest.now)))
    behind []
news_behind many d (Some rest) = refl
news_behind many d None = refl

-- what is new of a line, and of those behind it
pub news_line : (many later : List ℕ) (d next : Draft) (said : Said) (text line : List ℕ) (behind : Option (Bor (List
    ℕ))) → lines_of text ≡ line ∷ option_map_or (λ rest. lines_of rest.now) behind [] → said_at d line ≡ Some (
      next,
      said,
    ) → later ≡ met_all many (wanted_by said) → news many (wanted_in d (lines_of text)) ≡ news many (wanted_by said) ++
    option_map_or (λ rest. news later (wanted_in next (lines_of rest.now))) behind []
news_line many later d next said text line behind lines read same =
    ap (news many) (line_wanted d next said text line behind lines read)
    ∙ news_append many (wanted_by said) (option_map_or (λ rest. wanted_in next (lines_of rest.now)) behind [])
    ∙ ap (λ (l : List Wanted). news many (wanted_by said) ++ l) (news_behind (met_all many (wanted_by said)) next behind
    ∙ ap (λ (l : List ℕ). option_map_or (λ rest. news l (wanted_in next (lines_of rest.now))) behind []) (sym same))

module _ {D : Type 0} where
  -- these requests, and those behind them
  module _ (all whole some left : List Wanted) (is : whole ≡ some ++ left) (first before : List ℕ) (old mid :
      ScriptServer D) (so_far : Passes all first whole before old mid) where
    part_there : (start : SessionStart D) (held : Output) (script : Option Course) (rest : List Wanted) →
        GoingAt start held (standing script first (all ++ rest)) old
        → GoingAt start held (standing script before (some ++ (left ++ rest))) mid
    part_there start held script rest going = subst (λ (l : List Wanted). GoingAt start held (standing script
        before l) mid) (ap (λ (l : List Wanted). l ++ rest) is ∙ append_assoc some left rest) (so_far start held script
        rest going)

    pub part_serves : (after : List ℕ) (new : ScriptServer D) → Passes some before [] after mid new → Passes
        all first left after old new
    part_serves after new serves = λ start held script rest going. serves start held script (left ++ rest) (part_there
        start held script rest going)

    pub part_ends : (new : ScriptServer D) → EndsAt some before mid new → EndsAt all first old new
    part_ends new ends = λ start held script rest going. ends start held script (left ++ rest) (part_there start held
        script rest going)

  pub left_none : (F : Bor (List ℕ) → List Wanted) (all : List Wanted) (first before : List ℕ) (old mid : ScriptServer
      D) (rest : Option (Bor (List ℕ))) → rest ≡ None → Passes all first (option_map_or F rest []) before old mid
      → Passes all first [] before old mid
  left_none F all first before old mid rest none passes = subst (λ (o : Option (Bor (List ℕ))). Passes all first
      (option_map_or F o []) before old mid) none passes

  pub left_some : (F : Bor (List ℕ) → List Wanted) (all : List Wanted) (first before : List ℕ) (old mid : ScriptServer
      D) (rest : Option (Bor (List ℕ))) (text : Bor (List ℕ)) → rest ≡ Some text → Passes all first (option_map_or
      F rest []) before old mid → Passes all first (F text) before old mid
  left_some F all first before old mid rest text some passes = subst (λ (o : Option (Bor (List ℕ))). Passes all
      first (option_map_or F o []) before old mid) some passes

-- ---- from the beginning to the end

pub either_way : {T E : Type 0} (r : Result T E) (A B : Type 0) → A → MatchResult r (λ x. A) (λ e. A ⊎ B)
either_way (Ok x) A B it = it
either_way (Err e) A B it = inl it

none_left : (waited : List Waited) → map who_of waited ≡ [] → waited ≡ []
none_left [] is = refl
none_left (w ∷ waited) is = absurd (cc)

no_item : (w : Waited) → ◌≡◌ {A = Option Waited} None (Some w) → ⊥
no_item w is = cc

module _ {D : Type 0} where
  -- nothing was met yet
  pub met_start : (script : List Wanted) (t : ScriptServer D) (bases : List ℕ) → HasServedNothing t bases
      → MetAt script (numbers_had t.session.engine.memory) (script ++ []) (output_of t) t
  met_start script t bases ready = let m = t.session.engine.memory in (
    [],
    (
      record {
        memory = ready.memory;
        lines = ap (lines_had m (numbers_had m)) (sym (append-nil script));
        names = ap (waits_had m (numbers_had m)) (sym (append-nil script))
            ∙ ap (λ (l : List Waited). map who_of l ++ waits_had m (numbers_had m) (script ++ [])) (sym ready.waited);
        marked = λ at w is. absurd (no_item w (ap (λ (l : List Waited). slice_get l at) (sym ready.waited) ∙ is));
        passed = λ at w is. absurd (no_item w (ap (λ (l : List Waited). slice_get l at) (sym ready.waited) ∙ is));
      },
      prints_none t.held t.lines ready.pending,
    ),
  )

  -- a server that was made of this session
  pub ready_of : (session same : SessionState D) (held : Option (List ℕ)) (before lines : Lines) (waited : List Waited)
      (marks : List Mark) (bases : List ℕ) → IsFresh session → session.engine.failed ≡ false
      → (let m = session.engine.memory in IsMemory (length m.cells) (length m.windows) m)
      → before.batch.pending.items ≡ [] → waited ≡ [] → bases ≡ [] → same ≡ session → lines ≡ before
      → HasServedNothing (server_of same held lines waited marks) bases
  ready_of session same held before lines waited marks bases fresh works memory pending none no_bases sessions line =
      record {
        fresh = subst (λ (t : SessionState D). IsFresh t) (sym sessions) fresh;
        works = ap (λ (t : SessionState D). t.engine.failed) sessions ∙ works;
        memory = subst (λ (t : SessionState D). let m = t.engine.memory in
            IsMemory (length m.cells) (length m.windows) m) (sym sessions) memory;
        waited = none;
        bases_is = no_bases;
        pending = ap (λ (l : Lines). l.batch.pending.items) line ∙ pending;
      }

  -- it was ended before the first request
  module _ (script : List Wanted) (old new : ScriptServer D) (bases : List ℕ) (ready : HasServedNothing old bases)
      (same : new.session ≡ old.session) (text : List OutputLine)
      (broken : HasBroken old.session.engine.memory script text new.waited) where
    abbrev begun : SessionState D
    begun = session_of (start_at old.session.start.disk old.session.engine) [] [] old.session.engine

    abbrev m : Contents
    m = old.session.start.memory

    session_is : new.session ≡ begun
    session_is = same ∙ ready.fresh

    at_start : HasBroken m script text new.waited
    at_start = subst (λ (x : Contents). HasBroken x script text new.waited)
        (sym (ap (λ (t : SessionState D). t.start.memory) ready.fresh)) broken

    abbrev course_met : Course
    course_met = record {
      first = bases_had (numbers_had m) 0 script;
      wanted = new_of m script;
      earlier = map who_of new.waited;
    }

    unbegun : Prints (output_of old) new.held new.lines text
        → FitsScript m script ⊎ ((text ≡ []) × (new.waited ≡ []))
        → EndedOnce old.session.start script (output_of old) new
    unbegun printed fit = record {
      course = course_met;
      had = text;
      course_is = record { first = refl; wanted = refl; had_is = at_start.lines; earlier_is = at_start.names };
      text = [];
      over = subst (λ (t : SessionState D). IsOver old.session.start t (Some course_met) [] new.waited) (sym session_is)
          (record {
            start_is = sym (ap (λ (t : SessionState D). t.start) ready.fresh);
            told = [];
            others = [];
            split = refl;
            lines = refl;
            many = 0;
            names = sym (append-nil (map who_of new.waited));
            few = omega arith;
            left = new_of m script;
            leads = refl;
            due = tt;
            known = at_start.known;
          });
      once = subst (λ (t : SessionState D). IsMadeOnce m t script text new.waited) (sym session_is) (record {
        made = inr refl;
        fit = ⊎_elim (λ is. inl is) (λ none. inr (refl, none)) fit;
      });
      printed = subst (Prints (output_of old) new.held new.lines) (sym (append-nil text)) printed;
    }

  -- nothing was printed
  untold : (script : List Wanted) (old new : ScriptServer D) (bases : List ℕ) → HasServedNothing old bases
      → new ≡ old → EndedOnce old.session.start script (output_of old) new
  untold script old new bases ready same =
      let m = old.session.engine.memory in
      let broken : HasBroken m script [] old.waited = record {
        lines = (lines_had m (numbers_had m) script, refl);
        names = (
          waits_had m (numbers_had m) script,
          ap (λ (l : List Waited). map who_of l ++ waits_had m (numbers_had m) script) (sym ready.waited),
        );
        known = λ at w is. absurd (no_item w (ap (λ (l : List Waited). slice_get l at) (sym ready.waited) ∙ is));
      } in
      subst (λ (t : ScriptServer D). EndedOnce old.session.start script (output_of old) t) (sym same)
      (unbegun script old old bases ready refl [] broken (prints_none old.held old.lines ready.pending)
      (inr (refl, ready.waited)))

  fits_start : (script : List Wanted) (old : ScriptServer D) (bases : List ℕ) → HasServedNothing old bases
      → FitsScript old.session.engine.memory script → FitsScript old.session.start.memory script
  fits_start script old bases ready fit = subst (λ (m : Contents). FitsScript m script)
      (sym (ap (λ (t : SessionState D). t.start.memory) ready.fresh)) fit

  -- it failed before the first request
  pub once_unbegun : (T : Type 0) {E : Type 0} (e : E) (script : List Wanted) (old new : ScriptServer D)
      (bases : List ℕ)
      → new.session ≡ old.session → Breaks (numbers_had old.session.engine.memory) script old new
      → FitsScript old.session.engine.memory script ⊎ (new ≡ old)
      → HasServedOnce {T = T} script bases (Err e) old new
  once_unbegun T e script old new bases same breaks fit = λ ready. (
    ⊎_elim
        (λ is.
        let it = breaks script [] (output_of old) (met_start script old bases ready) in
        unbegun script old new bases ready same it.0
        (subst (λ (t : SessionState D). HasBroken t.engine.memory script it.0 new.waited) same it.1.0) it.1.1
        (inl (fits_start script old bases ready is)))
        (untold script old new bases ready)
        fit,
    tt,
  )

  module _ (script : List Wanted) (bases known : List ℕ) (old mid : ScriptServer D) (it : HasShown script bases known
      old mid) (fit : FitsScript old.session.engine.memory script) where
    -- and then it was ended
    pub shown_ends : (T : Type 0) {E : Type 0} (e : E) → HasServedOnce {T = T} script bases (Err e) old mid
    shown_ends T e = once_unbegun T e script old mid bases it.session (breaks_here
        (numbers_had old.session.engine.memory) it.later script [] old mid it.meets) (inl fit)

    pub shown_at : HasServedNothing old bases → MetAt script it.later [] (output_of old) mid
    shown_at ready = it.meets script [] (output_of old) (met_start script old bases ready)

    abbrev found : Contents
    found = old.session.start.memory

    abbrev course : Course
    course = course_of found script

    found_is : HasServedNothing old bases → old.session.engine.memory ≡ found
    found_is ready = sym (ap (λ (t : SessionState D). t.start.memory) ready.fresh)

    met_there : (ready : HasServedNothing old bases)
        → HasMet found script it.later [] (shown_at ready).0 mid.waited mid.marks
    met_there ready = subst (λ (x : Contents). HasMet x script it.later [] (shown_at ready).0 mid.waited mid.marks)
        (ap (λ (t : SessionState D). t.engine.memory) it.session ∙ found_is ready) (shown_at ready).1.0

    -- the text of what the image has, as it was printed
    shown_text : (ready : HasServedNothing old bases) → (shown_at ready).0 ≡ lines_had found (numbers_had found) script
    shown_text ready = sym ((met_there ready).lines ∙ append-nil (shown_at ready).0)

    pub shown_written : HasServedNothing old bases
        → SaysWhole (output_of old) (mid.held, mid.lines.faulted) (lines_had found (numbers_had found) script)
    shown_written ready = subst (SaysWhole (output_of old) (mid.held, mid.lines.faulted)) (shown_text ready)
        (prints_all (output_of old) mid.held mid.lines (shown_at ready).0 it.works it.pending (shown_at ready).1.1)

    -- its output then
    abbrev shown_from : Output
    shown_from = output_from (output_of old) (mid.held, mid.lines.faulted)

    shown_going : HasServedNothing old bases
        → GoingAt old.session.start shown_from (standing (Some course) known (course.wanted ++ [])) mid
    shown_going ready =
        let met = met_there ready in
        let names : known ≡ course.first = it.names ∙ ap (λ (l : List ℕ). l ++ bases_had (numbers_had
        old.session.engine.memory) 0 script) ready.bases_is
        ∙ ap (λ (x : Contents). bases_had (numbers_had x) 0 script) (found_is ready) in
        subst (λ (b : List ℕ). GoingAt old.session.start shown_from (standing (Some course) b (course.wanted ++ []))
        mid)
        (sym names)
        (subst (λ (t : SessionState D). GoingAt old.session.start shown_from (standing (Some course) course.first
        (course.wanted ++ [])) (server_of t mid.held mid.lines mid.waited mid.marks)) (sym it.session)
        (subst (λ (s : Style). GoingAt old.session.start (record (output_of mid) { style = s })
        (standing (Some course) course.first (course.wanted ++ []))
        (server_of old.session mid.held mid.lines mid.waited mid.marks)) (shown_at ready).1.1.styled
        (going_from course old.session mid.held mid.lines mid.waited mid.marks ready.fresh ready.works (record {
          memory = met.memory;
          noted = λ at w is. inr (met.marked at w is);
        }) (sym (met.names ∙ append-nil (map who_of mid.waited))) it.pending)))

    made_there : HasServedNothing old bases → HasMade found script
    made_there ready = subst (λ (x : Contents). HasMade x script) (found_is ready) it.made

    -- and the rest was served
    pub shown_serves : {T E : Type 0} (r : Result T E) (last : List ℕ) (new : ScriptServer D) (wanted : List Wanted)
        → wanted ≡ new_of old.session.engine.memory script → HasServed wanted known last r mid new
        → HasServedOnce script bases r old new
    shown_serves r last new wanted same served = λ ready.
        let served_now = subst (λ (l : List Wanted). HasServed l known last r mid new)
        (same ∙ ap (λ (x : Contents). new_of x script) (found_is ready)) served in
        let going = shown_going ready in
        let ends = served_now.ends old.session.start shown_from (Some course) [] going in (
          record {
            course = course;
            had = lines_had found (numbers_had found) script;
            course_is = record {
              first = refl;
              wanted = refl;
              had_is = ([], sym (append-nil (lines_had found (numbers_had found) script)));
              earlier_is = ([], sym (append-nil (waits_had found (numbers_had found) script)));
            };
            text = ends.text;
            over = ends.over;
            once = record { made = inl (made_there ready); fit = inl (fits_start script old bases ready fit) };
            printed = prints_after (output_of old) (mid.held, mid.lines.faulted) new.held new.lines _ ends.text
                (shown_written ready) ends.printed;
          },
          by_result r served_now.serves ready going,
        )
      where
        by_result : {T E : Type 0} (r : Result T E) → OnOk r (Passes course.wanted known [] last mid new)
            → HasServedNothing old bases
            → GoingAt old.session.start shown_from (standing (Some course) known (course.wanted ++ [])) mid
            → OnOk r (DoneOnce old.session.start script (output_of old) new)
        by_result (Ok x) serves ready going =
            let done = serves old.session.start shown_from (Some course) [] going in record {
              made = made_there ready;
              fit = fits_start script old bases ready fit;
              bases = last;
              text = done.text;
              serving = done.serving;
              printed = prints_after (output_of old) (mid.held, mid.lines.faulted) new.held new.lines _ done.text
                  (shown_written ready) done.printed;
            }
        by_result (Err e) serves ready going = tt

  -- ---- the end

  module _ (disk : Ghosts D) (script : List ℕ) (t : SessionState D) (end : D) (status : ℕ)
      (held mid is : Option (List ℕ)) (was : Output) (before later final : Lines) (noted waited : List Waited)
      (marks : List Mark)
      (kept : SessionKept disk t) (at_end : end ≡ t.engine.disk) (works : status ≡ 0 → t.engine.failed ≡ false)
      (ended : EndedOnce t.start (wanted_of script) was (server_of t held before noted marks))
      (done : status ≡ 0 → DoneOnce t.start (wanted_of script) was (server_of t held before noted marks))
      (same : map who_of waited ≡ map who_of noted)
      (learn : (m : Contents) (put : List Command) → t.engine.memory ≡ after m put → AreKnown m put noted
      → AreLast m put waited)
      (some : PrintsNows held before mid later waited)
      (all : status ≡ 0 → PrintsMore held before mid later (nows waited (length waited)))
      (last : (from : Output) (text : List OutputLine) → Prints from mid later text
      → (last : List OutputLine) × (IsLast last × Prints from is final (text ++ last)))
      (whole : status ≡ 0 → (from : Output) (text : List OutputLine) → Prints from mid later text
      → SaysWhole from (is, final.faulted) text) where
    abbrev at_last : Written
    at_last = (is, final.faulted)

    abbrev origin : Contents
    origin = t.start.memory

    abbrev wanted : List Wanted
    wanted = wanted_of script

    abbrev lines : List OutputLine
    lines = lines_had origin (numbers_had origin) wanted

    abbrev early : List Waiter
    early = waits_had origin (numbers_had origin) wanted

    served : IsAskedOnce origin wanted (t.put ++ t.doubt) status → AreDue origin (t.put ++ t.doubt)
        → length t.doubt ≤ 1
        → HasMade origin wanted ⊎ ((t.put ++ t.doubt ≡ []) × (status ≡ 0 → ⊥))
        → FitsScript origin wanted ⊎ (t.put ++ t.doubt ≡ []) → ToldOnce origin wanted t.put was at_last status
        → ServedOnce disk script t.start.disk end was at_last status
    served asked confirmed few made fit told = record {
      session = t;
      opened = refl;
      closed = at_end;
      kept = kept;
      asked = asked;
      confirmed = confirmed;
      few = few;
      works = works;
      made = made;
      fit = fit;
      once = λ h limits begun. went_on disk limits script t status kept (subst disk.honest at_end h) begun asked made;
      printed = told;
    }

    -- what was told, by the lines that were printed
    told_once : (c : Course) (text had : List OutputLine) → IsOver t.start t (Some c) text noted → IsPrefix had lines
        → IsPrefix c.earlier early → FitsScript origin wanted ⊎ ((had ≡ []) × (waited ≡ []))
        → Prints was held before (had ++ text)
        → (status ≡ 0 → (had ≡ lines) × (map who_of waited ≡ early ++ waits origin t.put)
        × SaysWhole was at_last (had ++ replies origin t.put ++ nows waited (length waited)))
        → ToldOnce origin wanted t.put was at_last status
    told_once c text had over had_is earlier_is fit prints all_of =
        let end = last was ((had ++ text) ++ nows waited some.0) (some.2 was (had ++ text) prints) in record {
          had = had;
          had_is = had_is;
          told = over.told;
          others = over.others;
          split = over.split;
          earlier = c.earlier;
          earlier_is = earlier_is;
          waited = waited;
          waiting = (over.many, same ∙ over.names);
          last_entries = learn origin t.put kept.memory over.known;
          fit = fit;
          many = some.0;
          last = end.0;
          last_is = end.1.0;
          begins = subst (λ (l : List OutputLine). SaysSome was at_last (((had ++ l) ++ nows waited some.0) ++ end.0))
              over.lines
              (prints_begins was is final (((had ++ text) ++ nows waited some.0) ++ end.0) end.1.1);
          whole = all_of;
        }

    by_status : (n : ℕ) → status ≡ n → ServedOnce disk script t.start.disk end was at_last status
    by_status zero none =
        let g = done none in
        let s = standing (Some (course_of origin wanted)) g.bases [] in
        let over = over_here t.start t s g.text (notes noted marks) g.serving in
        let full = whole none was ((lines ++ g.text) ++ nows waited (length waited)) (all none was (lines ++ g.text)
        g.printed) in
        served (record {
          left = [];
          leads = leads_here t.start t s g.text (notes noted marks) g.serving;
          all = λ z. refl;
        }) over.due over.few (inl g.made) (inl g.fit)
        (told_once (course_of origin wanted) g.text lines over ([], sym (append-nil lines)) ([], sym (append-nil early))
        (inl g.fit) g.printed (λ z. (
          refl,
          same ∙ g.serving.names,
          subst (λ (l : List OutputLine). SaysWhole was at_last ((lines ++ l) ++ nows waited (length waited)))
              g.serving.lines full,
        )))
    by_status (suc n) more =
        let c = ended.course in
        let is_course = ended.course_is in
        let over = ended.over in
        let all_put : List Command = t.put ++ t.doubt in
        served
        (record {
          left = over.left;
          leads = subst (λ (b : List ℕ). Leads origin b (new_of origin wanted) all_put over.left) is_course.first
              (subst (λ (w : List Wanted). Leads origin c.first w all_put over.left) is_course.wanted over.leads);
          all = λ z. absurd (omega arith);
        })
        over.due over.few
        (⊎_elim (λ made. inl made) (λ none. inr (none, λ z. absurd (omega arith))) ended.once.made)
        (⊎_elim (λ fit. inl fit) (λ none. inr none.0) ended.once.fit)
        (told_once c ended.text ended.had over is_course.had_is is_course.earlier_is
        (⊎_elim (λ fit. inl fit)
        (λ none. inr (none.1.0, none_left waited (same ∙ ap (map who_of) none.1.1))) ended.once.fit)
        ended.printed (λ z. absurd (omega arith)))

    pub closed_once : ServedOnce disk script t.start.disk end was at_last status
    closed_once = by_status status refl
