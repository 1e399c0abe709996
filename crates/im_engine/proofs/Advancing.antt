-- A chain of groups: what is judged, what is put, and what the engine is then.
use Rattle.std.proofs.Common.{◌≡◌, ℕ, zero, suc, ◌+◌, ◌-◌, ◌<◌, ◌≤◌, min, Bool, true, false, ◌≢◌, ◌⊎◌, List, [], ◌∷◌}
use Rattle.std.proofs.Common.{◌++◌, map, length, take, if◌then◌else◌, ◌==◌, slice_get, Some, Ok, Err, Result, sym, refl}
use Rattle.std.proofs.Common.{ap, ◌∙◌, subst, inl, inr, ⊎_elim, arith, length-take, take_all}
use Rattle.std.proofs.lemmas.{Bool.cases_eq, Bool.Decides.nat_tests, List.nil_from_length}
use Rattle.im_types.specs.Types.{Command, Served, Refusal, JournalFull, Device, Failed, MAX_GROUP, LAST, Contents}
use Rattle.im_types.specs.Types.{after, as_served, accept_each}
use Rattle.im_laws.proofs.Tests.{eq_by_test, true_or_false}
use Rattle.im_disk.specs.{Moment.Faults, Moment.Moment, Since.Calls, Since.CallsAtMost, Since.CallsBy}
use Rattle.im_journal.proofs.{Appending.none_ahead, Rings.other_number}
use Rattle.im_journal.specs.Holding.{ahead_after, IsFullBy, IsFullFor, IsJournal, JournalState, longer, room_after}
use Rattle.im_journal.specs.Holding.{slots_ahead, with_ahead}
use Rattle.{im_memory.specs.State.MemoryState, im_groups.proofs.WholeLemmas.whole-commands}
use Rattle.im_groups.proofs.CommandLemmas.{at-accepted, at-accepts, at-after, few_at}
use Rattle.im_groups.proofs.EnoughLemmas.{at_most_members, enough-answers, enough-commands, enough-contents}
use Rattle.im_groups.proofs.EnoughLemmas.{enough-pages, enough-takes, whole-accepted}
use Rattle.im_groups.specs.Ahead.{AreAccepted, IsUnsure, ServesBehind}
use Rattle.im_groups.specs.Commands.{answers_with, commands_at, contents_after_all, most_pages_with, places, takes_at}
use Rattle.im_checkpoint.specs.{Step.changed_in, Step.PagedCheckpoint, Turns.AddsAtMost}
use Rattle.im_engine.proofs.{Chaining.no_other, Members.length_answers, Members.length_refused, Members.longer_none}
use Rattle.im_engine.specs.{Chain.Advances, Chain.calls_to_advance, Chain.FitsBehind, Chain.IsAhead, Chain.IsComing}
use Rattle.im_engine.specs.{Chain.places_left, Chain.put_ahead, Chain.WereJudged, Commands.AreParted, Commands.AreWhole}
use Rattle.im_engine.specs.{Commands.each_refused, State.engine_of, State.EngineState}

-- ---- places

-- what is left of the places is there behind the group
places_behind : (count room g : ℕ) → min room (LAST - count) - g
    ≤ min (room_after count g room) (LAST - (count + g))
places_behind count room g = ⊎_elim
    (λ (last : count + g ≡ LAST). omega (arith, last))
    (λ (other : count + g ≢ LAST).
    let less : room_after count g room ≡ room - g = ap (λ (b : Bool). if b then 0 else room - g)
    (other_number (count + g) LAST other) in
    omega (arith, less))
    (cases_eq (count + g) LAST)

-- ---- a beginning of the next members

get_taken : {X : Type 0} (xs : List X) (k i : ℕ) (x : X) → i < k → slice_get xs i ≡ Some x
    → slice_get (take k xs) i ≡ Some x
get_taken [] zero i x less at = absurd (omega (arith, less))
get_taken [] (suc k) i x less at = at
get_taken (y ∷ xs) zero i x less at = absurd (omega (arith, less))
get_taken (y ∷ xs) (suc k) zero x less at = at
get_taken (y ∷ xs) (suc k) (suc i) x less at = get_taken xs k i x (omega (arith, less)) at

got_inside : {X : Type 0} (xs : List X) (i : ℕ) (x : X) → slice_get xs i ≡ Some x → i < length xs
got_inside [] i x at = absurd (cc)
got_inside (y ∷ xs) zero x at = omega arith
got_inside (y ∷ xs) (suc i) x at = omega (arith, got_inside xs i x at)

-- what was judged with as many places as were asked holds with as many as were judged
pub told_of : (m : Contents) (asked members commands : List Command) (taken : List Bool) (many : ℕ)
    → members ≡ take many asked → commands ≡ commands_at m (length asked) (take many asked)
    → taken ≡ takes_at m (length asked) (take many asked) → many ≤ length asked → WereJudged m members commands taken
told_of m asked members commands taken many members_are commands_are taken_are within =
    subst (λ (l : List Command). WereJudged m l commands taken) (sym members_are) (record {
      commands = commands_are ∙ enough-commands m (length asked) (length (take many asked)) (take many asked)
          (omega (arith, length-take many asked)) (omega arith);
      taken = λ other. taken_are ∙ enough-takes m (length asked) (length (take many asked)) (take many asked)
          (omega (arith, length-take many asked)) (omega arith);
    })

-- ---- all of the next members
pub all_taken : {X : Type 0} (xs : List X) → take (length xs) xs ≡ xs
all_taken xs = take_all (length xs) xs (omega arith)

-- what was judged of them if each is accepted
pub all_told : (m : Contents) (next put : List Command) (taken : List Bool) → put ≡ next → AreAccepted m next
    → WereJudged m (take (length next) next) put taken
all_told m next put taken put_is accepted =
    subst (λ (l : List Command). WereJudged m l put taken) (sym (all_taken next)) (record {
      commands = put_is ∙ sym (whole-commands m (length next) next accepted (omega arith));
      taken = λ other. absurd (no_other (length put) (length next) (ap length put_is) other);
    })

-- ---- an engine with a group ahead
module _ {D : Type 0} (d : D) (c : PagedCheckpoint) (m : MemoryState) (j : JournalState)
    (members commands : List Command) (taken : List Bool) (f : Bool) (known : IsJournal j)
    (it : IsAhead m.contents j members commands taken) where
  abbrev here : EngineState D
  here = engine_of d c m j members f

  abbrev p : ℕ
  p = places j.count j.room

  pub put_is : commands ≡ put_ahead here
  put_is = it.told.commands
      ∙ enough-commands m.contents (length members) p members (omega arith) it.enough

  pub laid_is : j.ahead ≡ put_ahead here
  laid_is = it.laid ∙ put_is

  -- no more commands than places
  pub few_put : length j.ahead ≤ p
  few_put = omega (arith, ap length laid_is, few_at m.contents p members)

  pub accepted : AreAccepted m.contents commands
  accepted = subst (λ (l : List Command). AreAccepted m.contents l) (sym put_is) (at-accepted m.contents p members)

  pub accepts : accept_each m.contents j.ahead ≡ Some (contents_after_all m.contents p members)
  accepts = ap (λ (l : List Command). accept_each m.contents l) laid_is ∙ at-accepts m.contents p members

  -- the next members, as many as there are places for
  module _ (next : List Command) (left : ℕ) (left_is : left ≡ p - length j.ahead) where
    abbrev asked : List Command
    asked = take (min (length next) left) next

    asked_long : length asked ≡ min (length next) left
    asked_long = omega (arith, length-take (min (length next) left) next)

    pub coming : (put : List Command) (many : ℕ) → ServesBehind m.contents commands put asked many
        → IsComing here next put many
    coming put many serves = record {
      within = omega (arith, serves.within, asked_long);
      few = omega (arith, serves.within, asked_long, left_is, ap length laid_is);
      some = λ none places_are some. serves.some (omega (arith, ap length put_is, ap length none))
          (omega (arith, asked_long, left_is, ap length laid_is, places_are, some));
      stops = λ more command at. subst (λ (l : List Command). IsUnsure m.contents (l ++ put) command) put_is
          (serves.stops command (get_taken next (min (length next) left) many command
          (omega (arith, more, left_is, ap length laid_is, got_inside next many command at)) at));
    }

  -- what was judged of the next members fits behind the group
  module _ (next put : List Command) (told : List Bool)
      (judged : WereJudged (after m.contents (put_ahead here)) next put told)
      (few : length next ≤ places_left here) where
    few_next : length put ≤ length next
    few_next = omega (
      arith,
      ap length judged.commands,
      at_most_members (after m.contents (put_ahead here)) (length next) next,
    )

    pub fits : FitsBehind j put
    fits = record {
      known = known;
      room = omega (arith, few_next, few, ap length laid_is, few_at m.contents p members);
      last = omega (arith, few_next, few, ap length laid_is, few_at m.contents p members, known.to_last);
    }

    -- and is ahead once the group is on the disk and acted
    pub next_ahead : (m2 : Contents) (j2 : JournalState) → m2 ≡ contents_after_all m.contents (length members) members
        → j2 ≡ with_ahead put (longer (length j.ahead) j) → IsAhead m2 j2 next put told
    next_ahead m2 j2 contents journal = record {
      enough = omega (
        arith,
        few,
        ap length laid_is,
        places_behind j.count j.room (length j.ahead),
        ap (λ (x : JournalState). x.count) journal,
        ap (λ (x : JournalState). x.room) journal,
      );
      told = subst (λ (x : Contents). WereJudged x next put told) (sym (contents
          ∙ enough-contents m.contents (length members) p members (omega arith) it.enough
          ∙ sym (at-after m.contents p members))) judged;
      laid = ap (λ (x : JournalState). x.ahead) journal;
    }

  -- the group is on the disk, and its members acted
  pub advance_done : f ≡ false → (d2 : D) (c2 : PagedCheckpoint) (m2 : MemoryState) (j2 : JournalState)
      (next put ahead2 : List Command) (many : ℕ) → j2 ≡ with_ahead put (longer (length j.ahead) j)
      → ahead2 ≡ take many next → c2.state ≡ c.state
      → m2.contents ≡ contents_after_all m.contents (length members) members → (answers : List Served)
      → answers ≡ map as_served (answers_with m.contents (length members) members)
      → AddsAtMost (most_pages_with m.contents (length members) members) (changed_in c) (changed_in c2)
      → Advances here next (Ok many) answers (engine_of d2 c2 m2 j2 ahead2 f)
  advance_done alive d2 c2 m2 j2 next put ahead2 many journal taken_are still contents answers told adds =
      let counted : j2 ≡ with_ahead put (longer (length (put_ahead here)) j) = journal
      ∙ ap (λ (l : List Command). with_ahead put (longer (length l) j)) laid_is in
      let memory : m2.contents ≡ contents_after_all m.contents p members = contents
      ∙ enough-contents m.contents (length members) p members (omega arith) it.enough in
      record {
        enough = it.enough;
        dead = λ e. absurd (cc);
        alive = λ e. inl (
          many,
          refl,
          told ∙ ap (λ l. map as_served l)
              (enough-answers m.contents (length members) p members (omega arith) it.enough),
          (λ i. record {
            disk = d2;
            header = (still i).header;
            step = (still i).step;
            pages = changed_in c2;
            memory = memory i;
            count = (counted i).count;
            room = (counted i).room;
            ahead = taken_are i;
            failed = f;
          }),
        );
        pages = λ e w. subst (λ (n : ℕ). AddsAtMost n (changed_in c) (changed_in c2))
            (enough-pages m.contents (length members) p members (omega arith) it.enough) adds;
      }

  -- an earlier call failed
  pub advance_dead : f ≡ true → (next : List Command) (answers : List Served) → answers ≡ each_refused Failed members
      → Advances here next (Err Failed) answers here
  advance_dead dead next answers told = record {
    enough = it.enough;
    dead = λ e. (refl, told, refl);
    alive = λ e. absurd (cc);
    pages = λ e w. absurd (cc);
  }

  -- a call of the disk failed
  pub advance_failed : f ≡ false → (d2 : D) (j2 : JournalState) (next ahead2 : List Command) → j2 ≡ with_ahead [] j
      → ahead2 ≡ [] → (answers : List Served) → answers ≡ each_refused Device members
      → Advances here next (Err Device) answers (engine_of d2 c m j2 ahead2 true)
  advance_failed alive d2 j2 next ahead2 stays none answers told = record {
    enough = it.enough;
    dead = λ e. absurd (cc);
    alive = λ e. inr (
      refl,
      told,
      (λ i. record {
        disk = d2;
        header = c.state.header;
        step = c.state.step;
        pages = changed_in c;
        memory = m.contents;
        count = (stays i).count;
        room = (stays i).room;
        ahead = none i;
        failed = true;
      }),
    );
    pages = λ e w. absurd (cc);
  }

-- all of the next members come, if there are places for them
pub all_coming : {D : Type 0} (s : EngineState D) (next put : List Command) → length next ≤ places_left s
    → IsComing s next put (length next)
all_coming {D} s next put few = record {
  within = omega arith;
  few = few;
  some = λ none places_are some. some;
  stops = λ more command at. absurd (omega (arith, got_inside next (length next) command at));
}

-- a group that was judged is ahead, however it is kept
pub renewed : (m : Contents) (j : JournalState) (next put : List Command) (told : List Bool) (many : ℕ)
    (members2 put2 : List Command) (told2 : List Bool) → length next ≡ many → members2 ≡ next → put2 ≡ put
    → ((length put == many) ≡ false → told2 ≡ told) → IsAhead m j next put told → IsAhead m j members2 put2 told2
renewed m j next put told many members2 put2 told2 long members_are put_is told_is it = record {
  enough = omega (arith, ap length members_are, it.enough);
  told = record {
    commands = put_is ∙ it.told.commands
        ∙ (λ i. commands_at m (length (sym members_are i)) (sym members_are i));
    taken = λ other.
        let some : (length put == length next) ≡ false
        = (λ i. length (sym put_is i) == length (sym members_are i)) ∙ other in
        told_is (ap (λ (n : ℕ). length put == n) (sym long) ∙ some) ∙ it.told.taken some
        ∙ (λ i. takes_at m (length (sym members_are i)) (sym members_are i));
  };
  laid = it.laid ∙ sym put_is;
}

-- commands as many as the members that were judged are these members
pub put_whole : (m : Contents) (next put : List Command) (told : List Bool) (many : ℕ) → many ≤ length next
    → WereJudged m (take many next) put told → (length put == many) ≡ true → put ≡ take many next
put_whole m next put told many within it same =
    let members : List Command = take many next in
    let long : length put ≡ length members = omega (
      arith,
      eq_by_test (length put) many same,
      length-take many next,
      within,
    ) in
    it.commands ∙ whole-commands m (length members) members
    (whole-accepted m (length members) members (sym (ap length it.commands) ∙ long)) (omega arith)

-- no more calls than the next members and two
pub few_calls : (ahead next : ℕ) → calls_to_advance ahead next ≤ next + 2
few_calls zero zero = omega arith
few_calls zero (suc next) = omega arith
few_calls (suc ahead) next = omega arith

pub calls_some : (ahead next : ℕ) → 0 < ahead → calls_to_advance ahead next ≡ next + 2
calls_some zero next some = absurd (omega (arith, some))
calls_some (suc ahead) next some = refl

pub calls_first : (ahead next : ℕ) → ahead ≡ 0 → 0 < next → calls_to_advance ahead next ≡ next + 1
calls_first zero zero none some = absurd (omega (arith, some))
calls_first zero (suc next) none some = refl
calls_first (suc ahead) next none some = absurd (omega (arith, none))

pub no_group : {X : Type 0} (xs : List X) → 0 < length xs → xs ≡ [] → ⊥
no_group xs some none = absurd (omega (arith, some, ap length none))

-- a journal with nothing ahead, and with nothing more
pub same_ahead : (j : JournalState) (next : List Command) → IsJournal j → j.ahead ≡ [] → next ≡ []
    → j ≡ with_ahead next (longer (length j.ahead) j)
same_ahead j next known none nothing =
    let here : longer (length j.ahead) j ≡ j = ap (λ (l : List Command). longer (length l) j) none
    ∙ longer_none j known in
    (λ i. record { ring = j.ring; first = j.first; count = j.count; room = j.room; ahead = ahead i })
    ∙ ap (λ (x : JournalState). with_ahead next x) (sym here)
  where
    ahead : j.ahead ≡ next
    ahead = none ∙ sym nothing

-- members that were judged, as they act: all of them take places, or each as it was told
other_than_none : (n : ℕ) → (n == 0) ≡ false → 0 < n
other_than_none n other = grind (arith, nat_tests)

-- whether a list is empty, by a slice of it
pub none_in : {X : Type 0} (items slice : List X) (test : Bool) → slice ≡ items → test ≡ (length slice == 0)
    → test ≡ true → items ≡ []
none_in items slice test is tested empty = nil_from_length items
    (omega (arith, ap length is, eq_by_test (length slice) 0 (sym tested ∙ empty)))

pub some_in : {X : Type 0} (items slice : List X) (test : Bool) → slice ≡ items → test ≡ (length slice == 0)
    → test ≡ false → 0 < length items
some_in items slice test is tested other =
    omega (arith, ap length is, other_than_none (length slice) (sym tested ∙ other))

-- what is ahead behind commands that may be none
pub ahead_still : {X : Type 0} (n : ℕ) (test : Bool) (xs : List X) → test ≡ (n == 0) → test ≡ true
    → xs ≡ ahead_after n xs
ahead_still n test xs tested none = ap (λ (m : ℕ). ahead_after m xs) (sym (eq_by_test n 0 (sym tested ∙ none)))

pub ahead_gone : {X : Type 0} (n : ℕ) (test : Bool) (xs ys : List X) → test ≡ (n == 0) → test ≡ false → ys ≡ []
    → ys ≡ ahead_after n xs
ahead_gone n test xs ys tested other none = none ∙ sym (none_ahead n xs (other_than_none n (sym tested ∙ other)))

-- where there is room, a refusal is the disk's
pub only_device : {T D : Type 0} (full : Type 0) (old new : D) (r : Result T Refusal) (a b : ℕ)
    → IsFullBy full old new r → (full → ⊥) → Faults (λ e. (e ≡ JournalFull) ⊎ (e ≡ Device)) r a b
    → Faults (λ e. e ≡ Device) r a b
only_device {T} {D} full old new (Ok x) a b it room faults = faults
only_device {T} {D} full old new (Err e) a b it room faults = (
  ⊎_elim
      (λ (is : e ≡ JournalFull). absurd (room (it.exactly.0 (ap (λ (x : Refusal). Err x) is))))
      (λ (is : e ≡ Device). is)
      faults.0,
  faults.1,
  faults.2,
)

pub has_room_for : (j : JournalState) (next : List Command) → FitsBehind j next → IsFullFor j next → ⊥
has_room_for j next fits full = ⊎_elim
    (λ (less : j.room < slots_ahead j next). absurd (omega (arith, less, fits.room)))
    (λ (past : LAST < j.count + slots_ahead j next). absurd (omega (arith, past, fits.last)))
    full

pub whole_of : (m : Contents) (left : ℕ) (members slice commands : List Command) (taken : List Bool)
    → slice ≡ members → left ≡ length slice → length slice ≤ MAX_GROUP → WereJudged m members commands taken
    → (length commands == length members) ≡ true → AreWhole m left slice
whole_of m left members slice commands taken same enough few told all = record {
  few = few;
  accepted = subst (λ (l : List Command). AreAccepted m l) (sym same)
      (whole-accepted m (length members) members
      (sym (ap length told.commands) ∙ eq_by_test (length commands) (length members) all));
  enough = omega (arith, enough);
}

pub parted_of : (m : Contents) (left : ℕ) (members slice commands : List Command) (taken told_slice : List Bool)
    → slice ≡ members → left ≡ length slice → length slice ≤ MAX_GROUP → WereJudged m members commands taken
    → told_slice ≡ taken → (length commands == length members) ≡ false → AreParted m left slice told_slice
parted_of m left members slice commands taken told_slice same enough few told is other = record {
  few = few;
  taken = is ∙ told.taken other ∙ (λ i. takes_at m (at i) (sym same i));
}
  where
    at : length members ≡ left
    at = sym (ap length same) ∙ sym enough

-- the calls of a run that is done
pub calls_made : {D T E : Type 0} (past : D → List Moment) (d d2 : D) (n : ℕ) (r : Result T E) (x : T) → r ≡ Ok x
    → CallsBy past d d2 n r → Calls past d d2 n
calls_made {D} {T} {E} past d d2 n r x is calls = subst (λ (y : Result T E). CallsBy past d d2 n y) is calls

-- no more calls, whatever comes of the run
pub calls_few : {D T E : Type 0} (past : D → List Moment) (d d2 : D) (ahead next most : ℕ) (r : Result T E)
    → next ≤ most → CallsBy past d d2 (calls_to_advance ahead next) r → CallsAtMost past d d2 (most + 2)
calls_few past d d2 ahead next most (Ok x) le calls = omega (arith, calls, le, few_calls ahead next)
calls_few past d d2 ahead next most (Err x) le calls = omega (arith, calls, le, few_calls ahead next)

-- no more commands come than next members
pub few_coming : (m : Contents) (next slice members commands : List Command) (taken : List Bool) → slice ≡ next
    → WereJudged m members commands taken → length members ≤ length slice → length commands ≤ length next
few_coming m next slice members commands taken same told within = omega (
  arith,
  ap length told.commands,
  at_most_members m (length members) members,
  within,
  ap length same,
)

-- the commands of a group ahead are those that an engine puts of it
pub new_put : (m n : Contents) (j : JournalState) (members commands : List Command) (taken : List Bool)
    → IsAhead n j members commands taken → commands ≡ commands_at n (places j.count j.room) members
new_put m n j members commands taken it = it.told.commands
    ∙ enough-commands n (length members) (places j.count j.room) members (omega arith) it.enough

-- as many answers as members of the group ahead
pub advanced_long : {D : Type 0} (old : EngineState D) (next : List Command) (result : Result ℕ Refusal)
    (answers : List Served) (new : EngineState D) → Advances old next result answers new
    → length answers ≡ length old.ahead
advanced_long {D} old next result answers new it = ⊎_elim
    (λ (dead : old.failed ≡ true). ap (λ (l : List Served). length l) (it.dead dead).1 ∙ length_refused Failed
    old.ahead)
    (λ (alive : old.failed ≡ false). ⊎_elim
    (λ done. ap (λ (l : List Served). length l) done.2
    ∙ length_answers old.memory (places old.count old.room) old.ahead)
    (λ fault. ap (λ (l : List Served). length l) fault.1 ∙ length_refused Device old.ahead)
    (it.alive alive))
    (true_or_false old.failed)
