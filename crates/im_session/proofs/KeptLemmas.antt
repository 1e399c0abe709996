-- What a call of its engine comes to for a session.
use Rattle.std.proofs.Common.{◌≡◌, ℕ, ◌+◌, true, false, ◌⊎◌, List, [], ◌++◌, length, take, Ok, Err, Result, sym, refl}
use Rattle.std.proofs.Common.{ap, ◌∙◌, subst, ap₂, inl, inr, ⊎_elim, append_assoc, append-nil, arith, length-append}
use Rattle.std.proofs.Common.{take_all}
use Rattle.std.proofs.lemmas.List.{take-append-le}
use Rattle.im_types.specs.Types.{Command, Refusal, Device, Contents, after, accepted, Means}
use Rattle.im_laws.proofs.{RunLemmas.accepted-append, RunLemmas.after-append, Tests.true_false}
use Rattle.im_disk.proofs.SinceLemmas.{leaves_now, leaves_start, leaves_then, leaves_weaker, left_now}
use Rattle.im_disk.specs.{declared.Disk.Ghosts, Since.LeavesNow, Since.LeavesWithin}
use Rattle.im_disk.specs.Moment.{Faults, Left, Moment, Rises}
use Rattle.im_engine.specs.Leaving.{LeavesAfter, LeavesSince, LeavesState}
use Rattle.im_engine.specs.State.{EngineState, MeansState}
use Rattle.im_session.proofs.KeepingLemmas.{from_all}
use Rattle.im_session.specs.{Keeping.KeepsPut, Keeping.LeavesWhole, Keeping.MeansFrom, Opening.CanBegin}
use Rattle.im_session.specs.Kept.{Kept, MeansPrefix, MeansPut, session_of, SessionStart, start_at}

-- each of the commands is accepted in its turn
abbrev pub Accepted : Contents → List Command → Type 0
Accepted m commands = accepted m commands ≡ commands

-- the file means what the engine is after these commands
abbrev pub MeansAll : {D : Type 0} → EngineState D → List Command → List ℕ → Type 0
MeansAll s commands file = MeansPut (start_at s.disk s) commands file

-- after these, or after these and all of those in doubt
abbrev pub MeansWithOrWithout : {D : Type 0} → EngineState D → List Command → List Command → List ℕ → Type 0
MeansWithOrWithout s commands doubt file = MeansAll s commands file ⊎ MeansAll s (commands ++ doubt) file

-- ---- a call of the engine

-- it did nothing
pub record Stays {D : Type 0} (mid new : EngineState D) (sure doubt : List Command) : Type 0 where
  pub same : new ≡ mid
  pub none_sure : sure ≡ []
  pub none_doubted : doubt ≡ []

-- it put the first of these commands, and left the others in doubt
pub record Puts {D : Type 0} (disk : Ghosts D) (mid new : EngineState D) (sure doubt : List Command) : Type 0 where
  pub works : mid.failed ≡ false
  pub in_turn : Accepted mid.memory (sure ++ doubt)
  pub memory : new.memory ≡ after mid.memory sure
  pub count : new.count ≡ mid.count + length sure
  pub undoubted : new.failed ≡ false → doubt ≡ []
  pub rose : new.failed ≡ true → Rises (disk.failures mid.disk) (disk.failures new.disk)
  pub stayed : new.failed ≡ false → disk.failures new.disk ≡ disk.failures mid.disk
  pub honest : disk.honest new.disk → disk.honest mid.disk
  pub since : disk.honest new.disk
      → LeavesWithin disk.now disk.past mid.disk new.disk (MeansWithOrWithout mid [] (sure ++ doubt))
  pub now : disk.honest new.disk → LeavesNow (disk.now new.disk) (MeansWithOrWithout mid sure doubt)

-- the one or the other
abbrev pub GoesOn : {D : Type 0} → Ghosts D → EngineState D → EngineState D → List Command → List Command → Type 0
GoesOn disk mid new sure doubt = Stays mid new sure doubt ⊎ Puts disk mid new sure doubt

-- a call that puts nothing leaves the memory
pub memory_stays : {D : Type 0} (disk : Ghosts D) (mid new : EngineState D) → GoesOn disk mid new [] []
    → new.memory ≡ mid.memory
memory_stays {D} disk mid new it = ⊎_elim (λ same. ap (λ (e : EngineState D). e.memory) same.same) (λ put. put.memory) it

-- and the count
pub count_stays : {D : Type 0} (disk : Ghosts D) (mid new : EngineState D) → GoesOn disk mid new [] []
    → new.count ≡ mid.count
count_stays {D} disk mid new it = ⊎_elim (λ same. ap (λ (e : EngineState D). e.count) same.same)
    (λ put. let n = put.count in omega (arith, n)) it

-- the file means the memory after these commands
pub all_of : {D : Type 0} (mid : EngineState D) (commands : List Command) (m : Contents) (n room : ℕ) (file : List ℕ)
    → m ≡ after mid.memory commands → n ≡ mid.count + length commands → Means m n room file → MeansAll mid commands file
all_of mid commands m n room file same counted it =
    subst (λ (x : Contents). Means x (mid.count + length commands) 0 file) same
    (subst (λ (k : ℕ). Means m k 0 file) counted (it.0, omega arith, it.2))

pub none_of : {D : Type 0} (mid : EngineState D) (more : List Command) (file : List ℕ) → MeansState mid file
    → MeansWithOrWithout mid [] more file
none_of mid more file it = inl (all_of mid [] mid.memory mid.count mid.room file refl (omega arith) it)

-- what a call leaves that may leave files with P
pub record CallLeaves {D : Type 0} (disk : Ghosts D) (mid new : EngineState D) (P : List ℕ → Type 0) : Type 0 where
  pub since : LeavesSince disk mid new P
  pub now : LeavesAfter disk mid new P
  pub means : LeavesState disk new
  pub honest : disk.honest new.disk → disk.honest mid.disk

-- a call that may put these commands, all of them or none
module _ {D : Type 0} (disk : Ghosts D) (mid new : EngineState D) (P : List ℕ → Type 0) (call : CallLeaves disk mid new P)
    (works : mid.failed ≡ false) (more : List Command) (in_turn : Accepted mid.memory more)
    (either : (file : List ℕ) → P file → MeansWithOrWithout mid [] more file) where
  since_more : disk.honest new.disk
      → LeavesWithin disk.now disk.past mid.disk new.disk (MeansWithOrWithout mid [] more)
  since_more h = leaves_weaker (disk.now mid.disk) (disk.now new.disk) (disk.past mid.disk) (disk.past new.disk) P
      (MeansWithOrWithout mid [] more) (call.since h works) either

  pub puts_all : new.memory ≡ after mid.memory more → new.count ≡ mid.count + length more → new.failed ≡ false
      → disk.failures new.disk ≡ disk.failures mid.disk → Puts disk mid new more []
  puts_all memory count alive same = record {
    works = works;
    in_turn = subst (Accepted mid.memory) (sym (append-nil more)) in_turn;
    memory = memory;
    count = count;
    undoubted = λ f. refl;
    rose = λ dead. absurd (true_false (sym dead ∙ alive));
    stayed = λ f. same;
    honest = call.honest;
    since = λ h. subst (λ (l : List Command). LeavesWithin disk.now disk.past mid.disk new.disk
        (MeansWithOrWithout mid [] l)) (sym (append-nil more)) (since_more h);
    now = λ h file left.
        inl (all_of mid more new.memory new.count new.room file memory count (call.means h alive file left));
  }

  pub puts_nothing : new.failed ≡ true → new.memory ≡ mid.memory → new.count ≡ mid.count
      → Rises (disk.failures mid.disk) (disk.failures new.disk) → Puts disk mid new [] more
  puts_nothing dead memory count rises = record {
    works = works;
    in_turn = in_turn;
    memory = memory;
    count = omega (arith, count);
    undoubted = λ f. absurd (true_false (sym dead ∙ f));
    rose = λ f. rises;
    stayed = λ f. absurd (true_false (sym dead ∙ f));
    honest = call.honest;
    since = since_more;
    now = λ h file left. either file (call.now h works file left);
  }

  pub puts_none : new ≡ record mid { disk = new.disk; failed = true }
      → Rises (disk.failures mid.disk) (disk.failures new.disk) → Puts disk mid new [] more
  puts_none fault rises = puts_nothing (ap (λ (e : EngineState D). e.failed) fault)
      (ap (λ (e : EngineState D). e.memory) fault) (ap (λ (e : EngineState D). e.count) fault) rises

-- the count of failures by an answer
pub steady_by : {T : Type 0} (a : Result T Refusal) (x : T) (old new : ℕ) → Faults (λ e. Unit {0}) a old new → a ≡ Ok x
    → new ≡ old
steady_by {T} a x old new cause is = subst (λ (r : Result T Refusal). Faults (λ e. Unit {0}) r old new) is cause

pub rose_by : {T : Type 0} (a : Result T Refusal) (old new : ℕ) → Faults (λ e. Unit {0}) a old new → a ≡ Err Device
    → Rises old new
rose_by {T} a old new cause is =
    let fault : Faults {T = T} (λ e. Unit {0}) (Err Device) old new
    = subst (λ (r : Result T Refusal). Faults (λ e. Unit {0}) r old new) is cause in
    (fault.1 refl).0

-- ---- the session after it

-- what a file means that means a prefix
pub beginning : {D : Type 0} (start : SessionStart D) (put more : List Command) (file : List ℕ)
    → MeansPrefix start put file → MeansPrefix start (put ++ more) file
beginning start put more file (many, few, means) =
    let same : take many (put ++ more) ≡ take many put = take-append-le many put more few in
    (many, omega (arith, length-append put more, few), rw (same) means)

pub all_begins : {D : Type 0} (start : SessionStart D) (put : List Command) (file : List ℕ) → MeansPut start put file
    → MeansPrefix start put file
all_begins start put file means = (
  length put,
  omega arith,
  subst (λ (l : List Command). Means (after start.memory l) (start.count + length put) 0 file)
      (sym (take_all (length put) put (omega arith))) means,
)

module _ {D : Type 0} (disk : Ghosts D) (start : SessionStart D) (put doubt : List Command) (mid new : EngineState D)
    (so_far : Kept disk (session_of start put doubt mid)) (sure more : List Command) where
  abbrev Next : Type 0
  Next = Kept disk (session_of start (put ++ sure) (doubt ++ more) new)

  -- it goes on to the one after it
  abbrev Keeps : Type 0
  Keeps = KeepsPut disk (session_of start put doubt mid) (session_of start (put ++ sure) (doubt ++ more) new)

  -- and leaves all of it, or nothing
  abbrev Whole : Type 0
  Whole = LeavesWhole disk (session_of start put doubt mid) (session_of start (put ++ sure) (doubt ++ more) new)

  keeps_same : Stays mid new sure more → Keeps
  keeps_same it = rw (it.same, it.none_sure, it.none_doubted, append-nil put, append-nil doubt) (record {
    start = refl;
    more = [];
    put = sym (append-nil (put ++ doubt));
    honest = λ h. h;
    leaves = λ h. leaves_start (disk.now mid.disk) (disk.past mid.disk)
        (MeansFrom start (put ++ doubt) (length put));
  })

  whole_same : Stays mid new sure more → Whole
  whole_same it = subst (λ (e : EngineState D). LeavesWhole disk (session_of start put doubt mid)
      (session_of start (put ++ sure) (doubt ++ more) e)) (sym it.same)
      (λ h. leaves_start (disk.now mid.disk) (disk.past mid.disk)
      (λ (file : List ℕ). MeansPut start (put ++ doubt) file ⊎ MeansPut start ((put ++ sure) ++ (doubt ++ more)) file))

  kept_same : Stays mid new sure more → Next
  kept_same it = rw (it.same, it.none_sure, it.none_doubted, append-nil put, append-nil doubt) so_far

  module _ (it : Puts disk mid new sure more) where
    abbrev both : List Command
    both = sure ++ more

    none : doubt ≡ []
    none = so_far.sure it.works

    put_is : put ++ doubt ≡ put
    put_is = ap (λ (l : List Command). put ++ l) none ∙ append-nil put

    all_is : (put ++ sure) ++ (doubt ++ more) ≡ put ++ both
    all_is = ap (λ (l : List Command). (put ++ sure) ++ (l ++ more)) none ∙ append_assoc put sure more

    memory_is : (l : List Command) → after mid.memory l ≡ after start.memory (put ++ l)
    memory_is l = ap (λ (m : Contents). after m l) so_far.memory ∙ sym (after-append start.memory put l)

    count_is : (l : List Command) → mid.count + length l ≡ start.count + length (put ++ l)
    count_is l = let n : mid.count ≡ start.count + length put = so_far.count in omega (arith, n, length-append put l)

    from_start : (l : List Command) (file : List ℕ) → MeansAll mid l file → MeansPut start (put ++ l) file
    from_start l file means = subst (λ (m : Contents). Means m (start.count + length (put ++ l)) 0 file) (memory_is l)
        (subst (λ (n : ℕ). Means (after mid.memory l) n 0 file) (count_is l) means)

    -- within the call: what was put before, or all of it
    whole : (file : List ℕ) → MeansWithOrWithout mid [] both file
        → MeansPut start put file ⊎ MeansPut start (put ++ both) file
    whole file means = ⊎_elim
        (λ old. inl (subst (λ (l : List Command). MeansPut start l file) (append-nil put) (from_start [] file old)))
        (λ all. inr (from_start both file all))
        means

    since : disk.honest new.disk
        → LeavesWithin disk.now disk.past start.disk new.disk (MeansPrefix start (put ++ both))
    since h = leaves_then (disk.now start.disk) (disk.now mid.disk) (disk.now new.disk)
        (disk.past start.disk) (disk.past mid.disk) (disk.past new.disk)
        (MeansPrefix start (put ++ doubt)) (MeansWithOrWithout mid [] both) (MeansPrefix start (put ++ both))
        (so_far.leaves (it.honest h)).since (it.since h)
        (λ file means. beginning start put both file
        (subst (λ (l : List Command). MeansPrefix start l file) put_is means))
        (λ file means. ⊎_elim
        (λ old. beginning start put both file (all_begins start put file old))
        (λ all. all_begins start (put ++ both) file all)
        (whole file means))

    kept_put : Next
    kept_put = record {
      in_turn = subst (Accepted start.memory) (sym all_is) (accepted-append start.memory put both
          ∙ ap₂ (λ (a b : List Command). a ++ b) (subst (Accepted start.memory) put_is so_far.in_turn)
          (subst (λ (m : Contents). Accepted m both) so_far.memory it.in_turn));
      memory = it.memory ∙ memory_is sure;
      count = it.count ∙ count_is sure;
      sure = λ f. ap₂ (λ (a b : List Command). a ++ b) none (it.undoubted f);
      rose = λ dead. subst (λ (n : ℕ). Rises n (disk.failures new.disk)) (so_far.stayed it.works) (it.rose dead);
      stayed = λ f. it.stayed f ∙ so_far.stayed it.works;
      honest = λ h. so_far.honest (it.honest h);
      leaves = λ h. record {
        found = (so_far.leaves (it.honest h)).found;
        since = subst (λ (l : List Command). LeavesWithin disk.now disk.past start.disk new.disk (MeansPrefix start l))
            (sym all_is) (since h);
        now = λ file left. ⊎_elim
            (λ without. inl (from_start sure file without))
            (λ all. inr (subst (λ (l : List Command). MeansPut start l file) (sym all_is) (from_start both file all)))
            (it.now h file left);
      };
    }

    from_put : (file : List ℕ) → MeansWithOrWithout mid [] both file → MeansFrom start (put ++ both) (length put) file
    from_put file means = ⊎_elim
        (λ old. from_all start put both (length put) file (omega arith) old)
        (λ all. subst (λ (l : List Command). MeansFrom start l (length put) file) (append-nil (put ++ both))
        (from_all start (put ++ both) [] (length put) file (omega (arith, length-append put both)) all))
        (whole file means)

    whole_put : Whole
    whole_put = λ h. leaves_weaker (disk.now mid.disk) (disk.now new.disk) (disk.past mid.disk) (disk.past new.disk)
        (MeansWithOrWithout mid [] both)
        (λ (file : List ℕ). MeansPut start (put ++ doubt) file ⊎ MeansPut start ((put ++ sure) ++ (doubt ++ more)) file)
        (it.since h)
        (λ file means. ⊎_elim
        (λ old. inl (subst (λ (l : List Command). MeansPut start l file) (sym put_is) old))
        (λ all. inr (subst (λ (l : List Command). MeansPut start l file) (sym all_is) all))
        (whole file means))

    keeps_put : Keeps
    keeps_put = record {
      start = refl;
      more = both;
      put = all_is ∙ ap (λ (l : List Command). l ++ both) (sym put_is);
      honest = it.honest;
      leaves = λ h. subst (λ (l : List Command). LeavesWithin disk.now disk.past mid.disk new.disk
          (MeansFrom start l (length put))) (sym all_is)
          (leaves_weaker (disk.now mid.disk) (disk.now new.disk) (disk.past mid.disk) (disk.past new.disk)
          (MeansWithOrWithout mid [] both) (MeansFrom start (put ++ both) (length put)) (it.since h) from_put);
    }

  pub kept_on : GoesOn disk mid new sure more → Next
  kept_on it = ⊎_elim kept_same kept_put it

  pub keeps_on : GoesOn disk mid new sure more → Keeps
  keeps_on it = ⊎_elim keeps_same keeps_put it

  pub whole_on : GoesOn disk mid new sure more → Whole
  whole_on it = ⊎_elim whole_same whole_put it

-- the same of a call that puts nothing
still : (put doubt : List Command) (P : List Command → List Command → Type 0) → P (put ++ []) (doubt ++ [])
    → P put doubt
still put doubt P it = subst (λ (l : List Command). P l doubt) (append-nil put)
    (subst (λ (l : List Command). P (put ++ []) l) (append-nil doubt) it)

module _ {D : Type 0} (disk : Ghosts D) (start : SessionStart D) (put doubt : List Command) (mid new : EngineState D)
    (so_far : Kept disk (session_of start put doubt mid)) (it : GoesOn disk mid new [] []) where
  pub kept_still : Kept disk (session_of start put doubt new)
  kept_still = still put doubt (λ (p d : List Command). Kept disk (session_of start p d new))
      (kept_on disk start put doubt mid new so_far [] [] it)

  pub keeps_still : KeepsPut disk (session_of start put doubt mid) (session_of start put doubt new)
  keeps_still = still put doubt
      (λ (p d : List Command). KeepsPut disk (session_of start put doubt mid) (session_of start p d new))
      (keeps_on disk start put doubt mid new so_far [] [] it)

  pub whole_still : LeavesWhole disk (session_of start put doubt mid) (session_of start put doubt new)
  whole_still = still put doubt
      (λ (p d : List Command). LeavesWhole disk (session_of start put doubt mid) (session_of start p d new))
      (whole_on disk start put doubt mid new so_far [] [] it)

-- ---- a session that begins

pub kept_begun : {D : Type 0} (disk : Ghosts D) (old : D) (engine : EngineState D) → CanBegin disk old engine
    → LeavesState disk engine → Kept disk (session_of (start_at old engine) [] [] engine)
kept_begun {D} disk old engine it means =
    let start : SessionStart D = start_at old engine in
    let all : (file : List ℕ) → MeansState engine file → MeansPut start [] file = λ file image.
    all_of engine [] engine.memory engine.count engine.room file refl (omega arith) image in
    record {
      in_turn = refl;
      memory = refl;
      count = omega arith;
      sure = λ f. refl;
      rose = λ dead. absurd (true_false (sym dead ∙ it.works));
      stayed = λ f. it.failures;
      honest = it.honest;
      leaves = λ h. let is = means h it.works in let now : Moment = disk.now engine.disk in record {
        found = (
          now.bytes,
          ⊎_elim (λ left. left) (λ left. left) (leaves_now (disk.now old) now (disk.past old) (disk.past engine.disk)
              (Left (disk.now old)) (it.leaves h) now.bytes (left_now now)),
          let here = is now.bytes (left_now now) in (here.0, omega arith, here.2),
        );
        since = record {
          later = (it.leaves h).later;
          each = λ t c low left. ⊎_elim (λ before. inl before) (λ here. inl (inl (low, here)))
              ((it.leaves h).each t c low left);
        };
        now = λ file left. inl (all file (is file left));
      };
    }
