-- A run of a script that goes on from what a stopped run left is, with it, one run. (Own.)
use Rattle.std.proofs.Common.{◌≡◌, ℕ, zero, suc, ◌+◌, ◌-◌, ◌≤◌, Bool, true, false, cond, ◌&&◌, ◌⊎◌, List, [], ◌∷◌, ◌++◌}
use Rattle.std.proofs.Common.{length, take, replicate, if◌then◌else◌, slice_get, Some, None, Ok, Err, Option, Result}
use Rattle.std.proofs.Common.{option_map, option_and_then, sym, refl, ap, ◌∙◌, subst, ap₂, inl, inr, ⊎_elim}
use Rattle.std.proofs.Common.{append_assoc, append-nil, arith}
use Rattle.std.{proofs.lemmas.Bool.cases_eq, specs.Option.option_map_or}
use Rattle.im_types.specs.Types.{Entry, Op, Waiter, Kept, Answered, Base, Request, Command, Outcome, Judged, Asks}
use Rattle.im_types.specs.Types.{Confirm, Tells, Fresh, Refusal, Limits, Held, Window, Contents, new_window, kept_for}
use Rattle.im_types.specs.Types.{empty_contents, IsMemory, allocate, act, next_number, judge, note, answer_each}
use Rattle.im_types.specs.Types.{bounds_of, bounds, asker, step_request, step, is_accepted, after, accept_each}
use Rattle.im_laws.proofs.AcceptLemmas.{accepted-fresh, accepted-moves_base, accepted-takes_next}
use Rattle.im_laws.proofs.{AgreementLemmas.same_waiter-self, JudgeLemmas.confirm-cells, RunLemmas.after-append}
use Rattle.im_laws.proofs.{StepLemmas.judge-fresh, Tests.some_none, Tests.some_same, WindowLemmas.kept_for-note}
use Rattle.im_laws.proofs.MemoryLemmas.{after-memory, bounds-window, empty-memory}
use Rattle.{im_laws.specs.Windows.TakesNextNumber, im_engine.proofs.Keeping.accept_both}
use Rattle.im_script.specs.{declared.Action.Action, Places.action_op}
use Rattle.im_serial.proofs.AskedLemmas.{stands_asked, stands_confirmed, stands_first}
use Rattle.im_serial.proofs.LeftLemmas.{AreLeft, bases_left, count_more, count_same, end-append, end_of, first_had}
use Rattle.im_serial.proofs.LeftLemmas.{had_at, news_left, others_left, sums-append}
use Rattle.im_serial.proofs.SetupLemmas.{allocated, allocated_alone, ArePacked, AreUnnamed, free_all, HasSetup, IsBlock}
use Rattle.im_serial.specs.Asked.{base_told, bases_after, bases_by, HasReached, IsAsked, Leads, request_in, standing}
use Rattle.im_serial.specs.Asked.{Wanted, whole_course}
use Rattle.im_serial.specs.Begun.{HasComeTo, HasGoneOn, new_memory}
use Rattle.im_serial.specs.Had.{bases_had, end_with, left_of, length_asked, met, news, next_had, numbers_had, sums_of}
use Rattle.im_serial.specs.Once.{AreMade, HasMade, IsAskedOnce, IsMade, met_of}
use Rattle.im_types.specs.declared.operations.Op.TheVariants as op
use Rattle.im_serial.specs.declared.meeting.Met.TheVariants as met_as

-- ---- lists of accepted commands

pub accepted_next : (m : Contents) (c : Command) (put : List Command) (n : Contents)
    → accept_each m (c ∷ put) ≡ Some n → (is_accepted m c ≡ true) × (accept_each (step m c).contents put ≡ Some n)
accepted_next m c put n e = by_test (is_accepted m c) refl e
  where
    by_test : (b : Bool) → is_accepted m c ≡ b → (if b then accept_each (step m c).contents put else None) ≡ Some n
        → (is_accepted m c ≡ true) × (accept_each (step m c).contents put ≡ Some n)
    by_test true is e = (is, e)
    by_test false is e = absurd (cc)

pub accepted_after : (m : Contents) (put : List Command) (n : Contents) → accept_each m put ≡ Some n → n ≡ after m put
accepted_after m [] n e = sym (some_same m n e)
accepted_after m (c ∷ put) n e = accepted_after (step m c).contents put n (accepted_next m c put n e).1

pub accepted_first : (m : Contents) (put : List Command) (n : Contents) (many : ℕ) → accept_each m put ≡ Some n
    → accept_each m (take many put) ≡ Some (after m (take many put))
accepted_first m [] n zero e = refl
accepted_first m [] n (suc many) e = refl
accepted_first m (c ∷ put) n zero e = refl
accepted_first m (c ∷ put) n (suc many) e =
    let it = accepted_next m c put n e in
    ap (λ (b : Bool). if b then accept_each (step m c).contents (take many put) else None) it.0
    ∙ accepted_first (step m c).contents put n many it.1

-- a prefix of what leads
pub leads_first : (m : Contents) (bases : List ℕ) (wanted : List Wanted) (put : List Command) (left : List Wanted)
    (many : ℕ) → Leads m bases wanted put left → (last : List Wanted) × Leads m bases wanted (take many put) last
leads_first m bases wanted [] left zero it = (left, it)
leads_first m bases wanted [] left (suc many) it = (left, it)
leads_first m bases wanted (c ∷ put) left zero it = (wanted, refl)
leads_first m bases wanted (Confirm element upto ∷ put) left (suc many) it = leads_first (step m (Confirm element
    upto)).contents bases wanted put left many it
leads_first m bases [] (Asks r ∷ put) left (suc many) it = absurd it
leads_first m bases (w ∷ wanted) (Asks r ∷ put) left (suc many) (is, inl (more, (made, leads))) =
    let further = leads_first (step m (Asks r)).contents (bases ++ more) wanted put left many leads in
    (further.0, (is, inl (more, (made, further.1))))
leads_first m bases (w ∷ wanted) (Asks r ∷ put) left (suc many) (is, inr (none, (nothing, last))) =
    (w ∷ wanted, (is, inr (none, (ap (take many) nothing ∙ take_none many, refl))))
  where
    take_none : (many : ℕ) → let none : List Command = [] in take many none ≡ none
    take_none zero = refl
    take_none (suc many) = refl

-- ---- how many requests a memory has

abbrev pub had_by : Result (ℕ × ℕ) Refusal → ℕ
had_by (Ok ends) = ends.1 - 1
had_by (Err refusal) = 0

pub had_bounds : (m : Contents) (e : ℕ) → left_of (numbers_had m) e ≡ had_by (bounds m.windows e)
had_bounds m e = had_at m.windows e ∙ by_window (slice_get m.windows e)
  where
    by_window : (o : Option Window) → option_map_or (λ (w : Window). next_number w - 1) o 0 ≡ had_by (bounds_of o)
    by_window None = refl
    by_window (Some w) = refl

pub next_bounds : (m : Contents) (e base next : ℕ) → bounds m.windows e ≡ Ok (base, next) → next_had m e ≡ next
next_bounds m e base next is = by_window (slice_get m.windows e) is
  where
    next_by : Result (ℕ × ℕ) Refusal → ℕ
    next_by (Ok ends) = ends.1
    next_by (Err refusal) = 0

    by_window : (o : Option Window) → bounds_of o ≡ Ok (base, next) → option_map_or next_number o 0 ≡ next
    by_window None is = absurd (cc)
    by_window (Some w) is = ap next_by is

-- a confirmation leaves it
pub had_confirmed : (m : Contents) (element upto e : ℕ) → is_accepted m (Confirm element upto) ≡ true
    → left_of (numbers_had (step m (Confirm element upto)).contents) e ≡ left_of (numbers_had m) e
had_confirmed m element upto e accepted =
    let it = accepted-moves_base m element upto accepted in
    let now = (step m (Confirm element upto)).contents in
    had_bounds now e ∙ ⊎_elim
    (λ (same : e ≡ element). ap (λ (x : ℕ). had_by (bounds now.windows x)) same ∙ ap had_by it.after
    ∙ sym (ap had_by it.before) ∙ sym (ap (λ (x : ℕ). had_by (bounds m.windows x)) same))
    (λ other. ap had_by (it.others e other))
    (cases_eq e element)
    ∙ sym (had_bounds m e)

module _ (cells elements : ℕ) (m : Contents) (is : IsMemory cells elements m) (r : Request) (accepted : is_accepted m
    (Asks r) ≡ true) where
  takes : TakesNextNumber m r
  takes = accepted-takes_next m r accepted

  -- a number is above 0
  number_some : 1 ≤ r.number
  number_some =
      let w = bounds-window m.windows r.element takes.base r.number takes.before in
      let one = (is.windows r.element w.window w.there).from_one in
      let next = w.next_is in
      omega arith

  -- a request is one more of its element's
  pub had_here : (e : ℕ) → e ≡ r.element → left_of (numbers_had (step m (Asks r)).contents) e
      ≡ left_of (numbers_had m) e + 1
  had_here e same =
      let now = (step m (Asks r)).contents in
      let before : left_of (numbers_had m) e ≡ r.number - 1 = had_bounds m e ∙ ap (λ (x : ℕ). had_by (bounds m.windows
      x)) same ∙ ap had_by takes.before in
      let later : left_of (numbers_had now) e ≡ (r.number + 1) - 1 = had_bounds now e ∙ ap (λ (x : ℕ). had_by (bounds
      now.windows x)) same ∙ ap had_by takes.after in
      let some = number_some in
      omega arith

  pub had_there : (e : ℕ) → (e ≡ r.element → ⊥) → left_of (numbers_had (step m (Asks r)).contents) e
      ≡ left_of (numbers_had m) e
  had_there e other = had_bounds (step m (Asks r)).contents e ∙ ap had_by (takes.others e other) ∙ sym (had_bounds m e)

  fresh : judge m.windows r ≡ Ok Fresh
  fresh = accepted-fresh m r accepted

  -- a block
  module _ (kind : _) (n : ℕ) (block : r.op ≡ op.Alloc kind n) where
    acts : act m.cells (asker r) r.op ≡ allocate m.cells kind n
    acts = ap (act m.cells (asker r)) block

    pub answers : (step m (Asks r)).answer ≡ Ok (Tells (allocate m.cells kind n).entry)
    answers = ap (λ (j : Result Judged Refusal). (step_request m r j).answer) fresh
        ∙ ap (λ a. Ok (Tells a.entry)) acts

    pub cells_then : (step m (Asks r)).contents.cells ≡ (allocate m.cells kind n).cells
    cells_then = ap (λ (j : Result Judged Refusal). (step_request m r j).contents.cells) fresh ∙ ap (λ a. a.cells) acts

    -- its entry is kept
    block_kept : kept_for (step m (Asks r)).contents.windows (asker r) ≡ Some (record {
      op = r.op;
      entry = (allocate m.cells kind n).entry;
    })
    block_kept =
        let next = judge-fresh m.windows r fresh in
        ap (λ (j : Result Judged Refusal). kept_for (step_request m r j).contents.windows (asker r)) fresh
        ∙ ap (λ a. kept_for (answer_each (note m.windows r a.entry) a.resumed) (asker r)) acts
        ∙ ap (λ l. kept_for (answer_each (note m.windows r (allocate m.cells kind
        n).entry) l) (asker r)) (allocated_alone m.cells kind n)
        ∙ kept_for-note m.windows r (allocate m.cells kind n).entry next.window (asker r) next.there next.next
        ∙ ap (λ (b : Bool). cond b (Some (record { op = r.op; entry = (allocate m.cells kind n).entry })) (kept_for
        m.windows (asker r))) (same_waiter-self (asker r))

-- ---- where a script stands from a new image on

-- These commands were put from a new image on, for these requests of the script, and the others are left.
pub record Stands (limits : Limits) (script : List Wanted) (put : List Command) (done left : List Wanted) : Type 0 where
  pub split : script ≡ done ++ left
  pub counts : AreLeft (numbers_had (after (new_memory limits) put)) done
  pub setup : (ArePacked (end_of 0 done) (after (new_memory limits) put).cells × HasSetup left) ⊎ AreUnnamed left
  pub reached : HasReached (new_memory limits) (standing (Some (whole_course script)) (sums_of 0 done) left) put

-- A block of the setup wasn't made: its request is the last one.
abbrev pub IsStuck : Limits → List Wanted → List Command → Type 0
IsStuck limits script put = (HasMade (after (new_memory limits) put) script → ⊥)
    × ((last : List Wanted) × Leads (new_memory limits) [] script put last)

pub nothing_had : (elements e : ℕ) → let new : List Window = replicate elements new_window in
    option_map_or (λ (w : Window). next_number w - 1) (slice_get new e) 0 ≡ 0
nothing_had zero e = refl
nothing_had (suc n) zero = refl
nothing_had (suc n) (suc e) = nothing_had n e

pub stands_new : (limits : Limits) (script : List Wanted) → HasSetup script → Stands limits script [] [] script
unfolding empty_contents
stands_new limits script setup = record {
  split = refl;
  counts = λ e. had_at (new_memory limits).windows e ∙ nothing_had limits.elements e;
  setup = inl (free_all Held limits.cells, setup);
  reached = stands_first (new_memory limits) (whole_course script);
}

pub is_memory : (limits : Limits) (put : List Command)
    → IsMemory limits.cells limits.elements (after (new_memory limits) put)
is_memory limits put = after-memory limits.cells limits.elements (new_memory limits) put (empty-memory limits.cells
    limits.elements)

-- ---- one request

module _ (m : Contents) (bases : List ℕ) (w : Wanted) (r : Request) (is : request_in m bases w ≡ Some r) where
  pub asked_by : (w.element ≡ r.element) × (action_op bases w.action ≡ Some r.op)
  asked_by = by_both (slice_get m.windows w.element) (action_op bases w.action) is
    where
      by_both : (n : Option Window) (o : Option Op) → option_and_then (λ window. option_map (λ op. record {
        element = w.element;
        number = next_number window;
        op = op;
      }) o) n ≡ Some r → (w.element ≡ r.element) × (o ≡ Some r.op)
      by_both None o e = absurd (cc)
      by_both (Some n) None e = absurd (cc)
      by_both (Some n) (Some op) e =
          let same = some_same (record { element = w.element; number = next_number n; op = op }) r e in
          (ap (λ (q : Request). q.element) same, ap (λ (q : Request). Some q.op) same)

  pub block_asked : (b : IsBlock w) → r.op ≡ op.Alloc b.kind b.length
  block_asked b = some_same r.op (op.Alloc b.kind b.length) (sym asked_by.1 ∙ ap (action_op bases) b.action)

named_end : (end : ℕ) (w : Wanted) → w.named ≡ true → end_with end w ≡ end + length_asked w.action
named_end end w named = ap (λ (b : Bool). if b then end + length_asked w.action else end) named

module _ (limits : Limits) (script : List Wanted) (put : List Command) (done left : List Wanted) where
  -- a confirmation more
  stands_more : (element upto : ℕ) → Stands limits script put done left
      → is_accepted (after (new_memory limits) put) (Confirm element upto) ≡ true
      → Stands limits script (put ++ Confirm element upto ∷ []) done left
  stands_more element upto it accepted =
      let m = after (new_memory limits) put in
      let now = after-append (new_memory limits) put (Confirm element upto ∷ []) in
      record {
        split = it.split;
        counts = λ e. ap (λ (n : Contents). left_of (numbers_had n) e) now ∙ had_confirmed m element upto e accepted
            ∙ it.counts e;
        setup = ⊎_elim (λ h. inl (
          subst (ArePacked (end_of 0 done)) (sym (ap (λ (n : Contents). n.cells) now ∙ confirm-cells m element upto))
              h.0,
          h.1,
        )) (λ h. inr h) it.setup;
        reached = stands_confirmed (new_memory limits) (standing (Some (whole_course script)) (sums_of 0 done) left) put
            element upto it.reached;
      }

module _ (limits : Limits) (script : List Wanted) (put : List Command) (done left : List Wanted) (w : Wanted) (r :
    Request) (it : Stands limits script put done (w ∷ left))
    (accepted : is_accepted (after (new_memory limits) put) (Asks r) ≡ true)
    (is : request_in (after (new_memory limits) put) (sums_of 0 done) w ≡ Some r) where
  m : Contents
  m = after (new_memory limits) put

  abbrev then_put : List Command
  then_put = put ++ Asks r ∷ []

  now_is : after (new_memory limits) then_put ≡ (step (after (new_memory limits) put) (Asks r)).contents
  now_is = after-append (new_memory limits) put (Asks r ∷ [])

  asker_is : w.element ≡ r.element
  asker_is = (asked_by (after (new_memory limits) put) (sums_of 0 done) w r is).0

  -- one more of its element's was put
  counts_then : AreLeft (numbers_had (after (new_memory limits) then_put)) (done ++ w ∷ [])
  counts_then e = ap (λ (n : Contents). left_of (numbers_had n) e) now_is ∙ ⊎_elim
      (λ (same : e ≡ r.element). had_here limits.cells limits.elements (after (new_memory limits) put) (is_memory limits
      put) r accepted e same ∙ ap (λ (n : ℕ). n + 1) (it.counts e) ∙ sym (count_more e done w (same ∙ sym asker_is)))
      (λ other. had_there limits.cells limits.elements (after (new_memory limits) put) (is_memory limits put) r accepted
      e other ∙ it.counts e ∙ sym (count_same e done w (λ same. other (same ∙ asker_is))))
      (cases_eq e r.element)

  split_then : script ≡ (done ++ w ∷ []) ++ left
  split_then = it.split ∙ sym (append_assoc done (w ∷ []) left)

  -- it was answered, and the script goes on
  reached_then : (more : List ℕ) → bases_by w (step (after (new_memory limits) put) (Asks r)).answer ≡ Some more
      → more ≡ sums_of (end_of 0 done) (w ∷ [])
      → HasReached (new_memory limits) (standing (Some (whole_course script)) (sums_of 0 (done ++ w ∷ [])) left)
      then_put
  reached_then more made same = subst (λ (b : List ℕ). HasReached (new_memory limits) (standing (Some (whole_course
      script)) b left) then_put) (ap (λ (l : List ℕ). sums_of 0 done ++ l) same ∙ sym (sums-append 0 done (w ∷ [])))
      (stands_asked (new_memory limits) (Some (whole_course script)) (sums_of 0 done) more w left put r it.reached is
      made)

  module _ (more : List ℕ) (made : bases_by w (step (after (new_memory limits) put) (Asks r)).answer ≡ Some more) where
    -- it makes no block of the setup
    added_plain : w.named ≡ false → more ≡ sums_of (end_of 0 done) (w ∷ [])
    added_plain plain =
        let none : [] ≡ more = some_same [] more (sym (ap (λ (b : Bool). if b then base_told (step (after (new_memory
        limits) put) (Asks r)).answer else Some []) plain) ∙ made) in
        sym none ∙ sym (ap (λ (b : Bool). (if b then end_of 0 done ∷ [] else []) ++ []) plain)

    stands_plain : w.named ≡ false → AreUnnamed left → Stands limits script then_put (done ++ w ∷ []) left
    stands_plain plain others = record {
      split = split_then;
      counts = counts_then;
      setup = inr others;
      reached = reached_then more made (added_plain plain);
    }

    -- it makes one
    module _ (b : IsBlock w) (packed : ArePacked (end_of 0 done) (after (new_memory limits) put).cells) where
      block_is : r.op ≡ op.Alloc b.kind b.length
      block_is = block_asked (after (new_memory limits) put) (sums_of 0 done) w r is b

      block_told : base_told (Ok (Tells (allocate (after (new_memory limits) put).cells b.kind b.length).entry))
          ≡ Some more
      block_told =
          let before = after (new_memory limits) put in
          sym (ap (λ (a : Result Outcome Refusal). base_told a) (answers limits.cells limits.elements before (is_memory
          limits put) r accepted b.kind b.length block_is)) ∙ sym (ap (λ (t : Bool). if t then base_told (step before
          (Asks r)).answer else Some []) b.named) ∙ made

      added_block : more ≡ sums_of (end_of 0 done) (w ∷ [])
      added_block = (allocated (after (new_memory limits) put).cells b.kind b.length (end_of 0 done) more packed
          block_told).0 ∙ sym (ap (λ (t : Bool). (if t then end_of 0 done ∷ [] else []) ++ []) b.named)

      stands_block : HasSetup left → Stands limits script then_put (done ++ w ∷ []) left
      stands_block others =
          let before = after (new_memory limits) put in
          let all = allocated before.cells b.kind b.length (end_of 0 done) more packed block_told in
          let ends : end_of 0 done + b.length ≡ end_of 0 (done ++ w ∷ []) = sym (end-append 0 done (w ∷ [])
          ∙ named_end (end_of 0 done) w b.named
          ∙ ap (λ (a : Action). end_of 0 done + length_asked a) b.action) in
          record {
            split = split_then;
            counts = counts_then;
            setup = inl (
              subst (λ (n : ℕ). ArePacked n (after (new_memory limits) then_put).cells) ends
                  (subst (λ (c : List (Option Held)). ArePacked (end_of 0 done + b.length) c) (sym (ap (λ (n :
                  Contents). n.cells) now_is ∙ cells_then limits.cells limits.elements before (is_memory limits put) r
                  accepted b.kind b.length block_is)) all.1),
              others,
            );
            reached = reached_then more made added_block;
          }

    stands_then : Stands limits script then_put (done ++ w ∷ []) left
    stands_then = ⊎_elim
        (λ h. ⊎_elim (λ b. stands_block b.0 h.0 b.1) (λ plain. stands_plain plain.0 plain.1) h.1)
        (λ plain. stands_plain plain.0 plain.1)
        it.setup

    bases_then : sums_of 0 done ++ more ≡ sums_of 0 (done ++ w ∷ [])
    bases_then = ap (λ (l : List ℕ). sums_of 0 done ++ l) (⊎_elim
        (λ h. ⊎_elim (λ b. added_block b.0 h.0) (λ plain. added_plain plain.0) h.1)
        (λ plain. added_plain plain.0)
        it.setup)
        ∙ sym (sums-append 0 done (w ∷ []))

-- ---- a block that wasn't made

-- what is said of the block of a request whose turn it is
made_there : (m : Contents) (many : List ℕ) (done left : List Wanted) (w : Wanted) → AreLeft many (done ++ w ∷ [])
    → AreMade m many (done ++ w ∷ left) → w.named ≡ true
    → IsMade (met_of m (record { element = w.element; number = next_had m w.element - 1 }))
made_there m many [] left w are made named =
    let has = first_had many w [] are in
    let one : left_of many w.element ≡ 1 = are w.element ∙ count_more w.element [] w refl in
    subst (λ (n : ℕ). IsMade (met_of m (record { element = w.element; number = next_had m w.element - n })))
    one (made.0 (ap (λ (b : Bool). b && w.named) has ∙ named))
made_there m many (v ∷ done) left w are made named = made_there m (met many v.element) done left w (others_left many v
    (done ++ w ∷ []) are) made.1 named

no_base : (k : Entry) → base_told (Ok (Tells k)) ≡ None → (base : ℕ) → k ≡ Answered (Base base) → ⊥
no_base k none base is = absurd (some_none (base ∷ []) (sym (ap (λ (e : Entry). base_told (Ok (Tells e))) is) ∙ none))

module _ (limits : Limits) (script : List Wanted) (put : List Command) (done left : List Wanted) (w : Wanted) (r :
    Request) (it : Stands limits script put done (w ∷ left))
    (accepted : is_accepted (after (new_memory limits) put) (Asks r) ≡ true)
    (is : request_in (after (new_memory limits) put) (sums_of 0 done) w ≡ Some r)
    (none : bases_by w (step (after (new_memory limits) put) (Asks r)).answer ≡ None) where
  not_unnamed : w.named ≡ false → ⊥
  not_unnamed plain = some_none [] (sym (ap (λ (b : Bool). if b then base_told (step (after (new_memory limits) put)
      (Asks
      r)).answer else Some []) plain) ∙ none)

  not_made : IsBlock w → HasMade (after (new_memory limits) (put ++ Asks r ∷ [])) script → ⊥
  not_made b made =
      let before = after (new_memory limits) put in
      let memory = is_memory limits put in
      let now = after (new_memory limits) (put ++ Asks r ∷ []) in
      let block = block_asked before (sums_of 0 done) w r is b in
      let kept = block_kept limits.cells limits.elements before memory r accepted b.kind b.length block in
      let same = now_is limits script put done left w r it accepted is in
      let elements = asker_is limits script put done left w r it accepted is in
      let told : base_told (Ok (Tells (allocate before.cells b.kind b.length).entry)) ≡ None = sym (ap (λ (a : Result
      Outcome Refusal). base_told a) (answers limits.cells limits.elements before memory r accepted b.kind b.length
      block)) ∙ sym (ap (λ (t : Bool). if t then base_told (step before (Asks r)).answer else Some []) b.named)
      ∙ none in
      let there = made_there now (numbers_had now) done left w (counts_then limits script put done left w r it accepted
      is) (subst (λ (l : List Wanted). AreMade now (numbers_had now) l) it.split made) b.named in
      let next : next_had now w.element ≡ r.number + 1 = ap (λ (n : Contents). next_had n w.element) same ∙ ap (next_had
      (step before (Asks r)).contents) elements ∙ next_bounds (step before (Asks r)).contents r.element _ (r.number +
      1) (takes limits.cells limits.elements before memory r accepted).after in
      let number : next_had now w.element - 1 ≡ r.number = omega arith in
      let who : ◌≡◌ {A = Waiter} (record { element = w.element; number = next_had now w.element - 1 }) (asker r) = ap₂
      (λ (e n : ℕ). record { element = e; number = n }) elements number in
      let found : kept_for now.windows (record { element = w.element; number = next_had now w.element - 1 }) ≡ Some
      (record { op = r.op; entry = (allocate before.cells b.kind b.length).entry }) = ap (kept_for now.windows) who
      ∙ ap (λ (n : Contents). kept_for n.windows (asker r)) same ∙ kept in
      let base = subst IsMade (ap (λ (o : Option Kept). option_map_or (λ (k : Kept). met_as.Kept k.entry) o met_as.Done)
      found) there in
      no_base (allocate before.cells b.kind b.length).entry told base.0 base.1

  stuck_then : IsStuck limits script (put ++ Asks r ∷ [])
  stuck_then = (
    ⊎_elim
        (λ h. ⊎_elim (λ b. not_made b.0) (λ plain. absurd (not_unnamed plain.0)) h.1)
        (λ plain. absurd (not_unnamed plain.0))
        it.setup,
    (w ∷ left, it.reached (Asks r ∷ []) (w ∷ left) (is, inr (none, (refl, refl)))),
  )

-- ---- all that was put

-- where the script stands after commands that were put from a new image on, or it is stuck
abbrev pub Comes : Limits → List Wanted → List Command → Type 0
Comes limits script put = ((done : List Wanted) × ((left : List Wanted) × Stands limits script put done left))
    ⊎ IsStuck limits script put

pub comes : (limits : Limits) (script : List Wanted) (put : List Command) (earlier : List Command)
    (done left last : List Wanted) (n : Contents) → Stands limits script earlier done left
    → Leads (after (new_memory limits) earlier) (sums_of 0 done) left put last
    → accept_each (after (new_memory limits) earlier) put ≡ Some n → Comes limits script (earlier ++ put)
comes limits script [] earlier done left last n it leads accepted = subst (Comes limits script) (sym (append-nil
    earlier)) (inl (done, (left, it)))
comes limits script (Confirm element upto ∷ put) earlier done left last n it leads accepted =
    let m = after (new_memory limits) earlier in
    let one = accepted_next m (Confirm element upto) put n accepted in
    let now = after-append (new_memory limits) earlier (Confirm element upto ∷ []) in
    subst (Comes limits script) (append_assoc earlier (Confirm element upto ∷ []) put)
    (comes limits script put (earlier ++ Confirm element upto ∷ []) done left last n
    (stands_more limits script earlier done left element upto it one.0)
    (subst (λ (x : Contents). Leads x (sums_of 0 done) left put last) (sym now) leads)
    (subst (λ (x : Contents). accept_each x put ≡ Some n) (sym now) one.1))
comes limits script (Asks r ∷ put) earlier done [] last n it leads accepted = absurd leads
comes limits script (Asks r ∷ put) earlier done (w ∷ left) last n it (is, inl (more, (made, leads))) accepted =
    let m = after (new_memory limits) earlier in
    let one = accepted_next m (Asks r) put n accepted in
    let now = after-append (new_memory limits) earlier (Asks r ∷ []) in
    let stands = stands_then limits script earlier done left w r it one.0 is more made in
    let bases : sums_of 0 done ++ more ≡ sums_of 0 (done ++ w ∷ []) = bases_then limits script earlier done left w r it
    one.0 is more made in
    subst (Comes limits script) (append_assoc earlier (Asks r ∷ []) put)
    (comes limits script put (earlier ++ Asks r ∷ []) (done ++ w ∷ []) left last n stands
    (subst (λ (x : Contents). Leads x (sums_of 0 (done ++ w ∷ [])) left put last) (sym now)
    (subst (λ (b : List ℕ). Leads (step m (Asks r)).contents b left put last) bases leads))
    (subst (λ (x : Contents). accept_each x put ≡ Some n) (sym now) one.1))
comes limits script (Asks r ∷ put) earlier done (w ∷ left) last n it (is, inr (none, (nothing, same))) accepted =
    let m = after (new_memory limits) earlier in
    let one = accepted_next m (Asks r) put n accepted in
    subst (λ (l : List Command). Comes limits script (earlier ++ Asks r ∷ l)) (sym nothing)
    (inr (stuck_then limits script earlier done left w r it one.0 is none))

-- if all of them were put, the names stand for the bases of all blocks
pub none_left : (w : Wanted) (left : List Wanted) → ◌≡◌ {A = List Wanted} [] (w ∷ left) → ⊥
none_left w left e = cc

pub names_all : (limits : Limits) (script : List Wanted) (put : List Command) (earlier : List Command) (done left : List
    Wanted) (n : Contents) → Stands limits script earlier done left
    → Leads (after (new_memory limits) earlier) (sums_of 0 done) left put []
    → accept_each (after (new_memory limits) earlier) put ≡ Some n
    → bases_after (after (new_memory limits) earlier) (sums_of 0 done) left put ≡ sums_of 0 (done ++ left)
names_all limits script [] earlier done left n it leads accepted =
    ap (sums_of 0) (sym (append-nil done) ∙ ap (λ (l : List Wanted). done ++ l) (sym leads))
names_all limits script (Confirm element upto ∷ put) earlier done left n it leads accepted =
    let m = after (new_memory limits) earlier in
    let one = accepted_next m (Confirm element upto) put n accepted in
    let now = after-append (new_memory limits) earlier (Confirm element upto ∷ []) in
    ap (λ (x : Contents). bases_after x (sums_of 0 done) left put) (sym now)
    ∙ names_all limits script put (earlier ++ Confirm element upto ∷ []) done left n
    (stands_more limits script earlier done left element upto it one.0)
    (subst (λ (x : Contents). Leads x (sums_of 0 done) left put []) (sym now) leads)
    (subst (λ (x : Contents). accept_each x put ≡ Some n) (sym now) one.1)
names_all limits script (Asks r ∷ put) earlier done [] n it leads accepted = absurd leads
names_all limits script (Asks r ∷ put) earlier done (w ∷ left) n it (is, inl (more, (made, leads))) accepted =
    let m = after (new_memory limits) earlier in
    let one = accepted_next m (Asks r) put n accepted in
    let now = after-append (new_memory limits) earlier (Asks r ∷ []) in
    let stands = stands_then limits script earlier done left w r it one.0 is more made in
    let bases : sums_of 0 done ++ more ≡ sums_of 0 (done ++ w ∷ []) = bases_then limits script earlier done left w r it
    one.0 is more made in
    ap (λ (o : Option (List ℕ)). bases_after (step m (Asks r)).contents
    (sums_of 0 done ++ option_map_or (λ (x : List ℕ). x) o []) left put) made
    ∙ ap (λ (b : List ℕ). bases_after (step m (Asks r)).contents b left put) bases
    ∙ ap (λ (x : Contents). bases_after x (sums_of 0 (done ++ w ∷ [])) left put) (sym now)
    ∙ names_all limits script put (earlier ++ Asks r ∷ []) (done ++ w ∷ []) left n stands
    (subst (λ (x : Contents). Leads x (sums_of 0 (done ++ w ∷ [])) left put []) (sym now)
    (subst (λ (b : List ℕ). Leads (step m (Asks r)).contents b left put []) bases leads))
    (subst (λ (x : Contents). accept_each x put ≡ Some n) (sym now) one.1)
    ∙ ap (sums_of 0) (append_assoc done (w ∷ []) left)
names_all limits script (Asks r ∷ put) earlier done (w ∷ left) n it (is, inr (none, (nothing, same))) accepted =
    absurd (none_left w left same)

-- a run of the script that began on a new image
pub run_comes : (limits : Limits) (script : List Wanted) (put : List Command) (m : Contents) → HasSetup script
    → HasComeTo limits script put m → Comes limits script put
run_comes limits script put m setup it = comes limits script put [] [] script it.left m (stands_new limits script setup)
    it.leads it.accepted

-- ---- a run that goes on

module _ (limits : Limits) (script : List Wanted) (setup : HasSetup script) (earlier : List Command) (m : Contents)
    (begun : HasComeTo limits script earlier m) (put : List Command) (status : ℕ)
    (asked : IsAskedOnce m script put status) (accepted : accept_each m put ≡ Some (after m put))
    (made : HasMade m script ⊎ ((put ≡ []) × (status ≡ 0 → ⊥))) where
  memory_is : m ≡ after (new_memory limits) earlier
  memory_is = accepted_after (new_memory limits) earlier m begun.accepted

  all_lead : (last : List Wanted) × (Leads (new_memory limits) [] script (earlier ++ put) last × (status ≡ 0 → last
      ≡ []))
  all_lead = ⊎_elim
      (λ h. by_stand h.0 h.1.0 h.1.1)
      (λ h. by_stuck h made)
      (run_comes limits script earlier m setup begun)
    where
      by_stand : (done left : List Wanted) → Stands limits script earlier done left
          → (last : List Wanted) × (Leads (new_memory limits) [] script (earlier ++ put) last × (status ≡ 0 → last
          ≡ []))
      by_stand done left it =
          let counts : AreLeft (numbers_had m) done = λ e. ap (λ (n : Contents). left_of (numbers_had n) e) memory_is
          ∙ it.counts e in
          let bases : bases_had (numbers_had m) 0 script ≡ sums_of 0 done = ap (bases_had (numbers_had m) 0) it.split
          ∙ bases_left (numbers_had m) 0 done left counts in
          let wanted : news (numbers_had m) script ≡ left = ap (news (numbers_had m)) it.split ∙ news_left (numbers_had
          m) done left counts in (
            asked.left,
            (
              it.reached put asked.left (subst (λ (n : Contents). Leads n (sums_of 0 done) left put asked.left)
                  memory_is
                  (subst (λ (l : List Wanted). Leads m (sums_of 0 done) l put asked.left) wanted
                  (subst (λ (b : List ℕ). Leads m b (news (numbers_had m) script) put asked.left) bases asked.leads))),
              asked.all,
            ),
          )

      by_stuck : IsStuck limits script earlier → HasMade m script ⊎ ((put ≡ []) × (status ≡ 0 → ⊥))
          → (last : List Wanted) × (Leads (new_memory limits) [] script (earlier ++ put) last × (status ≡ 0 → last
          ≡ []))
      by_stuck it (inl made) = absurd (it.0 (subst (λ (n : Contents). HasMade n script) memory_is made))
      by_stuck it (inr none) = (
        it.1.0,
        (
          subst (λ (l : List Command). Leads (new_memory limits) [] script l it.1.0) (sym (ap (λ (l : List Command).
              earlier ++ l) none.0 ∙ append-nil earlier)) it.1.1,
          λ zero. absurd (none.1 zero),
        ),
      )

  pub all_accepted : accept_each (new_memory limits) (earlier ++ put) ≡ Some (after m put)
  all_accepted = accept_both (new_memory limits) m (after m put) earlier put begun.accepted accepted

  pub all_asked : IsAsked (new_memory limits) [] script (earlier ++ put) status
  all_asked = record { left = all_lead.0; leads = all_lead.1.0; all = all_lead.1.1 }

  pub gone_on : HasGoneOn limits script m put status
  gone_on = record { earlier = earlier; begun = begun.accepted; accepted = all_accepted; asked = all_asked }

  -- stopped anywhere, it is a run that was stopped
  pub begun_on : (many : ℕ) → HasComeTo limits script (earlier ++ take many put) (after m (take many put))
  begun_on many =
      let first = leads_first (new_memory limits) [] script (earlier ++ put) all_lead.0 (length earlier + many)
      all_lead.1.0 in
      record {
        left = first.0;
        leads = subst (λ (l : List Command). Leads (new_memory limits) [] script l first.0) (take_both earlier put many)
            first.1;
        accepted = accept_both (new_memory limits) m (after m (take many put)) earlier (take many put) begun.accepted
            (accepted_first m put (after m put) many accepted);
      }
    where
      take_both : (some more : List Command) (many : ℕ) → take (length some + many) (some ++ more) ≡ some ++ take many
          more
      take_both [] more many = ap (λ (n : ℕ). take n more) (omega arith)
      take_both (c ∷ some) more many = ap (λ (n : ℕ). take n (c ∷ (some ++ more))) (sums (length some) many) ∙ ap (λ
          (l :
          List Command). c ∷ l) (take_both some more many)
        where
          sums : (a b : ℕ) → suc a + b ≡ suc (a + b)
          sums a b = omega arith
