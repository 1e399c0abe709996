-- Where turns lead.
use Rattle.std.proofs.Common.{◌≡◌, ℕ, zero, suc, ◌+◌, ◌-◌, ◌*◌, ◌<◌, ◌≤◌, min, Bool, true, false, ◌&&◌, ◌⊎◌, List, []}
use Rattle.std.proofs.Common.{◌∷◌, length, if◌then◌else◌, nat_lt, ◌==◌, Ok, Result, sym, refl, ap, ◌∙◌, subst, inl, inr}
use Rattle.std.proofs.Common.{⊎_elim, arith}
use Rattle.std.proofs.lemmas.Bool.Decides.{nat_tests}
use Rattle.im_types.specs.Types.{Refusal, LAST, layout_in_use, area_pages, Header}
use Rattle.{im_laws.proofs.Tests.true_or_false, im_pages.specs.PageSets.pages_from}
use Rattle.im_journal.specs.Holding.{IsJournal, JournalState, to_sweep}
use Rattle.im_checkpoint.proofs.Fitting.{none_or_some, turns_with}
use Rattle.im_checkpoint.specs.{declared.TurnDone.TheVariants.Idle, declared.TurnDone.TurnDone, Step.CheckpointState}
use Rattle.im_checkpoint.specs.{Step.NoCheckpoint, Step.pages_step, Step.PagesDone, Step.PagesLeft, Step.Step}
use Rattle.im_checkpoint.specs.{Step.Synced, Step.turns_left, Turns.is_due, Turns.next_header}
use Rattle.im_engine.specs.{Answered.TurnAnswered, Answered.TurnTaken, State.EngineState}
use Rattle.im_turning.specs.Turning.{checkpoint_at, checkpoint_turns, due_turns, enough_turns, HasMadeRoom, HasPageLeft}
use Rattle.im_turning.specs.Turning.{HasTurned, IsAtRest, IsSpent, later_turns, Point, point_journal, point_of}
use Rattle.im_turning.specs.Turning.{TurnsInto, TurnsLead}

at_most_or_above : (a b : ℕ) → (a ≤ b) ⊎ (b < a)
at_most_or_above zero b = inl (omega arith)
at_most_or_above (suc a) zero = inr (omega arith)
at_most_or_above (suc a) (suc b) =
    ⊎_elim (λ le. inl (omega (arith, le))) (λ lt. inr (omega (arith, lt))) (at_most_or_above a b)

not_below_itself : (n : ℕ) → nat_lt n n ≡ false
not_below_itself n = grind (arith, nat_tests)

-- no checkpoint is due behind one of all commands
none_later : (h : Header) (n : ℕ) → later_turns h n n ≡ 0
none_later h n = ap (λ (b : Bool). if b && nat_lt (next_header h n).generation LAST
    then area_pages layout_in_use (next_header h n).sizes + 3 else 0) (not_below_itself n)

turns_with_left : (from : ℕ) (left : List ℕ) (h : Header) (n : ℕ)
    → checkpoint_turns (pages_step from left) h n ≡ turns_left (pages_step from left) + later_turns h from n
turns_with_left from [] h n = refl
turns_with_left from (page ∷ left) h n = refl

page_with : (from : ℕ) (left : List ℕ) → HasPageLeft (pages_step from left)
page_with from [] = tt
page_with from (page ∷ left) = tt

-- what one turn does for the room
pub record Steps (least : ℕ) (p q : Point) : Type 0 where
  pub page : HasPageLeft q.step
  pub more : p.room ≤ q.room
  pub near : (least ≤ q.room) ⊎ (IsAtRest q ⊎ (enough_turns least q + 1 ≤ enough_turns least p))

module _ (least : ℕ) (p : Point) (done : TurnDone) (q : Point) (leads : TurnsInto p done q) where
  -- the measure behind it, given the parts of the point
  measured : (h : Header) (s : Step) (n r : ℕ) → q.header ≡ h → q.step ≡ s → q.count ≡ n → q.room ≡ r
      → enough_turns least q ≡ (least - r) + checkpoint_turns s h n
  measured h s n r eh es en er = ap (λ (x : ℕ). (least - x) + checkpoint_turns q.step q.header q.count) er
      ∙ ap (λ (x : Step). (least - r) + checkpoint_turns x q.header q.count) es
      ∙ ap (λ (x : Header). (least - r) + checkpoint_turns s x q.count) eh
      ∙ ap (λ (x : ℕ). (least - r) + checkpoint_turns s h x) en

  -- and before it
  was : (s : Step) → p.step ≡ s → enough_turns least p ≡ (least - p.room) + checkpoint_turns s p.header p.count
  was s is = ap (λ (x : Step). (least - p.room) + checkpoint_turns x p.header p.count) is

  header_is : (c : CheckpointState) → checkpoint_at q ≡ c → q.header ≡ c.header
  header_is c e = ap (λ (x : CheckpointState). x.header) e

  step_is : (c : CheckpointState) → checkpoint_at q ≡ c → q.step ≡ c.step
  step_is c e = ap (λ (x : CheckpointState). x.step) e

  count_is : (k : JournalState) → point_journal q ≡ k → q.count ≡ k.count
  count_is k e = ap (λ (x : JournalState). x.count) e

  room_is : (k : JournalState) → point_journal q ≡ k → q.room ≡ k.room
  room_is k e = ap (λ (x : JournalState). x.room) e

  module _ (is : p.step ≡ NoCheckpoint) where
    swept : 0 < to_sweep (point_journal p) → Steps least p q
    swept some =
        let row = leads.swept is some in
        let eh = header_is _ row.1 in
        let es : q.step ≡ NoCheckpoint = step_is _ row.1 ∙ is in
        let en = count_is _ row.2 in
        let er : q.room ≡ p.room + min 3 (to_sweep (point_journal p)) = room_is _ row.2 in
        let now = measured p.header NoCheckpoint p.count (p.room + min 3 (to_sweep (point_journal p))) eh es en er in
        let then_was = was NoCheckpoint is in
        record {
          page = subst HasPageLeft (sym es) tt;
          more = omega (arith, er);
          near = ⊎_elim (λ le. inl le) (λ lt. inr (inr (omega (arith, now, then_was, lt, er, some))))
              (at_most_or_above least q.room);
        }

    began : to_sweep (point_journal p) ≡ 0 → is_due p.header (point_journal p) ≡ true → Steps least p q
    began none due =
        let row = leads.began is none due in
        let b = row.1 in
        let left : List ℕ = pages_from 0 b.changed in
        let eh : q.header ≡ p.header = header_is _ b.state in
        let es : q.step ≡ pages_step p.count left = step_is _ b.state in
        let en : q.count ≡ p.count = count_is _ row.2 in
        let er : q.room ≡ p.room = room_is _ row.2 in
        let now = measured p.header (pages_step p.count left) p.count p.room eh es en er in
        let by_left = turns_with_left p.count left p.header p.count in
        let none_later_is = none_later p.header p.count in
        let few : turns_left (pages_step p.count left) ≤ area_pages layout_in_use p.header.sizes + 2
        = subst (λ (x : Step). turns_left x ≤ area_pages layout_in_use p.header.sizes + 2) es b.turns in
        let due_is : due_turns p.header p.count ≡ area_pages layout_in_use p.header.sizes + 3
        = ap (λ (x : Bool). if x then area_pages layout_in_use p.header.sizes + 3 else 0) due in
        let then_was = was NoCheckpoint is in
        record {
          page = subst HasPageLeft (sym es) (page_with p.count left);
          more = omega (arith, er);
          near = inr (inr (omega (arith, now, by_left, none_later_is, few, due_is, then_was)));
        }

    pub idle : to_sweep (point_journal p) ≡ 0 → is_due p.header (point_journal p) ≡ false
        → IsAtRest q × (q.room ≡ p.room)
    idle none not =
        let row = leads.idle is none not in (
          record {
            step = step_is _ row.1 ∙ is;
            swept = ap (λ (k : JournalState). to_sweep k) row.2 ∙ none;
            due = ap (λ (c : CheckpointState). is_due c.header (point_journal q)) row.1
                ∙ ap (λ (k : JournalState). is_due p.header k) row.2 ∙ not;
          },
          room_is _ row.2,
        )

    from_none : Steps least p q
    from_none = ⊎_elim
        (λ none. ⊎_elim (began none) (λ not.
        let rest = idle none not in
        let more_is = rest.1 in
        record {
          page = subst HasPageLeft (sym rest.0.step) tt;
          more = omega (arith, more_is);
          near = inr (inl rest.0);
        })
        (true_or_false (is_due p.header (point_journal p))))
        swept (none_or_some (to_sweep (point_journal p)))

  module _ (from : ℕ) where
    page : (i : ℕ) (left : List ℕ) → p.step ≡ PagesLeft from (i ∷ left) → Steps least p q
    page i left is =
        let row = leads.page from i left is in
        let es : q.step ≡ pages_step from left = step_is _ row.1 in
        let er : q.room ≡ p.room = room_is _ row.2 in
        let now =
        measured p.header (pages_step from left) p.count p.room (header_is _ row.1) es (count_is _ row.2) er in
        let by_left = turns_with_left from left p.header p.count in
        let with_is = turns_with from left in
        let then_was : enough_turns least p ≡ (least - p.room) + (length left + 3 + later_turns p.header from p.count)
        = was (PagesLeft from (i ∷ left)) is
        ∙ ap (λ (n : ℕ). (least - p.room) + (n + later_turns p.header from p.count)) (omega arith) in
        record {
          page = subst HasPageLeft (sym es) (page_with from left);
          more = omega (arith, er);
          near = inr (inr (omega (arith, now, by_left, with_is, then_was)));
        }

    synced : p.step ≡ PagesDone from → Steps least p q
    synced is =
        let row = leads.synced from is in
        let es : q.step ≡ Synced from = step_is _ row.1 in
        let er : q.room ≡ p.room = room_is _ row.2 in
        let now = measured p.header (Synced from) p.count p.room (header_is _ row.1) es (count_is _ row.2) er in
        let then_was = was (PagesDone from) is in
        record {
          page = subst HasPageLeft (sym es) tt;
          more = omega (arith, er);
          near = inr (inr (omega (arith, now, then_was)));
        }

    in_force : p.step ≡ Synced from → Steps least p q
    in_force is =
        let row = leads.in_force from is in
        let es : q.step ≡ NoCheckpoint = step_is _ row.1 in
        let er : q.room ≡ p.room = room_is _ row.2 in
        let now : enough_turns least q ≡ (least - p.room) + later_turns p.header from p.count
        = measured (next_header p.header from) NoCheckpoint p.count p.room (header_is _ row.1) es
        (count_is _ row.2) er in
        let then_was = was (Synced from) is in
        record {
          page = subst HasPageLeft (sym es) tt;
          more = omega (arith, er);
          near = inr (inr (omega (arith, now, then_was)));
        }

  by_step : (s : Step) → p.step ≡ s → HasPageLeft s → Steps least p q
  by_step NoCheckpoint is some = from_none is
  by_step (PagesLeft from []) is some = absurd some
  by_step (PagesLeft from (i ∷ left)) is some = page from i left is
  by_step (PagesDone from) is some = synced from is
  by_step (Synced from) is some = in_force from is

  pub one_step : HasPageLeft p.step → Steps least p q
  one_step some = by_step p.step refl some

-- a turn that had nothing to do found no checkpoint under way
rests : (p q : Point) (s : Step) → p.step ≡ s → HasPageLeft s → TurnsInto p Idle q → IsAtRest q
rests p q NoCheckpoint is some leads = ⊎_elim
    (λ none. ⊎_elim (λ due. let began = (leads.began is none due).0 in absurd (cc))
    (λ not. (idle 0 p Idle q leads is none not).0)
    (true_or_false (is_due p.header (point_journal p))))
    (λ some. let swept = (leads.swept is some).0 in absurd (cc))
    (none_or_some (to_sweep (point_journal p)))
rests p q (PagesLeft from []) is some leads = absurd some
rests p q (PagesLeft from (i ∷ left)) is some leads = let page = (leads.page from i left is).0 in absurd (cc)
rests p q (PagesDone from) is some leads = let synced = (leads.synced from is).0 in absurd (cc)
rests p q (Synced from) is some leads = let in_force = (leads.in_force from is).0 in absurd (cc)

pub at_rest : (p q : Point) → HasPageLeft p.step → TurnsInto p Idle q → IsAtRest q
at_rest p q some leads = rests p q p.step refl some leads

-- ---- many turns

-- a turn that has nothing to do leaves the room
stays_at_rest : (least : ℕ) (p : Point) (done : TurnDone) (q : Point) → TurnsInto p done q → IsAtRest p → IsAtRest q
stays_at_rest least p done q leads rest = (idle least p done q leads rest.step rest.swept rest.due).0

pub record Gone (least : ℕ) (p : Point) (turns : List TurnDone) (q : Point) : Type 0 where
  pub page : HasPageLeft q.step
  pub near : (least ≤ q.room) ⊎ (IsAtRest q ⊎ (enough_turns least q + length turns ≤ enough_turns least p))

gone : (least : ℕ) (p : Point) (turns : List TurnDone) (q : Point) → HasPageLeft p.step → TurnsLead turns p q
    → Gone least p turns q
gone least p [] q some is = subst (λ (x : Point). Gone least p [] x) (sym is)
    (record { page = some; near = inr (inr (omega arith)) })
gone least p (done ∷ before) q some (mid, (lead, last)) =
    let so_far = gone least p before mid some lead in
    let step = one_step least mid done q last so_far.page in
    let more = step.more in
    record {
      page = step.page;
      near = ⊎_elim (λ room. inl (omega (arith, more, room)))
          (λ other. ⊎_elim (λ rest. inr (inl (stays_at_rest least mid done q last rest)))
          (λ far. ⊎_elim (λ room. inl room) (λ others. ⊎_elim (λ rest. inr (inl rest))
          (λ near. inr (inr (omega (arith, near, far)))) others) step.near) other) so_far.near;
    }

pub enough : (least : ℕ) (p q : Point) (turns : List TurnDone) → HasPageLeft p.step → TurnsLead turns p q
    → enough_turns least p ≤ length turns → (least ≤ q.room) ⊎ IsAtRest q
enough least p q turns some lead many = ⊎_elim (λ room. inl room)
    (λ other. ⊎_elim (λ rest. inr rest) (λ far. inl (omega (arith, far, many))) other)
    (gone least p turns q some lead).near

due_few : (b : Bool) (n : ℕ) → (if b then n else 0) ≤ n
due_few true n = omega arith
due_few false n = omega arith

later_few : (h : Header) (from n : ℕ) → later_turns h from n ≤ area_pages layout_in_use h.sizes + 3
later_few h from n = due_few (nat_lt from n && nat_lt (h.generation + 1) LAST) (area_pages layout_in_use h.sizes + 3)

few_by : (s : Step) (h : Header) (n : ℕ) → checkpoint_turns s h n ≤ turns_left s +
    (area_pages layout_in_use h.sizes + 3)
few_by NoCheckpoint h n =
    let due = due_few (nat_lt h.count n && nat_lt h.generation LAST) (area_pages layout_in_use h.sizes + 3) in
    omega (arith, due)
few_by (PagesLeft from left) h n = let later = later_few h from n in omega (arith, later)
few_by (PagesDone from) h n = let later = later_few h from n in omega (arith, later)
few_by (Synced from) h n = let later = later_few h from n in omega (arith, later)

pub few : (least : ℕ) (p : Point) → turns_left p.step ≤ area_pages layout_in_use p.header.sizes + 2
    → enough_turns least p ≤ least + (2 * area_pages layout_in_use p.header.sizes + 5)
few least p most = let by = few_by p.step p.header p.count in omega (arith, by, most)

-- ---- turns that are taken one after another

done_same : (a : Result TurnDone Refusal) (x y : TurnDone) → a ≡ Ok x → a ≡ Ok y → x ≡ y
done_same a x y e f = cc

-- a turn that was answered was taken
pub taken_of : {D : Type 0} (old new : EngineState D) (a : Result TurnDone Refusal) (done : TurnDone)
    → TurnAnswered old a new → a ≡ Ok done → TurnTaken old done new
taken_of old new a done it is = ⊎_elim
    (λ dead. let failed = (it.dead dead).0 in absurd (cc))
    (λ f. ⊎_elim
    (λ taken. subst (λ (d : TurnDone). TurnTaken old d new) (done_same a taken.0 done taken.1 is) taken.2)
    (λ fault. let device = fault.0 in absurd (cc))
    (it.alive f))
    (true_or_false old.failed)

-- and it led from where the engine stood to where it stands
pub turn_leads : {D : Type 0} (old new : EngineState D) (a : Result TurnDone Refusal) (done : TurnDone)
    → TurnAnswered old a new → a ≡ Ok done → TurnsInto (point_of old) done (point_of new)
turn_leads old new a done it is = (taken_of old new a done it is).turned

pub turned_more : (many : ℕ) (p mid : Point) (done : TurnDone) (q : Point) → HasTurned many p mid → TurnsInto mid done q
    → HasTurned (many + 1) p q
turned_more many p mid done q (turns, (lead, is)) last = (done ∷ turns, ((mid, (lead, last)), omega (arith, is)))

pub idle_there : (least many : ℕ) (p mid q : Point) (done : TurnDone) → HasTurned many p mid → TurnsInto mid done q
    → done ≡ Idle → HasMadeRoom least p q
idle_there least many p mid q done (turns, (lead, is)) last idle = record {
  turns = done ∷ turns;
  lead = (mid, (lead, last));
  room = inr (inl (turns, ap (λ (d : TurnDone). d ∷ turns) idle));
}

-- where turns made no room, no further one does
pub spent_behind : (p q : Point) → HasMadeRoom 1 p q → q.room ≡ 0 → IsSpent q
spent_behind p q made none =
    (p, (made.turns, (made.lead, ⊎_elim (λ room. absurd (omega (arith, room, none))) (λ ended. ended) made.room)))

-- ---- at rest

-- no checkpoint is due though a later generation is possible
none_since : (a b g : ℕ) → (nat_lt a b && nat_lt g LAST) ≡ false → g < LAST → b ≤ a
none_since a b g not low = by_test (nat_lt a b) refl
  where
    possible : nat_lt g LAST ≡ true
    possible = grind (arith, nat_tests, low)

    by_test : (c : Bool) → nat_lt a b ≡ c → b ≤ a
    by_test false is = grind (arith, nat_tests, is)
    by_test true is = let later : nat_lt g LAST ≡ true = possible in absurd (cc)

-- the slots that are neither of the run nor room, below the last count
swept_below : (n slots run room : ℕ) → n < LAST → (if n == LAST then 0 else slots - run - room) ≡ 0
    → slots - run - room ≡ 0
swept_below n slots run room low none = sym (ap (λ (b : Bool). if b then 0 else slots - run - room) below) ∙ none
  where
    below : (n == LAST) ≡ false
    below = grind (arith, nat_tests, low)

pub all_room : (p : Point) → IsAtRest p → IsJournal (point_journal p) → p.count < LAST → p.header.generation < LAST
    → p.room ≡ p.header.sizes.slots
all_room p rest j low possible =
    let since = none_since p.header.count p.count p.header.generation rest.due possible in
    let none = swept_below p.count p.header.sizes.slots (p.count - p.header.count) p.room low rest.swept in
    let begun : p.header.count ≤ p.count = j.begun in
    let round : p.count + p.room ≤ p.header.count + p.header.sizes.slots = j.once_round in
    omega (arith, since, none, begun, round)
