use Rattle.std.proofs.Common.{◌≡◌, ℕ, ◌<◌, List, [], length, OnOk, Some, Ok, Err, Result, MatchResult, sym, ap, ◌∙◌}
use Rattle.std.proofs.Common.{subst, inl, arith}
use Rattle.std.proofs.lemmas.List.{nil_from_length}
use Rattle.im_types.specs.Types.{Command, Contents, accept_each}
use Rattle.{im_laws.proofs.Tests.some_same, im_disk.specs.Since.CallsBy, im_checkpoint.specs.Keeping.IsKept}
use Rattle.im_disk.proofs.SinceLemmas.{leaves_start, left_now, only_weaker}
use Rattle.im_journal.specs.Holding.{IsFullFor, IsJournal, JournalState, longer, MayLay, MayPut, slots_ahead}
use Rattle.im_journal.specs.Holding.{with_ahead}
use Rattle.im_engine.proofs.Advancing.{calls_first, calls_some, has_room_for, no_group, none_in, only_device}
use Rattle.im_engine.proofs.Advancing.{same_ahead, some_in}
use Rattle.im_engine.proofs.Keeping.{all_mean, kept_laid, kept_put, lay_means, may_put_means}
use Rattle.im_engine.proofs.Members.{longer_none}
use Rattle.im_engine.proofs.chain.put_behind.Goals as goal

both_ok : {T E P Q R : Type 0} (N : E → Type 0) (r : Result T E) → OnOk r P → MatchResult r (λ _. Q) N → (P → Q → R)
    → OnOk r R
both_ok N (Ok x) p q then = then p q
both_ok N (Err e) p q then = tt

-- a journal with nothing more, and these ahead
laid_state : {T E : Type 0} (j : JournalState) (next : List Command) (k : JournalState) (r : Result T E) → IsJournal j
    → j.ahead ≡ [] → MatchResult r (λ _. k ≡ with_ahead next j) (λ _. k ≡ j)
    → MatchResult r (λ _. k ≡ with_ahead next (longer (length j.ahead) j)) (λ _. k ≡ j)
laid_state j next k (Ok x) known none state =
    state ∙ ap (λ (y : JournalState). with_ahead next y)
    (sym (ap (λ (l : List Command). longer (length l) j) none ∙ longer_none j known))
laid_state j next k (Err e) known none state = state

-- ---- the gate of a group ahead

pub returns-then-ahead-gt0-clause-leaves : goal.returns-then-ahead-gt0-clause-leaves
returns-then-ahead-gt0-clause-leaves g c = λ h k x m after accepts kept.
    let j = c.args.journal.now in
    let next = c.args.next.now.items in
    only_weaker g.D.Disk.now g.D.Disk.past c.args.disk.now c.put_ahead.new.disk
    (MayPut (slots_ahead j next) j j.ahead (g.D.Disk.now c.args.disk.now)) _ (c.put_ahead.ensures.runs.leaves h)
    (may_put_means k x m j (g.D.Disk.now c.args.disk.now) kept j.ahead after accepts (slots_ahead j next))

pub returns-then-ahead-gt0-clause-kept : goal.returns-then-ahead-gt0-clause-kept
returns-then-ahead-gt0-clause-kept g c = both_ok _ c.put_ahead.result c.put_ahead.ensures.added
    c.put_ahead.ensures.state
    (λ puts state h k x m after accepts kept.
    let j = c.args.journal.now in
    let next = c.args.next.now.items in
    let new = g.D.Disk.now c.put_ahead.new.disk in
    let added = puts h in
    kept_put k x m j (g.D.Disk.now c.args.disk.now) kept j.ahead after accepts (slots_ahead j next) new
    c.put_ahead.new.self next state added.kept added.calm (added.added new.bytes (left_now new))
    (added.holds new.bytes (left_now new)))

pub returns-then-ahead-gt0-clause-calls : goal.returns-then-ahead-gt0-clause-calls
returns-then-ahead-gt0-clause-calls g c =
    let some : 0 < length c.args.journal.now.ahead = omega (arith, c.if-ahead-gt0.true, c.ahead.ensures) in record {
      made = λ h. subst (λ (n : ℕ). CallsBy g.D.Disk.past c.args.disk.now c.put_ahead.new.disk n c.put_ahead.result)
          (sym (calls_some (length c.args.journal.now.ahead) (length c.args.next.now.items) some))
          (c.put_ahead.ensures.runs.calls h);
      none = λ nothing. absurd (no_group c.args.journal.now.ahead some nothing);
    }

pub returns-then-ahead-gt0-clause-faults : goal.returns-then-ahead-gt0-clause-faults
returns-then-ahead-gt0-clause-faults g c = only_device (IsFullFor c.args.journal.now c.args.next.now.items)
    c.args.disk.now c.put_ahead.new.disk c.put_ahead.result _ _ c.put_ahead.ensures.full
    (has_room_for c.args.journal.now c.args.next.now.items c.requires.fits) c.put_ahead.ensures.runs.faults

-- ---- nothing of both

pub returns-then-is_empty-clause-leaves : goal.returns-then-is_empty-clause-leaves
returns-then-is_empty-clause-leaves g c = λ h k x m after accepts kept. record {
  within = leaves_start (g.D.Disk.now c.args.disk.now) (g.D.Disk.past c.args.disk.now) _;
  after = λ file left. inl (all_mean k x m c.args.journal.now (g.D.Disk.now c.args.disk.now) kept file left);
}

pub returns-then-is_empty-clause-kept : goal.returns-then-is_empty-clause-kept
returns-then-is_empty-clause-kept g c = λ h k x m after accepts kept.
    let none : c.args.journal.now.ahead ≡ [] = nil_from_length c.args.journal.now.ahead
    (omega (arith, c.if-ahead-gt0.false, c.ahead.ensures)) in
    let is : Some m ≡ Some after = subst (λ (l : List Command). accept_each m l ≡ Some after) none accepts in
    subst (λ (n : Contents). IsKept k x n c.args.journal.now (g.D.Disk.now c.args.disk.now)) (some_same m after is) kept

pub returns-then-is_empty-clause-state : goal.returns-then-is_empty-clause-state
returns-then-is_empty-clause-state g c = same_ahead c.args.journal.now c.args.next.now.items c.requires.fits.known
    (nil_from_length c.args.journal.now.ahead (omega (arith, c.if-ahead-gt0.false, c.ahead.ensures)))
    (none_in c.args.next.now.items c.as_slice.result.now c.is_empty.result c.as_slice.ensures.value c.is_empty.ensures
    c.if-is_empty.true)

-- ---- the first group

pub lay_ahead-requires-clause-none : goal.lay_ahead-requires-clause-none
lay_ahead-requires-clause-none g c = nil_from_length c.args.journal.now.ahead
    (omega (arith, c.if-ahead-gt0.false, c.ahead.ensures))

pub returns-clause-leaves : goal.returns-clause-leaves
returns-clause-leaves g c = λ h k x m after accepts kept.
    let j = c.args.journal.now in
    only_weaker g.D.Disk.now g.D.Disk.past c.args.disk.now c.lay_ahead.new.disk (MayLay j (g.D.Disk.now
    c.args.disk.now))
    _ (c.lay_ahead.ensures.runs.leaves h)
    (λ file may. inl (lay_means k x m j (g.D.Disk.now c.args.disk.now) kept file may))

pub returns-clause-kept : goal.returns-clause-kept
returns-clause-kept g c = both_ok _ c.lay_ahead.result c.lay_ahead.ensures.laid c.lay_ahead.ensures.state
    (λ lays state h k x m after accepts kept.
    let j = c.args.journal.now in
    let none : j.ahead ≡ [] = nil_from_length j.ahead (omega (arith, c.if-ahead-gt0.false, c.ahead.ensures)) in
    let is : Some m ≡ Some after = subst (λ (l : List Command). accept_each m l ≡ Some after) none accepts in
    subst (λ (n : Contents). IsKept k x n c.lay_ahead.new.self (g.D.Disk.now c.lay_ahead.new.disk))
    (some_same m after is)
    (kept_laid k x m j (g.D.Disk.now c.args.disk.now) kept (g.D.Disk.now c.lay_ahead.new.disk) c.lay_ahead.new.self
    c.args.next.now.items state (lays h)))

pub returns-clause-state : goal.returns-clause-state
returns-clause-state g c =
    let j = c.args.journal.now in
    let none : j.ahead ≡ [] = nil_from_length j.ahead (omega (arith, c.if-ahead-gt0.false, c.ahead.ensures)) in
    laid_state j c.args.next.now.items c.lay_ahead.new.self c.lay_ahead.result c.requires.fits.known none
    c.lay_ahead.ensures.state

pub returns-clause-calls : goal.returns-clause-calls
returns-clause-calls g c =
    let none : length c.args.journal.now.ahead ≡ 0 = omega (arith, c.if-ahead-gt0.false, c.ahead.ensures) in
    let some : 0 < length c.args.next.now.items = some_in c.args.next.now.items c.as_slice.result.now c.is_empty.result
    c.as_slice.ensures.value c.is_empty.ensures c.if-is_empty.false in record {
      made = λ h. subst (λ (n : ℕ). CallsBy g.D.Disk.past c.args.disk.now c.lay_ahead.new.disk n c.lay_ahead.result)
          (sym (calls_first (length c.args.journal.now.ahead) (length c.args.next.now.items) none some))
          (c.lay_ahead.ensures.runs.calls h);
      none = λ nothing empty. absurd (no_group c.args.next.now.items some empty);
    }

pub returns-clause-faults : goal.returns-clause-faults
returns-clause-faults g c = only_device (IsFullFor c.args.journal.now c.args.next.now.items)
    c.args.disk.now c.lay_ahead.new.disk c.lay_ahead.result _ _ c.lay_ahead.ensures.full
    (has_room_for c.args.journal.now c.args.next.now.items c.requires.fits) c.lay_ahead.ensures.runs.faults
