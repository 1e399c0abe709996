use Rattle.std.proofs.Common.{◌≡◌, ℕ, List, [], length, OnOk, Some, Ok, Err, Result, MatchResult, sym, subst, inl}
use Rattle.std.proofs.Common.{rules}
use Rattle.std.proofs.lemmas.List.{nil_from_length}
use Rattle.im_types.specs.Types.{Command, Contents, accept_each}
use Rattle.{im_laws.proofs.Tests.some_same, im_checkpoint.specs.Keeping.IsKept}
use Rattle.im_disk.proofs.SinceLemmas.{leaves_start, left_now, only_weaker}
use Rattle.im_journal.specs.Holding.{Holds, JournalState, longer, MayAppend}
use Rattle.im_engine.proofs.{Keeping.all_mean, Keeping.kept_longer, Keeping.may_put_means, Members.longer_none}
use Rattle.im_engine.proofs.groups.put_on.Goals as goal

both_ok : {T E P Q R : Type 0} (N : E → Type 0) (r : Result T E) → OnOk r P → MatchResult r (λ _. Q) N → (P → Q → R)
    → OnOk r R
both_ok N (Ok x) p q then = then p q
both_ok N (Err e) p q then = tt

pub returns-then-is_empty-clause-leaves : goal.returns-then-is_empty-clause-leaves
returns-then-is_empty-clause-leaves g c = λ h k x m after accepts kept. record {
  within = leaves_start (g.D.Disk.now c.args.disk.now) (g.D.Disk.past c.args.disk.now) _;
  after = λ file left. inl (all_mean k x m c.args.journal.now (g.D.Disk.now c.args.disk.now) kept file left);
}

pub returns-then-is_empty-clause-kept : goal.returns-then-is_empty-clause-kept
returns-then-is_empty-clause-kept g c = λ h k x m after accepts kept.
    let none : c.args.commands.now ≡ [] = nil_from_length c.args.commands.now (search rules) in
    let is : Some m ≡ Some after = subst (λ (l : List Command). accept_each m l ≡ Some after) none accepts in
    subst (λ (n : Contents). IsKept k x n c.args.journal.now (g.D.Disk.now c.args.disk.now)) (some_same m after is) kept

pub returns-then-is_empty-clause-state : goal.returns-then-is_empty-clause-state
returns-then-is_empty-clause-state g c =
    let none : length c.args.commands.now ≡ 0 = search rules in
    subst (λ (n : ℕ). c.args.journal.now ≡ longer n c.args.journal.now) (sym none)
    (sym (longer_none c.args.journal.now c.requires.fits.known))

pub returns-clause-leaves : goal.returns-clause-leaves
returns-clause-leaves g c = λ h k x m after accepts kept.
    only_weaker g.D.Disk.now g.D.Disk.past c.args.disk.now c.append_group.new.disk
    (MayAppend c.args.journal.now c.args.commands.now (g.D.Disk.now c.args.disk.now)) _
    (c.append_group.ensures.runs.leaves h)
    (may_put_means k x m c.args.journal.now (g.D.Disk.now c.args.disk.now) kept c.args.commands.now after accepts
    (length c.args.commands.now))

pub returns-clause-kept : goal.returns-clause-kept
returns-clause-kept g c = both_ok _ c.append_group.result c.append_group.ensures.added c.append_group.ensures.state
    (λ adds state h k x m after accepts kept.
    let j = c.args.journal.now in
    let new = g.D.Disk.now c.append_group.new.disk in
    let added = adds h in
    subst (λ (y : JournalState). IsKept k x after y (g.D.Disk.now c.append_group.new.disk)) (sym state)
    (kept_longer k x m j (g.D.Disk.now c.args.disk.now) kept c.args.commands.now after accepts new added.kept added.calm
    (added.added new.bytes (left_now new))
    (subst (λ (y : JournalState). Holds y new.bytes) state (added.holds new.bytes (left_now new)))))
