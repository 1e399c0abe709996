use Rattle.std.proofs.Common.{◌≡◌, ℕ, ◌+◌, ◌*◌, ◌<◌, ◌≤◌, length, take, drop, Err, sym, ap, ◌∙◌, subst, arith, rules}
use Rattle.im_types.specs.Types.{Ring}
use Rattle.im_journal.proofs.{Groups.none_there, Sweeps.behind_read, Tails.tail_alone}
use Rattle.im_journal.specs.Holding.{ring_in}
use Rattle.im_journal.proofs.journal.Journal.read_tail.Goals as goal

pub returns-in-Err-tail_in-clause-bad : goal.returns-in-Err-tail_in-clause-bad
returns-in-Err-tail_in-clause-bad g c = λ is h.
    let some : 0 < c.args.limits.slots = omega (arith, c.args.limits.in_range.enough_slots) in
    let bytes : c.deref.result.now
    ≡ take (64 * c.args.limits.slots)
    (drop c.journal_at-base.result (g.D.Disk.now c.args.disk.now).bytes) = c.deref.ensures.value
    ∙ c.in-Ok.ensures.bytes h in
    let there = bytes ∙ ap
    (λ (n : ℕ). take (64 * c.args.limits.slots)
    (drop n (g.D.Disk.now c.args.disk.now).bytes)) c.journal_at-base.ensures.at in
    sym (tail_alone (ring_in c.args.version c.args.limits) c.args.«from»
    (g.D.Disk.now c.args.disk.now).bytes c.deref.result.now some there)
    ∙ c.in-Err-tail_in.ensures.bad (ap (λ r. Err r) is)

pub returns-clause-tail : goal.returns-clause-tail
returns-clause-tail g c = λ h.
    let some : 0 < c.args.limits.slots = omega (arith, c.args.limits.in_range.enough_slots) in
    let bytes : c.deref.result.now
    ≡ take (64 * c.args.limits.slots)
    (drop c.journal_at-base.result (g.D.Disk.now c.args.disk.now).bytes) = c.deref.ensures.value
    ∙ c.in-Ok.ensures.bytes h in
    let ring : Ring = record { base = c.journal_at-base.result; slots = c.args.limits.slots } in
    let count : c.len.result ≡ length c.in-Ok-tail_in.read.0.items = search rules in
    let reads = sym (tail_alone ring c.args.«from»
    (g.D.Disk.now c.args.disk.now).bytes c.deref.result.now some bytes) ∙ c.in-Ok-tail_in.ensures.tail in
    let at = bytes ∙ ap (λ (n : ℕ). take (64 * c.args.limits.slots)
    (drop n (g.D.Disk.now c.args.disk.now).bytes)) c.journal_at-base.ensures.at in
    record {
      reads = sym (tail_alone (ring_in c.args.version c.args.limits) c.args.«from»
          (g.D.Disk.now c.args.disk.now).bytes c.deref.result.now some at) ∙ c.in-Ok-tail_in.ensures.tail;
      holds = record {
        size = subst (λ (n : ℕ). n + 64 * c.args.limits.slots ≤ length (g.D.Disk.now c.args.disk.now).bytes)
            (sym c.journal_at-base.ensures.at) (c.requires.inside (c.read_bytes.ensures.reads.honest h));
        commands = c.in-Ok-tail_in.read.0.items;
        there = c.in-Ok-tail_in.read.1;
        reads = reads;
        count = ap (λ (n : ℕ). c.args.«from» + n) count;
        enough = omega arith;
        behind = behind_read ring c.args.«from»
            (g.D.Disk.now c.args.disk.now).bytes c.in-Ok-tail_in.read.0.items c.in-Ok-tail_in.read.1 reads c.len.result count;
        laid = none_there ring (c.args.«from» + c.len.result) c.none.result (g.D.Disk.now c.args.disk.now).bytes
            c.none.ensures;
      };
    }
