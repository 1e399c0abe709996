use Rattle.std.proofs.Common.{OnOk, Ok, Err, Result, rules}
use Rattle.im_disk.proofs.GateLemmas.{behind_first, write1, write2, written_by}
use Rattle.im_disk.proofs.gate.write_behind_gate.Goals as goal

on_ok : {T E P Q : Type 0} (r : Result T E) → OnOk r P → (P → Q) → OnOk r Q
on_ok (Ok x) p then = then p
on_ok (Err e) p then = tt

pub returns-in_err-write_at-clause-runs : goal.returns-in_err-write_at-clause-runs
returns-in_err-write_at-clause-runs g c = record {
  honest = search rules;
  leaves = λ h1.
      let h0 = c.write_at.ensures.honest h1 in
      write1 g.D.Disk.now g.D.Disk.past c.args.disk.now
      (record { is = behind_first c.args.bytes.now c.requires.gate; closed = c.requires.closed h0 })
      c.write_at.new.self (c.write_at.ensures.moment h1);
  calls = search rules;
  failures = search rules;
}

pub returns-clause-runs : goal.returns-clause-runs
returns-clause-runs g c = record {
  honest = search rules;
  leaves = λ h2.
      let h1 = c.open_gate.ensures.runs.honest h2 in
      let h0 = c.write_at.ensures.honest h1 in
      write2 g.D.Disk.now g.D.Disk.past c.args.disk.now
      (record { is = behind_first c.args.bytes.now c.requires.gate; closed = c.requires.closed h0 })
      c.write_at.new.self (c.write_at.ensures.moment h1)
      (c.in_ok-write_at.ensures.tick h1).now c.open_gate.new.disk (c.open_gate.ensures.runs.leaves h2);
  calls = search rules;
  failures = search rules;
}

pub returns-clause-written : goal.returns-clause-written
returns-clause-written g c = on_ok c.open_gate.result c.open_gate.ensures.opened (λ opened h2.
    let h1 = c.open_gate.ensures.runs.honest h2 in
    let h0 = c.write_at.ensures.honest h1 in
    written_by (record { is = behind_first c.args.bytes.now c.requires.gate; closed = c.requires.closed h0 })
    (g.D.Disk.now c.write_at.new.self) (g.D.Disk.now c.open_gate.new.disk) (c.in_ok-write_at.ensures.tick h1).now
    (opened h2))
