use Rattle.std.proofs.Common.{◌-◌, OnOk, Ok, Err, Result, refl}
use Rattle.im_image.specs.Headers.{seen}
use Rattle.im_checkpoint.proofs.Moments.{closed_done, closed_leaves, closed_now, read_leaves, read_now, shut_done}
use Rattle.im_checkpoint.proofs.Moments.{shut_leaves, shut_now, shut_sync_leaves, shut_sync_now}
use Rattle.im_checkpoint.{proofs.Turning.closed_by, proofs.Turning.opened_by, specs.Step.PagesDone}
use Rattle.im_checkpoint.proofs.header.close_other.Goals as goal

on_ok : {T E P Q : Type 0} (r : Result T E) → OnOk r P → (P → Q) → OnOk r Q
on_ok (Ok x) p then = then p
on_ok (Err e) p then = tt

pub returns-in_err-read-clause-leaves : goal.returns-in_err-read-clause-leaves
returns-in_err-read-clause-leaves g c = λ h n x m j kept. record {
  within = read_leaves
      (record { header = seen c.args.header.now; step = PagesDone n }) x m j (g.D.Disk.now c.args.disk.now) kept
      (g.D.Disk.past c.args.disk.now) (g.D.Disk.now c.read.new.self) (g.D.Disk.past c.read.new.self)
      (c.read.ensures.moment h);
  after = read_now
      (record { header = seen c.args.header.now; step = PagesDone n }) x m j (g.D.Disk.now c.args.disk.now) kept
      (g.D.Disk.past c.args.disk.now) (g.D.Disk.now c.read.new.self) (g.D.Disk.past c.read.new.self)
      (c.read.ensures.moment h);
}

pub returns-in_err-write_at-clause-leaves : goal.returns-in_err-write_at-clause-leaves
returns-in_err-write_at-clause-leaves g c = λ h2 n x m j kept.
    let h1 = c.write_at.ensures.honest h2 in
    record {
      within = shut_leaves (record { header = seen c.args.header.now; step = PagesDone n }) x m j
          (g.D.Disk.now c.args.disk.now) kept (g.D.Disk.past c.args.disk.now) (g.D.Disk.now c.read.new.self)
          (g.D.Disk.past c.read.new.self) (c.read.ensures.moment h1)
          (opened_by (1 - c.args.header.now.area) (g.D.Disk.now c.args.disk.now).bytes c.read.new.buf
          (c.in_ok-read.ensures.read h1) c.if-gate.true) (g.D.Disk.now c.write_at.new.self)
          (g.D.Disk.past c.write_at.new.self) (c.write_at.ensures.moment h2);
      after = shut_now (record { header = seen c.args.header.now; step = PagesDone n }) x m j
          (g.D.Disk.now c.args.disk.now) kept (g.D.Disk.past c.args.disk.now) (g.D.Disk.now c.read.new.self)
          (g.D.Disk.past c.read.new.self) (c.read.ensures.moment h1)
          (opened_by (1 - c.args.header.now.area) (g.D.Disk.now c.args.disk.now).bytes c.read.new.buf
          (c.in_ok-read.ensures.read h1) c.if-gate.true) (g.D.Disk.now c.write_at.new.self)
          (g.D.Disk.past c.write_at.new.self) (c.write_at.ensures.moment h2);
    }

pub returns-then-gate-clause-leaves : goal.returns-then-gate-clause-leaves
returns-then-gate-clause-leaves g c = λ h3 n x m j kept.
    let h2 = c.sync.ensures.honest h3 in
    let h1 = c.write_at.ensures.honest h2 in
    record {
      within = shut_sync_leaves (record { header = seen c.args.header.now; step = PagesDone n }) x m j
          (g.D.Disk.now c.args.disk.now) kept (g.D.Disk.past c.args.disk.now) (g.D.Disk.now c.read.new.self)
          (g.D.Disk.past c.read.new.self) (c.read.ensures.moment h1)
          (opened_by (1 - c.args.header.now.area) (g.D.Disk.now c.args.disk.now).bytes c.read.new.buf
          (c.in_ok-read.ensures.read h1) c.if-gate.true) (g.D.Disk.now c.write_at.new.self)
          (g.D.Disk.past c.write_at.new.self) (c.write_at.ensures.moment h2)
          (g.D.Disk.now c.sync.new.self) (g.D.Disk.past c.sync.new.self) (c.sync.ensures.moment h3);
      after = shut_sync_now (record { header = seen c.args.header.now; step = PagesDone n }) x m j
          (g.D.Disk.now c.args.disk.now) kept (g.D.Disk.past c.args.disk.now) (g.D.Disk.now c.read.new.self)
          (g.D.Disk.past c.read.new.self) (c.read.ensures.moment h1)
          (opened_by (1 - c.args.header.now.area) (g.D.Disk.now c.args.disk.now).bytes c.read.new.buf
          (c.in_ok-read.ensures.read h1) c.if-gate.true) (g.D.Disk.now c.write_at.new.self)
          (g.D.Disk.past c.write_at.new.self) (c.write_at.ensures.moment h2)
          (g.D.Disk.now c.sync.new.self) (g.D.Disk.past c.sync.new.self) (c.sync.ensures.moment h3);
    }

pub returns-then-gate-clause-kept : goal.returns-then-gate-clause-kept
returns-then-gate-clause-kept g c = on_ok c.sync.result c.sync.ensures.tick (λ tick h3 n x m j kept.
    let h2 = c.sync.ensures.honest h3 in
    let h1 = c.write_at.ensures.honest h2 in
    shut_done (record { header = seen c.args.header.now; step = PagesDone n }) x m j
    (g.D.Disk.now c.args.disk.now) kept (g.D.Disk.past c.args.disk.now) (g.D.Disk.now c.read.new.self)
    (g.D.Disk.past c.read.new.self) (c.read.ensures.moment h1)
    (opened_by (1 - c.args.header.now.area) (g.D.Disk.now c.args.disk.now).bytes c.read.new.buf
    (c.in_ok-read.ensures.read h1) c.if-gate.true) (g.D.Disk.now c.write_at.new.self)
    (g.D.Disk.past c.write_at.new.self) (c.write_at.ensures.moment h2)
    (g.D.Disk.now c.sync.new.self) (g.D.Disk.past c.sync.new.self) (c.sync.ensures.moment h3) n refl
    (c.in_ok-write_at.ensures.tick h2).now (tick h3).now)

pub returns-clause-leaves : goal.returns-clause-leaves
returns-clause-leaves g c = λ h2 n x m j kept.
    let h1 = c.sync-2.ensures.honest h2 in
    record {
      within = closed_leaves (record { header = seen c.args.header.now; step = PagesDone n }) x m j
          (g.D.Disk.now c.args.disk.now) kept (g.D.Disk.past c.args.disk.now) (g.D.Disk.now c.read.new.self)
          (g.D.Disk.past c.read.new.self) (c.read.ensures.moment h1)
          (g.D.Disk.now c.sync-2.new.self) (g.D.Disk.past c.sync-2.new.self) (c.sync-2.ensures.moment h2);
      after = closed_now (record { header = seen c.args.header.now; step = PagesDone n }) x m j
          (g.D.Disk.now c.args.disk.now) kept (g.D.Disk.past c.args.disk.now) (g.D.Disk.now c.read.new.self)
          (g.D.Disk.past c.read.new.self) (c.read.ensures.moment h1)
          (g.D.Disk.now c.sync-2.new.self) (g.D.Disk.past c.sync-2.new.self) (c.sync-2.ensures.moment h2);
    }

pub returns-clause-kept : goal.returns-clause-kept
returns-clause-kept g c = on_ok c.sync-2.result c.sync-2.ensures.tick (λ tick h2 n x m j kept.
    let h1 = c.sync-2.ensures.honest h2 in
    closed_done (record { header = seen c.args.header.now; step = PagesDone n }) x m j
    (g.D.Disk.now c.args.disk.now) kept (g.D.Disk.past c.args.disk.now) (g.D.Disk.now c.read.new.self)
    (g.D.Disk.past c.read.new.self) (c.read.ensures.moment h1)
    (g.D.Disk.now c.sync-2.new.self) (g.D.Disk.past c.sync-2.new.self) (c.sync-2.ensures.moment h2) n refl
    (closed_by (1 - c.args.header.now.area) (g.D.Disk.now c.args.disk.now).bytes c.read.new.buf
    (c.in_ok-read.ensures.read h1) c.if-gate.false) (tick h2).now)
