use Rattle.std.proofs.Common.{◌≡◌, ◌*◌, length, OnOk, Ok, Err, Result, rules}
use Rattle.{im_disk.proofs.SinceLemmas.only_weaker, im_disk.specs.Gate.MayWrite, im_image.specs.Headers.seen}
use Rattle.im_checkpoint.{proofs.Turning.opening_done, proofs.Turning.opening_means, specs.Keeping.MeansWith}
use Rattle.im_checkpoint.proofs.header.open_next.Goals as goal

on_ok : {T E P Q : Type 0} (r : Result T E) → OnOk r P → (P → Q) → OnOk r Q
on_ok (Ok x) p then = then p
on_ok (Err e) p then = tt

pub returns-clause-leaves : goal.returns-clause-leaves
returns-clause-leaves g c = λ h old n x m j is kept.
    let long : length c.spell-bytes.result ≡ 64 = search rules in
    only_weaker g.D.Disk.now g.D.Disk.past c.args.disk.now c.write_behind_gate.new.disk
    (MayWrite (4096 * c.args.next.now.area) c.spell-bytes.result (g.D.Disk.now c.args.disk.now)) (MeansWith m j)
    (c.write_behind_gate.ensures.runs.leaves h)
    (opening_means (seen c.args.next.now) c.spell-bytes.result c.spell-bytes.ensures long old n is x m j
    (g.D.Disk.now c.args.disk.now) kept)

pub returns-clause-kept : goal.returns-clause-kept
returns-clause-kept g c = on_ok c.write_behind_gate.result c.write_behind_gate.ensures.written
    (λ done h old n x m j is kept later.
    let long : length c.spell-bytes.result ≡ 64 = search rules in
    opening_done (seen c.args.next.now) c.spell-bytes.result c.spell-bytes.ensures long old n is x m j
    (g.D.Disk.now c.args.disk.now) kept later (g.D.Disk.now c.write_behind_gate.new.disk) (done h))
