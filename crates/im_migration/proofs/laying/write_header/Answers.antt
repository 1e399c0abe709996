use Rattle.std.proofs.Common.{◌≡◌, ℕ, List, take, drop, OnOk, Ok, Err, Result, subst}
use Rattle.im_disk.specs.Moment.{overlaid}

on_ok : {T E P Q : Type 0} (r : Result T E) → OnOk r P → (P → Q) → OnOk r Q
on_ok (Ok x) p then = then p
on_ok (Err e) p then = tt

pub returns-clause-written : Rattle.im_migration.proofs.laying.write_header.Goals.returns-clause-written
returns-clause-written g c = on_ok c.write_beside.result c.write_beside.ensures.written (λ w h.
    subst (λ (b : List ℕ). (g.N.Disk.now c.write_beside.new.new).bytes
    ≡ overlaid (g.N.Disk.now c.args.new.now).bytes 1 (take 63 (drop 1 b))) c.spell-bytes.ensures (w h))
