use Rattle.std.proofs.Common.{◌≡◌, ℕ, ◌+◌, ◌-◌, ◌≤◌, List, length, take, replicate, OnOk, Ok, Err, Result, sym, subst}
use Rattle.std.proofs.Common.{arith, length-take}
use Rattle.std.proofs.lemmas.List.{length-replicate}
use Rattle.im_migration.proofs.Cleared.{cleared_more, replicated, taken}
use Rattle.im_migration.specs.Laying.{AreCleared}

on_ok : {T E P Q : Type 0} (r : Result T E) → OnOk r P → (P → Q) → OnOk r Q
on_ok (Ok x) p then = then p
on_ok (Err e) p then = tt

pub returns-clause-cleared : Rattle.im_migration.proofs.laying.clear_page.Goals.returns-clause-cleared
returns-clause-cleared g c = on_ok c.write_beside.result c.write_beside.ensures.written (λ w h before.
    let from = c.piece-from.result.0 in
    let end = c.piece-from.result.1 in
    let order = c.piece-from.ensures.order in
    let file = (g.N.Disk.now c.args.new.now).bytes in
    let whole : length file ≡ c.args.whole = c.requires.size (c.write_beside.ensures.runs.honest h) in
    let zeros : List ℕ = replicate 4096 0 in
    let long : length zeros ≡ 4096 = length-replicate {A = ℕ} 4096 0 in
    let ends : from + length (take (end - from) zeros)
    ≡ end = omega (arith, length-take (end - from) zeros, long, order.0, order.1) in
    let fits : end ≤ length file = omega (arith, whole, order.2) in
    subst (λ (b : List ℕ). AreCleared (c.args.page + 1) c.args.whole b) (sym (w h))
    (cleared_more c.args.page from end c.args.whole (take (end - from) zeros) file
    (taken (end - from) zeros (replicated 4096))
    ends fits whole c.piece-from.ensures.from.0 c.piece-from.ensures.from.1 c.piece-from.ensures.all before))
