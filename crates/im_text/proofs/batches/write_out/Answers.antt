use Rattle.std.proofs.Common.{◌-◌, ◌++◌, length, take, drop, sym, ap, ◌∙◌, subst, arith, length-take}
use Rattle.std.{proofs.KnownBytes.Appends-trans, specs.Io.KnownBytes.Appends}
use lib.Seq.{take-add, take-take}

pub loop-turn-preserved : Rattle.im_text.proofs.batches.write_out.Goals.loop-turn-preserved
loop-turn-preserved g c =
    let done = c.loop-turn.written in
    let n = c.in-Ok.count in
    let xs = c.args.bytes.now in
    let before = c.loop-turn.invariant in
    let fits = c.in-Ok.ensures.bound in
    let most = length-take (length xs - done) (drop done xs) in
    let joined = ap (λ l. take done xs ++ l) (take-take n (length xs - done) (drop done xs) (omega arith)) ∙ sym (take-add done n xs) in
    (omega arith, subst (Appends _ _) joined (Appends-trans _ _ _ _ _ before.1 c.in-Ok.ensures.bytes))
