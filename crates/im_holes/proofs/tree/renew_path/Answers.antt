use Rattle.std.proofs.Common.{◌/◌, sym, refl, subst, arith}
use Rattle.im_holes.{proofs.Nodes.IsUpTo-up, specs.Tree.IsUpTo}

pub loop-k-preserved : Rattle.im_holes.proofs.tree.renew_path.Goals.loop-k-preserved
loop-k-preserved c =
    subst (λ nodes. IsUpTo c.args.nodes.now nodes (c.loop-k.k / 2)) (sym c.join_node.ensures.joined)
    (IsUpTo-up c.loop-k.nodes (c.loop-k.k / 2) _ (omega (arith, c.loop-k.invariant.inside, c.loop-k.invariant.count))
    (omega arith) refl c.args.nodes.now c.loop-k.k refl c.loop-k.invariant)
