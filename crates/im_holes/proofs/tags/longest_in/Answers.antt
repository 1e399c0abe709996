use Rattle.std.proofs.Common.{◌+◌, max, sym, ap, ◌∙◌, subst, arith}
use Rattle.im_holes.{proofs.Cuts.IsLargestTo, proofs.Cuts.IsLargestTo-more, specs.Holes.begin_at}

pub loop-at-preserved : Rattle.im_holes.proofs.tags.longest_in.Goals.loop-at-preserved
loop-at-preserved c =
    subst (IsLargestTo (begin_at c.args.begins.now c.args.tags.now) c.args.leaf (c.loop-at.at + 1))
    (sym (c.max-longest.ensures ∙ ap (λ n. max n c.loop-at.longest) c.begin.ensures))
    (IsLargestTo-more (begin_at c.args.begins.now c.args.tags.now) c.args.leaf c.loop-at.at c.loop-at.longest
    (omega (arith, c.min-at-end.ensures, c.loop-at.auto.at)) c.loop-at.invariant)
