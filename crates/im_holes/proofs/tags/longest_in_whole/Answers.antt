use Rattle.std.proofs.Common.{◌≡◌, ◌+◌, ◌*◌, max, sym, ap, ◌∙◌, subst, arith}
use Rattle.im_holes.proofs.Cuts.{IsLargestTo, IsLargestTo-more}
use Rattle.im_holes.specs.{declared.tags.TheConstants.PART, Holes.begin_at}

pub loop-past-preserved : Rattle.im_holes.proofs.tags.longest_in_whole.Goals.loop-past-preserved
loop-past-preserved c =
    let next : c.args.leaf * PART + c.loop-past.past + 1 ≡ c.args.leaf * PART + (c.loop-past.past + 1) = omega arith in
    subst (λ at. IsLargestTo (begin_at c.args.begins.now c.args.tags.now) c.args.leaf at c.max-longest.result) next
    (subst (IsLargestTo (begin_at c.args.begins.now c.args.tags.now) c.args.leaf
    (c.args.leaf * PART + c.loop-past.past + 1))
    (sym (c.max-longest.ensures ∙ ap (λ n. max n c.loop-past.longest) c.begin.ensures))
    (IsLargestTo-more (begin_at c.args.begins.now c.args.tags.now) c.args.leaf (c.args.leaf * PART + c.loop-past.past)
    c.loop-past.longest (omega arith) c.loop-past.invariant))
