use Rattle.std.proofs.Common.{length, IsSome, Some, sym, ap, ◌∙◌, subst, arith}
use Rattle.im_holes.{proofs.Kept.number-inside, proofs.Kept.number-is, specs.Holes.holder_at, specs.Holes.kept_at}
use Rattle.im_holes.proofs.holes.Holes.number.Goals as goal

pub tag-requires : goal.tag-requires
tag-requires c = let i = number-inside c.self.inside.begins.items c.self.inside.tags.items c.self.inside.nodes.items
    c.args.k 0 c.self.invariant (subst (λ cells. IsSome (holder_at cells c.args.k)) (sym c.self.view_is) c.requires) in
    omega (arith, i, ap length c.as_slice.ensures.value)

pub returns : goal.returns
returns c = ap (λ cells. holder_at cells c.args.k) (sym c.self.view_is)
    ∙ number-is c.self.inside.begins.items c.self.inside.tags.items c.self.inside.nodes.items
    c.args.k 0 c.self.invariant (subst (λ cells. IsSome (holder_at cells c.args.k)) (sym c.self.view_is) c.requires)
    ∙ ap Some (sym (c.tag.ensures ∙ ap (λ tags. kept_at tags c.args.k) c.as_slice.ensures.value))
