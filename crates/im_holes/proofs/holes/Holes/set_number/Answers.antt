use Rattle.std.proofs.Common.{set, IsSome, Some, sym, ap, ◌∙◌, subst, arith}
use Rattle.im_holes.proofs.Kept.{number-inside, numbered-cells, numbered-holes}
use Rattle.im_holes.specs.Holes.{holder_at}
use Rattle.im_holes.proofs.holes.Holes.set_number.Goals as goal

pub index_mut-requires : goal.index_mut-requires
index_mut-requires c = omega (
  arith,
  number-inside c.self.inside.begins.items c.self.inside.tags.items
      c.self.inside.nodes.items c.args.k 0 c.self.invariant
      (subst (λ cells. IsSome (holder_at cells c.args.k)) (sym c.self.view_is) c.requires),
)

pub invariant_of-self : goal.invariant_of-self
invariant_of-self c = numbered-holes c.self.inside.begins.items c.self.inside.tags.items c.self.inside.nodes.items
    c.args.k c.args.number c.self.invariant
    (subst (λ cells. IsSome (holder_at cells c.args.k)) (sym c.self.view_is) c.requires)

pub returns : goal.returns
returns c = numbered-cells c.self.inside.begins.items c.self.inside.tags.items c.self.inside.nodes.items
    c.args.k c.args.number c.self.invariant
    (subst (λ cells. IsSome (holder_at cells c.args.k)) (sym c.self.view_is) c.requires)
    ∙ ap (λ cells. set cells c.args.k (Some c.args.number)) c.self.view_is
