use Rattle.std.proofs.Common.{sym, ap, ◌∙◌, subst}
use Rattle.im_glass.{proofs.RuleLemmas.moves, specs.Copies.CopyState, specs.Copies.IsKeptCopy}

pub publish_as-both-requires : Rattle.im_glass.proofs.sides.publish.Goals.publish_as-both-requires
publish_as-both-requires g c next is =
    moves _ _ c.args.both.desk.shown.value next (ap (λ (s : CopyState). s.0.book) is ∙ c.requires.book)
    (λ _. subst (λ (s : CopyState). IsKeptCopy s) (sym is) c.requires.kept)
