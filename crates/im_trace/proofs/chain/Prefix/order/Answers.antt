use Rattle.im_trace.{proofs.ChainLemmas.first-prefix, proofs.ChainLemmas.ordered, specs.Chains.lines_from}

pub returns-clause-order : Rattle.im_trace.proofs.chain.Prefix.order.Goals.returns-clause-order
returns-clause-order g c =
    let root = g.K.Name.origin.book.lines.root in
    rw (← c.self.view_is, ← c.other.view_is)
    (ordered root c.self.inside.seen.log c.other.inside.seen.log c.both_of-both.result.log _ _
    c.both_of-both.ensures.one c.both_of-both.ensures.two
    (first-prefix c.self.inside.count (lines_from root c.self.inside.seen.log))
    (first-prefix c.other.inside.count (lines_from root c.other.inside.seen.log)))
