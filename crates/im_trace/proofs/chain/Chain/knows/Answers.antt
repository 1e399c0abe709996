use Rattle.im_trace.proofs.ChainLemmas.{first-prefix, known, prefix-trans}
use Rattle.im_trace.specs.Chains.{lines_from}

pub returns-clause-known : Rattle.im_trace.proofs.chain.Chain.knows.Goals.returns-clause-known
returns-clause-known g c =
    let root = g.K.Name.origin.book.lines.root in let other = c.prefix.inside.seen.log in
    rw (← c.prefix.view_is, ← c.self.view_is)
    (prefix-trans _ (lines_from root other) _ (first-prefix c.prefix.inside.count (lines_from root other))
    (known (λ l. l.line) root c.self.inside.pen.nib.key c.self.inside.seen.log other c.look.ensures.known
    c.self.invariant.4))
