use Rattle.std.proofs.Common.{◌≡◌, ℕ, ◌≤◌, length, sym, ap, ◌∙◌, subst, arith}
use Rattle.im_trace.proofs.ChainLemmas.{times-length}
use Rattle.im_trace.specs.Chains.{ChainState, lines_from, times_from}

pub invariant_of-result : Rattle.im_trace.proofs.chain.Chain.when.Goals.invariant_of-result
invariant_of-result g c =
    let root = g.K.Name.origin.book.lines.root in let log = c.self.inside.seen.log in
    let few : c.args.count ≤ length (lines_from root log) =
    subst (λ (s : ChainState). c.args.count ≤ length s.lines) (sym c.self.view_is) c.requires.few in
    rw (c.of.ensures, c.again.ensures) (omega (arith, few, times-length root log), c.self.invariant.1)
