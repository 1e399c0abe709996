use Rattle.std.proofs.Common.{◌≡◌, ℕ, List, length, ◌==◌, sum_by, sym, ap, ◌∙◌, arith}
use Rattle.im_types.specs.Types.{Waiter}
use Rattle.im_contents.proofs.RowLemmas.{sum-spread}

pub returns : Rattle.im_contents.proofs.lists.Lists.has_nobody.Goals.returns
returns c =
    let i = c.self.inside in
    let all : sum_by length (c.args.self.now) ≡ i.waiters.len =
    ap (λ (ls : List (List Waiter)). sum_by length ls) (sym c.self.view_is)
    ∙ omega (arith, sum-spread i.waiters.items i.ends.items i.cells c.self.invariant.0) in
    c.is_empty.ensures ∙ ap (λ (n : ℕ). n == 0) (sym all)
