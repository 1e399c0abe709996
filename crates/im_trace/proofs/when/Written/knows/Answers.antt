use Rattle.std.proofs.Common.{◌≡◌, ℕ, ap, ◌∙◌, subst}
use Rattle.im_trace.proofs.ChainLemmas.{first-prefix, known, prefix-trans}
use Rattle.im_trace.specs.{Books.LinesBook, Chains.lines_from, Chains.WrittenState}
use mathlib.Core.List.{IsPrefix}

pub returns-clause-known : Rattle.im_trace.proofs.when.Written.knows.Goals.returns-clause-known
returns-clause-known g c =
    let mine = c.self.inside.first.value.nib.key in let root = g.K.Name.origin.book.lines.root in
    let log = c.self.inside.seen.log in let other = c.prefix.inside.seen.log in
    let same : mine ≡ root = ap (λ (s : WrittenState). s.book.root) c.self.view_is
    ∙ ap (λ (b : LinesBook). b.root) c.requires.book in
    rw (← c.prefix.view_is, ← c.self.view_is)
    (prefix-trans _ (lines_from root other) _ (first-prefix c.prefix.inside.count (lines_from root other))
    (subst (λ (k : ℕ). IsPrefix (lines_from k other) (lines_from mine log)) same
    (known (λ l. l.line) mine c.self.inside.pen.nib.key log other c.look.ensures.known c.self.invariant.3)))
