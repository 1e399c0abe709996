use Rattle.std.proofs.Common.{◌≡◌, ℕ, ap, ◌∙◌, subst}
use Rattle.im_trace.proofs.{ChainLemmas.known, TimeLemmas.time-later}
use Rattle.im_trace.specs.{Books.LinesBook, Chains.times_from, Chains.WrittenState}
use mathlib.Core.List.{IsPrefix}

pub returns-clause-time : Rattle.im_trace.proofs.when.Written.times.Goals.returns-clause-time
returns-clause-time g c =
    let mine = c.self.inside.first.value.nib.key in let root = g.K.Name.origin.book.lines.root in
    let log = c.self.inside.seen.log in let other = c.when.inside.seen.log in
    let same : mine ≡ root = ap (λ (s : WrittenState). s.book.root) c.self.view_is
    ∙ ap (λ (b : LinesBook). b.root) c.requires.book in
    let begins = subst (λ (k : ℕ). IsPrefix (times_from k other) (times_from mine log)) same
    (known (λ l. l.time) mine c.self.inside.pen.nib.key log other c.look.ensures.known c.self.invariant.3) in
    rw (← c.when.view_is, ← c.self.view_is)
    (time-later (times_from root other) (times_from mine log) c.when.inside.lines.value begins c.when.invariant.0)
