use Rattle.std.proofs.Common.{refl, ap}
use Rattle.im_trace.{proofs.LogLemmas.log-starts, specs.Lines.LineCounts}

pub invariant_of-log : Rattle.im_trace.proofs.starting.NewLog.named.Goals.invariant_of-log
invariant_of-log g c =
    let i = c.self.invariant in
    let books = c.open_books-books.ensures.books in
    rw c.begun.ensures (log-starts g.K.Name.origin.memory g.K.Name.origin.marks _ _ _ _ refl i.4
    (ap (λ (b : LineCounts). b.lines) books)
    (ap (λ (b : LineCounts). b.marked) books))
