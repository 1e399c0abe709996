use Rattle.std.proofs.Common.{sym, ap, ◌∙◌}
use Rattle.im_glass.proofs.BookLemmas.{adds_moves}

pub compare_exchange-found-requires : Rattle.im_glass.proofs.book.Beginning.add.Goals.compare_exchange-found-requires
compare_exchange-found-requires g c =
    let h = c.book.invariant in
    let offer = c.plain-offer.ensures in
    let pen = c.no_pen-pen.ensures in (
      ap (λ w. w.tracked) h,
      c.self.invariant.1 ∙ sym (ap (λ w. w.book) h),
      pen.0 ∙ (c.self.invariant.1 ∙ sym (ap (λ w. w.book) h)),
      offer.0,
      rw (ap (λ w. w.key) h, pen.1, offer.1, offer.3)
          (adds_moves c.self.inside.seen.log c.args.change c.self.inside.count (sym c.self.invariant.0)),
    )
