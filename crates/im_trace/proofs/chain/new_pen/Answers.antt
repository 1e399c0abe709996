use Rattle.std.proofs.Common.{sym, ap, ◌∙◌}
use Rattle.im_trace.proofs.ChainLemmas.{grow_moves}

pub compare_exchange-zero-requires : Rattle.im_trace.proofs.chain.new_pen.Goals.compare_exchange-zero-requires
compare_exchange-zero-requires c =
    let h = c.requires in
    let offer = c.plain-offer.ensures in
    let pen = c.no_pen-pen.ensures in
    let seen = ap (λ s. s.book) c.again-seen.ensures in (
      ap (λ w. w.tracked) h,
      seen ∙ sym (ap (λ w. w.book) h),
      pen.0 ∙ seen ∙ sym (ap (λ w. w.book) h),
      offer.0,
      rw (ap (λ w. w.key) h, pen.1, offer.3) (grow_moves c.again-seen.result.log c.plain-offer.result.ask),
    )
