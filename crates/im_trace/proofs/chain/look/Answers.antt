use Rattle.std.proofs.Common.{List, sym, ap, ◌∙◌, subst}
use Rattle.im_trace.{proofs.ChainLemmas.look_moves, proofs.ChainLemmas.prefix-trans, specs.declared.rule.Link.Link}
use mathlib.Core.List.{IsPrefix}
use Rattle.im_trace.proofs.chain.look.Goals as goal

pub compare_exchange-zero-requires : goal.compare_exchange-zero-requires
compare_exchange-zero-requires c =
    let h = c.requires in
    let offer = c.plain-offer.ensures in (
      ap (λ w. w.tracked) h.head,
      c.learn.ensures.0 ∙ ap (λ s. s.book) c.again-all.ensures ∙ sym (ap (λ w. w.book) h.head),
      h.pen.0 ∙ sym (ap (λ w. w.book) h.head),
      offer.0,
      rw (ap (λ w. w.key) h.head, offer.3)
          (look_moves c.learn.new.self.log c.args.pen.now.nib c.plain-offer.result.ask h.pen.1),
    )

pub returns-clause-known : goal.returns-clause-known
returns-clause-known c =
    let z = c.compare_exchange-zero.ensures in
    let both = c.learn.new.self.log in
    let this : IsPrefix c.args.known.now.log both = subst (λ (l : List Link). IsPrefix l both)
    (ap (λ s. s.log) c.again-all.ensures) c.learn.ensures.2 in record {
      all = c.compare_exchange-zero.new.seen.log;
      goes = prefix-trans _ both _ this z.6;
      holds = prefix-trans _ both _ c.learn.ensures.3 z.6;
      apart = z.7.0;
    }
