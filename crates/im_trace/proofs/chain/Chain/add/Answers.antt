use Rattle.std.proofs.Common.{ℕ, List, [], ◌∷◌, ◌++◌, length, sym, refl, ap, ◌∙◌}
use Rattle.im_types.specs.Types.{Line}
use Rattle.im_trace.{proofs.ChainLemmas.add_moves, proofs.ChainLemmas.added, specs.declared.rule.Link.Link}
use Rattle.im_trace.proofs.chain.Chain.add.Goals as goal

pub compare_exchange-zero-requires : goal.compare_exchange-zero-requires
compare_exchange-zero-requires g c =
    let h = c.self.invariant in
    let offer = c.plain-offer.ensures in (
      ap (λ w. w.tracked) h.0,
      h.1 ∙ sym (ap (λ w. w.book) h.0),
      h.2 ∙ sym (ap (λ w. w.book) h.0),
      offer.0,
      rw (ap (λ w. w.key) h.0, offer.3)
          (add_moves c.self.inside.seen.log c.self.inside.pen.nib c.plain-offer.result.ask h.3),
    )

pub invariant_of-self : goal.invariant_of-self
invariant_of-self g c =
    let h = c.self.invariant in let z = c.compare_exchange-zero.ensures in let it = z.7 in
    let all = added (λ l. l.line) g.K.Name.origin.book.lines.root c.self.inside.pen.nib.key c.self.inside.seen.log it.0
    c.compare_exchange-zero.new.seen.log _ it.1 it.2 h.4 refl it.3 in (
      h.0,
      z.0 ∙ h.1,
      c.new_pen.ensures.book ∙ h.1,
      c.new_pen.ensures.right,
      all.1 ∙ ap (λ (l : Link). l.next) c.plain-offer.ensures.1,
      h.5,
      h.6,
    )

pub returns-clause-lines : goal.returns-clause-lines
returns-clause-lines g c =
    let h = c.self.invariant in let z = c.compare_exchange-zero.ensures in let it = z.7 in
    let all = added (λ l. l.line) g.K.Name.origin.book.lines.root c.self.inside.pen.nib.key c.self.inside.seen.log it.0
    c.compare_exchange-zero.new.seen.log _ it.1 it.2 h.4 refl it.3 in
    all.0 ∙ ap (λ (ls : List Line). ls ++ c.plain-offer.result.ask.line ∷ []) (ap (λ s. s.lines) c.self.view_is)
    ∙ ap (λ (l : Link). c.args.self.now.lines ++ l.line ∷ []) c.plain-offer.ensures.1
    ∙ ap (λ (l : Line). c.args.self.now.lines ++ l ∷ []) c.of.ensures

pub returns-clause-times : goal.returns-clause-times
returns-clause-times g c =
    let h = c.self.invariant in let z = c.compare_exchange-zero.ensures in let it = z.7 in
    let all = added (λ l. l.time) g.K.Name.origin.book.lines.root c.self.inside.pen.nib.key c.self.inside.seen.log it.0
    c.compare_exchange-zero.new.seen.log _ it.1 it.2 h.4 refl it.3 in
    all.0 ∙ ap (λ (ls : List ℕ). ls ++ c.plain-offer.result.ask.time ∷ []) (ap (λ s. s.times) c.self.view_is)
    ∙ ap (λ (l : Link). c.args.self.now.times ++ l.time ∷ []) c.plain-offer.ensures.1
    ∙ ap (λ d. c.args.self.now.times ++ length (g.D.Disk.past d) ∷ []) c.of-2.ensures
