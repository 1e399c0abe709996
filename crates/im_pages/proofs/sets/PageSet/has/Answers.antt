use Rattle.std.proofs.Common.{true, length, sym, ap, ◌∙◌, arith}
use Rattle.std.proofs.lemmas.List.{get_or_past}
use Rattle.im_pages.{proofs.BitLemmas.length-bits, proofs.BitLemmas.read, specs.PageSets.has, specs.Words.is_set}
use Rattle.im_pages.proofs.sets.PageSet.has.Goals as goal

pub returns-then-page-self : goal.returns-then-page-self
returns-then-page-self c =
    let e = c.self.inside in
    sym (get_or_past c.args.self.now c.args.page true
    (omega (arith, ap length c.self.view_is, length-bits e.words.items 0 e.pages)))

pub returns : goal.returns
returns c =
    let e = c.self.inside in
    c.is_set.ensures ∙ ap (λ w. is_set w c.args.page) c.as_slice.ensures.value
    ∙ sym (read e.words.items e.pages c.args.page true (omega arith)) ∙ ap (λ s. has s c.args.page) c.self.view_is
