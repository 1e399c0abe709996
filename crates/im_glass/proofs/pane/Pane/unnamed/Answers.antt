use Rattle.std.proofs.Common.{◌≡◌, sym, ap, ◌∙◌, subst, arith}
use Rattle.logbook.specs.Pages.{Book}
use Rattle.std.specs.List.{AllByRecursion}
use Rattle.im_glass.specs.Panes.{PaneView}

pub invariant_of-result : Rattle.im_glass.proofs.pane.Pane.unnamed.Goals.invariant_of-result
invariant_of-result g c =
    let i = c.self.invariant in (
      i.1,
      c.unnamed.ensures.log ∙ i.0,
      i.2 ∙ sym c.unnamed.ensures.book,
      i.3,
      i.4,
      subst (λ (book : Book). AllByRecursion (λ (b : Book). b ≡ book) c.self.inside.spare.items)
          (sym c.unnamed.ensures.book) i.5,
      ap (λ (p : PaneView). p.ahead) c.self.view_is ∙ c.requires,
      omega (arith, i.7),
      i.8,
    )
