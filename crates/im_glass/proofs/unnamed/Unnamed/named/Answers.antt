use Rattle.std.proofs.Common.{◌≡◌, true, List, length, sym, ap, ◌∙◌, subst, arith}
use Rattle.logbook.specs.Pages.{Book}
use Rattle.std.specs.List.{AllByRecursion}
use Rattle.im_types.specs.Types.{is_below, Change}
use Rattle.im_glass.specs.Panes.{UnnamedView}

pub invariant_of-result : Rattle.im_glass.proofs.unnamed.Unnamed.named.Goals.invariant_of-result
invariant_of-result g c =
    let i = c.self.invariant in
    let now = c.self.inside.both.desk.shown.value in
    let book : c.self.inside.book.seen.book ≡ g.J.PaneName.book = ap (λ (u : UnnamedView). u.book) c.self.view_is
    ∙ c.requires in (
      c.named-book.ensures ∙ i.1,
      i.0,
      i.2 ∙ book,
      i.3,
      i.4,
      subst (λ (b : Book). AllByRecursion (λ (a : Book). a ≡ b) c.self.inside.spare.items) book i.5,
      subst (λ (l : List Change). AllByRecursion (λ (d : Change). is_below (length now.cells) d ≡ true) l)
          (sym i.6) tt,
      omega (arith, i.7, ap length i.6),
      i.8,
    )
