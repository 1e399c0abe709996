use Rattle.std.proofs.Common.{length, sym, ap, ◌∙◌, subst}
use Rattle.im_glass.{proofs.CopyLemmas.brought, specs.Copies.CopyState, specs.Copies.IsKeptCopy, specs.Rule.copy_state}
use Rattle.im_glass.proofs.sides.show_all.Goals as goal

pub publish-requires-clause-kept : goal.publish-requires-clause-kept
publish-requires-clause-kept g c =
    (brought _ g.J.PaneName.book
    (copy_state c.args.both.desk.shown.value) c.requires.kept.0 c.requires.kept.1 c.requires.goes_on).kept

pub publish-requires-clause-book : goal.publish-requires-clause-book
publish-requires-clause-book g c =
    (brought _ g.J.PaneName.book
    (copy_state c.args.both.desk.shown.value) c.requires.kept.0 c.requires.kept.1 c.requires.goes_on).book_is
    ∙ sym c.requires.kept.0

pub returns-clause-log : goal.returns-clause-log
returns-clause-log g c =
    ap (λ (s : CopyState). s.0.log) c.publish.ensures.state
    ∙ (brought _ g.J.PaneName.book
    (copy_state c.args.both.desk.shown.value) c.requires.kept.0 c.requires.kept.1 c.requires.goes_on).log

pub returns-clause-kept : goal.returns-clause-kept
returns-clause-kept g c =
    let it = brought _ g.J.PaneName.book
    (copy_state c.args.both.desk.shown.value) c.requires.kept.0 c.requires.kept.1 c.requires.goes_on in (
      ap (λ (s : CopyState). s.0.book) c.publish.ensures.state ∙ it.book_is,
      subst (λ (s : CopyState). IsKeptCopy s) (sym c.publish.ensures.state) it.kept,
    )

pub returns-clause-cells : goal.returns-clause-cells
returns-clause-cells g c =
    ap (λ (s : CopyState). length s.1) c.publish.ensures.state
    ∙ (brought _ g.J.PaneName.book
    (copy_state c.args.both.desk.shown.value) c.requires.kept.0 c.requires.kept.1 c.requires.goes_on).cells
