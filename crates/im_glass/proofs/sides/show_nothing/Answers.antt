use Rattle.std.proofs.Common.{sym, ap, ◌∙◌, subst}
use Rattle.im_glass.{proofs.CopyLemmas.idle-all, specs.Copies.CopyState, specs.Copies.IsKeptCopy, specs.Rule.copy_state}
use Rattle.im_glass.proofs.sides.show_nothing.Goals as goal

pub publish-requires-clause-kept : goal.publish-requires-clause-kept
publish-requires-clause-kept g c = subst (λ (s : CopyState). IsKeptCopy s)
    (sym (idle-all _ (copy_state c.args.both.desk.shown.value) c.requires.idle)) c.requires.kept

pub publish-requires-clause-book : goal.publish-requires-clause-book
publish-requires-clause-book g c = ap (λ (s : CopyState). s.0.book)
    (idle-all _ (copy_state c.args.both.desk.shown.value) c.requires.idle)

pub returns-clause-state : goal.returns-clause-state
returns-clause-state g c =
    c.publish.ensures.state ∙ idle-all _ (copy_state c.args.both.desk.shown.value) c.requires.idle
