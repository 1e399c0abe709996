use Rattle.std.proofs.Common.{◌≡◌, ℕ, ◌+◌, List, [], length, get_or, set, replicate, sum_by, sym, ap, ◌∙◌, subst, arith}
use Rattle.std.proofs.Common.{eqb-true}
use Rattle.{im_types.specs.Types.Waiter, im_memory.specs.Restoring.Parts, im_contents.proofs.RowLemmas.nobody-listed}
use Rattle.im_image.proofs.Restored.{begun-all, lists-more, ListsPut, nobody, parts-same}
use Rattle.im_image.proofs.area.put_lists.Goals as goal

pub returns-then-has_nobody : goal.returns-then-has_nobody
returns-then-has_nobody c =
    let lists = c.args.lists.now in
    let none : lists ≡ replicate (length lists) [] = nobody-listed lists
    (eqb-true (sum_by length lists) 0 (sym c.has_nobody.ensures ∙ c.if-has_nobody.true)) in
    let same : lists ≡ c.args.restoring.now.lists = none ∙ ap (λ (n : ℕ). replicate n nobody) c.requires.count
    ∙ sym c.requires.nobody in
    ap (λ (ls : List (List Waiter)). with_lists c.args.restoring.now ls) (sym same)
  where
    with_lists : Parts → List (List Waiter) → Parts
    with_lists p ls = record { cells = p.cells; lists = ls; windows = p.windows }

pub loop-cell-preserved : goal.loop-cell-preserved
loop-cell-preserved c =
    let lists = c.args.lists.now in
    let was = c.loop-cell.restoring in
    let i = c.loop-cell.cell in
    let more = lists-more lists was.lists i (omega (arith, c.requires.count)) c.loop-cell.invariant.2 in
    let put : c.put_list.new.self.lists
    ≡ set was.lists i (get_or lists i nobody) = ap (λ (p : Parts). p.lists) c.put_list.ensures
    ∙ ap (λ (waiters : List Waiter). set was.lists i waiters) c.at.ensures in (
      ap (λ (p : Parts). p.cells) c.put_list.ensures ∙ c.loop-cell.invariant.0,
      ap (λ (p : Parts). p.windows) c.put_list.ensures ∙ c.loop-cell.invariant.1,
      subst (λ (now : List (List Waiter)). ListsPut lists now (i + 1)) (sym put) more,
    )

pub returns : goal.returns
returns c =
    let lists = c.args.lists.now in
    let end : c.loop-cell.cell ≡ length lists = omega (arith, c.requires.count) in
    parts-same c.loop-cell.restoring _ c.loop-cell.invariant.0
    (begun-all nobody lists c.loop-cell.restoring.lists
    (subst (λ i. ListsPut lists c.loop-cell.restoring.lists i) end c.loop-cell.invariant.2).begun)
    c.loop-cell.invariant.1
