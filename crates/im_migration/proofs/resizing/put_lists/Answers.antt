use Rattle.std.proofs.Common.{◌≡◌, ℕ, ◌+◌, ◌<◌, List, length, get_or, set, sym, refl, ap, ◌∙◌, subst, arith}
use Rattle.std.proofs.lemmas.List.Sums.{sum_by_more_le}
use Rattle.{im_types.specs.Types.Waiter, im_memory.specs.Restoring.Parts}
use Rattle.im_image.proofs.Restored.{begun-all, lists-more, ListsPut, parts-same}
use Rattle.im_migration.{proofs.Chained.nobody, specs.Resizing.fitted, specs.Resizing.lists_of}
use Rattle.im_migration.proofs.OtherSizes.{length-lists-of, list-at, no_cell, none-put}
use Rattle.im_migration.proofs.resizing.put_lists.Goals as goal

pub loop-a-init : goal.loop-a-init
loop-a-init c =
    let cells = c.args.memory.now.contents.cells in
    let lists = lists_of (fitted no_cell c.args.cells cells) in (
      refl,
      refl,
      none-put lists c.args.restoring.now.lists c.args.cells (length-lists-of c.args.cells cells) c.requires.nobody,
    )

pub put_list-requires-clause-cell : goal.put_list-requires-clause-cell
put_list-requires-clause-cell c = omega (
  arith,
  c.loop-a-test.true,
  c.loop-a.auto.a-end,
  c.loop-a.invariant.2.begun.many,
  length-lists-of c.args.cells c.args.memory.now.contents.cells,
)

pub put_list-requires-clause-room : goal.put_list-requires-clause-room
put_list-requires-clause-room c =
    let cells = c.args.memory.now.contents.cells in
    let lists = lists_of (fitted no_cell c.args.cells cells) in
    let i = c.loop-a.a in
    let inside : i < c.args.cells = omega (arith, c.loop-a-test.true, c.loop-a.auto.a-end) in
    let here : length c.deref.result.now ≡ length (get_or lists i nobody) =
    ap length (c.deref.ensures.value ∙ c.in_ok-waiters.ensures ∙ sym (list-at c.args.cells cells i inside)) in
    omega (
      arith,
      c.requires.room,
      here,
      c.loop-a.invariant.2.sum,
      ap length c.loop-a.invariant.1,
      sum_by_more_le length lists i nobody (omega (arith, inside, length-lists-of c.args.cells cells)),
    )

pub loop-a-preserved : goal.loop-a-preserved
loop-a-preserved c =
    let cells = c.args.memory.now.contents.cells in
    let lists = lists_of (fitted no_cell c.args.cells cells) in
    let was = c.loop-a.restoring in
    let i = c.loop-a.a in
    let inside : i < c.args.cells = omega (arith, c.loop-a-test.true, c.loop-a.auto.a-end) in
    let more =
    lists-more lists was.lists i (omega (arith, inside, length-lists-of c.args.cells cells)) c.loop-a.invariant.2 in
    let put : c.put_list.new.self.lists ≡ set was.lists i (get_or lists i nobody) =
    ap (λ (p : Parts). p.lists) c.put_list.ensures
    ∙ ap (λ (waiters : List Waiter). set was.lists i waiters)
    (c.deref.ensures.value ∙ c.in_ok-waiters.ensures ∙ sym (list-at c.args.cells cells i inside)) in (
      ap (λ (p : Parts). p.cells) c.put_list.ensures ∙ c.loop-a.invariant.0,
      ap (λ (p : Parts). p.windows) c.put_list.ensures ∙ c.loop-a.invariant.1,
      subst (λ (now : List (List Waiter)). ListsPut lists now (i + 1)) (sym put) more,
    )

pub returns : goal.returns
returns c =
    let cells = c.args.memory.now.contents.cells in
    let lists = lists_of (fitted no_cell c.args.cells cells) in
    let end : c.loop-a.a ≡ length lists = omega
    (arith, c.loop-a-test.false, c.loop-a.auto.a-end, length-lists-of c.args.cells cells) in
    parts-same c.loop-a.restoring _ c.loop-a.invariant.0
    (begun-all nobody lists c.loop-a.restoring.lists
    (subst (λ (i : ℕ). ListsPut lists c.loop-a.restoring.lists i) end c.loop-a.invariant.2).begun)
    c.loop-a.invariant.1
