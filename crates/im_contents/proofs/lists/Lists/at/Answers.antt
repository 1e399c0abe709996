use Rattle.std.proofs.Common.{◌≡◌, ◌-◌, List, length, take, drop, sym, ap, ◌∙◌, arith}
use Rattle.im_types.specs.Types.{Waiter}
use Rattle.im_contents.proofs.RowLemmas.{spread-behind, Stands, stands_at}
use Rattle.im_contents.proofs.lists.Lists.at.Goals as goal

pub returns-then-cell-len : goal.returns-then-cell-len
returns-then-cell-len c =
    let i = c.self.inside in
    sym (spread-behind i.waiters.items i.ends.items i.cells c.args.cell c.args.self.now c.self.view_is
    c.self.invariant.1 c.requires (omega arith))

-- where the list stands
place : (c : goal.After-deref-2)
    → Stands c.self.inside.waiters.items c.args.self.now c.args.cell c.start_of-start.result c.index.result.now
place c =
    let i = c.self.inside in
    stands_at i.waiters.items i.ends.items c.args.self.now c.args.cell c.start_of-start.result
    c.index.result.now i.cells
    c.self.view_is c.self.invariant.0 (omega arith) c.deref.result.now c.deref.ensures.value c.start_of-start.ensures
    c.index.result.now c.index.ensures

pub offset_bounds-deref-start : goal.offset_bounds-deref-start
offset_bounds-deref-start c =
    let s = place c in
    let same : length c.deref-2.result.now ≡ length c.self.inside.waiters.items = ap length c.deref-2.ensures.value in
    let fits = c.deref-2.type_inv in
    omega (arith, s.from, s.to, fits.1)

pub slice_bounds-result-count : goal.slice_bounds-result-count
slice_bounds-result-count c = (place c).from

pub slice_bounds-result-start : goal.slice_bounds-result-start
slice_bounds-result-start c = (place c).from

pub slice_bounds-result-end-2 : goal.slice_bounds-result-end-2
slice_bounds-result-end-2 c =
    let s = place c in
    let same : length c.deref-2.result.now ≡ length c.self.inside.waiters.items = ap length c.deref-2.ensures.value in
    omega (arith, s.to)

pub returns : goal.returns
returns c =
    let s =
    stands_at c.self.inside.waiters.items c.self.inside.ends.items c.args.self.now c.args.cell c.start_of-start.result
    c.index.result.now c.self.inside.cells
    c.self.view_is c.self.invariant.0 (omega arith) c.deref.result.now c.deref.ensures.value c.start_of-start.ensures
    c.index.result.now c.index.ensures in
    ap (λ (l : List Waiter). take (c.index.result.now - c.start_of-start.result)
    (drop c.start_of-start.result l)) c.deref-2.ensures.value ∙ s.list
