use Rattle.std.proofs.Common.{◌≡◌, ℕ, Bool, List, length, if◌then◌else◌, Some, None, sym, ap, ◌∙◌, subst, arith}
use Rattle.std.proofs.lemmas.List.{at_drop_more}
use Rattle.im_types.specs.Types.{NONE, CellRecord, FreeCell as Free}
use Rattle.im_contents.proofs.RowLemmas.{IsEndKept}
use Rattle.im_contents.proofs.StepLemmas.{all_walked, cell_found, cell_lost, none_in}
use Rattle.im_contents.specs.{Row.spread, Walk.after_lists, Walk.met_after, Walk.walk_all, Walk.walk_cell}
use Rattle.im_contents.proofs.walk.find_lists.Goals as goal

pub returns-then-not-branch : goal.returns-then-not-branch
returns-then-not-branch c =
    let come = c.loop-cell.invariant.walked
    ∙ at_drop_more (λ (cs : List CellRecord). after_lists
    (spread c.loop-cell.waiters.items c.loop-cell.ends.items c.loop-cell.cell)
    (walk_all c.args.nodes.now cs c.loop-cell.marks)) c.args.cells.now c.loop-cell.cell (Free 0 NONE)
    (omega arith) in
    sym (none_in c.args.nodes.now c.args.cells.now
    (cell_lost c.args.nodes.now _ _ c.loop-cell.marks c.loop-cell.waiters.items c.loop-cell.ends.items
    c.loop-cell.cell _ come
    (ap (λ (cell : CellRecord). met_after c.loop-cell.waiters.items
    (walk_cell c.args.nodes.now cell c.loop-cell.marks))
    (sym c.at.ensures) ∙ c.in_ok-walk_cell.ensures
    ∙ ap (λ (b : Bool). if b then Some
    (record { waiters = c.walk_cell.new.waiters.items; marks = c.walk_cell.new.marks })
    else None) c.if-not-branch.true)))

pub loop-cell-preserved : goal.loop-cell-preserved
loop-cell-preserved c =
    let come = c.loop-cell.invariant.walked
    ∙ at_drop_more (λ (cs : List CellRecord). after_lists
    (spread c.loop-cell.waiters.items c.loop-cell.ends.items c.loop-cell.cell)
    (walk_all c.args.nodes.now cs c.loop-cell.marks)) c.args.cells.now c.loop-cell.cell (Free 0 NONE)
    (omega arith) in
    let start : c.len-start.result ≡ length c.loop-cell.waiters.items = omega arith in
    let end : c.len-in-loop-cell.result ≡ length c.walk_cell.new.waiters.items = omega arith in
    let keeps : IsEndKept c.loop-cell.ends.items c.keep_end.new.ends.items c.loop-cell.cell
    (length c.loop-cell.waiters.items) (length c.walk_cell.new.waiters.items) =
    subst (λ (n : ℕ). IsEndKept c.loop-cell.ends.items c.keep_end.new.ends.items c.loop-cell.cell
    n (length c.walk_cell.new.waiters.items)) start
    (subst (λ (n : ℕ). IsEndKept c.loop-cell.ends.items c.keep_end.new.ends.items c.loop-cell.cell
    c.len-start.result n) end
    (record { some = c.in_ok-keep_end.ensures.some; none = c.in_ok-keep_end.ensures.none })) in
    let further =
    cell_found c.args.nodes.now _ _ c.loop-cell.marks c.loop-cell.waiters.items c.loop-cell.ends.items c.loop-cell.cell
    _ come c.loop-cell.invariant.rise c.loop-cell.invariant.few c.keep_end.new.ends.items
    c.walk_cell.new.waiters.items c.walk_cell.new.marks
    (ap (λ (cell : CellRecord). met_after c.loop-cell.waiters.items
    (walk_cell c.args.nodes.now cell c.loop-cell.marks))
    (sym c.at.ensures) ∙ c.in_ok-walk_cell.ensures
    ∙ ap (λ (b : Bool). if b then Some
    (record { waiters = c.walk_cell.new.waiters.items; marks = c.walk_cell.new.marks })
    else None) c.if-not-branch.false) keeps in
    record {
      size = c.walk_cell.auto.marks ∙ c.loop-cell.invariant.size;
      rise = further.rise;
      few = further.few;
      walked = further.is;
    }

pub returns-then-are_reached : goal.returns-then-are_reached
returns-then-are_reached c =
    let all : c.loop-cell.cell ≡ c.len-cells.result = omega arith in
    sym (all_walked c.args.nodes.now c.args.cells.now
    (spread c.loop-cell.waiters.items c.loop-cell.ends.items c.loop-cell.cell) c.loop-cell.marks c.loop-cell.cell
    c.loop-cell.invariant.walked (omega arith)
    ∙ ap (λ (b : Bool). if b then Some (spread c.loop-cell.waiters.items c.loop-cell.ends.items c.loop-cell.cell)
    else None)
    (sym c.if-are_reached.ensures)
    ∙ ap (λ (n : ℕ). Some (spread c.loop-cell.waiters.items c.loop-cell.ends.items n)) all)

pub returns-else-are_reached : goal.returns-else-are_reached
returns-else-are_reached c =
    sym (all_walked c.args.nodes.now c.args.cells.now
    (spread c.loop-cell.waiters.items c.loop-cell.ends.items c.loop-cell.cell) c.loop-cell.marks c.loop-cell.cell
    c.loop-cell.invariant.walked (omega arith)
    ∙ ap (λ (b : Bool). if b then Some (spread c.loop-cell.waiters.items c.loop-cell.ends.items c.loop-cell.cell)
    else None)
    (sym c.if-are_reached.ensures))
