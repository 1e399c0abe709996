use Rattle.std.proofs.Common.{get_or, ap, ◌∙◌, arith}
use Rattle.im_types.specs.Types.{NONE, FreeCell}
use Rattle.im_cell.proofs.Rows.{long-rows, row-read}
use Rattle.im_cell.proofs.row.CellRow.at.Goals as goal

pub index-requires : goal.index-requires
index-requires c = let v = c.self.invariant in omega (
  arith,
  c.requires,
  long-rows c.self.inside.states.items c.self.inside.values.items c.self.inside.extents.items c.self.inside.lasts.items c.args.self.now
      c.self.invariant.values_are c.self.invariant.extents_are c.self.invariant.lasts_are c.self.view_is,
)

pub index-requires-2 : goal.index-requires-2
index-requires-2 c = let v = c.self.invariant in omega (
  arith,
  c.requires,
  long-rows c.self.inside.states.items c.self.inside.values.items c.self.inside.extents.items c.self.inside.lasts.items c.args.self.now
      c.self.invariant.values_are c.self.invariant.extents_are c.self.invariant.lasts_are c.self.view_is,
)

pub index-requires-3 : goal.index-requires-3
index-requires-3 c = let v = c.self.invariant in omega (
  arith,
  c.requires,
  long-rows c.self.inside.states.items c.self.inside.values.items c.self.inside.extents.items c.self.inside.lasts.items c.args.self.now
      c.self.invariant.values_are c.self.invariant.extents_are c.self.invariant.lasts_are c.self.view_is,
)

pub index-requires-4 : goal.index-requires-4
index-requires-4 c = let v = c.self.invariant in omega (
  arith,
  c.requires,
  long-rows c.self.inside.states.items c.self.inside.values.items c.self.inside.extents.items c.self.inside.lasts.items c.args.self.now
      c.self.invariant.values_are c.self.invariant.extents_are c.self.invariant.lasts_are c.self.view_is,
)

pub returns : goal.returns
returns c = c.record_of.ensures
    ∙ row-read c.self.inside.states.items c.self.inside.values.items c.self.inside.extents.items c.self.inside.lasts.items c.args.a _ _ _ _ (FreeCell 0 NONE)
    c.self.invariant.values_are c.self.invariant.extents_are c.self.invariant.lasts_are
    (omega (
      arith,
      c.requires,
      long-rows c.self.inside.states.items c.self.inside.values.items c.self.inside.extents.items c.self.inside.lasts.items c.args.self.now
          c.self.invariant.values_are c.self.invariant.extents_are c.self.invariant.lasts_are c.self.view_is,
    ))
    c.index.ensures c.index-2.ensures c.index-3.ensures c.index-4.ensures
    ∙ ap (λ row. get_or row c.args.a (FreeCell 0 NONE)) c.self.view_is
