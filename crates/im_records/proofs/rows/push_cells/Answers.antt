use Rattle.std.proofs.Common.{◌≡◌, [], ◌∷◌, ◌++◌, length, Some, ap, arith, length-append, rules}
use Rattle.im_types.specs.Types.{NONE, FreeCell, cell_bytes, FitsCell}
use Rattle.im_records.proofs.RowLemmas.{begin_behind, none_behind}
use Rattle.im_records.proofs.rows.push_cells.Goals as goal

pub returns-in_default-clause-bad : goal.returns-in_default-clause-bad
returns-in_default-clause-bad c = λ e area all stands begin.
    none_behind 32 cell_bytes (FitsCell c.args.cells c.args.nodes) (FreeCell 0 NONE)
    (length c.args.row.now) c.loop-i.i c.args.cells c.args.piece.now area all stands
    (omega (arith, c.requires.inside, c.loop-i-test.true))
    (omega (arith, c.requires.few, c.loop-i-test.true))
    (λ x spells. let is : c.cell_within.result ≡ Some x = c.cell_within.ensures.only x spells in search rules) begin

pub loop-i-preserved : goal.loop-i-preserved
loop-i-preserved c =
    let grown : c.push.new.self ≡ c.loop-i.row ++ c.in-Some.cell ∷ [] = c.in_default-push.ensures in
    record {
      many = omega (arith, ap length grown, length-append c.loop-i.row (c.in-Some.cell ∷ []), c.loop-i.invariant.many);
      begin = λ area stands first.
          begin_behind 32 cell_bytes (FitsCell c.args.cells c.args.nodes) (FreeCell 0 NONE)
          (length c.args.row.now) c.loop-i.i c.args.piece.now area c.loop-i.row c.in-Some.cell c.push.new.self stands
          (omega (arith, c.requires.inside, c.loop-i-test.true))
          (c.loop-i.invariant.begin area stands first) c.in-Some.ensures.found grown;
    }
