use Rattle.std.proofs.Common.{◌≡◌, ◌++◌, length}
use Rattle.im_run.specs.Doing.{glances_later, glances_told}
use Rattle.im_run.proofs.deeds.add_glances.Given as goal

abbrev pub invariant-loop-glanced : goal.invariant-loop-glanced
invariant-loop-glanced l = record {
  told : l.told.items ++ glances_told l.element l.behind l.rest
      ≡ l.fn.told.items ++ glances_told l.element l.behind l.initial.rest;
  later : glances_later l.behind l.rest ≡ glances_later l.behind l.initial.rest;
}

abbrev pub decreases-loop-glanced : goal.decreases-loop-glanced
decreases-loop-glanced l = length l.rest
