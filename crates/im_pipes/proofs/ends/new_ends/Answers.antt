use Rattle.std.proofs.Common.{rules}
use Rattle.im_pipes.proofs.RuleLemmas.{begins, forks}
use Rattle.im_pipes.proofs.ends.new_ends.Goals as goal

pub bounded_with-requires-clause-rule : goal.bounded_with-requires-clause-rule
bounded_with-requires-clause-rule g c = begins

pub another-receives-requires-clause-rule : goal.another-receives-requires-clause-rule
another-receives-requires-clause-rule g c = forks _ _ (search rules) (search rules)
