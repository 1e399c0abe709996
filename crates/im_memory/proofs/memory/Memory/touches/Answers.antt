use Rattle.std.proofs.Common.{rules}
use Rattle.im_memory.proofs.CoverLemmas.{covers-keeps}
use Rattle.im_memory.proofs.memory.Memory.touches.Goals as goal

pub returns-in-Request-clause-others : goal.returns-in-Request-clause-others
returns-in-Request-clause-others c = covers-keeps c.args.self.now c.args.command.now _ (search rules)
