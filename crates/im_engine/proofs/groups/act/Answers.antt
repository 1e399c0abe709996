use Rattle.im_engine.proofs.{Keeping.kept_prepared, Members.sizes_after}
use Rattle.im_engine.proofs.groups.act.Goals as goal

pub returns-clause-sizes : goal.returns-clause-sizes
returns-clause-sizes c = sizes_after c.args.checkpoint.now.state c.before-2.new.self.state c.args.memory.now.contents c.accept.new.self.contents c.args.command.now c.before-2.ensures.state c.accept.ensures.contents c.requires.sizes

pub returns-clause-kept : goal.returns-clause-kept
returns-clause-kept c = λ m j now kept. kept_prepared c.args.checkpoint.now c.before-2.new.self c.args.memory.now c.accept.new.self c.args.command.now c.before-2.ensures c.requires.sizes c.accept.ensures.changes m j now kept
