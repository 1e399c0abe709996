use Rattle.std.proofs.Common.{false, refl}
use Rattle.im_serial.proofs.OnceLemmas.{makes_plain}
use Rattle.im_serial.proofs.server.Server.meet_line.Goals as goal

pub returns-in-Ok-clause-passed : goal.returns-in-Ok-clause-passed
returns-in-Ok-clause-passed g c = c.in-Ok.ensures.passed (record {
  element = c.args.line.element;
  action = c.args.line.action;
  named = false;
}) refl

pub returns-in-Ok-clause-made : goal.returns-in-Ok-clause-made
returns-in-Ok-clause-made g c = makes_plain c.args.self.now.session.engine.memory c.args.past.now.many.items _ (record {
  element = c.args.line.element;
  action = c.args.line.action;
  named = false;
}) refl c.in-Ok.ensures.many

pub returns-in-Err-clause-passed : goal.returns-in-Err-clause-passed
returns-in-Err-clause-passed g c = c.in-Err.ensures.passed (record {
  element = c.args.line.element;
  action = c.args.line.action;
  named = false;
}) refl
