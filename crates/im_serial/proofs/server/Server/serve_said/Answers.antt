use Rattle.std.proofs.Common.{ap}
use Rattle.im_serial.{proofs.ScriptedLemmas.quiet, specs.Asked.wanted_by}
use Rattle.im_serial.proofs.server.Server.serve_said.Goals as goal

pub returns-in-Nothing : goal.returns-in-Nothing
returns-in-Nothing g c = record { served = quiet _ (wanted_by c.args.said) _ _ (ap wanted_by c.in-Nothing.is) }

pub returns-in-Begins : goal.returns-in-Begins
returns-in-Begins g c = record { served = quiet _ (wanted_by c.args.said) _ _ (ap wanted_by c.in-Begins.is) }
