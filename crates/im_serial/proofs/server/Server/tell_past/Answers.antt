use Rattle.std.proofs.Common.{inr, rules}
use Rattle.im_serial.proofs.server.Server.tell_past.Goals as goal

pub returns-in-Err-note-clause-more : goal.returns-in-Err-note-clause-more
returns-in-Err-note-clause-more g c = inr (search rules)
