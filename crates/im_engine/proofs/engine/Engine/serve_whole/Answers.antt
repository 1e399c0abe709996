use Rattle.std.proofs.Common.{sym}
use Rattle.im_groups.{proofs.WholeLemmas.whole-commands, specs.Commands.places}
use Rattle.im_engine.proofs.engine.Engine.serve_whole.Goals as goal

pub serve_judged-requires-clause-members : goal.serve_judged-requires-clause-members
serve_judged-requires-clause-members g c = record {
  few = c.requires.whole.few;
  whole = λ is. c.requires.whole;
  each = λ is. absurd (cc);
}

pub serve_judged-requires-clause-judged : goal.serve_judged-requires-clause-judged
serve_judged-requires-clause-judged g c = sym (whole-commands c.args.self.now.memory
    (places c.args.self.now.count c.args.self.now.room) c.args.members.now c.requires.whole.accepted
    c.requires.whole.enough)
